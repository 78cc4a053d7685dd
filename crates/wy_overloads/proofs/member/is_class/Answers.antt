use Rattle.std.proofs.Common.{◌≤◌, length, arith, ltb-true}
use Rattle.wy_overloads.specs.LineageView.{lineage_of}
use Rattle.wy_overloads.proofs.Related.{neither}
use Rattle.wy_overloads.proofs.Members.{no_class_beyond}
use Rattle.wy_overloads.proofs.member.is_class.Goals as goal

pub returns-else-class-classes : goal.returns-else-class-classes
returns-else-class-classes c =
    let beyond : length (lineage_of c.args.lineage.now).classes ≤ c.args.class = omega (arith, c.if-class-classes.false, c.classes.ensures) in
    neither _ (λ t. omega (arith, ltb-true c.args.class c.classes.result t, c.if-class-classes.false)) (no_class_beyond _ _ beyond)
