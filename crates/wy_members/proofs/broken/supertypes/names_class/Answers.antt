use Rattle.std.proofs.Common.{refl}
use Rattle.wy_syntax.specs.View.{named_of}
use Rattle.wy_overloads.specs.LineageView.{lineage_of}
use Rattle.wy_members.specs.Names.{unit_of}
use Rattle.wy_members.specs.Within.{NamesClass}
use Rattle.wy_members.proofs.Leasts.{at_place, seen_up_to, seen_within}
use Rattle.wy_overloads.proofs.Related.{both, not_below, untrue}
use Rattle.wy_members.proofs.broken.supertypes.names_class.Goals as goal

pub returns-then-is_name_of_class : goal.returns-then-is_name_of_class
returns-then-is_name_of_class c =
    both _ refl (c.loop-name.name-index, named_of c.name-item.result, at_place named_of c.args.written.now c.loop-name.name-index c.name-item.result c.loop-name-test.true c.name-item.is, c.is_name_of_class.ensures.0 c.if-is_name_of_class.true)

pub loop-name-preserved : goal.loop-name-preserved
loop-name-preserved c =
    seen_up_to named_of (λ name. NamesClass (unit_of c.args.names.now) (lineage_of c.args.lineage.now).classes name → ⊥) c.args.written.now c.loop-name.name-index c.name-item.result c.loop-name-test.true c.name-item.is c.loop-name.invariant
    (λ named. untrue _ c.if-is_name_of_class.false (c.is_name_of_class.ensures.1 named))

pub returns : goal.returns
returns c = not_below (λ s. c.loop-name.invariant s.0 s.1 (seen_within named_of c.args.written.now c.loop-name.name-index s.0 s.1 c.loop-name-test.false s.2) s.2 s.3)
