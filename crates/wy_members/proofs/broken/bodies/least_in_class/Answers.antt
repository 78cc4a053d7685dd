use Rattle.std.proofs.Common.{List, map, subst}
use Rattle.wy_syntax.specs.declared.declaration.Member.{Member}
use Rattle.wy_syntax.specs.View.{class_of, member_of}
use Rattle.wy_members.specs.Least.{Among, IsLeast, nowhere}
use Rattle.wy_overloads.specs.LineageView.{lineage_of}
use Rattle.wy_members.specs.Within.{InClassNumbered, WrongBodyIn}
use Rattle.wy_members.proofs.Leasts.{like}
use Rattle.wy_overloads.proofs.Related.{untrue}
use Rattle.wy_members.proofs.broken.bodies.least_in_class.Goals as goal

pub returns-then-not-is_judged : goal.returns-then-not-is_judged
returns-then-not-is_judged c = nowhere (λ n wrong. untrue _ c.if-not-is_judged.true (c.is_judged.ensures.1 wrong.0))

pub returns : goal.returns
returns c =
    let k = class_of c.args.class.now in
    let Members = Among k.members (λ j m. WrongBodyIn k.is_interface m) in
    let judged = c.is_judged.ensures.0 c.if-not-is_judged.false in
    like Members (InClassNumbered (lineage_of c.args.judged.now.lineage.now).classes c.args.number k) _ (λ n m. (judged, m)) (λ n m. m.1)
    (subst (λ (ms : List Member). IsLeast (Among (map member_of ms) (λ j m. WrongBodyIn k.is_interface m)) c.least_in_members.result) c.deref.ensures.value c.least_in_members.ensures)
