use Rattle.std.proofs.Common.{IsTrue, ◌↔◌, subst}
use Rattle.wy_kernel.specs.declared.types.Ty.{Ty}
use Rattle.wy_kernel.specs.View.{method_of}
use Rattle.wy_overloads.specs.LineageView.{lineage_of}
use Rattle.wy_members.specs.Within.{StandsWrongly}
use Rattle.wy_members.proofs.Alike.{wrongly_by_one}
use Rattle.wy_members.proofs.broken.overriding.inherits_alike_wrongly.Goals as goal

pub returns-in-Some : goal.returns-in-Some
returns-in-Some c =
    let t = lineage_of c.args.lineage.now in
    let n = method_of c.method.result.now in
    wrongly_by_one t c.args.c (method_of c.args.m.now) c.in-Some.j n _ c.method.ensures c.in-Some.ensures
    (subst (λ (ty : Ty). IsTrue c.stands_wrongly.result ↔ StandsWrongly t ty n) c.type_of_class.ensures c.stands_wrongly.ensures)
