use Rattle.std.proofs.Common.{◌≡◌, subst}
use Rattle.wy_kernel.specs.Subtyping.{class_type}
use Rattle.wy_kernel.specs.declared.types.MethodForm.TheVariants as kind
use Rattle.wy_kernel.specs.declared.types.Ty.{Ty}
use Rattle.wy_kernel.specs.Program.{Method}
use Rattle.wy_kernel.specs.View.{method_of}
use Rattle.wy_overloads.specs.LineageView.{lineage_of}
use Rattle.wy_table.specs.Methods.{Lists}
use Rattle.wy_overloads.specs.Choice.{IsMethod}
use Rattle.wy_members.specs.Alike.{IsEqualSought}
use Rattle.wy_overloads.proofs.Related.{untrue}
use Rattle.wy_members.proofs.Alike.{inherits_found}
use Rattle.wy_members.proofs.broken.overriding.inherited_where.Goals as goal

pub returns : goal.returns
returns c =
    let t = lineage_of c.args.lineage.now in
    let m = method_of c.args.m.now in
    let Found : Ty → Type 0 = λ ty. (other : Method) × IsMethod t c.in_ok-found.found other × IsEqualSought t ty c.args.only_abstract m other in
    let found : Found (class_type c.args.c) = subst Found c.type_of_class-class.ensures c.in_ok-found.ensures in
    let Constructors : Ty → Type 0 = λ ty. Lists t.methods (λ i x. (x.form ≡ kind.Constructor) × (ty ≡ class_type x.class)) c.constructors_of.result.now in
    let equal = found.2.1 in (
      found.0,
      found.1,
      (
        found.2.0,
        (equal.member.named, equal.same),
        inherits_found t c.args.c c.in_ok-found.found m found.0 c.alike_by_name.result.now c.constructors_of.result.now c.alike_by_name.ensures (subst Constructors c.type_of_class-class.ensures c.constructors_of.ensures)
            (λ s. untrue _ c.if-declares_among.false (c.declares_among.ensures.1 s)) (λ s. untrue _ c.if-declares_among-2.false (c.declares_among-2.ensures.1 s)) found.1 equal,
      ),
    )
