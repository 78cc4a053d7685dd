use Rattle.std.proofs.Common.{◌≡◌, ℕ, Some, map, sym, subst, ◌∙◌}
use Rattle.wy_kernel.specs.Program.{Method}
use Rattle.wy_kernel.specs.declared.types.MethodForm.TheVariants.{Constructor}
use Rattle.wy_kernel.specs.Subtyping.{class_type}
use Rattle.wy_kernel.specs.View.{method_of}
use Rattle.wy_table.specs.Methods.{Lists, IsConstructorOf}
use Rattle.wy_overloads.specs.LineageView.{lineage_of}
use Rattle.wy_overloads.proofs.Listed.{lists_fewer, lists_none, constructors_listed}
use Rattle.wy_overloads.proofs.lineage.Lineage.constructors_of.Goals as goal

pub returns-in-Some : goal.returns-in-Some
unfolding lineage_of
returns-in-Some c =
    let l = c.args.self.now in
    let ms = map method_of l.methods.now in
    let class = c.in-Some.class in
    let P : ℕ → Method → Type 0 = λ k m. (m.form ≡ Constructor) × (c.args.ty.now ≡ class_type m.class) in
    let narrower : (k : ℕ) (m : Method) → P k m → IsConstructorOf class m = λ k m p. (p.0, (let e : Some class ≡ Some m.class = sym c.in-Some.is ∙ c.class_of_type.ensures m.class p.1 in cc)) in
    subst (λ ns. Lists ms P ns) (sym c.constructors.ensures) (lists_fewer ms (λ k m. IsConstructorOf class m) P _ narrower (constructors_listed l.index.now ms l.is_index class))

pub returns-in-None : goal.returns-in-None
unfolding lineage_of
returns-in-None c = lists_none (map method_of c.args.self.now.methods.now) _ (λ k m p. (let e = sym c.in-None.is ∙ c.class_of_type.ensures m.class p.1 in absurd (cc)))
