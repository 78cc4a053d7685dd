use Rattle.std.proofs.Common.{ℕ, ◌≤◌, length, arith, subst, eq-eqb, ltb-true}
use Rattle.wy_overloads.specs.LineageView.{lineage_of}
use Rattle.wy_kernel.specs.Subtyping.{Supertype, itself}
use Rattle.wy_overloads.proofs.Related.{both, neither, beyond}
use Rattle.wy_overloads.proofs.subtyping.is_supertype.Goals as goal

pub returns-then-a-b : goal.returns-then-a-b
returns-then-a-b c =
    let P : ℕ → Type 0 = λ n. Supertype (lineage_of c.args.lineage.now).classes c.args.a n in
    both _ (eq-eqb c.args.a c.args.b c.if-a-b.true) (subst P c.if-a-b.true itself)

pub returns-else-a-classes : goal.returns-else-a-classes
returns-else-a-classes c =
    let beyond_all : length (lineage_of c.args.lineage.now).classes ≤ c.args.a = omega (arith, c.classes.ensures) in
    neither _ (λ t. omega (arith, ltb-true c.args.a c.classes.result t)) (λ s. c.if-a-b.false (beyond (lineage_of c.args.lineage.now).classes beyond_all s))
