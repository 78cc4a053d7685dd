-- Two judgements of one table are one.
use Rattle.std.proofs.Common.{◌≡◌, ℕ, List, Result, Ok, Err, refl, sym}
use Rattle.std.proofs.lemmas.Bool.Decides.{same_from_decides}
use Rattle.wy_kernel.specs.declared.types.Ty.{Ty}
use Rattle.wy_kernel.specs.Table.{Table}
use Rattle.wy_constant.specs.declared.rule.Rule.{Rule}
use Rattle.wy_elab_expr.specs.Operators.{Judgement, Settles}
use Rattle.law_judgement.specs.Laws.{OneJudgement}

same_choice : (t : Table) (j k : Judgement) → Settles t j → Settles t k → (type : Ty) (name : List ℕ) (arguments : List Ty) (r : Result ℕ Rule) → j.choice type name arguments ≡ r → r ≡ k.choice type name arguments
same_choice t j k h i type name arguments (Ok m) e = sym ((i.chosen type name arguments m).1 ((h.chosen type name arguments m).0 e))
same_choice t j k h i type name arguments (Err rule) e = sym ((i.refused type name arguments rule).1 ((h.refused type name arguments rule).0 e))

pub one : OneJudgement
one t j k h i = λ x. record {
  below = λ a b. same_from_decides (j.below a b) (k.below a b) (h.below a b) (i.below a b) x;
  choice = λ type name arguments. same_choice t j k h i type name arguments (j.choice type name arguments) refl x;
}
