-- The judgement of a table.
use Rattle.std.proofs.Common.{◌≡◌, ℕ, List, Result, Ok, Err, ap, subst, inl, inr, ◌↔◌}
use Rattle.wy_kernel.specs.declared.types.Ty.{Ty}
use Rattle.wy_kernel.specs.Table.{Table, IsTable, KeepsSupertypes}
use Rattle.wy_constant.specs.declared.rule.Rule.{Rule}
use Rattle.wy_constant.specs.declared.rule.Rule.TheVariants as rule
use Rattle.wy_overloads.specs.Choice.{Chosen, Refused, SomeApplies, IsNotOffered}
use Rattle.wy_overloads.proofs.Related.{top_of}
use Rattle.wy_overloads.proofs.Unique.{one_chosen_in, none_chosen_and_refused, one_rule}
use Rattle.wy_elab_expr.specs.Operators.{Judgement, Settles}
use Rattle.law_judgement.proofs.Decided.{Decided, test_of, test_exact}
use Rattle.law_judgement.proofs.Types.{DecidesBelow, below}
use Rattle.law_judgement.proofs.Methods.{some_chosen, some_applies, not_offered}

-- what a call means, or by which rule it is refused
data Finding (t : Table) (type : Ty) (name : List ℕ) (arguments : List Ty) : Type 0 where
  means : (k : ℕ) → Chosen t type name arguments k → Finding t type name arguments
  refused_by : (r : Rule) → Refused t type name arguments r → Finding t type name arguments

none_applies : (t : Table) (type : Ty) (name : List ℕ) (arguments : List Ty) → (SomeApplies t type name arguments → ⊥) → Decided (IsNotOffered t type name) → Finding t type name arguments
none_applies t type name arguments none (inl offered) = refused_by rule.NotOffered offered
none_applies t type name arguments none (inr offered) = refused_by rule.NoMethod (none, offered)

none_chosen : (t : Table) → DecidesBelow t.classes → (type : Ty) (name : List ℕ) (arguments : List Ty) → ((k : ℕ) × Chosen t type name arguments k → ⊥) →
    Decided (SomeApplies t type name arguments) → Finding t type name arguments
none_chosen t d type name arguments none (inl some) = refused_by rule.Ambiguous (some, λ k h. none (k, h))
none_chosen t d type name arguments none (inr nothing) = none_applies t type name arguments nothing (not_offered t d type name)

found : (t : Table) → DecidesBelow t.classes → (type : Ty) (name : List ℕ) (arguments : List Ty) → Decided ((k : ℕ) × Chosen t type name arguments k) → Finding t type name arguments
found t d type name arguments (inl h) = means h.0 h.1
found t d type name arguments (inr none) = none_chosen t d type name arguments none (some_applies t d type name arguments)

unfoldable outcome : {t : Table} {type : Ty} {name : List ℕ} {arguments : List Ty} → Finding t type name arguments → Result ℕ Rule
outcome (means k h) = Ok k
outcome (refused_by r h) = Err r

means_exactly : (t : Table) (type : Ty) (name : List ℕ) (arguments : List Ty) → ∥ IsTable t ∥₁ → (f : Finding t type name arguments) (m : ℕ) → (outcome f ≡ Ok m) ↔ Chosen t type name arguments m
unfolding outcome
means_exactly t type name arguments g (means k h) m = (
  λ e. (let same : k ≡ m = cc in let P : ℕ → Type 0 = λ n. Chosen t type name arguments n in subst P same h),
  λ c. ap (λ n. Ok n) (one_chosen_in t type name arguments k m g h c),
)
means_exactly t type name arguments g (refused_by r h) m = (λ e. let no : ⊥ = cc in absurd no, λ c. absurd (none_chosen_and_refused t type name arguments m r c h))

refuses_exactly : (t : Table) (type : Ty) (name : List ℕ) (arguments : List Ty) → (f : Finding t type name arguments) (r : Rule) → (outcome f ≡ Err r) ↔ Refused t type name arguments r
unfolding outcome
refuses_exactly t type name arguments (means k h) r = (λ e. let no : ⊥ = cc in absurd no, λ c. absurd (none_chosen_and_refused t type name arguments k r h c))
refuses_exactly t type name arguments (refused_by s h) r = (
  λ e. (let same : s ≡ r = cc in let P : Rule → Type 0 = λ x. Refused t type name arguments x in subst P same h),
  λ c. ap (λ x. Err x) (one_rule t type name arguments s r h c),
)

finding : (t : Table) → DecidesBelow t.classes → (type : Ty) (name : List ℕ) (arguments : List Ty) → Finding t type name arguments
finding t d type name arguments = found t d type name arguments (some_chosen t d type name arguments)

judged_by : (t : Table) → ∥ IsTable t ∥₁ → DecidesBelow t.classes → (j : Judgement) × Settles t j
judged_by t g d = (
  record { below = λ a b. test_of (d a b); choice = λ type name arguments. outcome (finding t d type name arguments) },
  record {
    below = λ a b. test_exact (d a b);
    chosen = λ type name arguments m. means_exactly t type name arguments g (finding t d type name arguments) m;
    refused = λ type name arguments r. refuses_exactly t type name arguments (finding t d type name arguments) r;
  },
)

pub judged : (t : Table) (rows : List (List ℕ)) → ∥ IsTable t ∥₁ → ∥ KeepsSupertypes t.classes rows ∥₁ → (j : Judgement) × Settles t j
judged t rows g k = judged_by t g (below t.classes rows (record { top = top_of t g; keeps = k }))
