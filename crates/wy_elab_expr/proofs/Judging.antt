-- What code finds by the rules, and what a judgement that is settled by them says.
use Rattle.std.proofs.Common.{◌≡◌, sym, ℕ, subst, refl, List, Result, Ok, Err}
use Rattle.wy_kernel.specs.declared.types.Ty.{Ty}
use Rattle.wy_kernel.specs.Table.{Table}
use Rattle.wy_constant.specs.declared.rule.Rule.{Rule}
use Rattle.wy_constant.specs.declared.rule.TypeError.{TypeError}
use Rattle.wy_constant.specs.declared.rule.TypeError.TheVariants.{Broken}
use Rattle.wy_constant.specs.Scope.{FixedText}
use Rattle.wy_overloads.specs.Choice.{Chosen, Refused}
use Rattle.wy_elab_expr.specs.Members.{of_choice}
use Rattle.wy_elab_expr.specs.Operators.{Judgement, Settles}
use Rattle.wy_elab_expr.specs.Views.{GetsTo}

pub chosen_by : (t : Table) (j : Judgement) → Settles t j → (ty : Ty) (name : List ℕ) (types : List Ty) (token : ℕ) (result : Result ℕ TypeError) (texts : List FixedText)
    (choice : Result ℕ Rule) → j.choice ty name types ≡ choice →
    ((m : ℕ) → Chosen t ty name types m → result ≡ Ok m) → ((rule : Rule) → Refused t ty name types rule → result ≡ Err (Broken rule token)) →
    GetsTo (λ k. k) result texts (of_choice choice token texts)
chosen_by t j h ty name types token result texts (Ok m) is chosen refusal =
    let e : result ≡ Ok m = chosen m ((h.chosen ty name types m).0 is) in
    let P : Result ℕ TypeError → Type 0 = λ r. GetsTo (λ k. k) r texts (of_choice (Ok m) token texts) in subst P (sym e) refl
chosen_by t j h ty name types token result texts (Err rule) is chosen refusal =
    let e : result ≡ Err (Broken rule token) = refusal rule ((h.refused ty name types rule).0 is) in
    let P : Result ℕ TypeError → Type 0 = λ r. GetsTo (λ k. k) r texts (of_choice (Err rule) token texts) in subst P (sym e) refl
