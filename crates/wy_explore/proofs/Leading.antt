-- Where the question of an explorer and its cursor lead.
use Rattle.std.proofs.Common.{◌≡◌, ◌∙◌, ℕ, ◌<◌, List, sym, ap, subst}
use Rattle.std.specs.Prelude.{MatchOption, Option, Some}
use Rattle.std.specs.Prelude.{None as Absent}
use Rattle.std.specs.List.{Contains}
use Rattle.std.proofs.lemmas.Option.{same_Some}
use Rattle.wy_explore.specs.declared.explorer.Answered.{Answered}
use Rattle.wy_explore.specs.declared.explorer.Explorer.{Explorer}
use Rattle.wy_explore.specs.Explorer.{AllWithin, HoldsOf, IsWithin, Leads}
use Rattle.wy_explore.proofs.Searching.{below_end}

-- they lead to what is found among the events of the answer
pub leads_there : (to : List ℕ → ℕ → ℕ → Type 0) (x : Explorer) (asked : Answered) (cursor : ℕ) (events : List ℕ) (r : Option ℕ)
    → x.question ≡ Some asked → x.cursor ≡ Some cursor → events ≡ asked.answer.all.items
    → MatchOption r ((m : ℕ) → ¬ to events cursor m) (to events cursor) → MatchOption r ((event : ℕ) → ¬ Leads to x event) (Leads to x)
leads_there to x asked cursor events Absent asked_is cursor_is all none = λ event leads.
    let same = same_Some leads.asked asked (sym leads.asked_is ∙ asked_is) in
    let from = same_Some leads.cursor cursor (sym leads.cursor_is ∙ cursor_is) in
    none event (subst (λ xs. to xs cursor event) (ap (λ a. a.answer.all.items) same ∙ sym all) (subst (λ n. to leads.asked.answer.all.items n event) from leads.leads))
leads_there to x asked cursor events (Some event) asked_is cursor_is all leads = record {
  asked = asked;
  asked_is = asked_is;
  cursor = cursor;
  cursor_is = cursor_is;
  leads = subst (λ xs. to xs cursor event) all leads;
}

pub leads_within : (to : List ℕ → ℕ → ℕ → Type 0) → ((events : List ℕ) (n m : ℕ) → to events n m → Contains events m)
    → (x : Explorer) (count event : ℕ) → AllWithin count x → Leads to x event → event < count
leads_within to there x count event all leads =
    let within : IsWithin count leads.asked = subst (HoldsOf (IsWithin count)) leads.asked_is all.now in
    let (j, short, at) = there leads.asked.answer.all.items leads.cursor event leads.leads in
    subst (λ n. n < count) at (below_end 0 count leads.asked.answer.all.items within.1 j event short)
