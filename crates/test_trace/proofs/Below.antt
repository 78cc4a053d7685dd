-- One more that refers below.
use Rattle.std.proofs.Common.{◌≡◌, ◌+◌, ◌<◌, ◌≤◌, ℕ, List, [], ◌∷◌, ◌++◌, length, take, get_or, Some, sym, ap, ◌∙◌, subst, ⊎_elim, arith}
use Rattle.std.specs.Prelude.{slice_get}
use Rattle.std.proofs.lemmas.Bool.{cases_lt}
use Rattle.std.proofs.lemmas.List.{take_more}
use Rattle.std.proofs.lemmas.Option.{get_or_from_slice_get}
use Rattle.wy_event.specs.declared.record.Use.{Use}
use Rattle.wy_event.specs.declared.record.Event.{Event}
use Rattle.wy_event.specs.Record.{recorded}
use Rattle.wy_view.specs.References.{UseBelow, UsesBelow, RefersBelow}

uses_and : (n : ℕ) (us : List Use) (u : Use) → UsesBelow n us → UseBelow n u → UsesBelow n (us ++ u ∷ [])
uses_and n [] u all one = (one, tt)
uses_and n (v ∷ us) u all one = (all.0, uses_and n us u all.1 one)

pub one_use_more : (n : ℕ) (us : List Use) (i : ℕ) (d : Use) → i < length us → UsesBelow n (take i us) → UseBelow n (get_or us i d) → UsesBelow n (take (i + 1) us)
one_use_more n us i d lt all one = subst (UsesBelow n) (sym (take_more us i d lt)) (uses_and n (take i us) (get_or us i d) all one)

pub one_event_more : (events : List Event) (n : ℕ) (e : Event) → e ≡ get_or events n e → ((k : ℕ) (f : Event) → k < n → slice_get events k ≡ Some f → RefersBelow k (recorded f)) → RefersBelow n (recorded e)
    → (k : ℕ) (f : Event) → k < n + 1 → slice_get events k ≡ Some f → RefersBelow k (recorded f)
one_event_more events n e is all one k f lt at = ⊎_elim
    (λ (below : k < n). all k f below at)
    (λ (ge : n ≤ k).
    let here : k ≡ n = omega (arith, lt, ge) in
    let same : e ≡ f = is ∙ ap (λ m. get_or events m e) (sym here) ∙ get_or_from_slice_get events k f e at in
    subst (λ m. RefersBelow m (recorded f)) (sym here) (subst (λ g. RefersBelow n (recorded g)) same one))
    (cases_lt k n)
