-- A walk through the prints of a run.
use Rattle.std.proofs.Common.{◌≡◌, ◌∙◌, ◌<◌, ◌≤◌, ◌+◌, ◌-◌, ◌==◌, ℕ, Bool, true, not, List, [], ◌∷◌, ◌++◌, Some, ⊎_elim, length, take, drop, refl, slice_get, subst, sym, ap, arith}
use Rattle.std.specs.List.{flat_map, starts_with}
use Rattle.std.proofs.Math.Seq.{drop-append_seam, take-append_seam}
use Rattle.std.proofs.lemmas.Bool.Decides.{Decides-eqb}
use Rattle.std.proofs.lemmas.List.{append_assoc, drop-append-le, length-append, length-take-le, take-append-drop, take_rest}
use Rattle.std.proofs.lemmas.List.Elements.{filter-append}
use Rattle.std.proofs.lemmas.Slice.Eq.{starts_is}
use Rattle.std.proofs.lemmas.Option.{slice_get_cases}
use Rattle.wy_event.specs.Record.{Recorded}
use Rattle.wy_telling.proofs.Prints.{one_more as more_printed, one_record}
use Rattle.wy_kernel.specs.Program.{Program}
use Rattle.wy_telling.specs.Printed.{printed_by}
use Rattle.wy_expect.specs.Expected.{Begins, printed_below, without_returns}

pub record_at : (rs : List Recorded) (n : ℕ) → n < length rs → (e : Recorded) × (slice_get rs n ≡ Some e)
record_at rs n lt = ⊎_elim (λ h. (h.0, h.2)) (λ h. absurd (omega (arith, lt, h.0))) (slice_get_cases rs n).1

-- what one event more printed
pub one_more : (f : Recorded → List ℕ) (rs : List Recorded) (n : ℕ) (before after : List ℕ) → n < length rs
    → before ≡ without_returns (flat_map f (take n rs)) → ((e : Recorded) → slice_get rs n ≡ Some e → after ≡ before ++ without_returns (f e)) → after ≡ without_returns (flat_map f (take (n + 1) rs))
one_more f rs n before after lt is more =
    let (e, at) = record_at rs n lt in
    let printed : List ℕ = flat_map f (take n rs) in
    more e at ∙ ap (λ xs. xs ++ without_returns (f e)) is ∙ sym (filter-append (λ b. not (b == 13)) printed (f e))
    ∙ ap without_returns (more_printed f rs n printed (printed ++ f e) lt refl (λ x here. ap (λ r. printed ++ f r) (one_record (slice_get rs n) e x at here)))

-- what was put behind what the events below n printed, of records that stay
module _ (p : Program) (rs now : List Recorded) (n : ℕ) (before after : List ℕ) (same : now ≡ rs) (lt : n < length rs) (more : (e : Recorded) → slice_get now n ≡ Some e → after ≡ before ++ without_returns (printed_by p now e)) where
  of_rs : (e : Recorded) → slice_get rs n ≡ Some e → after ≡ before ++ without_returns (printed_by p rs e)
  of_rs = subst (λ xs. (e : Recorded) → slice_get xs n ≡ Some e → after ≡ before ++ without_returns (printed_by p xs e)) same more

  put_behind : (x : List ℕ) × (after ≡ before ++ x)
  put_behind = let (e, at) = record_at rs n lt in (without_returns (printed_by p rs e), of_rs e at)

  pub put_on : before ≡ printed_below p rs n → after ≡ printed_below p rs (n + 1)
  put_on is = one_more (printed_by p rs) rs n before after lt is of_rs

  pub put_inside : length before ≤ length after
  put_inside = omega (arith, ap length put_behind.1, length-append before put_behind.0)

  pub put_front : take (length before) after ≡ before
  put_front = ap (take (length before)) put_behind.1 ∙ take-append_seam before put_behind.0

-- ---- beginnings

pub begins : (front text : List ℕ) (r : Bool) → r ≡ starts_with (λ a b. a == b) text front → (r ≡ true → Begins front text) × (Begins front text → r ≡ true)
begins front text r is =
    let found = starts_is (λ a b. Decides-eqb a b) text front r is in
    (λ so. (drop (length front) text, found.0 so), λ begun. found.1 begun.0 begun.1)

-- all but the last of what was printed begins what is expected
module _ (printed expected : List ℕ) (before : ℕ) (inside : before ≤ length printed) (begun : Begins (take before printed) expected) where
  rest_is : drop before expected ≡ begun.0
  rest_is =
      ap (drop before) begun.1 ∙ ap (λ k. drop k (take before printed ++ begun.0)) (sym (length-take-le before printed inside))
      ∙ drop-append_seam (take before printed) begun.0

  whole : (more : List ℕ) → drop before expected ≡ drop before printed ++ more → expected ≡ printed ++ more
  whole more is =
      begun.1 ∙ ap (λ xs. take before printed ++ xs) (sym rest_is ∙ is) ∙ sym (append_assoc (take before printed) (drop before printed) more)
      ∙ ap (λ xs. xs ++ more) (take-append-drop before printed)

  pub goes_on : Begins (take (length printed - before) (drop before printed)) (take (length expected - before) (drop before expected)) → Begins printed expected
  goes_on next = (next.0, whole next.0 (sym (take_rest expected before) ∙ next.1 ∙ ap (λ xs. xs ++ next.0) (take_rest printed before)))

  pub went_on : Begins printed expected → Begins (take (length printed - before) (drop before printed)) (take (length expected - before) (drop before expected))
  went_on all = (
    all.0,
    take_rest expected before ∙ ap (drop before) all.1 ∙ drop-append-le before printed all.0 inside ∙ ap (λ xs. xs ++ all.0) (sym (take_rest printed before)),
  )
