-- The records of every run are shaped, and so is its end.
use Rattle.std.proofs.Common.{◌+◌, arith, ◌≤◌, ◌≡◌, ℕ, zero, suc, false, List, [], ◌∷◌, ◌++◌, length, ◌⊎◌, inl, inr, ⊎_elim, Some, refl, sym, ap, ◌∙◌, subst, append-nil, append_assoc}
use Rattle.std.specs.Prelude.{slice_get}
use Rattle.std.proofs.lemmas.List.{map-append, length-map, length-reverse}
use mathlib.Core.List.{map, reverse, reverse-cons}
use Rattle.wy_kernel.specs.Program.{Program}
use Rattle.wy_event.specs.Record.{Recorded}
use Rattle.wy_steps.specs.Sets.{Sets}
use Rattle.wy_steps.specs.State.{Carried, Noted, Covered, Stop, InitFailed, Reason, Jumped, Returned, Threw, Outcome, Done, Left, Stopped}
use Rattle.wy_kernel.specs.Limits.{event_limit, depth_limit}
use Rattle.wy_meaning.specs.Run.{output, world, main_run, start, outcome, end, covers, tail_of, tail, last_of, last_of_reason, last_of_stop, history, events}
use Rattle.law_shaped.specs.Shaped.{uses_in, CountsAreShaped, IsThrow, OptionBelow, Shaped, CoverFits, RecordsAreShaped, CoverageIsShaped, LastIsShaped}
use Rattle.law_shaped.proofs.Fits.{used_by, IsFront, Inv, NotedFit, StopFits, cover_start}
use Rattle.law_induction.specs.Law.{both}
use Rattle.law_shaped.proofs.Instance.{reason_fits, Given, run_shaped, run_balanced}

slice_get_seam : {X : Type 0} (xs : List X) (y : X) (ys : List X) → slice_get (xs ++ y ∷ ys) (length xs) ≡ Some y
slice_get_seam [] y ys = refl
slice_get_seam (x ∷ xs) y ys = slice_get_seam xs y ys

slice_get_snoc : {X : Type 0} (xs : List X) (y : X) (n : ℕ) (z : X) → slice_get (xs ++ y ∷ []) n ≡ Some z → (slice_get xs n ≡ Some z) ⊎ ((n ≡ length xs) × (y ≡ z))
slice_get_snoc [] y zero z e = inr (refl, cc)
slice_get_snoc [] y (suc n) z e = absurd (cc)
slice_get_snoc (x ∷ xs) y zero z e = inl e
slice_get_snoc (x ∷ xs) y (suc n) z e = ⊎_elim (λ h. inl h) (λ h. inr (ap suc h.0, h.1)) (slice_get_snoc xs y n z e)

module _ (A : Sets) where
  -- the events in the order of time
  in_order : List (Noted A) → List Recorded
  in_order noted = map (λ e. e.event) (reverse noted)

  in_order-cons : (e : Noted A) (rest : List (Noted A)) → in_order (e ∷ rest) ≡ in_order rest ++ e.event ∷ []
  unfolding in_order
  in_order-cons e rest = ap (map (λ (x : Noted A). x.event)) (reverse-cons e rest) ∙ map-append (λ (x : Noted A). x.event) (reverse rest) (e ∷ [])

  length-in_order : (noted : List (Noted A)) → length (in_order noted) ≡ length noted
  unfolding in_order
  length-in_order noted = length-map (reverse noted) (λ e. e.event) ∙ length-reverse noted

  front_of : (noted : List (Noted A)) (later : List Recorded) → IsFront A (in_order noted ++ later) noted
  front_of [] later = tt
  front_of (e ∷ rest) later =
      let e1 = ap (λ l. l ++ later) (in_order-cons e rest) ∙ append_assoc (in_order rest) (e.event ∷ []) later in (
        rw (e1, ← length-in_order rest) (slice_get_seam (in_order rest) e.event later),
        subst (λ l. IsFront A l rest) (sym e1) (front_of rest (e.event ∷ later)),
      )

  uses_in-snoc : (es : List Recorded) (e : Recorded) → uses_in (es ++ e ∷ []) ≡ uses_in es + length e.uses
  uses_in-snoc [] e = omega arith
  uses_in-snoc (x ∷ es) e = let h = uses_in-snoc es e in omega (arith, h)

  uses_in_order : (noted : List (Noted A)) → uses_in (in_order noted) ≡ used_by A (in_order noted) noted
  unfolding in_order
  uses_in_order [] = refl
  uses_in_order (e ∷ rest) = ap uses_in (in_order-cons e rest) ∙ uses_in-snoc (in_order rest) e.event ∙ ap (λ n. n + length e.event.uses) (uses_in_order rest)

  start_fits : (all : List Recorded) (input : List ℕ) (budget : ℕ) → Inv A all false (start input budget)
  unfolding start
  start_fits all input budget = record { store = λ x. tt; noted = tt; active = tt; framed = tt; count = omega arith; used = refl; room = omega arith; written = omega arith; coverage = λ k. cover_start all 0 }

module _ (A : Sets) (records : List Recorded) where
  each_shaped : (noted : List (Noted A)) → NotedFit A records noted → (n : ℕ) (e : Recorded) → slice_get (in_order A noted) n ≡ Some e → Shaped records n e
  unfolding in_order
  each_shaped [] h n e there = absurd (cc)
  each_shaped (x ∷ rest) h n e there =
      ⊎_elim
      (λ found. each_shaped rest h.1 n e found)
      (λ last. let m : n ≡ length rest = last.0 ∙ length-in_order A rest in
      subst (λ (r : Recorded). Shaped records n r) last.1 (subst (λ k. Shaped records k x.event) (sym m) h.0))
      (slice_get_snoc (in_order A rest) x.event n e (subst (λ (l : List Recorded). slice_get l n ≡ Some e) (in_order-cons A x rest) there))

  each_covered : (Q : Covered → Type 0) (f : ℕ → Covered) → ((k : ℕ) → Q (f k)) → (n i k : ℕ) (c : Covered) → slice_get (covers f i n) k ≡ Some c → Q c
  unfolding covers
  each_covered Q f h zero i k c there = absurd (cc)
  each_covered Q f h (suc n) i zero c there = let e : f i ≡ c = cc in subst Q e (h i)
  each_covered Q f h (suc n) i (suc k) c there = each_covered Q f h n (suc i) k c there

  last_of_reason_below : (n : ℕ) (why : Reason A) → (reason_fits A records why).holds n → OptionBelow records IsThrow n (last_of_reason why)
  unfolding last_of_reason both
  last_of_reason_below n (Jumped target e) h = tt
  last_of_reason_below n (Returned e v) h = tt
  last_of_reason_below n (Threw e v) h = h.0

  last_of_stop_below : (n : ℕ) (why : Stop) → StopFits A records n why → OptionBelow records IsThrow n (last_of_stop why)
  unfolding last_of_stop
  last_of_stop_below n (InitFailed last) h = h
  last_of_stop_below n _ h = tt

  last_below : (o : Outcome A (Carried A)) → Given A records o → OptionBelow records IsThrow (length (end o).noted) (last_of o)
  unfolding last_of end
  last_below (Done x s) h = tt
  last_below (Left why s) h = last_of_reason_below (length s.noted) why h
  last_below (Stopped why s) h = last_of_stop_below (length s.noted) why h

module _ (A : Sets) (p : Program) (input : List ℕ) (budget : ℕ) where
  ends : Outcome A (Carried A)
  ends = outcome {A = A} p input budget

  all_events : List Recorded
  all_events = in_order A (end ends).noted

  -- the invariant at the end, with the records of the whole run
  at_end : Inv A all_events false (end ends)
  unfolding outcome all_events ends
  at_end =
      let final = (end (main_run (world {A = A} p depth_limit) (start input budget))).noted in
      let front = subst (λ l. IsFront A l final) (append-nil (in_order A final)) (front_of A final []) in
      (run_shaped A (in_order A final) p (start input budget) front (start_fits A (in_order A final) input budget)).0

  returned_at_end : Given A all_events ends
  unfolding outcome all_events ends
  returned_at_end =
      let final = (end (main_run (world {A = A} p depth_limit) (start input budget))).noted in
      let front = subst (λ l. IsFront A l final) (append-nil (in_order A final)) (front_of A final []) in
      (run_shaped A (in_order A final) p (start input budget) front (start_fits A (in_order A final) input budget)).1

  -- no statement ended more often than it began
  balanced_at_end : (k : ℕ) → ((end ends).coverage k).ends ≤ ((end ends).coverage k).begins
  unfolding outcome ends start
  balanced_at_end k =
      let final = (end (main_run (world {A = A} p depth_limit) (start input budget))).noted in
      let h = (run_balanced A (in_order A final) p (start input budget)).at k in
      omega (arith, h)

  count : length (end ends).noted ≡ length all_events
  unfolding all_events
  count = sym (length-in_order A (end ends).noted)

  pub counts_are_shaped : CountsAreShaped A p input budget
  unfolding events history output in_order all_events ends tail tail_of
  counts_are_shaped = (subst (λ n. n ≤ event_limit) count at_end.count, count, at_end.used ∙ sym (uses_in_order A (end ends).noted), at_end.room, refl, at_end.written)

  pub records_are_shaped : RecordsAreShaped A p input budget
  unfolding events history in_order all_events ends
  records_are_shaped n e there = each_shaped A all_events _ at_end.noted n e there

  pub coverage_is_shaped : CoverageIsShaped A p input budget
  unfolding events history in_order all_events ends tail tail_of
  coverage_is_shaped number c there =
      each_covered A all_events (λ c. CoverFits all_events (length all_events) c × c.ends ≤ c.begins) (end ends).coverage
      (λ k. (subst (λ m. CoverFits all_events m ((end ends).coverage k)) count (at_end.coverage k), balanced_at_end k)) p.statements 0 number c there

  pub last_is_shaped : LastIsShaped A p input budget
  unfolding events history in_order all_events ends tail tail_of
  last_is_shaped = subst (λ m. OptionBelow all_events IsThrow m (last_of ends)) count (last_below A all_events ends returned_at_end)
