-- What the store of every run last had in a slot is what its records give.
use Rattle.std.proofs.Common.{◌≡◌, ℕ, zero, suc, true, ◌≤◌, List, [], ◌∷◌, ◌++◌, length, ◌⊎◌, inl, inr, ⊎_elim, Option, Some, refl, sym, ap, ◌∙◌, subst, append-nil, append_assoc, arith}
use Rattle.std.specs.Prelude.{None as Absent}
use Rattle.std.specs.Prelude.{slice_get, option_map}
use Rattle.std.proofs.lemmas.Option.{slice_get-map}
use Rattle.std.proofs.lemmas.List.{map-append, length-map, length-reverse}
use mathlib.Core.List.{map, reverse, reverse-cons}
use Rattle.wy_kernel.specs.Program.{Program}
use Rattle.wy_value.specs.declared.value.Value.{Value}
use Rattle.wy_value.specs.declared.value.Value.TheVariants.{None as Nothing, Object}
use Rattle.wy_event.specs.declared.record.Kind.{Kind}
use Rattle.wy_event.specs.declared.record.Kind.TheVariants as kind
use Rattle.wy_event.specs.declared.record.Slot.{Slot}
use Rattle.wy_event.specs.Record.{Recorded}
use Rattle.wy_event.specs.Sources.{is_write, or_else, written, creation, last_write}
use Rattle.wy_steps.specs.Sets.{Sets}
use Rattle.wy_steps.specs.State.{Held, Store, Noted}
use Rattle.wy_kernel.specs.Limits.{depth_limit}
use Rattle.wy_steps.specs.Steps.{owner_in, held_of}
use Rattle.wy_meaning.specs.Run.{world, main_run, start, outcome, end, history, events, final_store}
use Rattle.law_in_range.specs.InRange.{Events, IsSome, IsThrown, RunsAreInRange, Text, ValueInRange}
use Rattle.wy_travel.specs.Held.{given_at, held}
use Rattle.law_held.specs.Last.{store_after, value_in, value_after, or_before, last_had, store_before, stored_before, StoreHasHeld, StoresHaveHeld, HeldWasLastHad}
use Rattle.law_held.proofs.Stores.{StoreHolds, given_none, holds_value, Changes, writes_it, creates_it, leaves_it, changes}
use Rattle.law_held.proofs.Instance.{AreFirst, AllHold, Inv, run_holds}

-- ---- values

or_before_same : (v earlier : Value) → earlier ≡ v → or_before v earlier ≡ v
unfolding or_before
or_before_same Nothing earlier h = h
or_before_same _ earlier h = refl

or_before_nothing : (v : Value) → or_before v Nothing ≡ v
unfolding or_before
or_before_nothing Nothing = refl
or_before_nothing _ = refl

or_before_some : (v earlier : Value) → IsSome v → or_before v earlier ≡ v
unfolding or_before
or_before_some Nothing earlier h = absurd h
or_before_some _ earlier h = refl

or_before_either : (v earlier given : Value) → (v ≡ Nothing) ⊎ (v ≡ given) → earlier ≡ given → or_before v earlier ≡ given
unfolding or_before
or_before_either v earlier given (inl none) same = ap (λ u. or_before u earlier) none ∙ same
or_before_either v earlier given (inr is) same = or_before_same v earlier (same ∙ sym is) ∙ is

-- what is written is a value
write_has_value : (at : Events) (k : Kind) (entity : Option ℕ) (v : Value) → is_write k ≡ true → ValueInRange at k entity v → IsSome v
unfolding is_write
write_has_value at kind.Bind entity v w h = h
write_has_value at kind.Set entity v w h = h
write_has_value at kind.Catch entity v w h = thrown at v h
  where
    thrown : (at : Events) (v : Value) → IsThrown at v → IsSome v
    thrown at (Object n) h = tt
    thrown at _ h = absurd h
write_has_value at _ entity v w h = absurd (cc)

-- ---- the order of time

slice_get_seam : {X : Type 0} (xs : List X) (y : X) (ys : List X) → slice_get (xs ++ y ∷ ys) (length xs) ≡ Some y
slice_get_seam [] y ys = refl
slice_get_seam (x ∷ xs) y ys = slice_get_seam xs y ys

slice_get_snoc : {X : Type 0} (xs : List X) (y : X) (n : ℕ) (z : X) → slice_get (xs ++ y ∷ []) n ≡ Some z → (slice_get xs n ≡ Some z) ⊎ ((n ≡ length xs) × (y ≡ z))
slice_get_snoc [] y zero z e = inr (refl, cc)
slice_get_snoc [] y (suc n) z e = absurd (cc)
slice_get_snoc (x ∷ xs) y zero z e = inl e
slice_get_snoc (x ∷ xs) y (suc n) z e = ⊎_elim (λ h. inl h) (λ h. inr (ap suc h.0, h.1)) (slice_get_snoc xs y n z e)

module _ (A : Sets) where
  in_order : List (Noted A) → List Recorded
  in_order noted = map (λ e. e.event) (reverse noted)

  in_order-cons : (e : Noted A) (rest : List (Noted A)) → in_order (e ∷ rest) ≡ in_order rest ++ e.event ∷ []
  unfolding in_order
  in_order-cons e rest = ap (map (λ (x : Noted A). x.event)) (reverse-cons e rest) ∙ map-append (λ (x : Noted A). x.event) (reverse rest) (e ∷ [])

  length-in_order : (noted : List (Noted A)) → length (in_order noted) ≡ length noted
  unfolding in_order
  length-in_order noted = length-map (reverse noted) (λ e. e.event) ∙ length-reverse noted

module _ (A : Sets) (p : Program) where
  are_first : (noted : List (Noted A)) (later : List Recorded) → AreFirst A p (in_order A noted ++ later) noted
  are_first [] later = tt
  are_first (e ∷ rest) later =
      let e1 = ap (λ l. l ++ later) (in_order-cons A e rest) ∙ append_assoc (in_order A rest) (e.event ∷ []) later in (
        rw (e1, ← length-in_order A rest) (slice_get_seam (in_order A rest) e.event later),
        subst (λ l. AreFirst A p l rest) (sym e1) (are_first rest (e.event ∷ later)),
      )

  start_holds : (rs : List Recorded) (input : List ℕ) (budget : ℕ) → Inv A p rs (start input budget).noted (start input budget).store
  unfolding start last_write written creation or_else
  start_holds rs input budget = record { store_holds = λ x. tt; all_hold = tt }

module _ (A : Sets) (p : Program) (rs : List Recorded) where
  each_holds : (noted : List (Noted A)) → AllHold A p rs noted → (n : ℕ) (e : Noted A) → slice_get (reverse noted) n ≡ Some e → StoreHolds A p rs e.before n
  each_holds [] h n e is = absurd (cc)
  each_holds (x ∷ rest) h n e is =
      ⊎_elim
      (λ found. each_holds rest h.1 n e found)
      (λ last. let m : n ≡ length rest = last.0 ∙ length-reverse rest in
      subst (λ (v : Noted A). StoreHolds A p rs v.before n) last.1 (subst (λ k. StoreHolds A p rs x.before k) (sym m) h.0))
      (slice_get_snoc (reverse rest) x n e (rw (reverse-cons x rest) at is))

  -- ---- one event

  nothing_held : (x : Slot) → held p rs x zero ≡ Nothing
  unfolding held last_write written creation or_else given_at
  nothing_held x = refl

  last_had_one : (x : Slot) (n : ℕ) (o : Option (Held A)) (earlier : Value) → Changes A p rs x n o → ((e : Recorded) → slice_get rs n ≡ Some e → is_write e.kind ≡ true → IsSome e.value) → earlier ≡ held p rs x n → or_before (held_of o).value earlier ≡ held p rs x (suc n)
  unfolding held held_of
  last_had_one x n o earlier (writes_it h there last gives e is w same) some was =
      ap (λ u. or_before (held_of u).value earlier) there
      ∙ or_before_some h.value earlier (subst IsSome (sym same) (some e is w))
      ∙ gives ∙ ap (given_at p rs x) (sym last)
  last_had_one x n o earlier (creates_it h there last gives none) some was =
      ap (λ u. or_before (held_of u).value earlier) there
      ∙ ap (or_before h.value) (was ∙ ap (given_at p rs x) none ∙ given_none A p rs x)
      ∙ or_before_nothing h.value
      ∙ gives ∙ ap (given_at p rs x) (sym last)
  last_had_one x n o earlier (leaves_it same holds) some was =
      or_before_either (held_of o).value earlier (given_at p rs x (last_write (owner_in p) rs x n)) (holds_value A p rs x o (last_write (owner_in p) rs x n) holds) was
      ∙ ap (given_at p rs x) (sym same)

  -- ---- all events

  pub record HistoryHolds (history : List (Noted A)) : Type 0 where
    pub events_are : (n : ℕ) (e : Noted A) → slice_get history n ≡ Some e → slice_get rs n ≡ Some e.event
    pub holds : (n : ℕ) (e : Noted A) → slice_get history n ≡ Some e → StoreHolds A p rs e.before n

  there : (history : List (Noted A)) (n : ℕ) → suc n ≤ length history → (e : Noted A) × (slice_get history n ≡ Some e)
  there [] n le = absurd (omega (arith, le))
  there (x ∷ xs) zero le = (x, refl)
  there (x ∷ xs) (suc n) le = there xs n (omega (arith, le))

  held_is_last_had : (history : List (Noted A)) → HistoryHolds history → ((n : ℕ) (e : Recorded) → slice_get rs n ≡ Some e → is_write e.kind ≡ true → IsSome e.value) → (x : Slot) (m : ℕ) → m ≤ length history → last_had p history x m ≡ held p rs x m
  unfolding last_had value_after value_in
  held_is_last_had history h some x zero le = sym (nothing_held x)
  held_is_last_had history h some x (suc m) le =
      let e = there history m le in
      ap (λ o. or_before (value_after p m o x) (last_had p history x m)) e.1
      ∙ last_had_one x m (store_after p m e.0 x) (last_had p history x m) (changes A p rs x m e.0 (h.events_are m e.0 e.1) (h.holds m e.0 e.1)) (some m) (held_is_last_had history h some x m (omega (arith, le)))

  absent_past : {X : Type 0} (xs : List X) (n : ℕ) → slice_get xs n ≡ Absent → n ≤ length xs → n ≡ length xs
  absent_past [] n is le = omega arith
  absent_past (x ∷ xs) zero is le = absurd (cc)
  absent_past (x ∷ xs) (suc n) is le = ap suc (absent_past xs n is (omega arith))

  abbrev IsHeld : Slot → ℕ → Store A → Type 0
  IsHeld x m store = (value_in store x ≡ Nothing) ⊎ (value_in store x ≡ held p rs x m)

  is_held : (x : Slot) (m : ℕ) (store : Store A) → StoreHolds A p rs store m → IsHeld x m store
  unfolding value_in held
  is_held x m store h = holds_value A p rs x (store x) (last_write (owner_in p) rs x m) (h x)

  has_held : (history : List (Noted A)) (final : Store A) → HistoryHolds history → StoreHolds A p rs final (length history) → (x : Slot) (m : ℕ) → m ≤ length history → IsHeld x m (store_before (slice_get history m) final)
  has_held history final h last x m le = go (slice_get history m) refl
    where
      go : (o : Option (Noted A)) → slice_get history m ≡ o → IsHeld x m (store_before o final)
      go (Some e) is = is_held x m e.before (h.holds m e is)
      go Absent is = is_held x m final (subst (StoreHolds A p rs final) (sym (absent_past history m is le)) last)

-- ---- whole runs

module _ (A : Sets) (p : Program) (input : List ℕ) (budget : ℕ) where
  all_events : List Recorded
  all_events = in_order A (end (outcome {A = A} p input budget)).noted

  at_end : Inv A p all_events (end (outcome {A = A} p input budget)).noted (end (outcome {A = A} p input budget)).store
  unfolding outcome all_events
  at_end =
      let final = (end (main_run (world {A = A} p depth_limit) (start input budget))).noted in
      let first = subst (λ l. AreFirst A p l final) (append-nil (in_order A final)) (are_first A p final []) in
      run_holds A p (in_order A final) (start input budget) first (start_holds A p (in_order A final) input budget)

  history_holds : HistoryHolds A p all_events (history A p input budget)
  unfolding history all_events in_order
  history_holds = record {
    events_are = λ n e is. slice_get-map (λ (x : Noted A). x.event) (reverse (end (outcome {A = A} p input budget)).noted) n ∙ ap (option_map (λ (x : Noted A). x.event)) is;
    holds = λ n e is. each_holds A p all_events (end (outcome {A = A} p input budget)).noted at_end.all_hold n e is;
  }

  store_has_held : StoreHasHeld A p input budget
  unfolding stored_before final_store history events all_events in_order
  store_has_held x m le =
      let final = end (outcome {A = A} p input budget) in
      has_held A p all_events (history A p input budget) final.store history_holds (subst (StoreHolds A p all_events final.store) (sym (length-reverse final.noted)) at_end.store_holds) x m le

pub stores_have_held : (A : Sets) (p : Program) → StoresHaveHeld A p
stores_have_held A p input budget = store_has_held A p input budget

pub held_was_last_had : (A : Sets) (text : Text) (p : Program) → RunsAreInRange A text p → HeldWasLastHad A p
unfolding history events all_events in_order
held_was_last_had A text p in_range input budget bytes x m le =
    held_is_last_had A p (all_events A p input budget) (history A p input budget) (history_holds A p input budget)
    (λ n e is w. write_has_value _ e.kind e.entity e.value w (in_range.records input budget bytes n e is).value) x m le
