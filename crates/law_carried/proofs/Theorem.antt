-- Backward equals forward, for every run.
use Rattle.std.proofs.Common.{◌≡◌, ℕ, zero, suc, ◌≤◌, List, [], ◌∷◌, ◌++◌, length, ◌⊎◌, inl, inr, ⊎_elim, Option, Some, refl, sym, ap, ◌∙◌, subst, append-nil, append_assoc, arith}
use Rattle.std.specs.Prelude.{None as Absent}
use Rattle.std.specs.Prelude.{slice_get}
use Rattle.std.proofs.lemmas.List.{map-append, length-map, length-reverse}
use mathlib.Core.List.{map, reverse, reverse-cons}
use Rattle.wy_kernel.specs.Program.{Program}
use Rattle.wy_event.specs.declared.record.Slot.{Slot}
use Rattle.wy_event.specs.Record.{Recorded}
use Rattle.wy_event.specs.Sources.{Owners, or_else, written, creation, last_write, closure, data_closure}
use Rattle.wy_steps.specs.Sets.{numbers}
use Rattle.wy_steps.specs.State.{Held, Store, Noted}
use Rattle.wy_kernel.specs.Limits.{depth_limit}
use Rattle.wy_steps.specs.Steps.{owner_in}
use Rattle.wy_meaning.specs.Run.{world, main_run, start, outcome, end, history, events, final_store}
use Rattle.law_carried.specs.Backward.{BackwardIsForward, StoredIsLastWrite, before_or, UsesDetermineSets}
use Rattle.law_carried.specs.Agreement.{AreFirst, SlotAgrees, StoreAgrees, IsBehind, EventsAgree, Agrees, EndsAgree}
use Rattle.law_carried.proofs.Closures.{data_closure_at, full_closure_at}
use Rattle.law_carried.proofs.Rules.{nothing}
use Rattle.law_carried.proofs.Programs.{world_keeps, keeps_main_run}

slice_get_seam : {X : Type 0} (xs : List X) (y : X) (ys : List X) → slice_get (xs ++ y ∷ ys) (length xs) ≡ Some y
slice_get_seam [] y ys = refl
slice_get_seam (x ∷ xs) y ys = slice_get_seam xs y ys

-- the events in the order of time
in_order : List (Noted numbers) → List Recorded
in_order noted = map (λ e. e.event) (reverse noted)

in_order-cons : (e : Noted numbers) (rest : List (Noted numbers)) → in_order (e ∷ rest) ≡ in_order rest ++ e.event ∷ []
unfolding in_order
in_order-cons e rest = ap (map (λ (x : Noted numbers). x.event)) (reverse-cons e rest) ∙ map-append (λ (x : Noted numbers). x.event) (reverse rest) (e ∷ [])

length-in_order : (noted : List (Noted numbers)) → length (in_order noted) ≡ length noted
unfolding in_order
length-in_order noted = length-map (reverse noted) (λ e. e.event) ∙ length-reverse noted

front_of : (owner : Owners) (noted : List (Noted numbers)) (later : List Recorded) → AreFirst (in_order noted ++ later) noted
front_of owner [] later = tt
front_of owner (e ∷ rest) later =
    let e1 = ap (λ l. l ++ later) (in_order-cons e rest) ∙ append_assoc (in_order rest) (e.event ∷ []) later in (
      rw (e1, ← length-in_order rest) (slice_get_seam (in_order rest) e.event later),
      subst (λ l. AreFirst l rest) (sym e1) (front_of owner rest (e.event ∷ later)),
    )

pub start_fits : (owner : Owners) (all : List Recorded) (input : List ℕ) (budget : ℕ) → Agrees owner all (start input budget)
unfolding start last_write written creation or_else
start_fits owner all input budget = record { store = λ x. tt; noted = tt; active = tt }

slice_get_snoc : {X : Type 0} (xs : List X) (y : X) (n : ℕ) (z : X) → slice_get (xs ++ y ∷ []) n ≡ Some z → (slice_get xs n ≡ Some z) ⊎ ((n ≡ length xs) × (y ≡ z))
slice_get_snoc [] y zero z e = inr (refl, cc)
slice_get_snoc [] y (suc n) z e = absurd (cc)
slice_get_snoc (x ∷ xs) y zero z e = inl e
slice_get_snoc (x ∷ xs) y (suc n) z e = ⊎_elim (λ h. inl h) (λ h. inr (ap suc h.0, h.1)) (slice_get_snoc xs y n z e)

module _ (owner : Owners) (all : List Recorded) where
  -- what holds of an event by its number
  abbrev pub EventFits : ℕ → Noted numbers → Type 0
  EventFits n e = (e.from_data ≡ data_closure owner all n) × (e.from_all ≡ closure owner all n) × StoreAgrees owner all e.before n × IsBehind n e.event

  -- an event of a list with the newest first, by its number
  each_fits : (noted : List (Noted numbers)) → EventsAgree owner all noted → (n : ℕ) (e : Noted numbers) → slice_get (reverse noted) n ≡ Some e → EventFits n e
  each_fits [] h n e is = absurd (cc)
  each_fits (x ∷ rest) h n e is =
      let at = rw (reverse-cons x rest) at is in
      ⊎_elim
      (λ found. each_fits rest h.4 n e found)
      (λ last. let m : n ≡ length rest = last.0 ∙ length-reverse rest in
      subst (λ (v : Noted numbers). EventFits n v) last.1 (subst (λ k. EventFits k x) (sym m) (h.0, h.1, h.2, h.3)))
      (slice_get_snoc (reverse rest) x n e at)

  absent_past : {X : Type 0} (xs : List X) (n : ℕ) → slice_get xs n ≡ Absent → n ≤ length xs → n ≡ length xs
  absent_past [] n is le = omega arith
  absent_past (x ∷ xs) zero is le = absurd (cc)
  absent_past (x ∷ xs) (suc n) is le = ap suc (absent_past xs n is (omega arith))

  held_fits : (store : Store numbers) (x : Slot) (m w : ℕ) (e : Noted numbers) → StoreAgrees owner all store m → last_write owner all x m ≡ Some w → EventFits w e →
      (h : Held numbers) × (store x ≡ Some h) × ((k : ℕ) → h.from_data k ≡ e.from_data k) × ((k : ℕ) → h.from_all k ≡ e.from_all k)
  held_fits store x m w e fits is f = go (store x) (subst (λ o. SlotAgrees owner all (store x) o) is (fits x))
    where
      go : (o : Option (Held numbers)) → SlotAgrees owner all o (Some w) → (h : Held numbers) × (o ≡ Some h) × ((k : ℕ) → h.from_data k ≡ e.from_data k) × ((k : ℕ) → h.from_all k ≡ e.from_all k)
      go Absent g = absurd g
      go (Some h) g = (h, refl, λ k. ap (λ (u : ℕ → _). u k) (g.0 ∙ sym f.0), λ k. ap (λ (u : ℕ → _). u k) (g.1 ∙ sym f.1))

module _ (p : Program) (input : List ℕ) (budget : ℕ) where
  all_events : List Recorded
  all_events = in_order (end (outcome {A = numbers} p input budget)).noted

  -- the invariant at the end, with the records of the whole run
  at_end : Agrees (owner_in p) all_events (end (outcome {A = numbers} p input budget))
  unfolding outcome all_events
  at_end =
      let final = (end (main_run (world {A = numbers} p depth_limit) (start input budget))).noted in
      let front = subst (λ l. AreFirst l final) (append-nil (in_order final)) (front_of (owner_in p) final []) in
      ((keeps_main_run p (in_order final) (world p depth_limit) (world_keeps p (in_order final) depth_limit) nothing).by (start input budget)).inv front (start_fits (owner_in p) (in_order final) input budget) tt

pub ends_agree : (p : Program) → EndsAgree p
unfolding events history in_order all_events
ends_agree p input budget = at_end p input budget

pub backward_is_forward : (p : Program) (input : List ℕ) (budget : ℕ) → BackwardIsForward p input budget
unfolding history events in_order all_events
backward_is_forward p input budget n e is k =
    let f = each_fits (owner_in p) (all_events p input budget) _ (at_end p input budget).noted n e is in
    (ap (λ (u : ℕ → _). u k) (sym f.0), ap (λ (u : ℕ → _). u k) (sym f.1))

pub stored_is_last_write : (p : Program) (input : List ℕ) (budget : ℕ) → StoredIsLastWrite p input budget
unfolding history events in_order all_events final_store
stored_is_last_write p input budget m x w e le is at =
    let inv = at_end p input budget in
    let final = end (outcome {A = numbers} p input budget) in
    go (slice_get (reverse final.noted) m) refl
  where
    go : (o : Option (Noted numbers)) → slice_get (reverse (end (outcome {A = numbers} p input budget)).noted) m ≡ o →
        (h : Held numbers) × (before_or o (end (outcome {A = numbers} p input budget)).store x ≡ Some h) × ((k : ℕ) → h.from_data k ≡ e.from_data k) × ((k : ℕ) → h.from_all k ≡ e.from_all k)
    go (Some c) found =
        let inv = at_end p input budget in
        held_fits (owner_in p) (all_events p input budget) c.before x m w e (each_fits (owner_in p) (all_events p input budget) _ inv.noted m c found).2 is (each_fits (owner_in p) (all_events p input budget) _ inv.noted w e at)
    go Absent found =
        let inv = at_end p input budget in
        let n : m ≡ length (end (outcome {A = numbers} p input budget)).noted = absent_past (owner_in p) (all_events p input budget) _ m found le ∙ length-reverse _ in
        held_fits (owner_in p) (all_events p input budget) (end (outcome {A = numbers} p input budget)).store x m w e (subst (λ k. StoreAgrees (owner_in p) (all_events p input budget) (end (outcome {A = numbers} p input budget)).store k) (sym n) inv.store) is (each_fits (owner_in p) (all_events p input budget) _ inv.noted w e at)

slice_get_mapped : {X Y : Type 0} (f : X → Y) (xs : List X) (n : ℕ) (x : X) → slice_get xs n ≡ Some x → slice_get (map f xs) n ≡ Some (f x)
slice_get_mapped f [] n x e = absurd (cc)
slice_get_mapped f (y ∷ ys) zero x e = cc
slice_get_mapped f (y ∷ ys) (suc n) x e = slice_get_mapped f ys n x e

pub uses_determine_sets : (p : Program) (input : List ℕ) (budget : ℕ) → UsesDetermineSets p input budget
unfolding history events in_order all_events
uses_determine_sets p input budget n e is k =
    let f = each_fits (owner_in p) (all_events p input budget) _ (at_end p input budget).noted n e is in
    let at = slice_get_mapped (λ (x : Noted numbers). x.event) _ n e is in (
      ap (λ (u : ℕ → _). u k) (f.0 ∙ data_closure_at (owner_in p) (all_events p input budget) n e.event at f.3.uses),
      ap (λ (u : ℕ → _). u k) (f.1 ∙ full_closure_at (owner_in p) (all_events p input budget) n e.event at f.3.uses f.3.control),
    )
