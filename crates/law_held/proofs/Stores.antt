-- What an event does to a store, and what the records then give for each slot.
use Rattle.std.proofs.Common.{◌≡◌, ℕ, suc, Bool, true, false, List, length, Option, Some, refl, sym, ap, ◌∙◌, subst, ◌⊎◌, inl, inr}
use Rattle.std.specs.Prelude.{None as Absent}
use Rattle.std.specs.Prelude.{slice_get, if◌then◌else◌, ◌&&◌}
use Rattle.wy_kernel.specs.Program.{Program}
use Rattle.wy_value.specs.declared.value.Value.TheVariants.{None as Nothing}
use Rattle.wy_event.specs.declared.record.Kind.{Kind}
use Rattle.wy_event.specs.declared.record.Kind.TheVariants as kind
use Rattle.wy_event.specs.declared.record.Slot.{Slot}
use Rattle.wy_event.specs.Record.{Recorded, same_slot}
use Rattle.wy_event.specs.Sources.{Owners, is_write, writes, creates_as, creates, is_so, or_else, written, creation, last_write}
use Rattle.wy_steps.specs.Sets.{Sets}
use Rattle.wy_steps.specs.State.{Carried, Held, Store, Noted, State}
use Rattle.wy_steps.specs.Steps.{default_in, owner_in, held_of, no_value, held_by, slot_with, if_empty, Draft, next_event, with_event, with_stored, with_created}
use Rattle.wy_meaning.specs.World.{plain, about, into, spelling}
use Rattle.law_induction.specs.Law.{IsNoted, a_throw, a_print, a_return, a_test, a_read, a_jump, a_text, a_call, IsWrite, a_set, a_bind, a_catch, IsCreated, an_object, an_array, an_init}
use Rattle.wy_travel.specs.Held.{given_by, given_at}
use Rattle.law_held.specs.Last.{store_created, store_after, StoresAreLeftSo}

-- ---- the last write, event by event

or_else_none : (a : Option ℕ) → or_else a Absent ≡ a
unfolding or_else
or_else_none Absent = refl
or_else_none (Some n) = refl

or_else_three : (a b c : Option ℕ) → or_else a (or_else b c) ≡ or_else (or_else a b) c
unfolding or_else
or_else_three Absent b c = refl
or_else_three (Some n) b c = refl

module _ (owner : Owners) (rs : List Recorded) where
  last_is_written : (x : Slot) (n : ℕ) (e : Recorded) → slice_get rs n ≡ Some e → writes x e ≡ true → last_write owner rs x (suc n) ≡ Some n
  unfolding last_write written is_so or_else
  last_is_written x n e is w =
      ap (λ o. or_else (if is_so (writes x) o then Some n else written rs x n) (creation owner rs x (suc n))) is
      ∙ ap (λ b. or_else (if b then Some n else written rs x n) (creation owner rs x (suc n))) w

  last_is_created : (x : Slot) (n : ℕ) (e : Recorded) → slice_get rs n ≡ Some e → writes x e ≡ false →
      last_write owner rs x (suc n) ≡ or_else (last_write owner rs x n) (if creates owner n x e then Some n else Absent)
  unfolding last_write written creation is_so
  last_is_created x n e is w =
      ap (λ o. or_else (if is_so (writes x) o then Some n else written rs x n) (or_else (creation owner rs x n) (if is_so (creates owner n x) o then Some n else Absent))) is
      ∙ ap (λ b. or_else (if b then Some n else written rs x n) (or_else (creation owner rs x n) (if creates owner n x e then Some n else Absent))) w
      ∙ or_else_three (written rs x n) (creation owner rs x n) (if creates owner n x e then Some n else Absent)

-- what writes creates nothing
write_creates_none : (owner : Owners) (k : Kind) (n : ℕ) (entity : Option ℕ) (x : Slot) → is_write k ≡ true → creates_as owner k n entity x ≡ false
unfolding is_write creates_as
write_creates_none owner kind.Bind n entity x w = refl
write_creates_none owner kind.Set n entity x w = refl
write_creates_none owner kind.Catch n entity x w = refl
write_creates_none owner _ n entity x w = absurd (cc)

-- ---- the drafts of a run

draft_noted : (A : Sets) (owner : Owners) (d : Draft) (c : Carried A) (n : ℕ) (x : Slot) → IsNoted d c → (is_write d.kind ≡ false) × (creates_as owner d.kind n d.entity x ≡ false)
unfolding is_write creates_as plain about spelling
draft_noted A owner d c n x (a_throw site v b) = (refl, refl)
draft_noted A owner d c n x (a_print site v b) = (refl, refl)
draft_noted A owner d c n x (a_return site v b) = (refl, refl)
draft_noted A owner d c n x (a_test site v b) = (refl, refl)
draft_noted A owner d c n x (a_read site v i) = (refl, refl)
draft_noted A owner d c n x (a_jump site) = (refl, refl)
draft_noted A owner d c n x (a_text site units b) = (refl, refl)
draft_noted A owner d c n x (a_call site m b) = (refl, refl)

draft_writes : (A : Sets) (d : Draft) (c : Carried A) → IsWrite d c → is_write d.kind ≡ true
unfolding is_write into
draft_writes A d c (a_set site x v b) = refl
draft_writes A d c (a_bind site f i v b) = refl
draft_writes A d c (a_catch site f i v b) = refl

draft_creates : (A : Sets) (d : Draft) (c : Carried A) → IsCreated d c → is_write d.kind ≡ false
unfolding is_write about
draft_creates A d c (an_object site code b) = refl
draft_creates A d c (an_array site code k b) = refl
draft_creates A d c (an_init site class) = refl

module _ (A : Sets) (p : Program) where
  empty_none : (o : Option (Held A)) → if_empty o Absent ≡ o
  unfolding if_empty
  empty_none Absent = refl
  empty_none (Some h) = refl

  nothing_created : (n : ℕ) (e : Noted A) (x : Slot) → creates (owner_in p) n x e.event ≡ false → store_created p n e x ≡ e.before x
  unfolding store_created
  nothing_created n e x none = ap (λ b. if_empty (e.before x) (if b then Some (held_by (default_in p e.event x) e) else Absent)) none ∙ empty_none (e.before x)

  after_write : (n : ℕ) (e : Noted A) (x : Slot) → is_write e.event.kind ≡ true → store_after p n e x ≡ slot_with e.event.slot (held_by e.event.value e) e.before x
  unfolding store_after
  after_write n e x w = ap (λ b. (if b then slot_with e.event.slot (held_by e.event.value e) e.before else store_created p n e) x) w

  after_other : (n : ℕ) (e : Noted A) (x : Slot) → is_write e.event.kind ≡ false → store_after p n e x ≡ store_created p n e x
  unfolding store_after
  after_other n e x w = ap (λ b. (if b then slot_with e.event.slot (held_by e.event.value e) e.before else store_created p n e) x) w

  -- ---- the steps leave the store so

  pub left_noted : (d : Draft) (c : Carried A) (s : State A) (x : Slot) → IsNoted d c → s.store x ≡ store_after p (length s.noted) (next_event d c s) x
  unfolding next_event creates
  left_noted d c s x h =
      let k = draft_noted A (owner_in p) d c (length s.noted) x h in
      sym (after_other (length s.noted) (next_event d c s) x k.0 ∙ nothing_created (length s.noted) (next_event d c s) x k.1)

  pub left_written : (d : Draft) (c : Carried A) (s : State A) (x : Slot) → IsWrite d c → slot_with d.slot (held_by d.value (next_event d c s)) s.store x ≡ store_after p (length s.noted) (next_event d c s) x
  unfolding next_event
  left_written d c s x h = sym (after_write (length s.noted) (next_event d c s) x (draft_writes A d c h))

  pub left_created : (d : Draft) (c : Carried A) (s : State A) (x : Slot) → IsCreated d c → (with_created p (length s.noted) (next_event d c s) (with_event (next_event d c s) s)).store x ≡ store_after p (length s.noted) (next_event d c s) x
  unfolding next_event with_created with_event store_created
  left_created d c s x h = sym (after_other (length s.noted) (next_event d c s) x (draft_creates A d c h))

  pub stores_left_so : StoresAreLeftSo A p
  unfolding with_event with_stored
  stores_left_so = record { noted = left_noted; written = left_written; created = left_created }

module _ (A : Sets) (p : Program) (rs : List Recorded) where
  -- a slot that was never written holds nothing, and another what its last write gives, or no value
  abbrev pub Holds : Slot → Option (Held A) → Option ℕ → Type 0
  Holds x Absent Absent = Unit {0}
  Holds x Absent (Some n) = ⊥
  Holds x (Some h) Absent = ⊥
  Holds x (Some h) (Some n) = (h.value ≡ Nothing) ⊎ (h.value ≡ given_at p rs x (Some n))

  -- so does each slot of a store just before event n
  abbrev pub StoreHolds : Store A → ℕ → Type 0
  StoreHolds store n = (x : Slot) → Holds x (store x) (last_write (owner_in p) rs x n)

  pub given_none : (x : Slot) → given_at p rs x Absent ≡ Nothing
  unfolding given_at
  given_none x = refl

  -- a declaration takes a value away
  no_value_holds : (x : Slot) (o : Option (Held A)) (w : Option ℕ) → Holds x o w → Holds x (no_value o) w
  unfolding no_value
  no_value_holds x Absent Absent h = tt
  no_value_holds x Absent (Some n) h = absurd h
  no_value_holds x (Some k) Absent h = absurd h
  no_value_holds x (Some k) (Some n) h = inl refl

  pub declared_holds : (b : Bool) (x : Slot) (o : Option (Held A)) (w : Option ℕ) → Holds x o w → Holds x (if b then no_value o else o) w
  declared_holds true x o w h = no_value_holds x o w h
  declared_holds false x o w h = h

  -- what a slot holds has the value of its last write, or none
  pub holds_value : (x : Slot) (o : Option (Held A)) (w : Option ℕ) → Holds x o w → ((held_of o).value ≡ Nothing) ⊎ ((held_of o).value ≡ given_at p rs x w)
  unfolding held_of
  holds_value x Absent Absent h = inl refl
  holds_value x Absent (Some n) h = absurd h
  holds_value x (Some k) Absent h = absurd h
  holds_value x (Some k) (Some n) h = h

  -- ---- one event

  given_written : (x : Slot) (n : ℕ) (e : Recorded) → slice_get rs n ≡ Some e → writes x e ≡ true → given_at p rs x (Some n) ≡ e.value
  unfolding given_at given_by
  given_written x n e is w = ap (given_by p x) is ∙ ap (λ b. if b then e.value else default_in p e x) w

  given_created : (x : Slot) (n : ℕ) (e : Recorded) → slice_get rs n ≡ Some e → writes x e ≡ false → given_at p rs x (Some n) ≡ default_in p e x
  unfolding given_at given_by
  given_created x n e is w = ap (given_by p x) is ∙ ap (λ b. if b then e.value else default_in p e x) w

  -- how event n changes what the records give for a slot, with what the slot holds behind it
  pub data Changes (x : Slot) (n : ℕ) (o : Option (Held A)) : Type 0 where
    writes_it : (h : Held A) → o ≡ Some h → last_write (owner_in p) rs x (suc n) ≡ Some n → h.value ≡ given_at p rs x (Some n) → (e : Recorded) → slice_get rs n ≡ Some e → is_write e.kind ≡ true → h.value ≡ e.value → Changes x n o
    creates_it : (h : Held A) → o ≡ Some h → last_write (owner_in p) rs x (suc n) ≡ Some n → h.value ≡ given_at p rs x (Some n) → last_write (owner_in p) rs x n ≡ Absent → Changes x n o
    leaves_it : last_write (owner_in p) rs x (suc n) ≡ last_write (owner_in p) rs x n → Holds x o (last_write (owner_in p) rs x n) → Changes x n o

  created_changes : (x : Slot) (n : ℕ) (o : Option (Held A)) (w : Option ℕ) (b : Bool) (new : Held A) → last_write (owner_in p) rs x n ≡ w → last_write (owner_in p) rs x (suc n) ≡ or_else w (if b then Some n else Absent) → new.value ≡ given_at p rs x (Some n) → Holds x o w → Changes x n (if_empty o (if b then Some new else Absent))
  unfolding if_empty or_else
  created_changes x n Absent (Some k) b new was then_is gives h = absurd h
  created_changes x n (Some k) Absent b new was then_is gives h = absurd h
  created_changes x n (Some k) (Some w) b new was then_is gives h = leaves_it (then_is ∙ sym was) (subst (Holds x (Some k)) (sym was) h)
  created_changes x n Absent Absent true new was then_is gives h = creates_it new refl then_is gives was
  created_changes x n Absent Absent false new was then_is gives h = leaves_it (then_is ∙ sym was) (subst (Holds x Absent) (sym was) tt)

  unwritten : (x : Slot) (n : ℕ) (e : Noted A) → slice_get rs n ≡ Some e.event → writes x e.event ≡ false → StoreHolds e.before n → Changes x n (store_created p n e x)
  unfolding store_created held_by
  unwritten x n e is w h =
      created_changes x n (e.before x) (last_write (owner_in p) rs x n) (creates (owner_in p) n x e.event) (held_by (default_in p e.event x) e) refl
      (last_is_created (owner_in p) rs x n e.event is w)
      (sym (given_created x n e.event is w)) (h x)

  pub changes : (x : Slot) (n : ℕ) (e : Noted A) → slice_get rs n ≡ Some e.event → StoreHolds e.before n → Changes x n (store_after p n e x)
  unfolding slot_with held_by writes creates
  changes x n e is h = by_kind (is_write e.event.kind) refl
    where
      by_slot : (b : Bool) → same_slot x e.event.slot ≡ b → is_write e.event.kind ≡ true → Changes x n (if b then Some (held_by e.event.value e) else e.before x)
      by_slot true s w =
          let does : writes x e.event ≡ true = ap (λ b. b && same_slot x e.event.slot) w ∙ s in
          writes_it (held_by e.event.value e) refl (last_is_written (owner_in p) rs x n e.event is does) (sym (given_written x n e.event is does)) e.event is w refl
      by_slot false s w =
          let does : writes x e.event ≡ false = ap (λ b. b && same_slot x e.event.slot) w ∙ s in
          let none : creates (owner_in p) n x e.event ≡ false = write_creates_none (owner_in p) e.event.kind n e.event.entity x w in
          subst (Changes x n) (nothing_created A p n e x none) (unwritten x n e is does h)

      by_kind : (b : Bool) → is_write e.event.kind ≡ b → Changes x n (store_after p n e x)
      by_kind true w = subst (Changes x n) (sym (after_write A p n e x w)) (by_slot (same_slot x e.event.slot) refl w)
      by_kind false w = subst (Changes x n) (sym (after_other A p n e x w)) (unwritten x n e is (ap (λ b. b && same_slot x e.event.slot) w) h)

  -- behind the event the store holds what the records then give
  changed_holds : (x : Slot) (n : ℕ) (o : Option (Held A)) → Changes x n o → Holds x o (last_write (owner_in p) rs x (suc n))
  changed_holds x n o (writes_it h there last gives e is w same) = subst (λ u. Holds x u (last_write (owner_in p) rs x (suc n))) (sym there) (subst (Holds x (Some h)) (sym last) (inr gives))
  changed_holds x n o (creates_it h there last gives none) = subst (λ u. Holds x u (last_write (owner_in p) rs x (suc n))) (sym there) (subst (Holds x (Some h)) (sym last) (inr gives))
  changed_holds x n o (leaves_it same holds) = subst (Holds x o) (sym same) holds

  pub holds_after : (n : ℕ) (e : Noted A) → slice_get rs n ≡ Some e.event → StoreHolds e.before n → StoreHolds (store_after p n e) (suc n)
  holds_after n e is h x = changed_holds x n (store_after p n e x) (changes x n e is h)
