-- What holds of the state of a run, given the records of the whole run.
use Rattle.std.proofs.Common.{◌≡◌, ℕ, suc, Bool, true, false, ◌&&◌, ◌<◌, ◌≤◌, List, [], ◌∷◌, length, Option, Some, refl, sym, ap, ap₂, ◌∙◌, subst, arith}
use Rattle.std.specs.Prelude.{None as Absent}
use Rattle.std.specs.Prelude.{option_to_list, slice_get, if◌then◌else◌}
use Rattle.wy_kernel.specs.Program.{Program}
use Rattle.wy_event.specs.declared.record.Kind.{Kind}
use Rattle.wy_event.specs.declared.record.Kind.TheVariants as kind
use Rattle.wy_event.specs.declared.record.Slot.{Slot}
use Rattle.wy_event.specs.Numbers.{Numbers, only, union, union_of}
use Rattle.wy_event.specs.Record.{Recorded, same_slot}
use Rattle.wy_event.specs.Sources.{Owners, is_write, writes, creates_as, creates, or_else, last_write, closure, data_closure}
use Rattle.wy_steps.specs.Sets.{numbers}
use Rattle.wy_steps.specs.State.{Carried, Held, Active, State}
use Rattle.wy_steps.specs.Steps.{Made, Draft, parent, control_set, next_event, made, with_event, held_by, slot_with, with_stored, default_in, owner_in, if_empty, with_created, no_value, held_of, outlasting, ends_with}
use Rattle.law_carried.proofs.Sets.{union_none, union_assoc, union_absorbed, union_again, union_of_one}
use Rattle.law_carried.specs.Agreement.{ArePast, AllBelow, SlotAgrees, EventsAgree, Absorbs, EntriesAgree, Agrees, IsByUses}
use Rattle.law_carried.proofs.Closures.{data_closure_at, full_closure_at, or_else_absent, last_write_written, last_write_kept}

-- ---- active entries

absorbs_control : (a : Numbers) (rest : List (Active numbers)) → Absorbs a rest → union a (control_set rest) ≡ a
unfolding control_set
absorbs_control a [] h = union_none a
absorbs_control a (b ∷ rest) h = sym (union_assoc a b.from_all (control_set rest)) ∙ ap (λ u. union u (control_set rest)) h.0 ∙ absorbs_control a rest h.1

-- what takes in the control set takes in each entry
pub absorbs_all : (a : Numbers) (rest : List (Active numbers)) → union a (control_set rest) ≡ a → Absorbs a rest
unfolding control_set
absorbs_all a [] e = tt
absorbs_all a (b ∷ rest) e = (
  ap (λ u. union u b.from_all) (sym e) ∙ union_again a b.from_all (control_set rest) ∙ e,
  absorbs_all a rest (ap (λ u. union u (control_set rest)) (sym e) ∙ union_absorbed a b.from_all (control_set rest) ∙ e),
)

module _ (owner : Owners) (records : List Recorded) where
  -- a value comes from what its uses come from
  pub record Fits (v : Carried numbers) (n : ℕ) : Type 0 where
    pub sets : IsByUses owner records v
    pub past : ArePast n v.uses

  -- an event that was made comes from its closures
  pub record MadeFits (e : Made numbers) (n : ℕ) : Type 0 where
    pub before : e.number < n
    pub by_data : e.from_data ≡ data_closure owner records e.number
    pub by_all : e.from_all ≡ closure owner records e.number

  pub held_data : (o : Option (Held numbers)) (w : Option ℕ) → SlotAgrees owner records o w → (held_of o).from_data ≡ union_of (data_closure owner records) (option_to_list w)
  unfolding held_of union_of
  held_data Absent Absent h = refl
  held_data Absent (Some n) h = absurd h
  held_data (Some s) Absent h = absurd h
  held_data (Some s) (Some n) h = h.0 ∙ sym (union_of_one (data_closure owner records) n)

  pub held_all : (o : Option (Held numbers)) (w : Option ℕ) → SlotAgrees owner records o w → (held_of o).from_all ≡ union_of (closure owner records) (option_to_list w)
  unfolding held_of union_of
  held_all Absent Absent h = refl
  held_all Absent (Some n) h = absurd h
  held_all (Some s) Absent h = absurd h
  held_all (Some s) (Some n) h = h.1 ∙ sym (union_of_one (closure owner records) n)

  pub no_value_fits : (o : Option (Held numbers)) (w : Option ℕ) → SlotAgrees owner records o w → SlotAgrees owner records (no_value o) w
  unfolding no_value
  no_value_fits Absent w h = h
  no_value_fits (Some s) Absent h = absurd h
  no_value_fits (Some s) (Some n) h = h

  pub EntriesAgree_up : (m n : ℕ) (entries : List (Active numbers)) → m ≤ n → EntriesAgree owner records m entries → EntriesAgree owner records n entries
  EntriesAgree_up m n [] le h = tt
  EntriesAgree_up m n (a ∷ rest) le h = (omega (arith, h.0), h.1, h.2, EntriesAgree_up m n rest le h.3)

  parent_below : (n : ℕ) (entries : List (Active numbers)) → EntriesAgree owner records n entries → AllBelow n (option_to_list (parent entries))
  unfolding parent
  parent_below n [] h = tt
  parent_below n (a ∷ rest) h = (h.0, tt)

  -- the greatest active entry stands for all of them
  control_set_is : (n : ℕ) (entries : List (Active numbers)) → EntriesAgree owner records n entries → control_set entries ≡ union_of (closure owner records) (option_to_list (parent entries))
  unfolding parent control_set union_of
  control_set_is n [] h = refl
  control_set_is n (a ∷ rest) h = absorbs_control a.from_all rest h.2 ∙ h.1 ∙ sym (union_none (closure owner records a.number))

  absorbs_outlasting : (f : Option ℕ) (k : ℕ) (a : Numbers) (rest : List (Active numbers)) → Absorbs a rest → Absorbs a (outlasting f k rest)
  unfolding outlasting
  absorbs_outlasting f k a [] h = tt
  absorbs_outlasting f k a (b ∷ rest) h = go (ends_with f k b.reach) (absorbs_outlasting f k a rest h.1)
    where
      go : (c : Bool) → Absorbs a (outlasting f k rest) → Absorbs a (if c then outlasting f k rest else b ∷ outlasting f k rest)
      go true r = r
      go false r = (h.0, r)

  pub active_outlasting : (f : Option ℕ) (k n : ℕ) (entries : List (Active numbers)) → EntriesAgree owner records n entries → EntriesAgree owner records n (outlasting f k entries)
  unfolding outlasting
  active_outlasting f k n [] h = tt
  active_outlasting f k n (a ∷ rest) h = go (ends_with f k a.reach) (active_outlasting f k n rest h.3)
    where
      go : (c : Bool) → EntriesAgree owner records n (outlasting f k rest) → EntriesAgree owner records n (if c then outlasting f k rest else a ∷ outlasting f k rest)
      go true r = r
      go false r = (h.0, h.1, absorbs_outlasting f k a.from_all rest h.2, r)

  -- ---- the next event

  event_by_data : (d : Draft) (c : Carried numbers) (s : State numbers) → slice_get records (length s.noted) ≡ Some (next_event d c s).event → Fits c (length s.noted) → (next_event d c s).from_data ≡ data_closure owner records (length s.noted)
  unfolding next_event
  event_by_data d c s is fits =
      ap (union (only (length s.noted))) fits.sets.0 ∙ sym (data_closure_at owner records (length s.noted) _ is fits.past)

  event_by_all : (d : Draft) (c : Carried numbers) (s : State numbers) → slice_get records (length s.noted) ≡ Some (next_event d c s).event → Agrees owner records s → Fits c (length s.noted) → (next_event d c s).from_all ≡ closure owner records (length s.noted)
  unfolding next_event
  event_by_all d c s is inv fits =
      ap (union (only (length s.noted))) (ap₂ union fits.sets.1 (control_set_is (length s.noted) s.active inv.active)) ∙ sym (full_closure_at owner records (length s.noted) _ is fits.past (parent_below (length s.noted) s.active inv.active))

  pub made_fits : (d : Draft) (c : Carried numbers) (s : State numbers) → slice_get records (length s.noted) ≡ Some (next_event d c s).event → Agrees owner records s → Fits c (length s.noted) → MadeFits (made (next_event d c s) s) (suc (length s.noted))
  unfolding made
  made_fits d c s is inv fits = record { before = omega arith; by_data = event_by_data d c s is fits; by_all = event_by_all d c s is inv fits }

  -- what the newest event comes from takes in all that is active
  pub newest_absorbs : (d : Draft) (c : Carried numbers) (s : State numbers) → Absorbs (next_event d c s).from_all s.active
  unfolding next_event
  newest_absorbs d c s = absorbs_all _ s.active (union_absorbed (only (length s.noted)) c.from_all (control_set s.active))

  -- kinds of events that neither write nor create
  abbrev pub IsQuiet : Kind → Type 0
  IsQuiet kind.Init = ⊥
  IsQuiet kind.New = ⊥
  IsQuiet kind.Bind = ⊥
  IsQuiet kind.Set = ⊥
  IsQuiet kind.Catch = ⊥
  IsQuiet _ = Unit {0}

  quiet_writes : (k : Kind) → IsQuiet k → is_write k ≡ false
  unfolding is_write
  quiet_writes kind.Init q = absurd q
  quiet_writes kind.New q = absurd q
  quiet_writes kind.Bind q = absurd q
  quiet_writes kind.Set q = absurd q
  quiet_writes kind.Catch q = absurd q
  quiet_writes _ q = refl

  quiet_creates : (k : Kind) (n : ℕ) (entity : Option ℕ) (x : Slot) → IsQuiet k → creates_as owner k n entity x ≡ false
  unfolding creates_as
  quiet_creates kind.Init n entity x q = absurd q
  quiet_creates kind.New n entity x q = absurd q
  quiet_creates kind.Bind n entity x q = absurd q
  quiet_creates kind.Set n entity x q = absurd q
  quiet_creates kind.Catch n entity x q = absurd q
  quiet_creates _ n entity x q = refl

  noted_more : (d : Draft) (c : Carried numbers) (s : State numbers) → slice_get records (length s.noted) ≡ Some (next_event d c s).event → Agrees owner records s → Fits c (length s.noted) → EventsAgree owner records (next_event d c s ∷ s.noted)
  unfolding next_event
  noted_more d c s is inv fits = (event_by_data d c s is fits, event_by_all d c s is inv fits, inv.store, record { uses = fits.past; control = parent_below (length s.noted) s.active inv.active }, inv.noted)

  quiet_last : (d : Draft) (c : Carried numbers) (s : State numbers) → IsQuiet d.kind → slice_get records (length s.noted) ≡ Some (next_event d c s).event → (x : Slot) → last_write owner records x (suc (length s.noted)) ≡ last_write owner records x (length s.noted)
  unfolding next_event writes creates
  quiet_last d c s q is x =
      last_write_kept owner records x (length s.noted) _ is (ap (λ b. b && same_slot x d.slot) (quiet_writes d.kind q))
      ∙ ap (λ b. or_else (last_write owner records x (length s.noted)) (if b then Some (length s.noted) else Absent)) (quiet_creates d.kind (length s.noted) d.entity x q)
      ∙ or_else_absent owner records (last_write owner records x (length s.noted))

  -- an event that neither writes nor creates
  pub inv_noted : (d : Draft) (c : Carried numbers) (s : State numbers) → IsQuiet d.kind → slice_get records (length s.noted) ≡ Some (next_event d c s).event → Agrees owner records s → Fits c (length s.noted) → Agrees owner records (with_event (next_event d c s) s)
  unfolding with_event
  inv_noted d c s q is inv fits =
      record {
        store = λ x. subst (λ w. SlotAgrees owner records (s.store x) w) (sym (quiet_last d c s q is x)) (inv.store x);
        noted = noted_more d c s is inv fits;
        active = EntriesAgree_up (length s.noted) (suc (length s.noted)) s.active (omega arith) inv.active;
      }

  -- ---- writes

  abbrev pub IsWriting : Kind → Type 0
  IsWriting kind.Bind = Unit {0}
  IsWriting kind.Set = Unit {0}
  IsWriting kind.Catch = Unit {0}
  IsWriting _ = ⊥

  writing_writes : (k : Kind) → IsWriting k → is_write k ≡ true
  unfolding is_write
  writing_writes kind.Bind q = refl
  writing_writes kind.Set q = refl
  writing_writes kind.Catch q = refl
  writing_writes _ q = absurd q

  writing_creates : (k : Kind) (n : ℕ) (entity : Option ℕ) (x : Slot) → IsWriting k → creates_as owner k n entity x ≡ false
  unfolding creates_as
  writing_creates kind.Bind n entity x q = refl
  writing_creates kind.Set n entity x q = refl
  writing_creates kind.Catch n entity x q = refl
  writing_creates _ n entity x q = absurd q

  write_last : (d : Draft) (c : Carried numbers) (s : State numbers) → IsWriting d.kind → slice_get records (length s.noted) ≡ Some (next_event d c s).event → (x : Slot) → last_write owner records x (suc (length s.noted)) ≡ (if same_slot x d.slot then Some (length s.noted) else last_write owner records x (length s.noted))
  unfolding next_event writes creates
  write_last d c s q is x = go (same_slot x d.slot) refl
    where
      go : (b : Bool) → same_slot x d.slot ≡ b → last_write owner records x (suc (length s.noted)) ≡ (if b then Some (length s.noted) else last_write owner records x (length s.noted))
      go true e = last_write_written owner records x (length s.noted) _ is (ap (λ b. b && same_slot x d.slot) (writing_writes d.kind q) ∙ e)
      go false e =
          last_write_kept owner records x (length s.noted) _ is (ap (λ b. b && same_slot x d.slot) (writing_writes d.kind q) ∙ e)
          ∙ ap (λ b. or_else (last_write owner records x (length s.noted)) (if b then Some (length s.noted) else Absent)) (writing_creates d.kind (length s.noted) d.entity x q)
          ∙ or_else_absent owner records (last_write owner records x (length s.noted))

  slot_fits : (b : Bool) (new : Held numbers) (old : Option (Held numbers)) (n : ℕ) (w : Option ℕ) → new.from_data ≡ data_closure owner records n → new.from_all ≡ closure owner records n → SlotAgrees owner records old w → SlotAgrees owner records (if b then Some new else old) (if b then Some n else w)
  slot_fits true new old n w data_is all_is before = (data_is, all_is)
  slot_fits false new old n w data_is all_is before = before

  pub inv_written : (d : Draft) (c : Carried numbers) (s : State numbers) → IsWriting d.kind → slice_get records (length s.noted) ≡ Some (next_event d c s).event → Agrees owner records s → Fits c (length s.noted) → Agrees owner records (with_stored d.slot (held_by d.value (next_event d c s)) (with_event (next_event d c s) s))
  unfolding with_event with_stored slot_with held_by
  inv_written d c s q is inv fits =
      record {
        store = λ x. subst (λ w. SlotAgrees owner records (slot_with d.slot (held_by d.value (next_event d c s)) s.store x) w) (sym (write_last d c s q is x))
            (slot_fits (same_slot x d.slot) (held_by d.value (next_event d c s)) (s.store x) (length s.noted) _ (event_by_data d c s is fits) (event_by_all d c s is inv fits) (inv.store x));
        noted = noted_more d c s is inv fits;
        active = EntriesAgree_up (length s.noted) (suc (length s.noted)) s.active (omega arith) inv.active;
      }

  -- ---- creations

  abbrev pub IsCreating : Kind → Type 0
  IsCreating kind.New = Unit {0}
  IsCreating kind.Init = Unit {0}
  IsCreating _ = ⊥

  creating_writes : (k : Kind) → IsCreating k → is_write k ≡ false
  unfolding is_write
  creating_writes kind.New q = refl
  creating_writes kind.Init q = refl
  creating_writes _ q = absurd q

  created_fits : (b : Bool) (new : Held numbers) (old : Option (Held numbers)) (n : ℕ) (w : Option ℕ) → new.from_data ≡ data_closure owner records n → new.from_all ≡ closure owner records n → SlotAgrees owner records old w → SlotAgrees owner records (if_empty old (if b then Some new else Absent)) (or_else w (if b then Some n else Absent))
  unfolding if_empty or_else
  created_fits b new Absent n (Some k) data_is all_is before = absurd before
  created_fits b new (Some h) n Absent data_is all_is before = absurd before
  created_fits b new (Some h) n (Some k) data_is all_is before = before
  created_fits true new Absent n Absent data_is all_is before = (data_is, all_is)
  created_fits false new Absent n Absent data_is all_is before = tt

module _ (p : Program) (records : List Recorded) where
  pub inv_created : (d : Draft) (c : Carried numbers) (s : State numbers) → IsCreating (owner_in p) records d.kind → slice_get records (length s.noted) ≡ Some (next_event d c s).event → Agrees (owner_in p) records s → Fits (owner_in p) records c (length s.noted) → Agrees (owner_in p) records (with_created p (length s.noted) (next_event d c s) (with_event (next_event d c s) s))
  unfolding with_event with_created held_by writes next_event
  inv_created d c s q is inv fits =
      record {
        store = λ x. subst (λ w. SlotAgrees (owner_in p) records (if_empty (s.store x) (if creates (owner_in p) (length s.noted) x (next_event d c s).event then Some (held_by (default_in p (next_event d c s).event x) (next_event d c s)) else Absent)) w)
            (sym (last_write_kept (owner_in p) records x (length s.noted) _ is (ap (λ b. b && same_slot x d.slot) (creating_writes (owner_in p) records d.kind q))))
            (created_fits (owner_in p) records (creates (owner_in p) (length s.noted) x (next_event d c s).event) (held_by (default_in p (next_event d c s).event x) (next_event d c s)) (s.store x) (length s.noted) (last_write (owner_in p) records x (length s.noted)) (event_by_data (owner_in p) records d c s is fits) (event_by_all (owner_in p) records d c s is inv fits) (inv.store x));
        noted = noted_more (owner_in p) records d c s is inv fits;
        active = EntriesAgree_up (owner_in p) records (length s.noted) (suc (length s.noted)) s.active (omega arith) inv.active;
      }
