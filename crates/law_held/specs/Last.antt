-- The value that the store of a run last had in a slot.
-- Only an event gives a slot a value, and between two events a declaration can do no more than take one away: so the stores just
-- after the events show each value that a slot ever had.
use Rattle.std.specs.Prelude.{◌≡◌, ◌⊎◌, ◌≤◌, ℕ, zero, suc, if◌then◌else◌, List, length, Option, Some, slice_get}
use Rattle.std.specs.Prelude.{None as Absent}
use Rattle.std.specs.List.{AllByRecursion}
use Rattle.wy_kernel.specs.Program.{Program}
use Rattle.wy_value.specs.declared.value.Value.{Value}
use Rattle.wy_value.specs.declared.value.Value.TheVariants.{None as Nothing}
use Rattle.wy_event.specs.declared.record.Slot.{Slot}
use Rattle.wy_event.specs.Sources.{is_write, creates}
use Rattle.wy_steps.specs.Sets.{Sets}
use Rattle.wy_steps.specs.State.{Carried, Store, Noted, State}
use Rattle.wy_steps.specs.Steps.{default_in, owner_in, held_of, held_by, slot_with, if_empty, Draft, next_event, with_event, with_stored, with_created}
use Rattle.wy_meaning.specs.Run.{history, events, final_store}
use Rattle.wy_typing.specs.Programs.{IsProgram}
use Rattle.law_induction.specs.Law.{IsNoted, IsWrite, IsCreated}
use Rattle.law_typed_states.specs.Typed.{KeepsLibrary}
use Rattle.law_in_range.specs.InRange.{FitsText, IsByteOf, Text}
use Rattle.wy_travel.specs.Held.{held}

-- ---- the stores of a run

-- what event n creates holds its default, where the slot held nothing
unfoldable pub store_created : {A : Sets} → Program → ℕ → Noted A → Store A
store_created p n e x = if_empty (e.before x) (if creates (owner_in p) n x e.event then Some (held_by (default_in p e.event x) e) else Absent)

-- the store just after event n: a write gives its slot the value, and no other event changes a slot that held something
unfoldable pub store_after : {A : Sets} → Program → ℕ → Noted A → Store A
store_after p n e = if is_write e.event.kind then slot_with e.event.slot (held_by e.event.value e) e.before else store_created p n e

-- so the steps of a run leave the store
pub record StoresAreLeftSo (A : Sets) (p : Program) : Type 0 where
  pub noted : (d : Draft) (c : Carried A) (s : State A) (x : Slot) → IsNoted d c →
      (with_event (next_event d c s) s).store x ≡ store_after p (length s.noted) (next_event d c s) x
  pub written : (d : Draft) (c : Carried A) (s : State A) (x : Slot) → IsWrite d c →
      (with_stored d.slot (held_by d.value (next_event d c s)) (with_event (next_event d c s) s)).store x ≡ store_after p (length s.noted) (next_event d c s) x
  pub created : (d : Draft) (c : Carried A) (s : State A) (x : Slot) → IsCreated d c →
      (with_created p (length s.noted) (next_event d c s) (with_event (next_event d c s) s)).store x ≡ store_after p (length s.noted) (next_event d c s) x

unfoldable pub value_in : {A : Sets} → Store A → Slot → Value
value_in store x = (held_of (store x)).value

-- ---- what a slot last had

unfoldable pub value_after : {A : Sets} → Program → ℕ → Option (Noted A) → Slot → Value
value_after p n Absent x = Nothing
value_after p n (Some e) x = value_in (store_after p n e) x

-- a value, or where it is none the one before it
unfoldable pub or_before : Value → Value → Value
or_before Nothing earlier = earlier
or_before v earlier = v

-- the value that a slot last had before event m, or none where it never had one
unfoldable pub last_had : {A : Sets} → Program → List (Noted A) → Slot → ℕ → Value
last_had p history x zero = Nothing
last_had p history x (suc m) = or_before (value_after p m (slice_get history m) x) (last_had p history x m)

-- the store just before an event, or at the end
abbrev pub store_before : {A : Sets} → Option (Noted A) → Store A → Store A
store_before (Some e) final = e.before
store_before Absent final = final

unfoldable pub stored_before : (A : Sets) → Program → List ℕ → ℕ → ℕ → Store A
stored_before A p input budget m = store_before (slice_get (history A p input budget) m) (final_store A p input budget)

-- ---- what the records give for a slot is that

abbrev pub HeldIsLastHad : Sets → Program → List ℕ → ℕ → Type 0
HeldIsLastHad A p input budget =
    (x : Slot) (m : ℕ) → m ≤ length (history A p input budget) →
    last_had p (history A p input budget) x m ≡ held p (events A p input budget) x m

-- and what the store has in it just before an event, or at the end, is nothing or that
abbrev pub StoreHasHeld : Sets → Program → List ℕ → ℕ → Type 0
StoreHasHeld A p input budget =
    (x : Slot) (m : ℕ) → m ≤ length (history A p input budget) →
    (value_in (stored_before A p input budget m) x ≡ Nothing) ⊎
    (value_in (stored_before A p input budget m) x ≡ held p (events A p input budget) x m)

-- ---- in every run

-- whatever the bytes of its input and its budget are
abbrev pub HeldWasLastHad : Sets → Program → Type 0
HeldWasLastHad A p = (input : List ℕ) (budget : ℕ) → AllByRecursion IsByteOf input → HeldIsLastHad A p input budget

abbrev pub StoresHaveHeld : Sets → Program → Type 0
StoresHaveHeld A p = (input : List ℕ) (budget : ℕ) → StoreHasHeld A p input budget

-- it holds of each program that fits its types, keeps the library and fits its text
abbrev pub OfFitting : (Program → Type 0) → Type 0
OfFitting Q = (text : Text) (p : Program) → IsProgram p → KeepsLibrary p → FitsText text p → Q p
