-- What each event of a run comes from, as the run carried it, and what the records alone give.
use Rattle.std.specs.Prelude.{◌≡◌, ℕ, ◌≤◌, true, false, List, length, Option, Some, option_to_list, slice_get}
use Rattle.std.specs.Prelude.{None as Absent}
use Rattle.wy_kernel.specs.Program.{Program}
use Rattle.wy_event.specs.declared.record.Slot.{Slot}
use Rattle.wy_event.specs.declared.record.Use.{Use}
use Rattle.wy_event.specs.Record.{Recorded}
use Rattle.wy_event.specs.Numbers.{Numbers, only, union, union_of}
use Rattle.wy_event.specs.Sources.{Owners, use_sources, source_events, last_write, closure, data_closure}
use Rattle.wy_steps.specs.Sets.{numbers}
use Rattle.wy_steps.specs.State.{Held, Store, Noted}
use Rattle.wy_steps.specs.Steps.{owner_in}
use Rattle.wy_meaning.specs.Run.{history, events, final_store}

-- the members of each event's two sets, looked up backward, are those that were carried forward
abbrev pub BackwardIsForward : Program → List ℕ → ℕ → Type 0
BackwardIsForward p input budget =
    (n : ℕ) (e : Noted numbers) → slice_get (history numbers p input budget) n ≡ Some e → (k : ℕ) →
    (data_closure (owner_in p) (events numbers p input budget) n k ≡ e.from_data k) × (closure (owner_in p) (events numbers p input budget) n k ≡ e.from_all k)

abbrev pub before_or : Option (Noted numbers) → Store numbers → Store numbers
before_or (Some e) final = e.before
before_or Absent final = final

-- what the store held just before event m, or at the end
abbrev pub stored_at : Program → List ℕ → ℕ → ℕ → Store numbers
stored_at p input budget m = before_or (slice_get (history numbers p input budget) m) (final_store numbers p input budget)

-- where the records have a last write of a slot below a moment, the store then held what that event came from
abbrev pub StoredIsLastWrite : Program → List ℕ → ℕ → Type 0
StoredIsLastWrite p input budget =
    (m : ℕ) (x : Slot) (w : ℕ) (e : Noted numbers) → m ≤ length (history numbers p input budget) →
    last_write (owner_in p) (events numbers p input budget) x m ≡ Some w → slice_get (history numbers p input budget) w ≡ Some e →
    (h : Held numbers) × (stored_at p input budget m x ≡ Some h) × ((k : ℕ) → h.from_data k ≡ e.from_data k) × ((k : ℕ) → h.from_all k ≡ e.from_all k)

-- what the records give for a list of uses: the data closures of their data sources, and the closures of all their sources
abbrev pub data_of_uses : Owners → List Recorded → List Use → Numbers
data_of_uses owner records us = union_of (data_closure owner records) (source_events false (use_sources owner records us))

abbrev pub all_of_uses : Owners → List Recorded → List Use → Numbers
all_of_uses owner records us = union_of (closure owner records) (source_events true (use_sources owner records us))

-- what was carried to an event is what the records give for its uses, and in all also for its control parent
abbrev pub UsesDetermineSets : Program → List ℕ → ℕ → Type 0
UsesDetermineSets p input budget =
    (n : ℕ) (e : Noted numbers) → slice_get (history numbers p input budget) n ≡ Some e → (k : ℕ) →
    (e.from_data k ≡ union (only n) (data_of_uses (owner_in p) (events numbers p input budget) e.event.uses) k) ×
    (e.from_all k ≡ union (only n) (union (all_of_uses (owner_in p) (events numbers p input budget) e.event.uses) (union_of (closure (owner_in p) (events numbers p input budget)) (option_to_list e.event.control))) k)
