-- What a run shows of its active entries. The sets that its values carry are joined and never looked into: carried as terms, they
-- show how they were joined, and so which entries were active as an event was recorded.
use Rattle.std.specs.Prelude.{◌≡◌, ℕ, List, [], ◌∷◌, ◌++◌, map, Option, Some, slice_get}
use Rattle.std.specs.Prelude.{None as Absent}
use Rattle.std.specs.Option.{option_to_list}
use Rattle.wy_kernel.specs.Form.{Statement}
use Rattle.wy_kernel.specs.Program.{Program}
use Rattle.wy_steps.specs.Sets.{Sets}
use Rattle.wy_steps.specs.State.{Carried, Noted, Active, State}
use Rattle.wy_steps.specs.Steps.{Draft, next_event, control_set, parent}
use Rattle.wy_meaning.specs.Statement.{exec}
use Rattle.wy_meaning.specs.Run.{world, end, history}

-- how a set was put together
pub data Joined : Type 0 where
  Empty : Joined
  One : ℕ → Joined
  Both : Joined → Joined → Joined

abbrev pub joined : Sets
joined = record { set = Joined; empty = Empty; one = One; both = Both }

-- the event whose set it is: such a set begins with the event itself
unfoldable pub event_in_set : Joined → Option ℕ
event_in_set (Both (One n) others) = Some n
event_in_set _ = Absent

-- the events of the entries whose sets were joined
unfoldable pub entries_in : Joined → List ℕ
entries_in (Both a rest) = option_to_list (event_in_set a) ++ entries_in rest
entries_in _ = []

-- an event comes from itself, its operands and the active entries: these, the newest first
unfoldable pub active_in : Joined → List ℕ
active_in (Both own (Both operands control)) = entries_in control
active_in _ = []

-- each entry has the set of its event
abbrev pub AreNamed : List (Active joined) → Type 0
AreNamed [] = Unit {0}
AreNamed (a ∷ rest) = (event_in_set a.from_all ≡ Some a.number) × AreNamed rest

-- what is recorded while such entries are active shows them
abbrev pub ActiveAreRead : Type 0
ActiveAreRead =
    (d : Draft) (c : Carried joined) (s : State joined) → AreNamed s.active →
    active_in (next_event d c s).from_all ≡ map (λ a. a.number) s.active

-- each event of a run does: what it carries was put together of itself, its operands and such entries, of which the newest is its
-- control parent
pub record ShowsEntries (m : ℕ) (e : Noted joined) : Type 0 where
  pub entries : List (Active joined)
  pub operands : Joined
  pub named : AreNamed entries
  pub from_all : e.from_all ≡ Both (One m) (Both operands (control_set entries))
  pub newest : e.event.control ≡ parent entries

abbrev pub EventsShowEntries : Program → Type 0
EventsShowEntries p =
    (input : List ℕ) (budget m : ℕ) (e : Noted joined) → slice_get (history joined p input budget) m ≡ Some e →
    ShowsEntries m e

-- entries are such throughout: a run begins with none, and each statement keeps it
abbrev pub EntriesStayNamed : Program → Type 0
EntriesStayNamed p =
    (depth : ℕ) (x : Statement) (s : State joined) → AreNamed s.active →
    AreNamed (end (exec (world p depth) x s)).active
