-- The closure of an event by the closures of its sources, for every list of records.
use Rattle.std.specs.Prelude.{◌≡◌, ℕ, true, false, List, Some, option_to_list, slice_get}
use Rattle.wy_event.specs.Numbers.{only, union, union_of}
use Rattle.wy_event.specs.Record.{Recorded}
use Rattle.wy_event.specs.Sources.{Owners, event_sources, source_events, closure, data_closure}
use Rattle.law_carried.specs.Agreement.{ArePast, AllBelow}

-- an event whose uses and control parent are past is in its closure, and with it what is in the closures of its sources, and nothing else
abbrev pub ClosuresAreOfSources : Type 0
ClosuresAreOfSources = (owner : Owners) (records : List Recorded) (n : ℕ) (e : Recorded) → slice_get records n ≡ Some e → ArePast n e.uses → AllBelow n (option_to_list e.control) →
    closure owner records n ≡ union (only n) (union_of (closure owner records) (source_events true (event_sources owner records e)))

abbrev pub DataClosuresAreOfSources : Type 0
DataClosuresAreOfSources = (owner : Owners) (records : List Recorded) (n : ℕ) (e : Recorded) → slice_get records n ≡ Some e → ArePast n e.uses →
    data_closure owner records n ≡ union (only n) (union_of (data_closure owner records) (source_events false (event_sources owner records e)))
