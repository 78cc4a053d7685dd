-- A trace that was decoded, and that is opened for what is asked of it.
use Rattle.std.specs.Prelude.{◌≡◌, ◌<◌, ◌≤◌, ◌^◌, ℕ, List, length, map, Ok, Some}
use Rattle.wy_kernel.specs.Limits.{trace_limit}
use Rattle.wy_kernel.specs.declared.program.Program.{Program}
use Rattle.wy_event.specs.Record.{recorded}
use Rattle.wy_event.specs.declared.record.Cover.{Cover}
use Rattle.wy_event.specs.declared.record.Trace.{Trace}
use Rattle.law_reading.specs.Spelled.{AreBytes}
use Rattle.wy_frames.specs.Traces.{IsReadAs}
use Rattle.wy_view.specs.References.{AllRefersBelow}
use Rattle.wy_view.specs.View.{Told}
use Rattle.wy_view.specs.declared.memory.MemoryView.{MemoryView}
use Rattle.wy_ask.specs.declared.opened.Opened.{Opened}
use Rattle.wy_reply.specs.Tellings.{covers_of}

-- a file of these bytes is read as this trace, under a program
pub record IsDecoded (p : Program) (bytes : List ℕ) (t : Trace) : Type 0 where
  pub are_bytes : AreBytes bytes
  pub short : length bytes ≤ trace_limit
  pub reads : IsReadAs p bytes (Ok t)

-- events of memory that a view holds
pub record IsViewable (t : Trace) : Type 0 where
  pub few : length t.events < 2 ^ 32
  pub refer_below : AllRefersBelow t.events

-- what a view tells, and what is told of the statements, is of this trace
pub record IsViewOf (t : Trace) (told : Told) (listed : List Cover) : Type 0 where
  pub records : told.records ≡ Some (map recorded t.events)
  pub covers : listed ≡ covers_of t

-- an opened trace in memory is this one
pub record IsOpenedTrace (t : Trace) (o : Opened MemoryView) : Type 0 where
  pub events : map recorded o.view.events.items ≡ map recorded t.events
  pub covers : o.coverage.now ≡ covers_of t
