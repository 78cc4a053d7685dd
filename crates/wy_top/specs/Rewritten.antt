-- A trace that is written anew is migrated, and its file tells what that of the trace tells.
use Rattle.std.specs.Prelude.{◌≡◌, ℕ, List, map}
use Rattle.wy_kernel.specs.declared.program.Program.{Program}
use Rattle.wy_kernel.specs.Limits.{trace_limit}
use Rattle.wy_event.specs.Record.{recorded}
use Rattle.wy_event.specs.declared.record.Trace.{Trace}
use Rattle.wy_event.specs.declared.record.Version.TheVariants as version
use Rattle.wy_fitting.specs.Fits.{AllFit, EndFits}
use Rattle.wy_outside.specs.Shelf.{Files}
use Rattle.law_reading.specs.Spelled.{AreBytes}
use Rattle.wy_reply.specs.Migrations.{bytes_of}
use Rattle.wy_reply.specs.Recordings.{trace_spelling}
use Rattle.wy_reply.specs.Tellings.{Wanted}
use Rattle.wy_reply.specs.Tellings as wanted
use Rattle.wy_top.specs.Call.{IsOpened}
use Rattle.wy_top.specs.Due.{DueForTrace}
use Rattle.wy_top.specs.Held.{Holds}

-- of the trace of a program nothing is due but how many events it has
abbrev pub SealedTracesAreMigrated : Type 0
SealedTracesAreMigrated =
    (files : Files) (name : List ℕ) (p : Program) (t : Trace) (status : ℕ) (text : List ℕ)
    → IsOpened files name p t → DueForTrace files name wanted.Migrate status text → status ≡ 0

-- the file of a name is a trace in either version, each number of which fits the bytes that it is spelled in, and that of another is the same
-- trace in version 2
pub record AreOneTrace (files : Files) (name : List ℕ) (others : Files) (other : List ℕ) : Type 0 where
  pub program : Program
  pub trace : Trace
  pub opened : IsOpened files name program trace
  pub are_bytes : AreBytes opened.bytes
  pub events_fit : AllFit (map recorded trace.events)
  pub end_fits : EndFits trace.tail
  pub anew : Holds others other trace_limit (bytes_of (trace_spelling version.Two) trace)

-- a certificate has the seal of its trace, and nothing else that can be wanted has it
abbrev pub HasNoSeal : Wanted → Type 0
HasNoSeal (wanted.Certify question) = ⊥
HasNoSeal (wanted.Check given) = ⊥
HasNoSeal _ = Unit {0}

-- what is due for either is due for the other
abbrev pub MigratedTracesTellTheSame : Type 0
MigratedTracesTellTheSame =
    (files others : Files) (name other : List ℕ) (w : Wanted) (status : ℕ) (text : List ℕ)
    → AreOneTrace files name others other → HasNoSeal w
    → (DueForTrace files name w status text → DueForTrace others other w status text)
    × (DueForTrace others other w status text → DueForTrace files name w status text)
