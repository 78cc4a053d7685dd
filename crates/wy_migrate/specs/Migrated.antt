-- What it leaves in a recorder, and in a view, that a trace was handed on from the one to the other, or that this was refused.
use Rattle.std.specs.Prelude.{◌≡◌, Bool, true, List, ℕ, Result, Ok, Err}
use Rattle.wy_record.specs.declared.recorder.Phase.{Phase}
use Rattle.wy_record.specs.declared.recorder.Phase.TheVariants.{Done, Failed, Recording}
use Rattle.wy_record.specs.declared.recorder.RecordError.{RecordError}
use Rattle.wy_record.specs.declared.recorder.RecordError.TheVariants.{Differs}
use Rattle.wy_record.specs.Recorders.{HavePrefix, Mirrors, with_more}
use Rattle.wy_view.specs.declared.view.ViewError.{ViewError}
use Rattle.wy_migrate.specs.declared.error.MigrationError.{MigrationError}
use Rattle.wy_migrate.specs.declared.error.MigrationError.TheVariants.{Recorder, View}

-- what the recorder answered: it refused nothing where an event was not given
abbrev pub of_recorder : {X : Type 0} → Result X MigrationError → Result Unit RecordError
of_recorder (Err (Recorder e)) = Err e
of_recorder _ = Ok tt

-- what the view answered: it gave each event that it was asked for where the recorder refused
abbrev pub of_view : {X : Type 0} → Result X MigrationError → Result Unit ViewError
of_view (Err (View e)) = Err e
of_view _ = Ok tt

-- the recorder has failed where it refused, and goes on recording where an event was not given
abbrev pub phase_after : {X : Type 0} → Phase → Result X MigrationError → Phase
phase_after at_end (Ok x) = at_end
phase_after at_end (Err (Recorder e)) = Failed
phase_after at_end (Err (View e)) = Recording

-- that an event is another than the one expected is answered by a recorder that compares alone
abbrev pub DiffersWhere : {X : Type 0} → Result X MigrationError → Bool → Type 0
DiffersWhere (Err (Recorder (Differs event))) compares = compares ≡ true
DiffersWhere _ compares = Unit {0}

-- each mirror that tells its bytes has these more, or where this was refused, a prefix of them
abbrev pub Takes : {X : Type 0} → Result X MigrationError → List ℕ → Mirrors → Mirrors → Type 0
Takes (Ok x) bytes old new = new ≡ with_more bytes old
Takes (Err e) bytes old new = HavePrefix bytes old new
