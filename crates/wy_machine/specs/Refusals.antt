-- A refusal of a run, as a recorder says it, and the phase of the recorder then.
use Rattle.std.specs.Prelude.{Result, Ok, Err}
use Rattle.wy_record.specs.declared.recorder.Phase.{Phase}
use Rattle.wy_record.specs.declared.recorder.Phase.TheVariants.{Failed, Recording}
use Rattle.wy_record.specs.declared.recorder.RecordError.{RecordError}
use Rattle.wy_record.specs.declared.recorder.RecordError.TheVariants as refusal
use Rattle.wy_machine.specs.declared.refusal.RunError.{RunError}
use Rattle.wy_machine.specs.declared.refusal.RunError.TheVariants.{Recorder, NoMemory}

-- that of the recorder, or want of memory
abbrev pub told : RunError → RecordError
told (Recorder e) = e
told NoMemory = refusal.NoMemory

abbrev pub as_told : {X : Type 0} → Result X RunError → Result X RecordError
as_told (Ok x) = Ok x
as_told (Err e) = Err (told e)

-- it goes on recording, but where it refused itself
abbrev pub phase_after : {X : Type 0} → Result X RunError → Phase
phase_after (Err (Recorder e)) = Failed
phase_after _ = Recording
