-- The recorders of a call.
use Rattle.std.specs.Prelude.{◌≡◌}
use Rattle.wy_record.specs.declared.recorder.Phase.{Phase}
use Rattle.wy_record.specs.declared.recorder.Phase.TheVariants.{Ready}

-- none of the four was started, by their phases
abbrev pub AreReady : Phase → Phase → Phase → Phase → Type 0
AreReady write compare memory quiet = (write ≡ Ready) × (compare ≡ Ready) × (memory ≡ Ready) × (quiet ≡ Ready)
