-- Whether the frames that stand end with a seal.
use Rattle.std.specs.Prelude.{◌≡◌, ℕ, List, Option, Some}
use Rattle.std.specs.Prelude.{None as Absent}
use Rattle.wy_event.specs.declared.record.Tail.{Tail}
use Rattle.wy_frames.specs.declared.stage.Stage.{Stage}
use Rattle.wy_frames.specs.declared.stage.Stage.TheVariants as stages

abbrev pub IsUnsealed : Stage → Type 0
IsUnsealed (stages.Sealed tail seal) = ⊥
IsUnsealed _ = Unit {0}

abbrev pub IsEndOf : Option (Tail × List ℕ) → Stage → Type 0
IsEndOf (Some x) stage = stage ≡ stages.Sealed x.0 x.1
IsEndOf Absent stage = IsUnsealed stage
