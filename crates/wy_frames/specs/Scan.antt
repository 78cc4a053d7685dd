-- How far bytes behind a head are a trace, frame by frame.
use Rattle.std.specs.Prelude.{◌≡◌, ℕ, Bool, true, false, List, ◌∷◌, ◌++◌, length, Option, Some, Ok, Err}
use Rattle.std.specs.Prelude.{None as Absent}
use Rattle.wy_payload.specs.declared.fault.DamageRule.TheVariants as rule
use Rattle.wy_payload.specs.declared.ranges.Ranges.{Ranges}
use Rattle.wy_frames.specs.declared.error.TraceError.{TraceError}
use Rattle.wy_frames.specs.declared.error.TraceError.TheVariants.{Damaged, BadSeal, NoMemory}
use Rattle.wy_frames.specs.declared.stage.ReadEvent.{ReadEvent}
use Rattle.wy_frames.specs.declared.stage.Stage.{Stage}
use Rattle.wy_frames.specs.declared.stage.Stage.TheVariants as stages
use Rattle.wy_frames.specs.declared.past.Past.{Past}
use Rattle.wy_frames.specs.Frames.{Frame, frame_of}
use Rattle.wy_frames.specs.Progress.{Progress, Next, Violates, Unsealed, next_of}
use Rattle.wy_frames.specs.Holds.{Holds}

-- what comes of the bytes behind what stands: more are needed, or a frame more stands, or something is wrong
pub data Turn : Type 0 where
  Waits : Turn
  Goes : Progress → List ℕ → Turn
  Fails : TraceError → Turn

abbrev pub turn_next : Progress → List ℕ → Next → Turn
turn_next s rest (Ok t) = Goes t rest
turn_next s rest (Err (Violates r)) = Fails (Damaged (length s.before) r)
turn_next s rest (Err Unsealed) = Fails BadSeal

-- nothing may stand behind the seal
abbrev pub is_passed : Stage → List ℕ → Bool
is_passed (stages.Sealed t seal) (b ∷ bytes) = true
is_passed _ bytes = false

abbrev pub without_frame : ℕ → Bool → Turn
without_frame at true = Fails (Damaged at rule.After)
without_frame at false = Waits

abbrev pub turn_frame : (Frame → Next) → Progress → List ℕ → Option Frame → Turn
turn_frame next s bytes Absent = without_frame (length s.before) (is_passed s.stage bytes)
turn_frame next s bytes (Some f) = turn_next s f.rest (next f)

-- by the ranges of the program and the step budget of the head
unfoldable pub turn : Ranges → ℕ → Progress → List ℕ → Turn
turn r steps s bytes = turn_frame (next_of r steps s) s bytes (frame_of bytes)

-- from what stands at first, so much stands with these bytes, and these are left of them
pub data Leaves (r : Ranges) (steps : ℕ) (from : Progress) (bytes : List ℕ) : Progress → List ℕ → Type 0 where
  nothing : Leaves r steps from bytes from bytes
  frame : (s : Progress) (rest : List ℕ) (t : Progress) (others : List ℕ) → Leaves r steps from bytes s rest → turn r steps s rest ≡ Goes t others → Leaves r steps from bytes t others

-- the first thing that is wrong with bytes, whatever follows them
pub record IsRefused (r : Ranges) (steps : ℕ) (from : Progress) (bytes : List ℕ) (e : TraceError) : Type 0 where
  pub standing : Progress
  pub rest : List ℕ
  pub leaves : Leaves r steps from bytes standing rest
  pub fails : turn r steps standing rest ≡ Fails e

-- unless memory ran out
abbrev pub Refused : Ranges → ℕ → Progress → List ℕ → TraceError → Type 0
Refused r steps from bytes NoMemory = Unit {0}
Refused r steps from bytes e = IsRefused r steps from bytes e

-- what is in memory stands, with these events more than before
pub record Reached (r : Ranges) (steps : ℕ) (from : Progress) (bytes : List ℕ) (s : Progress) (old new : List ReadEvent) (p : Past) (rest : List ℕ) : Type 0 where
  pub standing : Progress
  pub holds : Holds p standing
  pub leaves : Leaves r steps from bytes standing rest
  pub more : List ReadEvent
  pub placed : standing.placed ≡ s.placed ++ more
  pub kept : new ≡ old ++ more

-- and no frame more of the bytes is whole
abbrev pub Rests : Ranges → ℕ → Progress → List ℕ → Progress → List ReadEvent → List ReadEvent → Past → List ℕ → Type 0
Rests r steps from bytes s old new p rest = (x : Reached r steps from bytes s old new p rest) × (turn r steps x.standing rest ≡ Waits)
