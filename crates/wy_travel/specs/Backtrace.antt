-- The frames at an event with their locals.
use Rattle.std.specs.Prelude.{ℕ, ◌<◌, List, All, map}
use Rattle.wy_kernel.specs.Program.{Program}
use Rattle.wy_value.specs.declared.value.Value.{Value}
use Rattle.wy_event.specs.Record.{Recorded}
use Rattle.wy_view.specs.References.{ValueBelow}
use Rattle.wy_travel.specs.declared.frames.Frame.{Frame}
use Rattle.wy_travel.specs.Frames.{frames}
use Rattle.wy_travel.specs.Locals.{written_locals}

-- the Call or Init of a body, and its written locals by number
pub record StackFrame : Type 0 where
  pub call : ℕ
  pub locals : List (ℕ × Value)

-- a frame in memory as contracts see it
abbrev pub stack_frame : Frame → StackFrame
stack_frame f = record { call = f.call; locals = f.locals.items }

-- a frame as it stood at a moment
abbrev pub stack_frame_at : Program → List Recorded → ℕ → ℕ → StackFrame
stack_frame_at p rs m f = record { call = f; locals = written_locals p rs f m }

-- the frames at an event, the innermost first
unfoldable pub backtrace : Program → List Recorded → ℕ → List StackFrame
backtrace p rs m = map (stack_frame_at p rs m) (frames rs m)

-- a frame is below an event, and so is what its locals hold
pub record IsBelow (m : ℕ) (f : Frame) : Type 0 where
  pub call : f.call < m
  pub locals : All (λ (l : ℕ × Value). ValueBelow m l.1) f.locals.items
