-- What is written of frames with their locals, and of a value that is shown.
use Rattle.std.specs.Prelude.{ℕ, List, ◌++◌, codes}
use Rattle.std.specs.List.{flat_map}
use Rattle.wy_kernel.specs.Program.{Program}
use Rattle.wy_value.specs.declared.value.Value.{Value}
use Rattle.wy_event.specs.Record.{Recorded}
use Rattle.wy_travel.specs.declared.frames.Frame.{Frame}
use Rattle.wy_travel.specs.Backtrace.{StackFrame, stack_frame}
use Rattle.wy_text.specs.EndLines.{line_of}
use Rattle.wy_text.specs.FrameLines.{frame_line, local_line}
use Rattle.wy_text.specs.Values.{value_text}

-- a line a local
abbrev pub locals_text : Program → List Recorded → ℕ → List (ℕ × Value) → List ℕ
locals_text p records call locals = flat_map (λ l. local_line p records call l.0 l.1) locals

-- a frame, and its locals under it
abbrev pub stack_frame_text : Program → List Recorded → StackFrame → List ℕ
stack_frame_text p records f = frame_line p records f.call ++ locals_text p records f.call f.locals

-- of frames in memory
abbrev pub frames_text : Program → List Recorded → List Frame → List ℕ
frames_text p records frames = flat_map (λ f. stack_frame_text p records (stack_frame f)) frames

-- the innermost frame first
unfoldable pub backtrace_text : Program → List Recorded → List StackFrame → List ℕ
backtrace_text p records frames = flat_map (stack_frame_text p records) frames

unfoldable pub shown_line : Program → List Recorded → Value → List ℕ
shown_line p records value = line_of (codes "= " ++ value_text p records value)
