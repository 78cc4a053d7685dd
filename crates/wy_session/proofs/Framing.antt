-- The lines of frames, one frame behind another.
use Rattle.std.proofs.Common.{◌≡◌, ◌∙◌, ℕ, ◌+◌, ◌<◌, List, ◌++◌, length, take, get_or, sym, ap}
use Rattle.std.specs.Prelude.{map}
use Rattle.std.specs.List.{flat_map}
use Rattle.std.proofs.lemmas.List.{flat_map_more, take_more}
use Rattle.std.proofs.lemmas.List.Folds.{flat_map-map}
use Rattle.wy_kernel.specs.Program.{Program}
use Rattle.wy_event.specs.Record.{Recorded}
use Rattle.wy_travel.specs.declared.frames.Frame.{Frame}
use Rattle.wy_travel.specs.Backtrace.{stack_frame}
use Rattle.wy_session.specs.Frames.{backtrace_text, frames_text, stack_frame_text}

pub one_more : {X : Type 0} (f : X → List ℕ) (xs : List X) (i : ℕ) (d : X) (old text more : List ℕ) → i < length xs → text ≡ old ++ flat_map f (take i xs) → more ≡ text ++ f (get_or xs i d)
    → more ≡ old ++ flat_map f (take (i + 1) xs)
one_more f xs i d old text more lt so_far is =
    is ∙ ap (λ (t : List ℕ). t ++ f (get_or xs i d)) so_far ∙ flat_map_more f old (take i xs) (get_or xs i d) ∙ sym (ap (λ l. old ++ flat_map f l) (take_more xs i d lt))

-- of frames in memory and of what contracts see of them
pub one_text : (p : Program) (rs : List Recorded) (frames : List Frame) → frames_text p rs frames ≡ backtrace_text p rs (map stack_frame frames)
unfolding backtrace_text
one_text p rs frames = sym (flat_map-map (stack_frame_text p rs) stack_frame frames)
