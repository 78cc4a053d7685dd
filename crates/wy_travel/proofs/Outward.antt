-- One frame further out.
use Rattle.std.proofs.Common.{◌≡◌, ◌∙◌, ◌+◌, ◌-◌, ◌<◌, ◌≤◌, ℕ, zero, suc, List, [], ◌∷◌, ◌++◌, length, length-append, Option, Some, sym, ap, arith, append_assoc}
use Rattle.std.proofs.Math.Nat.{sub-zero}
use Rattle.std.proofs.lemmas.List.{append-nil, map-append}
use Rattle.std.specs.Prelude.{None as Absent}
use Rattle.std.specs.Prelude.{map, slice_get}
use Rattle.wy_kernel.specs.Program.{Program}
use Rattle.wy_event.specs.Record.{Recorded}
use Rattle.wy_view.specs.References.{OptionBelow}
use Rattle.wy_travel.specs.declared.frames.Frame.{Frame}
use Rattle.wy_travel.specs.Backtrace.{StackFrame, backtrace, stack_frame, stack_frame_at}
use Rattle.wy_travel.specs.Frames.{frame_of, frames, frames_within}
use Rattle.wy_travel.specs.Locals.{frame_body, local_count, written_among, written_locals}

pub option_up : (n m : ℕ) (o : Option ℕ) → n ≤ m → OptionBelow n o → OptionBelow m o
option_up n m Absent le below = tt
option_up n m (Some k) le below = omega (arith, le, below)

-- the frames that are shown, and those further out
pub shown_from : Program → List Recorded → ℕ → List Frame → Option ℕ → List StackFrame
shown_from p rs m done next = map stack_frame done ++ map (stack_frame_at p rs m) (frames_within (m - length done) rs next)

pub none_shown : (p : Program) (rs : List Recorded) (m : ℕ) (next : Option ℕ) → next ≡ frame_of (slice_get rs m) → shown_from p rs m [] next ≡ backtrace p rs m
unfolding shown_from backtrace frames
none_shown p rs m next is = ap (λ k. map (stack_frame_at p rs m) (frames_within k rs next)) (sub-zero m) ∙ ap (λ f. map (stack_frame_at p rs m) (frames_within m rs f)) is

pub all_shown : (p : Program) (rs : List Recorded) (m : ℕ) (done : List Frame) → map stack_frame done ≡ shown_from p rs m done Absent
unfolding shown_from frames_within
all_shown p rs m done = go (m - length done)
  where
    go : (k : ℕ) → map stack_frame done ≡ map stack_frame done ++ map (stack_frame_at p rs m) (frames_within k rs Absent)
    go zero = sym (append-nil (map stack_frame done))
    go (suc k) = sym (append-nil (map stack_frame done))

-- the next frame is shown behind those that are, with its locals
pub one_further : (p : Program) (rs : List Recorded) (m : ℕ) (done : List Frame) (frame : Frame) (count : ℕ) (next : Option ℕ) → frame.call < m - length done
    → frame.locals.items ≡ written_among p rs frame.call m count → count ≡ local_count (frame_body p (slice_get rs frame.call)) → next ≡ frame_of (slice_get rs frame.call)
    → shown_from p rs m (done ++ frame ∷ []) next ≡ shown_from p rs m done (Some frame.call)
unfolding shown_from frames_within written_locals
one_further p rs m done frame count next lt locals counted is =
    let longer : length (done ++ frame ∷ []) ≡ length done + 1 = length-append done (frame ∷ []) in
    let fuel : m - length done ≡ suc (m - length (done ++ frame ∷ [])) = omega (arith, lt, longer) in
    let itself : stack_frame frame ≡ stack_frame_at p rs m frame.call = ap (λ l. record { call = frame.call; locals = l }) (locals ∙ ap (written_among p rs frame.call m) counted) in
    ap (λ l. l ++ map (stack_frame_at p rs m) (frames_within (m - length (done ++ frame ∷ [])) rs next)) (map-append stack_frame done (frame ∷ []))
    ∙ append_assoc (map stack_frame done) (stack_frame frame ∷ []) (map (stack_frame_at p rs m) (frames_within (m - length (done ++ frame ∷ [])) rs next))
    ∙ ap (λ f. map stack_frame done ++ f ∷ map (stack_frame_at p rs m) (frames_within (m - length (done ++ frame ∷ [])) rs next)) itself
    ∙ ap (λ f. map stack_frame done ++ stack_frame_at p rs m frame.call ∷ map (stack_frame_at p rs m) (frames_within (m - length (done ++ frame ∷ [])) rs f)) is
    ∙ ap (λ k. map stack_frame done ++ map (stack_frame_at p rs m) (frames_within k rs (Some frame.call))) (sym fuel)
