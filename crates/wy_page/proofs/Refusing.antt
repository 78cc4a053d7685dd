-- What is wrong with the first bytes is wrong with all of them.
use Rattle.std.proofs.Common.{◌≡◌, ℕ, List, [], ◌∷◌, ◌++◌, length, take, drop, Option, Some, Result, Ok, Err, refl, sym, ap, ◌∙◌, subst, inl, inr, take-append-drop}
use Rattle.std.specs.Prelude.{None as Absent}
use Rattle.wy_kernel.specs.declared.program.Program.{Program}
use Rattle.wy_event.specs.declared.record.Version.{Version}
use Rattle.wy_event.specs.declared.record.Head.{Head}
use Rattle.wy_event.specs.declared.record.Trace.{Trace}
use Rattle.wy_payload.specs.declared.ranges.Ranges.{Ranges}
use Rattle.wy_payload.specs.Ranges.{ranges_of}
use Rattle.wy_spelling.specs.Spelling.{opening}
use Rattle.wy_frames.specs.declared.error.TraceError.{TraceError}
use Rattle.wy_frames.specs.declared.error.TraceError.TheVariants.{BadSeal, Cut, Damaged, NoMemory}
use Rattle.wy_frames.specs.declared.stage.Stage.{Stage}
use Rattle.wy_frames.specs.declared.stage.Stage.TheVariants as stages
use Rattle.wy_frames.specs.Ends.{IsUnsealed}
use Rattle.wy_frames.specs.Frames.{Frame, frame_of}
use Rattle.wy_frames.specs.Heads.{head_of}
use Rattle.wy_frames.specs.Progress.{Next, Progress, Unsealed, Violates, covered_next, ended_next, next_at, next_of, open_next, start}
use Rattle.wy_frames.specs.Scan.{Fails, IsRefused, Leaves, Refused, Waits, is_passed, turn, turn_frame, turn_next, without_frame}
use Rattle.wy_frames.specs.Traces.{IsReadAs, IsReadBehind, ReadsAs}
use Rattle.wy_frames.proofs.Pieces.{frame_more, leaves_more, turn_is, with_rest}

at_stage : (r : Ranges) (steps : ℕ) (s : Progress) (stage : Stage) (f : Frame) (rest : List ℕ) → next_at r steps s stage (with_rest f rest) ≡ next_at r steps s stage f
unfolding next_at open_next covered_next ended_next
at_stage r steps s stages.Open f rest = refl
at_stage r steps s (stages.Covered c) f rest = refl
at_stage r steps s (stages.Ended t) f rest = refl
at_stage r steps s (stages.Sealed t seal) f rest = refl

any_rest : (s : Progress) (rest others : List ℕ) (next : Next) (e : TraceError) → turn_next s rest next ≡ Fails e → turn_next s others next ≡ Fails e
any_rest s rest others (Ok t) e is = absurd cc
any_rest s rest others (Err (Violates r)) e is = is
any_rest s rest others (Err Unsealed) e is = is

-- nothing may stand behind a seal, a frame neither
passed_more : (r : Ranges) (steps : ℕ) (s : Progress) (stage : Stage) (bytes more : List ℕ) (e : TraceError) (o : Option Frame) → without_frame (length s.before) (is_passed stage bytes) ≡ Fails e → turn_frame (next_at r steps s stage) (record { before = s.before; placed = s.placed; uses = s.uses; output = s.output; stage = stage }) (bytes ++ more) o ≡ Fails e
unfolding next_at
passed_more r steps s (stages.Sealed t seal) (b ∷ bytes) more e Absent is = is
passed_more r steps s (stages.Sealed t seal) (b ∷ bytes) more e (Some f) is = is
passed_more r steps s (stages.Sealed t seal) [] more e o is = absurd cc
passed_more r steps s stages.Open bytes more e o is = absurd cc
passed_more r steps s (stages.Covered c) bytes more e o is = absurd cc
passed_more r steps s (stages.Ended t) bytes more e o is = absurd cc

fails_more : (r : Ranges) (steps : ℕ) (s : Progress) (bytes more : List ℕ) (e : TraceError) → turn r steps s bytes ≡ Fails e → turn r steps s (bytes ++ more) ≡ Fails e
fails_more r steps s bytes more e is = by (frame_of bytes) refl (sym (turn_is r steps s bytes) ∙ is) where
  by : (o : Option Frame) → frame_of bytes ≡ o → turn_frame (next_of r steps s) s bytes o ≡ Fails e → turn r steps s (bytes ++ more) ≡ Fails e
  by (Some f) found fails =
      let others = f.rest ++ more in
      turn_is r steps s (bytes ++ more) ∙ ap (turn_frame (next_of r steps s) s (bytes ++ more)) (frame_more bytes more f found) ∙ ap (turn_next s others) (at_stage r steps s s.stage f others) ∙ any_rest s f.rest others (next_of r steps s f) e fails
  by Absent found fails = turn_is r steps s (bytes ++ more) ∙ passed_more r steps s s.stage bytes more e (frame_of (bytes ++ more)) fails

is_refused_more : (r : Ranges) (steps : ℕ) (from : Progress) (bytes more : List ℕ) (e : TraceError) → IsRefused r steps from bytes e → IsRefused r steps from (bytes ++ more) e
is_refused_more r steps from bytes more e x = record {
  standing = x.standing;
  rest = x.rest ++ more;
  leaves = leaves_more r steps from bytes more x.standing x.rest x.leaves;
  fails = fails_more r steps x.standing x.rest more e x.fails;
}

pub refused_more : (r : Ranges) (steps : ℕ) (from : Progress) (bytes more : List ℕ) (e : TraceError) → Refused r steps from bytes e → Refused r steps from (bytes ++ more) e
refused_more r steps from bytes more NoMemory x = tt
refused_more r steps from bytes more (Cut byte) x = is_refused_more r steps from bytes more (Cut byte) x
refused_more r steps from bytes more (Damaged byte d) x = is_refused_more r steps from bytes more (Damaged byte d) x
refused_more r steps from bytes more BadSeal x = is_refused_more r steps from bytes more BadSeal x

-- ---- of a file

read_with : (v : Version) (p : Program) (head : Head) (bytes : List ℕ) (r : Result Trace TraceError) → head_of bytes ≡ Ok (head, length (opening v head), v) → IsReadBehind v p head (drop (length (opening v head)) bytes) r → IsReadAs p bytes r
read_with v p head bytes r e h = rw e h

-- which begins so behind its head
pub refused_whole : (v : Version) (p : Program) (head : Head) (bytes fed : List ℕ) (e : TraceError) → head_of bytes ≡ Ok (head, length (opening v head), v) → fed ≡ take (length fed) (drop (length (opening v head)) bytes) → Refused (ranges_of v p) head.steps (start v head) fed e → ReadsAs (Err e) p bytes
refused_whole v p head bytes fed e is begin refused = by e (subst (λ (l : List ℕ). Refused (ranges_of v p) head.steps (start v head) l e) whole (refused_more (ranges_of v p) head.steps (start v head) fed (drop (length fed) rest) e refused)) where
  rest : List ℕ
  rest = drop (length (opening v head)) bytes

  whole : fed ++ drop (length fed) rest ≡ rest
  whole = ap (λ l. l ++ drop (length fed) rest) begin ∙ take-append-drop (length fed) rest

  by : (d : TraceError) → Refused (ranges_of v p) head.steps (start v head) rest d → ReadsAs (Err d) p bytes
  by NoMemory x = tt
  by (Cut byte) x = read_with v p head bytes (Err (Cut byte)) is (inl x)
  by (Damaged byte r) x = read_with v p head bytes (Err (Damaged byte r)) is (inl x)
  by BadSeal x = read_with v p head bytes (Err BadSeal) is (inl x)

-- all of which was read, with no seal
pub cut_whole : (v : Version) (p : Program) (head : Head) (bytes fed rest : List ℕ) (t : Progress) (byte : ℕ) → head_of bytes ≡ Ok (head, length (opening v head), v) → fed ≡ drop (length (opening v head)) bytes → Leaves (ranges_of v p) head.steps (start v head) fed t rest → turn (ranges_of v p) head.steps t rest ≡ Waits → byte ≡ length (opening v head ++ fed) → IsUnsealed t.stage → ReadsAs (Err (Cut byte)) p bytes
cut_whole v p head bytes fed rest t byte is behind leaves waits place unsealed =
    read_with v p head bytes (Err (Cut byte)) is (subst (λ (l : List ℕ). IsReadBehind v p head l (Err (Cut byte))) behind (inr (t, record { rest = rest; leaves = leaves; waits = waits }, unsealed, ap Cut place)))
