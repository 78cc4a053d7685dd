-- No byte is lost: what stands and what is left are the bytes.
use Rattle.std.proofs.Common.{◌≡◌, ℕ, ◌+◌, ◌≤◌, List, ◌++◌, length, drop, Bool, true, false, cond, eqb, Option, Some, Result, Ok, Err, refl, sym, ap, ◌∙◌, append_assoc, arith, length-append}
use Rattle.std.specs.Prelude.{None as Absent}
use Rattle.std.specs.Str.{bytes_eq}
use Rattle.std.proofs.lemmas.List.{take-append-drop, length-drop}
use Rattle.sha2.specs.Sha256.{sha256}
use Rattle.wy_kernel.specs.Limits.{trace_limit}
use Rattle.wy_event.specs.declared.record.Coverage.{Coverage}
use Rattle.wy_event.specs.declared.record.Tail.{Tail}
use Rattle.wy_payload.specs.declared.fault.DamageRule.{DamageRule}
use Rattle.wy_payload.specs.declared.fault.DamageRule.TheVariants as rule
use Rattle.wy_payload.specs.declared.ranges.Ranges.{Ranges}
use Rattle.wy_payload.specs.Reading.{all_of}
use Rattle.wy_payload.specs.Events.{event_at}
use Rattle.wy_payload.specs.Closing.{coverage_at, tail_at}
use Rattle.wy_frames.specs.declared.stage.Stage.{Stage}
use Rattle.wy_frames.specs.declared.stage.Stage.TheVariants as stages
use Rattle.wy_frames.specs.Frames.{Frame, opening_length, said_length, frame_of_length, frame_of}
use Rattle.wy_frames.specs.Progress.{Progress, Next, Violates, Unsealed, knowns, read_as, with_event, with_stage, event_next, coverage_next, end_next, seal_next, seal_length, where_letter, open_next, covered_next, ended_next, next_at, next_of}
use Rattle.wy_frames.specs.Scan.{Goes, turn_frame, is_passed, Leaves, frame, nothing}
use Rattle.wy_frames.proofs.Scans.{inner_is, some_is}
use Rattle.wy_frames.proofs.Pieces.{no_frame, next_goes, turn_is}

done : Progress → Next
done s = Ok s

ok_is : (s t : Progress) (n : Next) → n ≡ Ok s → n ≡ Ok t → s ≡ t
ok_is s t n e f = cc

read_before : {A : Type 0} (f : A → Progress) (bytes : List ℕ) (each : (x : A) → (f x).before ≡ bytes) (read : Result A DamageRule) (t : Progress) → read_as f read ≡ Ok t → t.before ≡ bytes
read_before f bytes each (Ok x) t e = ap (λ (s : Progress). s.before) (sym (ok_is (f x) t (read_as f (Ok x)) refl e)) ∙ each x
read_before f bytes each (Err r) t e = absurd cc

event_before : (r : Ranges) (s : Progress) (whole payload : List ℕ) (t : Progress) → event_next r s whole payload ≡ Ok t → t.before ≡ s.before ++ whole
unfolding event_next with_event
event_before r s whole payload t e = read_before (with_event s whole) (s.before ++ whole) (λ x. refl) (all_of (event_at r (knowns s) s.output payload)) t e

coverage_before : (r : Ranges) (s : Progress) (whole payload : List ℕ) (t : Progress) → coverage_next r s whole payload ≡ Ok t → t.before ≡ s.before ++ whole
unfolding coverage_next with_stage
coverage_before r s whole payload t e = read_before (λ c. with_stage s whole (stages.Covered c)) (s.before ++ whole) (λ x. refl) (all_of (coverage_at r.statements (knowns s) payload)) t e

end_before : (steps : ℕ) (s : Progress) (c : Coverage) (whole payload : List ℕ) (t : Progress) → end_next steps s c whole payload ≡ Ok t → t.before ≡ s.before ++ whole
unfolding end_next with_stage
end_before steps s c whole payload t e = read_before (λ x. with_stage s whole (stages.Ended x)) (s.before ++ whole) (λ x. refl) (all_of (tail_at (knowns s) (record { steps = steps; uses = s.uses; output = s.output }) c payload)) t e

sealed_before : (s : Progress) (tail : Tail) (whole : List ℕ) (a b : Bool) (t : Progress) → cond a (cond b (Ok (with_stage s whole (stages.Sealed tail (sha256 s.before)))) (Err Unsealed)) (Err (Violates rule.Length)) ≡ Ok t → t.before ≡ s.before ++ whole
unfolding with_stage
sealed_before s tail whole true true t e = ap (λ (x : Progress). x.before) (sym (ok_is (with_stage s whole (stages.Sealed tail (sha256 s.before))) t (Ok (with_stage s whole (stages.Sealed tail (sha256 s.before)))) refl e))
sealed_before s tail whole true false t e = absurd cc
sealed_before s tail whole false b t e = absurd cc

seal_before : (s : Progress) (tail : Tail) (whole payload : List ℕ) (t : Progress) → seal_next s tail whole payload ≡ Ok t → t.before ≡ s.before ++ whole
unfolding seal_next
seal_before s tail whole payload t e = sealed_before s tail whole (eqb (length payload) seal_length) (bytes_eq payload (sha256 s.before)) t e

lettered : (b : Bool) (next : Next) (bytes : List ℕ) (t : Progress) → ((next ≡ Ok t) → t.before ≡ bytes) → cond b next (Err (Violates rule.FrameKind)) ≡ Ok t → t.before ≡ bytes
lettered true next bytes t f e = f e
lettered false next bytes t f e = absurd cc

either : (b : Bool) (x y : Next) (bytes : List ℕ) (t : Progress) → ((x ≡ Ok t) → t.before ≡ bytes) → ((y ≡ Ok t) → t.before ≡ bytes) → cond b x y ≡ Ok t → t.before ≡ bytes
either true x y bytes t f g e = f e
either false x y bytes t f g e = g e

stage_before : (r : Ranges) (steps : ℕ) (s : Progress) (stage : Stage) (f : Frame) (t : Progress) → next_at r steps s stage f ≡ Ok t → t.before ≡ s.before ++ f.whole
unfolding next_at open_next covered_next ended_next
stage_before r steps s stages.Open f t e = either (eqb f.letter 69) (event_next r s f.whole f.payload) (where_letter 67 f.letter (coverage_next r s f.whole f.payload)) (s.before ++ f.whole) t (event_before r s f.whole f.payload t) (lettered (eqb f.letter 67) (coverage_next r s f.whole f.payload) (s.before ++ f.whole) t (coverage_before r s f.whole f.payload t)) e
stage_before r steps s (stages.Covered c) f t e = lettered (eqb f.letter 84) (end_next steps s c f.whole f.payload) (s.before ++ f.whole) t (end_before steps s c f.whole f.payload t) e
stage_before r steps s (stages.Ended tail) f t e = lettered (eqb f.letter 83) (seal_next s tail f.whole f.payload) (s.before ++ f.whole) t (seal_before s tail f.whole f.payload t) e
stage_before r steps s (stages.Sealed tail seal) f t e = absurd cc

frame_parts : (bytes : List ℕ) (f : Frame) → frame_of bytes ≡ Some f → f.whole ++ f.rest ≡ bytes
unfolding frame_of frame_of_length
frame_parts bytes f e =
    let n = opening_length + said_length bytes in
    let outer = inner_is _ _ f e in
    let inner = some_is _ _ f outer.1 in
    sym (ap (λ (g : Frame). g.whole ++ g.rest) inner.1) ∙ take-append-drop n bytes

goes_kept : (r : Ranges) (steps : ℕ) (s : Progress) (bytes : List ℕ) (t : Progress) (others : List ℕ) (o : Option Frame) → frame_of bytes ≡ o → turn_frame (next_of r steps s) s bytes o ≡ Goes t others → t.before ++ others ≡ s.before ++ bytes
goes_kept r steps s bytes t others Absent is e = absurd (no_frame (length s.before) (is_passed s.stage bytes) t others e)
goes_kept r steps s bytes t others (Some f) is e =
    let went = next_goes s f.rest (next_of r steps s f) t others e in
    ap (λ l. l ++ others) (stage_before r steps s s.stage f t went.0) ∙ ap (λ l. (s.before ++ f.whole) ++ l) (sym went.1) ∙ append_assoc s.before f.whole f.rest ∙ ap (λ l. s.before ++ l) (frame_parts bytes f is)

pub kept : (r : Ranges) (steps : ℕ) (from : Progress) (bytes : List ℕ) (t : Progress) (rest : List ℕ) → Leaves r steps from bytes t rest → t.before ++ rest ≡ from.before ++ bytes
kept r steps from bytes _ _ nothing = refl
kept r steps from bytes _ _ (frame s rest t others before e) = goes_kept r steps s rest t others (frame_of rest) refl (sym (turn_is r steps s rest) ∙ e) ∙ kept r steps from bytes s rest before

-- a frame behind the magic is within the bytes
pub whole_is_short : (bytes rest : List ℕ) (f : Frame) → rest ≡ drop 8 bytes → length bytes ≤ trace_limit → frame_of rest ≡ Some f → length f.whole ≤ trace_limit
whole_is_short bytes rest f is short e = omega (arith, ap length (frame_parts rest f e), length-append f.whole f.rest, ap length is, length-drop 8 bytes, short)
