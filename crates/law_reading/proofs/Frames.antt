-- A frame that stands in front of other bytes is found, and what stands goes on with it.
use Rattle.std.proofs.Common.{◌≡◌, ℕ, ◌+◌, ◌<◌, ◌≤◌, ◌^◌, cond, List, ◌∷◌, ◌++◌, length, take, drop, Some, Ok, Err, refl, ap, ◌∙◌, append_assoc, arith, length-append}
use Rattle.std.specs.Prelude.{None as Absent}
use Rattle.std.specs.Str.{bytes_eq}
use Rattle.std.specs.Int.{w32, from_be_bytes}
use Rattle.std.proofs.lemmas.Bool.{le-ltb, eq-eqb}
use Rattle.std.proofs.lemmas.List.{take_at, drop_at}
use Rattle.std.proofs.lemmas.Nat.{from_be_bytes-to_be_bytes_4}
use Rattle.std.proofs.lemmas.Slice.Eq.{bytes_eq-Decides}
use Rattle.sha2.specs.Sha256.{sha256}
use Rattle.sha2.proofs.Facts256.{length-sha256}
use Rattle.wy_event.specs.declared.record.Coverage.{Coverage}
use Rattle.wy_event.specs.declared.record.Tail.{Tail}
use Rattle.wy_event.specs.Record.{Recorded}
use Rattle.wy_spelling.specs.Spelling.{number, frame, event_payload, event_frame, coverage_payload, coverage_frame, tail_payload, end_frame, seal_frame}
use Rattle.wy_payload.specs.declared.fault.DamageRule.TheVariants as rule
use Rattle.wy_payload.specs.declared.ranges.Ranges.{Ranges}
use Rattle.wy_payload.specs.Reading.{all_of}
use Rattle.wy_payload.specs.Closing.{coverage_at, tail_at}
use Rattle.wy_frames.specs.declared.stage.Stage.{Stage}
use Rattle.wy_frames.specs.declared.stage.Stage.TheVariants as stages
use Rattle.wy_frames.specs.Frames.{Frame, opening_length, said_length, frame_of_length, frame_of}
use Rattle.wy_frames.specs.Progress.{Progress, knowns, Violates, Unsealed, read_as, with_event, with_stage, event_next, coverage_next, end_next, seal_length, seal_next, open_next, covered_next, ended_next, next_at, next_of}
use Rattle.wy_frames.specs.Scan.{Goes, turn_next, turn_frame, turn}
use Rattle.law_reading.proofs.ReadableEvents.{Behind, written_of, whole_event}

abbrev pub found : ℕ → List ℕ → List ℕ → Frame
found letter payload rest = record { letter = letter; payload = payload; whole = frame letter payload; rest = rest }

said : (letter : ℕ) (payload rest : List ℕ) → length payload < 2 ^ 32 → said_length (frame letter payload ++ rest) ≡ length payload
said letter payload rest short =
    let n = length payload in
    ap (λ l. from_be_bytes w32 (take 4 l)) (append_assoc (number n) payload rest)
    ∙ ap (from_be_bytes w32) (take_at (number n) (payload ++ rest) 4 refl)
    ∙ from_be_bytes-to_be_bytes_4 n short

pub frame_length : (letter : ℕ) (payload : List ℕ) → length (frame letter payload) ≡ opening_length + length payload
frame_length letter payload = omega (arith, length-append (letter ∷ number (length payload)) payload)

pub frame_found : (letter : ℕ) (payload rest : List ℕ) → length payload < 2 ^ 32 → frame_of (frame letter payload ++ rest) ≡ Some (found letter payload rest)
unfolding frame_of frame_of_length
frame_found letter payload rest short =
    let whole = frame letter payload in
    let bytes = whole ++ rest in
    let n = opening_length + length payload in
    let long : n ≤ length bytes = omega (arith, length-append whole rest, frame_length letter payload) in
    let made : ℕ → Frame = λ k. record { letter = letter; payload = drop opening_length (take k bytes); whole = take k bytes; rest = drop k bytes } in
    let whole-is : take n bytes ≡ whole = take_at whole rest n (frame_length letter payload) in
    let rest-is : drop n bytes ≡ rest = drop_at whole rest n (frame_length letter payload) in
    let payload-is : drop opening_length (take n bytes) ≡ payload = ap (drop opening_length) whole-is ∙ drop_at (letter ∷ number (length payload)) payload 5 refl in
    ap (λ b. cond b Absent (frame_of_length (said_length bytes) bytes)) (le-ltb (length bytes) opening_length (omega (arith, long)))
    ∙ ap (λ k. frame_of_length k bytes) (said letter payload rest short)
    ∙ ap (λ b. cond b Absent (Some (made n))) (le-ltb (length bytes) n long)
    ∙ (λ i. Some (record { letter = letter; payload = payload-is i; whole = whole-is i; rest = rest-is i }))

pub one_goes : (r : Ranges) (steps : ℕ) (s t : Progress) (letter : ℕ) (payload rest : List ℕ) → length payload < 2 ^ 32 → next_of r steps s (found letter payload rest) ≡ Ok t → turn r steps s (frame letter payload ++ rest) ≡ Goes t rest
unfolding turn
one_goes r steps s t letter payload rest short e =
    ap (turn_frame (next_of r steps s) s (frame letter payload ++ rest)) (frame_found letter payload rest short)
    ∙ ap (turn_next s rest) e

-- ---- what stands with a frame of each kind

pub event_goes : (r : Ranges) (steps : ℕ) (s : Progress) (e : Recorded) (rest : List ℕ) → s.stage ≡ stages.Open → Behind r (knowns s) s.output e → turn r steps s (event_frame r.version e ++ rest) ≡ Goes (with_event s (event_frame r.version e) (written_of r (knowns s) s.output e)) rest
unfolding event_frame next_at open_next event_next
event_goes r steps s e rest opened h =
    let f = found 69 (event_payload r.version e) rest in
    one_goes r steps s (with_event s (event_frame r.version e) (written_of r (knowns s) s.output e)) 69 (event_payload r.version e) rest h.short
    (ap (λ (stage : Stage). next_at r steps s stage f) opened ∙ ap (read_as (with_event s (event_frame r.version e))) (whole_event r (knowns s) s.output e h))

pub coverage_goes : (r : Ranges) (steps : ℕ) (s : Progress) (c : Coverage) (rest : List ℕ) → s.stage ≡ stages.Open → length (coverage_payload c) < 2 ^ 32 → all_of (coverage_at r.statements (knowns s) (coverage_payload c)) ≡ Ok c
    → turn r steps s (coverage_frame c ++ rest) ≡ Goes (with_stage s (coverage_frame c) (stages.Covered c)) rest
unfolding coverage_frame next_at open_next coverage_next
coverage_goes r steps s c rest opened short read =
    let f = found 67 (coverage_payload c) rest in
    one_goes r steps s (with_stage s (coverage_frame c) (stages.Covered c)) 67 (coverage_payload c) rest short
    (ap (λ (stage : Stage). next_at r steps s stage f) opened ∙ ap (read_as (λ d. with_stage s (coverage_frame c) (stages.Covered d))) read)

pub end_goes : (r : Ranges) (steps : ℕ) (s : Progress) (end : Tail) (rest : List ℕ) → s.stage ≡ stages.Covered end.coverage → length (tail_payload end) < 2 ^ 32 → all_of (tail_at (knowns s) (record { steps = steps; uses = s.uses; output = s.output }) end.coverage (tail_payload end)) ≡ Ok end
    → turn r steps s (end_frame end ++ rest) ≡ Goes (with_stage s (end_frame end) (stages.Ended end)) rest
unfolding end_frame next_at covered_next end_next
end_goes r steps s end rest covered short read =
    let f = found 84 (tail_payload end) rest in
    one_goes r steps s (with_stage s (end_frame end) (stages.Ended end)) 84 (tail_payload end) rest short
    (ap (λ (stage : Stage). next_at r steps s stage f) covered ∙ ap (read_as (λ t. with_stage s (end_frame end) (stages.Ended t))) read)

sealed_next : (s : Progress) (end : Tail) (whole : List ℕ) → seal_next s end whole (sha256 s.before) ≡ Ok (with_stage s whole (stages.Sealed end (sha256 s.before)))
unfolding seal_next
sealed_next s end whole =
    let seal = sha256 s.before in
    let made = with_stage s whole (stages.Sealed end seal) in
    ap (λ b. cond b (cond (bytes_eq seal seal) (Ok made) (Err Unsealed)) (Err (Violates rule.Length))) (eq-eqb (length seal) seal_length (length-sha256 s.before))
    ∙ ap (λ b. cond b (Ok made) (Err Unsealed)) ((bytes_eq-Decides seal seal).1 refl)

pub seal_goes : (r : Ranges) (steps : ℕ) (s : Progress) (end : Tail) (rest : List ℕ) → s.stage ≡ stages.Ended end → turn r steps s (seal_frame (sha256 s.before) ++ rest) ≡ Goes (with_stage s (seal_frame (sha256 s.before)) (stages.Sealed end (sha256 s.before))) rest
unfolding seal_frame next_at ended_next
seal_goes r steps s end rest ended =
    let seal = sha256 s.before in
    let f = found 83 seal rest in
    one_goes r steps s (with_stage s (seal_frame seal) (stages.Sealed end seal)) 83 seal rest (omega (arith, length-sha256 s.before))
    (ap (λ (stage : Stage). next_at r steps s stage f) ended ∙ sealed_next s end (seal_frame seal))
