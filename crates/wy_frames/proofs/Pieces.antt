-- What stands with some bytes stands with more bytes behind them.
use Rattle.std.proofs.Common.{◌≡◌, ℕ, ◌+◌, ◌≤◌, List, [], ◌++◌, length, take, drop, get_or, Bool, true, false, ltb, Option, Some, Ok, Err, refl, sym, ap, ◌∙◌, arith, length-append}
use Rattle.std.specs.Prelude.{None as Absent}
use Rattle.std.specs.Int.{w32, from_be_bytes}
use Rattle.std.proofs.lemmas.Bool.{ltb-false, le-ltb}
use Rattle.std.proofs.lemmas.List.{length-drop, take-append-le, drop-append-le, get_or_append_left}
use Rattle.wy_event.specs.declared.record.Version.{Version}
use Rattle.wy_event.specs.declared.record.Head.{Head}
use Rattle.wy_payload.specs.declared.ranges.Ranges.{Ranges}
use Rattle.wy_frames.specs.declared.stage.Stage.{Stage}
use Rattle.wy_frames.specs.declared.stage.Stage.TheVariants as stages
use Rattle.wy_frames.specs.Frames.{Frame, opening_length, said_length, frame_of_length, frame_of}
use Rattle.wy_frames.specs.Progress.{Progress, Next, Violates, Unsealed, next_at, next_of, open_next, covered_next, ended_next, start}
use Rattle.wy_frames.specs.Scan.{Waits, Goes, turn_next, turn_frame, turn, without_frame, is_passed, Leaves, frame, nothing}
use Rattle.wy_frames.proofs.Scans.{inner_is, some_is, turn_with}

-- ---- a frame with more behind it

abbrev pub with_rest : Frame → List ℕ → Frame
with_rest f rest = record { letter = f.letter; payload = f.payload; whole = f.whole; rest = rest }

said_more : (bytes more : List ℕ) → opening_length ≤ length bytes → said_length (bytes ++ more) ≡ said_length bytes
said_more bytes more long =
    let one : drop 1 (bytes ++ more) ≡ drop 1 bytes ++ more = drop-append-le 1 bytes more (omega (arith, long)) in
    let four : take 4 (drop 1 bytes ++ more) ≡ take 4 (drop 1 bytes) = take-append-le 4 (drop 1 bytes) more (omega (arith, long, length-drop 1 bytes)) in
    ap (λ l. from_be_bytes w32 (take 4 l)) one ∙ ap (from_be_bytes w32) four

length_more : (size : ℕ) (bytes more : List ℕ) (f : Frame) → frame_of_length size bytes ≡ Some f → frame_of_length size (bytes ++ more) ≡ Some (with_rest f (f.rest ++ more))
unfolding frame_of_length
length_more size bytes more f e =
    let n = opening_length + size in
    let made : Frame = record { letter = get_or bytes 0 0; payload = drop opening_length (take n bytes); whole = take n bytes; rest = drop n bytes } in
    let inner = some_is (ltb (length bytes) n) made f e in
    let within : n ≤ length bytes = ltb-false _ _ inner.0 in
    let long : ltb (length (bytes ++ more)) n ≡ false = le-ltb _ _ (omega (arith, within, length-append bytes more)) in
    rw (long, take-append-le n bytes more within, drop-append-le n bytes more within, get_or_append_left bytes more 0 0 (omega (arith, within))) (ap (λ (g : Frame). Some (with_rest g (g.rest ++ more))) inner.1)

pub frame_more : (bytes more : List ℕ) (f : Frame) → frame_of bytes ≡ Some f → frame_of (bytes ++ more) ≡ Some (with_rest f (f.rest ++ more))
unfolding frame_of
frame_more bytes more f e =
    let outer = inner_is (ltb (length bytes) opening_length) (frame_of_length (said_length bytes) bytes) f e in
    let within : opening_length ≤ length bytes = ltb-false _ _ outer.0 in
    let long : ltb (length (bytes ++ more)) opening_length ≡ false = le-ltb _ _ (omega (arith, within, length-append bytes more)) in
    rw (long, said_more bytes more within) (length_more (said_length bytes) bytes more f outer.1)

at_stage : (r : Ranges) (steps : ℕ) (s : Progress) (stage : Stage) (f : Frame) (rest : List ℕ) → next_at r steps s stage (with_rest f rest) ≡ next_at r steps s stage f
unfolding next_at open_next covered_next ended_next
at_stage r steps s stages.Open f rest = refl
at_stage r steps s (stages.Covered c) f rest = refl
at_stage r steps s (stages.Ended t) f rest = refl
at_stage r steps s (stages.Sealed t seal) f rest = refl

-- ---- turns with more behind them

pub no_frame : (at : ℕ) (b : Bool) (t : Progress) (others : List ℕ) → without_frame at b ≡ Goes t others → ⊥
no_frame at true t others e = cc
no_frame at false t others e = cc

pub next_goes : (s : Progress) (rest : List ℕ) (n : Next) (t : Progress) (others : List ℕ) → turn_next s rest n ≡ Goes t others → (n ≡ Ok t) × (rest ≡ others)
next_goes s rest (Ok u) t others e = (cc, cc)
next_goes s rest (Err (Violates r)) t others e = absurd cc
next_goes s rest (Err Unsealed) t others e = absurd cc

pub turn_is : (r : Ranges) (steps : ℕ) (s : Progress) (bytes : List ℕ) → turn r steps s bytes ≡ turn_frame (next_of r steps s) s bytes (frame_of bytes)
unfolding turn
turn_is r steps s bytes = refl

goes_more : (r : Ranges) (steps : ℕ) (s : Progress) (bytes more : List ℕ) (t : Progress) (others : List ℕ) (o : Option Frame) → frame_of bytes ≡ o → turn_frame (next_of r steps s) s bytes o ≡ Goes t others → turn r steps s (bytes ++ more) ≡ Goes t (others ++ more)
goes_more r steps s bytes more t others Absent is e = absurd (no_frame (length s.before) (is_passed s.stage bytes) t others e)
goes_more r steps s bytes more t others (Some f) is e =
    let went = next_goes s f.rest (next_of r steps s f) t others e in
    turn_with r steps s (bytes ++ more) (with_rest f (f.rest ++ more)) (frame_more bytes more f is)
    ∙ ap (turn_next s (f.rest ++ more)) (at_stage r steps s s.stage f (f.rest ++ more) ∙ went.0)
    ∙ ap (λ l. Goes t (l ++ more)) went.1

pub turn_more : (r : Ranges) (steps : ℕ) (s : Progress) (bytes more : List ℕ) (t : Progress) (others : List ℕ) → turn r steps s bytes ≡ Goes t others → turn r steps s (bytes ++ more) ≡ Goes t (others ++ more)
turn_more r steps s bytes more t others e =
    let opened : turn_frame (next_of r steps s) s bytes (frame_of bytes) ≡ Goes t others = sym (turn_is r steps s bytes) ∙ e in
    goes_more r steps s bytes more t others (frame_of bytes) refl opened

pub leaves_more : (r : Ranges) (steps : ℕ) (from : Progress) (bytes more : List ℕ) (t : Progress) (rest : List ℕ) → Leaves r steps from bytes t rest → Leaves r steps from (bytes ++ more) t (rest ++ more)
leaves_more r steps from bytes more _ _ nothing = nothing
leaves_more r steps from bytes more _ _ (frame s rest t others before e) = frame s (rest ++ more) t (others ++ more) (leaves_more r steps from bytes more s rest before) (turn_more r steps s rest more t others e)

-- ---- the start

pub nothing_waits : (r : Ranges) (steps : ℕ) (v : Version) (head : Head) → turn r steps (start v head) [] ≡ Waits
unfolding turn start frame_of
nothing_waits r steps v head = refl
