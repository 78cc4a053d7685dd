-- The input of a head is bytes where the trace is.
use Rattle.std.specs.Prelude.{◌≡◌, ℕ, suc, List, [], ◌∷◌, ◌++◌, length, map}
use Rattle.std.specs.List.{AllByRecursion, concat}
use Rattle.wy_event.specs.declared.record.Head.{Head}
use Rattle.wy_event.specs.declared.record.Tail.{Tail}
use Rattle.wy_event.specs.declared.record.Version.{Version}
use Rattle.wy_event.specs.Record.{Recorded}
use Rattle.wy_spelling.specs.Spelling.{closing, event_frame, head_frame, head_payload, magic, number, opening, run_bytes}
use Rattle.law_reading.specs.Spelled.{AreBytes}
use Rattle.law_in_range.specs.InRange.{IsByteOf}

front_bytes : (xs ys : List ℕ) → AreBytes (xs ++ ys) → AllByRecursion IsByteOf xs
front_bytes [] ys are = tt
front_bytes (x ∷ xs) ys are = (are 0, front_bytes xs ys (λ i. are (suc i)))

in_front : (xs ys : List ℕ) → AllByRecursion IsByteOf (xs ++ ys) → AllByRecursion IsByteOf xs
in_front [] ys all = tt
in_front (x ∷ xs) ys all = (all.0, in_front xs ys all.1)

behind : (xs ys : List ℕ) → AllByRecursion IsByteOf (xs ++ ys) → AllByRecursion IsByteOf ys
behind [] ys all = all
behind (x ∷ xs) ys all = behind xs ys all.1

payload_input : (head : Head) → AllByRecursion IsByteOf (head_payload head) → AllByRecursion IsByteOf head.input
unfolding head_payload
payload_input head all =
    let source = number (length head.source) ++ head.source in
    in_front head.input source (behind (number (length head.input)) (head.input ++ source) (behind (number head.steps) (number (length head.input) ++ (head.input ++ source)) all))

opening_input : (v : Version) (head : Head) → AllByRecursion IsByteOf (opening v head) → AllByRecursion IsByteOf head.input
unfolding opening head_frame
opening_input v head all = payload_input head (behind (72 ∷ number (length (head_payload head))) (head_payload head) (behind (magic v) (72 ∷ number (length (head_payload head)) ++ head_payload head) all))

pub input_is_bytes : (v : Version) (head : Head) (rs : List Recorded) (end : Tail) → AreBytes (run_bytes v head rs end) → AllByRecursion IsByteOf head.input
input_is_bytes v head rs end are =
    let front = opening v head ++ concat (map (event_frame v) rs) in
    opening_input v head (in_front (opening v head) (concat (map (event_frame v) rs)) (front_bytes front (closing end front) are))
