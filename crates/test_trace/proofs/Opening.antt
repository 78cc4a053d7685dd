-- How long the opening of a trace is.
use Rattle.std.proofs.Common.{ℕ, ◌≤◌, ◌++◌, length, arith, length-append}
use Rattle.wy_event.specs.declared.record.Head.{Head}
use Rattle.wy_event.specs.declared.record.Version.{Version}
use Rattle.wy_kernel.specs.Limits.{trace_limit}
use Rattle.wy_spelling.proofs.Lengths.{magic_long}
use Rattle.wy_spelling.specs.Spelling.{number, magic, frame, head_payload, head_frame, opening}

pub opening_is_short : (head : Head) → length head.input ≤ 100 → length head.source ≤ 100 → (v : Version) → length (opening v head) ≤ trace_limit
unfolding opening head_frame head_payload
opening_is_short head i s v =
    let source = number (length head.source) ++ head.source in
    let input = number (length head.input) ++ (head.input ++ source) in
    let payload = number head.steps ++ input in
    omega (arith, i, s, magic_long v, length-append (magic v) (frame 72 payload), length-append (number head.steps) input, length-append head.input source)
