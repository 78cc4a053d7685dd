-- The magic and the frame of a head, and how long they are.
use Rattle.std.proofs.Common.{◌≡◌, ◌+◌, ◌≤◌, ◌∷◌, [], ◌++◌, length, length-append, refl, arith}
use Rattle.wy_event.specs.declared.record.Version.{Version}
use Rattle.wy_event.specs.declared.record.Version.TheVariants as version
use Rattle.wy_event.specs.declared.record.Head.{Head}
use Rattle.wy_kernel.specs.Limits.{trace_limit}
use Rattle.wy_spelling.proofs.Lengths.{magic_long}
use Rattle.wy_spelling.specs.Spelling.{magic, number, head_payload, head_frame, opening}

pub opening_is : (v : Version) (h : Head) → opening v h ≡ ((magic v ++ 72 ∷ []) ++ number (length (head_payload h))) ++ head_payload h
unfolding opening head_frame
opening_is version.One h = refl
opening_is version.Two h = refl

pub payload_is_long : (h : Head) → length (head_payload h) ≡ 12 + length h.input + length h.source
unfolding head_payload
payload_is_long h = omega (arith, length-append (number h.steps) (number (length h.input) ++ (h.input ++ (number (length h.source) ++ h.source))), length-append (number (length h.input)) (h.input ++ (number (length h.source) ++ h.source)), length-append h.input (number (length h.source) ++ h.source), length-append (number (length h.source)) h.source)

pub opening_is_long : (v : Version) (h : Head) → length (opening v h) ≡ 13 + length (head_payload h)
unfolding opening head_frame
opening_is_long v h = omega (arith, magic_long v, length-append (magic v) (72 ∷ number (length (head_payload h)) ++ head_payload h), length-append (72 ∷ number (length (head_payload h))) (head_payload h))

pub numbers_are_few : (h : Head) → length (head_payload h) ≤ trace_limit → 12 + length h.input + length h.source ≤ trace_limit
numbers_are_few h few = omega (arith, payload_is_long h, few)

pub payload_is_within : (v : Version) (h : Head) → length (opening v h) ≤ trace_limit → length (head_payload h) ≤ trace_limit
payload_is_within v h few = omega (arith, opening_is_long v h, few)
