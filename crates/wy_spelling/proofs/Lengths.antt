-- A list whose spelling is short is short.
use Rattle.std.proofs.Common.{Result, Ok, Err, OnOk, sym, ap, ◌∙◌, append_assoc, ◌≡◌, ℕ, ◌<◌, ◌≤◌, ◌^◌, List, [], ◌∷◌, ◌++◌, length, refl, arith, length-append}
use Rattle.std.specs.List.{flat_map}
use Rattle.std.specs.Int.{w16, to_be_bytes}
use Rattle.std.proofs.lemmas.List.Concat.{flat_map-cons}
use Rattle.wy_event.specs.declared.record.Use.{Use}
use Rattle.wy_event.specs.declared.record.Use.TheVariants as used
use Rattle.wy_event.specs.declared.record.Event.{Event}
use Rattle.wy_event.specs.declared.record.Cover.{Cover}
use Rattle.wy_event.specs.declared.record.Coverage.{Coverage}
use Rattle.wy_event.specs.declared.record.Head.{Head}
use Rattle.wy_event.specs.declared.record.Tail.{Tail}
use Rattle.wy_event.specs.declared.record.Version.{Version}
use Rattle.wy_event.specs.declared.record.Version.TheVariants as version
use Rattle.wy_event.specs.Record.{Recorded, recorded}
use Rattle.wy_kernel.specs.Limits.{trace_limit}
use Rattle.wy_spelling.specs.Spelling.{number, origin_bytes, slot_bytes, content_bytes, units_bytes, use_bytes, uses_bytes, event_payload, event_frame, cover_bytes, coverage_payload, coverage_frame, end_frame, tail_frames, magic, head_payload, head_frame, opening, tail_payload, count_bytes}

-- each part has a byte at least
longer : {X : Type 0} (f : X → List ℕ) → ((x : X) → 1 ≤ length (f x)) → (xs : List X) → length xs ≤ length (flat_map f xs)
longer f each [] = omega arith
longer f each (x ∷ xs) = rw (flat_map-cons f x xs, length-append (f x) (flat_map f xs)) (omega (arith, each x, longer f each xs))

pub units_are_few : (units : List ℕ) → length (units_bytes units) < 2 ^ 32 → length units < 2 ^ 32
unfolding units_bytes
units_are_few units short = omega (arith, longer (to_be_bytes w16) (λ u. omega arith) units, length-append (number (length units)) (flat_map (to_be_bytes w16) units), short)

use_is_some : (u : Use) → 1 ≤ length (use_bytes u)
unfolding use_bytes
use_is_some (used.Place slot moment) = omega arith
use_is_some (used.Value event) = omega arith
use_is_some (used.Choice event) = omega arith

pub uses_are_few : (uses : List Use) → length (uses_bytes uses) < 2 ^ 32 → length uses < 2 ^ 32
unfolding uses_bytes
uses_are_few uses short = omega (arith, longer use_bytes use_is_some uses, length-append (number (length uses)) (flat_map use_bytes uses), short)

-- ---- the parts of a frame are shorter than it

left_short : (a b : List ℕ) (n : ℕ) → length (a ++ b) < n → length a < n
left_short a b n short = omega (arith, length-append a b, short)

right_short : (a b : List ℕ) (n : ℕ) → length (a ++ b) < n → length b < n
right_short a b n short = omega (arith, length-append a b, short)

-- from the content on
content_on : (v : Version) (e : Recorded) → length (event_payload v e) < 2 ^ 32 → length (content_bytes v e.kind e.value e.units ++ uses_bytes e.uses) < 2 ^ 32
unfolding event_payload
content_on v e short =
    let uses = uses_bytes e.uses in
    let content = content_bytes v e.kind e.value e.units ++ uses in
    right_short (slot_bytes e.slot) content (2 ^ 32) (right_short (origin_bytes e) (slot_bytes e.slot ++ content) (2 ^ 32) short)

pub content_is_short : (v : Version) (e : Event) → length (event_payload v (recorded e)) < 2 ^ 32 → length (content_bytes v e.kind e.value e.units) < 2 ^ 32
unfolding recorded
content_is_short v e short = left_short (content_bytes v e.kind e.value e.units) (uses_bytes e.uses) (2 ^ 32) (content_on v (recorded e) short)

pub uses_are_short : (v : Version) (e : Event) → length (event_payload v (recorded e)) < 2 ^ 32 → length (uses_bytes e.uses) < 2 ^ 32
unfolding recorded
uses_are_short v e short = right_short (content_bytes v e.kind e.value e.units) (uses_bytes e.uses) (2 ^ 32) (content_on v (recorded e) short)

pub payload_is_short : (v : Version) (e : Recorded) → length (event_frame v e) ≤ trace_limit → length (event_payload v e) < 2 ^ 32
unfolding event_frame
payload_is_short v e short = omega (arith, length-append (69 ∷ number (length (event_payload v e))) (event_payload v e), short)

cover_is_some : (c : Cover) → 1 ≤ length (cover_bytes c)
unfolding cover_bytes
cover_is_some c = omega arith

pub covers_are_few : (c : Coverage) → length (coverage_payload c) < 2 ^ 32 → length c.statements < 2 ^ 32
unfolding coverage_payload
covers_are_few c short = omega (arith, longer cover_bytes cover_is_some c.statements, length-append (number (length c.statements)) (flat_map cover_bytes c.statements), short)

pub coverage_is_short : (t : Tail) → length (tail_frames t) ≤ trace_limit → length (coverage_payload t.coverage) < 2 ^ 32
unfolding tail_frames coverage_frame
coverage_is_short t short = omega (arith, length-append (coverage_frame t.coverage) (end_frame t), length-append (67 ∷ number (length (coverage_payload t.coverage))) (coverage_payload t.coverage), short)

pub magic_long : (v : Version) → length (magic v) ≡ 8
magic_long version.One = refl
magic_long version.Two = refl

pub head_is_short : (v : Version) (h : Head) → length (opening v h) ≤ trace_limit → length (head_payload h) < 2 ^ 32
unfolding opening head_frame
head_is_short v h short = omega (arith, length-append (magic v) (head_frame h), length-append (72 ∷ number (length (head_payload h))) (head_payload h), short)

pub tail_length : (t : Tail) → length (tail_payload t) ≡ 21
unfolding tail_payload count_bytes
tail_length t = refl

end_is : (t : Tail) → end_frame t ≡ 84 ∷ number 21 ++ tail_payload t
unfolding end_frame
end_is t = rw (tail_length t) refl

ends : (t : Tail) (old mid new : List ℕ) → mid ≡ old ++ (84 ∷ number 21) → new ≡ mid ++ tail_payload t → new ≡ old ++ end_frame t
ends t old mid new e f = f ∙ ap (λ (l : List ℕ). l ++ tail_payload t) e ∙ append_assoc old (84 ∷ number 21) (tail_payload t) ∙ ap (λ (l : List ℕ). old ++ l) (sym (end_is t))

pub ends_on : {E : Type 0} (r : Result Unit E) (t : Tail) (old mid new : List ℕ) → mid ≡ old ++ (84 ∷ number 21) → OnOk r (new ≡ mid ++ tail_payload t) → OnOk r (new ≡ old ++ end_frame t)
ends_on (Ok x) t old mid new e f = ends t old mid new e f
ends_on (Err x) t old mid new e f = f
