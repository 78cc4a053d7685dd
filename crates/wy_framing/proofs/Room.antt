-- Frames of few parts are short.
use Rattle.std.proofs.Common.{ℕ, ◌+◌, ◌*◌, ◌≤◌, List, [], ◌∷◌, ◌++◌, length, Option, Some, None, arith, length-append}
use Rattle.std.specs.List.{flat_map}
use Rattle.std.specs.Int.{w16, to_be_bytes}
use Rattle.std.proofs.lemmas.List.Concat.{flat_map-cons}
use Rattle.wy_value.specs.declared.value.Value.{Value}
use Rattle.wy_value.specs.declared.value.Value.TheVariants as val
use Rattle.wy_event.specs.declared.record.Version.{Version}
use Rattle.wy_event.specs.declared.record.Version.TheVariants as version
use Rattle.wy_event.specs.declared.record.Kind.{Kind}
use Rattle.wy_event.specs.declared.record.Kind.TheVariants as kind
use Rattle.wy_event.specs.declared.record.Slot.{Slot}
use Rattle.wy_event.specs.declared.record.Slot.TheVariants as slots
use Rattle.wy_event.specs.declared.record.Use.{Use}
use Rattle.wy_event.specs.declared.record.Use.TheVariants as used
use Rattle.wy_event.specs.declared.record.Event.{Event}
use Rattle.wy_event.specs.declared.record.Cover.{Cover}
use Rattle.wy_event.specs.declared.record.Head.{Head}
use Rattle.wy_event.specs.declared.record.Tail.{Tail}
use Rattle.wy_event.specs.Record.{Recorded, recorded}
use Rattle.wy_kernel.specs.Limits.{trace_limit}
use Rattle.wy_spelling.proofs.Lengths.{magic_long}
use Rattle.wy_spelling.specs.Spelling.{arm_number, number, optional, origin_bytes, slot_bytes, value_bytes, content_bytes, units_bytes, use_bytes, uses_bytes, event_payload, event_frame, cover_bytes, coverage_payload, coverage_frame, end_frame, tail_frames, magic, head_payload, head_frame, opening, tail_payload, count_bytes}

-- parts of at most n bytes each
at_most : {X : Type 0} (f : X → List ℕ) (n : ℕ) → ((x : X) → length (f x) ≤ n) → (xs : List X) → length (flat_map f xs) ≤ n * length xs
at_most f n each [] = omega arith
at_most f n each (x ∷ xs) = rw (flat_map-cons f x xs, length-append (f x) (flat_map f xs)) (omega (arith, each x, at_most f n each xs))

slot_most : (s : Slot) → length (slot_bytes s) ≤ 9
unfolding slot_bytes
slot_most slots.None = omega arith
slot_most (slots.Local frame index) = omega arith
slot_most (slots.Static field) = omega arith
slot_most (slots.Field object field) = omega arith
slot_most (slots.Elem array index) = omega arith

arm_most : (v : Version) (n : ℕ) → length (arm_number v n) ≤ 4
arm_most version.One n = omega arith
arm_most version.Two n = omega arith

value_most : (w : Version) (v : Value) → length (value_bytes w v) ≤ 9
unfolding value_bytes
value_most w val.None = omega arith
value_most w (val.Bool b) = omega arith
value_most w (val.Byte z) = omega arith
value_most w (val.Short z) = omega arith
value_most w (val.Char u) = omega arith
value_most w (val.Int z) = omega arith
value_most w (val.Long z) = omega arith
value_most w val.Null = omega arith
value_most w (val.Object n) = omega arith
value_most w (val.Text n) = omega arith
value_most w (val.Fixed n) = omega arith
value_most w (val.Arm n) = omega (arith, arm_most w n)

use_most : (u : Use) → length (use_bytes u) ≤ 14
unfolding use_bytes
use_most (used.Place slot moment) = omega (arith, slot_most slot, length-append (slot_bytes slot) (number moment))
use_most (used.Value event) = omega arith
use_most (used.Choice event) = omega arith

cover_most : (c : Cover) → length (cover_bytes c) ≤ 16
unfolding cover_bytes
cover_most c = omega arith

units_most : (units : List ℕ) → length (units_bytes units) ≤ 5 + 2 * length units
unfolding units_bytes
units_most units = omega (arith, at_most (to_be_bytes w16) 2 (λ u. omega arith) units, length-append (11 ∷ number (length units)) (flat_map (to_be_bytes w16) units))

content_most : (w : Version) (k : Kind) (v : Value) (units : List ℕ) → length (content_bytes w k v units) ≤ 9 + 2 * length units
content_most w kind.Text v units = omega (arith, units_most units)
content_most w _ v units = omega (arith, value_most w v)

uses_most : (uses : List Use) → length (uses_bytes uses) ≤ 4 + 14 * length uses
unfolding uses_bytes
uses_most uses = omega (arith, at_most use_bytes 14 use_most uses, length-append (number (length uses)) (flat_map use_bytes uses))

optional_most : (o : Option ℕ) → length (optional o) ≤ 4
optional_most None = omega arith
optional_most (Some n) = omega arith

origin_most : (e : Recorded) → length (origin_bytes e) ≤ 17
unfolding origin_bytes
origin_most e = omega (arith, optional_most e.frame, optional_most e.control, optional_most e.entity, length-append (number e.site) (optional e.frame ++ (optional e.control ++ optional e.entity)), length-append (optional e.frame) (optional e.control ++ optional e.entity), length-append (optional e.control) (optional e.entity))

payload_most : (v : Version) (e : Recorded) → length (event_payload v e) ≤ 39 + 2 * length e.units + 14 * length e.uses
unfolding event_payload
payload_most v e = omega (arith, origin_most e, slot_most e.slot, content_most v e.kind e.value e.units, uses_most e.uses, length-append (origin_bytes e) (slot_bytes e.slot ++ (content_bytes v e.kind e.value e.units ++ uses_bytes e.uses)), length-append (slot_bytes e.slot) (content_bytes v e.kind e.value e.units ++ uses_bytes e.uses), length-append (content_bytes v e.kind e.value e.units) (uses_bytes e.uses))

frame_most : (v : Version) (e : Recorded) → length (event_frame v e) ≤ 44 + 2 * length e.units + 14 * length e.uses
unfolding event_frame
frame_most v e = omega (arith, payload_most v e, length-append (69 ∷ number (length (event_payload v e))) (event_payload v e))

pub event_has_room : (e : Event) → length e.units ≤ 134217728 → length e.uses ≤ 16777216 → (v : Version) → length (event_frame v (recorded e)) ≤ trace_limit
unfolding recorded
event_has_room e few_units few_uses v = omega (arith, frame_most v (recorded e), few_units, few_uses)

pub head_has_room : (h : Head) → length h.input ≤ 268435456 → length h.source ≤ 536870912 → (v : Version) → length (opening v h) ≤ trace_limit
unfolding opening head_frame head_payload
head_has_room h few_input few_source v = omega (arith, few_input, few_source, magic_long v, length-append (magic v) (head_frame h), length-append (72 ∷ number (length (head_payload h))) (head_payload h), length-append h.input (number (length h.source) ++ h.source))

coverage_most : (t : Tail) → length (coverage_payload t.coverage) ≤ 4 + 16 * length t.coverage.statements
unfolding coverage_payload
coverage_most t = omega (arith, at_most cover_bytes 16 cover_most t.coverage.statements, length-append (number (length t.coverage.statements)) (flat_map cover_bytes t.coverage.statements))

end_length : (t : Tail) → length (end_frame t) ≤ 26
unfolding end_frame tail_payload count_bytes
end_length t = omega arith

pub tail_has_room : (t : Tail) → length t.coverage.statements ≤ 33554432 → length (tail_frames t) ≤ trace_limit
unfolding tail_frames coverage_frame
tail_has_room t few = omega (arith, few, coverage_most t, end_length t, length-append (coverage_frame t.coverage) (end_frame t), length-append (67 ∷ number (length (coverage_payload t.coverage))) (coverage_payload t.coverage))
