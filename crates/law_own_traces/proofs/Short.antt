-- The bytes of the trace of a run are no more than the limits of a run make them.
use Rattle.std.proofs.Common.{◌≡◌, ◌∙◌, refl, sym, ap, subst, arith, ℕ, ◌+◌, ◌*◌, ◌≤◌, List, [], ◌∷◌, ◌++◌, length, Some, length-append}
use Rattle.std.specs.Prelude.{Option, map}
use Rattle.std.specs.Prelude.{None as Absent}
use Rattle.std.specs.List.{concat, flat_map}
use Rattle.std.specs.Int.{w16, to_be_bytes}
use Rattle.std.proofs.lemmas.List.{length-map}
use Rattle.std.proofs.lemmas.List.Concat.{flat_map-cons}
use Rattle.sha2.specs.Sha256.{sha256}
use Rattle.sha2.proofs.Facts256.{length-sha256}
use Rattle.wy_kernel.specs.declared.program.Program as memory
use Rattle.wy_kernel.specs.Parts.{program_of}
use Rattle.wy_kernel.specs.Limits.{event_limit, use_limit, unit_limit, input_limit, source_limit, trace_limit}
use Rattle.wy_value.specs.declared.value.Value.{Value}
use Rattle.wy_value.specs.declared.value.Value.TheVariants as val
use Rattle.wy_event.specs.declared.record.Version.{Version}
use Rattle.wy_event.specs.declared.record.Version.TheVariants as version
use Rattle.wy_event.specs.declared.record.Kind.{Kind}
use Rattle.wy_event.specs.declared.record.Kind.TheVariants as kind
use Rattle.wy_event.specs.declared.record.Slot.{Slot}
use Rattle.wy_event.specs.declared.record.Slot.TheVariants as slots
use Rattle.wy_event.specs.declared.record.Use.{Use}
use Rattle.wy_event.specs.declared.record.Use.TheVariants as used
use Rattle.wy_event.specs.declared.record.Cover.{Cover}
use Rattle.wy_event.specs.declared.record.Coverage.{Coverage}
use Rattle.wy_event.specs.declared.record.Head.{Head}
use Rattle.wy_event.specs.declared.record.Tail.{Tail as Kept}
use Rattle.wy_event.specs.Record.{Recorded}
use Rattle.wy_spelling.specs.Spelling.{number, optional, kind_number, slot_bytes, value_bytes, units_bytes, content_bytes, use_bytes, uses_bytes, frame, origin_bytes, event_payload, head_payload, cover_bytes, coverage_payload, tail_payload, head_frame, event_frame, coverage_frame, end_frame, seal_frame, magic, opening, tail_frames, closing, run_bytes}
use Rattle.wy_spelling.proofs.Lengths.{magic_long, tail_length}
use Rattle.wy_steps.specs.Sets.{nothing}
use Rattle.wy_meaning.specs.Run.{Tail, events, tail}
use Rattle.wy_meaning.specs.Kept.{covered_of, kept_tail}
use Rattle.law_shaped.specs.Shaped.{uses_in, CountsAreShaped}
use Rattle.law_in_range.specs.InRange.{RunsAreInRange, made_as, made_by, made_in}
use Rattle.law_own_traces.specs.Own.{text_of, IsOwn, OwnTracesAreShort}
use Rattle.law_own_traces.specs.Statements.{statement_limit}
use Rattle.law_own_traces.proofs.TraceWhole.{AreShaped}

-- ---- an event

optional_long : (o : Option ℕ) → length (optional o) ≡ 4
optional_long Absent = refl
optional_long (Some n) = refl

slot_short : (x : Slot) → length (slot_bytes x) ≤ 9
unfolding slot_bytes
slot_short slots.None = omega arith
slot_short (slots.Local frame index) = omega arith
slot_short (slots.Static field) = omega arith
slot_short (slots.Field object field) = omega arith
slot_short (slots.Elem array index) = omega arith

value_short : (v : Version) (x : Value) → length (value_bytes v x) ≤ 9
unfolding value_bytes
value_short v val.None = omega arith
value_short v (val.Bool b) = omega arith
value_short v (val.Byte z) = omega arith
value_short v (val.Short z) = omega arith
value_short v (val.Char u) = omega arith
value_short v (val.Int z) = omega arith
value_short v (val.Long z) = omega arith
value_short v val.Null = omega arith
value_short v (val.Object n) = omega arith
value_short v (val.Text n) = omega arith
value_short v (val.Fixed n) = omega arith
value_short version.One (val.Arm n) = omega arith
value_short version.Two (val.Arm n) = omega arith

each_unit : (us : List ℕ) → length (flat_map (to_be_bytes w16) us) ≤ 2 * length us
each_unit [] = omega arith
each_unit (u ∷ rest) = let first = ap length (flat_map-cons (to_be_bytes w16) u rest) in omega (arith, first, length-append (to_be_bytes w16 u) (flat_map (to_be_bytes w16) rest), each_unit rest)

units_short : (us : List ℕ) → length (units_bytes us) ≤ 5 + 2 * length us
unfolding units_bytes
units_short us = omega (arith, each_unit us, length-append (11 ∷ number (length us)) (flat_map (to_be_bytes w16) us))

content_short : (v : Version) (k : Kind) (x : Value) (us : List ℕ) → length (content_bytes v k x us) ≤ 9 + 2 * made_as k us
content_short v kind.Text x us = omega (arith, units_short us)
content_short v kind.Init x us = value_short v x
content_short v kind.New x us = value_short v x
content_short v kind.Call x us = value_short v x
content_short v kind.Bind x us = value_short v x
content_short v kind.Set x us = value_short v x
content_short v kind.Test x us = value_short v x
content_short v kind.Read x us = value_short v x
content_short v kind.Print x us = value_short v x
content_short v kind.Return x us = value_short v x
content_short v kind.Jump x us = value_short v x
content_short v kind.Throw x us = value_short v x
content_short v kind.Catch x us = value_short v x

use_short : (u : Use) → length (use_bytes u) ≤ 14
unfolding use_bytes
use_short (used.Place x moment) = omega (arith, slot_short x, length-append (1 ∷ slot_bytes x) (number moment))
use_short (used.Value event) = omega arith
use_short (used.Choice event) = omega arith

each_use : (us : List Use) → length (flat_map use_bytes us) ≤ 14 * length us
each_use [] = omega arith
each_use (u ∷ rest) = rw (flat_map-cons use_bytes u rest, length-append (use_bytes u) (flat_map use_bytes rest)) (omega (arith, use_short u, each_use rest))

uses_short : (us : List Use) → length (uses_bytes us) ≤ 4 + 14 * length us
unfolding uses_bytes
uses_short us = omega (arith, each_use us, length-append (number (length us)) (flat_map use_bytes us))

origin_long : (e : Recorded) → length (origin_bytes e) ≡ 17
unfolding origin_bytes
origin_long e =
    omega (arith, optional_long e.frame, optional_long e.control, optional_long e.entity, length-append (kind_number e.kind ∷ number e.site) (optional e.frame ++ (optional e.control ++ optional e.entity)), length-append (optional e.frame) (optional e.control ++ optional e.entity), length-append (optional e.control) (optional e.entity))

frame_long : (letter : ℕ) (payload : List ℕ) → length (frame letter payload) ≡ 5 + length payload
frame_long letter payload = length-append (letter ∷ number (length payload)) payload

payload_short : (v : Version) (e : Recorded) → length (event_payload v e) ≤ 39 + 2 * made_by e + 14 * length e.uses
unfolding event_payload
payload_short v e =
    let uses = uses_bytes e.uses in
    let content = content_bytes v e.kind e.value e.units in
    let behind = slot_bytes e.slot ++ (content ++ uses) in
    omega (arith, origin_long e, slot_short e.slot, content_short v e.kind e.value e.units, uses_short e.uses, length-append (origin_bytes e) behind, length-append (slot_bytes e.slot) (content ++ uses), length-append content uses)

event_short : (v : Version) (e : Recorded) → length (event_frame v e) ≤ 44 + 2 * made_by e + 14 * length e.uses
unfolding event_frame
event_short v e = omega (arith, payload_short v e, frame_long 69 (event_payload v e))

events_short : (v : Version) (rs : List Recorded) → length (concat (map (event_frame v) rs)) ≤ 44 * length rs + 2 * made_in rs + 14 * uses_in rs
events_short v [] = omega arith
events_short v (e ∷ rest) = omega (arith, event_short v e, events_short v rest, length-append (event_frame v e) (concat (map (event_frame v) rest)))

-- ---- what stands before the events and behind them

head_long : (h : Head) → length (head_payload h) ≡ 12 + length h.input + length h.source
unfolding head_payload
head_long h =
    let source = number (length h.source) ++ h.source in
    omega (arith, length-append (number h.steps) (number (length h.input) ++ (h.input ++ source)), length-append (number (length h.input)) (h.input ++ source), length-append h.input source, length-append (number (length h.source)) h.source)

opening_long : (v : Version) (h : Head) → length (opening v h) ≡ 25 + length h.input + length h.source
unfolding opening head_frame
opening_long v h = omega (arith, magic_long v, head_long h, frame_long 72 (head_payload h), length-append (magic v) (frame 72 (head_payload h)))

cover_long : (c : Cover) → length (cover_bytes c) ≡ 16
unfolding cover_bytes
cover_long c = refl

each_cover : (cs : List Cover) → length (flat_map cover_bytes cs) ≤ 16 * length cs
each_cover [] = omega arith
each_cover (c ∷ rest) = rw (flat_map-cons cover_bytes c rest, length-append (cover_bytes c) (flat_map cover_bytes rest)) (omega (arith, cover_long c, each_cover rest))

coverage_short : (c : Coverage) → length (coverage_frame c) ≤ 9 + 16 * length c.statements
unfolding coverage_frame coverage_payload
coverage_short c = omega (arith, each_cover c.statements, length-append (number (length c.statements)) (flat_map cover_bytes c.statements), frame_long 67 (number (length c.statements) ++ flat_map cover_bytes c.statements))

end_long : (t : Kept) → length (end_frame t) ≡ 26
unfolding end_frame
end_long t = omega (arith, tail_length t, frame_long 84 (tail_payload t))

seal_long : (bytes : List ℕ) → length (seal_frame (sha256 bytes)) ≡ 37
unfolding seal_frame
seal_long bytes = omega (arith, length-sha256 bytes, frame_long 83 (sha256 bytes))

closing_short : (t : Kept) (bytes : List ℕ) → length (closing t bytes) ≤ 72 + 16 * length t.coverage.statements
unfolding closing tail_frames
closing_short t bytes =
    let ends = coverage_frame t.coverage ++ end_frame t in
    omega (arith, coverage_short t.coverage, end_long t, seal_long (bytes ++ ends), length-append ends (seal_frame (sha256 (bytes ++ ends))), length-append (coverage_frame t.coverage) (end_frame t))

-- ---- the whole

run_short : (v : Version) (h : Head) (rs : List Recorded) (t : Kept) → length (run_bytes v h rs t) ≤ 97 + length h.input + length h.source + 44 * length rs + 2 * made_in rs + 14 * uses_in rs + 16 * length t.coverage.statements
run_short v h rs t =
    let inner = concat (map (event_frame v) rs) in
    let front = opening v h ++ inner in
    omega (arith, opening_long v h, events_short v rs, closing_short t front, length-append (opening v h) inner, length-append front (closing t front))

within_limit : (long input source records made uses covers : ℕ) → long ≤ 97 + input + source + 44 * records + 2 * made + 14 * uses + 16 * covers
    → input ≤ input_limit → source ≤ source_limit → records ≤ event_limit → made ≤ unit_limit → uses ≤ use_limit → covers ≤ statement_limit → long ≤ trace_limit
within_limit long input source records made uses covers a b c d e f g = omega arith

module _ (P : memory.Program) (laws : AreShaped) (ranged : RunsAreInRange nothing (text_of P) (program_of P)) (few : P.statements ≤ statement_limit) (v : Version) (head : Head) (end : Kept) where
  abbrev rs : List Recorded
  rs = events nothing (program_of P) head.input head.steps

  short_with : IsOwn P head rs end → length (run_bytes v head rs end) ≤ trace_limit
  unfolding kept_tail
  short_with own =
      let ending = tail nothing (program_of P) head.input head.steps in
      let counts = laws.counts (program_of P) head.input head.steps in
      let covers : map covered_of end.coverage.statements ≡ ending.coverage = ap (λ (t : Tail). t.coverage) own.end_is in
      let many : length end.coverage.statements ≡ P.statements = sym (length-map end.coverage.statements covered_of) ∙ ap length covers ∙ (ranged.end head.input head.steps own.bytes).covers in
      within_limit _ _ _ _ _ _ _ (run_short v head rs end) own.head_stands.input own.head_stands.source counts.0 (ranged.texts head.input head.steps own.bytes)
      (subst (λ n. n ≤ use_limit) counts.2 counts.3) (subst (λ n. n ≤ statement_limit) (sym many) few)

pub own_short : (P : memory.Program) → AreShaped → RunsAreInRange nothing (text_of P) (program_of P) → OwnTracesAreShort P
own_short P laws ranged few v head records end own =
    subst (λ (l : List Recorded). IsOwn P head l end → length (run_bytes v head l end) ≤ trace_limit) (sym own.events_are) (short_with P laws ranged few v head end) own
