-- The one spelling of a trace in a version: eight bytes that name the format, then frames. Numbers are big-endian, of four bytes where nothing is said.
use Rattle.std.specs.Prelude.{ℕ, ◌<◌, List, [], ◌∷◌, ◌++◌, ◌==◌, length, map, codes, if◌then◌else◌, Option, Some}
use Rattle.std.specs.Prelude.{None as Absent}
use Rattle.std.specs.List.{concat, flat_map}
use Rattle.std.specs.Int.{w8, w16, w32, w64, to_be_bytes, cast_unsigned}
use Rattle.sha2.specs.Sha256.{sha256}
use Rattle.wy_value.specs.declared.value.Value.{Value}
use Rattle.wy_value.specs.declared.value.Value.TheVariants as val
use Rattle.wy_event.specs.declared.record.Kind.{Kind}
use Rattle.wy_event.specs.declared.record.Kind.TheVariants as kind
use Rattle.wy_event.specs.declared.record.Slot.{Slot}
use Rattle.wy_event.specs.declared.record.Slot.TheVariants as slots
use Rattle.wy_event.specs.declared.record.Use.{Use}
use Rattle.wy_event.specs.declared.record.Use.TheVariants as used
use Rattle.wy_event.specs.declared.record.Event.{Event}
use Rattle.wy_event.specs.declared.record.Cover.{Cover}
use Rattle.wy_event.specs.declared.record.Coverage.{Coverage}
use Rattle.wy_event.specs.declared.record.Head.{Head}
use Rattle.wy_event.specs.declared.record.Tail.{Tail}
use Rattle.wy_event.specs.declared.record.Trace.{Trace}
use Rattle.wy_event.specs.declared.record.Version.{Version}
use Rattle.wy_event.specs.declared.record.Version.TheVariants as version
use Rattle.wy_event.specs.Record.{Recorded, recorded}
use Rattle.wy_kernel.specs.View.{NONE}

-- ---- parts of an event

abbrev pub number : ℕ → List ℕ
number n = to_be_bytes w32 n

abbrev pub optional : Option ℕ → List ℕ
optional Absent = number NONE
optional (Some n) = number n

abbrev pub kind_number : Kind → ℕ
kind_number kind.Init = 0
kind_number kind.New = 1
kind_number kind.Call = 2
kind_number kind.Bind = 3
kind_number kind.Set = 4
kind_number kind.Test = 5
kind_number kind.Text = 6
kind_number kind.Read = 7
kind_number kind.Print = 8
kind_number kind.Return = 9
kind_number kind.Jump = 10
kind_number kind.Throw = 11
kind_number kind.Catch = 12

-- a tag, and the numbers that tell the slot
unfoldable pub slot_bytes : Slot → List ℕ
slot_bytes slots.None = 0 ∷ []
slot_bytes (slots.Local frame index) = 1 ∷ number frame ++ number index
slot_bytes (slots.Static field) = 2 ∷ number field
slot_bytes (slots.Field object field) = 3 ∷ number object ++ number field
slot_bytes (slots.Elem array index) = 4 ∷ number array ++ number index

-- the tag of an arm, which is that of a boolean in version 1
abbrev pub arm_tag : Version → ℕ
arm_tag version.One = 1
arm_tag version.Two = 12

-- what stands behind it: in version 1 arm 1 is spelled as the boolean true and arm 0 as false, in version 2 an arm is a number
abbrev pub arm_number : Version → ℕ → List ℕ
arm_number version.One n = (if n == 1 then 1 else 0) ∷ []
arm_number version.Two n = number n

-- what version 1 can spell: of arms those of a truth
abbrev pub FitsOne : Value → Type 0
FitsOne (val.Arm n) = n < 2
FitsOne _ = Unit {0}

-- a tag, and the number that the value is, in as many bytes as its type has
unfoldable pub value_bytes : Version → Value → List ℕ
value_bytes v val.None = 0 ∷ []
value_bytes v (val.Bool b) = 1 ∷ (if b then 1 else 0) ∷ []
value_bytes v (val.Byte z) = 2 ∷ cast_unsigned w8 z ∷ []
value_bytes v (val.Short z) = 3 ∷ to_be_bytes w16 (cast_unsigned w16 z)
value_bytes v (val.Char u) = 4 ∷ to_be_bytes w16 u
value_bytes v (val.Int z) = 5 ∷ to_be_bytes w32 (cast_unsigned w32 z)
value_bytes v (val.Long z) = 6 ∷ to_be_bytes w64 (cast_unsigned w64 z)
value_bytes v val.Null = 7 ∷ []
value_bytes v (val.Object n) = 8 ∷ number n
value_bytes v (val.Text n) = 9 ∷ number n
value_bytes v (val.Fixed n) = 10 ∷ number n
value_bytes v (val.Arm n) = arm_tag v ∷ arm_number v n

-- what a Text made: a tag, how many units, and the units in two bytes each
unfoldable pub units_bytes : List ℕ → List ℕ
units_bytes units = 11 ∷ number (length units) ++ flat_map (to_be_bytes w16) units

-- the units where the event is a Text, and else the value
abbrev pub content_bytes : Version → Kind → Value → List ℕ → List ℕ
content_bytes v kind.Text x units = units_bytes units
content_bytes v _ x units = value_bytes v x

unfoldable pub use_bytes : Use → List ℕ
use_bytes (used.Place slot moment) = 1 ∷ slot_bytes slot ++ number moment
use_bytes (used.Value event) = 2 ∷ number event
use_bytes (used.Choice event) = 3 ∷ number event

unfoldable pub uses_bytes : List Use → List ℕ
uses_bytes uses = number (length uses) ++ flat_map use_bytes uses

-- ---- frames

-- a byte that names the kind, the length of what follows, and this
abbrev pub frame : ℕ → List ℕ → List ℕ
frame letter payload = letter ∷ number (length payload) ++ payload

-- what an event is and where it stands
unfoldable pub origin_bytes : Recorded → List ℕ
origin_bytes e = kind_number e.kind ∷ number e.site ++ (optional e.frame ++ (optional e.control ++ optional e.entity))

unfoldable pub event_payload : Version → Recorded → List ℕ
event_payload v e = origin_bytes e ++ (slot_bytes e.slot ++ (content_bytes v e.kind e.value e.units ++ uses_bytes e.uses))

unfoldable pub head_payload : Head → List ℕ
head_payload head = number head.steps ++ (number (length head.input) ++ (head.input ++ (number (length head.source) ++ head.source)))

unfoldable pub cover_bytes : Cover → List ℕ
cover_bytes c = number c.begins ++ (number c.ends ++ (number c.first ++ number c.cause))

unfoldable pub coverage_payload : Coverage → List ℕ
coverage_payload coverage = number (length coverage.statements) ++ flat_map cover_bytes coverage.statements

-- steps, events, uses and bytes of output
unfoldable pub count_bytes : Tail → List ℕ
count_bytes tail = number tail.steps ++ (number tail.events ++ (number tail.uses ++ number tail.output))

unfoldable pub tail_payload : Tail → List ℕ
tail_payload tail = tail.stop ∷ number tail.last ++ count_bytes tail

-- `H`, `E`, `C`, `T` and `S`
unfoldable pub head_frame : Head → List ℕ
head_frame head = frame 72 (head_payload head)

unfoldable pub event_frame : Version → Recorded → List ℕ
event_frame v e = frame 69 (event_payload v e)

unfoldable pub coverage_frame : Coverage → List ℕ
coverage_frame coverage = frame 67 (coverage_payload coverage)

unfoldable pub end_frame : Tail → List ℕ
end_frame tail = frame 84 (tail_payload tail)

unfoldable pub seal_frame : List ℕ → List ℕ
seal_frame seal = frame 83 seal

-- ---- a trace

abbrev pub magic : Version → List ℕ
magic version.One = codes "WHYTRAC1"
magic version.Two = codes "WHYTRAC2"

unfoldable pub opening : Version → Head → List ℕ
opening v head = magic v ++ head_frame head

unfoldable pub tail_frames : Tail → List ℕ
tail_frames tail = coverage_frame tail.coverage ++ end_frame tail

unfoldable pub events_bytes : Version → List Event → List ℕ
events_bytes v events = flat_map (λ e. event_frame v (recorded e)) events

-- bytes, and the digest of them
unfoldable pub sealed : List ℕ → List ℕ
sealed bytes = bytes ++ seal_frame (sha256 bytes)

-- what closes the bytes of head and events
unfoldable pub closing : Tail → List ℕ → List ℕ
closing tail bytes = tail_frames tail ++ seal_frame (sha256 (bytes ++ tail_frames tail))

unfoldable pub trace_bytes : Version → Trace → List ℕ
trace_bytes v t = sealed (opening v t.head ++ (events_bytes v t.events ++ tail_frames t.tail))

-- the trace of a run: its head, a frame for each event, and what closes them
abbrev pub run_bytes : Version → Head → List Recorded → Tail → List ℕ
run_bytes v head rs end = let front = opening v head ++ concat (map (event_frame v) rs) in front ++ closing end front
