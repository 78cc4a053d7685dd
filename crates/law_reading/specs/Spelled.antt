-- What is read is spelled so.
use Rattle.std.specs.Prelude.{◌≡◌, ℕ, ◌<◌, ◌≤◌, ◌^◌, ◌++◌, length, List, map, take, Ok, Err, slice_index}
use Rattle.wy_kernel.specs.declared.program.Program.{Program}
use Rattle.wy_event.specs.declared.record.Head.{Head}
use Rattle.wy_event.specs.declared.record.Trace.{Trace}
use Rattle.wy_spelling.specs.Spelling.{coverage_payload, event_payload, opening, run_bytes, slot_bytes, tail_frames, tail_payload, trace_bytes}
use Rattle.wy_fitting.specs.Fits.{AllFit, AllTold, EndFits, told}
use Rattle.wy_event.specs.declared.record.Coverage.{Coverage}
use Rattle.wy_event.specs.declared.record.Tail.{Tail}
use Rattle.wy_event.specs.declared.record.Slot.{Slot}
use Rattle.wy_event.specs.declared.record.Version.{Version}
use Rattle.wy_event.specs.Record.{Recorded, recorded}
use Rattle.wy_payload.specs.declared.ranges.Ranges.{Ranges}
use Rattle.wy_payload.specs.declared.slot.SlotForm.{SlotForm}
use Rattle.wy_payload.specs.declared.event.Written.{Written}
use Rattle.wy_payload.specs.Places.{slot_at}
use Rattle.wy_payload.specs.Events.{event_at}
use Rattle.wy_payload.specs.declared.known.Known.{Known}
use Rattle.wy_payload.specs.declared.closing.Totals.{Totals}
use Rattle.wy_payload.specs.Reading.{all_of}
use Rattle.wy_kernel.specs.Limits.{source_limit, trace_limit}
use Rattle.wy_payload.specs.Closing.{coverage_at, tail_at}
use Rattle.wy_frames.specs.declared.error.TraceError.TheVariants.{Cut}
use Rattle.wy_frames.specs.Heads.{head_of, version_of}
use Rattle.wy_frames.specs.Traces.{IsReadAs}

-- each is below 256
abbrev pub AreBytes : List ℕ → Type 0
AreBytes bytes = (i : ℕ) → slice_index bytes i < 256

abbrev pub HeadsAreSpelled : Type 0
HeadsAreSpelled = (bytes : List ℕ) (head : Head) (end : ℕ) (v : Version) → AreBytes bytes → head_of bytes ≡ Ok (head, end, v) → take end bytes ≡ opening v head

-- a coverage and the end of a run that payloads are read as, to their ends
abbrev pub CoveragesAreSpelled : Type 0
CoveragesAreSpelled = (statements : ℕ) (earlier : List Known) (payload : List ℕ) (c : Coverage) → AreBytes payload → all_of (coverage_at statements earlier payload) ≡ Ok c → payload ≡ coverage_payload c

abbrev pub TailsAreSpelled : Type 0
TailsAreSpelled = (earlier : List Known) (totals : Totals) (coverage : Coverage) (payload : List ℕ) (t : Tail) → AreBytes payload → all_of (tail_at earlier totals coverage payload) ≡ Ok t → payload ≡ tail_payload t

-- a slot that bytes are read to begin with
abbrev pub SlotsAreSpelled : Type 0
SlotsAreSpelled = (r : Ranges) (earlier : List Known) (wanted : SlotForm) (bytes : List ℕ) (x : Slot) (rest : List ℕ) → AreBytes bytes → slot_at r earlier wanted bytes ≡ Ok (x, rest) → bytes ≡ slot_bytes x ++ rest

-- a whole event that a payload is read as, to its end, by what is known of those before it and behind so much output
abbrev pub EventsAreSpelled : Type 0
EventsAreSpelled = (r : Ranges) (earlier : List Known) (output : ℕ) (payload : List ℕ) (w : Written) → AreBytes payload → all_of (event_at r earlier output payload) ≡ Ok w → payload ≡ event_payload r.version (recorded w.event)

-- a trace that bytes are read as, all of them, in the version that they begin with
abbrev pub TracesAreSpelled : Type 0
TracesAreSpelled = (p : Program) (bytes : List ℕ) (x : Trace) → AreBytes bytes → IsReadAs p bytes (Ok x) → bytes ≡ trace_bytes (version_of bytes) x

-- of a trace that is cut behind n bytes these are read as cut there
abbrev pub PrefixesAreCut : Type 0
PrefixesAreCut = (p : Program) (bytes : List ℕ) (x : Trace) (n : ℕ) → AreBytes bytes → IsReadAs p bytes (Ok x) → n < length bytes → IsReadAs p (take n bytes) (Err (Cut n))

-- the source of a head that bytes begin with is within its limit
abbrev pub HeadsAreShort : Type 0
HeadsAreShort = (bytes : List ℕ) (head : Head) (end : ℕ) (v : Version) → head_of bytes ≡ Ok (head, end, v) → length head.source ≤ source_limit

-- ---- the way back

-- what holds of each run whose events fit their bytes, and of the trace that is read from its bytes in either version
abbrev pub OfReadRuns : (Version → Head → List Recorded → Tail → Trace → Type 0) → Type 0
OfReadRuns Q = (v : Version) (p : Program) (head : Head) (rs : List Recorded) (end : Tail) (bytes : List ℕ) (x : Trace) → AreBytes bytes → length bytes ≤ trace_limit → AllFit rs → bytes ≡ run_bytes v head rs end → IsReadAs p bytes (Ok x) → Q v head rs end x

-- its events are read, so far as bytes tell them
abbrev pub RecordedEventsAreTold : Type 0
RecordedEventsAreTold = OfReadRuns (λ v head rs end x. map recorded x.events ≡ map (told v) rs)

-- just its events are read where bytes tell all of them
abbrev pub RecordedTracesAreReadBack : Type 0
RecordedTracesAreReadBack = OfReadRuns (λ v head rs end x. AllTold v rs → map recorded x.events ≡ rs)

-- its head is read
abbrev pub RecordedHeadsAreReadBack : Type 0
RecordedHeadsAreReadBack = OfReadRuns (λ v head rs end x. head.steps < 2 ^ 32 → x.head ≡ head)

-- its coverage and its end are read, so far as their bytes tell
abbrev pub RecordedEndsAreTold : Type 0
RecordedEndsAreTold = OfReadRuns (λ v head rs end x. tail_frames x.tail ≡ tail_frames end)

-- just its end is read where the numbers of both fit
abbrev pub RecordedEndsAreReadBack : Type 0
RecordedEndsAreReadBack = OfReadRuns (λ v head rs end x. EndFits end → EndFits x.tail → x.tail ≡ end)
