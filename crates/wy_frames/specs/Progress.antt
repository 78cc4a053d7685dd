-- What stands of a trace, and what a frame adds to it.
use Rattle.std.specs.Prelude.{ℕ, ◌+◌, ◌==◌, if◌then◌else◌, List, [], ◌∷◌, ◌++◌, length, map, Result, Ok, Err}
use Rattle.std.specs.Str.{bytes_eq}
use Rattle.sha2.specs.Sha256.{sha256}
use Rattle.wy_event.specs.declared.record.Event.{Event}
use Rattle.wy_event.specs.declared.record.Head.{Head}
use Rattle.wy_event.specs.declared.record.Coverage.{Coverage}
use Rattle.wy_event.specs.declared.record.Tail.{Tail}
use Rattle.wy_event.specs.declared.record.Version.{Version}
use Rattle.wy_spelling.specs.Spelling.{opening}
use Rattle.wy_payload.specs.declared.fault.DamageRule.{DamageRule}
use Rattle.wy_payload.specs.declared.fault.DamageRule.TheVariants as rule
use Rattle.wy_payload.specs.declared.ranges.Ranges.{Ranges}
use Rattle.wy_payload.specs.declared.known.Known.{Known}
use Rattle.wy_payload.specs.declared.event.Written.{Written}
use Rattle.wy_payload.specs.Ranges.{known_of}
use Rattle.wy_payload.specs.Reading.{all_of}
use Rattle.wy_payload.specs.Events.{event_at}
use Rattle.wy_payload.specs.Closing.{coverage_at, tail_at}
use Rattle.wy_frames.specs.declared.stage.ReadEvent.{ReadEvent}
use Rattle.wy_frames.specs.declared.stage.Stage.{Stage}
use Rattle.wy_frames.specs.declared.stage.Stage.TheVariants as stages
use Rattle.wy_frames.specs.Frames.{Frame}

-- the bytes of the frames that stand, the events of them with the places behind their frames, and how many uses and bytes of output these have
pub record Progress : Type 0 where
  pub before : List ℕ
  pub placed : List ReadEvent
  pub uses : ℕ
  pub output : ℕ
  pub stage : Stage

unfoldable pub start : Version → Head → Progress
start v head = record { before = opening v head; placed = []; uses = 0; output = 0; stage = stages.Open }

abbrev pub event_in : ReadEvent → Event
event_in p = p.event

abbrev pub known_as_placed : ReadEvent → Known
known_as_placed p = known_of p.event

abbrev pub knowns : Progress → List Known
knowns s = map known_as_placed s.placed

-- a frame breaks a rule, or seals other bytes than these
pub data Wrong : Type 0 where
  Violates : DamageRule → Wrong
  Unsealed : Wrong

abbrev pub Next : Type 0
Next = Result Progress Wrong

-- what reading a frame gives
abbrev pub read_as : {A : Type 0} → (A → Progress) → Result A DamageRule → Next
read_as f (Ok x) = Ok (f x)
read_as f (Err r) = Err (Violates r)

unfoldable pub with_event : Progress → List ℕ → Written → Progress
with_event s bytes w = record { before = s.before ++ bytes; placed = s.placed ++ record { event = w.event; end = length (s.before ++ bytes) } ∷ []; uses = s.uses + length w.event.uses; output = w.output; stage = stages.Open }

unfoldable pub with_stage : Progress → List ℕ → Stage → Progress
with_stage s bytes stage = record { before = s.before ++ bytes; placed = s.placed; uses = s.uses; output = s.output; stage = stage }

-- of an event with these bytes and this payload; and so on
unfoldable pub event_next : Ranges → Progress → List ℕ → List ℕ → Next
event_next r s whole payload = read_as (with_event s whole) (all_of (event_at r (knowns s) s.output payload))

unfoldable pub coverage_next : Ranges → Progress → List ℕ → List ℕ → Next
coverage_next r s whole payload = read_as (λ c. with_stage s whole (stages.Covered c)) (all_of (coverage_at r.statements (knowns s) payload))

unfoldable pub end_next : ℕ → Progress → Coverage → List ℕ → List ℕ → Next
end_next steps s c whole payload = read_as (λ t. with_stage s whole (stages.Ended t)) (all_of (tail_at (knowns s) (record { steps = steps; uses = s.uses; output = s.output }) c payload))

abbrev pub seal_length : ℕ
seal_length = 32

-- the digest of all bytes before it
unfoldable pub seal_next : Progress → Tail → List ℕ → List ℕ → Next
seal_next s t whole payload = if length payload == seal_length
    then (if bytes_eq payload (sha256 s.before) then Ok (with_stage s whole (stages.Sealed t (sha256 s.before))) else Err Unsealed)
    else Err (Violates rule.Length)

abbrev pub where_letter : ℕ → ℕ → Next → Next
where_letter wanted letter next = if letter == wanted then next else Err (Violates rule.FrameKind)

-- `E` or `C`
unfoldable pub open_next : Ranges → Progress → Frame → Next
open_next r s f = if f.letter == 69 then event_next r s f.whole f.payload else where_letter 67 f.letter (coverage_next r s f.whole f.payload)

-- `T`
unfoldable pub covered_next : ℕ → Progress → Coverage → Frame → Next
covered_next steps s c f = where_letter 84 f.letter (end_next steps s c f.whole f.payload)

-- `S`
unfoldable pub ended_next : Progress → Tail → Frame → Next
ended_next s t f = where_letter 83 f.letter (seal_next s t f.whole f.payload)

unfoldable pub next_at : Ranges → ℕ → Progress → Stage → Frame → Next
next_at r steps s stages.Open f = open_next r s f
next_at r steps s (stages.Covered c) f = covered_next steps s c f
next_at r steps s (stages.Ended t) f = ended_next s t f
next_at r steps s (stages.Sealed t seal) f = Err (Violates rule.After)

-- what stands with the frame, by the ranges of the program and the step budget of the head
abbrev pub next_of : Ranges → ℕ → Progress → Frame → Next
next_of r steps s f = next_at r steps s s.stage f
