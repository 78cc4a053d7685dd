-- What one record of the told ones says.
use Rattle.std.proofs.Common.{◌≡◌, ◌∙◌, ◌++◌, ◌<◌, ◌≤◌, ℕ, Bool, List, Option, Some, sym, ap, subst, arith}
use Rattle.std.specs.Prelude.{IfSome, codes, slice_get}
use Rattle.wy_kernel.specs.Program.{Program}
use Rattle.wy_value.specs.declared.value.Value.{Value}
use Rattle.wy_value.specs.declared.value.Value.TheVariants as value
use Rattle.wy_event.specs.declared.record.Kind.{Kind}
use Rattle.wy_event.specs.declared.record.Kind.TheVariants as kind
use Rattle.wy_event.specs.declared.record.Slot.{Slot}
use Rattle.wy_event.specs.declared.record.Slot.TheVariants as slot
use Rattle.wy_event.specs.Record.{Recorded}
use Rattle.wy_view.specs.References.{RefersBelow, SlotBelow, ValueBelow}
use Rattle.wy_text.specs.EventLines.{deed, deed_of, event_line, given, line_at, line_with}
use Rattle.wy_text.specs.EndLines.{line_of}
use Rattle.wy_text.specs.FrameLines.{frame_line, running, running_at}
use Rattle.wy_text.specs.Names.{made_name, numbered}
use Rattle.wy_text.specs.Places.{begun, frame_body, local_name, slot_text}
use Rattle.wy_text.specs.Values.{value_text, entity_of}

pub told_record : (told : Option (List Recorded)) (rs : List Recorded) (n : ℕ) (e : Recorded) → told ≡ Some rs → IfSome told (λ all. slice_get all n ≡ Some e) → slice_get rs n ≡ Some e
told_record told rs n e is at = subst (λ o. IfSome o (λ all. slice_get all n ≡ Some e)) is at

frame_read : (p : Program) (o : Option Recorded) (e : Recorded) (k : Kind) (entity : Option ℕ) → o ≡ Some e → k ≡ e.kind → entity ≡ e.entity → begun p k entity ≡ frame_body p o
unfolding frame_body
frame_read p o e k entity at is about = ap (λ j. begun p j entity) is ∙ ap (begun p e.kind) about ∙ sym (ap (frame_body p) at)

-- a local by what the record of its frame says
pub local_read : (p : Program) (rs : List Recorded) (frame index : ℕ) (e : Recorded) (k : Kind) (entity : Option ℕ) → slice_get rs frame ≡ Some e → k ≡ e.kind → entity ≡ e.entity
    → local_name (begun p k entity) index ≡ slot_text p rs (slot.Local frame index)
unfolding slot_text
local_read p rs frame index e k entity at is about = ap (λ b. local_name b index) (frame_read p (slice_get rs frame) e k entity at is about)

running_read : (p : Program) (o : Option Recorded) (e : Recorded) (k : Kind) (entity : Option ℕ) → o ≡ Some e → k ≡ e.kind → entity ≡ e.entity → running p k entity ≡ running_at p o
unfolding running_at
running_read p o e k entity at is about = ap (λ j. running p j entity) is ∙ ap (running p e.kind) about ∙ sym (ap (running_at p) at)

-- a frame by what the record of its event says
pub frame_told : (p : Program) (rs : List Recorded) (n : ℕ) (e : Recorded) (k : Kind) (entity : Option ℕ) → slice_get rs n ≡ Some e → k ≡ e.kind → entity ≡ e.entity
    → line_of (numbered n ++ (codes " " ++ running p k entity)) ≡ frame_line p rs n
unfolding frame_line
frame_told p rs n e k entity at is about = ap (λ (l : List ℕ). line_of (numbered n ++ (codes " " ++ l))) (running_read p (slice_get rs n) e k entity at is about)

entity_read : (o : Option Recorded) (e : Recorded) (entity : Option ℕ) → o ≡ Some e → entity ≡ e.entity → entity ≡ entity_of o
unfolding entity_of
entity_read o e entity at about = about ∙ sym (ap entity_of at)

-- an object by what the record of its New says
pub object_read : (p : Program) (rs : List Recorded) (n : ℕ) (e : Recorded) (entity : Option ℕ) → slice_get rs n ≡ Some e → entity ≡ e.entity → made_name p entity ++ numbered n ≡ value_text p rs (value.Object n)
unfolding value_text
object_read p rs n e entity at about = ap (λ o. made_name p o ++ numbered n) (entity_read (slice_get rs n) e entity at about)

-- ---- to what a line refers

slot_up : (m n : ℕ) (x : Slot) → m ≤ n → SlotBelow m x → SlotBelow n x
slot_up m n (slot.Local frame index) le h = omega (arith, le, h)
slot_up m n (slot.Field object field) le h = omega (arith, le, h)
slot_up m n (slot.Elem array index) le h = omega (arith, le, h)
slot_up m n _ le h = tt

value_up : (m n : ℕ) (v : Value) → m ≤ n → ValueBelow m v → ValueBelow n v
value_up m n (value.Object k) le h = omega (arith, le, h)
value_up m n (value.Text k) le h = omega (arith, le, h)
value_up m n _ le h = tt

pub slot_within : (n count : ℕ) (e : Recorded) → n < count → RefersBelow n e → SlotBelow count e.slot
slot_within n count e lt refers = slot_up n count e.slot (omega (arith, lt)) refers.slot

given_within : (n count : ℕ) (k : Kind) (v : Value) → n < count → ValueBelow n v → ValueBelow count (given k n v)
unfolding given
given_within n count kind.Text v lt h = lt
given_within n count _ v lt h = value_up n count v (omega (arith, lt)) h

pub value_within : (n count : ℕ) (e : Recorded) → n < count → RefersBelow n e → ValueBelow count (given e.kind n e.value)
value_within n count e lt refers = given_within n count e.kind e.value lt refers.value

-- ---- the line of a record

pub line_read : (p : Program) (lines : List ℕ) (rs : List Recorded) (n : ℕ) (marked : Bool) (e : Recorded) → slice_get rs n ≡ Some e → line_with lines n e.site (deed p e.kind e.entity (slot_text p rs e.slot) (value_text p rs (given e.kind n e.value))) marked ≡ event_line p lines rs n marked
unfolding event_line line_at deed_of
line_read p lines rs n marked e at = sym (ap (line_at p lines rs n marked) at)
