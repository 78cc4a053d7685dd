-- The order of postings: by their slots, and then by their events.
use Rattle.std.specs.Prelude.{ℕ, Bool, true, false, List, IsSorted}
use Rattle.std.specs.declared.cmp.Ordering.{Ordering}
use Rattle.std.specs.Ordering.{nat_cmp, ordering_then}
use Rattle.wy_event.specs.declared.record.Slot.{Slot}
use Rattle.wy_event.specs.declared.record.Slot.TheVariants as slot
use Rattle.wy_index.specs.declared.posting.Posting.{Posting}

abbrev pub is_no_slot : Slot → Bool
is_no_slot slot.None = true
is_no_slot _ = false

-- slots of one kind stand together
abbrev pub kind_rank : Slot → ℕ
kind_rank slot.None = 0
kind_rank (slot.Local frame index) = 1
kind_rank (slot.Static field) = 2
kind_rank (slot.Field object field) = 3
kind_rank (slot.Elem array index) = 4

-- then those of one frame, object or array
abbrev pub holder_rank : Slot → ℕ
holder_rank slot.None = 0
holder_rank (slot.Local frame index) = frame
holder_rank (slot.Static field) = 0
holder_rank (slot.Field object field) = object
holder_rank (slot.Elem array index) = array

abbrev pub part_rank : Slot → ℕ
part_rank slot.None = 0
part_rank (slot.Local frame index) = index
part_rank (slot.Static field) = field
part_rank (slot.Field object field) = field
part_rank (slot.Elem array index) = index

abbrev pub slot_cmp : Slot → Slot → Ordering
slot_cmp a b = ordering_then (ordering_then (nat_cmp (kind_rank a) (kind_rank b)) (nat_cmp (holder_rank a) (holder_rank b))) (nat_cmp (part_rank a) (part_rank b))

abbrev pub posting_cmp : Posting → Posting → Ordering
posting_cmp a b = ordering_then (slot_cmp a.slot b.slot) (nat_cmp a.event b.event)

-- equal slots stand together, and their events rise
abbrev pub IsInOrder : List Posting → Type 0
IsInOrder postings = IsSorted posting_cmp postings
