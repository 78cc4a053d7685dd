-- What a heap says: what its slots hold, and the objects, arrays and texts by their numbers.
use Rattle.std.specs.Prelude.{◌+◌, ℕ, Bool, false, ◌&&◌, ◌||◌, nat_lt, if◌then◌else◌, List, length, slice_get, slice_index_or, slice_range, Option, Some, is_some, option_and_then, option_map}
use Rattle.std.specs.Prelude.{None as Absent}
use Rattle.wy_value.specs.declared.value.Value.{Value}
use Rattle.wy_event.specs.declared.record.Slot.{Slot}
use Rattle.wy_event.specs.declared.record.Slot.TheVariants.{Static, Field, Elem}
use Rattle.wy_heap.specs.declared.block.Block.{Block}
use Rattle.wy_heap.specs.declared.block.Block.TheVariants.{Object, Array, Text}
use Rattle.wy_heap.specs.declared.heap.Heap.{Heap}
use Rattle.wy_heap.specs.Plan.{Plan, field_at, fields_of, position_of}
use Rattle.wy_heap.specs.Layout.{plan_with}
use Rattle.wy_heap.specs.Block.{block_at}

-- what the heap knows of its program
unfoldable pub plan : Heap → Plan
plan h = plan_with h.layouts.fields.items h.layouts.above.items

-- the static fields of a class were made
unfoldable pub is_made : Heap → ℕ → Bool
is_made h c = slice_index_or h.begun.items c false

-- the place of a static field that was made
unfoldable pub static_place : Plan → List Bool → ℕ → Option ℕ
static_place plan begun f = if (field_at plan.fields f).is_static && slice_index_or begun (field_at plan.fields f).class false then Some f else Absent

-- the place among the values of a field, if the block is an object that has it
unfoldable pub field_place : Plan → Block → ℕ → Option ℕ
field_place plan (Object c begin n) f = option_map (λ k. begin + k) (position_of (fields_of plan c) f)
field_place plan _ f = Absent

-- the place among the values of an element, if the block is an array that has it
unfoldable pub element_place : Block → ℕ → Option ℕ
element_place (Array k begin n) i = if nat_lt i n then Some (begin + i) else Absent
element_place _ i = Absent

-- the value at a place
unfoldable pub value_at : List Value → Option ℕ → Option Value
value_at values place = option_and_then (slice_get values) place

-- what a slot holds: a static field of a class that was made, a field of an object or an element of an array; and nothing, where it is none of these
unfoldable pub held : Heap → Slot → Option Value
held h (Static f) = value_at h.statics.items (static_place (plan h) h.begun.items f)
held h (Field object f) = value_at h.values.items (field_place (plan h) (block_at h.blocks.items object) f)
held h (Elem array i) = value_at h.values.items (element_place (block_at h.blocks.items array) i)
held h _ = Absent

unfoldable pub code_in : Block → Option ℕ
code_in (Object c begin n) = Some (16 + c)
code_in (Array k begin n) = Some k
code_in _ = Absent

-- the code of the type of an object or an array
unfoldable pub code : Heap → ℕ → Option ℕ
code h n = code_in (block_at h.blocks.items n)

unfoldable pub size_in : Block → Option ℕ
size_in (Array k begin n) = Some n
size_in _ = Absent

-- the number of the elements of an array
unfoldable pub size : Heap → ℕ → Option ℕ
size h n = size_in (block_at h.blocks.items n)

unfoldable pub text_in : List ℕ → Block → Option (List ℕ)
text_in units (Text begin n) = Some (slice_range units begin (begin + n))
text_in units _ = Absent

-- the units of a text
unfoldable pub text : Heap → ℕ → Option (List ℕ)
text h n = text_in h.units.items (block_at h.blocks.items n)

-- the number is that of an object, an array or a text
unfoldable pub is_live : Heap → ℕ → Bool
is_live h n = is_some (code h n) || is_some (text h n)

-- elements of all arrays
unfoldable pub element_count : Heap → ℕ
element_count h = h.elements

-- units of all texts
unfoldable pub unit_count : Heap → ℕ
unit_count h = length h.units.items
