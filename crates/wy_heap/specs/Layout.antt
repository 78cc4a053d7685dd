-- Rows of fields that are the fields of their classes, with offsets that are places in them.
use Rattle.std.specs.Prelude.{◌≡◌, ◌≢◌, ◌<◌, ◌≤◌, ℕ, Bool, List, [], ◌∷◌, ◌++◌, length, map, slice_index, slice_index_or, slice_set, Option, Some, is_some}
use Rattle.std.specs.Prelude.{None as Absent}
use Rattle.std.specs.declared.vec.Vec.{Vec}
use Rattle.std.specs.declared.alloc.Global.{Global}
use Rattle.wy_kernel.specs.View.{present}
use Rattle.wy_heap.specs.declared.plan.FieldPlan.{FieldPlan}
use Rattle.wy_heap.specs.declared.layout.Row.{Row}
use Rattle.wy_heap.specs.Plan.{Plan, first_of, own_below, fields_of}

-- the number of no offset
abbrev pub no_offset : ℕ
no_offset = 4294967295

abbrev pub plan_with : List FieldPlan → List ℕ → Plan
plan_with fields above = record { fields = fields; above = map present above }

abbrev pub lists_of : List (Vec ℕ Global) → List (List ℕ)
lists_of owns = map (λ v. v.items) owns

-- a class has one more field
pub record AddsTo (c f : ℕ) (old new : List (List ℕ)) : Type 0 where
  pub inside : c < length old
  pub is : new ≡ slice_set old c (slice_index_or old c [] ++ f ∷ [])

-- for each class the fields below a number that it declares for its objects
pub record AreOwn (fields : List FieldPlan) (many : ℕ) (owns : List (List ℕ)) : Type 0 where
  pub each : (c : ℕ) → slice_index_or owns c [] ≡ own_below fields c many

-- each field of a row has its place there as its offset
pub record IsPlaced (offsets row : List ℕ) : Type 0 where
  pub few : length row ≤ no_offset
  pub each : (k : ℕ) → k < length row → slice_index_or offsets (slice_index row k) no_offset ≡ k

-- what has an offset keeps it
pub record KeepsOffsets (old new : List ℕ) : Type 0 where
  pub each : (f : ℕ) → slice_index_or old f no_offset ≢ no_offset → slice_index_or new f no_offset ≡ slice_index_or old f no_offset

-- the row of a class is worked out
unfoldable pub is_known : List (Option Row) → ℕ → Bool
is_known rows c = is_some (slice_index_or rows c Absent)

-- a row has the fields of its class, with their first values, and each stands at its offset
pub record IsRow (plan : Plan) (offsets : List ℕ) (c : ℕ) (row : Row) : Type 0 where
  pub fields : row.fields.items ≡ fields_of plan c
  pub firsts : row.firsts.items ≡ map (first_of plan) (fields_of plan c)
  pub placed : IsPlaced offsets row.fields.items

pub record IsLaidOut (fields : List FieldPlan) (above : List ℕ) (owns : List (Vec ℕ Global)) (laid : List (Option Row)) (offsets : List ℕ) : Type 0 where
  pub few : length above ≤ 16777200
  pub a_list_a_class : length owns ≡ length above
  pub own : AreOwn fields (length fields) (lists_of owns)
  pub a_row_a_class : length laid ≡ length above
  pub rows : (c : ℕ) (row : Row) → slice_index_or laid c Absent ≡ Some row → IsRow (plan_with fields above) offsets c row
