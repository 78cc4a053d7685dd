-- What a heap knows of a program: its fields with their first values, and the class above each class.
use Rattle.std.specs.Prelude.{ℕ, zero, suc, Bool, false, not, ◌&&◌, nat_eq, if◌then◌else◌, List, [], ◌∷◌, ◌++◌, length, map, reverse, slice_index_or, Option, option_map}
use Rattle.std.specs.Prelude.{None as Absent, Some}
use Rattle.wy_kernel.specs.Program.{Program, Field}
use Rattle.wy_value.specs.declared.value.Value.{Value}
use Rattle.wy_value.specs.declared.value.Value.TheVariants.{Null}
use Rattle.wy_steps.specs.Steps.{default_value}
use Rattle.wy_heap.specs.declared.plan.FieldPlan.{FieldPlan}

-- fields and classes by their numbers
pub record Plan : Type 0 where
  pub fields : List FieldPlan
  pub above : List (Option ℕ)

unfoldable pub planned : Field → FieldPlan
planned f = record { class = f.class; is_static = f.is_static; first = default_value f.ty }

unfoldable pub plan_of : Program → Plan
plan_of p = record { fields = map planned p.fields; above = map (λ c. c.above) p.classes }

-- a field that no program has
abbrev pub unplanned : FieldPlan
unplanned = record { class = 0; is_static = false; first = Null }

abbrev pub field_at : List FieldPlan → ℕ → FieldPlan
field_at fields f = slice_index_or fields f unplanned

-- the value that a field has first
unfoldable pub first_of : Plan → ℕ → Value
first_of plan f = (field_at plan.fields f).first

-- a class declares the field for its objects
unfoldable pub is_own : ℕ → FieldPlan → Bool
is_own c d = not d.is_static && nat_eq d.class c

-- of the fields below a number, those that a class declares for its objects
unfoldable pub own_below : List FieldPlan → ℕ → ℕ → List ℕ
own_below fields c zero = []
own_below fields c (suc n) = if is_own c (field_at fields n) then own_below fields c n ++ n ∷ [] else own_below fields c n

unfoldable pub own_of : Plan → ℕ → List ℕ
own_of plan c = own_below plan.fields c (length plan.fields)

unfoldable pub fields_above : (ℕ → List ℕ) → Option ℕ → List ℕ
fields_above f Absent = []
fields_above f (Some c) = f c

-- the fields of a class, and of the classes above it; no chain of classes is longer than there are classes
unfoldable pub fields_up : Plan → ℕ → ℕ → List ℕ
fields_up plan zero c = []
fields_up plan (suc longest) c = own_of plan c ++ fields_above (fields_up plan longest) (slice_index_or plan.above c Absent)

-- the fields of an object of a class, the highest class first
unfoldable pub fields_of : Plan → ℕ → List ℕ
fields_of plan c = reverse (fields_up plan (length plan.above) c)

-- a static field of a class
unfoldable pub is_static_of : Plan → ℕ → ℕ → Bool
is_static_of plan c f = (field_at plan.fields f).is_static && nat_eq (field_at plan.fields f).class c

-- the place of a number in a list
unfoldable pub position_of : List ℕ → ℕ → Option ℕ
position_of [] f = Absent
position_of (x ∷ xs) f = if nat_eq x f then Some zero else option_map suc (position_of xs f)
