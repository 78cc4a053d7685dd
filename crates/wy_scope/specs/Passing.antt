-- Which events of a scope pass a region.
use Rattle.std.specs.Prelude.{◌≡◌, ◌<◌, ℕ, Bool, true, false, ◌&&◌, ◌==◌, if◌then◌else◌, List, [], ◌∷◌, length, Option, Some, slice_get}
use Rattle.std.specs.Prelude.{None as Absent}
use Rattle.std.specs.List.{flat_map, list_any, range_with_len}
use Rattle.wy_kernel.specs.Program.{Program}
use Rattle.wy_value.specs.declared.value.Value.{Value}
use Rattle.wy_value.specs.declared.value.Value.TheVariants as value
use Rattle.wy_event.specs.declared.record.Kind.{Kind}
use Rattle.wy_event.specs.declared.record.Kind.TheVariants as event
use Rattle.wy_event.specs.Record.{Recorded}
use Rattle.wy_static.specs.declared.point.Point.{Point}
use Rattle.wy_static.specs.declared.point.Point.TheVariants as point
use Rattle.wy_static.specs.declared.point.LinkKind.{LinkKind}
use Rattle.wy_static.specs.declared.point.LinkKind.TheVariants as kind
use Rattle.wy_static.specs.declared.way.Goal.{Goal}
use Rattle.wy_static.specs.declared.way.Goal.TheVariants.{Known}
use Rattle.wy_static.specs.declared.way.Way.{Way}
use Rattle.wy_static.specs.Order.{same_point}
use Rattle.wy_static.specs.Ways.{ways_of}
use Rattle.wy_scope.specs.Scope.{in_scope}

-- ---- arms of statements

-- the arm of a way that leads to a statement: a test at its site that gives its value
abbrev pub arm_to : ℕ → Goal → Point → List Point
arm_to n (Known (point.Statement m)) arm = if m == n then arm ∷ [] else []
arm_to n _ arm = []

abbrev pub arm_along : ℕ → LinkKind → Goal → ℕ → List Point
arm_along n (kind.Arm value) goal site = arm_to n goal (point.Arm site value)
arm_along n _ goal site = []

abbrev pub arm_of_way : ℕ → Way → List Point
arm_of_way n w = arm_along n w.kind w.goal w.site

-- the arms that lead to a statement
abbrev pub arms_into : Program → ℕ → List Point
arms_into p n = flat_map (arm_of_way n) (ways_of p)

-- ---- events

abbrev pub arm_taken : ℕ → Value → Option Point
arm_taken site (value.Arm n) = Some (point.Arm site n)
arm_taken site _ = Absent

abbrev pub passed_as : Kind → Option ℕ → ℕ → Value → Option Point
passed_as event.Call (Some method) site v = Some (point.Entry method)
passed_as event.Init (Some class) site v = Some (point.Init class)
passed_as event.Test entity site v = arm_taken site v
passed_as event.Catch entity site v = Some (point.Catch site)
passed_as _ entity site v = Absent

-- what an event passes: a Call the entry of its method, an Init the initialization of its class, a Test
-- the arm of its value, and a Catch its clause
abbrev pub passed_by : Recorded → Option Point
passed_by r = passed_as r.kind r.entity r.site r.value

abbrev pub is_at : Option Point → Point → Bool
is_at Absent q = false
is_at (Some x) q = same_point x q

-- an event passes a region: a statement by an arm that leads to it
abbrev pub passes : Program → Point → Recorded → Bool
passes p (point.Statement n) r = list_any (is_at (passed_by r)) (arms_into p n)
passes p q r = is_at (passed_by r) q

abbrev pub is_there : (Recorded → Bool) → Option Recorded → Bool
is_there test Absent = false
is_there test (Some r) = test r

-- the event of a number is in the scope, and passes the test
abbrev pub happens : (Recorded → Bool) → List Recorded → ℕ → ℕ → Bool
happens test rs call x = in_scope rs call x && is_there test (slice_get rs x)

abbrev pub passes_at : Program → List Recorded → ℕ → Point → ℕ → Bool
passes_at p rs call q x = happens (passes p q) rs call x

-- a region is passed if an event of the scope passes it
unfoldable pub passed : Program → List Recorded → ℕ → Point → Bool
passed p rs call q = list_any (passes_at p rs call q) (range_with_len 0 (length rs))

-- the first event that passes it
pub record IsFirstPass (p : Program) (rs : List Recorded) (call : ℕ) (q : Point) (x : ℕ)
    : Type 0 where
  pub passes : passes_at p rs call q x ≡ true
  pub first : (y : ℕ) → y < x → passes_at p rs call q y ≡ false
