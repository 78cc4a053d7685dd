-- The rule that a number breaks, where it breaks one: it is out of its range, or refers to an event of another kind.
use Rattle.std.specs.Prelude.{ℕ, ◌+◌, ◌-◌, ◌%◌, Bool, true, false, not, ◌&&◌, ◌||◌, ◌==◌, nat_lt, nat_le, if◌then◌else◌, List, Option, Some, slice_get, slice_index}
use Rattle.std.specs.Prelude.{None as Absent}
use Rattle.wy_event.specs.declared.record.Kind.{Kind}
use Rattle.wy_event.specs.declared.record.Kind.TheVariants as kind
use Rattle.wy_kernel.specs.View.{NONE}
use Rattle.wy_payload.specs.declared.fault.DamageRule.{DamageRule}
use Rattle.wy_payload.specs.declared.fault.DamageRule.TheVariants as rule
use Rattle.wy_payload.specs.declared.ranges.Ranges.{Ranges}
use Rattle.wy_payload.specs.declared.known.Known.{Known}
use Rattle.wy_payload.specs.declared.known.Known.TheVariants as known
use Rattle.wy_payload.specs.declared.known.Role.{Role}
use Rattle.wy_payload.specs.declared.known.Role.TheVariants as role
use Rattle.wy_kernel.specs.Program.{library_methods}

abbrev pub Broken : Type 0
Broken = Option DamageRule

abbrev pub unless : Bool → DamageRule → Broken
unless true r = Absent
unless false r = Some r

abbrev pub in_range : Bool → Broken
in_range test = unless test rule.Range

-- ---- references

abbrev pub brackets_unit : ℕ
brackets_unit = 16777216

abbrev pub is_frame : Known → Bool
is_frame (known.Init class) = true
is_frame (known.Call method) = true
is_frame _ = false

abbrev pub is_control : Known → Bool
is_control (known.Init class) = true
is_control (known.Call method) = true
is_control known.Test = true
is_control known.Catch = true
is_control _ = false

-- an object or an array
abbrev pub is_made : Known → Bool
is_made (known.New code) = true
is_made _ = false

abbrev pub is_object : Known → Bool
is_object (known.New code) = nat_lt code brackets_unit
is_object _ = false

abbrev pub is_array : Known → Bool
is_array (known.New code) = nat_le brackets_unit code
is_array _ = false

abbrev pub is_text : Known → Bool
is_text (known.Text bytes) = true
is_text _ = false

abbrev pub is_test : Known → Bool
is_test known.Test = true
is_test _ = false

-- what leaves a statement
abbrev pub is_leaving : Known → Bool
is_leaving known.Jump = true
is_leaving known.Return = true
is_leaving known.Throw = true
is_leaving _ = false

abbrev pub is_throw : Known → Bool
is_throw known.Throw = true
is_throw _ = false

abbrev pub fits : Role → Known → Bool
fits role.Frame k = is_frame k
fits role.Control k = is_control k
fits role.Made k = is_made k
fits role.Object k = is_object k
fits role.Array k = is_array k
fits role.Text k = is_text k
fits role.Test k = is_test k
fits role.Leaving k = is_leaving k
fits role.Throw k = is_throw k

abbrev pub refers_to : Role → Option Known → Broken
refers_to r Absent = Some rule.Range
refers_to r (Some k) = unless (fits r k) rule.Kind

-- the number of an earlier event that has this role
unfoldable pub reference_rule : Role → List Known → ℕ → Broken
reference_rule r earlier n = refers_to r (slice_get earlier n)

unfoldable pub optional_rule : Role → List Known → ℕ → Broken
optional_rule r earlier n = if n == NONE then Absent else reference_rule r earlier n

-- ---- numbers of a program

abbrev pub library_sites : ℕ
library_sites = 2147483648

-- a token, or a method of the library
unfoldable pub site_rule : Ranges → ℕ → Broken
site_rule r n = in_range (nat_lt n r.tokens || (nat_le library_sites n && nat_lt n (library_sites + library_methods)))

-- a class with brackets or without, or a primitive type with brackets
unfoldable pub is_code : Ranges → ℕ → Bool
is_code r n = let base = n % brackets_unit in (nat_lt base 6 && nat_le brackets_unit n) || (nat_le 16 base && nat_lt (base - 16) r.classes)

unfoldable pub entity_rule : Ranges → Kind → ℕ → Broken
entity_rule r kind.Init n = in_range (nat_lt n r.classes)
entity_rule r kind.New n = in_range (is_code r n)
entity_rule r kind.Call n = in_range (nat_lt n r.methods)
entity_rule r _ n = in_range (n == NONE)

-- how many locals the body of a frame has
unfoldable pub locals_in : Ranges → Option Known → ℕ
locals_in r (Some (known.Init class)) = slice_index r.class_locals class
locals_in r (Some (known.Call method)) = slice_index r.method_locals method
locals_in r _ = 0

abbrev pub local_rule : Ranges → List Known → ℕ → ℕ → Broken
local_rule r earlier frame n = in_range (nat_lt n (locals_in r (slice_get earlier frame)))

abbrev pub is_static : Bool → Option Bool → Bool
is_static wanted Absent = false
is_static true (Some s) = s
is_static false (Some s) = not s

-- a static field, or one of objects
unfoldable pub field_rule : Ranges → Bool → ℕ → Broken
field_rule r static n = in_range (is_static static (slice_get r.statics n))
