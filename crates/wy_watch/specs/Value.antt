-- The value of an expression where it is looked at, if it has one (JLS 15): a line a form.
use Rattle.std.specs.Prelude.{ℕ, pos, Bool, true, false, ◌&&◌, nat_lt, if◌then◌else◌, List, Option, Some, option_map, option_and_then, slice_get, codes}
use Rattle.std.specs.Prelude.{None as Absent}
use Rattle.std.specs.Int.{w32, w64, cast_signed}
use Rattle.std.specs.Str.{bytes_eq}
use Rattle.wy_kernel.specs.Limits.{index_limit}
use Rattle.wy_kernel.specs.Program.{class_of_type, is_array, type_of_code}
use Rattle.wy_kernel.specs.declared.operator.UnOp.{UnOp}
use Rattle.wy_kernel.specs.declared.operator.BinOp.{BinOp}
use Rattle.wy_value.specs.declared.value.Value.{Value}
use Rattle.wy_value.specs.declared.value.Value.TheVariants as val
use Rattle.wy_event.specs.declared.record.Slot.{Slot}
use Rattle.wy_event.specs.declared.record.Slot.TheVariants as slot
use Rattle.wy_tree.specs.Seen.{Tok, Key, Int, Long, Char}
use Rattle.wy_syntax.specs.Syntax.{Expression, Literal, Name, This, Group, Field, Element, Unary, Binary, Both, Either, Choice}
use Rattle.wy_constant.specs.Constant.{promoted, unary_value, operated}
use Rattle.wy_index.specs.declared.found.Made.{Made}
use Rattle.wy_index.specs.Found.{made_at}
use Rattle.wy_travel.specs.Held.{held}
use Rattle.wy_watch.specs.declared.names.Meaning.{Meaning}
use Rattle.wy_watch.specs.declared.names.Meaning.TheVariants.{Stored, OfThis, Nothing}
use Rattle.wy_watch.specs.Sight.{Sight}
use Rattle.wy_watch.specs.Names.{class_meant, field_above, frame_field, meaning_of, this_of}

-- ---- literals but strings

abbrev pub keyword : List ℕ → Option Value
keyword word = if bytes_eq word (codes "true") then Some (val.Bool true)
    else (if bytes_eq word (codes "false") then Some (val.Bool false)
    else (if bytes_eq word (codes "null") then Some val.Null else Absent))

-- the number of a literal is that of its 32 or 64 bits
abbrev pub literal : Tok → Option Value
literal (Int bits decimal) = Some (val.Int (cast_signed w32 bits))
literal (Long bits decimal) = Some (val.Long (cast_signed w64 bits))
literal (Char unit) = Some (val.Char unit)
literal (Key word) = keyword word
literal _ = Absent

-- ---- what slots hold

abbrev pub there : Value → Option Value
there val.None = Absent
there v = Some v

-- what a slot holds, if it holds anything
abbrev pub stored_at : Sight → Slot → Option Value
stored_at s x = there (held s.program s.records x s.moment)

-- ---- names and fields

abbrev pub this_value : Sight → Option Value
this_value s = option_and_then (stored_at s) (this_of s.standing)

-- the object or array that a value is a reference to
abbrev pub object_in : Option Value → Option ℕ
object_in (Some (val.Object o)) = Some o
object_in _ = Absent

-- a field of an object
abbrev pub field_of : Sight → ℕ → Option Value → Option Value
field_of s f v = option_and_then (λ o. stored_at s (slot.Field o f)) (object_in v)

abbrev pub value_as : Sight → Meaning → Option Value
value_as s (Stored x) = stored_at s x
value_as s (OfThis f) = field_of s f (this_value s)
value_as s Nothing = Absent

abbrev pub named : Sight → List ℕ → Option Value
named s name = value_as s (meaning_of s name)

-- the static field of the nearest class from a class upward
abbrev pub static_value : Sight → List ℕ → ℕ → Option Value
static_value s name c = option_and_then (λ f. stored_at s (slot.Static f)) (field_above s.program true c name)

-- what an event made, if it is a New: its type, and the length of an array
abbrev pub made : Sight → ℕ → Option Made
made s o = made_at (slice_get s.records o)

-- a length is an int
abbrev pub as_int : ℕ → Option Value
as_int n = if nat_lt n index_limit then Some (val.Int (pos n)) else Absent

-- the field of an object that the nearest class from its own class upward has
abbrev pub object_member : Sight → List ℕ → ℕ → ℕ → Option Value
object_member s name o code = option_and_then (λ f. stored_at s (slot.Field o f)) (field_above s.program false (class_of_type (type_of_code code)) name)

abbrev pub array_member : List ℕ → ℕ → Option Value
array_member name long = if bytes_eq name (codes "length") then as_int long else Absent

abbrev pub member_of : Sight → List ℕ → ℕ → Option Made → Option Value
member_of s name o Absent = Absent
member_of s name o (Some m) = if is_array (type_of_code m.entity) then array_member name m.length else object_member s name o m.entity

-- of `this`, the field of the nearest class from the innermost frame's class upward
abbrev pub member : Sight → List ℕ → Bool → Option Value → Option Value
member s name true v = option_and_then (λ f. field_of s f v) (frame_field s false name)
member s name false v = option_and_then (λ o. member_of s name o (made s o)) (object_in v)

abbrev pub class_in : Sight → Expression → Option ℕ
class_in s (Name name token) = class_meant s name
class_in s _ = Absent

-- `this`, in parentheses or not
abbrev pub is_this : Expression → Bool
is_this (This token) = true
is_this (Group inner token) = is_this inner
is_this _ = false

-- of a class that is named, or of an object
abbrev pub member_in : Sight → List ℕ → Option ℕ → Bool → Option Value → Option Value
member_in s name (Some c) of_this v = static_value s name c
member_in s name Absent of_this v = member s name of_this v

-- ---- elements

-- the number that a value is as an index (JLS 15.10.3)
abbrev pub index_as : Value → Option ℕ
index_as (val.Int (pos n)) = Some n
index_as _ = Absent

abbrev pub index_in : Option Value → Option ℕ
index_in (Some v) = index_as (promoted v)
index_in Absent = Absent

abbrev pub element_of : Sight → ℕ → Option Made → Option ℕ → Option Value
element_of s a (Some m) (Some i) = if is_array (type_of_code m.entity) && nat_lt i m.length then stored_at s (slot.Elem a i) else Absent
element_of s a _ _ = Absent

abbrev pub element : Sight → Option Value → Option ℕ → Option Value
element s v i = option_and_then (λ a. element_of s a (made s a) i) (object_in v)

-- ---- operators

abbrev pub unary : UnOp → Option Value → Option Value
unary op v = option_and_then (λ x. unary_value op (promoted x)) v

abbrev pub binary : BinOp → Option Value → Option Value → Option Value
binary op (Some a) (Some b) = operated op a b
binary op _ _ = Absent

abbrev pub truth : Option Value → Option Bool
truth (Some (val.Bool b)) = Some b
truth _ = Absent

-- the right operand counts only where the left one leaves it open
abbrev pub both : Option Bool → Option Bool → Option Value
both (Some false) right = Some (val.Bool false)
both (Some true) right = option_map (λ b. val.Bool b) right
both Absent right = Absent

abbrev pub either : Option Bool → Option Bool → Option Value
either (Some true) right = Some (val.Bool true)
either (Some false) right = option_map (λ b. val.Bool b) right
either Absent right = Absent

abbrev pub chosen : Bool → Option Value → Option Value → Option Value
chosen true main other = main
chosen false main other = other

abbrev pub choice : Option Bool → Option Value → Option Value → Option Value
choice (Some test) main other = chosen test main other
choice Absent main other = Absent

-- ---- the forms

unfoldable pub value : Sight → Expression → Option Value
value s (Literal token at) = literal token
value s (Name name at) = named s name
value s (This at) = this_value s
value s (Group inner at) = value s inner
value s (Field object name at) = member_in s name (class_in s object) (is_this object) (value s object)
value s (Element array index at) = element s (value s array) (index_in (value s index))
value s (Unary op operand at) = unary op (value s operand)
value s (Binary op left right at) = binary op (value s left) (value s right)
value s (Both left right at) = both (truth (value s left)) (truth (value s right))
value s (Either left right at) = either (truth (value s left)) (truth (value s right))
value s (Choice test main other at) = choice (truth (value s test)) (value s main) (value s other)
value s _ = Absent

-- the value of a member, and the truth of a part
abbrev pub value_of_field : Sight → List ℕ → Expression → Option Value
value_of_field s name object = member_in s name (class_in s object) (is_this object) (value s object)

abbrev pub truth_of : Sight → Expression → Option Bool
truth_of s e = truth (value s e)
