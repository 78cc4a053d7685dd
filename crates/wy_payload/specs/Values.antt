-- Values and the units of texts: which may stand where, how they are read, and how many bytes a Print of one writes.
use Rattle.std.specs.Prelude.{ℕ, zero, suc, ℤ, pos, negsuc, ◌+◌, Bool, true, false, not, nat_lt, nat_le, ◌==◌, if◌then◌else◌, List, [], ◌∷◌, length, Option, Some, Result, Ok, slice_get, slice_index}
use Rattle.std.specs.Prelude.{None as Absent}
use Rattle.std.specs.Int.{Width, w8, w16, w32, w64, cast_signed}
use Rattle.std.specs.List.{list_any}
use Rattle.wy_kernel.specs.Limits.{output_limit}
use Rattle.wy_value.specs.declared.value.Value.{Value}
use Rattle.wy_value.specs.declared.value.Value.TheVariants as val
use Rattle.wy_value.specs.Numeral.{has_text, text_of}
use Rattle.wy_value.specs.Encoding.{utf8_of}
use Rattle.wy_event.specs.declared.record.Kind.{Kind}
use Rattle.wy_event.specs.declared.record.Kind.TheVariants as kind
use Rattle.wy_event.specs.declared.record.Version.{Version}
use Rattle.wy_event.specs.declared.record.Version.TheVariants as version
use Rattle.wy_spelling.specs.Spelling.{arm_tag}
use Rattle.wy_payload.specs.declared.fault.DamageRule.{DamageRule}
use Rattle.wy_payload.specs.declared.ranges.Ranges.{Ranges}
use Rattle.wy_payload.specs.declared.known.Known.{Known}
use Rattle.wy_payload.specs.declared.known.Known.TheVariants as known
use Rattle.wy_payload.specs.declared.known.Role.{Role}
use Rattle.wy_payload.specs.declared.known.Role.TheVariants as role
use Rattle.wy_payload.specs.declared.value.ValueTag.{ValueTag}
use Rattle.wy_payload.specs.declared.value.ValueTag.TheVariants as tags
use Rattle.wy_payload.specs.declared.value.ValueForm.{ValueForm}
use Rattle.wy_payload.specs.declared.value.ValueForm.TheVariants as form
use Rattle.wy_payload.specs.Rules.{Broken, brackets_unit, in_range}
use Rattle.wy_payload.specs.Reading.{◌>>=◌, Read, passed, known_tag, number_at, reference_at, rows_from}

-- the tags 0 to 10
abbrev pub value_tags : List ValueTag
value_tags = tags.None ∷ tags.Bool ∷ tags.Byte ∷ tags.Short ∷ tags.Char ∷ tags.Int ∷ tags.Long ∷ tags.Null ∷ tags.Object ∷ tags.Text ∷ tags.Fixed ∷ []

-- the tag is that of an arm, which version 1 has only where an arm is wanted
abbrev pub is_arm_tag : Version → ValueForm → ℕ → Bool
is_arm_tag version.One form.Arm b = b == arm_tag version.One
is_arm_tag version.One _ b = false
is_arm_tag version.Two _ b = b == arm_tag version.Two

abbrev pub value_tag : Version → ValueForm → ℕ → Option ValueTag
value_tag v wanted b = if is_arm_tag v wanted b then Some tags.Arm else slice_get value_tags b

-- a New of an array has its length, and a Test an arm; what is about nothing has no value
abbrev pub value_form : Kind → ℕ → ValueForm
value_form kind.New entity = if nat_le brackets_unit entity then form.Length else form.Nothing
value_form kind.Bind entity = form.Any
value_form kind.Set entity = form.Any
value_form kind.Test entity = form.Arm
value_form kind.Read entity = form.Byte
value_form kind.Print entity = form.Printed
value_form kind.Return entity = form.Optional
value_form kind.Throw entity = form.Thrown
value_form kind.Catch entity = form.Caught
value_form _ entity = form.Nothing

abbrev pub is_none : ValueTag → Bool
is_none tags.None = true
is_none _ = false

-- an arm is the value of a Test alone
abbrev pub is_arm : ValueTag → Bool
is_arm tags.Arm = true
is_arm _ = false

-- what a slot may hold
abbrev pub is_some : ValueTag → Bool
is_some tags.None = false
is_some tags.Arm = false
is_some _ = true

abbrev pub is_int : ValueTag → Bool
is_int tags.Int = true
is_int _ = false

abbrev pub is_object : ValueTag → Bool
is_object tags.Object = true
is_object _ = false

-- what an operand of a print is converted to
abbrev pub is_printed : ValueTag → Bool
is_printed tags.Byte = false
is_printed tags.Short = false
is_printed tags.Object = false
is_printed tags.Arm = false
is_printed _ = true

abbrev pub allows_value : ValueForm → ValueTag → Bool
allows_value form.Nothing t = is_none t
allows_value form.Any t = is_some t
allows_value form.Optional t = not (is_arm t)
allows_value form.Length t = is_int t
allows_value form.Arm t = is_arm t
allows_value form.Byte t = is_int t
allows_value form.Printed t = is_printed t
allows_value form.Thrown t = is_object t
allows_value form.Caught t = is_object t

abbrev pub is_length : ℤ → Bool
is_length (pos n) = true
is_length (negsuc n) = false

-- an input byte, or -1
abbrev pub is_input : ℤ → Bool
is_input (pos n) = nat_lt n 256
is_input (negsuc zero) = true
is_input (negsuc (suc n)) = false

abbrev pub int_rule : ValueForm → ℤ → Broken
int_rule form.Length z = in_range (is_length z)
int_rule form.Byte z = in_range (is_input z)
int_rule _ z = Absent

-- what is thrown is an object of a class
abbrev pub object_role : ValueForm → Role
object_role form.Thrown = role.Object
object_role _ = role.Made

unfoldable pub bool_at : List ℕ → Read Value
bool_at bytes = do
  b ← number_at w8 bytes
  passed (in_range (nat_lt b.0 2)) (val.Bool (b.0 == 1), b.1)

unfoldable pub int_at : ValueForm → List ℕ → Read Value
int_at wanted bytes = do
  n ← number_at w32 bytes
  passed (int_rule wanted (cast_signed w32 n.0)) (val.Int (cast_signed w32 n.0), n.1)

-- in the byte of a boolean, or as a number
abbrev pub arm_width : Version → Width
arm_width version.One = w8
arm_width version.Two = w32

-- a test gave 0 for false or 1 for true
abbrev pub arm_limit : ℕ
arm_limit = 2

unfoldable pub arm_at : Version → List ℕ → Read Value
arm_at v bytes = do
  n ← number_at (arm_width v) bytes
  passed (in_range (nat_lt n.0 arm_limit)) (val.Arm n.0, n.1)

-- a number whatever it is
unfoldable pub plain_at : ValueTag → List ℕ → Read Value
plain_at tags.Byte bytes = do
  n ← number_at w8 bytes
  Ok (val.Byte (cast_signed w8 n.0), n.1)
plain_at tags.Short bytes = do
  n ← number_at w16 bytes
  Ok (val.Short (cast_signed w16 n.0), n.1)
plain_at tags.Char bytes = do
  n ← number_at w16 bytes
  Ok (val.Char n.0, n.1)
plain_at tags.Long bytes = do
  n ← number_at w64 bytes
  Ok (val.Long (cast_signed w64 n.0), n.1)
plain_at tags.Null bytes = Ok (val.Null, bytes)
plain_at _ bytes = Ok (val.None, bytes)

unfoldable pub object_at : List Known → ValueForm → List ℕ → Read Value
object_at earlier wanted bytes = do
  n ← reference_at (object_role wanted) earlier bytes
  Ok (val.Object n.0, n.1)

unfoldable pub text_at : List Known → List ℕ → Read Value
text_at earlier bytes = do
  n ← reference_at role.Text earlier bytes
  Ok (val.Text n.0, n.1)

unfoldable pub fixed_at : Ranges → List ℕ → Read Value
fixed_at r bytes = do
  n ← number_at w32 bytes
  passed (in_range (nat_lt n.0 (length r.fixed))) (val.Fixed n.0, n.1)

-- behind its tag
unfoldable pub value_of : Ranges → List Known → ValueForm → ValueTag → List ℕ → Read Value
value_of r earlier wanted tags.Bool rest = bool_at rest
value_of r earlier wanted tags.Int rest = int_at wanted rest
value_of r earlier wanted tags.Object rest = object_at earlier wanted rest
value_of r earlier wanted tags.Text rest = text_at earlier rest
value_of r earlier wanted tags.Fixed rest = fixed_at r rest
value_of r earlier wanted tags.Arm rest = arm_at r.version rest
value_of r earlier wanted tag rest = plain_at tag rest

unfoldable pub value_at : Ranges → List Known → ValueForm → List ℕ → Read Value
value_at r earlier wanted bytes = do
  b ← number_at w8 bytes
  tag ← known_tag (value_tag r.version wanted b.0) b.1
  rest ← passed (in_range (allows_value wanted tag.0)) tag.1
  value_of r earlier wanted tag.0 rest

-- ---- units

abbrev pub units_tag : ℕ
units_tag = 11

unfoldable pub units_at : List ℕ → Read (List ℕ)
units_at bytes = do
  b ← number_at w8 bytes
  rest ← passed (in_range (b.0 == units_tag)) b.1
  count ← number_at w32 rest
  rows_from (number_at w16) count.0 count.1

-- ---- what is printed

abbrev pub text_length : Option Known → ℕ
text_length (Some (known.Text bytes)) = bytes
text_length _ = 0

-- the bytes of a printed value
unfoldable pub printed_length : Ranges → List Known → Value → ℕ
printed_length r earlier (val.Text n) = text_length (slice_get earlier n)
printed_length r earlier (val.Fixed n) = slice_index r.fixed n
printed_length r earlier v = if has_text v then length (utf8_of (text_of v)) else 0

-- a `println` ends the line
abbrev pub newline_length : Ranges → ℕ → ℕ
newline_length r site = if list_any (λ s. s == site) r.newlines then 1 else 0

-- the bytes that an event writes
unfoldable pub output_of : Ranges → List Known → Kind → ℕ → Value → ℕ
output_of r earlier kind.Print site v = printed_length r earlier v + newline_length r site
output_of r earlier _ site v = 0

-- the output behind an event, where it does not pass the limit
unfoldable pub output_behind : Ranges → List Known → ℕ → Kind → ℕ → Value → Result ℕ DamageRule
output_behind r earlier output k site v = passed (in_range (nat_le (output + output_of r earlier k site v) output_limit)) (output + output_of r earlier k site v)
