-- Operations of the library: those of String, `Integer`, `Math` and `System.in`, and the texts of objects.
use Rattle.std.specs.Prelude.{ℕ, ◌==◌, ℤ, pos, negsuc, neg_ℤ, int_lt, false, if◌then◌else◌, List, [], ◌∷◌, ◌++◌, length, codes, Option, Some}
use Rattle.std.specs.Prelude.{None as Absent}
use Rattle.std.specs.Fmt.{digits}
use Rattle.std.specs.Int.{w32, w64}
use Rattle.wy_kernel.specs.declared.types.Base.{Base}
use Rattle.wy_kernel.specs.declared.types.Base.TheVariants.{Primitive as Basic, Class as Named}
use Rattle.wy_kernel.specs.declared.operator.Primitive.{Primitive}
use Rattle.wy_kernel.specs.declared.operator.Primitive.TheVariants as prim
use Rattle.wy_kernel.specs.declared.types.Ty.{Ty}
use Rattle.wy_kernel.specs.declared.types.Ty.TheVariants.{Of}
use Rattle.wy_kernel.specs.declared.form.LibOp.{LibOp}
use Rattle.wy_kernel.specs.declared.form.LibOp.TheVariants as op
use Rattle.wy_kernel.specs.Program.{primitive_name, Program, full_name, same_units}
use Rattle.wy_value.specs.declared.value.Value.{Value}
use Rattle.wy_value.specs.declared.value.Value.TheVariants.{None as Nothing, Bool as Boolean, Char, Int, Long, Object, Text, Fixed}
use Rattle.wy_value.specs.Number.{wrapped}
use Rattle.wy_value.specs.Text.{unit_of, part_of, difference}
use Rattle.wy_value.specs.Numeral.{int_of, text_of}
use Rattle.wy_event.specs.declared.record.Kind.TheVariants as kind
use Rattle.wy_steps.specs.Sets.{Sets}
use Rattle.wy_steps.specs.State.{Carried, Run, ◌>>=◌, return}
use Rattle.wy_steps.specs.Steps.{constant, joined_all, with_value, value_of, note, next_byte}
use Rattle.wy_meaning.specs.World.{World, plain, fail, null_pointer, number_format, string_index, object_of, length_of, type_of, units_of, is_text, all_of}
use Rattle.wy_meaning.specs.Text.{make_text}

-- the units of a text; null fails at the site, of all operands
unfoldable pub text_arg : {A : Sets} → World A → ℕ → Carried A → Value → Run A (List ℕ)
text_arg w site operands (Text n) = units_of w (Text n)
text_arg w site operands (Fixed n) = units_of w (Fixed n)
text_arg w site operands _ = fail w null_pointer site operands

unfoldable pub int_in : Value → ℤ
int_in (Int z) = z
int_in (Long z) = z
int_in _ = pos 0

unfoldable pub unit_or_fail : {A : Sets} → World A → ℕ → Carried A → Option ℕ → Run A (Carried A)
unit_or_fail w site operands (Some u) = return (with_value (Char u) operands)
unit_or_fail w site operands Absent = fail w string_index site operands

unfoldable pub part_or_fail : {A : Sets} → World A → ℕ → Carried A → Option (List ℕ) → Run A (Carried A)
part_or_fail w site operands (Some units) = make_text site units operands
part_or_fail w site operands Absent = fail w string_index site operands

unfoldable pub int_or_fail : {A : Sets} → World A → ℕ → Carried A → Option ℤ → Run A (Carried A)
int_or_fail w site operands (Some z) = return (with_value (Int z) operands)
int_or_fail w site operands Absent = fail w number_format site operands

-- the number that a text spells; null spells none
unfoldable pub parse : {A : Sets} → World A → ℕ → Carried A → Value → Run A (Carried A)
parse w site operands (Text n) = do
  units ← units_of w (Text n)
  int_or_fail w site operands (int_of units)
parse w site operands (Fixed n) = do
  units ← units_of w (Fixed n)
  int_or_fail w site operands (int_of units)
parse w site operands _ = fail w number_format site operands

unfoldable pub absolute : Value → Value
absolute (Int z) = Int (wrapped w32 (if int_lt z (pos 0) then neg_ℤ z else z))
absolute (Long z) = Long (wrapped w64 (if int_lt z (pos 0) then neg_ℤ z else z))
absolute v = v

unfoldable pub greater : Value → Value → Value
greater a b = if int_lt (int_in a) (int_in b) then b else a

unfoldable pub lesser : Value → Value → Value
lesser a b = if int_lt (int_in b) (int_in a) then b else a

-- the next byte of the input, or -1 at its end
unfoldable pub byte_value : Option ℕ → Value
byte_value Absent = Int (negsuc 0)
byte_value (Some b) = Int (pos b)

unfoldable pub read_byte : {A : Sets} → ℕ → Run A (Carried A)
read_byte site = do
  b ← next_byte
  e ← note (plain kind.Read site (byte_value b)) (constant Nothing)
  return (value_of e (byte_value b))

unfoldable pub base_name : Program → Base → List ℕ
base_name p (Basic q) = primitive_name q
base_name p (Named c) = full_name p c

unfoldable pub brackets_text : ℕ → List ℕ
brackets_text ℕ.zero = []
brackets_text (ℕ.suc n) = codes "[]" ++ brackets_text n

-- the name of a type, with its brackets
unfoldable pub type_name : Program → Ty → List ℕ
type_name p (Of base brackets) = base_name p base ++ brackets_text brackets
type_name p _ = []

unfoldable pub number_of_object : Value → ℕ
number_of_object (Object n) = n
number_of_object _ = 0

unfoldable pub hexadecimal : ℕ → List ℕ
hexadecimal n = digits 16 false n

-- what an operation of one argument gives
unfoldable pub library_one : {A : Sets} → World A → LibOp → ℕ → Carried A → Carried A → Run A (Carried A)
library_one w op.ArrayLength site all a = do
  n ← object_of w site all a.value
  length ← length_of n
  return (with_value (Int (pos length)) all)
library_one w op.Length site all a = do
  units ← text_arg w site all a.value
  return (with_value (Int (pos (length units))) all)
library_one w op.IsEmpty site all a = do
  units ← text_arg w site all a.value
  return (with_value (Boolean (length units == 0)) all)
library_one w op.Itself site all a = do
  units ← text_arg w site all a.value
  return (with_value a.value all)
library_one w op.ValueOf site all a = make_text site (text_of a.value) all
library_one w op.IntText site all a = make_text site (text_of a.value) all
library_one w op.ParseInt site all a = parse w site all a.value
library_one w op.Abs site all a = return (with_value (absolute a.value) all)
library_one w op.ClassText site all a = do
  ty ← type_of a.value
  make_text site (type_name w.program ty) all
library_one w op.ObjectText site all a = do
  ty ← type_of a.value
  make_text site (type_name w.program ty ++ codes "@" ++ hexadecimal (number_of_object a.value)) all
library_one w _ site all a = return (constant Nothing)

-- of two
unfoldable pub library_two : {A : Sets} → World A → LibOp → ℕ → Carried A → Carried A → Carried A → Run A (Carried A)
library_two w op.CharAt site all a b = do
  units ← text_arg w site all a.value
  unit_or_fail w site all (unit_of units (int_in b.value))
library_two w op.PartFrom site all a b = do
  units ← text_arg w site all a.value
  part_or_fail w site all (part_of units (int_in b.value) (pos (length units)))
library_two w op.Same site all a b = do
  x ← text_arg w site all a.value
  y ← units_of w b.value
  return (with_value (Boolean (if is_text b.value then same_units x y else false)) all)
library_two w op.Compare site all a b = do
  x ← text_arg w site all a.value
  y ← text_arg w site all b.value
  return (with_value (Int (wrapped w32 (difference x y))) all)
library_two w op.Max site all a b = return (with_value (greater a.value b.value) all)
library_two w op.Min site all a b = return (with_value (lesser a.value b.value) all)
library_two w _ site all a b = return (constant Nothing)

-- of three
unfoldable pub library_three : {A : Sets} → World A → LibOp → ℕ → Carried A → Carried A → Carried A → Carried A → Run A (Carried A)
library_three w op.Part site all a b c = do
  units ← text_arg w site all a.value
  part_or_fail w site all (part_of units (int_in b.value) (int_in c.value))
library_three w _ site all a b c = return (constant Nothing)

unfoldable pub library : {A : Sets} → World A → LibOp → ℕ → List (Carried A) → Run A (Carried A)
library w o site [] = read_byte site
library w o site (a ∷ []) = library_one w o site (joined_all (a ∷ [])) a
library w o site (a ∷ b ∷ []) = library_two w o site (joined_all (a ∷ b ∷ [])) a b
library w o site (a ∷ b ∷ c ∷ rest) = library_three w o site (joined_all (a ∷ b ∷ c ∷ rest)) a b c

-- its arguments in order, the receiver being the first
unfoldable pub library_form : {A : Sets} → World A → LibOp → List (Run A (Carried A)) → ℕ → Run A (Carried A)
library_form w o args site = do
  vs ← all_of args
  library w o site vs
