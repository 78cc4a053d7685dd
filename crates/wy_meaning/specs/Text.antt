-- Texts: string conversion, `+` on texts and what is printed (JLS 5.1.11, 15.18.1).
use Rattle.std.specs.Prelude.{ℕ, Bool, true, false, List, [], ◌∷◌, ◌++◌, length, Some}
use Rattle.wy_kernel.specs.Program.{dispatch, class_of_type}
use Rattle.wy_value.specs.declared.value.Value.{Value}
use Rattle.wy_value.specs.declared.value.Value.TheVariants.{None as Nothing, Object, Text, Fixed}
use Rattle.wy_value.specs.Numeral.{text_of}
use Rattle.wy_value.specs.Encoding.{utf8_of}
use Rattle.wy_event.specs.declared.record.Kind.TheVariants as kind
use Rattle.wy_steps.specs.Sets.{Sets}
use Rattle.wy_steps.specs.State.{Carried, Run, ◌>>=◌, ◌>>◌, return}
use Rattle.wy_steps.specs.Steps.{constant, joined, value_of, note, take_units, room_for_output, write_out}
use Rattle.wy_meaning.specs.World.{World, plain, spelling, type_of, units_of}
use Rattle.wy_meaning.specs.Place.{Located, find, fetch, store}

-- Object's `toString`
abbrev pub to_string : ℕ
to_string = 0

-- a call that the class of the receiver decides (JLS 15.12.4.4)
unfoldable pub call_chosen : {A : Sets} → World A → ℕ → ℕ → Carried A → List (Carried A) → Run A (Carried A)
call_chosen w site m receiver args = do
  ty ← type_of receiver.value
  w.call site (dispatch w.program m (class_of_type ty)) (Some receiver) args

-- an object stands for what its `toString` returns; each other value stands for itself
unfoldable pub shown_as : {A : Sets} → World A → ℕ → Carried A → Value → Run A (Carried A)
shown_as w site v (Object n) = call_chosen w site to_string v []
shown_as w site v _ = return v

unfoldable pub shown : {A : Sets} → World A → ℕ → Carried A → Run A (Carried A)
shown w site v = shown_as w site v v.value

unfoldable pub spelled_as : {A : Sets} → World A → Value → Run A (List ℕ)
spelled_as w (Text n) = units_of w (Text n)
spelled_as w (Fixed n) = units_of w (Fixed n)
spelled_as w v = return (text_of v)

-- a text that the run makes
unfoldable pub make_text : {A : Sets} → ℕ → List ℕ → Carried A → Run A (Carried A)
make_text site units operands = do
  take_units (length units)
  e ← note (spelling site units) operands
  return (value_of e (Text e.number))

-- both operands are there; the left is converted, then the right
unfoldable pub concatenated : {A : Sets} → World A → ℕ → Carried A → Carried A → Run A (Carried A)
concatenated w site a b = do
  left ← shown w site a
  right ← shown w site b
  x ← spelled_as w left.value
  y ← spelled_as w right.value
  make_text site (x ++ y) (joined Nothing left right)

-- `+` with an operand that is a text
unfoldable pub cat : {A : Sets} → World A → Run A (Carried A) → Run A (Carried A) → ℕ → Run A (Carried A)
cat w left right site = do
  a ← left
  b ← right
  concatenated w site a b

-- `+=` on a text: its Text stands in place of the old value and the right side
unfoldable pub append_place : {A : Sets} → World A → Located A → Run A (Carried A) → ℕ → Run A (Carried A)
append_place w place right site = do
  spot ← find w place
  old ← fetch spot
  v ← right
  text ← concatenated w site old v
  store w site spot text

unfoldable pub line_end : Bool → List ℕ
line_end true = 10 ∷ []
line_end false = []

unfoldable pub print : {A : Sets} → ℕ → List ℕ → Carried A → Run A Unit
print site bytes v = do
  room_for_output bytes
  e ← note (plain kind.Print site v.value) v
  write_out bytes

-- `print` and `println` of an operand
unfoldable pub print_value : {A : Sets} → World A → Run A (Carried A) → Bool → ℕ → Run A Unit
print_value w operand ends_line site = do
  v ← operand
  s ← shown w site v
  units ← spelled_as w s.value
  print site (utf8_of units ++ line_end ends_line) s

-- `println` of nothing
unfoldable pub print_nothing : {A : Sets} → Bool → ℕ → Run A Unit
print_nothing ends_line site = print site (line_end ends_line) (constant Nothing)
