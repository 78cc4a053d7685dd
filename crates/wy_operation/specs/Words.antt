-- Parts of what a run does with texts, once its operands are there and shown.
use Rattle.std.specs.Prelude.{ℕ, ℤ, pos, neg_ℤ, int_lt, Bool, false, ◌++◌, if◌then◌else◌}
use Rattle.std.specs.Int.{Width}
use Rattle.wy_kernel.specs.Program.{same_units}
use Rattle.wy_value.specs.declared.value.Value.{Value}
use Rattle.wy_value.specs.declared.value.Value.TheVariants.{None as Nothing, Bool as Boolean, Text}
use Rattle.wy_value.specs.Encoding.{utf8_of}
use Rattle.wy_value.specs.Number.{wrapped}
use Rattle.wy_steps.specs.Sets.{nothing}
use Rattle.wy_steps.specs.State.{Carried, Run, ◌>>=◌, return}
use Rattle.wy_steps.specs.Steps.{joined}
use Rattle.wy_meaning.specs.World.{World, is_text, units_of}
use Rattle.wy_meaning.specs.Text.{line_end, make_text, print, spelled_as}
use Rattle.wy_operation.specs.declared.operand.Part.{Part}
use Rattle.wy_operation.specs.Operands.{carried}
use Rattle.wy_state.specs.Seen.{valued}

-- the text that an event made
abbrev pub text_of_event : ℕ → Carried nothing
text_of_event e = valued e (Text e)

-- the text of two that are shown, one after the other
unfoldable pub joined_texts : World nothing → ℕ → (left right : Carried nothing) → Run nothing (Carried nothing)
joined_texts w site left right = do
  x ← spelled_as w left.value
  y ← spelled_as w right.value
  make_text site (x ++ y) (joined Nothing left right)

-- what is shown is printed
unfoldable pub printed : World nothing → Bool → ℕ → Carried nothing → Run nothing (Unit {0})
printed w ends_line site s = do
  units ← spelled_as w s.value
  print site (utf8_of units ++ line_end ends_line) s

-- what `equals` of two operands is made of
abbrev pub equality : Part → Part → Bool → Carried nothing
equality left right is_same = joined (Boolean is_same) (carried left) (carried right)

-- the second is a text too, of the units of the first
unfoldable pub sameness : World nothing → Value → Value → Run nothing Bool
sameness w left right = do
  x ← units_of w left
  y ← units_of w right
  return (if is_text right then same_units x y else false)

-- how far a number is from 0, in the range of its type
abbrev pub absolute_in : Width → ℤ → ℤ
absolute_in width z = wrapped width (if int_lt z (pos 0) then neg_ℤ z else z)
