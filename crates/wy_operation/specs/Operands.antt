-- Operands that are there, as the definition carries them.
use Rattle.std.specs.Prelude.{◌≡◌, ◌++◌, List}
use Rattle.wy_event.specs.declared.record.Use.{Use}
use Rattle.wy_operation.specs.declared.operand.Part.{Part}
use Rattle.wy_state.specs.Seen.{given}
use Rattle.wy_steps.specs.Sets.{nothing}
use Rattle.wy_steps.specs.State.{Carried}
use Rattle.wy_value.specs.declared.value.Value.{Value}

-- a value with what it was made of
abbrev pub carried : Part → Carried nothing
carried part = given part.value part.uses.now

-- two operands with these values, whose uses are these, those of the first before those of the second
pub record Pair (left right : Value) (us : List Use) : Type 0 where
  pub first : Carried nothing
  pub second : Carried nothing
  pub is_left : first.value ≡ left
  pub is_right : second.value ≡ right
  pub are_joined : first.uses ++ second.uses ≡ us
