-- What an operator gives, or that the operands don't fit it.
use Rattle.std.specs.Prelude.{◌≡◌, Bool, false, if◌then◌else◌, Option, Some}
use Rattle.wy_kernel.specs.declared.operator.BinOp.{BinOp}
use Rattle.wy_kernel.specs.declared.operator.Primitive.{Primitive}
use Rattle.wy_meaning.specs.Place.{promoted}
use Rattle.wy_value.specs.Conversion.{converted}
use Rattle.wy_value.specs.Operator.{is_shift}
use Rattle.std.specs.Prelude.{None as Absent}
use Rattle.wy_value.specs.declared.value.Value.{Value}
use Rattle.wy_operation.specs.declared.operator.Operated.{Operated}
use Rattle.wy_operation.specs.declared.operator.Operated.TheVariants as operated

abbrev pub OperatesAs : Operated → Bool → Option Value → Type 0
OperatesAs (operated.Value v) fits o = o ≡ Some v
OperatesAs operated.ByZero fits o = o ≡ Absent
OperatesAs operated.Unfit fits o = fits ≡ false

-- the same of what may be unfit by a conversion before it
abbrev pub DoneAs : Operated → Option Value → Type 0
DoneAs (operated.Value v) o = o ≡ Some v
DoneAs operated.ByZero o = o ≡ Absent
DoneAs operated.Unfit o = Unit {0}

-- the right side as the operation takes it
abbrev pub right_operand : BinOp → Primitive → Value → Value
right_operand op wide v = if is_shift op then promoted v else converted wide v
