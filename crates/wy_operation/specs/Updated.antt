-- `op=`, `++` and `--` once the old value and the right side are there (JLS 15.26.2).
use Rattle.std.specs.Prelude.{◌≡◌, ◌++◌, ℕ, List}
use Rattle.wy_kernel.specs.declared.operator.BinOp.{BinOp}
use Rattle.wy_kernel.specs.declared.operator.Primitive.{Primitive}
use Rattle.wy_kernel.specs.declared.types.Ty.{Ty}
use Rattle.wy_value.specs.declared.value.Value.{Value}
use Rattle.wy_value.specs.declared.value.Value.TheVariants.{None as Nothing}
use Rattle.wy_event.specs.declared.record.Slot.{Slot}
use Rattle.wy_event.specs.declared.record.Use.{Use}
use Rattle.wy_steps.specs.Sets.{Sets, nothing}
use Rattle.wy_steps.specs.State.{Carried, Run, ◌>>=◌}
use Rattle.wy_steps.specs.Steps.{joined, with_value}
use Rattle.wy_meaning.specs.World.{World}
use Rattle.wy_meaning.specs.Place.{Spot, assign, divided, operated, primitive_of}

-- the operation, and the Set of its value
unfoldable pub updated : {A : Sets} → World A → BinOp → Ty → Primitive → ℕ → Spot A → Carried A → Carried A → Run A (Carried A)
updated w op ty wide site spot old v = do
  new ← divided w site (joined Nothing old v) (operated op wide old.value v.value)
  assign site spot (with_value (primitive_of ty new.value) new)

-- a place that was found, its old value and the right side: the uses of the last two are these, and those of all three these
pub record Places (slot : Slot) (left right : Value) (operands us : List Use) : Type 0 where
  pub spot : Spot nothing
  pub old : Carried nothing
  pub value : Carried nothing
  pub is_slot : spot.slot ≡ slot
  pub is_left : old.value ≡ left
  pub is_right : value.value ≡ right
  pub are_operands : old.uses ++ value.uses ≡ operands
  pub are_joined : spot.parts.uses ++ operands ≡ us
