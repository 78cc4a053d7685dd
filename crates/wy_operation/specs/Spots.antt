-- Slots with what the parts of their places carry.
use Rattle.std.specs.Prelude.{◌≡◌, ◌++◌, Bool, true, false, zero, List}
use Rattle.wy_kernel.specs.declared.types.Base.TheVariants.{Primitive as Basic}
use Rattle.wy_kernel.specs.declared.types.Ty.{Ty}
use Rattle.wy_kernel.specs.declared.types.Ty.TheVariants.{Of}
use Rattle.wy_event.specs.declared.record.Slot.{Slot}
use Rattle.wy_event.specs.declared.record.Use.{Use}
use Rattle.wy_meaning.specs.Place.{Spot}
use Rattle.wy_steps.specs.Sets.{nothing}
use Rattle.wy_steps.specs.State.{Carried}
use Rattle.wy_value.specs.declared.value.Value.{Value}

abbrev pub spot_of : Slot → Carried nothing → Spot nothing
spot_of x parts = record { slot = x; parts = parts }

-- a place that was found and the right side of its assignment: the uses of its parts and those of the right side are these
pub record Stored (slot : Slot) (value : Value) (us : List Use) : Type 0 where
  pub spot : Spot nothing
  pub right : Carried nothing
  pub is_slot : spot.slot ≡ slot
  pub is_right : right.value ≡ value
  pub are_joined : spot.parts.uses ++ right.uses ≡ us

abbrev pub is_primitive : Ty → Bool
is_primitive (Of (Basic q) zero) = true
is_primitive _ = false
