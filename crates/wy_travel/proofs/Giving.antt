-- What an event gives a slot is below the event.
use Rattle.std.proofs.Common.{◌≤◌, ℕ, zero, suc, arith}
use Rattle.wy_kernel.specs.declared.operator.Primitive.{Primitive}
use Rattle.wy_kernel.specs.declared.operator.Primitive.TheVariants as prim
use Rattle.wy_kernel.specs.declared.types.Base.TheVariants.{Primitive as Basic, Class as Named}
use Rattle.wy_kernel.specs.declared.types.Ty.{Ty}
use Rattle.wy_kernel.specs.declared.types.Ty.TheVariants.{Void, Null, Of}
use Rattle.wy_kernel.specs.Program.{Program, field, element_type, type_of_code}
use Rattle.wy_value.specs.declared.value.Value.{Value}
use Rattle.wy_value.specs.declared.value.Value.TheVariants.{Object, Text}
use Rattle.wy_event.specs.declared.record.Slot.{Slot}
use Rattle.wy_event.specs.declared.record.Slot.TheVariants.{Static, Field, Elem}
use Rattle.wy_event.specs.Record.{Recorded}
use Rattle.wy_steps.specs.Steps.{code_of, default_in, default_primitive, default_value}
use Rattle.wy_view.specs.References.{ValueBelow}

pub value_up : (n m : ℕ) (v : Value) → n ≤ m → ValueBelow n v → ValueBelow m v
value_up n m (Object k) le below = omega (arith, le, below)
value_up n m (Text k) le below = omega (arith, le, below)
value_up n m _ le below = tt

primitive_below : (n : ℕ) (q : Primitive) → ValueBelow n (default_primitive q)
unfolding default_primitive
primitive_below n prim.Bool = tt
primitive_below n prim.Byte = tt
primitive_below n prim.Short = tt
primitive_below n prim.Char = tt
primitive_below n prim.Int = tt
primitive_below n prim.Long = tt

default_below : (n : ℕ) (ty : Ty) → ValueBelow n (default_value ty)
unfolding default_value
default_below n Void = tt
default_below n Null = tt
default_below n (Of (Basic q) zero) = primitive_below n q
default_below n (Of (Basic q) (suc m)) = tt
default_below n (Of (Named c) m) = tt

-- a default refers to nothing
pub created_below : (n : ℕ) (p : Program) (e : Recorded) (x : Slot) → ValueBelow n (default_in p e x)
unfolding default_in
created_below n p e (Static f) = default_below n (field p f).ty
created_below n p e (Field object f) = default_below n (field p f).ty
created_below n p e (Elem array i) = default_below n (element_type (type_of_code (code_of e.entity)))
created_below n p e _ = tt
