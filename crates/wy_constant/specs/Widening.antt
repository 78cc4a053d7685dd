-- Widening of primitive types (JLS 4.10.1) as a test.
use Rattle.std.specs.Prelude.{Bool, true, false}
use Rattle.wy_kernel.specs.declared.operator.Primitive.{Primitive}
use Rattle.wy_kernel.specs.declared.operator.Primitive.TheVariants as prim

-- a is b, or widens to it
unfoldable pub widens_to : Primitive → Primitive → Bool
widens_to prim.Bool prim.Bool = true
widens_to prim.Byte prim.Byte = true
widens_to prim.Byte prim.Short = true
widens_to prim.Byte prim.Int = true
widens_to prim.Byte prim.Long = true
widens_to prim.Short prim.Short = true
widens_to prim.Short prim.Int = true
widens_to prim.Short prim.Long = true
widens_to prim.Char prim.Char = true
widens_to prim.Char prim.Int = true
widens_to prim.Char prim.Long = true
widens_to prim.Int prim.Int = true
widens_to prim.Int prim.Long = true
widens_to prim.Long prim.Long = true
widens_to _ _ = false
