use Rattle.std.proofs.Common.{refl}
use Rattle.wy_kernel.specs.Program.{base_below, same_primitive}
use Rattle.wy_state.proofs.below.is_base_below.Goals as goal

pub returns-in-Primitive-Primitive : goal.returns-in-Primitive-Primitive
unfolding base_below same_primitive
returns-in-Primitive-Primitive c = rw (c.in-Primitive-Primitive.is-0, c.in-Primitive-Primitive.is-1, c.primitive_code.ensures.code, c.primitive_code-in-Primitive-Primitive.ensures.code) refl
