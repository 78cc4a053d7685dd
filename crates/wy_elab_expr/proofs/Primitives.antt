-- Types by their kinds, and numbers that may stand for none.
use Rattle.std.proofs.Common.{◌≡◌, ap, ℕ, zero, suc, ◌<◌, Some, None, cond, refl, arith}
use Rattle.std.proofs.lemmas.Bool.{ne_eqb}
use Rattle.wy_kernel.specs.declared.operator.Primitive.{Primitive}
use Rattle.wy_kernel.specs.declared.types.Base.TheVariants.{Primitive as Basic, Class as Named}
use Rattle.wy_kernel.specs.declared.types.Ty.{Ty}
use Rattle.wy_kernel.specs.declared.types.Ty.TheVariants.{Void, Null, Of}
use Rattle.wy_kernel.specs.View.{present, NONE}
use Rattle.wy_kernel.specs.Subtyping.{primitive_type}
use Rattle.wy_elab_expr.specs.Operators.{primitive_in}

pub primitive_is : (ty : Ty) (p : Primitive) → Some p ≡ primitive_in ty → ty ≡ primitive_type p
primitive_is (Of (Basic q) zero) p e = cc
primitive_is (Of (Basic q) (suc n)) p e = cc
primitive_is (Of (Named c) n) p e = cc
primitive_is Void p e = cc
primitive_is Null p e = cc

pub present_number : (n : ℕ) → n < 4294967295 → present n ≡ Some n
unfolding present
present_number n less = ap (λ b. cond b None (Some n)) (ne_eqb n NONE (omega arith))

pub present_none : present 4294967295 ≡ None
unfolding present
present_none = refl
