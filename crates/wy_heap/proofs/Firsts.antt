-- The first values of arrays.
use Rattle.std.proofs.Common.{◌≡◌, ◌<◌, ℕ, zero, suc, refl, arith}
use Rattle.wy_kernel.specs.declared.types.Base.{Base}
use Rattle.wy_kernel.specs.declared.types.Base.TheVariants.{Primitive as Basic, Class as Named}
use Rattle.wy_kernel.specs.declared.types.Ty.TheVariants.{Of}
use Rattle.wy_value.specs.declared.value.Value.TheVariants.{Null}
use Rattle.wy_steps.specs.Steps.{default_value}

-- an array is null first
pub longer : (b : Base) (n : ℕ) → 0 < n → default_value (Of b n) ≡ Null
unfolding default_value
longer (Basic q) zero h = absurd (omega arith)
longer (Basic q) (suc n) h = refl
longer (Named c) n h = refl
