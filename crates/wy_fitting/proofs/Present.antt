-- A number of memory is present where it is not NONE.
use Rattle.std.proofs.Common.{◌≡◌, ℕ, ◌<◌, ◌^◌, Bool, true, false, eqb, refl, arith}
use Rattle.std.proofs.lemmas.Bool.{eqb-false}
use Rattle.wy_kernel.specs.View.{NONE, present}
use Rattle.wy_fitting.specs.Fits.{IsPresent}

by_test : (n : ℕ) (b : Bool) → n < 2 ^ 32 → eqb n NONE ≡ b → IsPresent (present n)
unfolding present
by_test n true small e = rw e tt
by_test n false small e = rw e (omega (arith, small, eqb-false n NONE e))

pub is_present : (n : ℕ) → n < 2 ^ 32 → IsPresent (present n)
is_present n small = by_test n (eqb n NONE) small refl
