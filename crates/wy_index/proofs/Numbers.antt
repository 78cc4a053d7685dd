-- Numbers that may be absent, as they are kept.
use Rattle.std.proofs.Common.{◌≡◌, ℕ, Bool, true, false, refl, sym, ap, Some, None, eqb-true, eq-eqb, ne_eqb}
use Rattle.std.specs.Prelude.{◌==◌, if◌then◌else◌}
use Rattle.wy_kernel.specs.View.{NONE, present}
use Rattle.wy_index.specs.Found.{number}

pub number_of_present : (n : ℕ) → number (present n) ≡ n
unfolding present
number_of_present n = go (n == NONE) refl
  where
    go : (b : Bool) → (n == NONE) ≡ b → number (if b then None else Some n) ≡ n
    go true is = sym (same is)
      where
        same : (n == NONE) ≡ true → n ≡ NONE
        same e = eqb-true n NONE e
    go false is = refl

pub absent_number : (n : ℕ) → n ≡ NONE → present n ≡ None
unfolding present
absent_number n is = ap (λ b. if b then None else Some n) (eq-eqb n NONE is)

pub present_number : (n : ℕ) → (n ≡ NONE → ⊥) → present n ≡ Some n
unfolding present
present_number n apart = ap (λ b. if b then None else Some n) (ne_eqb n NONE apart)
