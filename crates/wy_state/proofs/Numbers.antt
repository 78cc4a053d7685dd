-- Numbers in memory, of which one stands for none.
use Rattle.std.proofs.Common.{◌≡◌, ◌≢◌, ℕ, Some, refl, ap, inl, inr}
use Rattle.std.specs.Prelude.{None as Absent, if◌then◌else◌}
use Rattle.std.proofs.lemmas.Bool.Decides.{eqb_tells}
use Rattle.wy_kernel.specs.View.{present}

pub present_some : (n : ℕ) → n ≢ 4294967295 → present n ≡ Some n
unfolding present
present_some n other = elim (eqb_tells n 4294967295) as (λ _. present n ≡ Some n) [
  | inl same ↦ absurd (other same.1)
  | inr differ ↦ ap (λ b. if b then Absent else Some n) differ.0
]

pub present_none : present 4294967295 ≡ Absent
unfolding present
present_none = refl
