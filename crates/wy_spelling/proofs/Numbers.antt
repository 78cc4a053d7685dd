-- A number that is NONE in memory is spelled as it stands there.
use Rattle.std.proofs.Common.{◌≡◌, ℕ, Bool, true, false, refl, ap, sym, eqb}
use Rattle.std.proofs.lemmas.Bool.{eqb-true}
use Rattle.wy_kernel.specs.View.{NONE, present}
use Rattle.wy_spelling.specs.Spelling.{number, optional}

by_test : (n : ℕ) (b : Bool) → eqb n NONE ≡ b → optional (present n) ≡ number n
unfolding present
by_test n true e = rw e (ap number (sym (eqb-true n NONE e)))
by_test n false e = rw e refl

pub optional_present : (n : ℕ) → optional (present n) ≡ number n
optional_present n = by_test n (eqb n NONE) refl
