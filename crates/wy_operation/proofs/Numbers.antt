-- How far a number is from 0.
use Rattle.std.proofs.Common.{◌≡◌, ◌∙◌, true, ℤ, pos, FitsSigned, of_z, to_z}
use Rattle.std.proofs.lemmas.Int.{to_z-of_z, wrapping_neg_is}
use Rattle.std.specs.Int.{Width, int_wrapping_neg}
use Rattle.std.specs.Prelude.{int_lt}
use Rattle.wy_operation.specs.Words.{absolute_in}

pub below_zero : (width : Width) (z r : ℤ) → FitsSigned width z → int_lt (to_z width (of_z width z)) (pos 0) ≡ true → r ≡ int_wrapping_neg width (to_z width (of_z width z)) → r ≡ absolute_in width z
below_zero width z r fits test is =
    let below : int_lt z (pos 0) ≡ true = rw (to_z-of_z width z fits) at test in
    let turned : r ≡ int_wrapping_neg width z = rw (to_z-of_z width z fits) at is in
    rw below (turned ∙ wrapping_neg_is width z fits)
