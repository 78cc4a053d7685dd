-- Rows of statements, seen as lists.
use Rattle.std.proofs.Common.{◌≡◌, ap, List, [], ◌∷◌, ◌++◌, refl}
use Rattle.wy_kernel.specs.Form as kernel
use Rattle.wy_kernel.specs.View.{statements_of}
use Rattle.wy_elab_body.specs.Statements.{joined, row_of}

pub joined_row : (xs ys : List kernel.Statement) → statements_of (xs ++ ys) ≡ joined xs (statements_of ys)
joined_row [] ys = refl
joined_row (x ∷ xs) ys = ap (kernel.first x) (joined_row xs ys)

pub row_is : (xs : List kernel.Statement) → row_of xs ≡ statements_of xs
row_is [] = refl
row_is (x ∷ xs) = ap (kernel.first x) (row_is xs)
