-- A row of forms is read as its list.
use Rattle.std.proofs.Common.{◌≡◌, ap, refl, List, [], ◌∷◌}
use Rattle.wy_kernel.specs.Form as plain
use Rattle.wy_kernel.specs.View.{row_of}
use Rattle.wy_work.specs.Operands.{list_of}

pub listed_row : (es : List plain.Expression) → list_of (row_of es) ≡ es
listed_row [] = refl
listed_row (e ∷ es) = ap (λ rest. e ∷ rest) (listed_row es)
