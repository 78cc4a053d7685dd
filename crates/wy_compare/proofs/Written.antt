-- Texts, one part after another.
use Rattle.std.proofs.Common.{◌≡◌, ◌∙◌, ℕ, List, ◌++◌, ap, append_assoc}

-- two parts that were put one after the other
pub joined : (before between after x y : List ℕ) → between ≡ before ++ x → after ≡ between ++ y → after ≡ before ++ (x ++ y)
joined before between after x y first second = second ∙ ap (λ l. l ++ y) first ∙ append_assoc before x y
