-- Lists in the order of a key.
use Rattle.std.specs.Prelude.{ℕ, List, [], ◌∷◌, nat_le, if◌then◌else◌}

-- before the first whose key is as high
abbrev pub inserted : {X : Type 0} → (X → ℕ) → X → List X → List X
inserted key x [] = x ∷ []
inserted key x (y ∷ rest) =
    if nat_le (key x) (key y) then x ∷ y ∷ rest else y ∷ inserted key x rest

-- by their keys; those of one key keep their order
abbrev pub in_order : {X : Type 0} → (X → ℕ) → List X → List X
in_order key [] = []
in_order key (x ∷ rest) = inserted key x (in_order key rest)
