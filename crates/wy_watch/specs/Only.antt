-- What is found where at most one thing is so.
use Rattle.std.specs.Prelude.{◌≡◌, Option, Some}
use Rattle.std.specs.Prelude.{None as Absent}

-- the one of which it is so, or none where it is so of none
abbrev pub IsOnly : {X : Type 0} → (X → Type 0) → Option X → Type 0
IsOnly {X} So (Some x) = So x × ((y : X) → So y → y ≡ x)
IsOnly {X} So Absent = (y : X) → ¬ So y
