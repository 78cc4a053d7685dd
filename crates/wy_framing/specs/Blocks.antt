-- What is written of what was kept back and of what came behind it.
use Rattle.std.specs.Prelude.{◌≡◌, ℕ, List, ◌++◌, Option}
use Rattle.std.specs.Io.KnownBytes.{Appends}

-- what was kept back and the piece are what was written, and then what is kept back now
abbrev pub Flows : Option (List ℕ) → List ℕ → Option (List ℕ) → List ℕ → List ℕ → Type 0
Flows old kept new keeps piece = (bytes : List ℕ) × (kept ++ piece ≡ bytes ++ keeps) × Appends old new bytes
