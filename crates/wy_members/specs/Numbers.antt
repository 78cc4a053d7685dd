-- Numbers by name: the first of a name counts.
use Rattle.std.specs.Prelude.{ℕ, ◌+◌, List, [], ◌∷◌, Option}
use Rattle.std.specs.Str.{bytes_eq}
use Rattle.wy_table.specs.Names.{numbered_also}

-- the number that a name has once all these are numbered in turn
abbrev pub numbered_all : List ℕ → Option ℕ → ℕ → List (List ℕ) → Option ℕ
numbered_all name number next [] = number
numbered_all name number next (x ∷ rest) = numbered_all name (numbered_also number (bytes_eq name x) next) (next + 1) rest
