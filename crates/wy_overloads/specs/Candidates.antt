-- The methods that a search looks at, in the order in which it does.
use Rattle.std.specs.Prelude.{ℕ, List, ◌++◌}
use Rattle.wy_overloads.specs.declared.candidates.Candidates.{Candidates}

abbrev pub numbers_of : Candidates → List ℕ
numbers_of c = c.by_name.now ++ c.constructors.now
