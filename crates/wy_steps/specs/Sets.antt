-- What a run may carry of where its values come from.
use Rattle.std.specs.Prelude.{ℕ}
use Rattle.wy_event.specs.Numbers.{Numbers, none, only, union}

pub record Sets : Type 1 where
  pub set : Type 0
  pub empty : set
  pub one : ℕ → set
  pub both : set → set → set

-- nothing is carried
abbrev pub nothing : Sets
nothing = record { set = Unit {0}; empty = tt; one = λ n. tt; both = λ a b. tt }

-- sets of event numbers are carried
abbrev pub numbers : Sets
numbers = record { set = Numbers; empty = none; one = only; both = union }
