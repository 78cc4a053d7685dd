-- The numbers of a set, in order.
use Rattle.std.specs.Prelude.{ℕ, suc, ◌<◌, ◌≤◌, List, [], ◌∷◌, filter}
use Rattle.std.specs.List.{range_with_len}
use Rattle.wy_event.specs.Numbers.{Numbers}

-- those up to n, rising
abbrev pub up_to : ℕ → Numbers → List ℕ
up_to n set = filter set (range_with_len 0 (suc n))

-- each is above the one before it, from low on, and below high
abbrev pub Rises : ℕ → ℕ → List ℕ → Type 0
Rises low high [] = Unit {0}
Rises low high (n ∷ ns) = low ≤ n × n < high × Rises (suc n) high ns
