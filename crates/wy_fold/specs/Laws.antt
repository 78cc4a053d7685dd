-- What holds of all groups.
use Rattle.std.specs.Prelude.{◌≡◌, ℕ, List, length, sum_by}
use Rattle.wy_why.specs.Answer.{Rises}
use Rattle.wy_fold.specs.Places.{Places, last_ones, on_line, stands_on}

-- a line has a group exactly where an event stands on it
abbrev pub EachLineHasItsGroup : Type 0
EachLineHasItsGroup = (at : Places) (events : List ℕ) (k : ℕ) → stands_on at k (last_ones at events) ≡ stands_on at k events

-- the groups have all events, each once
abbrev pub CountsAddUp : Type 0
CountsAddUp = (at : Places) (low high : ℕ) (events : List ℕ) → Rises low high events
    → sum_by (λ n. length (on_line at (at n) events)) (last_ones at events) ≡ length events
