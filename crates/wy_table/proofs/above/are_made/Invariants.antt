use Rattle.std.proofs.Common.{ℕ, ◌<◌, ◌≢◌, [], get_or}
use Rattle.std.specs.Prelude.{map}
use Rattle.wy_table.proofs.above.are_made.Given as goal

abbrev pub invariant-loop-d : goal.invariant-loop-d
invariant-loop-d l = (k : ℕ) → k < l.d-index → get_or (map (λ row. row.items) l.rows) (get_or l.above k 0) [] ≢ []
