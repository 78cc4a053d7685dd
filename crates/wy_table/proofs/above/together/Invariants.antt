use Rattle.std.proofs.Common.{◌≡◌, ℕ, ◌||◌, [], take, get_or, nat_eq}
use Rattle.std.specs.Prelude.{map}
use Rattle.std.specs.List.{list_any}
use Rattle.wy_table.specs.Spans.{is_covered}
use Rattle.wy_table.proofs.above.together.Given as goal

abbrev pub invariant-loop-d : goal.invariant-loop-d
invariant-loop-d l = (n : ℕ) → is_covered n l.row.items ≡ (nat_eq n l.number || list_any (λ d. is_covered n (get_or (map (λ row. row.items) l.rows) d [])) (take l.d-index l.above))
