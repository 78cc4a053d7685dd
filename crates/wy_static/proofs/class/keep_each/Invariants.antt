use Rattle.std.proofs.Common.{◌≡◌, ℕ, ◌++◌, take, nat_eq}
use Rattle.std.specs.List.{flat_map}
use Rattle.wy_static.specs.Rows.{kept_under, one_if}
use Rattle.wy_static.proofs.class.keep_each.Given as goal

abbrev pub invariant-loop-above : goal.invariant-loop-above
invariant-loop-above l = (q : ℕ) → kept_under l.below q ≡ kept_under l.fn.below q ++ flat_map (λ d. one_if (nat_eq d q) l.class) (take l.above-index l.row)
