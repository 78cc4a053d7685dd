use Rattle.std.proofs.Common.{length, subst}
use Rattle.std.specs.Prelude.{EachIndex, MatchOption, slice_index}
use Rattle.std.proofs.Common.{◌≡◌, ◌≤◌}
use Rattle.wy_fold.proofs.Tables.{below_greatest}
use Rattle.wy_fold.proofs.place.greatest_line.Goals as goal

pub returns : goal.returns
returns c = λ rs n.
    rw c.unwrap_or.ensures (below_greatest c.args.program.now.lines.items c.greatest.result
    (subst (λ xs. MatchOption c.greatest.result (length xs ≡ 0) (λ m. EachIndex xs (λ k. slice_index xs k ≤ m))) c.as_slice.ensures.value c.greatest.ensures) rs n)
