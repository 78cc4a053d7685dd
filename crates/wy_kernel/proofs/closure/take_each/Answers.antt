use Rattle.std.proofs.Common.{◌≡◌, ◌≤◌, length, take, arith, ap, sym, subst}
use Rattle.std.proofs.lemmas.List.{take_more, take_all}
use Rattle.std.specs.Prelude.{List, ℕ}
use Rattle.wy_kernel.specs.Rows.{TakesEach}
use Rattle.wy_kernel.proofs.Taking.{takes_both}
use Rattle.wy_kernel.proofs.closure.take_each.Goals as goal

pub loop-other-preserved : goal.loop-other-preserved
loop-other-preserved c =
    takes_both _ _ _ _ _ _ c.loop-other.invariant c.in_ok-take.ensures (take_more c.args.others.now c.loop-other.other-index _ c.loop-other-test.true)

pub returns : goal.returns
returns c =
    let P : List ℕ → Type 0 = λ w. TakesEach c.args.row.now.items w c.loop-other.row.items in
    subst P (take_all c.loop-other.other-index c.args.others.now c.loop-other-test.false) c.loop-other.invariant
