use Rattle.std.proofs.lemmas.List.{take_more}
use Rattle.wy_kernel.proofs.Taking.{takes_both}
use Rattle.wy_table.proofs.above.take_each.Goals as goal

pub loop-other-preserved : goal.loop-other-preserved
loop-other-preserved c = record {
  takes = takes_both _ _ _ _ _ _ c.loop-other.invariant.takes c.in_ok-take.ensures.takes (take_more c.args.others.now c.loop-other.other-index _ c.loop-other-test.true);
  marked = c.in_ok-take.ensures.marked;
}
