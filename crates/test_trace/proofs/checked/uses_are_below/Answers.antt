use Rattle.test_trace.proofs.Below.{one_use_more}
use Rattle.test_trace.proofs.checked.uses_are_below.Goals as goal

pub loop-used-preserved : goal.loop-used-preserved
loop-used-preserved c = one_use_more c.args.n c.args.uses.now c.loop-used.used-index _ c.loop-used-test.true c.loop-used.invariant (c.use_is_below.ensures (cc))
