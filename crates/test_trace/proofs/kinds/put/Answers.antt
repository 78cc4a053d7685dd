use Rattle.test_trace.proofs.Lows.{low_more}
use Rattle.test_trace.proofs.kinds.put.Goals as goal

pub returns-clause-low : goal.returns-clause-low
returns-clause-low g c = low_more _ _ _ c.args.sink c.requires.low c.requires.own c.in_ok-push.ensures.items
