use Rattle.wy_tree.proofs.Pending.{kept}
use Rattle.wy_tree.proofs.measure.put_parts.Goals as goal

pub loop-last-preserved : goal.loop-last-preserved
loop-last-preserved c = kept _ _ _ _ c.in-Some.last _ c.in-Some.ensures.cases.0 c.in_ok-push.ensures.items c.loop-last.invariant
