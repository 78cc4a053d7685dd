use Rattle.wy_machine.proofs.Tails.{counts_tell, covers_tell}
use Rattle.wy_machine.proofs.auditing.same_tail.Goals as goal

pub returns-then-same_covers : goal.returns-then-same_covers
returns-then-same_covers c = counts_tell c.args.a.now c.args.b.now _ _ c.same_covers.result c.same_counts.result c.as_slice-covers.ensures c.as_slice.ensures c.if-same_covers.true c.same_covers.ensures c.same_counts.ensures

pub returns-else-same_covers : goal.returns-else-same_covers
returns-else-same_covers c = covers_tell c.args.a.now c.args.b.now _ _ c.same_covers.result c.as_slice-covers.ensures c.as_slice.ensures c.if-same_covers.false c.same_covers.ensures
