use Rattle.wy_overloads.specs.Candidates.{numbers_of}
use Rattle.wy_overloads.specs.LineageView.{lineage_of}
use Rattle.wy_overloads.proofs.Listed.{in_range_at}
use Rattle.wy_overloads.proofs.likely.likely.Goals as goal

pub method-requires : goal.method-requires
method-requires c = in_range_at (lineage_of c.args.lineage.now).methods _ (numbers_of c.named-candidates.result) c.loop-i.i c.at-k.result c.named-candidates.ensures c.at-k.ensures

pub preferred-requires-clause-k : goal.preferred-requires-clause-k
preferred-requires-clause-k c = in_range_at (lineage_of c.args.lineage.now).methods _ (numbers_of c.named-candidates.result) c.loop-i.i c.at-k.result c.named-candidates.ensures c.at-k.ensures
