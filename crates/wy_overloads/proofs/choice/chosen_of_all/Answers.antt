use Rattle.std.proofs.Common.{◌≤◌, length, arith}
use Rattle.wy_overloads.specs.Candidates.{numbers_of}
use Rattle.wy_overloads.specs.LineageView.{lineage_of}
use Rattle.wy_overloads.proofs.Listed.{in_range_at, of_all}
use Rattle.wy_overloads.proofs.choice.chosen_of_all.Goals as goal

pub method-requires : goal.method-requires
method-requires c = in_range_at (lineage_of c.args.lineage.now).methods _ (numbers_of c.named-candidates.result) c.loop-i.i c.at-k.result c.named-candidates.ensures c.at-k.ensures

pub returns : goal.returns
returns c k h =
    let all : length (numbers_of c.named-candidates.result) ≤ c.loop-i.i = omega (arith, c.loop-i-test.false, c.len-i-end.ensures) in
    of_all (lineage_of c.args.lineage.now) _ _ (numbers_of c.named-candidates.result) c.loop-i.i c.named-candidates.ensures all c.loop-i.invariant k h.method h.applicable.0 h.applicable.1.member h
