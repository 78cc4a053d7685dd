use Rattle.std.proofs.Common.{◌≤◌, length, arith}
use Rattle.wy_overloads.specs.Candidates.{numbers_of}
use Rattle.wy_overloads.specs.LineageView.{lineage_of}
use Rattle.wy_overloads.proofs.Listed.{in_range_at, of_all}
use Rattle.wy_overloads.proofs.Related.{not_below}
use Rattle.wy_overloads.proofs.member.has_some.Goals as goal

pub method-requires : goal.method-requires
method-requires c = in_range_at (lineage_of c.args.lineage.now).methods _ (numbers_of c.named-candidates.result) c.loop-i.i c.at.result c.named-candidates.ensures c.at.ensures

pub returns : goal.returns
returns c =
    let all : length (numbers_of c.named-candidates.result) ≤ c.loop-i.i = omega (arith, c.loop-i-test.false, c.len-i-end.ensures) in
    not_below (λ h. of_all (lineage_of c.args.lineage.now) _ _ (numbers_of c.named-candidates.result) c.loop-i.i c.named-candidates.ensures all c.loop-i.invariant h.0 h.1 h.2.0 h.2.1 h.2.1)
