use Rattle.std.proofs.Common.{◌≤◌, length, arith}
use Rattle.wy_overloads.specs.Candidates.{numbers_of}
use Rattle.wy_overloads.specs.LineageView.{lineage_of}
use Rattle.wy_overloads.proofs.Listed.{in_range_at, of_all}
use Rattle.wy_overloads.proofs.Related.{not_below}
use Rattle.wy_overloads.proofs.counting.nearest_has_body.Goals as goal

pub method-other-requires : goal.method-other-requires
method-other-requires c = in_range_at (lineage_of c.args.lineage.now).methods _ (numbers_of c.alike-candidates.result) c.loop-i.i c.at-j.result c.alike-candidates.ensures c.at-j.ensures

pub returns : goal.returns
returns c =
    let all : length (numbers_of c.alike-candidates.result) ≤ c.loop-i.i = omega (arith, c.loop-i-test.false, c.len-i-end.ensures) in
    not_below (λ h. of_all (lineage_of c.args.lineage.now) _ _ (numbers_of c.alike-candidates.result) c.loop-i.i c.alike-candidates.ensures all c.loop-i.invariant h.0 h.1 h.2.0 h.2.1 h.2.1 h.3 h.4)
