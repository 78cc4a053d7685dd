use Rattle.std.proofs.Common.{◌≡◌, [], false, length, replicate, refl, arith, rules}
use Rattle.wy_paths.specs.Graph.{LiesIn}
use Rattle.wy_paths.proofs.Spreading.{all_among, none_left, spread_at_end, spreading_first, spreading_on}
use Rattle.wy_paths.proofs.graph.walked.Goals as goal

pub loop-point-init : goal.loop-point-init
loop-point-init c =
    let marks : c.in_ok-vec.field-0.items ≡ replicate (length c.args.open.now) false = search rules in
    let waiting : c.new.result.items ≡ [] = search rules in
    spreading_first c.args.edges.now c.args.open.now c.args.start _ c.visit.new.self marks waiting c.in_ok-visit.ensures.visited

pub visit_all-requires-clause-sized : goal.visit_all-requires-clause-sized
visit_all-requires-clause-sized c = c.loop-point.invariant.sized

pub visit_all-requires-clause-lie : goal.visit_all-requires-clause-lie
visit_all-requires-clause-lie c = all_among (LiesIn (length c.args.open.now)) c.args.edges.now c.edges_from.result.now c.in-Some.point c.requires.lie c.edges_from.ensures

pub loop-point-preserved : goal.loop-point-preserved
loop-point-preserved c = spreading_on c.args.edges.now c.args.open.now c.args.start c.in-Some.point c.edges_from.result.now c.loop-point.walk _ c.visit_all.new.self c.edges_from.ensures refl c.in-Some.ensures.items c.loop-point.invariant c.in_ok-visit_all.ensures.visited

pub loop-point-smaller : goal.loop-point-smaller
loop-point-smaller c = omega (arith, c.in_ok-visit_all.ensures.visited.left, c.in-Some.ensures.len)

pub returns : goal.returns
returns c = spread_at_end c.args.edges.now c.args.open.now c.args.start c.loop-point.walk (none_left c.loop-point.walk.waiting.items (omega (arith, c.in_default.ensures.cases.0))) c.loop-point.invariant
