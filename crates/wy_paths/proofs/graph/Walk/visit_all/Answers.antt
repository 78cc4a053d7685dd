use Rattle.std.proofs.Common.{◌≡◌, ◌∙◌, take, sym, subst, arith}
use Rattle.std.proofs.lemmas.Grind.{common_steps}
use Rattle.wy_paths.specs.Graph.{HasVisited, ends_of, edge}
use Rattle.wy_paths.proofs.Spreading.{ends_more, visited_more, visited_none}
use Rattle.wy_paths.proofs.graph.Walk.visit_all.Goals as goal

pub loop-edge-init : goal.loop-edge-init
loop-edge-init c = visited_none c.args.open.now _

pub visit-requires-clause-sized : goal.visit-requires-clause-sized
visit-requires-clause-sized c = c.loop-edge.invariant.sized ∙ c.requires.sized

pub loop-edge-preserved : goal.loop-edge-preserved
loop-edge-preserved c =
    let i = c.loop-edge.edge-index in
    let edges = c.args.edges.now in
    subst (λ points. HasVisited c.args.open.now points c.args.self.now c.visit.new.self) (sym (ends_more edges i (edge 0 0) c.loop-edge-test.true))
    (visited_more c.args.open.now (ends_of (take i edges)) _ c.args.self.now c.loop-edge.self c.visit.new.self c.loop-edge.invariant c.in_ok-visit.ensures.visited)

pub returns : goal.returns
returns c =
    let whole : take c.loop-edge.edge-index c.args.edges.now ≡ c.args.edges.now = grind (arith, common_steps) in
    record { visited = subst (λ es. HasVisited c.args.open.now (ends_of es) c.args.self.now c.loop-edge.self) whole c.loop-edge.invariant }
