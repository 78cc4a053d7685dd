use Rattle.std.proofs.Common.{◌≡◌, ◌∙◌, length, map, take, sym, ap, ap₂, subst, arith}
use Rattle.std.specs.Prelude.{All}
use Rattle.std.proofs.lemmas.Grind.{common_steps}
use Rattle.std.proofs.lemmas.List.Elements.{All-push, Contains-get_or}
use Rattle.wy_paths.specs.Graph.{LiesIn, edge}
use Rattle.wy_paths.specs.Numbers.{edge_of}
use Rattle.wy_paths.proofs.Bridging.{some_link}
use Rattle.wy_paths.proofs.Lists.{map_next}
use Rattle.wy_paths.proofs.points.edges_of.Goals as goal

pub loop-link-preserved : goal.loop-link-preserved
loop-link-preserved c =
    let e = edge c.number-from.result c.number-to.result in
    record {
      edges = map_next (edge_of c.args.points.now) c.args.links.now c.loop-link.link-index some_link c.loop-link.edges.items c.push.new.self.items e c.loop-link-test.true
          c.loop-link.invariant.edges c.in_ok-push.ensures.items (ap₂ edge c.number-from.ensures.place c.number-to.ensures.place);
      lie = subst (All (LiesIn (length c.args.points.now))) (sym c.in_ok-push.ensures.items)
          (All-push (LiesIn (length c.args.points.now)) c.loop-link.edges.items e c.loop-link.invariant.lie (c.number-from.ensures.within, c.number-to.ensures.within));
    }

pub number-from-requires-clause-in_order : goal.number-from-requires-clause-in_order
number-from-requires-clause-in_order c = c.requires.in_order

pub number-to-requires-clause-in_order : goal.number-to-requires-clause-in_order
number-to-requires-clause-in_order c = c.requires.in_order

pub number-from-requires-clause-there : goal.number-from-requires-clause-there
number-from-requires-clause-there c = (c.requires.ends _ (Contains-get_or c.args.links.now c.loop-link.link-index some_link c.loop-link-test.true)).0

pub number-to-requires-clause-there : goal.number-to-requires-clause-there
number-to-requires-clause-there c = (c.requires.ends _ (Contains-get_or c.args.links.now c.loop-link.link-index some_link c.loop-link-test.true)).1

pub returns-clause-edges : goal.returns-clause-edges
returns-clause-edges c =
    let whole : take c.loop-link.link-index c.args.links.now ≡ c.args.links.now = grind (arith, common_steps) in
    c.loop-link.invariant.edges ∙ ap (map (edge_of c.args.points.now)) whole
