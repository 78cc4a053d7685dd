use Rattle.std.proofs.Common.{◌≡◌, length, sym, subst}
use Rattle.std.specs.Prelude.{All}
use Rattle.std.proofs.lemmas.List.Sorted.{All-permutation}
use Rattle.wy_paths.specs.Graph.{IsSpread, LiesIn}
use Rattle.wy_paths.proofs.Bridging.{spread_same}
use Rattle.wy_paths.proofs.graph.spread.Goals as goal

pub walked-requires-clause-lie : goal.walked-requires-clause-lie
walked-requires-clause-lie c =
    let same : c.deref.result.now ≡ c.in_order-edges.result.items = c.deref.ensures.value in
    subst (All (LiesIn (length c.args.open.now))) (sym same) (All-permutation (LiesIn (length c.args.open.now)) c.args.edges.items c.in_order-edges.result.items c.in_order-edges.ensures.permutation c.requires.lie)

pub returns : goal.returns
returns c =
    let same : c.deref.result.now ≡ c.in_order-edges.result.items = c.deref.ensures.value in
    spread_same c.args.edges.items c.in_order-edges.result.items c.args.open.now c.args.start c.in_ok-marks.marks.items c.in_order-edges.ensures.permutation (subst (λ es. IsSpread es c.args.open.now c.args.start c.in_ok-marks.marks.items) same c.in_ok-marks.ensures)
