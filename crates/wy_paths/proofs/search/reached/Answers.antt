use Rattle.std.proofs.Common.{◌≡◌, List, ℕ, Bool, length, replicate, true, subst, rules}
use Rattle.wy_paths.specs.declared.graph.Edge.{Edge}
use Rattle.wy_paths.specs.Graph.{IsSpread}
use Rattle.wy_paths.specs.Numbers.{point_number}
use Rattle.wy_paths.proofs.search.reached.Goals as goal

pub returns : goal.returns
returns c =
    let open' : c.deref.result.now ≡ replicate (length c.args.points.now) true = search rules in
    let start : c.number.result ≡ point_number c.args.points.now c.args.start = c.number.ensures.place in
    subst (λ (es : List Edge). IsSpread es (replicate (length c.args.points.now) true) (point_number c.args.points.now c.args.start) c.in_ok-marks.marks.items) c.in_ok-edges.ensures.edges
    (subst (λ (o : List Bool). IsSpread c.in_ok-edges.edges.items o (point_number c.args.points.now c.args.start) c.in_ok-marks.marks.items) open'
    (subst (λ (s : ℕ). IsSpread c.in_ok-edges.edges.items c.deref.result.now s c.in_ok-marks.marks.items) start c.in_ok-marks.ensures))
