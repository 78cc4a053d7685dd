use Rattle.std.proofs.Common.{◌≡◌, ◌∙◌, List, ℕ, Bool, length, map, not, sym, ap, subst, arith}
use Rattle.std.specs.Prelude.{All}
use Rattle.std.proofs.lemmas.List.{length-map}
use Rattle.wy_paths.specs.declared.graph.Edge.{Edge}
use Rattle.wy_paths.specs.Graph.{IsSpread, LiesIn}
use Rattle.wy_paths.specs.Numbers.{point_number, turned}
use Rattle.wy_paths.proofs.Placing.{all_turned}
use Rattle.wy_paths.proofs.search.leading.Goals as goal

pub spread-requires-clause-lie : goal.spread-requires-clause-lie
spread-requires-clause-lie c =
    let open' : c.deref-2.result.now ≡ map not c.args.begun.now = c.deref-2.ensures.value ∙ c.in_ok-open.ensures in
    let count : length c.args.points.now ≡ length c.deref-2.result.now = sym (ap length open' ∙ length-map c.args.begun.now not ∙ c.requires.sized) in
    let back : c.in_ok-back.back.items ≡ map turned c.in_ok-edges.edges.items = c.in_ok-back.ensures ∙ ap (map turned) c.deref.ensures.value in
    all_turned (length c.deref-2.result.now) c.in_ok-edges.edges.items c.in_ok-back.back.items (subst (λ (k : ℕ). All (LiesIn k) c.in_ok-edges.edges.items) count c.in_ok-edges.ensures.lie) back

pub spread-requires-clause-start : goal.spread-requires-clause-start
spread-requires-clause-start c =
    let open' : c.deref-2.result.now ≡ map not c.args.begun.now = c.deref-2.ensures.value ∙ c.in_ok-open.ensures in
    let count : length c.args.points.now ≡ length c.deref-2.result.now = sym (ap length open' ∙ length-map c.args.begun.now not ∙ c.requires.sized) in
    omega (arith, count, c.number.ensures.within)

pub returns : goal.returns
returns c =
    let open' : c.deref-2.result.now ≡ map not c.args.begun.now = c.deref-2.ensures.value ∙ c.in_ok-open.ensures in
    let back = c.in_ok-back.ensures ∙ ap (map turned) (c.deref.ensures.value ∙ c.in_ok-edges.ensures.edges) in
    let start : c.number.result ≡ point_number c.args.points.now c.args.goal = c.number.ensures.place in
    subst (λ (es : List Edge). IsSpread es (map not c.args.begun.now) (point_number c.args.points.now c.args.goal) c.in_ok-marks.marks.items) back
    (subst (λ (o : List Bool). IsSpread c.in_ok-back.back.items o (point_number c.args.points.now c.args.goal) c.in_ok-marks.marks.items) open'
    (subst (λ (s : ℕ). IsSpread c.in_ok-back.back.items c.deref-2.result.now s c.in_ok-marks.marks.items) start c.in_ok-marks.ensures))
