use Rattle.std.proofs.Common.{rules}
use Rattle.std.specs.Ordering.{is_lt}
use Rattle.std.proofs.lemmas.Fn.{dedup_same}
use Rattle.std.proofs.lemmas.List.Sorted.{answers_always, ranks_by}
use Rattle.wy_static.specs.declared.point.Point.{Point}
use Rattle.wy_static.specs.Order.{point_cmp}
use Rattle.wy_static.proofs.Orders.{point_total}
use Rattle.wy_paths.proofs.Numbering.{points_ready, ties}
use Rattle.wy_paths.proofs.points.points_of.Goals as goal

pub returns : goal.returns
returns c =
    let order = c.sort_unstable_by.ensures.sorted (λ a b. is_lt (point_cmp a b)) (ranks_by point_total (λ (q : Point). q)) (answers_always _ _ _ (λ f a r g h. search rules)) in
    let once = dedup_same _ ties _ (λ x y b f' x' y' k. search rules) _ _ c.dedup_by.ensures.filtered in
    points_ready c.args.links.now c.args.start c.args.goal _ _ _ c.in_ok-points.ensures c.sort_unstable_by.ensures.permutation order once
