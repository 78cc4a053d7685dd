use Rattle.std.proofs.Common.{◌≡◌, ◌∙◌, map, ap, rules}
use Rattle.std.specs.Ordering.{is_lt}
use Rattle.std.proofs.lemmas.Fn.{dedup_same}
use Rattle.std.proofs.lemmas.List.Sorted.{answers_always, ranks_by}
use Rattle.wy_static.specs.declared.point.Link.{Link}
use Rattle.wy_paths.specs.Order.{item_cmp}
use Rattle.wy_paths.proofs.Bridging.{are_frontier, ties}
use Rattle.wy_paths.proofs.Orders.{items_total}
use Rattle.wy_paths.proofs.Placing.{all_placed, begun_as}
use Rattle.wy_paths.proofs.search.frontier.Goals as goal

pub picked-requires : goal.picked-requires
picked-requires c = all_placed c.args.links.now c.args.start c.args.goal c.in_ok-found.found c.in_ok-found.ensures.found

pub returns : goal.returns
returns c = λ met is never.
    let order = c.sort_unstable_by.ensures.sorted (λ a b. is_lt (item_cmp a b)) (ranks_by items_total (λ (l : Link). l)) (answers_always _ _ _ (λ f a r g h. search rules)) in
    let once = dedup_same _ ties _ (λ x y b f' x' y' k. search rules) _ _ c.dedup_by.ensures.filtered in
    are_frontier c.args.links.now met c.args.start c.args.goal _ _ _ c.in_ok-found.found c.in_ok-found.ensures.found
    (begun_as met c.in_ok-found.found c.args.points c.args.begun c.in_ok-found.ensures.begun c.in_ok-found.ensures.points is) never c.in_ok-frontier.ensures c.sort_unstable_by.ensures.permutation order once
