use Rattle.std.proofs.Common.{◌≡◌, rules}
use Rattle.std.specs.List.{dedup}
use Rattle.std.specs.Ordering.{eq_by_cmp, is_lt}
use Rattle.std.proofs.lemmas.Fn.{always_returns_same, dedup_same}
use Rattle.std.proofs.lemmas.List.Sorted.{ranks_by}
use Rattle.wy_static.specs.declared.point.Link.{Link}
use Rattle.wy_static.specs.Order.{link_cmp}
use Rattle.wy_static.proofs.Orders.{link_total}
use Rattle.wy_static.proofs.Settling.{same_kept, in_order}
use Rattle.wy_static.proofs.links.settle.Goals as goal

pub returns : goal.returns
returns c =
    let old = c.args.links.now.items in
    let sorted = c.sort_unstable_by.new.self.items in
    let new = c.dedup_by.new.self.items in
    let is : new ≡ dedup (eq_by_cmp link_cmp) sorted = dedup_same _ (eq_by_cmp link_cmp) _ (λ x y b f x' y' k. search rules) _ _ c.dedup_by.ensures.filtered in
    let up = c.sort_unstable_by.ensures.sorted (λ a b. is_lt (link_cmp a b)) (ranks_by link_total (λ (l : Link). l)) (always_returns_same _ _ _ (λ a r f called. search rules)) in
    record {
      same = same_kept old sorted new c.sort_unstable_by.ensures.permutation is;
      in_order = in_order sorted new up is;
    }
