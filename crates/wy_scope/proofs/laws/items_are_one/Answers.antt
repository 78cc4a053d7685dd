-- Both lists have the same links in one order, and each link has one evidence.
use Rattle.std.proofs.Common.{◌∙◌, sym, ap, map}
use Rattle.wy_paths.proofs.Orders.{items_total}
use Rattle.wy_paths.proofs.Sorting.{sorted_same}
use Rattle.wy_scope.specs.Evidence.{evidence}
use Rattle.wy_scope.specs.Items.{links_of}
use Rattle.wy_scope.proofs.laws.items_are_one.Goals as goal

pub returns : goal.returns
returns c = λ p rs call n xs ys a b.
    let same = sorted_same items_total (links_of xs) (links_of ys) a.blocked.in_order b.blocked.in_order
    (λ l i. (b.blocked.exact l).1 ((a.blocked.exact l).0 i)) (λ l i. (a.blocked.exact l).1 ((b.blocked.exact l).0 i)) in
    a.evident ∙ ap (map (evidence p rs call)) same ∙ sym b.evident
