use Rattle.std.proofs.Common.{◌∙◌, ap, filter, rules}
use Rattle.std.proofs.lemmas.List.Sorted.{answers_always, IsNonDecreasingBy-from_sort}
use Rattle.wy_ask.specs.declared.never.PlacedStatement.{PlacedStatement}
use Rattle.wy_kernel.specs.Order.{in_order}
use Rattle.wy_ask.specs.Listing.{never_began}
use Rattle.wy_kernel.proofs.Sorting.{in_order_from_sort}
use Rattle.wy_ask.proofs.never.unbegun_in.Goals as goal

pub returns : goal.returns
returns c =
    in_order_from_sort (λ (s : PlacedStatement). s.statement.site) c.in_ok-all.all.items c.sort_by_key.new.self.items
    (IsNonDecreasingBy-from_sort (λ (s : PlacedStatement). s.statement.site) _ (c.in_ok-sort_by_key.ensures.sorted (λ (s : PlacedStatement). s.statement.site) (answers_always _ _ _ (λ f a r g called. search rules))))
    (c.sort_by_key.ensures.stable (λ (s : PlacedStatement). s.statement.site) (answers_always _ _ _ (λ f a r g called. search rules)))
    ∙ ap (in_order (λ (s : PlacedStatement). s.statement.site)) (c.in_ok-all.ensures ∙ ap (filter (never_began c.args.coverage.now)) (c.as_slice.ensures.value ∙ c.in_ok-places.ensures))
