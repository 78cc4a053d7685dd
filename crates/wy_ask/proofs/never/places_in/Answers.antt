use Rattle.std.proofs.Common.{◌≡◌, ◌∙◌, [], ap, subst, rules}
use Rattle.std.specs.Prelude.{IfOk}
use Rattle.std.proofs.lemmas.List.Sorted.{answers_always, IsNonDecreasingBy-from_sort}
use Rattle.wy_ask.specs.declared.askable.Askable.{Askable}
use Rattle.wy_kernel.specs.Order.{in_order}
use Rattle.wy_ask.specs.Listing.{placed}
use Rattle.wy_kernel.proofs.Sorting.{in_order_from_sort}
use Rattle.wy_ask.proofs.never.places_in.Goals as goal

pub returns : goal.returns
returns c =
    let sorted = in_order_from_sort (λ (s : Askable). s.number) c.in_ok-statements.statements.items c.sort_by_key.new.self.items
    (IsNonDecreasingBy-from_sort (λ (s : Askable). s.number) _ (c.in_ok-sort_by_key.ensures.sorted (λ (s : Askable). s.number) (answers_always _ _ _ (λ f a r g called. search rules))))
    (c.sort_by_key.ensures.stable (λ (s : Askable). s.number) (answers_always _ _ _ (λ f a r g called. search rules))) in
    subst (λ l. IfOk c.with_places.result (λ all. all.items ≡ placed [] l)) (c.as_slice.ensures.value ∙ sorted ∙ ap (in_order (λ (s : Askable). s.number)) c.in_ok-statements.ensures) c.with_places.ensures
