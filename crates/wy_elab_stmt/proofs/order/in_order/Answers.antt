use Rattle.std.proofs.Common.{◌∙◌, ap, rules}
use Rattle.std.proofs.lemmas.List.Sorted.{answers_always, IsNonDecreasingBy-from_sort}
use Rattle.wy_constant.specs.declared.variable.FixedText.{FixedText}
use Rattle.wy_elab_stmt.specs.Program.{in_order}
use Rattle.wy_elab_stmt.proofs.Sorting.{sorted_texts}
use Rattle.wy_elab_stmt.proofs.order.in_order.Goals as goal

pub returns : goal.returns
returns c =
    c.in_ok-of.ensures
    ∙ sorted_texts c.into_list-list.result.items c.sort_by_key.new.self.items
    (IsNonDecreasingBy-from_sort (λ (x : FixedText). x.token) _ (c.in_ok-sort_by_key.ensures.sorted (λ (x : FixedText). x.token) (answers_always _ _ _ (λ f a r g called. search rules))))
    (c.sort_by_key.ensures.stable (λ (x : FixedText). x.token) (answers_always _ _ _ (λ f a r g called. search rules)))
    ∙ ap in_order c.into_list-list.ensures.texts
