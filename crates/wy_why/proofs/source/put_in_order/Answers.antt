-- Sorted, and then without repeats.
use Rattle.std.proofs.Common.{sym, subst, rules}
use Rattle.std.specs.Prelude.{Contains}
use Rattle.std.specs.Ordering.{is_lt}
use Rattle.std.specs.List.Sorted.{IsStrictlySortedBy}
use Rattle.std.proofs.lemmas.Fn.{dedup_same}
use Rattle.std.proofs.lemmas.List.Kept.{Contains-dedup, Contains-from_dedup, IsStrictlySortedBy-dedup}
use Rattle.std.proofs.lemmas.List.Sorted.{Contains-permutation, IsPermutation-sym, ranks_by, answers_always}
use Rattle.wy_why.specs.declared.source.Source.{Source}
use Rattle.wy_why.specs.Sources.{source_cmp}
use Rattle.wy_why.proofs.Ordered.{sources_total, source_eq, ties, sources_equal, one_source}
use Rattle.wy_why.proofs.source.put_in_order.Goals as goal

pub returns-clause-rises : goal.returns-clause-rises
returns-clause-rises c =
    let is = dedup_same _ source_eq _ (λ x y b f' x' y' k. search rules) _ _ c.dedup_by.ensures.filtered in
    let sorted = c.sort_unstable_by.ensures.sorted (λ a b. is_lt (source_cmp a b)) (ranks_by sources_total (λ (s : Source). s)) (answers_always _ _ _ (λ f a r g h. search rules)) in
    subst (IsStrictlySortedBy source_cmp) (sym is) (IsStrictlySortedBy-dedup sources_total ties c.sort_unstable_by.new.self.items sorted)

pub returns-clause-keeps : goal.returns-clause-keeps
returns-clause-keeps c = λ s has.
    let is = dedup_same _ source_eq _ (λ x y b f' x' y' k. search rules) _ _ c.dedup_by.ensures.filtered in
    subst (λ l. Contains l s) (sym is) (Contains-dedup sources_equal one_source c.sort_unstable_by.new.self.items s (Contains-permutation _ _ s c.sort_unstable_by.ensures.permutation has))

pub returns-clause-adds_none : goal.returns-clause-adds_none
returns-clause-adds_none c = λ s has.
    let is = dedup_same _ source_eq _ (λ x y b f' x' y' k. search rules) _ _ c.dedup_by.ensures.filtered in
    Contains-permutation _ _ s (IsPermutation-sym _ _ c.sort_unstable_by.ensures.permutation) (Contains-from_dedup source_eq c.sort_unstable_by.new.self.items s (subst (λ l. Contains l s) is has))
