-- Sorted by the order of postings, which is total.
use Rattle.std.proofs.Common.{arith, rules}
use Rattle.std.specs.Ordering.{is_lt}
use Rattle.std.proofs.lemmas.List.Sorted.{ranks_by, answers_always}
use Rattle.wy_index.specs.declared.posting.Posting.{Posting}
use Rattle.wy_index.specs.Order.{posting_cmp}
use Rattle.wy_index.proofs.Orders.{postings_total}
use Rattle.wy_index.proofs.posting.Postings.new.Goals as goal

pub invariant_of-result : goal.invariant_of-result
invariant_of-result c = (omega (arith, c.sort_unstable_by.ensures.len), c.sort_unstable_by.ensures.sorted (λ a b. is_lt (posting_cmp a b)) (ranks_by postings_total (λ (p : Posting). p)) (answers_always _ _ _ (λ f a r g h. search rules)))

pub returns-clause-in_order : goal.returns-clause-in_order
returns-clause-in_order c = c.sort_unstable_by.ensures.sorted (λ a b. is_lt (posting_cmp a b)) (ranks_by postings_total (λ (p : Posting). p)) (answers_always _ _ _ (λ f a r g h. search rules))
