-- The search ends behind the places that stand before the one asked for.
use Rattle.std.proofs.Common.{rules, ◌≡◌, ap, sym, ◌∙◌, nat_lt, ℕ, true, false, subst, List}
use Rattle.std.proofs.lemmas.List.Sorted.{IsPartitionPoint-from_clause, IsPartitionedBy-ltb}
use Rattle.std.specs.List.Sorted.{IsPartitionPoint, IsNonDecreasingBy}
use Rattle.wy_elab_body.specs.Places.{at, key_of, number_at}
use Rattle.wy_elab_body.specs.declared.place.Place.{Place}
use Rattle.wy_elab_body.proofs.Numbering.{number_at_point}
use Rattle.wy_elab_body.proofs.numbers.Numbers.number.Goals as goal

ends : List Place → ℕ → ℕ → Type 0
ends xs i key = IsPartitionPoint (λ q. nat_lt (key_of q) key ≡ true) (λ q. nat_lt (key_of q) key ≡ false) xs i

rises : List Place → Type 0
rises xs = IsNonDecreasingBy key_of xs

pub returns : goal.returns
unfolding ends rises
returns c =
    let xs = c.deref.result.now in
    let key = c.key_of-key.result in
    let i = c.partition_point.result in
    let sorted : rises xs = subst rises (sym c.deref.ensures.value) c.args.self.now.in_order in
    let there : ends xs i key = IsPartitionPoint-from_clause (λ q. nat_lt (key_of q) key) xs i c.partition_point.ensures.partitioned (IsPartitionedBy-ltb key_of xs key sorted) (λ a r f called. (search rules, search rules)) in
    let point : ends xs i (key_of (at c.args.site c.args.role)) = subst (ends xs i) c.key_of-key.ensures there in
    sym (number_at_point c.args.site c.args.role xs i c.partition_point.ensures.bound point) ∙ ap (λ xs. number_at xs (at c.args.site c.args.role)) c.deref.ensures.value
