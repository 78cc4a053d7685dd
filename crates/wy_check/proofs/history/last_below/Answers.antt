-- Where events are in order, those below a moment come first.
use Rattle.std.proofs.Common.{◌≡◌, ◌-◌, ℕ, suc, true, false, length, get_or, refl, subst, sym, arith, rules}
use Rattle.std.specs.Prelude.{nat_lt}
use Rattle.std.specs.List.Sorted.{IsPartitionPoint}
use Rattle.std.proofs.lemmas.List.Sorted.{IsPartitionPoint-from_clause, IsPartitionedBy-ltb}
use Rattle.wy_check.proofs.Histories.{last_none, last_some}
use Rattle.wy_check.proofs.history.last_below.Goals as goal

pub returns-then-count-eq0 : goal.returns-then-count-eq0
returns-then-count-eq0 c = λ order.
    let xs = c.args.events.now in
    let m = c.args.moment in
    let point = IsPartitionPoint-from_clause (λ e. nat_lt e m) xs c.partition_point-count.result c.partition_point-count.ensures.partitioned (IsPartitionedBy-ltb (λ n. n) xs m order) (λ a r f' k. search rules) in
    last_none xs m (subst (IsPartitionPoint (λ y. nat_lt y m ≡ true) (λ y. nat_lt y m ≡ false) xs) c.if-count-eq0.true point)

pub returns : goal.returns
returns c = λ order.
    let xs = c.args.events.now in
    let m = c.args.moment in
    let i = c.partition_point-count.result in
    let point = IsPartitionPoint-from_clause (λ e. nat_lt e m) xs i c.partition_point-count.ensures.partitioned (IsPartitionedBy-ltb (λ n. n) xs m order) (λ a r f' k. search rules) in
    let more : i ≡ suc (i - 1) = omega arith in
    last_some xs m (i - 1) (get_or xs (i - 1) 0) order (subst (IsPartitionPoint (λ y. nat_lt y m ≡ true) (λ y. nat_lt y m ≡ false) xs) more point) (omega (arith, c.partition_point-count.ensures.bound)) refl
