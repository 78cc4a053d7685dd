use Rattle.std.proofs.Common.{◌≡◌, ◌-◌, ltb, arith, rules}
use Rattle.std.specs.Prelude.{slice_get}
use Rattle.std.proofs.lemmas.Grind.{common_steps}
use Rattle.std.proofs.lemmas.Option.{gets}
use Rattle.std.proofs.lemmas.List.Sorted.{IsPartitionedBy-ltb, IsPartitionPoint-from_clause}
use Rattle.wy_explore.proofs.Searching.{climbing, greatest_found, greatest_missed}
use Rattle.wy_explore.proofs.search.greatest_below.Goals as goal

pub returns : goal.returns
returns c =
    let xs = c.args.events.now in
    let n = c.args.event in
    let place = c.partition_point.result in
    let up = climbing 0 c.requires.0 xs c.requires.1 in
    let parts = IsPartitionPoint-from_clause (λ x. ltb x n) xs place c.partition_point.ensures.partitioned (IsPartitionedBy-ltb (λ x. x) xs n up) (λ a r f called. search rules) in
    let (some, last_is) = c.in_ok-last.ensures {u = tt} in
    let read : c.copied.result ≡ slice_get xs (place - 1) = grind (arith, common_steps, gets) in
    greatest_found xs n place c.copied.result up parts c.partition_point.ensures.bound (omega (arith, some)) read

pub returns-in_err-last : goal.returns-in_err-last
returns-in_err-last c =
    let xs = c.args.events.now in
    let n = c.args.event in
    let place = c.partition_point.result in
    let up = climbing 0 c.requires.0 xs c.requires.1 in
    let parts = IsPartitionPoint-from_clause (λ x. ltb x n) xs place c.partition_point.ensures.partitioned (IsPartitionedBy-ltb (λ x. x) xs n up) (λ a r f called. search rules) in
    let least : place ≡ 0 = grind (arith, c.in_err-last.ensures) in
    greatest_missed xs n place c.from_residual.result c.from_residual.ensures parts least
