use Rattle.std.proofs.Common.{◌≡◌, arith, leb, rules}
use Rattle.std.specs.Prelude.{slice_get}
use Rattle.std.proofs.lemmas.Grind.{common_steps}
use Rattle.std.proofs.lemmas.Option.{gets}
use Rattle.std.proofs.lemmas.List.Sorted.{IsPartitionedBy-leb, IsPartitionPoint-from_clause}
use Rattle.wy_explore.proofs.Searching.{climbing, least_found}
use Rattle.wy_explore.proofs.search.least_above.Goals as goal

pub returns : goal.returns
returns c =
    let xs = c.args.events.now in
    let n = c.args.event in
    let place = c.partition_point-place.result in
    let up = climbing 0 c.requires.0 xs c.requires.1 in
    let parts = IsPartitionPoint-from_clause (λ x. leb x n) xs place c.partition_point-place.ensures.partitioned (IsPartitionedBy-leb (λ x. x) xs n up) (λ a r f called. search rules) in
    let read : c.copied.result ≡ slice_get xs place = grind (arith, common_steps, gets) in
    least_found xs n place c.copied.result up parts read
