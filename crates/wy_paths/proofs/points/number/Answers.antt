use Rattle.std.proofs.Common.{rules}
use Rattle.std.specs.Ordering.{is_lt}
use Rattle.std.proofs.lemmas.List.Sorted.{IsPartitionPoint-from_clause}
use Rattle.wy_static.specs.declared.point.Point.{Point}
use Rattle.wy_static.specs.Order.{point_cmp}
use Rattle.wy_paths.proofs.Numbering.{number_is, parted}
use Rattle.wy_paths.proofs.points.number.Goals as goal

pub returns : goal.returns
returns c =
    let part = IsPartitionPoint-from_clause (λ (x : Point). is_lt (point_cmp x c.args.point)) _ _ c.partition_point.ensures.partitioned (parted c.args.points.now c.args.point c.requires.in_order) (λ a r q k. search rules) in
    let is = number_is c.args.points.now c.args.point c.partition_point.result c.requires.in_order c.requires.there part in
    record { place = is.0; within = is.1 }
