use Rattle.std.proofs.Common.{arith, rules}
use Rattle.std.specs.Int.{w32}
use Rattle.wy_value.specs.Number.{distance}
use Rattle.wy_value.proofs.Wrapping.{low_five, shl_by, distance_below}
use Rattle.wy_value.proofs.word.int.shifted.Goals as goal

pub returns-in-Shl : goal.returns-in-Shl
returns-in-Shl c =
    let near = distance_below c.args.by 31 in
    let shifted = shl_by w32 c.args.x _ (distance w32 c.args.by) c.ranges.x (low_five c.args.by c.ranges.by) (omega arith) in
    search (rules, shifted)
