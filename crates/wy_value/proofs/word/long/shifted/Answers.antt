use Rattle.std.proofs.Common.{arith, rules}
use Rattle.std.specs.Int.{w64}
use Rattle.wy_value.specs.Number.{distance}
use Rattle.wy_value.proofs.Wrapping.{low_six, shl_by, distance_below}
use Rattle.wy_value.proofs.word.long.shifted.Goals as goal

pub returns-in-Shl : goal.returns-in-Shl
returns-in-Shl c =
    let near = distance_below c.args.by 63 in
    let shifted = shl_by w64 c.args.x _ (distance w64 c.args.by) c.ranges.x (low_six c.args.by c.ranges.by) (omega arith) in
    search (rules, shifted)
