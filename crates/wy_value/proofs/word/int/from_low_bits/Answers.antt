use Rattle.std.specs.Int.{w32}
use Rattle.wy_value.proofs.Wrapping.{narrowed, low_thirty_two}
use Rattle.wy_value.proofs.word.int.from_low_bits.Goals as goal

pub returns : goal.returns
returns c = narrowed w32 c.args.n _ _ c.cast_signed.ensures (low_thirty_two c.args.n c.ranges.n)
