use Rattle.std.proofs.Common.{rules}
use Rattle.std.specs.Int.{w8, w16}
use Rattle.wy_value.proofs.Wrapping.{narrowed, low_eight, low_sixteen}
use Rattle.wy_value.proofs.conversion.in_type.Goals as goal

pub returns-in-Byte : goal.returns-in-Byte
returns-in-Byte c =
    let kept = narrowed w8 c.args.n _ _ c.cast_signed.ensures (low_eight c.args.n c.ranges.n) in search (rules, kept)

pub returns-in-Short : goal.returns-in-Short
returns-in-Short c =
    let kept = narrowed w16 c.args.n _ _ c.cast_signed-in-Short.ensures (low_sixteen c.args.n c.ranges.n) in search (rules, kept)
