use Rattle.std.proofs.Common.{◌^◌}
use lib.Pow.{pow_pos}
use Rattle.wy_value.proofs.Laws.{euclid_above}
use Rattle.wy_value.proofs.law.shift_right_rounds_down.Goals as goal

pub returns-clause-above : goal.returns-clause-above
returns-clause-above c x d = euclid_above x (2 ^ d) (pow_pos d)
