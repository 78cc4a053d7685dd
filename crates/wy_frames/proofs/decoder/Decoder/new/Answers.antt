use Rattle.std.proofs.Common.{refl}
use Rattle.wy_frames.specs.Progress.{start}
use Rattle.wy_frames.proofs.decoder.Decoder.new.Goals as goal

pub returns : goal.returns
unfolding start
returns c = record { scans = c.behind.ensures; kept = c.new.ensures.items; head_kept = refl }
