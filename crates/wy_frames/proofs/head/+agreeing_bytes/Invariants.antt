use Rattle.std.proofs.Common.{length}
use Rattle.wy_frames.proofs.head.+agreeing_bytes.Given as goal

abbrev pub decreases-agreeing_bytes : goal.decreases-agreeing_bytes
decreases-agreeing_bytes l = length l.wanted.now
