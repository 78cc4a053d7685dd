-- What was kept back was written, and the piece behind it.
use Rattle.wy_framing.proofs.Written.{all_written}
use Rattle.wy_framing.proofs.file.put_through.Goals as goal

pub returns-then-write_whole : goal.returns-then-write_whole
returns-then-write_whole g c = all_written _ _ _ _ _ _ c.write_block.ensures.empty c.if-not-write_block.ensures.whole c.if-write_whole.ensures.whole
