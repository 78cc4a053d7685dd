use Rattle.std.proofs.Common.{sym, length}
use Rattle.wy_frames.specs.Pieces.{frame_in}
use Rattle.wy_frames.proofs.Kept.{whole_is_short}
use Rattle.wy_frames.proofs.head.behind.Goals as goal

pub in_frame-requires : goal.in_frame-requires
in_frame-requires c = whole_is_short c.args.bytes.now c.args.rest.now (frame_in c.in-Some.piece) c.requires.whole c.requires.short (sym c.in-Some.ensures)

pub returns-in-Some : goal.returns-in-Some
returns-in-Some c = rw (← c.in-Some.ensures) (c.in_frame.ensures (length c.args.bytes.now))
