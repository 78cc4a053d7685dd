use Rattle.wy_frames.specs.Pieces.{frame_in}
use Rattle.wy_frames.proofs.Takes.{ended_is_seal, ended_is_wrong}
use Rattle.wy_frames.proofs.past.Past.take_ended.Goals as goal

pub returns-then-piece-ne83 : goal.returns-then-piece-ne83
returns-then-piece-ne83 c = λ s h. rw c.damaged.ensures (h.at, ended_is_wrong s c.args.tail (frame_in c.args.piece) c.if-piece-ne83.true)

pub returns-in-Ok : goal.returns-in-Ok
returns-in-Ok c = λ s h. rw (ended_is_seal s c.args.tail (frame_in c.args.piece) c.if-piece-ne83.false) (c.in-Ok.ensures s h)

pub returns-in-Err : goal.returns-in-Err
returns-in-Err c = λ s h. rw (ended_is_seal s c.args.tail (frame_in c.args.piece) c.if-piece-ne83.false) (c.in-Err.ensures s h)
