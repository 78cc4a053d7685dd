use Rattle.wy_frames.specs.Pieces.{frame_in}
use Rattle.wy_frames.proofs.Takes.{open_is_event, open_is_coverage, open_is_wrong}
use Rattle.wy_frames.proofs.past.Past.take_open.Goals as goal

pub returns-in-Ok : goal.returns-in-Ok
returns-in-Ok c = λ s h. rw (open_is_event c.args.ranges.now s (frame_in c.args.piece) c.if-piece-eq69.true) (c.in-Ok.ensures s h)

pub returns-in-Err : goal.returns-in-Err
returns-in-Err c = λ s h. rw (open_is_event c.args.ranges.now s (frame_in c.args.piece) c.if-piece-eq69.true) (c.in-Err.ensures s h)

pub returns-in-Ok-take_coverage : goal.returns-in-Ok-take_coverage
returns-in-Ok-take_coverage c = λ s h. rw (open_is_coverage c.args.ranges.now s (frame_in c.args.piece) c.if-piece-eq69.false c.if-piece-eq67.true) (c.in-Ok-take_coverage.ensures s h)

pub returns-in-Err-take_coverage : goal.returns-in-Err-take_coverage
returns-in-Err-take_coverage c = λ s h. rw (open_is_coverage c.args.ranges.now s (frame_in c.args.piece) c.if-piece-eq69.false c.if-piece-eq67.true) (c.in-Err-take_coverage.ensures s h)

pub returns-else-piece-eq67 : goal.returns-else-piece-eq67
returns-else-piece-eq67 c = λ s h. rw c.damaged.ensures (h.at, open_is_wrong c.args.ranges.now s (frame_in c.args.piece) c.if-piece-eq69.false c.if-piece-eq67.false)
