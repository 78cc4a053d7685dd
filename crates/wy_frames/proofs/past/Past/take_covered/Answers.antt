use Rattle.wy_frames.specs.Pieces.{frame_in}
use Rattle.wy_frames.proofs.Takes.{covered_is_end, covered_is_wrong}
use Rattle.wy_frames.proofs.past.Past.take_covered.Goals as goal

pub returns-then-piece-ne84 : goal.returns-then-piece-ne84
returns-then-piece-ne84 c = λ s h. rw c.damaged.ensures (h.at, covered_is_wrong c.args.steps s c.args.coverage (frame_in c.args.piece) c.if-piece-ne84.true)

pub returns-in-Ok : goal.returns-in-Ok
returns-in-Ok c = λ s h. rw (covered_is_end c.args.steps s c.args.coverage (frame_in c.args.piece) c.if-piece-ne84.false) (c.in-Ok.ensures s h)

pub returns-in-Err : goal.returns-in-Err
returns-in-Err c = λ s h. rw (covered_is_end c.args.steps s c.args.coverage (frame_in c.args.piece) c.if-piece-ne84.false) (c.in-Err.ensures s h)
