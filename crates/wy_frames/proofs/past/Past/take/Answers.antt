use Rattle.std.proofs.Common.{refl, sym, ◌∙◌}
use Rattle.wy_frames.specs.Pieces.{frame_in}
use Rattle.wy_frames.specs.Progress.{next_at}
use Rattle.wy_frames.proofs.Takes.{next_when}
use Rattle.wy_frames.proofs.past.Past.take.Goals as goal

pub returns-in-Open : goal.returns-in-Open
unfolding next_at
returns-in-Open c = λ s h. rw (next_when c.args.ranges.now c.args.steps s (frame_in c.args.piece) _ (sym h.stage ∙ sym c.in-Open.ensures.value))
    (c.take_open.ensures s (record { known = h.counts.known; uses = h.counts.uses; output = h.counts.output; at = h.counts.at; hashed = h.counts.hashed }))

pub returns-in-Covered : goal.returns-in-Covered
unfolding next_at
returns-in-Covered c = λ s h. rw (next_when c.args.ranges.now c.args.steps s (frame_in c.args.piece) _ (sym h.stage ∙ sym c.in-Covered.ensures.value))
    (c.take_covered.ensures s (record { known = h.counts.known; uses = h.counts.uses; output = h.counts.output; at = h.counts.at; hashed = h.counts.hashed }))

pub returns-in-Ended : goal.returns-in-Ended
unfolding next_at
returns-in-Ended c = λ s h. rw (next_when c.args.ranges.now c.args.steps s (frame_in c.args.piece) _ (sym h.stage ∙ sym c.in-Ended.ensures.value))
    (c.take_ended.ensures s (record { known = h.counts.known; uses = h.counts.uses; output = h.counts.output; at = h.counts.at; hashed = h.counts.hashed }))

pub returns : goal.returns
unfolding next_at
returns c = λ s h. rw (c.damaged.ensures, next_when c.args.ranges.now c.args.steps s (frame_in c.args.piece) _ (sym h.stage ∙ sym c.in-Sealed.ensures.value)) (h.counts.at, refl)
