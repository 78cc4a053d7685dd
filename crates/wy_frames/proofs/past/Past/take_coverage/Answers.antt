use Rattle.std.proofs.Common.{refl, ap}
use Rattle.wy_frames.proofs.Takes.{coverage_refused, coverage_stands}
use Rattle.wy_frames.proofs.past.Past.take_coverage.Goals as goal

pub returns-in-Err : goal.returns-in-Err
returns-in-Err c = λ s h. rw c.damaged.ensures (coverage_refused c.args.ranges.now c.args.self.now s c.args.whole.now c.args.payload.now c.in-Err.fault h (rw c.deref.ensures.value at c.in-Err.ensures))

pub returns : goal.returns
returns c = λ s h. coverage_stands c.args.ranges.now c.args.self.now _ s c.args.whole.now c.args.payload.now c.in-Ok.coverage h (rw c.deref.ensures.value at c.in-Ok.ensures)
    (ap (λ v. v.items) c.in_ok-pass.ensures.known) c.in_ok-pass.ensures.uses c.in_ok-pass.ensures.output refl (record { at = c.in_ok-pass.ensures.at; hashed = c.in_ok-pass.ensures.hashed })
