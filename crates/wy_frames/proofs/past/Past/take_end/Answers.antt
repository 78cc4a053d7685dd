use Rattle.std.proofs.Common.{refl, ap}
use Rattle.wy_frames.proofs.Takes.{end_refused, end_stands}
use Rattle.wy_frames.proofs.past.Past.take_end.Goals as goal

pub returns-in-Err : goal.returns-in-Err
returns-in-Err c = λ s h. rw c.damaged.ensures (end_refused c.args.steps c.args.self.now s c.args.coverage c.args.whole.now c.args.payload.now c.in-Err.fault h (rw c.deref.ensures.value at c.in-Err.ensures))

pub returns : goal.returns
returns c = λ s h. end_stands c.args.steps c.args.self.now _ s c.args.coverage c.args.whole.now c.args.payload.now c.in-Ok.tail h (rw c.deref.ensures.value at c.in-Ok.ensures)
    (ap (λ v. v.items) c.in_ok-pass.ensures.known) c.in_ok-pass.ensures.uses c.in_ok-pass.ensures.output refl (record { at = c.in_ok-pass.ensures.at; hashed = c.in_ok-pass.ensures.hashed })
