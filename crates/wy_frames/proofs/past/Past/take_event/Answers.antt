use Rattle.std.proofs.Common.{◌+◌, ◌++◌, ◌∷◌, [], length, ap, ◌∙◌}
use Rattle.wy_frames.proofs.Takes.{event_refused, event_stands}
use Rattle.wy_frames.proofs.past.Past.take_event.Goals as goal

pub returns-in-Err : goal.returns-in-Err
returns-in-Err c = λ s h. rw c.damaged.ensures (event_refused c.args.ranges.now c.args.self.now s c.args.whole.now c.args.payload.now c.in-Err.fault h (rw c.deref.ensures.value at c.in-Err.ensures))

pub returns : goal.returns
returns c = λ s h. event_stands c.args.ranges.now c.args.self.now c.pass.new.self s c.args.whole.now c.args.payload.now c.in-Ok.written h (rw c.deref.ensures.value at c.in-Ok.ensures)
    (ap (λ v. v.items) c.in_ok-pass.ensures.known ∙ c.in_ok-push.ensures.items ∙ ap (λ k. c.args.self.now.known.items ++ k ∷ []) c.in_ok-known.ensures)
    (c.in_ok-pass.ensures.uses ∙ c.in_ok-uses.ensures.sum ∙ ap (λ l. c.args.self.now.uses + length l) c.as_slice.ensures)
    c.in_ok-pass.ensures.output (c.in_ok-pass.ensures.stage ∙ c.requires) (record { at = c.in_ok-pass.ensures.at; hashed = c.in_ok-pass.ensures.hashed })
