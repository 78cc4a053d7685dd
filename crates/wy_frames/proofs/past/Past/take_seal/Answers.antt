use Rattle.std.proofs.Common.{refl, ap, sym, ◌∙◌}
use Rattle.wy_frames.proofs.Takes.{seal_short, seal_wrong, seal_stands}
use Rattle.wy_frames.proofs.past.Past.take_seal.Goals as goal

pub returns-then-payload-ne-SEAL_LENGTH : goal.returns-then-payload-ne-SEAL_LENGTH
returns-then-payload-ne-SEAL_LENGTH c = λ s h. rw c.damaged.ensures (seal_short c.args.self.now s c.args.tail c.args.whole.now c.args.payload.now h c.if-payload-ne-SEAL_LENGTH.true)

pub returns-then-not-is_same : goal.returns-then-not-is_same
returns-then-not-is_same c = λ s h. seal_wrong s c.args.tail c.in_ok-digest.digest c.args.whole.now c.args.payload.now c.if-payload-ne-SEAL_LENGTH.false (c.in_ok-digest.ensures s.before h.hashed) (sym c.is_same.ensures ∙ c.if-not-is_same.true)

pub returns : goal.returns
returns c = λ s h. seal_stands c.args.self.now _ s c.args.tail c.in_ok-digest.digest c.args.whole.now c.args.payload.now h c.if-payload-ne-SEAL_LENGTH.false (c.in_ok-digest.ensures s.before h.hashed) (sym c.is_same.ensures ∙ c.if-not-is_same.false)
    (ap (λ v. v.items) c.in_ok-pass.ensures.known) c.in_ok-pass.ensures.uses c.in_ok-pass.ensures.output refl (record { at = c.in_ok-pass.ensures.at; hashed = c.in_ok-pass.ensures.hashed })
