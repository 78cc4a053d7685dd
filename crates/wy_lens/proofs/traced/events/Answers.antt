use Rattle.std.proofs.Common.{◌∙◌, sym}
use Rattle.wy_lens.proofs.Replies.{line_told}
use Rattle.wy_lens.proofs.traced.events.Goals as goal

pub returns-in-Some-2 : goal.returns-in-Some-2
returns-in-Some-2 c =
    let there = rw (c.in-Some-2.is) at c.in_ok-text.ensures in
    let named = sym c.number.ensures ∙ c.in-Some-number.is in
    rw (c.in-Some.is, named) (line_told _ c.in-Some-number.line _ c.done-in-Some-2.result there.0 c.done-in-Some-2.ensures.status (c.done-in-Some-2.ensures.text ∙ there.1))
