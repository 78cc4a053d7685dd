use Rattle.std.proofs.Common.{◌∙◌, ap, sym, reverse}
use Rattle.wy_calls.specs.Layout.{newest_of}
use Rattle.wy_calls.proofs.Last.{last_is_first, none_is_last, is_present, nobody_is_absent}
use Rattle.wy_calls.proofs.frame.newest.Goals as goal

pub returns-in-Some : goal.returns-in-Some
returns-in-Some c = is_present c.in-Some.live.now.event c.in-Some.live.now.is_number ∙ ap newest_of (sym (last_is_first c.args.frames.now c.in-Some.live.now (sym c.in-Some.ensures.value)))

pub returns-in-None : goal.returns-in-None
returns-in-None c = nobody_is_absent ∙ ap (λ ls. newest_of (reverse ls)) (sym (none_is_last c.args.frames.now (sym c.in-None.ensures.value)))
