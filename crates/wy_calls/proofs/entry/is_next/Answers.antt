use Rattle.std.proofs.Common.{sym}
use Rattle.wy_calls.proofs.Last.{split_at_last}
use Rattle.wy_calls.proofs.Entries.{all_below, is_less}
use Rattle.wy_calls.proofs.entry.is_next.Goals as goal

pub returns-then-newest-event : goal.returns-then-newest-event
returns-then-newest-event c = λ few. (is_less c.args.event 4294967295 few, all_below c.args.entries.now _ c.in-Some.newest.now c.args.event (split_at_last c.args.entries.now c.in-Some.newest.now (sym c.in-Some.ensures.value)) c.requires c.if-newest-event.true)
