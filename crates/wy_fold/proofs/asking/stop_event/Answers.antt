use Rattle.std.proofs.Common.{arith}
use Rattle.wy_fold.proofs.asking.stop_event.Goals as goal

pub returns-then-event-count : goal.returns-then-event-count
returns-then-event-count c = (c.stop_at-event.ensures, c.if-event-count.true)

pub returns-else-event-count : goal.returns-else-event-count
returns-else-event-count c = λ lt. omega (arith, c.stop_at-event.ensures, lt, c.if-event-count.false)
