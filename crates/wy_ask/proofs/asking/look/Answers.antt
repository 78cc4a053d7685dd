use Rattle.std.proofs.Common.{arith}
use Rattle.wy_event.specs.Record.{recorded}
use Rattle.wy_ask.proofs.Storing.{value_up}
use Rattle.wy_ask.proofs.asking.look.Goals as goal

pub returns-clause-stored : goal.returns-clause-stored
returns-clause-stored g c = λ sets stored. (recorded c.in_ok-event.event.now, c.in_ok-note.ensures.stored sets stored, c.in_ok-event.ensures.record)

pub returns-clause-below : goal.returns-clause-below
unfolding recorded
returns-clause-below g c = λ below.
    c.in_ok-note.ensures.below (g.V.EventView.tells c.args.view.now).count below
    (value_up c.args.n (g.V.EventView.tells c.args.view.now).count c.in_ok-event.event.now.value (omega (arith, c.requires.there)) c.in_ok-event.ensures.refers.value)
