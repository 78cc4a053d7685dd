use Rattle.std.proofs.Common.{arith, refl}
use Rattle.wy_event.specs.Record.{recorded}
use Rattle.wy_telling.proofs.Looks.{told_record, value_up}
use Rattle.wy_telling.proofs.look.facts_at.Goals as goal

pub returns-clause-facts : goal.returns-clause-facts
unfolding recorded
returns-clause-facts g c = λ rs is.
    let e = recorded c.in_ok-event.event.now in
    (e, told_record (g.V.EventView.tells c.args.view.now).records rs c.args.n e is c.in_ok-event.ensures.record, refl, refl, refl, refl)

pub returns-clause-value : goal.returns-clause-value
unfolding recorded
returns-clause-value g c =
    value_up c.args.n (g.V.EventView.tells c.args.view.now).count c.in_ok-event.event.now.value (omega (arith, c.requires.there)) c.in_ok-event.ensures.refers.value
