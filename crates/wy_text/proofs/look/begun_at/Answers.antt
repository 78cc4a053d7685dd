use Rattle.std.proofs.Common.{refl}
use Rattle.wy_event.specs.Record.{recorded}
use Rattle.wy_text.proofs.Looks.{told_record}
use Rattle.wy_text.proofs.look.begun_at.Goals as goal

pub returns-clause-entity : goal.returns-clause-entity
unfolding recorded
returns-clause-entity g c = λ rs is.
    let e = recorded c.in_ok-event.event.now in
    (e, told_record (g.V.EventView.tells c.args.view.now).records rs c.args.n e is c.in_ok-event.ensures.record, refl, refl)
