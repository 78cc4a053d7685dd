-- The event is read, and taken.
use Rattle.wy_event.specs.Record.{recorded}
use Rattle.wy_scope.proofs.Scoping.{goes_on}
use Rattle.wy_scope.proofs.Telling.{frame_below, told_at, within_told}
use Rattle.wy_scope.proofs.scope.step.Goals as goal

pub returns-clause-scope : goal.returns-clause-scope
returns-clause-scope g c = λ rs call is before.
    let now = g.V.EventView.tells c.args.view.now in
    let r = recorded c.in_ok-event.event.now in
    let at = told_at now.records rs c.args.n r is c.in_ok-event.ensures.record in
    goes_on rs call c.args.n c.args.scope.now c.take.new.self r at (within_told rs c.args.n r at) (frame_below c.args.n r c.in_ok-event.ensures.refers) before c.in_ok-take.ensures
