use Rattle.std.proofs.Common.{◌≡◌, subst}
use Rattle.std.specs.Prelude.{IfSome, Some, slice_get}
use Rattle.wy_event.specs.Record.{recorded}
use Rattle.wy_telling.proofs.Called.{called_at}
use Rattle.wy_telling.proofs.scoped.is_call.Goals as goal
use Rattle.wy_telling.proofs.scoped.is_call.Goals.{in-Call, in_default}

pub returns-then-matches-clause-call : goal.returns-then-matches-clause-call
returns-then-matches-clause-call g c = λ rs is.
    let e = c.in_ok-event.event.now in
    let at = subst (λ o. IfSome o (λ t. slice_get t c.args.number ≡ Some (recorded e))) is c.in_ok-event.ensures.record in
    elim c.match-matches.branch [ in-Call w ↦ called_at rs c.args.number e at w.in-Call.is | in_default w ↦ absurd (cc) ]
