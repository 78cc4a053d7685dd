-- A view that gives no event leaves the recorder as it was.
use Rattle.std.proofs.lemmas.Result.{err_from_is_err_and}
use Rattle.wy_migrate.proofs.Handed.{has_none}
use Rattle.wy_migrate.proofs.migrating.hand_on.Goals as goal

pub returns-in_err-event-clause-takes : goal.returns-in_err-event-clause-takes
returns-in_err-event-clause-takes g c = λ rs r is there.
    let h = err_from_is_err_and c.from_residual.result c.from_residual.ensures.1 in
    rw h.1 (has_none (g.R.Recorder.frame r) (g.R.Recorder.mirrors c.args.recorder.now))
