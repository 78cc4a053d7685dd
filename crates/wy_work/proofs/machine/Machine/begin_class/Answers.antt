use Rattle.std.proofs.Common.{ℕ, Err}
use Rattle.std.proofs.lemmas.Result.{err_from_is_err_and}
use Rattle.wy_state.specs.Seen.{made_of}
use Rattle.wy_operation.proofs.Runs.{answers_as}
use Rattle.wy_state.proofs.Onward.{onward_as}
use Rattle.wy_work.specs.Machines.{standing}
use Rattle.wy_work.proofs.Calls.{scope_begins, scope_refused}
use Rattle.wy_work.proofs.Classes.{init_noted}
use Rattle.wy_work.proofs.machine.Machine.begin_class.Goals as goal

pub returns-in_err-event-clause-goes : goal.returns-in_err-event-clause-goes
returns-in_err-event-clause-goes g c p next under =
    let h = err_from_is_err_and c.from_residual-in_err-event.result c.from_residual-in_err-event.ensures.1 in
    let m = standing g.R.Register.keeps g.R.Register.kept c.args.self.now in
    rw (h.1, h.2) (scope_refused p m _ c.in_ok-scope.scope _ next (λ u. under) (c.in_ok-scope.ensures.step p) _ c.in_ok-push.ensures c.in_ok-scope.ensures.calls _ _ _
    (answers_as {X = ℕ} p made_of (Err c.in_err-event.field-0.0) _ _ _ _ (init_noted p c.args.site c.args.class) (c.in_err-event.ensures.step p)) c.in_err-event.ensures.calls)

pub returns-clause-goes : goal.returns-clause-goes
returns-clause-goes g c p next under =
    let m = standing g.R.Register.keeps g.R.Register.kept c.args.self.now in
    scope_begins p m _ c.in_ok-scope.scope _ next (λ u. under) (c.in_ok-scope.ensures.step p) _ c.in_ok-push.ensures c.in_ok-scope.ensures.calls c.in_ok-event.event _ _
    (onward_as (init_noted p c.args.site c.args.class) (c.in_ok-event.ensures.step p)) c.in_ok-event.ensures.calls (c.in_ok-activate.ensures.step p) c.in_ok-activate.ensures.calls
