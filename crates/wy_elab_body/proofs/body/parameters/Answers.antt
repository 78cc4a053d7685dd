-- Each parameter is declared, or refused.
use Rattle.std.proofs.lemmas.Result.{err_from_is_err_and}
use Rattle.wy_elab_body.proofs.Walks.{next_parameter, parameter_stops, parameters_end}
use Rattle.wy_elab_body.proofs.body.parameters.Goals as goal

pub returns-in_err-parameter : goal.returns-in_err-parameter
returns-in_err-parameter c = λ w s.
    let p = err_from_is_err_and c.from_residual.result c.from_residual.ensures.1 in
    rw (p.1, p.2) (parameter_stops w c.args.all.now c.loop-p.p-index _ _ _ _ c.loop-p-test.true c.p-item.is (c.in_err-parameter.ensures w s) (c.loop-p.invariant w s))

pub loop-p-preserved : goal.loop-p-preserved
loop-p-preserved c = λ w s. next_parameter w c.args.all.now c.loop-p.p-index _ _ _ _ _ c.loop-p-test.true c.p-item.is (c.in_ok-parameter.ensures w s) (c.loop-p.invariant w s)

pub returns : goal.returns
returns c = λ w s. parameters_end w c.args.all.now c.loop-p.p-index _ _ c.loop-p-test.false (c.loop-p.invariant w s)
