-- Each expression makes one statement more, or is refused.
use Rattle.std.proofs.lemmas.Result.{err_from_is_err_and}
use Rattle.wy_kernel.specs.View.{statement}
use Rattle.wy_syntax.specs.View.{effect_of}
use Rattle.wy_elab_body.specs.Statements.{effect}
use Rattle.wy_elab_body.proofs.Each.{goes_on_at, stops_at, ends_at}
use Rattle.wy_elab_body.proofs.declare.effects.Goals as goal

pub returns-in_err-statement : goal.returns-in_err-statement
returns-in_err-statement c = λ w s.
    let p = err_from_is_err_and c.from_residual.result c.from_residual.ensures.1 in
    rw (p.1, p.2) (stops_at statement effect_of (effect w) _ c.args.all.now c.loop-e.e-index _ _ _ _ c.loop-e-test.true c.e-item.is (c.in_err-statement.ensures w s) (c.loop-e.invariant w s))

pub loop-e-preserved : goal.loop-e-preserved
loop-e-preserved c = λ w s.
    goes_on_at statement effect_of (effect w) _ _ c.args.all.now c.loop-e.e-index _ _ _ _ _ c.loop-e-test.true c.e-item.is (c.in_ok-statement.ensures w s) c.in_ok-push.ensures.items (c.loop-e.invariant w s)

pub returns : goal.returns
returns c = λ w s. ends_at statement effect_of (effect w) _ c.args.all.now c.loop-e.e-index _ _ c.loop-e-test.false (c.loop-e.invariant w s)
