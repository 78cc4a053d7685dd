-- Each declarator makes one statement more, or is refused.
use Rattle.std.proofs.lemmas.Result.{err_from_is_err_and}
use Rattle.wy_kernel.specs.View.{statement}
use Rattle.wy_syntax.specs.View.{declarator_of}
use Rattle.wy_elab_body.specs.Statements.{declarator}
use Rattle.wy_elab_body.proofs.Each.{goes_on_at, stops_at, ends_at}
use Rattle.wy_elab_body.proofs.declare.declarators.Goals as goal

pub returns-in_err-statement : goal.returns-in_err-statement
returns-in_err-statement c = λ w s.
    let p = err_from_is_err_and c.from_residual.result c.from_residual.ensures.1 in
    rw (p.1, p.2) (stops_at statement declarator_of (declarator w c.args.is_final c.args.ty) _ c.args.all.now c.loop-d.d-index _ _ _ _ c.loop-d-test.true c.d-item.is (c.in_err-statement.ensures w s) (c.loop-d.invariant w s))

pub loop-d-preserved : goal.loop-d-preserved
loop-d-preserved c = λ w s.
    goes_on_at statement declarator_of (declarator w c.args.is_final c.args.ty) _ _ c.args.all.now c.loop-d.d-index _ _ _ _ _ c.loop-d-test.true c.d-item.is (c.in_ok-statement.ensures w s) c.in_ok-push.ensures.items (c.loop-d.invariant w s)

pub returns : goal.returns
returns c = λ w s. ends_at statement declarator_of (declarator w c.args.is_final c.args.ty) _ c.args.all.now c.loop-d.d-index _ _ c.loop-d-test.false (c.loop-d.invariant w s)
