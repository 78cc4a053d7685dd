-- The bodies of each class are made, or refused.
use Rattle.std.proofs.lemmas.Result.{err_from_is_err_and}
use Rattle.wy_elab_stmt.proofs.Programs.{next_declaration, declaration_stops, declarations_end}
use Rattle.wy_elab_stmt.proofs.assembly.put_bodies.Goals as goal

pub returns-in_err-next : goal.returns-in_err-next
returns-in_err-next c = λ w s.
    let p = err_from_is_err_and c.from_residual.result c.from_residual.ensures.1 in
    rw (p.1, p.2) (declaration_stops w c.args.unit.now c.loop-declaration.declaration-index _ _ _ _ _ _ c.loop-declaration-test.true c.declaration-item.is (c.in_err-next.ensures w s) (c.loop-declaration.invariant w s))

pub loop-declaration-preserved : goal.loop-declaration-preserved
loop-declaration-preserved c = λ w s. next_declaration w c.args.unit.now c.loop-declaration.declaration-index _ _ _ _ _ _ _ _ c.loop-declaration-test.true c.declaration-item.is (c.in_ok-next.ensures w s) (c.loop-declaration.invariant w s)

pub returns : goal.returns
returns c = λ w s. declarations_end w c.args.unit.now c.loop-declaration.declaration-index _ _ _ _ c.loop-declaration-test.false (c.loop-declaration.invariant w s)
