-- Each initializer makes statements more, or is refused.
use Rattle.std.proofs.lemmas.Result.{err_from_is_err_and}
use Rattle.wy_kernel.specs.View.{statement}
use Rattle.wy_syntax.specs.View.{declarator_of, type_seen}
use Rattle.wy_elab_stmt.proofs.Appended.{initial_in, goes_on, stops, ends}
use Rattle.wy_elab_stmt.proofs.fields.field_initials.Goals as goal

pub returns-in_err-more : goal.returns-in_err-more
returns-in_err-more c = λ w s.
    let p = err_from_is_err_and c.from_residual.result c.from_residual.ensures.1 in
    rw (p.1, p.2) (stops statement declarator_of (initial_in w c.args.class c.args.is_static (type_seen c.args.ty.now)) _ c.args.all.now c.loop-d.d-index _ _ _ _ c.loop-d-test.true c.d-item.is (c.in_err-more.ensures w s) (c.loop-d.invariant w s))

pub loop-d-preserved : goal.loop-d-preserved
loop-d-preserved c = λ w s.
    goes_on statement declarator_of (initial_in w c.args.class c.args.is_static (type_seen c.args.ty.now)) _ _ _ c.args.all.now c.loop-d.d-index _ _ _ _ c.loop-d-test.true c.d-item.is (c.in_ok-more.ensures w s) c.in_ok-append.ensures.items (c.loop-d.invariant w s)

pub returns : goal.returns
returns c = λ w s. ends statement declarator_of (initial_in w c.args.class c.args.is_static (type_seen c.args.ty.now)) _ c.args.all.now c.loop-d.d-index _ _ c.loop-d-test.false (c.loop-d.invariant w s)
