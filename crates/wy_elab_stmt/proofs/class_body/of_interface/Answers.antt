use Rattle.std.proofs.lemmas.Result.{err_from_is_err_and}
use Rattle.wy_syntax.specs.View.{class_of}
use Rattle.wy_elab_stmt.proofs.Members.{interface_made, interface_refused}
use Rattle.wy_elab_stmt.proofs.class_body.of_interface.Goals as goal

pub returns-in_err-growth : goal.returns-in_err-growth
returns-in_err-growth c = λ w s.
    let p = err_from_is_err_and c.from_residual.result c.from_residual.ensures.1 in
    rw (p.1, p.2) (interface_refused w c.args.number (class_of c.args.class.now) _ _ (c.in_err-growth.ensures w s))

pub returns : goal.returns
returns c = λ w s. interface_made w c.args.number (class_of c.args.class.now) c.in_ok-growth.growth _ _ (c.in_ok-growth.ensures w s)
