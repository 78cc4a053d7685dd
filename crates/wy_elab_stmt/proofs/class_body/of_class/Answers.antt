use Rattle.std.proofs.Common.{ap, sym, ◌∙◌, [], Ok}
use Rattle.std.proofs.lemmas.Result.{err_from_is_err_and}
use Rattle.wy_syntax.specs.View.{class_of}
use Rattle.wy_elab_stmt.proofs.Members.{class_made, class_refused}
use Rattle.wy_elab_stmt.proofs.class_body.of_class.Goals as goal

pub returns-in_err-growth : goal.returns-in_err-growth
returns-in_err-growth c = λ w s.
    let p = err_from_is_err_and c.from_residual-in_err-growth.result c.from_residual-in_err-growth.ensures.1 in
    rw (p.1, p.2) (class_refused w c.args.number (class_of c.args.class.now) _ _ _ _ (c.in_ok-implied.ensures w s) (c.in_err-growth.ensures w s))

pub returns : goal.returns
returns c = λ w s.
    class_made w c.args.number (class_of c.args.class.now) _ c.in_ok-growth.growth _ _ _ (c.in_ok-implied.ensures w s) (c.in_ok-growth.ensures w s)
    ∙ ap (λ z. Ok (z, c.all_members.new.texts)) (sym (c.in_ok-finished.ensures w [] [] s))
