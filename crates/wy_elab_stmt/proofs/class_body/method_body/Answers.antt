use Rattle.std.proofs.Common.{ap, ◌∙◌}
use Rattle.std.proofs.lemmas.Result.{err_from_is_err_and}
use Rattle.wy_syntax.specs.View.{block_of, header_of, outcome_of}
use Rattle.wy_elab_body.specs.Bodies.{end_of, method_block}
use Rattle.wy_elab_body.specs.Making.{begun}
use Rattle.wy_elab_stmt.proofs.Resumed.{made, refuses}
use Rattle.wy_elab_stmt.proofs.class_body.method_body.Goals as goal

pub returns-in_err-block : goal.returns-in_err-block
returns-in_err-block c = λ w s.
    let p = err_from_is_err_and c.from_residual-in_err-block.result c.from_residual-in_err-block.ensures.1 in
    let begins = c.in_ok-making.ensures ∙ ap (λ b. begun c.args.number b c.args.header.now.name.token) c.has_this.ensures in
    rw (p.1, p.2) (refuses _ (end_of (block_of c.args.b.now)) (method_block w (header_of c.args.header.now) (outcome_of c.args.outcome.now) (block_of c.args.b.now)) c.in_ok-making.making c.args.texts.now _ begins (c.in_err-block.ensures w s))

pub returns : goal.returns
returns c = λ w s.
    let begins = c.in_ok-making.ensures ∙ ap (λ b. begun c.args.number b c.args.header.now.name.token) c.has_this.ensures in
    rw (← c.end_of.ensures) (made _ _ (method_block w (header_of c.args.header.now) (outcome_of c.args.outcome.now) (block_of c.args.b.now)) c.in_ok-making.making c.args.texts.now _ _ begins (c.in_ok-block.ensures w s))
