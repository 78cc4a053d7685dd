use Rattle.std.proofs.Common.{map}
use Rattle.std.specs.Prelude.{option_map}
use Rattle.std.proofs.lemmas.Result.{err_from_is_err_and}
use Rattle.wy_syntax.specs.View.{class_of, header_of, own_call_of, statement_of, statements_of}
use Rattle.wy_elab_body.specs.Bodies.{constructor_block}
use Rattle.wy_elab_stmt.proofs.Resumed.{made, refuses}
use Rattle.wy_elab_stmt.proofs.class_body.constructor_body.Goals as goal

pub returns-in_err-block : goal.returns-in_err-block
returns-in_err-block c = λ w s.
    let p = err_from_is_err_and c.from_residual-in_err-block.result c.from_residual-in_err-block.ensures.1 in
    rw (p.1, p.2) (refuses _ c.args.end (constructor_block w c.args.number (class_of c.args.class.now) (header_of c.args.header.now) (option_map own_call_of c.args.own_call.now) c.args.brace (statements_of (map statement_of c.args.parts.now))) c.in_ok-making.making c.args.texts.now _ c.in_ok-making.ensures (c.in_err-block.ensures w s))

pub returns : goal.returns
returns c = λ w s.
    made _ c.args.end (constructor_block w c.args.number (class_of c.args.class.now) (header_of c.args.header.now) (option_map own_call_of c.args.own_call.now) c.args.brace (statements_of (map statement_of c.args.parts.now))) c.in_ok-making.making c.args.texts.now _ _ c.in_ok-making.ensures (c.in_ok-block.ensures w s)
