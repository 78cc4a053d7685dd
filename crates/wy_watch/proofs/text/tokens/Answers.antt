use Rattle.std.proofs.Common.{sym, arith}
use Rattle.wy_tree.specs.Tokens.{token_limit}
use Rattle.wy_watch.proofs.Texts.{few_tokens}
use Rattle.wy_watch.proofs.text.tokens.Goals as goal

pub returns-in-Ok-clause-tokens : goal.returns-in-Ok-clause-tokens
returns-in-Ok-clause-tokens c = (c.in-Ok.ensures.found, λ spans read. sym (c.in-Ok.ensures.tokens spans read))

pub returns-in-Ok-clause-few : goal.returns-in-Ok-clause-few
returns-in-Ok-clause-few c = few_tokens c.tokens_stand_in_order.ensures c.args.source.now c.in-Ok.tokens.items token_limit c.requires.short c.in-Ok.ensures.found

pub returns-in-Err-BadToken-clause-tokens : goal.returns-in-Err-BadToken-clause-tokens
returns-in-Err-BadToken-clause-tokens c = λ spans read.
    let e = rw c.in-Err-BadToken.field-0-is at c.in-Err-BadToken.ensures.tokens spans read in
    grind (arith, e)

pub returns-in-Err-BadLiteral-clause-tokens : goal.returns-in-Err-BadLiteral-clause-tokens
returns-in-Err-BadLiteral-clause-tokens c = λ spans read.
    let e = rw c.in-Err-BadLiteral.field-0-is at c.in-Err-BadLiteral.ensures.tokens spans read in
    grind (arith, e)
