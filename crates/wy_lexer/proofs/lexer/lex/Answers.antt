use Rattle.std.proofs.Common.{map, subst, sym}
use Rattle.wy_tree.specs.Tokens.{spanned_token, IsNotUtf8}
use Rattle.wy_lexer.proofs.Exactly.{found_only, failed_only, not_utf8_only}
use Rattle.wy_lexer.proofs.lexer.lex.Goals as goal

pub returns-in-Ok-clause-tokens : goal.returns-in-Ok-clause-tokens
returns-in-Ok-clause-tokens c = λ spans t. found_only (λ v. map spanned_token v.items) c.args.text.now spans c.tokens.result c.tokens.ensures.found c.tokens.ensures.cause t

pub returns-in-Ok-clause-fault : goal.returns-in-Ok-clause-fault
returns-in-Ok-clause-fault c = λ r t. failed_only (λ v. map spanned_token v.items) c.args.text.now r c.tokens.result c.tokens.ensures.found c.tokens.ensures.cause t

pub returns-in-Err-clause-not_utf8 : goal.returns-in-Err-clause-not_utf8
returns-in-Err-clause-not_utf8 c = λ byte t. not_utf8_only c.args.text.now c.valid_up_to.result byte (subst (IsNotUtf8 c.args.text.now) (sym c.valid_up_to.ensures) c.in-Err.ensures.cases) t
