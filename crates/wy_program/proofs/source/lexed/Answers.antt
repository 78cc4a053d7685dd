use Rattle.wy_program.proofs.Sources.{few_items}
use Rattle.wy_program.proofs.source.lexed.Goals as goal

pub returns-in-Ok-clause-few : goal.returns-in-Ok-clause-few
returns-in-Ok-clause-few c = few_items c.tokens_stand_in_order.ensures _ c.in-Ok.tokens.items c.requires c.in-Ok.ensures.found

pub returns-in-Err-NotUtf8-clause-refused : goal.returns-in-Err-NotUtf8-clause-refused
returns-in-Err-NotUtf8-clause-refused c = rw c.in-Err-NotUtf8.field-0-is at c.in-Err-NotUtf8.ensures.cause

pub returns-in-Err-BadToken-clause-refused : goal.returns-in-Err-BadToken-clause-refused
returns-in-Err-BadToken-clause-refused c = rw c.in-Err-BadToken.field-0-is at c.in-Err-BadToken.ensures.cause

pub returns-in-Err-BadLiteral-clause-refused : goal.returns-in-Err-BadLiteral-clause-refused
returns-in-Err-BadLiteral-clause-refused c = rw c.in-Err-BadLiteral.field-0-is at c.in-Err-BadLiteral.ensures.cause
