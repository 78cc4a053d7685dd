use Rattle.std.proofs.Common.{◌∙◌, sym, arith}
use Rattle.wy_lexer.proofs.Comments.{close_begun, close_found, close_more, close_none}
use Rattle.wy_lexer.proofs.piece.close_at.Goals as goal

pub loop-i-init : goal.loop-i-init
loop-i-init c = close_begun _

pub returns-then-is_close-clause-same : goal.returns-then-is_close-clause-same
returns-then-is_close-clause-same c = close_found _ _ _ (omega arith) (sym c.is_close.ensures ∙ c.if-is_close.true) c.loop-i.invariant

pub loop-i-preserved : goal.loop-i-preserved
loop-i-preserved c = close_more _ _ _ (omega arith) (sym c.is_close.ensures ∙ c.if-is_close.false) c.loop-i.invariant

pub returns-clause-same : goal.returns-clause-same
returns-clause-same c = close_none _ _ _ (omega arith) c.loop-i.invariant
