use Rattle.std.proofs.Common.{map, length}
use Rattle.wy_tree.specs.Tokens.{spanned_token}
use Rattle.wy_lexer.proofs.Readings.{IsReadTo}
use Rattle.wy_lexer.proofs.lexer.tokens.Given as goal

abbrev pub invariant-loop-first : goal.invariant-loop-first
invariant-loop-first l = IsReadTo l.text (map spanned_token l.tokens.items) l.start l.line l.rest

abbrev pub decreases-loop-first : goal.decreases-loop-first
decreases-loop-first l = length l.rest
