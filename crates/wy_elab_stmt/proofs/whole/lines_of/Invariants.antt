use Rattle.std.proofs.Common.{◌≡◌, take, map}
use Rattle.wy_tree.specs.declared.token.Spanned.{Spanned}
use Rattle.wy_elab_stmt.proofs.whole.lines_of.Given as goal

abbrev pub invariant-loop-token : goal.invariant-loop-token
invariant-loop-token l = l.all.items ≡ map (λ (t : Spanned). t.line) (take l.token-index l.tokens)
