use Rattle.std.proofs.Common.{◌≡◌, ◌++◌, map, reverse}
use Rattle.wy_tree.specs.Seen.{seen}
use Rattle.wy_tree.specs.Ast.{view, views_of, tokens, tokens_all, sizes}
use Rattle.wy_tree.proofs.measure.tokens_of.Given as goal

abbrev pub invariant-loop-next : goal.invariant-loop-next
invariant-loop-next l = map seen l.found.items ++ tokens_all (views_of (reverse l.pending.items)) ≡ tokens (view l.tree)

abbrev pub decreases-loop-next : goal.decreases-loop-next
decreases-loop-next l = sizes (views_of (reverse l.pending.items))
