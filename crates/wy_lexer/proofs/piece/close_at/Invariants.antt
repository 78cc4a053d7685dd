use Rattle.std.proofs.Common.{◌≡◌, ◌+◌, drop, option_map, ◌∷◌}
use Rattle.wy_tree.specs.Pieces.{close_at}
use Rattle.wy_lexer.proofs.piece.close_at.Given as goal

abbrev pub invariant-loop-i : goal.invariant-loop-i
invariant-loop-i l = option_map (λ n. 1 + n) (close_at l.text) ≡ option_map (λ n. l.i + n) (close_at (l.before ∷ drop l.i l.text))
