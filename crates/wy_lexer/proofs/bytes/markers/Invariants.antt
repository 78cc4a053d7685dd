use Rattle.std.proofs.Common.{◌≡◌, ◌==◌, ◌+◌, drop}
use Rattle.std.specs.List.{prefix_len}
use Rattle.wy_lexer.proofs.bytes.markers.Given as goal

abbrev pub invariant-loop-i : goal.invariant-loop-i
invariant-loop-i l = prefix_len (λ b. b == 117) l.text ≡ l.i + prefix_len (λ b. b == 117) (drop l.i l.text)
