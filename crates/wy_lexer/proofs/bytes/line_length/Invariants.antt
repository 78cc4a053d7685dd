use Rattle.std.proofs.Common.{◌≡◌, ◌+◌, drop, not}
use Rattle.std.specs.List.{prefix_len}
use Rattle.wy_tree.specs.Bytes.{is_line_end}
use Rattle.wy_lexer.proofs.bytes.line_length.Given as goal

abbrev pub invariant-loop-i : goal.invariant-loop-i
invariant-loop-i l = prefix_len (λ b. not (is_line_end b)) l.text ≡ l.i + prefix_len (λ b. not (is_line_end b)) (drop l.i l.text)
