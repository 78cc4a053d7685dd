use Rattle.std.proofs.Common.{◌≡◌, ◌≤◌, ◌+◌, drop}
use Rattle.wy_tree.specs.Bytes.{line_ends_after}
use Rattle.wy_lexer.proofs.bytes.line_ends.Given as goal

abbrev pub invariant-loop-byte : goal.invariant-loop-byte
invariant-loop-byte l = record { same : line_ends_after 0 l.text ≡ l.lines + line_ends_after l.before (drop l.byte-index l.text); few : l.lines ≤ l.byte-index }
