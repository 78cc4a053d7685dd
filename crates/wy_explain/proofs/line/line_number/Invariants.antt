use Rattle.std.proofs.Common.{◌≡◌, ◌≤◌, ◌+◌, drop}
use Rattle.wy_tree.specs.Bytes.{line_ends_after}
use Rattle.wy_explain.proofs.line.line_number.Given as goal

abbrev pub invariant-loop-byte : goal.invariant-loop-byte
invariant-loop-byte l = record { same : line_ends_after 0 l.before ≡ l.ends + line_ends_after l.last (drop l.byte-index l.before); few : l.ends ≤ l.byte-index }
