use Rattle.std.proofs.Common.{◌≡◌, ◌+◌, drop}
use Rattle.std.specs.List.{position_or_len}
use Rattle.wy_tree.specs.Bytes.{is_line_end}
use Rattle.wy_explain.proofs.line.line_length.Given as goal

abbrev pub invariant-loop-i : goal.invariant-loop-i
invariant-loop-i l = position_or_len is_line_end l.rest ≡ l.i + position_or_len is_line_end (drop l.i l.rest)
