use Rattle.std.proofs.Common.{◌≡◌, ◌+◌, drop}
use Rattle.std.specs.List.{prefix_len}
use Rattle.wy_tree.specs.Bytes.{goes_on_word}
use Rattle.wy_lexer.proofs.bytes.word_length.Given as goal

abbrev pub invariant-loop-i : goal.invariant-loop-i
invariant-loop-i l = prefix_len goes_on_word l.text ≡ l.i + prefix_len goes_on_word (drop l.i l.text)
