use Rattle.std.proofs.Common.{◌≡◌, false, map, drop, string_bytes}
use Rattle.wy_words.specs.Reading.{are_spelled}
use Rattle.wy_words.proofs.words.are_spelled.Given as goal

abbrev pub invariant-loop-word : goal.invariant-loop-word
invariant-loop-word l = are_spelled false (map string_bytes l.words) ≡ are_spelled l.awaits_number (map string_bytes (drop l.word-index l.words))
