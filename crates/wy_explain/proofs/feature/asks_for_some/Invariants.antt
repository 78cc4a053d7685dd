use Rattle.std.proofs.Common.{◌≡◌, drop}
use Rattle.std.specs.List.{list_any}
use Rattle.wy_explain.specs.Rows.{asks}
use Rattle.wy_explain.specs.Views.{words_of}
use Rattle.wy_explain.proofs.feature.asks_for_some.Given as goal

abbrev pub invariant-loop-word : goal.invariant-loop-word
invariant-loop-word l = list_any (asks (words_of l.signs)) (words_of l.words) ≡ list_any (asks (words_of l.signs)) (words_of (drop l.word-index l.words))
