use Rattle.std.proofs.Common.{◌≡◌, drop}
use Rattle.std.specs.List.{list_any}
use Rattle.std.specs.Str.{bytes_eq}
use Rattle.wy_explain.specs.Views.{words_of}
use Rattle.wy_explain.proofs.feature.has_word.Given as goal

abbrev pub invariant-loop-candidate : goal.invariant-loop-candidate
invariant-loop-candidate l = list_any (λ w. bytes_eq w l.word) (words_of l.words) ≡ list_any (λ w. bytes_eq w l.word) (words_of (drop l.candidate-index l.words))
