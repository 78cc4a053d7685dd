use Rattle.std.proofs.Common.{◌≡◌, drop}
use Rattle.std.specs.List.{list_any}
use Rattle.wy_explain.specs.Rows.{stands_for}
use Rattle.wy_explain.specs.Views.{words_of}
use Rattle.wy_explain.proofs.feature.asks.Given as goal

abbrev pub invariant-loop-sign : goal.invariant-loop-sign
invariant-loop-sign l = list_any (λ s. stands_for s l.word) (words_of l.signs) ≡ list_any (λ s. stands_for s l.word) (words_of (drop l.sign-index l.signs))
