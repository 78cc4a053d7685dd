use Rattle.std.proofs.Common.{◌≡◌, drop}
use Rattle.wy_explain.specs.Rows.{stand_so}
use Rattle.wy_explain.specs.Views.{words_of}
use Rattle.wy_explain.proofs.feature.stand_so.Given as goal

abbrev pub invariant-loop-k : goal.invariant-loop-k
invariant-loop-k l = stand_so (words_of l.words) (words_of l.signs) ≡ stand_so (words_of (drop l.k l.words)) (words_of l.signs)
