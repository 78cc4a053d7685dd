use Rattle.std.proofs.Common.{◌≡◌, drop, map}
use Rattle.wy_explain.specs.Rows.{feature_in}
use Rattle.wy_explain.specs.Views.{row_of}
use Rattle.wy_explain.proofs.feature.feature_in.Given as goal

abbrev pub invariant-loop-row : goal.invariant-loop-row
invariant-loop-row l = feature_in (map row_of l.rows) l.word ≡ feature_in (map row_of (drop l.row-index l.rows)) l.word
