use Rattle.std.proofs.Common.{◌<◌, length}
use Rattle.std.specs.Prelude.{IfSome}
use Rattle.wy_overloads.specs.LineageView.{lineage_of}
use Rattle.wy_overloads.proofs.likely.likely.Given as goal

abbrev pub invariant-loop-i : goal.invariant-loop-i
invariant-loop-i l = IfSome l.best (λ k. k < length (lineage_of l.lineage).methods)
