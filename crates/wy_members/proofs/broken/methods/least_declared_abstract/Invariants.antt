use Rattle.wy_members.specs.Least.{IsLeast}
use Rattle.wy_overloads.specs.LineageView.{lineage_of}
use Rattle.wy_members.specs.Within.{DeclaresAt}
use Rattle.wy_members.proofs.Leasts.{Before}
use Rattle.wy_members.proofs.broken.methods.least_declared_abstract.Given as goal

abbrev pub invariant-loop-k : goal.invariant-loop-k
invariant-loop-k l = IsLeast (Before (lineage_of l.judged.lineage.now).methods (DeclaresAt (lineage_of l.judged.lineage.now).classes) l.k) l.least
