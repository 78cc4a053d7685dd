use Rattle.wy_members.specs.Least.{IsLeast}
use Rattle.wy_overloads.specs.LineageView.{lineage_of}
use Rattle.wy_members.specs.Within.{OverridesAt}
use Rattle.wy_members.proofs.Leasts.{Before}
use Rattle.wy_members.proofs.broken.methods.least_overriding.Given as goal

abbrev pub invariant-loop-k : goal.invariant-loop-k
invariant-loop-k l = IsLeast (Before (lineage_of l.compared.lineage.now).methods (OverridesAt (lineage_of l.judged.lineage.now).classes (lineage_of l.compared.lineage.now)) l.k) l.least
