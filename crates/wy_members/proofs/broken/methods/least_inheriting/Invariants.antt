use Rattle.wy_members.specs.Least.{IsLeast}
use Rattle.wy_overloads.specs.LineageView.{lineage_of}
use Rattle.wy_members.specs.Within.{InheritsAt}
use Rattle.wy_members.proofs.Leasts.{Before}
use Rattle.wy_members.proofs.broken.methods.least_inheriting.Given as goal

abbrev pub invariant-loop-c : goal.invariant-loop-c
invariant-loop-c l = IsLeast (Before (lineage_of l.compared.lineage.now).classes (InheritsAt (lineage_of l.judged.lineage.now).classes (lineage_of l.compared.lineage.now)) l.c) l.least
