use Rattle.wy_members.specs.Least.{IsLeast}
use Rattle.wy_overloads.specs.LineageView.{lineage_of}
use Rattle.wy_members.specs.Within.{CycleAt}
use Rattle.wy_members.proofs.Leasts.{Before}
use Rattle.wy_members.proofs.broken.cycle.least_cycle.Given as goal

abbrev pub invariant-loop-c : goal.invariant-loop-c
invariant-loop-c l = IsLeast (Before (lineage_of l.lineage).classes (CycleAt (lineage_of l.lineage).classes) l.c) l.least
