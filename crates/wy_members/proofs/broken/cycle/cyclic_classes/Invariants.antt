use Rattle.std.proofs.Common.{ℕ, ◌<◌, ◌↔◌}
use Rattle.std.specs.List.{Contains}
use Rattle.wy_members.specs.Broken.{IsAboveItself}
use Rattle.wy_overloads.specs.LineageView.{lineage_of}
use Rattle.wy_members.proofs.broken.cycle.cyclic_classes.Given as goal

abbrev pub invariant-loop-c : goal.invariant-loop-c
invariant-loop-c l = (d : ℕ) → Contains l.cyclic.items d ↔ ((d < l.c) × IsAboveItself (lineage_of l.lineage).classes d)
