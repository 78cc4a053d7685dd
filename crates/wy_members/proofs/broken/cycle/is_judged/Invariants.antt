use Rattle.std.proofs.Common.{ℕ, ◌<◌, get_or}
use Rattle.wy_kernel.specs.Subtyping.{Supertype}
use Rattle.wy_overloads.specs.LineageView.{lineage_of}
use Rattle.wy_members.proofs.broken.cycle.is_judged.Given as goal

abbrev pub invariant-loop-d : goal.invariant-loop-d
invariant-loop-d l = (k : ℕ) → k < l.d-index → Supertype (lineage_of l.judged.lineage.now).classes l.c (get_or l.judged.cyclic.now k 0) → ⊥
