use Rattle.std.proofs.Common.{◌≡◌}
use Rattle.wy_overloads.specs.LineageView.{lineage_of}
use Rattle.wy_members.specs.Alike.{IsMarked}
use Rattle.wy_members.proofs.Listed.{EachBefore}
use Rattle.wy_members.proofs.broken.compared.has_alike.Given as goal

abbrev pub invariant-loop-j : goal.invariant-loop-j
invariant-loop-j l = EachBefore (lineage_of l.lineage) l.j-items l.j-index (λ j other. (j ≡ l.k → ⊥) × IsMarked l.marks other.class → ⊥)
