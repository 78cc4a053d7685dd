use Rattle.wy_overloads.specs.LineageView.{lineage_of}
use Rattle.wy_members.specs.Alike.{LeavesAlikeAbstract}
use Rattle.wy_members.proofs.Listed.{EachBefore}
use Rattle.wy_members.proofs.broken.overriding.leaves_abstract.Given as goal

abbrev pub invariant-loop-k : goal.invariant-loop-k
invariant-loop-k l = EachBefore (lineage_of l.compared.lineage.now) l.k-items l.k-index (λ k m. LeavesAlikeAbstract (lineage_of l.compared.lineage.now) l.c m → ⊥)
