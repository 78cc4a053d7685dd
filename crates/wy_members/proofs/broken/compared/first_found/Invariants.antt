use Rattle.wy_overloads.specs.LineageView.{lineage_of}
use Rattle.wy_members.specs.Alike.{AreMethods, IsMarked}
use Rattle.wy_members.proofs.Alike.{FoundBefore}
use Rattle.wy_members.proofs.broken.compared.first_found.Given as goal

abbrev pub invariant-loop-k : goal.invariant-loop-k
invariant-loop-k l = record { found : FoundBefore (lineage_of l.lineage) (λ d. IsMarked l.marks d) l.only_abstract l.k l.numbers.items; in_range : AreMethods (lineage_of l.lineage) l.numbers.items }
