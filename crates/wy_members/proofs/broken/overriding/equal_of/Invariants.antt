use Rattle.wy_kernel.specs.View.{method_of}
use Rattle.wy_overloads.specs.LineageView.{lineage_of}
use Rattle.wy_members.specs.Alike.{IsEqualSought}
use Rattle.wy_members.proofs.Listed.{EachBefore}
use Rattle.wy_members.proofs.broken.overriding.equal_of.Given as goal

abbrev pub invariant-loop-j : goal.invariant-loop-j
invariant-loop-j l = EachBefore (lineage_of l.lineage) l.j-items l.j-index (λ j other. IsEqualSought (lineage_of l.lineage) l.ty l.only_abstract (method_of l.m) other → ⊥)
