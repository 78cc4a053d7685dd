use Rattle.wy_kernel.specs.Subtyping.{Substitutable}
use Rattle.wy_kernel.specs.View.{method_of}
use Rattle.wy_overloads.specs.Choice.{IsEquivalent}
use Rattle.wy_overloads.specs.LineageView.{lineage_of}
use Rattle.wy_members.proofs.Listed.{EachBefore}
use Rattle.wy_members.proofs.broken.overriding.stands_for_each.Given as goal

abbrev pub invariant-loop-j : goal.invariant-loop-j
invariant-loop-j l = EachBefore (lineage_of l.lineage) l.j-items l.j-index (λ j other. IsEquivalent (lineage_of l.lineage).classes l.ty (method_of l.m) other → Substitutable (lineage_of l.lineage).classes (method_of l.m).result other.result)
