use Rattle.wy_kernel.specs.View.{method_of}
use Rattle.wy_overloads.specs.LineageView.{lineage_of}
use Rattle.wy_members.specs.Within.{IsCommonResult}
use Rattle.wy_members.proofs.Listed.{EachBefore}
use Rattle.wy_members.proofs.broken.overriding.has_no_common_result.Given as goal

abbrev pub invariant-loop-j : goal.invariant-loop-j
invariant-loop-j l = EachBefore (lineage_of l.lineage) l.j-items l.j-index (λ j other. IsCommonResult (lineage_of l.lineage) l.ty (method_of l.m) j other → ⊥)
