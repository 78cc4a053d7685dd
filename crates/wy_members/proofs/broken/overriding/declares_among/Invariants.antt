use Rattle.std.proofs.Common.{◌≡◌}
use Rattle.wy_kernel.specs.Subtyping.{class_type}
use Rattle.wy_kernel.specs.View.{method_of}
use Rattle.wy_overloads.specs.Choice.{IsEquivalent}
use Rattle.wy_overloads.specs.LineageView.{lineage_of}
use Rattle.wy_members.proofs.Listed.{EachBefore}
use Rattle.wy_members.proofs.broken.overriding.declares_among.Given as goal

abbrev pub invariant-loop-j : goal.invariant-loop-j
invariant-loop-j l = EachBefore (lineage_of l.lineage) l.numbers l.j-index (λ j other. IsEquivalent (lineage_of l.lineage).classes (class_type l.c) (method_of l.m) other × (other.class ≡ l.c) → ⊥)
