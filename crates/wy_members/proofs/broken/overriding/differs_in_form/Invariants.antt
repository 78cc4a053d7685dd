use Rattle.std.proofs.Common.{◌≡◌}
use Rattle.wy_kernel.specs.View.{method_of}
use Rattle.wy_overloads.specs.Choice.{IsEquivalent}
use Rattle.wy_overloads.specs.LineageView.{lineage_of}
use Rattle.wy_members.proofs.Listed.{EachBefore}
use Rattle.wy_members.proofs.broken.overriding.differs_in_form.Given as goal

abbrev pub invariant-loop-j : goal.invariant-loop-j
invariant-loop-j l = EachBefore (lineage_of l.lineage) l.j-items l.j-index (λ j other. IsEquivalent (lineage_of l.lineage).classes l.ty (method_of l.m) other × ((method_of l.m).form ≡ other.form → ⊥) → ⊥)
