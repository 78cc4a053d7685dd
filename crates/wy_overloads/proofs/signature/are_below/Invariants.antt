use Rattle.std.proofs.Common.{ℕ, ◌<◌, get_or}
use Rattle.wy_kernel.specs.declared.types.Ty.TheVariants.{Void}
use Rattle.wy_overloads.specs.LineageView.{lineage_of}
use Rattle.wy_kernel.specs.Subtyping.{Below}
use Rattle.wy_overloads.proofs.signature.are_below.Given as goal

abbrev pub invariant-loop-i : goal.invariant-loop-i
invariant-loop-i l = (k : ℕ) → k < l.i → Below (lineage_of l.lineage).classes (get_or l.lower k Void) (get_or l.upper k Void)
