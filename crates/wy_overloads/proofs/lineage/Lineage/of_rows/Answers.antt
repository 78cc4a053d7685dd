use Rattle.std.proofs.Common.{arith}
use Rattle.wy_overloads.proofs.lineage.Lineage.of_rows.Goals as goal

pub invariant_of-result : goal.invariant_of-result
invariant_of-result c = record {
  has_top = ∣ c.requires.has_top ∣₁;
  keeps_supertypes = ∣ c.requires.keeps_supertypes ∣₁;
  is_index = ∣ c.requires.is_index ∣₁;
  few_classes = omega arith;
  few_methods = omega arith;
}
