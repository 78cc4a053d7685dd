use Rattle.std.proofs.Common.{ℕ, ◌≤◌, length, arith, refl}
use Rattle.wy_overloads.specs.Candidates.{numbers_of}
use Rattle.wy_overloads.specs.LineageView.{lineage_of}
use Rattle.wy_overloads.proofs.Listed.{in_range_at, of_all, one_more}
use Rattle.wy_kernel.specs.Program.{Method}
use Rattle.wy_kernel.specs.View.{method_of}
use Rattle.wy_overloads.specs.Choice.{IsEquivalent, IsFurther}
use Rattle.wy_overloads.proofs.Related.{both, untrue}
use Rattle.wy_overloads.proofs.counting.is_nearest.Goals.{else-is_equivalent-via-then-is_equivalent+else-not-is_further, else-is_equivalent-via-else-is_equivalent}
use Rattle.wy_overloads.proofs.counting.is_nearest.Goals as goal

pub method-other-requires : goal.method-other-requires
method-other-requires c = in_range_at (lineage_of c.args.lineage.now).methods _ (numbers_of c.alike-candidates.result) c.loop-i.i c.at-j.result c.alike-candidates.ensures c.at-j.ensures

pub loop-i-preserved : goal.loop-i-preserved
loop-i-preserved c =
    let t = lineage_of c.args.lineage.now in
    let P : ℕ → Method → Type 0 = λ i x. IsEquivalent t.classes c.args.ty.now (method_of c.args.m.now) x → IsFurther t.classes c.args.k (method_of c.args.m.now) i x in
    let here : P c.at-j.result (method_of c.method-other.result.now) =
    elim c.else-is_equivalent.branch [
      | else-is_equivalent-via-then-is_equivalent+else-not-is_further w ↦ (λ e. w.is_further.ensures.0 w.if-not-is_further.false)
      | else-is_equivalent-via-else-is_equivalent w ↦ (λ e. absurd (untrue _ w.if-is_equivalent.false (c.is_equivalent.ensures.1 e)))
    ] in
    one_more t (numbers_of c.alike-candidates.result) c.loop-i.i c.at-j.result P (method_of c.method-other.result.now) c.loop-i.invariant c.at-j.ensures c.method-other.ensures here

pub returns : goal.returns
returns c =
    let all : length (numbers_of c.alike-candidates.result) ≤ c.loop-i.i = omega (arith, c.loop-i-test.false, c.len-i-end.ensures) in
    both _ refl (record {
      by_class = c.is_class.ensures.0 c.if-not-is_class.false;
      nearest = λ j other e. of_all (lineage_of c.args.lineage.now) _ _ (numbers_of c.alike-candidates.result) c.loop-i.i c.alike-candidates.ensures all c.loop-i.invariant j other e.0 e.1 e.1;
    })
