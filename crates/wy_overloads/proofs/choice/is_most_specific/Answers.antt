use Rattle.std.proofs.Common.{◌≤◌, List, length, arith, refl, sym, subst}
use Rattle.wy_overloads.specs.Candidates.{numbers_of}
use Rattle.wy_overloads.specs.LineageView.{lineage_of}
use Rattle.wy_overloads.proofs.Listed.{in_range_at, of_all}
use Rattle.wy_kernel.specs.declared.types.Ty.{Ty}
use Rattle.wy_kernel.specs.View.{method_of}
use Rattle.wy_overloads.specs.Choice.{EachBelow}
use Rattle.wy_overloads.proofs.Related.{both, not_below, untrue}
use Rattle.wy_overloads.proofs.choice.is_most_specific.Goals as goal

pub method-other-requires : goal.method-other-requires
method-other-requires c = in_range_at (lineage_of c.args.lineage.now).methods _ (numbers_of c.named-candidates.result) c.loop-i.i c.at.result c.named-candidates.ensures c.at.ensures

pub returns-then-not-are_below : goal.returns-then-not-are_below
returns-then-not-are_below c =
    let classes = (lineage_of c.args.lineage.now).classes in
    let P : List Ty → List Ty → Type 0 = λ xs ys. EachBelow classes xs ys in
    not_below (λ h. (
    let each = h c.at.result (method_of c.method-other.result.now) (c.method-other.ensures, c.applies.ensures.0 c.if-applies.true) in
    let other = c.method-other.result.now.params.items in
    let seen : P c.as_slice.result.now c.as_slice-then-applies.result.now = subst (λ ys. P c.as_slice.result.now ys) (sym c.as_slice-then-applies.ensures.value) (subst (λ xs. P xs other) (sym c.as_slice.ensures.value) each) in
    untrue _ c.if-not-are_below.true (c.are_below.ensures.1 seen)))

pub returns : goal.returns
returns c =
    let all : length (numbers_of c.named-candidates.result) ≤ c.loop-i.i = omega (arith, c.loop-i-test.false, c.len-i-end.ensures) in
    both _ refl (λ j other a. of_all (lineage_of c.args.lineage.now) _ _ (numbers_of c.named-candidates.result) c.loop-i.i c.named-candidates.ensures all c.loop-i.invariant j other a.0 a.1.member a.1)
