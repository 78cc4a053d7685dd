use Rattle.std.proofs.Common.{refl}
use Rattle.wy_kernel.specs.View.{method_of}
use Rattle.wy_overloads.specs.LineageView.{lineage_of}
use Rattle.wy_members.specs.Within.{IsCommonResult}
use Rattle.wy_overloads.proofs.Related.{both, not_below, untrue}
use Rattle.wy_members.proofs.Listed.{each_listed, in_list, one_listed}
use Rattle.wy_members.proofs.Alike.{listed}
use Rattle.wy_members.proofs.broken.overriding.has_no_common_result.Goals as goal

pub method-other-requires : goal.method-other-requires
method-other-requires c = in_list (lineage_of c.args.lineage.now) c.alike_by_name-j-items.result.now c.loop-j.j-index c.alike_by_name-j-items.ensures.in_range c.loop-j-test.true

pub loop-j-preserved : goal.loop-j-preserved
loop-j-preserved c =
    let t = lineage_of c.args.lineage.now in
    let m = method_of c.args.m.now in
    one_listed t c.alike_by_name-j-items.result.now c.loop-j.j-index (λ j x. IsCommonResult t c.args.ty.now m j x → ⊥) (method_of c.method-other.result.now) c.method-other.ensures c.loop-j.invariant (λ q. untrue _ c.if-is_common_result.false (c.is_common_result.ensures.1 q))

pub returns-then-is_common_result : goal.returns-then-is_common_result
returns-then-is_common_result c =
    let q = c.is_common_result.ensures.0 c.if-is_common_result.true in
    not_below (λ none. none _ (method_of c.method-other.result.now) (c.method-other.ensures, q.0) q.1 q.2)

pub returns : goal.returns
returns c =
    let t = lineage_of c.args.lineage.now in
    let m = method_of c.args.m.now in
    let contains = listed t c.args.ty.now m c.alike_by_name-j-items.result.now c.alike_by_name-j-items.ensures c.requires.by_name in
    both _ refl (λ k other e counts stands. each_listed t c.alike_by_name-j-items.result.now c.loop-j.j-index (λ j x. IsCommonResult t c.args.ty.now m j x → ⊥) c.loop-j-test.false c.loop-j.invariant k other (contains k other e) e.0 (e.1, counts, stands))
