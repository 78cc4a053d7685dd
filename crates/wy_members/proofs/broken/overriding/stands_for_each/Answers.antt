use Rattle.std.proofs.Common.{refl}
use Rattle.wy_kernel.specs.Subtyping.{Substitutable}
use Rattle.wy_kernel.specs.View.{method_of}
use Rattle.wy_overloads.specs.Choice.{IsEquivalent}
use Rattle.wy_overloads.specs.LineageView.{lineage_of}
use Rattle.wy_overloads.proofs.Related.{both, not_below, untrue}
use Rattle.wy_members.proofs.Listed.{each_listed, in_list, one_listed}
use Rattle.wy_members.proofs.Alike.{listed}
use Rattle.wy_members.proofs.broken.overriding.stands_for_each.Goals as goal

pub method-other-requires : goal.method-other-requires
method-other-requires c = in_list (lineage_of c.args.lineage.now) c.alike_by_name-j-items.result.now c.loop-j.j-index c.alike_by_name-j-items.ensures.in_range c.loop-j-test.true

pub loop-j-preserved : goal.loop-j-preserved
loop-j-preserved c =
    let t = lineage_of c.args.lineage.now in
    let m = method_of c.args.m.now in
    one_listed t c.alike_by_name-j-items.result.now c.loop-j.j-index (λ j x. IsEquivalent t.classes c.args.ty.now m x → Substitutable t.classes m.result x.result) (method_of c.method-other.result.now) c.method-other.ensures c.loop-j.invariant (c.stands_for.ensures.0 c.if-not-stands_for.false)

pub returns-then-not-stands_for : goal.returns-then-not-stands_for
returns-then-not-stands_for c = not_below (λ all. untrue _ c.if-not-stands_for.true (c.stands_for.ensures.1 (λ e. all _ (method_of c.method-other.result.now) (c.method-other.ensures, e))))

pub returns : goal.returns
returns c =
    let t = lineage_of c.args.lineage.now in
    let m = method_of c.args.m.now in
    let contains = listed t c.args.ty.now m c.alike_by_name-j-items.result.now c.alike_by_name-j-items.ensures c.requires.by_name in
    both _ refl (λ k other e. each_listed t c.alike_by_name-j-items.result.now c.loop-j.j-index (λ j x. IsEquivalent t.classes c.args.ty.now m x → Substitutable t.classes m.result x.result) c.loop-j-test.false c.loop-j.invariant k other (contains k other e) e.0 e.1)
