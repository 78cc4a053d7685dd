use Rattle.std.proofs.Common.{◌<◌}
use Rattle.wy_kernel.specs.View.{method_of}
use Rattle.wy_overloads.specs.LineageView.{lineage_of}
use Rattle.wy_table.specs.Methods.{IsAlike}
use Rattle.wy_members.specs.Alike.{IsMarked, IsSought}
use Rattle.wy_overloads.proofs.Related.{not_below, untrue}
use Rattle.wy_members.proofs.Listed.{each_listed, in_list, one_listed}
use Rattle.wy_members.proofs.broken.compared.has_earlier.Goals as goal

pub method-other-requires : goal.method-other-requires
method-other-requires c = in_list (lineage_of c.args.lineage.now) c.alike_by_name-j-items.result.now c.loop-j.j-index c.alike_by_name-j-items.ensures.in_range c.loop-j-test.true

pub loop-j-preserved : goal.loop-j-preserved
loop-j-preserved c =
    let t = lineage_of c.args.lineage.now in
    let m = method_of c.args.m.now in
    one_listed t c.alike_by_name-j-items.result.now c.loop-j.j-index (λ i x. (i < c.args.k) × IsSought c.args.only_abstract x × IsMarked c.args.marks.now x.class × IsAlike m x → ⊥) (method_of c.method-other.result.now) c.method-other.ensures c.loop-j.invariant (λ q. untrue _ c.if-is_earlier.false (c.is_earlier.ensures.1 q))

pub returns : goal.returns
returns c =
    let t = lineage_of c.args.lineage.now in
    let m = method_of c.args.m.now in
    let l = c.alike_by_name-j-items.ensures in
    not_below (λ (j, other, is, q). each_listed t c.alike_by_name-j-items.result.now c.loop-j.j-index (λ i x. (i < c.args.k) × IsSought c.args.only_abstract x × IsMarked c.args.marks.now x.class × IsAlike m x → ⊥) c.loop-j-test.false c.loop-j.invariant j other (l.each j other is (q.1.0, q.3)) is q)
