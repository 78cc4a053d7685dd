use Rattle.std.proofs.Common.{◌≡◌}
use Rattle.wy_kernel.specs.View.{method_of}
use Rattle.wy_overloads.specs.LineageView.{lineage_of}
use Rattle.wy_members.specs.Alike.{IsMarked}
use Rattle.wy_members.proofs.Listed.{each_listed, in_list}
use Rattle.wy_members.proofs.broken.compared.has_alike.Goals as goal

pub method-requires : goal.method-requires
method-requires c = in_list (lineage_of c.args.lineage.now) c.alike_by_name-j-items.result.now c.loop-j.j-index c.alike_by_name-j-items.ensures.in_range c.loop-j-test.true

pub returns : goal.returns
returns c (j, other, is, q) =
    let t = lineage_of c.args.lineage.now in
    let m = method_of c.args.m.now in
    let l = c.alike_by_name-j-items.ensures in
    absurd (each_listed t c.alike_by_name-j-items.result.now c.loop-j.j-index (λ i x. (i ≡ c.args.k → ⊥) × IsMarked c.args.marks.now x.class → ⊥) c.loop-j-test.false c.loop-j.invariant j other (l.each j other is (q.1, q.3)) is (q.0, q.2))
