use Rattle.wy_kernel.specs.View.{method_of}
use Rattle.wy_overloads.specs.LineageView.{lineage_of}
use Rattle.wy_members.specs.Alike.{IsEqualSought}
use Rattle.wy_members.proofs.Listed.{each_listed, in_list}
use Rattle.wy_members.proofs.broken.overriding.equal_of.Goals as goal

pub method-other-requires : goal.method-other-requires
method-other-requires c = in_list (lineage_of c.args.lineage.now) c.alike_by_name-j-items.result.now c.loop-j.j-index c.alike_by_name-j-items.ensures.in_range c.loop-j-test.true

pub returns : goal.returns
returns c (k, other, is, (sought, equal)) =
    let t = lineage_of c.args.lineage.now in
    let m = method_of c.args.m.now in
    let l = c.alike_by_name-j-items.ensures in
    each_listed t c.alike_by_name-j-items.result.now c.loop-j.j-index (λ j x. IsEqualSought t c.args.ty.now c.args.only_abstract m x → ⊥) c.loop-j-test.false c.loop-j.invariant k other (l.each k other is (sought.0, (equal.member.named, equal.same))) is (sought, equal)
