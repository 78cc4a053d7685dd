use Rattle.wy_kernel.specs.View.{method_of}
use Rattle.wy_overloads.specs.LineageView.{lineage_of}
use Rattle.wy_members.specs.Within.{WrongToOverride}
use Rattle.wy_overloads.proofs.Related.{not_below}
use Rattle.wy_members.proofs.Listed.{each_listed, in_list}
use Rattle.wy_members.proofs.Alike.{elsewhere_by_name}
use Rattle.wy_members.proofs.broken.overriding.overrides_wrongly.Goals as goal

pub method-other-requires : goal.method-other-requires
method-other-requires c = in_list (lineage_of c.args.lineage.now) c.alike_by_name-j-items.result.now c.loop-j.j-index c.alike_by_name-j-items.ensures.in_range c.loop-j-test.true

pub returns : goal.returns
returns c =
    let t = lineage_of c.args.lineage.now in
    let m = method_of c.args.m.now in
    let l = c.alike_by_name-j-items.ensures in
    not_below (λ (k, other, is, wrong). each_listed t c.alike_by_name-j-items.result.now c.loop-j.j-index (λ j x. WrongToOverride t.classes m x → ⊥) c.loop-j-test.false c.loop-j.invariant k other (l.each k other is (elsewhere_by_name t.classes m.class m other wrong.0 wrong.1, (wrong.0.member.named, wrong.0.same))) is wrong)
