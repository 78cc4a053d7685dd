use Rattle.std.proofs.Common.{◌≡◌}
use Rattle.wy_kernel.specs.View.{method_of}
use Rattle.wy_overloads.specs.Choice.{IsEquivalent}
use Rattle.wy_overloads.specs.LineageView.{lineage_of}
use Rattle.wy_overloads.proofs.Related.{not_below}
use Rattle.wy_members.proofs.Listed.{each_listed, in_list}
use Rattle.wy_members.proofs.Alike.{listed}
use Rattle.wy_members.proofs.broken.overriding.differs_in_form.Goals as goal

pub method-other-requires : goal.method-other-requires
method-other-requires c = in_list (lineage_of c.args.lineage.now) c.alike_by_name-j-items.result.now c.loop-j.j-index c.alike_by_name-j-items.ensures.in_range c.loop-j-test.true

pub returns : goal.returns
returns c =
    let t = lineage_of c.args.lineage.now in
    let m = method_of c.args.m.now in
    let contains = listed t c.args.ty.now m c.alike_by_name-j-items.result.now c.alike_by_name-j-items.ensures c.requires.by_name in
    not_below (λ (k, other, is, q). each_listed t c.alike_by_name-j-items.result.now c.loop-j.j-index (λ j x. IsEquivalent t.classes c.args.ty.now m x × (m.form ≡ x.form → ⊥) → ⊥) c.loop-j-test.false c.loop-j.invariant k other (contains k other (is, q.0)) is q)
