use Rattle.std.proofs.Common.{◌≡◌}
use Rattle.wy_kernel.specs.Subtyping.{class_type}
use Rattle.wy_kernel.specs.View.{method_of}
use Rattle.wy_overloads.specs.Choice.{IsEquivalent}
use Rattle.wy_overloads.specs.LineageView.{lineage_of}
use Rattle.wy_overloads.proofs.Related.{not_below}
use Rattle.wy_members.proofs.Listed.{each_listed, in_list}
use Rattle.wy_members.proofs.broken.overriding.declares_among.Goals as goal

pub method-other-requires : goal.method-other-requires
method-other-requires c = in_list (lineage_of c.args.lineage.now) c.args.numbers.now c.loop-j.j-index c.requires c.loop-j-test.true

pub returns : goal.returns
returns c =
    let t = lineage_of c.args.lineage.now in
    let m = method_of c.args.m.now in
    not_below (λ (k, other, is, (contains, q)). each_listed t c.args.numbers.now c.loop-j.j-index (λ j x. IsEquivalent t.classes (class_type c.args.c) m x × (x.class ≡ c.args.c) → ⊥) c.loop-j-test.false c.loop-j.invariant k other contains is q)
