use Rattle.std.proofs.Common.{◌↔◌, ℕ, List, IsTrue, subst, arith, ◌≤◌, length}
use Rattle.wy_kernel.specs.View.{class_of}
use Rattle.wy_overloads.specs.LineageView.{lineage_of}
use Rattle.wy_members.proofs.Cycles.{SomeBelow, above_by_class, above_by_either, not_above_beyond}
use Rattle.wy_overloads.proofs.Related.{both, not_below, untrue}
use Rattle.wy_members.proofs.broken.cycle.is_above_itself.Goals as goal

pub returns-then-c-classes : goal.returns-then-c-classes
returns-then-c-classes c =
    let classes = (lineage_of c.args.lineage.now).classes in
    let past : length classes ≤ c.args.c = omega (arith, c.if-c-classes.true, c.classes.ensures) in
    not_below (not_above_beyond classes c.args.c past)

pub returns-then-is_named_below : goal.returns-then-is_named_below
returns-then-is_named_below c =
    let classes = (lineage_of c.args.lineage.now).classes in
    both _ c.if-is_named_below.true (above_by_class classes c.args.c (class_of c.class-class.result.now) c.class-class.ensures (c.is_named_below.ensures.0 c.if-is_named_below.true))

pub returns-else-is_named_below : goal.returns-else-is_named_below
returns-else-is_named_below c =
    let classes = (lineage_of c.args.lineage.now).classes in
    let exact = subst (λ (ds : List ℕ). IsTrue c.is_any_below.result ↔ SomeBelow classes ds c.args.c) c.deref.ensures.value c.is_any_below.ensures in
    above_by_either classes c.args.c (class_of c.class-class.result.now) _ c.class-class.ensures (λ some. untrue _ c.if-is_named_below.false (c.is_named_below.ensures.1 some)) exact
