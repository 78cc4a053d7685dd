use Rattle.std.proofs.Common.{◌≤◌, length, arith}
use Rattle.wy_kernel.specs.View.{class_of}
use Rattle.wy_members.specs.Broken.{IsAboveItself}
use Rattle.wy_overloads.specs.LineageView.{lineage_of}
use Rattle.wy_members.specs.Within.{CycleAt}
use Rattle.wy_members.proofs.Leasts.{none_yet, one_more, all_gone, where_it_holds}
use Rattle.wy_members.proofs.broken.cycle.least_cycle.Goals as goal

pub loop-c-init : goal.loop-c-init
loop-c-init c = none_yet (CycleAt (lineage_of c.args.lineage.now).classes) (lineage_of c.args.lineage.now).classes

pub loop-c-preserved : goal.loop-c-preserved
loop-c-preserved c =
    let classes = (lineage_of c.args.lineage.now).classes in
    let row = class_of c.class.result.now in
    one_more (CycleAt classes) classes c.loop-c.c row _ _ _ c.class.ensures c.loop-c.invariant
    (where_it_holds (IsAboveItself classes c.loop-c.c) row.site c.is_above_itself.result _ c.is_above_itself.ensures c.token_where-cycle.ensures) c.lesser-least.ensures

pub returns : goal.returns
returns c =
    let classes = (lineage_of c.args.lineage.now).classes in
    let all : length classes ≤ c.loop-c.c = omega (arith, c.loop-c-test.false, c.classes-c-end.ensures) in
    all_gone (CycleAt classes) classes c.loop-c.c _ all c.loop-c.invariant
