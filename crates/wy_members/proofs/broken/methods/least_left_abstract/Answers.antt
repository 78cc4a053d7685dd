use Rattle.std.proofs.Common.{◌≡◌, ◌≤◌, false, length, arith}
use Rattle.wy_kernel.specs.View.{class_of}
use Rattle.wy_overloads.specs.LineageView.{lineage_of}
use Rattle.wy_members.specs.Within.{IsJudgedIn, LeavesAbstract, LeavesAt}
use Rattle.wy_members.proofs.Leasts.{none_yet, one_more, all_gone, where_it_holds}
use Rattle.wy_members.proofs.broken.methods.least_left_abstract.Goals as goal

pub loop-c-init : goal.loop-c-init
loop-c-init c = none_yet (LeavesAt (lineage_of c.args.judged.now.lineage.now).classes (lineage_of c.args.compared.now.lineage.now)) (lineage_of c.args.compared.now.lineage.now).classes

pub loop-c-preserved : goal.loop-c-preserved
loop-c-preserved c =
    let x = class_of c.class-class.result.now in
    one_more (LeavesAt (lineage_of c.args.judged.now.lineage.now).classes (lineage_of c.args.compared.now.lineage.now)) (lineage_of c.args.compared.now.lineage.now).classes c.loop-c.c x _ _ _ c.class-class.ensures c.loop-c.invariant
    (where_it_holds (IsJudgedIn (lineage_of c.args.judged.now.lineage.now).classes c.loop-c.c × (x.is_abstract ≡ false) × LeavesAbstract (lineage_of c.args.compared.now.lineage.now) c.loop-c.c) x.site c.is_left_incomplete-wrong.result _ c.is_left_incomplete-wrong.ensures c.token_where.ensures) c.lesser-least.ensures

pub returns : goal.returns
returns c =
    let all : length (lineage_of c.args.compared.now.lineage.now).classes ≤ c.loop-c.c = omega (arith, c.loop-c-test.false, c.classes-c-end.ensures) in
    all_gone (LeavesAt (lineage_of c.args.judged.now.lineage.now).classes (lineage_of c.args.compared.now.lineage.now)) (lineage_of c.args.compared.now.lineage.now).classes c.loop-c.c _ all c.loop-c.invariant
