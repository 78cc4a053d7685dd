use Rattle.std.proofs.Common.{ℕ, List, ◌≤◌, ◌+◌, length, arith, ap, sym, subst}
use Rattle.std.proofs.Common.{Vec, Global}
use Rattle.wy_overloads.specs.LineageView.{lineage_of}
use Rattle.wy_members.proofs.Cycles.{CyclicBelow, none_cyclic, one_cyclic, one_passed, all_cyclic}
use Rattle.wy_overloads.proofs.Related.{untrue}
use Rattle.wy_members.proofs.broken.cycle.cyclic_classes.Goals as goal
use Rattle.wy_members.proofs.broken.cycle.cyclic_classes.Goals.{then-is_above_itself+in_ok-push, else-is_above_itself}

pub loop-c-init : goal.loop-c-init
loop-c-init c = none_cyclic (lineage_of c.args.lineage.now).classes c.new-cyclic.result.items c.new-cyclic.ensures.items

pub loop-c-preserved : goal.loop-c-preserved
loop-c-preserved c =
    let classes = (lineage_of c.args.lineage.now).classes in
    let n = c.loop-c.c in
    let before = c.loop-c.cyclic.items in
    let P : List ℕ → Type 0 = λ xs. CyclicBelow classes (n + 1) xs in
    elim c.if-is_above_itself.branch [
      | then-is_above_itself+in_ok-push w ↦ (let same = ap (λ (v : Vec ℕ Global). v.items) w.cyclic-is in
          subst P (sym same) (one_cyclic classes n before _ c.loop-c.invariant (c.is_above_itself.ensures.0 w.if-is_above_itself.true) w.in_ok-push.ensures.items))
      | else-is_above_itself w ↦ (let same = ap (λ (v : Vec ℕ Global). v.items) w.cyclic-is in
          subst P (sym same) (one_passed classes n before c.loop-c.invariant (λ a. untrue _ w.if-is_above_itself.false (c.is_above_itself.ensures.1 a))))
    ]

pub returns : goal.returns
returns c =
    let classes = (lineage_of c.args.lineage.now).classes in
    let all : length classes ≤ c.loop-c.c = omega (arith, c.loop-c-test.false, c.classes-c-end.ensures) in
    all_cyclic classes c.loop-c.c c.loop-c.cyclic.items all c.loop-c.invariant
