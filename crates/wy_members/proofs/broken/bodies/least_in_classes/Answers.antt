use Rattle.std.proofs.Common.{Bor, map}
use Rattle.wy_syntax.specs.declared.declaration.ClassSyntax.{ClassSyntax}
use Rattle.wy_syntax.specs.View.{class_of}
use Rattle.wy_overloads.specs.LineageView.{lineage_of}
use Rattle.wy_members.specs.Within.{WrongBodyAt}
use Rattle.wy_members.proofs.Leasts.{none_yet, more_seen, gone_seen}
use Rattle.wy_members.proofs.broken.bodies.least_in_classes.Goals as goal

pub loop-i-init : goal.loop-i-init
loop-i-init c = none_yet (WrongBodyAt (lineage_of c.args.judged.now.lineage.now).classes) (map (λ (k : Bor ClassSyntax). class_of k.now) c.args.classes.now)

pub loop-i-preserved : goal.loop-i-preserved
loop-i-preserved c =
    more_seen (λ (k : Bor ClassSyntax). class_of k.now) (WrongBodyAt (lineage_of c.args.judged.now.lineage.now).classes) c.args.classes.now c.loop-i.i c.index-classes-i.result _ _ _ c.loop-i-test.true c.index-classes-i.is c.loop-i.invariant c.least_in_class.ensures c.lesser-least.ensures

pub returns : goal.returns
returns c = gone_seen (λ (k : Bor ClassSyntax). class_of k.now) (WrongBodyAt (lineage_of c.args.judged.now.lineage.now).classes) c.args.classes.now c.loop-i.i _ c.loop-i-test.false c.loop-i.invariant
