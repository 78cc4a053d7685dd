use Rattle.std.proofs.Common.{map}
use Rattle.std.proofs.Common.{Bor}
use Rattle.wy_syntax.specs.declared.declaration.ClassSyntax.{ClassSyntax}
use Rattle.wy_syntax.specs.View.{class_of}
use Rattle.wy_members.specs.Within.{RepeatsInClass}
use Rattle.wy_members.proofs.Leasts.{none_yet, more_seen, gone_seen}
use Rattle.wy_members.proofs.broken.duplicate.least_in_classes.Goals as goal

pub loop-class-init : goal.loop-class-init
loop-class-init c = none_yet (λ i k. RepeatsInClass k) (map (λ (k : Bor ClassSyntax). class_of k.now) c.args.classes.now)

pub loop-class-preserved : goal.loop-class-preserved
loop-class-preserved c =
    more_seen (λ (k : Bor ClassSyntax). class_of k.now) (λ i k. RepeatsInClass k) c.args.classes.now c.loop-class.class-index c.class-item.result _ _ _ c.loop-class-test.true c.class-item.is c.loop-class.invariant c.in_ok-in_class.ensures c.lesser-least.ensures

pub returns : goal.returns
returns c = gone_seen (λ (k : Bor ClassSyntax). class_of k.now) (λ i k. RepeatsInClass k) c.args.classes.now c.loop-class.class-index _ c.loop-class-test.false c.loop-class.invariant
