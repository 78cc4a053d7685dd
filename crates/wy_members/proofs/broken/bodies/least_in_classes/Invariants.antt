use Rattle.std.proofs.Common.{Bor, map}
use Rattle.wy_syntax.specs.declared.declaration.ClassSyntax.{ClassSyntax}
use Rattle.wy_syntax.specs.View.{class_of}
use Rattle.wy_members.specs.Least.{IsLeast}
use Rattle.wy_overloads.specs.LineageView.{lineage_of}
use Rattle.wy_members.specs.Within.{WrongBodyAt}
use Rattle.wy_members.proofs.Leasts.{Before}
use Rattle.wy_members.proofs.broken.bodies.least_in_classes.Given as goal

abbrev pub invariant-loop-i : goal.invariant-loop-i
invariant-loop-i l = IsLeast (Before (map (λ (k : Bor ClassSyntax). class_of k.now) l.classes) (WrongBodyAt (lineage_of l.judged.lineage.now).classes) l.i) l.least
