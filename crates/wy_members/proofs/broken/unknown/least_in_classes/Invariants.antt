use Rattle.std.proofs.Common.{map}
use Rattle.wy_members.specs.Names.{unit_of}
use Rattle.std.proofs.Common.{Bor}
use Rattle.wy_syntax.specs.declared.declaration.ClassSyntax.{ClassSyntax}
use Rattle.wy_syntax.specs.View.{class_of}
use Rattle.wy_members.specs.Within.{UnknownInClass}
use Rattle.wy_members.specs.Least.{IsLeast}
use Rattle.wy_members.proofs.Leasts.{Before}
use Rattle.wy_members.proofs.broken.unknown.least_in_classes.Given as goal

abbrev pub invariant-loop-class : goal.invariant-loop-class
invariant-loop-class l = IsLeast (Before (map (λ (k : Bor ClassSyntax). class_of k.now) l.classes) (λ i k. UnknownInClass (unit_of l.names) k) l.class-index) l.least
