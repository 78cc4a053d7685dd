use Rattle.std.proofs.Common.{Bor, ◌≡◌, map, take}
use Rattle.wy_syntax.specs.declared.declaration.ClassSyntax.{ClassSyntax}
use Rattle.wy_syntax.specs.View.{class_of, declaration_of}
use Rattle.wy_members.specs.Declarations.{classes_of}
use Rattle.wy_members.proofs.broken.text.classes_in.Given as goal

abbrev pub invariant-loop-declaration : goal.invariant-loop-declaration
invariant-loop-declaration l = map (λ (k : Bor ClassSyntax). class_of k.now) l.classes.items ≡ classes_of (map declaration_of (take l.declaration-index l.unit))
