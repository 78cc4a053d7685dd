use Rattle.std.proofs.Common.{◌≡◌, ◌++◌, map, length}
use Rattle.wy_tree.specs.Ast.{views}
use Rattle.wy_syntax.specs.Declarations.{declarations}
use Rattle.wy_syntax.specs.View.{declaration_of}
use Rattle.wy_declaration.proofs.program.declarations.Given as goal

abbrev pub invariant-loop-part : goal.invariant-loop-part
invariant-loop-part l = map declaration_of l.found.items ++ declarations l.left.at (views l.left.trees.now) ≡ declarations l.initial.left.at (views l.initial.left.trees.now)

abbrev pub decreases-loop-part : goal.decreases-loop-part
decreases-loop-part l = length l.left.trees.now
