use Rattle.std.proofs.Common.{◌≡◌, ◌++◌, map, length}
use Rattle.wy_tree.specs.Ast.{views}
use Rattle.wy_syntax.specs.Declarations.{parameters}
use Rattle.wy_syntax.specs.View.{parameter_of}
use Rattle.wy_declaration.proofs.header.parameter_list.Given as goal

abbrev pub invariant-loop-part : goal.invariant-loop-part
invariant-loop-part l = map parameter_of l.found.items ++ parameters l.left.at (views l.left.trees.now) ≡ parameters l.initial.left.at (views l.initial.left.trees.now)

abbrev pub decreases-loop-part : goal.decreases-loop-part
decreases-loop-part l = length l.left.trees.now
