use Rattle.std.proofs.Common.{◌≡◌, map, length}
use Rattle.wy_syntax.specs.Declarations.{statements_in}
use Rattle.wy_syntax.specs.View.{statement_of}
use Rattle.wy_syntax.proofs.Rows.{statements_before}
use Rattle.wy_declaration.specs.Parts.{parts_of}
use Rattle.wy_declaration.proofs.constructor.statements.Given as goal

abbrev pub invariant-loop-part : goal.invariant-loop-part
invariant-loop-part l = statements_before (map statement_of l.found.items) (statements_in (parts_of l.left)) ≡ statements_in (parts_of l.initial.left)

abbrev pub decreases-loop-part : goal.decreases-loop-part
decreases-loop-part l = length l.left.trees.now
