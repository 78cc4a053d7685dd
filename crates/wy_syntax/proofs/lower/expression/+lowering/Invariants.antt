use Rattle.std.proofs.Common.{◌≡◌, ◌≤◌, ◌+◌, ◌*◌, max, map, length}
use Rattle.wy_tree.specs.Ast.{view, views, deep, deepest}
use Rattle.wy_syntax.specs.Names.{widths}
use Rattle.wy_syntax.specs.Expressions.{sizes, listed, elements, arguments}
use Rattle.wy_syntax.specs.View.{expression_of, element_of, base_seen}
use Rattle.wy_syntax.proofs.Rows.{followed, elements_followed}
use Rattle.wy_syntax.proofs.lower.expression.+lowering.Given as goal

abbrev pub decreases-expression : goal.decreases-expression
decreases-expression l = 8 * deep (view l.tree.now)

abbrev pub decreases-boxed : goal.decreases-boxed
decreases-boxed l = 8 * deep (view l.tree.now) + 1

abbrev pub decreases-production : goal.decreases-production
decreases-production l = 8 * deepest (views l.parts.now) + 7

abbrev pub decreases-assignment : goal.decreases-assignment
decreases-assignment l = 8 * deepest (views l.parts.now) + 6

abbrev pub decreases-choice : goal.decreases-choice
decreases-choice l = 8 * deepest (views l.parts.now) + 6

abbrev pub decreases-binary : goal.decreases-binary
decreases-binary l = 8 * deepest (views l.parts.now) + 6

abbrev pub decreases-unary : goal.decreases-unary
decreases-unary l = 8 * deepest (views l.parts.now) + 6

abbrev pub decreases-cast : goal.decreases-cast
decreases-cast l = 8 * deepest (views l.parts.now) + 6

abbrev pub decreases-postfix : goal.decreases-postfix
decreases-postfix l = 8 * deepest (views l.parts.now) + 6

abbrev pub decreases-primary : goal.decreases-primary
decreases-primary l = 8 * deepest (views l.parts.now) + 6

abbrev pub decreases-creation : goal.decreases-creation
decreases-creation l = 8 * deepest (views l.parts.now) + 6

abbrev pub decreases-three : goal.decreases-three
decreases-three l = 8 * max (deep (view l.front.now)) (deep (view l.middle.now)) + 5

abbrev pub decreases-four : goal.decreases-four
decreases-four l = 8 * max (deep (view l.front.now)) (max (deep (view l.inner.now)) (deep (view l.last.now))) + 5

abbrev pub decreases-array : goal.decreases-array
decreases-array l = 8 * deepest (views l.brackets.now) + 5

abbrev pub decreases-listed : goal.decreases-listed
decreases-listed l = 8 * deepest (views l.parts.now) + 4

abbrev pub decreases-sizes : goal.decreases-sizes
decreases-sizes l = 8 * deepest (views l.parts.now) + 1

abbrev pub decreases-elements : goal.decreases-elements
decreases-elements l = 8 * deepest (views l.parts.now) + 3

abbrev pub decreases-initial : goal.decreases-initial
decreases-initial l = 8 * deep (view l.tree.now) + 2

abbrev pub decreases-inside : goal.decreases-inside
decreases-inside l = 8 * deepest (views l.parts.now) + 4

abbrev pub decreases-arguments_of : goal.decreases-arguments_of
decreases-arguments_of l = 8 * deep (view l.tree.now) + 2

abbrev pub decreases-arguments : goal.decreases-arguments
decreases-arguments l = 8 * deepest (views l.parts.now) + 1

abbrev pub invariant-arguments-loop-left : goal.invariant-arguments-loop-left
invariant-arguments-loop-left l = record {
  row : followed (map expression_of l.found.items) (arguments l.at (views l.left)) ≡ arguments l.initial.at (views l.initial.left);
  within : l.at + widths (views l.left) ≤ l.initial.at + widths (views l.initial.left);
  shallow : deepest (views l.left) ≤ deepest (views l.initial.left);
}

abbrev pub decreases-arguments-loop-left : goal.decreases-arguments-loop-left
decreases-arguments-loop-left l = length l.left

abbrev pub invariant-sizes-loop-left : goal.invariant-sizes-loop-left
invariant-sizes-loop-left l = record {
  row : followed (map expression_of l.found.items) (sizes l.at (views l.left)) ≡ sizes l.initial.at (views l.initial.left);
  within : l.at + widths (views l.left) ≤ l.initial.at + widths (views l.initial.left);
  shallow : deepest (views l.left) ≤ deepest (views l.initial.left);
}

abbrev pub decreases-sizes-loop-left : goal.decreases-sizes-loop-left
decreases-sizes-loop-left l = length l.left

abbrev pub invariant-listed-loop-left : goal.invariant-listed-loop-left
invariant-listed-loop-left l = record {
  rest : listed l.token (base_seen l.base) l.base_token l.brackets l.brace (views l.left) ≡ listed l.token (base_seen l.initial.base) l.base_token l.brackets l.initial.brace (views l.initial.left);
  within : l.brace + widths (views l.left) ≤ l.initial.brace + widths (views l.initial.left);
  shallow : deepest (views l.left) ≤ deepest (views l.initial.left);
}

abbrev pub decreases-listed-loop-left : goal.decreases-listed-loop-left
decreases-listed-loop-left l = length l.left

abbrev pub invariant-elements-loop-left : goal.invariant-elements-loop-left
invariant-elements-loop-left l = record {
  row : elements_followed (map element_of l.found.items) (elements l.before (views l.left)) ≡ elements l.initial.before (views l.initial.left);
  within : l.before + widths (views l.left) ≤ l.initial.before + widths (views l.initial.left);
  shallow : deepest (views l.left) ≤ deepest (views l.initial.left);
}

abbrev pub decreases-elements-loop-left : goal.decreases-elements-loop-left
decreases-elements-loop-left l = length l.left
