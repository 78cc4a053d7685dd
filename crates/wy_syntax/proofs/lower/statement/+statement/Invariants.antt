use Rattle.std.proofs.Common.{◌≡◌, ◌≤◌, ◌+◌, ◌*◌, max, map, length}
use Rattle.wy_tree.specs.Ast.{view, views, deep, deepest}
use Rattle.wy_syntax.specs.Names.{widths}
use Rattle.wy_syntax.specs.Statements.{statements, body_behind, catches, last_of}
use Rattle.wy_syntax.specs.View.{statement_of, clause_of, clauses_before}
use Rattle.wy_syntax.proofs.Rows.{statements_before}
use Rattle.wy_syntax.proofs.lower.statement.+statement.Given as goal

abbrev pub decreases-statement : goal.decreases-statement
decreases-statement l = 16 * deep (view l.tree.now)

abbrev pub decreases-boxed : goal.decreases-boxed
decreases-boxed l = 16 * deep (view l.tree.now) + 1

abbrev pub decreases-production : goal.decreases-production
decreases-production l = 16 * deepest (views l.parts.now) + 15

abbrev pub decreases-braced : goal.decreases-braced
decreases-braced l = 16 * deepest (views l.parts.now) + 14

abbrev pub decreases-braces : goal.decreases-braces
decreases-braces l = 16 * deepest (views l.parts.now) + 13

abbrev pub decreases-block : goal.decreases-block
decreases-block l = 16 * deep (view l.tree.now) + 1

abbrev pub decreases-statements : goal.decreases-statements
decreases-statements l = 16 * deepest (views l.parts.now) + 12

abbrev pub decreases-by_word : goal.decreases-by_word
decreases-by_word l = 16 * deepest (views l.parts.now) + 14

abbrev pub decreases-by_kind : goal.decreases-by_kind
decreases-by_kind l = 16 * max (deep (view l.word.now)) (deepest (views l.behind.now)) + 13

abbrev pub decreases-branch : goal.decreases-branch
decreases-branch l = 16 * deepest (views l.parts.now) + 12

abbrev pub decreases-otherwise : goal.decreases-otherwise
decreases-otherwise l = 16 * deepest (views l.parts.now) + 11

abbrev pub decreases-loop_while : goal.decreases-loop_while
decreases-loop_while l = 16 * deepest (views l.parts.now) + 12

abbrev pub decreases-loop_do : goal.decreases-loop_do
decreases-loop_do l = 16 * deepest (views l.parts.now) + 12

abbrev pub decreases-loop_for : goal.decreases-loop_for
decreases-loop_for l = 16 * deepest (views l.parts.now) + 12

abbrev pub decreases-for_test : goal.decreases-for_test
decreases-for_test l = 16 * deepest (views l.parts.now) + 11

abbrev pub decreases-body_behind : goal.decreases-body_behind
decreases-body_behind l = 16 * deepest (views l.parts.now) + 9

abbrev pub decreases-other : goal.decreases-other
decreases-other l = 16 * deepest (views l.behind.now) + 12

abbrev pub decreases-two_behind : goal.decreases-two_behind
decreases-two_behind l = 16 * deep (view l.last.now) + 11

abbrev pub decreases-tried : goal.decreases-tried
decreases-tried l = 16 * deepest (views l.parts.now) + 12

abbrev pub decreases-catches : goal.decreases-catches
decreases-catches l = 16 * deepest (views l.parts.now) + 11

abbrev pub decreases-put_clause : goal.decreases-put_clause
decreases-put_clause l = 16 * deepest (views l.parts.now) + 12

abbrev pub decreases-caught : goal.decreases-caught
decreases-caught l = 16 * deep (view l.body.now) + 2

abbrev pub decreases-last_of : goal.decreases-last_of
decreases-last_of l = 16 * deepest (views l.parts.now) + 11

abbrev pub invariant-statements-loop-left : goal.invariant-statements-loop-left
invariant-statements-loop-left l = record {
  row : statements_before (map statement_of l.found.items) (statements l.at (views l.left)) ≡ statements l.initial.at (views l.initial.left);
  within : l.at + widths (views l.left) ≤ l.initial.at + widths (views l.initial.left);
  shallow : deepest (views l.left) ≤ deepest (views l.initial.left);
}

abbrev pub decreases-statements-loop-left : goal.decreases-statements-loop-left
decreases-statements-loop-left l = length l.left

abbrev pub invariant-body_behind-loop-left : goal.invariant-body_behind-loop-left
invariant-body_behind-loop-left l = record {
  rest : body_behind l.at (views l.left) ≡ body_behind l.initial.at (views l.initial.left);
  within : l.at + widths (views l.left) ≤ l.initial.at + widths (views l.initial.left);
  shallow : deepest (views l.left) ≤ deepest (views l.initial.left);
}

abbrev pub decreases-body_behind-loop-left : goal.decreases-body_behind-loop-left
decreases-body_behind-loop-left l = length l.left

abbrev pub invariant-catches-loop-left : goal.invariant-catches-loop-left
invariant-catches-loop-left l = record {
  row : clauses_before (map clause_of l.found.items) (catches l.at (views l.left)) ≡ catches l.initial.at (views l.initial.left);
  within : l.at + widths (views l.left) ≤ l.initial.at + widths (views l.initial.left);
  shallow : deepest (views l.left) ≤ deepest (views l.initial.left);
}

abbrev pub decreases-catches-loop-left : goal.decreases-catches-loop-left
decreases-catches-loop-left l = length l.left

abbrev pub invariant-last_of-loop-left : goal.invariant-last_of-loop-left
invariant-last_of-loop-left l = record {
  rest : last_of l.at (views l.left) ≡ last_of l.initial.at (views l.initial.left);
  within : l.at + widths (views l.left) ≤ l.initial.at + widths (views l.initial.left);
  shallow : deepest (views l.left) ≤ deepest (views l.initial.left);
}

abbrev pub decreases-last_of-loop-left : goal.decreases-last_of-loop-left
decreases-last_of-loop-left l = length l.left
