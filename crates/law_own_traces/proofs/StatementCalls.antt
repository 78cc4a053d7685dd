-- The statements of a tree have their calls at the tokens that the tree has there.
use Rattle.std.proofs.Common.{ℕ, ◌+◌, Bool, true, false, if◌then◌else◌, [], ◌∷◌}
use Rattle.std.specs.Prelude.{Some, None}
use Rattle.wy_tree.specs.Ast.{Ast, Asts, Leaf, Node}
use Rattle.wy_tree.specs.Ast as tree
use Rattle.wy_tree.specs.Conditions.{first_kind}
use Rattle.wy_tree.specs.declared.kind.Kind.{Kind}
use Rattle.wy_tree.specs.declared.kind.Kind.TheVariants as kinds
use Rattle.wy_tree.specs.declared.tree.Form.TheVariants as form
use Rattle.wy_syntax.specs.Syntax.{ForInit, Nothing, Declared, Effects, Statement, Empty, Declare, For, Labelled, Unknown, finally, Catches}
use Rattle.wy_syntax.specs.Names.{width, widths, is_leaf, named, written as written_type}
use Rattle.wy_syntax.specs.Expressions.{expression}
use Rattle.wy_syntax.specs.Statements.{declarators, effects_behind, effects, for_parts, for_init, statement, braces, block, statements, by_word, branch, otherwise, loop_while, loop_do, loop_for, behind_init, for_test, body_behind, other, tried, catches, clause, last_of, thrown, declared}
use Rattle.law_own_traces.proofs.Calls.{Words, Seen, AllSeen, expression_called}
use Rattle.law_own_traces.proofs.Said.{EffectsCalled, InitCalled, CallsIn, BlockCalls, AllCalls, OtherCalls, LastCalls, CatchCalls}

-- ---- effects

further_called : (W : Words) (n : ℕ) (ts : Asts) → AllSeen W n ts → EffectsCalled W (effects_behind n ts)
unfolding effects_behind
further_called W n (tree.more mark (tree.more e rest)) h =
    elim (is_leaf kinds.Comma mark) as (λ b. EffectsCalled W (if b then record { value = expression (n + width mark) e; token = n + width mark } ∷ effects_behind (n + width mark + width e) rest else [])) [
      | true ↦ (expression_called W (n + width mark) e h.1.0, further_called W (n + width mark + width e) rest h.1.1)
      | false ↦ tt
    ]
further_called W n (tree.more mark tree.none) h = tt
further_called W n tree.none h = tt

effects_called : (W : Words) (n : ℕ) (ts : Asts) → AllSeen W n ts → EffectsCalled W (effects n ts)
unfolding effects
effects_called W n (tree.more e rest) h = elim (is_leaf kinds.CloseParen e) as (λ b. EffectsCalled W (if b then [] else record { value = expression n e; token = n } ∷ effects_behind (n + width e) rest)) [
  | true ↦ tt
  | false ↦ (expression_called W n e h.0, further_called W (n + width e) rest h.1)
]
effects_called W n tree.none h = tt

parts_called : (W : Words) (n : ℕ) (ts : Asts) → AllSeen W n ts → InitCalled W (for_parts n ts)
parts_called W n tree.none h = tt
parts_called W n (tree.more x tree.none) h = tt
parts_called W n (tree.more ty (tree.more all tree.none)) h = tt
parts_called W n (tree.more x (tree.more y (tree.more z rest))) h =
    elim (is_leaf kinds.Final x) as (λ b. InitCalled W (if b then Declared true (written_type (n + width x) y) (declarators (n + width x + width y) z) else Effects (effects n (tree.more x (tree.more y (tree.more z rest)))))) [
      | true ↦ tt
      | false ↦ effects_called W n (tree.more x (tree.more y (tree.more z rest))) h
    ]

init_called : (W : Words) (n : ℕ) (t : Ast) → Seen W n t → InitCalled W (for_init n t)
init_called W n (Leaf o) h = (expression_called W n (Leaf o) h, tt)
init_called W n (Node form.ForInit parts) h = parts_called W n parts h.1
init_called W n (Node f parts) h = (expression_called W n (Node f parts) h, tt)

-- ---- statements

either_calls : (W : Words) (b : Bool) (x y : Statement) → CallsIn W x → CallsIn W y → CallsIn W (if b then x else y)
either_calls W true x y h i = h
either_calls W false x y h i = i

mutual
  unfolding statement braces block statements by_word branch otherwise loop_while loop_do loop_for behind_init for_test body_behind other tried catches clause last_of

  pub statement_calls : (W : Words) (n : ℕ) (t : Ast) → Seen W n t → CallsIn W (statement n t)
  statement_calls W n (Leaf o) h = either_calls W (is_leaf kinds.Semicolon (Leaf o)) (Empty n) Unknown tt tt
  statement_calls W n (Node form.Block parts) h = braces_calls W n parts h.1
  statement_calls W n (Node form.Stmt parts) h = by_word_calls W (first_kind parts) n parts h.1
  statement_calls W n (Node f parts) h = tt

  braces_calls : (W : Words) (n : ℕ) (ts : Asts) → AllSeen W n ts → BlockCalls W (braces n ts)
  braces_calls W n (tree.more brace parts) h = statements_calls W (n + width brace) parts h.1
  braces_calls W n tree.none h = tt

  pub block_calls : (W : Words) (n : ℕ) (t : Ast) → Seen W n t → BlockCalls W (block n t)
  block_calls W n (Node f parts) h = braces_calls W n parts h.1
  block_calls W n (Leaf o) h = tt

  statements_calls : (W : Words) (n : ℕ) (ts : Asts) → AllSeen W n ts → AllCalls W (statements n ts)
  statements_calls W n (tree.more s (tree.more t rest)) h = (statement_calls W n s h.0, statements_calls W (n + width s) (tree.more t rest) h.1)
  statements_calls W n (tree.more s tree.none) h = tt
  statements_calls W n tree.none h = tt

  by_word_calls : (W : Words) (k : Kind) (n : ℕ) (ts : Asts) → AllSeen W n ts → CallsIn W (by_word k n ts)
  by_word_calls W kinds.If n (tree.more word parts) h = branch_calls W n (n + width word) parts h.1
  by_word_calls W kinds.While n (tree.more word parts) h = while_calls W n (n + width word) parts h.1
  by_word_calls W kinds.Do n (tree.more word parts) h = do_calls W n (n + width word) parts h.1
  by_word_calls W kinds.For n (tree.more word parts) h = for_calls W n (n + width word) parts h.1
  by_word_calls W kinds.Break n (tree.more word parts) h = tt
  by_word_calls W kinds.Continue n (tree.more word parts) h = tt
  by_word_calls W kinds.Return n (tree.more word parts) h = tt
  by_word_calls W kinds.Throw n (tree.more word parts) h = thrown_calls W n (n + width word) parts
  by_word_calls W kinds.Try n (tree.more word parts) h = tried_calls W n (n + width word) parts h.1
  by_word_calls W kinds.Final n (tree.more word parts) h = declared_calls W true (n + width word) parts
  by_word_calls W _ n (tree.more x parts) h = other_calls W n x parts h.0 h.1
  by_word_calls W _ n tree.none h = tt

  branch_calls : (W : Words) (n m : ℕ) (ts : Asts) → AllSeen W m ts → CallsIn W (branch n m ts)
  branch_calls W n m (tree.more paren (tree.more e (tree.more close (tree.more s rest)))) h =
      (statement_calls W (m + width paren + width e + width close) s h.1.1.1.0, otherwise_calls W (m + width paren + width e + width close + width s) rest h.1.1.1.1)
  branch_calls W n m _ h = tt

  otherwise_calls : (W : Words) (n : ℕ) (ts : Asts) → AllSeen W n ts → OtherCalls W (otherwise n ts)
  otherwise_calls W n (tree.more word (tree.more s tree.none)) h = statement_calls W (n + width word) s h.1.0
  otherwise_calls W n _ h = tt

  while_calls : (W : Words) (n m : ℕ) (ts : Asts) → AllSeen W m ts → CallsIn W (loop_while n m ts)
  while_calls W n m (tree.more paren (tree.more e (tree.more close (tree.more s tree.none)))) h = statement_calls W (m + width paren + width e + width close) s h.1.1.1.0
  while_calls W n m _ h = tt

  do_calls : (W : Words) (n m : ℕ) (ts : Asts) → AllSeen W m ts → CallsIn W (loop_do n m ts)
  do_calls W n m (tree.more s (tree.more word (tree.more paren (tree.more e rest)))) h = statement_calls W m s h.0
  do_calls W n m _ h = tt

  for_calls : (W : Words) (n m : ℕ) (ts : Asts) → AllSeen W m ts → CallsIn W (loop_for n m ts)
  for_calls W n m (tree.more paren (tree.more x rest)) h =
      either_calls W (is_leaf kinds.Semicolon x) (for_test n Nothing (m + width paren + width x) rest) (behind_init n (for_init (m + width paren) x) (m + width paren + width x) rest)
      (for_test_calls W n Nothing (m + width paren + width x) rest tt h.1.1)
      (behind_init_calls W n (for_init (m + width paren) x) (m + width paren + width x) rest (init_called W (m + width paren) x h.1.0) h.1.1)
  for_calls W n m (tree.more paren tree.none) h = tt
  for_calls W n m tree.none h = tt

  behind_init_calls : (W : Words) (n : ℕ) (init : ForInit) (m : ℕ) (ts : Asts) → InitCalled W init → AllSeen W m ts → CallsIn W (behind_init n init m ts)
  behind_init_calls W n init m (tree.more semicolon rest) i h = for_test_calls W n init (m + width semicolon) rest i h.1
  behind_init_calls W n init m tree.none i h = tt

  for_test_calls : (W : Words) (n : ℕ) (init : ForInit) (m : ℕ) (ts : Asts) → InitCalled W init → AllSeen W m ts → CallsIn W (for_test n init m ts)
  for_test_calls W n init m (tree.more x (tree.more y rest)) i h =
      either_calls W (is_leaf kinds.Semicolon x)
      (For init None (effects (m + width x) (tree.more y rest)) (body_behind (m + width x) (tree.more y rest)) n) (For init (Some (expression m x)) (effects (m + width x + width y) rest) (body_behind (m + width x + width y) rest) n)
      (i, effects_called W (m + width x) (tree.more y rest) h.1, body_calls W (m + width x) (tree.more y rest) h.1)
      (i, effects_called W (m + width x + width y) rest h.1.1, body_calls W (m + width x + width y) rest h.1.1)
  for_test_calls W n init m (tree.more x tree.none) i h = tt
  for_test_calls W n init m tree.none i h = tt

  body_calls : (W : Words) (n : ℕ) (ts : Asts) → AllSeen W n ts → CallsIn W (body_behind n ts)
  body_calls W n (tree.more x (tree.more s rest)) h =
      either_calls W (is_leaf kinds.CloseParen x) (statement (n + width x) s) (body_behind (n + width x) (tree.more s rest)) (statement_calls W (n + width x) s h.1.0) (body_calls W (n + width x) (tree.more s rest) h.1)
  body_calls W n (tree.more x tree.none) h = tt
  body_calls W n tree.none h = tt

  other_calls : (W : Words) (n : ℕ) (x : Ast) (ts : Asts) → Seen W n x → AllSeen W (n + width x) ts → CallsIn W (other n x ts)
  other_calls W n x (tree.more semicolon tree.none) s h = expression_called W n x s
  other_calls W n x (tree.more y (tree.more z tree.none)) s h =
      either_calls W (is_leaf kinds.Colon y) (Labelled (named n x) (statement (n + width x + width y) z)) (Declare false (written_type n x) (declarators (n + width x) y))
      (statement_calls W (n + width x + width y) z h.1.0) tt
  other_calls W n x _ s h = tt

  tried_calls : (W : Words) (n m : ℕ) (ts : Asts) → AllSeen W m ts → CallsIn W (tried n m ts)
  tried_calls W n m (tree.more b rest) h = (block_calls W m b h.0, catches_calls W (m + width b) rest h.1, last_calls W (m + width b) rest h.1)
  tried_calls W n m tree.none h = tt

  catches_calls : (W : Words) (n : ℕ) (ts : Asts) → AllSeen W n ts → CatchCalls W (catches n ts)
  catches_calls W n (tree.more (Node f parts) rest) h = clause_calls W n parts (catches (n + widths parts) rest) h.0.1 (catches_calls W (n + widths parts) rest h.1)
  catches_calls W n (tree.more (Leaf o) rest) h = tt
  catches_calls W n tree.none h = tt

  clause_calls : (W : Words) (n : ℕ) (ts : Asts) (others : Catches) → AllSeen W n ts → CatchCalls W others → CatchCalls W (clause n ts others)
  clause_calls W n (tree.more word (tree.more paren (tree.more class (tree.more x (tree.more close (tree.more b tree.none)))))) others h i =
      (block_calls W (n + width word + width paren + width class + width x + width close) b h.1.1.1.1.1.0, i)
  clause_calls W n (tree.more word (tree.more paren (tree.more is_final (tree.more class (tree.more x (tree.more close (tree.more b tree.none))))))) others h i =
      (block_calls W (n + width word + width paren + width is_final + width class + width x + width close) b h.1.1.1.1.1.1.0, i)
  clause_calls W n _ others h i = i

  last_calls : (W : Words) (n : ℕ) (ts : Asts) → AllSeen W n ts → LastCalls W (last_of n ts)
  last_calls W n (tree.more x (tree.more b rest)) h = elim (is_leaf kinds.Finally x) as (λ c. LastCalls W (if c then finally (block (n + width x) b) else last_of (n + width x) (tree.more b rest))) [
    | true ↦ block_calls W (n + width x) b h.1.0
    | false ↦ last_calls W (n + width x) (tree.more b rest) h.1
  ]
  last_calls W n (tree.more x tree.none) h = tt
  last_calls W n tree.none h = tt

  thrown_calls : (W : Words) (n m : ℕ) (ts : Asts) → CallsIn W (thrown n m ts)
  thrown_calls W n m (tree.more e semicolon) = tt
  thrown_calls W n m tree.none = tt

  declared_calls : (W : Words) (is_final : Bool) (n : ℕ) (ts : Asts) → CallsIn W (declared is_final n ts)
  declared_calls W is_final n (tree.more ty (tree.more all semicolon)) = tt
  declared_calls W is_final n (tree.more ty tree.none) = tt
  declared_calls W is_final n tree.none = tt
