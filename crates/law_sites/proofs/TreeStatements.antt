-- The tokens that a statement carries are below each bound that those of its tree are below.
use Rattle.std.proofs.Common.{arith, ℕ, ◌+◌, ◌<◌, ◌≤◌, Bool, true, false, []}
use Rattle.std.specs.Prelude.{◌∷◌, Some, None}
use Rattle.wy_tree.specs.Ast.{Ast, Asts, Leaf, Node}
use Rattle.wy_tree.specs.Ast as tree
use Rattle.wy_tree.specs.Conditions.{first_kind}
use Rattle.wy_tree.specs.declared.kind.Kind.{Kind}
use Rattle.wy_tree.specs.declared.kind.Kind.TheVariants as kinds
use Rattle.wy_tree.specs.declared.tree.Form.TheVariants as form
use Rattle.wy_syntax.specs.Syntax.{ForInit, Nothing, Declared, Effects, Empty, Declare, For, Labelled, Unknown, finally, Catches}
use Rattle.wy_syntax.specs.Names.{width, widths, is_leaf, named, written as written_type}
use Rattle.wy_syntax.specs.Expressions.{expression, initial}
use Rattle.wy_syntax.specs.Statements.{effect, initial_in, declarator, declarator_list, declarators, effects_behind, effects, for_parts, for_init, value, statement, braces, block, statements, by_word, branch, otherwise, loop_while, loop_do, loop_for, behind_init, for_test, body_behind, other, tried, catches, clause, last_of, thrown, declared}
use Rattle.law_structure.proofs.Trees.{Full, AllFull, parts_full, wide}
use Rattle.wy_typing.specs.Sites.{IsToken}
use Rattle.law_sites.proofs.Tokens.{OptionTokens, FirstTokens, DeclaratorTokens, EffectTokens, InitTokens, StatementTokens, BlockTokens, AllTokens, OtherTokens, LastTokens, CatchTokens}
use Rattle.law_sites.proofs.TreeExpressions.{either, expression_tokens, initial_tokens}

-- ---- declarators and effects

first_tokens : (K n : ℕ) (ts : Asts) → AllFull ts → n + widths ts ≤ K → FirstTokens (IsToken K) (initial_in n ts)
unfolding initial_in
first_tokens K n (tree.more x (tree.more v behind)) f less =
    either (FirstTokens (IsToken K)) (is_leaf kinds.Assign x) (Some (initial (n + width x) v)) (initial_in (n + width x) (tree.more v behind))
    (initial_tokens K (n + width x) v f.1.0 (omega arith)) (first_tokens K (n + width x) (tree.more v behind) f.1 (omega arith))
first_tokens K n (tree.more x tree.none) f less = tt
first_tokens K n tree.none f less = tt

declarator_tokens : (K n : ℕ) (t : Ast) → Full t → n + width t ≤ K → IsToken K (declarator n t).name.token × FirstTokens (IsToken K) (declarator n t).initial
unfolding declarator
declarator_tokens K n (Node form.Decl (tree.more x behind)) f less = (omega (arith, wide x f.0), first_tokens K (n + width x) behind f.1 (omega arith))
declarator_tokens K n t f less = (omega (arith, wide t f), tt)

list_tokens : (K n : ℕ) (ts : Asts) → AllFull ts → n + widths ts ≤ K → DeclaratorTokens (IsToken K) (declarator_list n ts)
unfolding declarator_list
list_tokens K n (tree.more d (tree.more comma rest)) f less = (declarator_tokens K n d f.0 (omega arith), list_tokens K (n + width d + width comma) rest f.1.1 (omega arith))
list_tokens K n (tree.more d tree.none) f less = (declarator_tokens K n d f.0 (omega arith), tt)
list_tokens K n tree.none f less = tt

pub declarators_tokens : (K n : ℕ) (t : Ast) → Full t → n + width t ≤ K → DeclaratorTokens (IsToken K) (declarators n t)
unfolding declarators
declarators_tokens K n (Leaf o) f less = (declarator_tokens K n (Leaf o) f less, tt)
declarators_tokens K n (Node form.Decls parts) f less = list_tokens K n parts (parts_full parts f) less
declarators_tokens K n (Node g parts) f less = (declarator_tokens K n (Node g parts) f less, tt)

further_tokens : (K n : ℕ) (ts : Asts) → AllFull ts → n + widths ts ≤ K → EffectTokens (IsToken K) (effects_behind n ts)
unfolding effects_behind
further_tokens K n (tree.more mark (tree.more e rest)) f less =
    either (EffectTokens (IsToken K)) (is_leaf kinds.Comma mark) (effect (n + width mark) e ∷ effects_behind (n + width mark + width e) rest) []
    ((omega (arith, wide e f.1.0), expression_tokens K (n + width mark) e f.1.0 (omega arith)), further_tokens K (n + width mark + width e) rest f.1.1 (omega arith)) tt
further_tokens K n (tree.more mark tree.none) f less = tt
further_tokens K n tree.none f less = tt

effects_tokens : (K n : ℕ) (ts : Asts) → AllFull ts → n + widths ts ≤ K → EffectTokens (IsToken K) (effects n ts)
unfolding effects
effects_tokens K n (tree.more e rest) f less =
    either (EffectTokens (IsToken K)) (is_leaf kinds.CloseParen e) [] (effect n e ∷ effects_behind (n + width e) rest) tt
    ((omega (arith, wide e f.0), expression_tokens K n e f.0 (omega arith)), further_tokens K (n + width e) rest f.1 (omega arith))
effects_tokens K n tree.none f less = tt

-- ---- the head of a `for`

parts_tokens : (K n : ℕ) (ts : Asts) → AllFull ts → n + widths ts ≤ K → InitTokens (IsToken K) (for_parts n ts)
parts_tokens K n tree.none f less = tt
parts_tokens K n (tree.more x tree.none) f less = tt
parts_tokens K n (tree.more ty (tree.more all tree.none)) f less = declarators_tokens K (n + width ty) all f.1.0 (omega arith)
parts_tokens K n (tree.more x (tree.more y (tree.more z rest))) f less =
    either (InitTokens (IsToken K)) (is_leaf kinds.Final x) (Declared true (written_type (n + width x) y) (declarators (n + width x + width y) z)) (Effects (effects n (tree.more x (tree.more y (tree.more z rest)))))
    (declarators_tokens K (n + width x + width y) z f.1.1.0 (omega arith)) (effects_tokens K n (tree.more x (tree.more y (tree.more z rest))) f less)

init_tokens : (K n : ℕ) (t : Ast) → Full t → n + width t ≤ K → InitTokens (IsToken K) (for_init n t)
init_tokens K n (Node form.ForInit parts) f less = parts_tokens K n parts (parts_full parts f) less
init_tokens K n t f less = ((omega (arith, wide t f), expression_tokens K n t f less), tt)

value_tokens : (K n : ℕ) (ts : Asts) → AllFull ts → n + widths ts ≤ K → OptionTokens (IsToken K) (value n ts)
value_tokens K n (tree.more x (tree.more semicolon tree.none)) f less = expression_tokens K n x f.0 (omega arith)
value_tokens K n _ f less = tt

-- ---- statements: n is the number of the first token, and m that of the first part that is given

mutual
  unfolding statement braces block statements by_word branch otherwise loop_while loop_do loop_for behind_init for_test body_behind other tried catches clause last_of

  pub statement_tokens : (K n : ℕ) (t : Ast) → Full t → n + width t ≤ K → StatementTokens (IsToken K) (statement n t)
  statement_tokens K n (Leaf o) f less = either (StatementTokens (IsToken K)) (is_leaf kinds.Semicolon (Leaf o)) (Empty n) Unknown (omega arith) tt
  statement_tokens K n (Node form.Block parts) f less = braces_tokens K n parts (omega (arith, wide (Node form.Block parts) f)) (parts_full parts f) less
  statement_tokens K n (Node form.Stmt parts) f less = by_word_tokens K (first_kind parts) n parts (parts_full parts f) less
  statement_tokens K n (Node g parts) f less = tt

  braces_tokens : (K n : ℕ) (ts : Asts) → n < K → AllFull ts → n + widths ts ≤ K → BlockTokens (IsToken K) (braces n ts)
  braces_tokens K n (tree.more brace parts) here f less = (here, statements_tokens K (n + width brace) parts f.1 (omega arith), omega (arith, wide brace f.0))
  braces_tokens K n tree.none here f less = (here, tt, here)

  pub block_tokens : (K n : ℕ) (t : Ast) → Full t → n + width t ≤ K → BlockTokens (IsToken K) (block n t)
  block_tokens K n (Node g parts) f less = braces_tokens K n parts (omega (arith, wide (Node g parts) f)) (parts_full parts f) less
  block_tokens K n (Leaf o) f less = (omega arith, tt, omega arith)

  statements_tokens : (K n : ℕ) (ts : Asts) → AllFull ts → n + widths ts ≤ K → AllTokens (IsToken K) (statements n ts)
  statements_tokens K n (tree.more s (tree.more t rest)) f less = (statement_tokens K n s f.0 (omega arith), statements_tokens K (n + width s) (tree.more t rest) f.1 (omega arith))
  statements_tokens K n (tree.more s tree.none) f less = tt
  statements_tokens K n tree.none f less = tt

  by_word_tokens : (K : ℕ) (k : Kind) (n : ℕ) (ts : Asts) → AllFull ts → n + widths ts ≤ K → StatementTokens (IsToken K) (by_word k n ts)
  by_word_tokens K kinds.If n (tree.more word parts) f less = branch_tokens K n (n + width word) parts (omega (arith, wide word f.0)) f.1 (omega arith)
  by_word_tokens K kinds.While n (tree.more word parts) f less = while_tokens K n (n + width word) parts (omega (arith, wide word f.0)) f.1 (omega arith)
  by_word_tokens K kinds.Do n (tree.more word parts) f less = do_tokens K n (n + width word) parts (omega (arith, wide word f.0)) f.1 (omega arith)
  by_word_tokens K kinds.For n (tree.more word parts) f less = for_tokens K n (n + width word) parts (omega (arith, wide word f.0)) f.1 (omega arith)
  by_word_tokens K kinds.Break n (tree.more word parts) f less = omega (arith, wide word f.0)
  by_word_tokens K kinds.Continue n (tree.more word parts) f less = omega (arith, wide word f.0)
  by_word_tokens K kinds.Return n (tree.more word parts) f less = (omega (arith, wide word f.0), value_tokens K (n + width word) parts f.1 (omega arith))
  by_word_tokens K kinds.Throw n (tree.more word parts) f less = thrown_tokens K n (n + width word) parts (omega (arith, wide word f.0)) f.1 (omega arith)
  by_word_tokens K kinds.Try n (tree.more word parts) f less = tried_tokens K n (n + width word) parts (omega (arith, wide word f.0)) f.1 (omega arith)
  by_word_tokens K kinds.Final n (tree.more word parts) f less = declared_tokens K true (n + width word) parts f.1 (omega arith)
  by_word_tokens K _ n (tree.more x parts) f less = other_tokens K n x parts f.0 f.1 less
  by_word_tokens K _ n tree.none f less = tt

  branch_tokens : (K n m : ℕ) (ts : Asts) → n < K → AllFull ts → m + widths ts ≤ K → StatementTokens (IsToken K) (branch n m ts)
  branch_tokens K n m (tree.more paren (tree.more e (tree.more close (tree.more s rest)))) here f less =
      let p = m + width paren + width e + width close in
      (here, expression_tokens K (m + width paren) e f.1.0 (omega arith), statement_tokens K p s f.1.1.1.0 (omega arith), otherwise_tokens K (p + width s) rest f.1.1.1.1 (omega arith))
  branch_tokens K n m _ here f less = tt

  otherwise_tokens : (K n : ℕ) (ts : Asts) → AllFull ts → n + widths ts ≤ K → OtherTokens (IsToken K) (otherwise n ts)
  otherwise_tokens K n (tree.more word (tree.more s tree.none)) f less = statement_tokens K (n + width word) s f.1.0 (omega arith)
  otherwise_tokens K n _ f less = tt

  while_tokens : (K n m : ℕ) (ts : Asts) → n < K → AllFull ts → m + widths ts ≤ K → StatementTokens (IsToken K) (loop_while n m ts)
  while_tokens K n m (tree.more paren (tree.more e (tree.more close (tree.more s tree.none)))) here f less =
      (here, expression_tokens K (m + width paren) e f.1.0 (omega arith), statement_tokens K (m + width paren + width e + width close) s f.1.1.1.0 (omega arith))
  while_tokens K n m _ here f less = tt

  do_tokens : (K n m : ℕ) (ts : Asts) → n < K → AllFull ts → m + widths ts ≤ K → StatementTokens (IsToken K) (loop_do n m ts)
  do_tokens K n m (tree.more s (tree.more word (tree.more paren (tree.more e rest)))) here f less =
      (here, statement_tokens K m s f.0 (omega arith), expression_tokens K (m + width s + width word + width paren) e f.1.1.1.0 (omega arith))
  do_tokens K n m _ here f less = tt

  for_tokens : (K n m : ℕ) (ts : Asts) → n < K → AllFull ts → m + widths ts ≤ K → StatementTokens (IsToken K) (loop_for n m ts)
  for_tokens K n m (tree.more paren (tree.more x rest)) here f less =
      let p = m + width paren + width x in
      either (StatementTokens (IsToken K)) (is_leaf kinds.Semicolon x) (for_test n Nothing p rest) (behind_init n (for_init (m + width paren) x) p rest)
      (for_test_tokens K n Nothing p rest here tt f.1.1 (omega arith))
      (behind_init_tokens K n (for_init (m + width paren) x) p rest here (init_tokens K (m + width paren) x f.1.0 (omega arith)) f.1.1 (omega arith))
  for_tokens K n m (tree.more paren tree.none) here f less = tt
  for_tokens K n m tree.none here f less = tt

  behind_init_tokens : (K n : ℕ) (init : ForInit) (m : ℕ) (ts : Asts) → n < K → InitTokens (IsToken K) init → AllFull ts → m + widths ts ≤ K → StatementTokens (IsToken K) (behind_init n init m ts)
  behind_init_tokens K n init m (tree.more semicolon rest) here i f less = for_test_tokens K n init (m + width semicolon) rest here i f.1 (omega arith)
  behind_init_tokens K n init m tree.none here i f less = tt

  for_test_tokens : (K n : ℕ) (init : ForInit) (m : ℕ) (ts : Asts) → n < K → InitTokens (IsToken K) init → AllFull ts → m + widths ts ≤ K → StatementTokens (IsToken K) (for_test n init m ts)
  for_test_tokens K n init m (tree.more x (tree.more y rest)) here i f less =
      let p = m + width x in
      let q = m + width x + width y in
      either (StatementTokens (IsToken K)) (is_leaf kinds.Semicolon x)
      (For init None (effects p (tree.more y rest)) (body_behind p (tree.more y rest)) n) (For init (Some (expression m x)) (effects q rest) (body_behind q rest) n)
      (here, i, tt, effects_tokens K p (tree.more y rest) f.1 (omega arith), body_tokens K p (tree.more y rest) f.1 (omega arith))
      (here, i, expression_tokens K m x f.0 (omega arith), effects_tokens K q rest f.1.1 (omega arith), body_tokens K q rest f.1.1 (omega arith))
  for_test_tokens K n init m (tree.more x tree.none) here i f less = tt
  for_test_tokens K n init m tree.none here i f less = tt

  body_tokens : (K n : ℕ) (ts : Asts) → AllFull ts → n + widths ts ≤ K → StatementTokens (IsToken K) (body_behind n ts)
  body_tokens K n (tree.more x (tree.more s rest)) f less =
      either (StatementTokens (IsToken K)) (is_leaf kinds.CloseParen x) (statement (n + width x) s) (body_behind (n + width x) (tree.more s rest))
      (statement_tokens K (n + width x) s f.1.0 (omega arith)) (body_tokens K (n + width x) (tree.more s rest) f.1 (omega arith))
  body_tokens K n (tree.more x tree.none) f less = tt
  body_tokens K n tree.none f less = tt

  other_tokens : (K n : ℕ) (x : Ast) (ts : Asts) → Full x → AllFull ts → n + (width x + widths ts) ≤ K → StatementTokens (IsToken K) (other n x ts)
  other_tokens K n x (tree.more semicolon tree.none) f g less = (omega (arith, wide x f), expression_tokens K n x f (omega arith))
  other_tokens K n x (tree.more y (tree.more z tree.none)) f g less =
      either (StatementTokens (IsToken K)) (is_leaf kinds.Colon y) (Labelled (named n x) (statement (n + width x + width y) z)) (Declare false (written_type n x) (declarators (n + width x) y))
      (omega (arith, wide x f), statement_tokens K (n + width x + width y) z g.1.0 (omega arith)) (declarators_tokens K (n + width x) y g.0 (omega arith))
  other_tokens K n x _ f g less = tt

  tried_tokens : (K n m : ℕ) (ts : Asts) → n < K → AllFull ts → m + widths ts ≤ K → StatementTokens (IsToken K) (tried n m ts)
  tried_tokens K n m (tree.more b rest) here f less = (here, block_tokens K m b f.0 (omega arith), catches_tokens K (m + width b) rest f.1 (omega arith), last_tokens K (m + width b) rest f.1 (omega arith))
  tried_tokens K n m tree.none here f less = tt

  catches_tokens : (K n : ℕ) (ts : Asts) → AllFull ts → n + widths ts ≤ K → CatchTokens (IsToken K) (catches n ts)
  catches_tokens K n (tree.more (Node g parts) rest) f less =
      clause_tokens K n parts (catches (n + widths parts) rest) (parts_full parts f.0) (omega arith) (catches_tokens K (n + widths parts) rest f.1 (omega arith))
  catches_tokens K n (tree.more (Leaf o) rest) f less = tt
  catches_tokens K n tree.none f less = tt

  clause_tokens : (K n : ℕ) (ts : Asts) (others : Catches) → AllFull ts → n + widths ts ≤ K → CatchTokens (IsToken K) others → CatchTokens (IsToken K) (clause n ts others)
  clause_tokens K n (tree.more word (tree.more paren (tree.more class (tree.more x (tree.more close (tree.more b tree.none)))))) others f less h =
      (omega (arith, wide x f.1.1.1.0), block_tokens K (n + width word + width paren + width class + width x + width close) b f.1.1.1.1.1.0 (omega arith), h)
  clause_tokens K n (tree.more word (tree.more paren (tree.more is_final (tree.more class (tree.more x (tree.more close (tree.more b tree.none))))))) others f less h =
      (omega (arith, wide x f.1.1.1.1.0), block_tokens K (n + width word + width paren + width is_final + width class + width x + width close) b f.1.1.1.1.1.1.0 (omega arith), h)
  clause_tokens K n _ others f less h = h

  last_tokens : (K n : ℕ) (ts : Asts) → AllFull ts → n + widths ts ≤ K → LastTokens (IsToken K) (last_of n ts)
  last_tokens K n (tree.more x (tree.more b rest)) f less =
      either (LastTokens (IsToken K)) (is_leaf kinds.Finally x) (finally (block (n + width x) b)) (last_of (n + width x) (tree.more b rest))
      (block_tokens K (n + width x) b f.1.0 (omega arith)) (last_tokens K (n + width x) (tree.more b rest) f.1 (omega arith))
  last_tokens K n (tree.more x tree.none) f less = tt
  last_tokens K n tree.none f less = tt

  thrown_tokens : (K n m : ℕ) (ts : Asts) → n < K → AllFull ts → m + widths ts ≤ K → StatementTokens (IsToken K) (thrown n m ts)
  thrown_tokens K n m (tree.more e semicolon) here f less = (here, expression_tokens K m e f.0 (omega arith))
  thrown_tokens K n m tree.none here f less = tt

  declared_tokens : (K : ℕ) (is_final : Bool) (n : ℕ) (ts : Asts) → AllFull ts → n + widths ts ≤ K → StatementTokens (IsToken K) (declared is_final n ts)
  declared_tokens K is_final n (tree.more ty (tree.more all semicolon)) f less = declarators_tokens K (n + width ty) all f.1.0 (omega arith)
  declared_tokens K is_final n (tree.more ty tree.none) f less = tt
  declared_tokens K is_final n tree.none f less = tt
