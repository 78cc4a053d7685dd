-- The statements of a tree have their words and signs at the tokens that the tree has there.
use Rattle.std.proofs.Common.{◌≡◌, ◌∙◌, refl, sym, ap, inl, ℕ, ◌+◌, Bool, true, false, ◌||◌, if◌then◌else◌, [], ◌∷◌}
use Rattle.std.specs.Prelude.{◌⊎◌, Some, None}
use Rattle.wy_tree.specs.Kinds.{same}
use Rattle.wy_tree.specs.Ast.{Ast, Asts, Leaf, Node}
use Rattle.wy_tree.specs.Ast as tree
use Rattle.wy_tree.specs.Conditions.{leaf_kind, first_kind}
use Rattle.wy_tree.specs.declared.kind.Kind.{Kind}
use Rattle.wy_tree.specs.declared.kind.Kind.TheVariants as kinds
use Rattle.wy_tree.specs.declared.tree.Form.TheVariants as form
use Rattle.wy_syntax.specs.Syntax.{ForInit, Nothing, Declared, Effects, Statement, Empty, Declare, For, Labelled, Unknown, Braced, finally, Catches}
use Rattle.wy_syntax.specs.Names.{width, widths, is_leaf, named, written as written_type}
use Rattle.wy_syntax.specs.Expressions.{expression, initial}
use Rattle.wy_syntax.specs.Statements.{initial_in, declarator, declarator_list, declarators, effects_behind, effects, for_parts, for_init, value, statement, braces, block, statements, by_word, branch, otherwise, loop_while, loop_do, loop_for, behind_init, for_test, body_behind, other, tried, catches, clause, last_of, thrown, declared}
use Rattle.law_structure.proofs.Sound.{Numbers}
use Rattle.law_structure.proofs.Apart.{MaybeSigns, FirstSigns, DeclaratorSigns, EffectSigns, InitSigns, Words, BlockWords, AllWords, OtherWords, LastWords, CatchWords}
use Rattle.law_structure.proofs.ApartClasses.{library_site}
use Rattle.law_structure.proofs.Seen.{DecidesAt, Seen, AllSeen, expression_signs, initial_signs}

-- `if`, `while`, `do` and `for`
abbrev pub is_asking : Kind → Bool
is_asking k = same k kinds.If || (same k kinds.While || (same k kinds.Do || same k kinds.For))

-- the token with this number is such a word, or the site of the library's test
abbrev pub AsksAt : (ℕ → Kind) → Numbers
AsksAt K n = (is_asking (K n) ≡ true) ⊎ (n ≡ library_site)

-- ---- declarators and effects

first_signs : (K : ℕ → Kind) (n : ℕ) (ts : Asts) → AllSeen K n ts → FirstSigns (DecidesAt K) (initial_in n ts)
unfolding initial_in
first_signs K n (tree.more x (tree.more v behind)) h = elim (is_leaf kinds.Assign x) as (λ b. FirstSigns (DecidesAt K) (if b then Some (initial (n + width x) v) else initial_in (n + width x) (tree.more v behind))) [
  | true ↦ initial_signs K (n + width x) v h.1.0
  | false ↦ first_signs K (n + width x) (tree.more v behind) h.1
]
first_signs K n (tree.more x tree.none) h = tt
first_signs K n tree.none h = tt

declarator_signs : (K : ℕ → Kind) (n : ℕ) (t : Ast) → Seen K n t → FirstSigns (DecidesAt K) (declarator n t).initial
unfolding declarator
declarator_signs K n (Node form.Decl (tree.more x behind)) h = first_signs K (n + width x) behind h.1.1
declarator_signs K n _ h = tt

list_signs : (K : ℕ → Kind) (n : ℕ) (ts : Asts) → AllSeen K n ts → DeclaratorSigns (DecidesAt K) (declarator_list n ts)
unfolding declarator_list
list_signs K n (tree.more d (tree.more comma rest)) h = (declarator_signs K n d h.0, list_signs K (n + width d + width comma) rest h.1.1)
list_signs K n (tree.more d tree.none) h = (declarator_signs K n d h.0, tt)
list_signs K n tree.none h = tt

pub declarators_signs : (K : ℕ → Kind) (n : ℕ) (t : Ast) → Seen K n t → DeclaratorSigns (DecidesAt K) (declarators n t)
unfolding declarators
declarators_signs K n (Leaf o) h = (declarator_signs K n (Leaf o) h, tt)
declarators_signs K n (Node form.Decls parts) h = list_signs K n parts h.1
declarators_signs K n (Node f parts) h = (declarator_signs K n (Node f parts) h, tt)

further_signs : (K : ℕ → Kind) (n : ℕ) (ts : Asts) → AllSeen K n ts → EffectSigns (DecidesAt K) (effects_behind n ts)
unfolding effects_behind
further_signs K n (tree.more mark (tree.more e rest)) h =
    elim (is_leaf kinds.Comma mark) as (λ b. EffectSigns (DecidesAt K) (if b then record { value = expression (n + width mark) e; token = n + width mark } ∷ effects_behind (n + width mark + width e) rest else [])) [
      | true ↦ (expression_signs K (n + width mark) e h.1.0, further_signs K (n + width mark + width e) rest h.1.1)
      | false ↦ tt
    ]
further_signs K n (tree.more mark tree.none) h = tt
further_signs K n tree.none h = tt

effects_signs : (K : ℕ → Kind) (n : ℕ) (ts : Asts) → AllSeen K n ts → EffectSigns (DecidesAt K) (effects n ts)
unfolding effects
effects_signs K n (tree.more e rest) h = elim (is_leaf kinds.CloseParen e) as (λ b. EffectSigns (DecidesAt K) (if b then [] else record { value = expression n e; token = n } ∷ effects_behind (n + width e) rest)) [
  | true ↦ tt
  | false ↦ (expression_signs K n e h.0, further_signs K (n + width e) rest h.1)
]
effects_signs K n tree.none h = tt

parts_signs : (K : ℕ → Kind) (n : ℕ) (ts : Asts) → AllSeen K n ts → InitSigns (DecidesAt K) (for_parts n ts)
parts_signs K n tree.none h = tt
parts_signs K n (tree.more x tree.none) h = tt
parts_signs K n (tree.more ty (tree.more all tree.none)) h = declarators_signs K (n + width ty) all h.1.0
parts_signs K n (tree.more x (tree.more y (tree.more z rest))) h =
    elim (is_leaf kinds.Final x) as (λ b. InitSigns (DecidesAt K) (if b then Declared true (written_type (n + width x) y) (declarators (n + width x + width y) z) else Effects (effects n (tree.more x (tree.more y (tree.more z rest)))))) [
      | true ↦ declarators_signs K (n + width x + width y) z h.1.1.0
      | false ↦ effects_signs K n (tree.more x (tree.more y (tree.more z rest))) h
    ]

init_signs : (K : ℕ → Kind) (n : ℕ) (t : Ast) → Seen K n t → InitSigns (DecidesAt K) (for_init n t)
init_signs K n (Leaf o) h = (expression_signs K n (Leaf o) h, tt)
init_signs K n (Node form.ForInit parts) h = parts_signs K n parts h.1
init_signs K n (Node f parts) h = (expression_signs K n (Node f parts) h, tt)

value_signs : (K : ℕ → Kind) (n : ℕ) (ts : Asts) → AllSeen K n ts → MaybeSigns (DecidesAt K) (value n ts)
value_signs K n (tree.more x (tree.more semicolon tree.none)) h = expression_signs K n x h.0
value_signs K n _ h = tt

-- ---- statements

abbrev WordsAt : (ℕ → Kind) → Statement → Type 0
WordsAt K s = Words (DecidesAt K) (AsksAt K) s

abbrev BlockAt : (ℕ → Kind) → Braced → Type 0
BlockAt K b = BlockWords (DecidesAt K) (AsksAt K) b

either_words : (K : ℕ → Kind) (b : Bool) (x y : Statement) → WordsAt K x → WordsAt K y → WordsAt K (if b then x else y)
either_words K true x y h i = h
either_words K false x y h i = i

-- a word by its kind
word_at : (K : ℕ → Kind) (n : ℕ) (word : Ast) (k : Kind) → Seen K n word → k ≡ leaf_kind word → (k ≡ kinds.Nothing → ⊥) → is_asking k ≡ true → AsksAt K n
word_at K n (Leaf o) k seen e some h = inl (ap is_asking (seen ∙ sym e) ∙ h)
word_at K n (Node f parts) k seen e some h = absurd (some e)

mutual
  unfolding statement braces block statements by_word branch otherwise loop_while loop_do loop_for behind_init for_test body_behind other tried catches clause last_of

  pub statement_words : (K : ℕ → Kind) (n : ℕ) (t : Ast) → Seen K n t → WordsAt K (statement n t)
  statement_words K n (Leaf o) h = either_words K (is_leaf kinds.Semicolon (Leaf o)) (Empty n) Unknown tt tt
  statement_words K n (Node form.Block parts) h = braces_words K n parts h.1
  statement_words K n (Node form.Stmt parts) h = by_word_words K (first_kind parts) n parts refl h.1
  statement_words K n (Node f parts) h = tt

  braces_words : (K : ℕ → Kind) (n : ℕ) (ts : Asts) → AllSeen K n ts → BlockAt K (braces n ts)
  braces_words K n (tree.more brace parts) h = statements_words K (n + width brace) parts h.1
  braces_words K n tree.none h = tt

  pub block_words : (K : ℕ → Kind) (n : ℕ) (t : Ast) → Seen K n t → BlockAt K (block n t)
  block_words K n (Node f parts) h = braces_words K n parts h.1
  block_words K n (Leaf o) h = tt

  statements_words : (K : ℕ → Kind) (n : ℕ) (ts : Asts) → AllSeen K n ts → AllWords (DecidesAt K) (AsksAt K) (statements n ts)
  statements_words K n (tree.more s (tree.more t rest)) h = (statement_words K n s h.0, statements_words K (n + width s) (tree.more t rest) h.1)
  statements_words K n (tree.more s tree.none) h = tt
  statements_words K n tree.none h = tt

  by_word_words : (K : ℕ → Kind) (k : Kind) (n : ℕ) (ts : Asts) → k ≡ first_kind ts → AllSeen K n ts → WordsAt K (by_word k n ts)
  by_word_words K kinds.If n (tree.more word parts) e h = branch_words K n (n + width word) parts (word_at K n word kinds.If h.0 e (λ x. cc) refl) h.1
  by_word_words K kinds.While n (tree.more word parts) e h = while_words K n (n + width word) parts (word_at K n word kinds.While h.0 e (λ x. cc) refl) h.1
  by_word_words K kinds.Do n (tree.more word parts) e h = do_words K n (n + width word) parts (word_at K n word kinds.Do h.0 e (λ x. cc) refl) h.1
  by_word_words K kinds.For n (tree.more word parts) e h = for_words K n (n + width word) parts (word_at K n word kinds.For h.0 e (λ x. cc) refl) h.1
  by_word_words K kinds.Break n (tree.more word parts) e h = tt
  by_word_words K kinds.Continue n (tree.more word parts) e h = tt
  by_word_words K kinds.Return n (tree.more word parts) e h = value_signs K (n + width word) parts h.1
  by_word_words K kinds.Throw n (tree.more word parts) e h = thrown_words K n (n + width word) parts h.1
  by_word_words K kinds.Try n (tree.more word parts) e h = tried_words K n (n + width word) parts h.1
  by_word_words K kinds.Final n (tree.more word parts) e h = declared_words K true (n + width word) parts h.1
  by_word_words K _ n (tree.more x parts) e h = other_words K n x parts h.0 h.1
  by_word_words K _ n tree.none e h = tt

  branch_words : (K : ℕ → Kind) (n m : ℕ) (ts : Asts) → AsksAt K n → AllSeen K m ts → WordsAt K (branch n m ts)
  branch_words K n m (tree.more paren (tree.more e (tree.more close (tree.more s rest)))) x h =
      (x, expression_signs K (m + width paren) e h.1.0, statement_words K (m + width paren + width e + width close) s h.1.1.1.0, otherwise_words K (m + width paren + width e + width close + width s) rest h.1.1.1.1)
  branch_words K n m _ x h = tt

  otherwise_words : (K : ℕ → Kind) (n : ℕ) (ts : Asts) → AllSeen K n ts → OtherWords (DecidesAt K) (AsksAt K) (otherwise n ts)
  otherwise_words K n (tree.more word (tree.more s tree.none)) h = statement_words K (n + width word) s h.1.0
  otherwise_words K n _ h = tt

  while_words : (K : ℕ → Kind) (n m : ℕ) (ts : Asts) → AsksAt K n → AllSeen K m ts → WordsAt K (loop_while n m ts)
  while_words K n m (tree.more paren (tree.more e (tree.more close (tree.more s tree.none)))) x h =
      (x, expression_signs K (m + width paren) e h.1.0, statement_words K (m + width paren + width e + width close) s h.1.1.1.0)
  while_words K n m _ x h = tt

  do_words : (K : ℕ → Kind) (n m : ℕ) (ts : Asts) → AsksAt K n → AllSeen K m ts → WordsAt K (loop_do n m ts)
  do_words K n m (tree.more s (tree.more word (tree.more paren (tree.more e rest)))) x h =
      (x, expression_signs K (m + width s + width word + width paren) e h.1.1.1.0, statement_words K m s h.0)
  do_words K n m _ x h = tt

  for_words : (K : ℕ → Kind) (n m : ℕ) (ts : Asts) → AsksAt K n → AllSeen K m ts → WordsAt K (loop_for n m ts)
  for_words K n m (tree.more paren (tree.more x rest)) a h =
      either_words K (is_leaf kinds.Semicolon x) (for_test n Nothing (m + width paren + width x) rest) (behind_init n (for_init (m + width paren) x) (m + width paren + width x) rest)
      (for_test_words K n Nothing (m + width paren + width x) rest a tt h.1.1)
      (behind_init_words K n (for_init (m + width paren) x) (m + width paren + width x) rest a (init_signs K (m + width paren) x h.1.0) h.1.1)
  for_words K n m (tree.more paren tree.none) a h = tt
  for_words K n m tree.none a h = tt

  behind_init_words : (K : ℕ → Kind) (n : ℕ) (init : ForInit) (m : ℕ) (ts : Asts) → AsksAt K n → InitSigns (DecidesAt K) init → AllSeen K m ts → WordsAt K (behind_init n init m ts)
  behind_init_words K n init m (tree.more semicolon rest) a i h = for_test_words K n init (m + width semicolon) rest a i h.1
  behind_init_words K n init m tree.none a i h = tt

  for_test_words : (K : ℕ → Kind) (n : ℕ) (init : ForInit) (m : ℕ) (ts : Asts) → AsksAt K n → InitSigns (DecidesAt K) init → AllSeen K m ts → WordsAt K (for_test n init m ts)
  for_test_words K n init m (tree.more x (tree.more y rest)) a i h =
      either_words K (is_leaf kinds.Semicolon x)
      (For init None (effects (m + width x) (tree.more y rest)) (body_behind (m + width x) (tree.more y rest)) n) (For init (Some (expression m x)) (effects (m + width x + width y) rest) (body_behind (m + width x + width y) rest) n)
      (a, i, tt, effects_signs K (m + width x) (tree.more y rest) h.1, body_words K (m + width x) (tree.more y rest) h.1)
      (a, i, expression_signs K m x h.0, effects_signs K (m + width x + width y) rest h.1.1, body_words K (m + width x + width y) rest h.1.1)
  for_test_words K n init m (tree.more x tree.none) a i h = tt
  for_test_words K n init m tree.none a i h = tt

  body_words : (K : ℕ → Kind) (n : ℕ) (ts : Asts) → AllSeen K n ts → WordsAt K (body_behind n ts)
  body_words K n (tree.more x (tree.more s rest)) h =
      either_words K (is_leaf kinds.CloseParen x) (statement (n + width x) s) (body_behind (n + width x) (tree.more s rest)) (statement_words K (n + width x) s h.1.0) (body_words K (n + width x) (tree.more s rest) h.1)
  body_words K n (tree.more x tree.none) h = tt
  body_words K n tree.none h = tt

  other_words : (K : ℕ → Kind) (n : ℕ) (x : Ast) (ts : Asts) → Seen K n x → AllSeen K (n + width x) ts → WordsAt K (other n x ts)
  other_words K n x (tree.more semicolon tree.none) s h = expression_signs K n x s
  other_words K n x (tree.more y (tree.more z tree.none)) s h =
      either_words K (is_leaf kinds.Colon y) (Labelled (named n x) (statement (n + width x + width y) z)) (Declare false (written_type n x) (declarators (n + width x) y))
      (statement_words K (n + width x + width y) z h.1.0) (declarators_signs K (n + width x) y h.0)
  other_words K n x _ s h = tt

  tried_words : (K : ℕ → Kind) (n m : ℕ) (ts : Asts) → AllSeen K m ts → WordsAt K (tried n m ts)
  tried_words K n m (tree.more b rest) h = (block_words K m b h.0, catches_words K (m + width b) rest h.1, last_words K (m + width b) rest h.1)
  tried_words K n m tree.none h = tt

  catches_words : (K : ℕ → Kind) (n : ℕ) (ts : Asts) → AllSeen K n ts → CatchWords (DecidesAt K) (AsksAt K) (catches n ts)
  catches_words K n (tree.more (Node f parts) rest) h = clause_words K n parts (catches (n + widths parts) rest) h.0.1 (catches_words K (n + widths parts) rest h.1)
  catches_words K n (tree.more (Leaf o) rest) h = tt
  catches_words K n tree.none h = tt

  clause_words : (K : ℕ → Kind) (n : ℕ) (ts : Asts) (others : Catches) → AllSeen K n ts → CatchWords (DecidesAt K) (AsksAt K) others → CatchWords (DecidesAt K) (AsksAt K) (clause n ts others)
  clause_words K n (tree.more word (tree.more paren (tree.more class (tree.more x (tree.more close (tree.more b tree.none)))))) others h i =
      (block_words K (n + width word + width paren + width class + width x + width close) b h.1.1.1.1.1.0, i)
  clause_words K n (tree.more word (tree.more paren (tree.more is_final (tree.more class (tree.more x (tree.more close (tree.more b tree.none))))))) others h i =
      (block_words K (n + width word + width paren + width is_final + width class + width x + width close) b h.1.1.1.1.1.1.0, i)
  clause_words K n _ others h i = i

  last_words : (K : ℕ → Kind) (n : ℕ) (ts : Asts) → AllSeen K n ts → LastWords (DecidesAt K) (AsksAt K) (last_of n ts)
  last_words K n (tree.more x (tree.more b rest)) h = elim (is_leaf kinds.Finally x) as (λ c. LastWords (DecidesAt K) (AsksAt K) (if c then finally (block (n + width x) b) else last_of (n + width x) (tree.more b rest))) [
    | true ↦ block_words K (n + width x) b h.1.0
    | false ↦ last_words K (n + width x) (tree.more b rest) h.1
  ]
  last_words K n (tree.more x tree.none) h = tt
  last_words K n tree.none h = tt

  thrown_words : (K : ℕ → Kind) (n m : ℕ) (ts : Asts) → AllSeen K m ts → WordsAt K (thrown n m ts)
  thrown_words K n m (tree.more e semicolon) h = expression_signs K m e h.0
  thrown_words K n m tree.none h = tt

  declared_words : (K : ℕ → Kind) (is_final : Bool) (n : ℕ) (ts : Asts) → AllSeen K n ts → WordsAt K (declared is_final n ts)
  declared_words K is_final n (tree.more ty (tree.more all semicolon)) h = declarators_signs K (n + width ty) all h.1.0
  declared_words K is_final n (tree.more ty tree.none) h = tt
  declared_words K is_final n tree.none h = tt
