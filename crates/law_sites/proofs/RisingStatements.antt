-- The signs `&&`, `||` and `?` of a tree's statements stand at its tokens, one after another: no two at one token.
use Rattle.std.proofs.Common.{◌≡◌, refl, sym, subst, arith, ℕ, ◌+◌, Bool, true, false, if◌then◌else◌, List, [], ◌∷◌, ◌++◌}
use Rattle.std.specs.Prelude.{Some, None}
use Rattle.wy_tree.specs.Seen.{Tok}
use Rattle.wy_tree.specs.Ast.{Ast, Asts, Leaf, Node}
use Rattle.wy_tree.specs.Ast as tree
use Rattle.wy_tree.specs.Conditions.{first_kind}
use Rattle.wy_tree.specs.declared.kind.Kind.{Kind}
use Rattle.wy_tree.specs.declared.kind.Kind.TheVariants as kinds
use Rattle.wy_tree.specs.declared.tree.Form.TheVariants as form
use Rattle.wy_syntax.specs.Syntax.{Effect, ForInit, Nothing, Declared, Effects, Statement, Empty, Declare, For, Labelled, Unknown, finally, Catches, uncaught}
use Rattle.wy_syntax.specs.Names.{width, widths, is_leaf, named, written as written_type}
use Rattle.wy_syntax.specs.Expressions.{expression, initial}
use Rattle.wy_syntax.specs.Statements.{initial_in, declarator, declarator_list, declarators, effects_behind, effects, for_parts, for_init, value, statement, braces, block, statements, by_word, branch, otherwise, loop_while, loop_do, loop_for, behind_init, for_test, body_behind, other, tried, catches, clause, last_of, thrown, declared}
use Rattle.law_structure.proofs.Trees.{Full, AllFull, parts_full, comma_leaf}
use Rattle.law_sites.proofs.FewExpressions.{signs}
use Rattle.law_sites.proofs.FewStatements.{maybe_signs, first_signs, declarator_signs, effect_signs, head_signs, signs_in, signs_in_block, signs_in_all, signs_in_other, signs_in_last, signs_in_catches}
use Rattle.law_sites.proofs.Rising.{Rising, bounded, rise_none, rise_wider, rise_both, rise_grouped}
use Rattle.law_sites.proofs.RisingExpressions.{expression_rises, initial_rises}

-- ---- declarators and effects

first_rises : (n : ℕ) (ts : Asts) → AllFull ts → Rising n (first_signs (initial_in n ts)) (n + widths ts)
unfolding initial_in
first_rises n (tree.more x (tree.more v behind)) f =
    let high = n + (width x + (width v + widths behind)) in
    elim (is_leaf kinds.Assign x) as (λ b. Rising n (first_signs (if b then Some (initial (n + width x) v) else initial_in (n + width x) (tree.more v behind))) high) [
      | true ↦ rise_wider (omega arith) (omega arith) (initial_rises (n + width x) v f.1.0)
      | false ↦ rise_wider (omega arith) (omega arith) (first_rises (n + width x) (tree.more v behind) f.1)
    ]
first_rises n (tree.more x tree.none) f = rise_none (omega arith)
first_rises n tree.none f = rise_none (omega arith)

declarator_rises : (n : ℕ) (t : Ast) → Full t → Rising n (first_signs (declarator n t).initial) (n + width t)
unfolding declarator
declarator_rises n (Node form.Decl (tree.more x behind)) f = rise_wider (omega arith) (omega arith) (first_rises (n + width x) behind f.1)
declarator_rises n t f = rise_none (omega arith)

list_rises : (n : ℕ) (ts : Asts) → AllFull ts → Rising n (declarator_signs (declarator_list n ts)) (n + widths ts)
unfolding declarator_list
list_rises n (tree.more d (tree.more comma rest)) f = rise_both (declarator_rises n d f.0) (rise_wider (omega arith) (omega arith) (list_rises (n + width d + width comma) rest f.1.1))
list_rises n (tree.more d tree.none) f = rise_both (declarator_rises n d f.0) (rise_none (omega arith))
list_rises n tree.none f = rise_none (omega arith)

pub declarators_rise : (n : ℕ) (t : Ast) → Full t → Rising n (declarator_signs (declarators n t)) (n + width t)
unfolding declarators
declarators_rise n (Leaf o) f = rise_both (declarator_rises n (Leaf o) f) (rise_none (omega arith))
declarators_rise n (Node form.Decls parts) f = list_rises n parts (parts_full parts f)
declarators_rise n (Node g parts) f = rise_both (declarator_rises n (Node g parts) f) (rise_none (omega arith))

further_rises : (n : ℕ) (ts : Asts) → AllFull ts → Rising n (effect_signs (effects_behind n ts)) (n + widths ts)
unfolding effects_behind
further_rises n (tree.more mark (tree.more e rest)) f =
    let high = n + (width mark + (width e + widths rest)) in
    elim (is_leaf kinds.Comma mark) as (λ b. Rising n (effect_signs (if b then record { value = expression (n + width mark) e; token = n + width mark } ∷ effects_behind (n + width mark + width e) rest else [])) high) [
      | true ↦ rise_both {middle = n + width mark + width e} (rise_wider (omega arith) (omega arith) (expression_rises (n + width mark) e f.1.0)) (rise_wider (omega arith) (omega arith) (further_rises (n + width mark + width e) rest f.1.1))
      | false ↦ rise_none (omega arith)
    ]
further_rises n (tree.more mark tree.none) f = rise_none (omega arith)
further_rises n tree.none f = rise_none (omega arith)

effects_rise : (n : ℕ) (ts : Asts) → AllFull ts → Rising n (effect_signs (effects n ts)) (n + widths ts)
unfolding effects
effects_rise n (tree.more e rest) f =
    let high = n + (width e + widths rest) in
    elim (is_leaf kinds.CloseParen e) as (λ b. Rising n (effect_signs (if b then [] else record { value = expression n e; token = n } ∷ effects_behind (n + width e) rest)) high) [
      | true ↦ rise_none (omega arith)
      | false ↦ rise_both (expression_rises n e f.0) (rise_wider (omega arith) (omega arith) (further_rises (n + width e) rest f.1))
    ]
effects_rise n tree.none f = rise_none (omega arith)

-- ---- the head of a `for`

parts_rise : (n : ℕ) (ts : Asts) → AllFull ts → Rising n (head_signs (for_parts n ts)) (n + widths ts)
parts_rise n tree.none f = rise_none (omega arith)
parts_rise n (tree.more x tree.none) f = rise_none (omega arith)
parts_rise n (tree.more ty (tree.more all tree.none)) f = rise_wider (omega arith) (omega arith) (declarators_rise (n + width ty) all f.1.0)
parts_rise n (tree.more x (tree.more y (tree.more z rest))) f =
    let high = n + (width x + (width y + (width z + widths rest))) in
    elim (is_leaf kinds.Final x) as (λ b. Rising n (head_signs (if b then Declared true (written_type (n + width x) y) (declarators (n + width x + width y) z) else Effects (effects n (tree.more x (tree.more y (tree.more z rest)))))) high) [
      | true ↦ rise_wider (omega arith) (omega arith) (declarators_rise (n + width x + width y) z f.1.1.0)
      | false ↦ effects_rise n (tree.more x (tree.more y (tree.more z rest))) f
    ]

init_rises : (n : ℕ) (t : Ast) → Full t → Rising n (head_signs (for_init n t)) (n + width t)
init_rises n (Leaf o) f = rise_both (expression_rises n (Leaf o) f) (rise_none (omega arith))
init_rises n (Node form.ForInit parts) f = parts_rise n parts (parts_full parts f)
init_rises n (Node g parts) f = rise_both (expression_rises n (Node g parts) f) (rise_none (omega arith))

value_rises : (n : ℕ) (ts : Asts) → AllFull ts → Rising n (maybe_signs (value n ts)) (n + widths ts)
value_rises n (tree.more x (tree.more semicolon tree.none)) f = rise_wider (omega arith) (omega arith) (expression_rises n x f.0)
value_rises n ts f = rise_none (omega arith)

-- ---- statements

abbrev SignsIn : ℕ → Statement → ℕ → Type 0
SignsIn low s high = Rising low (signs_in s) high

either_rises : (low high : ℕ) (b : Bool) (x y : Statement) → SignsIn low x high → SignsIn low y high → SignsIn low (if b then x else y) high
either_rises low high true x y h i = h
either_rises low high false x y h i = i

-- nothing behind them
behind_rises : (low high : ℕ) (xs ys : List ℕ) → ys ≡ [] → Rising low xs high → Rising low (xs ++ ys) high
behind_rises low high xs ys e h = let P : List ℕ → Type 0 = λ zs. Rising low (xs ++ zs) high in subst P (sym e) (rise_both h (rise_none (omega (arith, bounded h))))

-- a token alone has no signs
pub leaf_none : (n : ℕ) (o : Tok) → signs_in (statement n (Leaf o)) ≡ []
unfolding statement
leaf_none n o = elim (is_leaf kinds.Semicolon (Leaf o)) as (λ b. signs_in (if b then Empty n else Unknown) ≡ []) [ true ↦ refl | false ↦ refl ]

leaf_nothing : (n : ℕ) (t : Ast) (k : Kind) → is_leaf k t ≡ true → signs_in (statement n t) ≡ []
leaf_nothing n (Leaf o) k e = leaf_none n o
leaf_nothing n (Node g parts) k e = absurd cc

-- a comma behind the parenthesis would begin no statement
closing_cases : (low high : ℕ) (c : Bool) (all : List Effect) (xs : List ℕ) → Rising low (effect_signs all) high → (c ≡ true → xs ≡ []) → Rising low xs high → Rising low (effect_signs (if c then all else []) ++ xs) high
closing_cases low high true all xs h e i = behind_rises low high (effect_signs all) xs (e refl) h
closing_cases low high false all xs h e i = i

closing_rises : (n : ℕ) (s : Ast) (rest : Asts) → AllFull rest → SignsIn n (statement n s) (n + width s) → Rising n (effect_signs (effects_behind n (tree.more s rest)) ++ signs_in (statement n s)) (n + (width s + widths rest))
unfolding effects_behind
closing_rises n s tree.none f h = rise_wider (omega arith) (omega arith) h
closing_rises n s (tree.more e rest) f h =
    let p = n + width s in
    let high = n + (width s + (width e + widths rest)) in
    closing_cases n high (is_leaf kinds.Comma s) (record { value = expression p e; token = p } ∷ effects_behind (p + width e) rest) (signs_in (statement n s))
    (rise_both {middle = p + width e} (rise_wider (omega arith) (omega arith) (expression_rises p e f.0)) (rise_wider (omega arith) (omega arith) (further_rises (p + width e) rest f.1)))
    (leaf_nothing n s kinds.Comma) (rise_wider (omega arith) (omega arith) h)

comma_or_body : (low high : ℕ) (c d : Bool) (all : List Effect) (x y : Statement) → (c ≡ true → d ≡ false) → Rising low (effect_signs all ++ signs_in y) high → SignsIn low (if d then x else y) high → Rising low (effect_signs (if c then all else []) ++ signs_in (if d then x else y)) high
comma_or_body low high true true all x y e h i = absurd (let g : true ≡ false = e refl in cc)
comma_or_body low high true false all x y e h i = h
comma_or_body low high false d all x y e h i = i

abbrev BlockSigns : ℕ → Ast → Type 0
BlockSigns n t = Rising n (signs_in_block (block n t)) (n + width t)

mutual
  unfolding effects effects_behind statement braces block statements by_word branch otherwise loop_while loop_do loop_for behind_init for_test body_behind other tried catches clause last_of

  pub statement_rises : (n : ℕ) (t : Ast) → Full t → SignsIn n (statement n t) (n + width t)
  statement_rises n (Leaf o) f = either_rises n (n + 1) (is_leaf kinds.Semicolon (Leaf o)) (Empty n) Unknown (rise_none (omega arith)) (rise_none (omega arith))
  statement_rises n (Node form.Block parts) f = braces_rise n parts (parts_full parts f)
  statement_rises n (Node form.Stmt parts) f = by_word_rises (first_kind parts) n parts (parts_full parts f)
  statement_rises n (Node g parts) f = rise_none (omega arith)

  braces_rise : (n : ℕ) (ts : Asts) → AllFull ts → Rising n (signs_in_block (braces n ts)) (n + widths ts)
  braces_rise n (tree.more brace parts) f = rise_wider (omega arith) (omega arith) (statements_rise (n + width brace) parts f.1)
  braces_rise n tree.none f = rise_none (omega arith)

  pub block_rises : (n : ℕ) (t : Ast) → Full t → BlockSigns n t
  block_rises n (Node g parts) f = braces_rise n parts (parts_full parts f)
  block_rises n (Leaf o) f = rise_none (omega arith)

  statements_rise : (n : ℕ) (ts : Asts) → AllFull ts → Rising n (signs_in_all (statements n ts)) (n + widths ts)
  statements_rise n (tree.more s (tree.more t rest)) f = rise_both (statement_rises n s f.0) (rise_wider (omega arith) (omega arith) (statements_rise (n + width s) (tree.more t rest) f.1))
  statements_rise n (tree.more s tree.none) f = rise_none (omega arith)
  statements_rise n tree.none f = rise_none (omega arith)

  by_word_rises : (k : Kind) (n : ℕ) (ts : Asts) → AllFull ts → SignsIn n (by_word k n ts) (n + widths ts)
  by_word_rises kinds.If n (tree.more word parts) f = rise_wider (omega arith) (omega arith) (branch_rises n (n + width word) parts f.1)
  by_word_rises kinds.While n (tree.more word parts) f = rise_wider (omega arith) (omega arith) (while_rises n (n + width word) parts f.1)
  by_word_rises kinds.Do n (tree.more word parts) f = rise_wider (omega arith) (omega arith) (do_rises n (n + width word) parts f.1)
  by_word_rises kinds.For n (tree.more word parts) f = rise_wider (omega arith) (omega arith) (for_rises n (n + width word) parts f.1)
  by_word_rises kinds.Break n (tree.more word parts) f = rise_none (omega arith)
  by_word_rises kinds.Continue n (tree.more word parts) f = rise_none (omega arith)
  by_word_rises kinds.Return n (tree.more word parts) f = rise_wider (omega arith) (omega arith) (value_rises (n + width word) parts f.1)
  by_word_rises kinds.Throw n (tree.more word parts) f = rise_wider (omega arith) (omega arith) (thrown_rises n (n + width word) parts f.1)
  by_word_rises kinds.Try n (tree.more word parts) f = rise_wider (omega arith) (omega arith) (tried_rises n (n + width word) parts f.1)
  by_word_rises kinds.Final n (tree.more word parts) f = rise_wider (omega arith) (omega arith) (declared_rises true (n + width word) parts f.1)
  by_word_rises _ n (tree.more x parts) f = other_rises n x parts f.0 f.1
  by_word_rises _ n tree.none f = rise_none (omega arith)

  branch_rises : (n m : ℕ) (ts : Asts) → AllFull ts → SignsIn m (branch n m ts) (m + widths ts)
  branch_rises n m (tree.more paren (tree.more e (tree.more close (tree.more s rest)))) f =
      let p = m + width paren + width e + width close in
      rise_both {middle = p} (rise_wider (omega arith) (omega arith) (expression_rises (m + width paren) e f.1.0))
      (rise_both (statement_rises p s f.1.1.1.0) (rise_wider (omega arith) (omega arith) (otherwise_rises (p + width s) rest f.1.1.1.1)))
  branch_rises n m ts f = rise_none (omega arith)

  otherwise_rises : (n : ℕ) (ts : Asts) → AllFull ts → Rising n (signs_in_other (otherwise n ts)) (n + widths ts)
  otherwise_rises n (tree.more word (tree.more s tree.none)) f = rise_wider (omega arith) (omega arith) (statement_rises (n + width word) s f.1.0)
  otherwise_rises n ts f = rise_none (omega arith)

  while_rises : (n m : ℕ) (ts : Asts) → AllFull ts → SignsIn m (loop_while n m ts) (m + widths ts)
  while_rises n m (tree.more paren (tree.more e (tree.more close (tree.more s tree.none)))) f =
      let p = m + width paren + width e + width close in
      rise_both {middle = p} (rise_wider (omega arith) (omega arith) (expression_rises (m + width paren) e f.1.0)) (rise_wider (omega arith) (omega arith) (statement_rises p s f.1.1.1.0))
  while_rises n m ts f = rise_none (omega arith)

  do_rises : (n m : ℕ) (ts : Asts) → AllFull ts → SignsIn m (loop_do n m ts) (m + widths ts)
  do_rises n m (tree.more s (tree.more word (tree.more paren (tree.more e rest)))) f =
      rise_both (statement_rises m s f.0) (rise_wider (omega arith) (omega arith) (expression_rises (m + width s + width word + width paren) e f.1.1.1.0))
  do_rises n m ts f = rise_none (omega arith)

  for_rises : (n m : ℕ) (ts : Asts) → AllFull ts → SignsIn m (loop_for n m ts) (m + widths ts)
  for_rises n m (tree.more paren (tree.more x rest)) f =
      let p = m + width paren + width x in
      either_rises m (m + (width paren + (width x + widths rest))) (is_leaf kinds.Semicolon x) (for_test n Nothing p rest) (behind_init n (for_init (m + width paren) x) p rest)
      (rise_wider (omega arith) (omega arith) (for_test_rises n Nothing p p rest (rise_none (omega arith)) f.1.1))
      (rise_wider (omega arith) (omega arith) (behind_init_rises n (for_init (m + width paren) x) (m + width paren) p rest (init_rises (m + width paren) x f.1.0) f.1.1))
  for_rises n m (tree.more paren tree.none) f = rise_none (omega arith)
  for_rises n m tree.none f = rise_none (omega arith)

  behind_init_rises : (n : ℕ) (init : ForInit) (from m : ℕ) (ts : Asts) → Rising from (head_signs init) m → AllFull ts → SignsIn from (behind_init n init m ts) (m + widths ts)
  behind_init_rises n init from m (tree.more semicolon rest) h f =
      rise_wider {low = from} (omega arith) (omega arith) (for_test_rises n init from (m + width semicolon) rest (rise_wider (omega arith) (omega arith) h) f.1)
  behind_init_rises n init from m tree.none h f = rise_none (omega (arith, bounded h))

  for_test_rises : (n : ℕ) (init : ForInit) (from m : ℕ) (ts : Asts) → Rising from (head_signs init) m → AllFull ts → SignsIn from (for_test n init m ts) (m + widths ts)
  for_test_rises n init from m (tree.more x (tree.more y rest)) h f =
      let p = m + width x in
      let q = m + width x + width y in
      either_rises from (m + (width x + (width y + widths rest))) (is_leaf kinds.Semicolon x)
      (For init None (effects p (tree.more y rest)) (body_behind p (tree.more y rest)) n) (For init (Some (expression m x)) (effects q rest) (body_behind q rest) n)
      (rise_both h (rise_wider (omega arith) (omega arith) (updates_rise p (tree.more y rest) f.1)))
      (rise_both h (rise_both (expression_rises m x f.0) (rise_wider (omega arith) (omega arith) (updates_rise q rest f.1.1))))
  for_test_rises n init from m (tree.more x tree.none) h f = rise_none (omega (arith, bounded h))
  for_test_rises n init from m tree.none h f = rise_none (omega (arith, bounded h))

  body_rises : (n : ℕ) (ts : Asts) → AllFull ts → SignsIn n (body_behind n ts) (n + widths ts)
  body_rises n (tree.more x (tree.more s rest)) f =
      let p = n + width x in
      either_rises n (n + (width x + (width s + widths rest))) (is_leaf kinds.CloseParen x) (statement p s) (body_behind p (tree.more s rest))
      (rise_wider (omega arith) (omega arith) (statement_rises p s f.1.0)) (rise_wider (omega arith) (omega arith) (body_rises p (tree.more s rest) f.1))
  body_rises n (tree.more x tree.none) f = rise_none (omega arith)
  body_rises n tree.none f = rise_none (omega arith)

  -- updates and the body behind them
  updates_rise : (n : ℕ) (ts : Asts) → AllFull ts → Rising n (effect_signs (effects n ts) ++ signs_in (body_behind n ts)) (n + widths ts)
  updates_rise n tree.none f = rise_none (omega arith)
  updates_rise n (tree.more e tree.none) f =
      elim (is_leaf kinds.CloseParen e) as (λ b. Rising n (effect_signs (if b then [] else record { value = expression n e; token = n } ∷ []) ++ []) (n + (width e + 0))) [
        | true ↦ rise_none (omega arith)
        | false ↦ rise_both {middle = n + width e} (rise_both (expression_rises n e f.0) (rise_none (omega arith))) (rise_none (omega arith))
      ]
  updates_rise n (tree.more e (tree.more s rest)) f =
      let p = n + width e in
      let high = n + (width e + (width s + widths rest)) in
      elim (is_leaf kinds.CloseParen e) as (λ b. Rising n (effect_signs (if b then [] else record { value = expression n e; token = n } ∷ effects_behind p (tree.more s rest)) ++ signs_in (if b then statement p s else body_behind p (tree.more s rest))) high) [
        | true ↦ rise_wider (omega arith) (omega arith) (statement_rises p s f.1.0)
        | false ↦ rise_grouped (signs (expression n e)) (effect_signs (effects_behind p (tree.more s rest))) (signs_in (body_behind p (tree.more s rest)))
            (rise_both (expression_rises n e f.0) (rise_wider (omega arith) (omega arith) (more_updates p (tree.more s rest) f.1)))
      ]

  -- from the part behind an update on
  more_updates : (n : ℕ) (ts : Asts) → AllFull ts → Rising n (effect_signs (effects_behind n ts) ++ signs_in (body_behind n ts)) (n + widths ts)
  more_updates n tree.none f = rise_none (omega arith)
  more_updates n (tree.more mark tree.none) f = rise_none (omega arith)
  more_updates n (tree.more mark (tree.more e tree.none)) f =
      let p = n + width mark in
      let high = n + (width mark + (width e + 0)) in
      comma_or_body n high (is_leaf kinds.Comma mark) (is_leaf kinds.CloseParen mark) (record { value = expression p e; token = p } ∷ []) (statement p e) Unknown (λ c. comma_leaf mark c kinds.CloseParen refl)
      (rise_wider {low = p} {high = p + width e} (omega arith) (omega arith) (rise_both {middle = p + width e} (rise_both (expression_rises p e f.1.0) (rise_none (omega arith))) (rise_none (omega arith))))
      (either_rises n high (is_leaf kinds.CloseParen mark) (statement p e) Unknown (rise_wider (omega arith) (omega arith) (statement_rises p e f.1.0)) (rise_none (omega arith)))
  more_updates n (tree.more mark (tree.more e (tree.more s rest))) f =
      let p = n + width mark in
      let q = n + width mark + width e in
      let high = n + (width mark + (width e + (width s + widths rest))) in
      let behind = effect_signs (effects_behind q (tree.more s rest)) in
      comma_or_body n high (is_leaf kinds.Comma mark) (is_leaf kinds.CloseParen mark) (record { value = expression p e; token = p } ∷ effects_behind q (tree.more s rest)) (statement p e) (body_behind p (tree.more e (tree.more s rest))) (λ c. comma_leaf mark c kinds.CloseParen refl)
      (rise_grouped (signs (expression p e)) behind (signs_in (body_behind p (tree.more e (tree.more s rest))))
      (rise_both {middle = q} (rise_wider (omega arith) (omega arith) (expression_rises p e f.1.0))
      (elim (is_leaf kinds.CloseParen e) as (λ b. Rising q (behind ++ signs_in (if b then statement q s else body_behind q (tree.more s rest))) high) [
        | true ↦ rise_wider (omega arith) (omega arith) (closing_rises q s rest f.1.1.1 (statement_rises q s f.1.1.0))
        | false ↦ rise_wider (omega arith) (omega arith) (more_updates q (tree.more s rest) f.1.1)
      ])))
      (either_rises n high (is_leaf kinds.CloseParen mark) (statement p e) (body_behind p (tree.more e (tree.more s rest)))
      (rise_wider (omega arith) (omega arith) (statement_rises p e f.1.0)) (rise_wider (omega arith) (omega arith) (body_rises p (tree.more e (tree.more s rest)) f.1)))

  other_rises : (n : ℕ) (x : Ast) (ts : Asts) → Full x → AllFull ts → SignsIn n (other n x ts) (n + (width x + widths ts))
  other_rises n x (tree.more semicolon tree.none) f g = rise_wider (omega arith) (omega arith) (expression_rises n x f)
  other_rises n x (tree.more y (tree.more z tree.none)) f g =
      either_rises n (n + (width x + (width y + (width z + 0)))) (is_leaf kinds.Colon y) (Labelled (named n x) (statement (n + width x + width y) z)) (Declare false (written_type n x) (declarators (n + width x) y))
      (rise_wider (omega arith) (omega arith) (statement_rises (n + width x + width y) z g.1.0)) (rise_wider (omega arith) (omega arith) (declarators_rise (n + width x) y g.0))
  other_rises n x ts f g = rise_none (omega arith)

  tried_rises : (n m : ℕ) (ts : Asts) → AllFull ts → SignsIn m (tried n m ts) (m + widths ts)
  tried_rises n m (tree.more b rest) f = rise_both (block_rises m b f.0) (rise_wider (omega arith) (omega arith) (handlers_rise (m + width b) rest f.1))
  tried_rises n m tree.none f = rise_none (omega arith)

  last_rises : (n : ℕ) (ts : Asts) → AllFull ts → Rising n (signs_in_last (last_of n ts)) (n + widths ts)
  last_rises n (tree.more x (tree.more b rest)) f =
      let p = n + width x in
      elim (is_leaf kinds.Finally x) as (λ c. Rising n (signs_in_last (if c then finally (block p b) else last_of p (tree.more b rest))) (n + (width x + (width b + widths rest)))) [
        | true ↦ rise_wider (omega arith) (omega arith) (block_rises p b f.1.0)
        | false ↦ rise_wider (omega arith) (omega arith) (last_rises p (tree.more b rest) f.1)
      ]
  last_rises n (tree.more x tree.none) f = rise_none (omega arith)
  last_rises n tree.none f = rise_none (omega arith)

  handlers_rise : (n : ℕ) (ts : Asts) → AllFull ts → Rising n (signs_in_catches (catches n ts) ++ signs_in_last (last_of n ts)) (n + widths ts)
  handlers_rise n tree.none f = rise_none (omega arith)
  handlers_rise n (tree.more (Leaf o) tree.none) f = rise_none (omega arith)
  handlers_rise n (tree.more (Leaf o) (tree.more b rest)) f =
      elim (is_leaf kinds.Finally (Leaf o)) as (λ c. Rising n (signs_in_last (if c then finally (block (n + 1) b) else last_of (n + 1) (tree.more b rest))) (n + (1 + (width b + widths rest)))) [
        | true ↦ rise_wider (omega arith) (omega arith) (block_rises (n + 1) b f.1.0)
        | false ↦ rise_wider (omega arith) (omega arith) (last_rises (n + 1) (tree.more b rest) f.1)
      ]
  handlers_rise n (tree.more (Node g ps) tree.none) f = clause_rises n ps uncaught [] (n + (widths ps + 0)) (parts_full ps f.0) (rise_none (omega arith))
  handlers_rise n (tree.more (Node g ps) (tree.more b rest)) f =
      let p = n + widths ps in
      clause_rises n ps (catches p (tree.more b rest)) (signs_in_last (last_of p (tree.more b rest))) (n + (widths ps + (width b + widths rest))) (parts_full ps f.0)
      (rise_wider (omega arith) (omega arith) (handlers_rise p (tree.more b rest) f.1))

  clause_rises : (n : ℕ) (ps : Asts) (others : Catches) (xs : List ℕ) (high : ℕ) → AllFull ps → Rising (n + widths ps) (signs_in_catches others ++ xs) high → Rising n (signs_in_catches (clause n ps others) ++ xs) high
  clause_rises n (tree.more word (tree.more paren (tree.more class (tree.more x (tree.more close (tree.more b tree.none)))))) others xs high f h =
      let p = n + width word + width paren + width class + width x + width close in
      rise_grouped (signs_in_block (block p b)) (signs_in_catches others) xs
      (rise_both {middle = p + width b} (rise_wider (omega arith) (omega arith) (block_rises p b f.1.1.1.1.1.0)) (rise_wider (omega arith) (omega arith) h))
  clause_rises n (tree.more word (tree.more paren (tree.more is_final (tree.more class (tree.more x (tree.more close (tree.more b tree.none))))))) others xs high f h =
      let p = n + width word + width paren + width is_final + width class + width x + width close in
      rise_grouped (signs_in_block (block p b)) (signs_in_catches others) xs
      (rise_both {middle = p + width b} (rise_wider (omega arith) (omega arith) (block_rises p b f.1.1.1.1.1.1.0)) (rise_wider (omega arith) (omega arith) h))
  clause_rises n ps others xs high f h = rise_wider (omega arith) (omega arith) h

  thrown_rises : (n m : ℕ) (ts : Asts) → AllFull ts → SignsIn m (thrown n m ts) (m + widths ts)
  thrown_rises n m (tree.more e semicolon) f = rise_wider (omega arith) (omega arith) (expression_rises m e f.0)
  thrown_rises n m tree.none f = rise_none (omega arith)

  declared_rises : (is_final : Bool) (n : ℕ) (ts : Asts) → AllFull ts → SignsIn n (declared is_final n ts) (n + widths ts)
  declared_rises is_final n (tree.more ty (tree.more all semicolon)) f = rise_wider (omega arith) (omega arith) (declarators_rise (n + width ty) all f.1.0)
  declared_rises is_final n (tree.more ty tree.none) f = rise_none (omega arith)
  declared_rises is_final n tree.none f = rise_none (omega arith)
