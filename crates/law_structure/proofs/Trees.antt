-- The statements of a tree stand at its tokens, one after another: no two at one token.
use Rattle.std.proofs.Common.{◌≡◌, refl, sym, subst, arith, ℕ, ◌+◌, ◌*◌, ◌<◌, ◌≤◌, Bool, true, false, if◌then◌else◌, List, [], ◌∷◌, ◌++◌}
use Rattle.std.specs.Prelude.{Some, None}
use Rattle.wy_tree.specs.Kinds.{kind_of, same}
use Rattle.wy_tree.specs.Ast.{Ast, Asts, Leaf, Node}
use Rattle.wy_tree.specs.Ast as tree
use Rattle.wy_tree.specs.Conditions.{first_kind}
use Rattle.wy_tree.proofs.Tags.{same_is}
use Rattle.wy_tree.specs.declared.kind.Kind.{Kind}
use Rattle.wy_tree.specs.declared.kind.Kind.TheVariants as kinds
use Rattle.wy_tree.specs.declared.tree.Form.TheVariants as form
use Rattle.wy_syntax.specs.Syntax.{Effect, ForInit, Nothing, Declared, Effects, Statement, Empty, Declare, For, Labelled, Unknown, finally, Catches, uncaught}
use Rattle.wy_syntax.specs.Names.{width, widths, is_leaf, named, written as written_type}
use Rattle.wy_syntax.specs.Expressions.{expression}
use Rattle.wy_syntax.specs.Statements.{declarator, declarator_list, declarators, effects_behind, effects, for_parts, for_init, statement, braces, block, statements, by_word, branch, otherwise, loop_while, loop_do, loop_for, behind_init, for_test, body_behind, other, tried, catches, clause, last_of, thrown, declared}
use Rattle.wy_elab_body.specs.declared.place.Place.{Place}
use Rattle.wy_elab_body.specs.declared.place.Role.TheVariants.{Written}
use Rattle.wy_elab_body.specs.Places.{written, declarator_places, effect_places, init_places, places, block_places, all_places, other_places, last_places, catch_places}
use Rattle.law_structure.proofs.Spread.{Spread, none_spread, one_spread, both_spread, wider_spread, head_spread, three_spread}

-- each node has a part
abbrev mutual
  pub Full : Ast → Type 0
  Full (Leaf o) = Unit {0}
  Full (Node f parts) = FullParts parts

  pub FullParts : Asts → Type 0
  FullParts tree.none = ⊥
  FullParts (tree.more t rest) = Full t × AllFull rest

  pub AllFull : Asts → Type 0
  AllFull tree.none = Unit {0}
  AllFull (tree.more t rest) = Full t × AllFull rest

pub parts_full : (parts : Asts) → FullParts parts → AllFull parts
parts_full tree.none f = absurd f
parts_full (tree.more t rest) f = f

mutual
  -- it has a token
  pub wide : (t : Ast) → Full t → 1 ≤ width t
  wide (Leaf o) f = omega arith
  wide (Node form parts) f = parts_wide parts f

  parts_wide : (parts : Asts) → FullParts parts → 1 ≤ widths parts
  parts_wide tree.none f = absurd f
  parts_wide (tree.more t rest) f = let here : 1 ≤ width t = wide t f.0 in omega arith

-- a comma is no other mark
comma_alone : (k : Kind) → same k kinds.Comma ≡ true → (j : Kind) → same kinds.Comma j ≡ false → same k j ≡ false
comma_alone k e j other = let P : Kind → Type 0 = λ x. same x j ≡ false in subst P (sym (same_is k kinds.Comma e)) other

pub comma_leaf : (t : Ast) → is_leaf kinds.Comma t ≡ true → (j : Kind) → same kinds.Comma j ≡ false → is_leaf j t ≡ false
comma_leaf (Leaf o) e j other = comma_alone (kind_of o) e j other
comma_leaf (Node f parts) e j other = refl

-- ---- declarators and effects

declarator_token : (n : ℕ) (t : Ast) → (declarator n t).name.token ≡ n
unfolding declarator
declarator_token n (Leaf o) = refl
declarator_token n (Node form.Decl (tree.more x behind)) = refl
declarator_token n (Node f parts) = refl

one_declarator : (n high : ℕ) (t : Ast) → n < high → Spread n high (written (declarator n t).name.token ∷ [])
one_declarator n high t less = let P : ℕ → Type 0 = λ k. Spread n high (written k ∷ []) in subst P (sym (declarator_token n t)) (one_spread n high n Written (omega arith) less)

declarator_list_spread : (n : ℕ) (parts : Asts) → AllFull parts → Spread n (n + widths parts) (declarator_places (declarator_list n parts))
unfolding declarator_list
declarator_list_spread n tree.none f = none_spread n (n + 0) (omega arith)
declarator_list_spread n (tree.more d tree.none) f = let here : 1 ≤ width d = wide d f.0 in one_declarator n (n + (width d + 0)) d (omega arith)
declarator_list_spread n (tree.more d (tree.more comma rest)) f =
    let here : 1 ≤ width d = wide d f.0 in
    both_spread n (n + width d) (n + (width d + (width comma + widths rest))) (written (declarator n d).name.token ∷ []) (declarator_places (declarator_list (n + width d + width comma) rest))
    (one_declarator n (n + width d) d (omega arith))
    (wider_spread (n + width d + width comma) (n + width d + width comma + widths rest) (n + width d) (n + (width d + (width comma + widths rest))) _ (omega arith) (omega arith) (declarator_list_spread (n + width d + width comma) rest f.1.1))

pub declarators_spread : (n : ℕ) (t : Ast) → Full t → Spread n (n + width t) (declarator_places (declarators n t))
unfolding declarators
declarators_spread n (Leaf o) f = one_declarator n (n + 1) (Leaf o) (omega arith)
declarators_spread n (Node form.Decls parts) f = declarator_list_spread n parts (parts_full parts f)
declarators_spread n (Node g parts) f = let here : 1 ≤ widths parts = parts_wide parts f in one_declarator n (n + widths parts) (Node g parts) (omega arith)

effects_behind_spread : (n : ℕ) (parts : Asts) → AllFull parts → Spread n (n + widths parts) (effect_places (effects_behind n parts))
unfolding effects_behind
effects_behind_spread n tree.none f = none_spread n (n + 0) (omega arith)
effects_behind_spread n (tree.more mark tree.none) f = none_spread n (n + (width mark + 0)) (omega arith)
effects_behind_spread n (tree.more mark (tree.more e rest)) f =
    let there : 1 ≤ width e = wide e f.1.0 in
    elim (is_leaf kinds.Comma mark) as (λ b. Spread n (n + (width mark + (width e + widths rest))) (effect_places (if b then record { value = expression (n + width mark) e; token = n + width mark } ∷ effects_behind (n + width mark + width e) rest else []))) [
      | true ↦ head_spread n (n + width mark) (n + (width mark + (width e + widths rest))) Written (effect_places (effects_behind (n + width mark + width e) rest)) (omega arith)
          (wider_spread (n + width mark + width e) (n + width mark + width e + widths rest) (n + width mark + 1) (n + (width mark + (width e + widths rest))) _ (omega arith) (omega arith) (effects_behind_spread (n + width mark + width e) rest f.1.1))
      | false ↦ none_spread n (n + (width mark + (width e + widths rest))) (omega arith)
    ]

effects_spread : (n : ℕ) (parts : Asts) → AllFull parts → Spread n (n + widths parts) (effect_places (effects n parts))
unfolding effects
effects_spread n tree.none f = none_spread n (n + 0) (omega arith)
effects_spread n (tree.more e rest) f =
    let here : 1 ≤ width e = wide e f.0 in
    elim (is_leaf kinds.CloseParen e) as (λ b. Spread n (n + (width e + widths rest)) (effect_places (if b then [] else record { value = expression n e; token = n } ∷ effects_behind (n + width e) rest))) [
      | true ↦ none_spread n (n + (width e + widths rest)) (omega arith)
      | false ↦ head_spread n n (n + (width e + widths rest)) Written (effect_places (effects_behind (n + width e) rest)) (omega arith)
          (wider_spread (n + width e) (n + width e + widths rest) (n + 1) (n + (width e + widths rest)) _ (omega arith) (omega arith) (effects_behind_spread (n + width e) rest f.1))
    ]

-- ---- the head of a `for`

one_effect : (n : ℕ) (t : Ast) → Full t → Spread n (n + width t) (written n ∷ [])
one_effect n t f = let here : 1 ≤ width t = wide t f in one_spread n (n + width t) n Written (omega arith) (omega arith)

later : (n m high : ℕ) (t : Ast) → Full t → n ≤ m → m + width t ≤ high → Spread n high (declarator_places (declarators m t))
later n m high t f a b = wider_spread m (m + width t) n high (declarator_places (declarators m t)) a b (declarators_spread m t f)

for_parts_spread : (n : ℕ) (parts : Asts) → AllFull parts → Spread n (n + widths parts) (init_places (for_parts n parts))
for_parts_spread n tree.none f = none_spread n (n + 0) (omega arith)
for_parts_spread n (tree.more x tree.none) f = none_spread n (n + (width x + 0)) (omega arith)
for_parts_spread n (tree.more ty (tree.more all tree.none)) f = later n (n + width ty) (n + (width ty + (width all + 0))) all f.1.0 (omega arith) (omega arith)
for_parts_spread n (tree.more x (tree.more y (tree.more z rest))) f =
    elim (is_leaf kinds.Final x) as (λ b. Spread n (n + (width x + (width y + (width z + widths rest)))) (init_places (if b then Declared true (written_type (n + width x) y) (declarators (n + width x + width y) z) else Effects (effects n (tree.more x (tree.more y (tree.more z rest))))))) [
      | true ↦ later n (n + width x + width y) (n + (width x + (width y + (width z + widths rest)))) z f.1.1.0 (omega arith) (omega arith)
      | false ↦ effects_spread n (tree.more x (tree.more y (tree.more z rest))) f
    ]

for_init_spread : (n : ℕ) (t : Ast) → Full t → Spread n (n + width t) (init_places (for_init n t))
for_init_spread n (Leaf o) f = one_effect n (Leaf o) f
for_init_spread n (Node form.ForInit parts) f = for_parts_spread n parts (parts_full parts f)
for_init_spread n (Node g parts) f = one_effect n (Node g parts) f

-- ---- statements

-- what stands from a token on
in_front : (n m high : ℕ) (qs : List Place) → n < m → Spread m high qs → Spread n high (written n ∷ qs)
in_front n m high qs less h = let rising : 8 * m ≤ 8 * high = h.rising in head_spread n n high Written qs (omega arith) (wider_spread m high (n + 1) high qs (omega arith) (omega arith) h)

alone_at : (n high : ℕ) → n < high → Spread n high (written n ∷ [])
alone_at n high less = one_spread n high n Written (omega arith) less

one_of : (low high : ℕ) (b : Bool) (x y : Statement) → (b ≡ true → Spread low high (places x)) → (b ≡ false → Spread low high (places y)) → Spread low high (places (if b then x else y))
one_of low high true x y h i = h refl
one_of low high false x y h i = i refl

as_long : (n m w rest : ℕ) (qs : List Place) → m ≡ n + w → Spread n (m + rest) qs → Spread n (n + (w + rest)) qs
as_long n m w rest qs e h = let rising : 8 * n ≤ 8 * (m + rest) = h.rising in wider_spread n (m + rest) n (n + (w + rest)) qs (omega arith) (omega arith) h

comma_nothing : (n : ℕ) (s : Ast) → is_leaf kinds.Comma s ≡ true → places (statement n s) ≡ []
unfolding statement places
comma_nothing n (Leaf o) e = elim (is_leaf kinds.Semicolon (Leaf o)) as (λ b. b ≡ false → places (if b then Empty n else Unknown) ≡ []) [ true ↦ λ c. absurd cc | false ↦ λ c. refl ] (comma_leaf (Leaf o) e kinds.Semicolon refl)
comma_nothing n (Node f parts) e = absurd cc

-- a comma behind the parenthesis would begin no statement
closing_cases : (low middle high : ℕ) (c : Bool) (all : List Effect) (qs : List Place) → Spread low high (effect_places all) → (c ≡ true → qs ≡ []) → Spread low high qs → Spread low high (effect_places (if c then all else []) ++ qs)
closing_cases low middle high true all qs h e i =
    let P : List Place → Type 0 = λ xs. Spread low high (effect_places all ++ xs) in
    let rising : 8 * low ≤ 8 * high = h.rising in
    subst P (sym (e refl)) (both_spread low high high (effect_places all) [] h (none_spread high high (omega arith)))
closing_cases low middle high false all qs h e i = i

closing_spread : (n : ℕ) (s : Ast) (rest : Asts) → Full s → AllFull rest → Spread n (n + width s) (places (statement n s)) → Spread n (n + (width s + widths rest)) (effect_places (effects_behind n (tree.more s rest)) ++ places (statement n s))
unfolding effects_behind
closing_spread n s tree.none f g h = wider_spread n (n + width s) n (n + (width s + 0)) (places (statement n s)) (omega arith) (omega arith) h
closing_spread n s (tree.more e rest) f g h =
    let p = n + width s in
    let high = n + (width s + (width e + widths rest)) in
    let there : 1 ≤ width e = wide e g.0 in
    closing_cases n n high (is_leaf kinds.Comma s) (record { value = expression p e; token = p } ∷ effects_behind (p + width e) rest) (places (statement n s))
    (head_spread n p high Written (effect_places (effects_behind (p + width e) rest)) (omega arith)
    (wider_spread (p + width e) (p + width e + widths rest) (p + 1) high _ (omega arith) (omega arith) (effects_behind_spread (p + width e) rest g.1)))
    (comma_nothing n s) (wider_spread n (n + width s) n high (places (statement n s)) (omega arith) (omega arith) h)

comma_or_body : (low high : ℕ) (c d : Bool) (all : List Effect) (x y : Statement) → (c ≡ true → d ≡ false) → (c ≡ true → Spread low high (effect_places all ++ places y)) → Spread low high (places (if d then x else y)) → Spread low high (effect_places (if c then all else []) ++ places (if d then x else y))
comma_or_body low high true true all x y e h i = absurd (let f : true ≡ false = e refl in cc)
comma_or_body low high true false all x y e h i = h refl
comma_or_body low high false d all x y e h i = i

mutual
  unfolding effects effects_behind statement braces block statements by_word branch otherwise loop_while loop_do loop_for behind_init for_test body_behind other tried catches clause last_of places block_places all_places other_places last_places catch_places

  pub statement_spread : (n : ℕ) (t : Ast) → Full t → Spread n (n + width t) (places (statement n t))
  statement_spread n (Leaf o) f = one_of n (n + 1) (is_leaf kinds.Semicolon (Leaf o)) (Empty n) Unknown (λ e. alone_at n (n + 1) (omega arith)) (λ e. none_spread n (n + 1) (omega arith))
  statement_spread n (Node form.Block parts) f = braces_spread n parts f
  statement_spread n (Node form.Stmt parts) f = by_word_spread (first_kind parts) n parts f
  statement_spread n (Node g parts) f = none_spread n (n + widths parts) (omega arith)

  pub braces_spread : (n : ℕ) (parts : Asts) → FullParts parts → Spread n (n + widths parts) (block_places (braces n parts))
  braces_spread n tree.none f = absurd f
  braces_spread n (tree.more brace parts) f =
      let here : 1 ≤ width brace = wide brace f.0 in
      in_front n (n + width brace) (n + (width brace + widths parts)) (all_places (statements (n + width brace) parts)) (omega arith)
      (wider_spread (n + width brace) (n + width brace + widths parts) (n + width brace) (n + (width brace + widths parts)) _ (omega arith) (omega arith) (statements_spread (n + width brace) parts f.1))

  pub block_spread : (n : ℕ) (t : Ast) → Full t → Spread n (n + width t) (block_places (block n t))
  block_spread n (Node g parts) f = braces_spread n parts f
  block_spread n (Leaf o) f = alone_at n (n + 1) (omega arith)

  statements_spread : (n : ℕ) (parts : Asts) → AllFull parts → Spread n (n + widths parts) (all_places (statements n parts))
  statements_spread n tree.none f = none_spread n (n + 0) (omega arith)
  statements_spread n (tree.more s tree.none) f = none_spread n (n + (width s + 0)) (omega arith)
  statements_spread n (tree.more s (tree.more t rest)) f =
      both_spread n (n + width s) (n + (width s + (width t + widths rest))) (places (statement n s)) (all_places (statements (n + width s) (tree.more t rest))) (statement_spread n s f.0)
      (wider_spread (n + width s) (n + width s + (width t + widths rest)) (n + width s) (n + (width s + (width t + widths rest))) _ (omega arith) (omega arith) (statements_spread (n + width s) (tree.more t rest) f.1))

  by_word_spread : (k : Kind) (n : ℕ) (parts : Asts) → FullParts parts → Spread n (n + widths parts) (places (by_word k n parts))
  by_word_spread kinds.If n (tree.more word parts) f = let here : 1 ≤ width word = wide word f.0 in as_long n (n + width word) (width word) (widths parts) _ refl (branch_spread n (n + width word) parts (omega arith) f.1)
  by_word_spread kinds.While n (tree.more word parts) f = let here : 1 ≤ width word = wide word f.0 in as_long n (n + width word) (width word) (widths parts) _ refl (while_spread n (n + width word) parts (omega arith) f.1)
  by_word_spread kinds.Do n (tree.more word parts) f = let here : 1 ≤ width word = wide word f.0 in as_long n (n + width word) (width word) (widths parts) _ refl (do_spread n (n + width word) parts (omega arith) f.1)
  by_word_spread kinds.For n (tree.more word parts) f = let here : 1 ≤ width word = wide word f.0 in as_long n (n + width word) (width word) (widths parts) _ refl (for_spread n (n + width word) parts (omega arith) f.1)
  by_word_spread kinds.Break n (tree.more word parts) f = let here : 1 ≤ width word = wide word f.0 in alone_at n (n + (width word + widths parts)) (omega arith)
  by_word_spread kinds.Continue n (tree.more word parts) f = let here : 1 ≤ width word = wide word f.0 in alone_at n (n + (width word + widths parts)) (omega arith)
  by_word_spread kinds.Return n (tree.more word parts) f = let here : 1 ≤ width word = wide word f.0 in alone_at n (n + (width word + widths parts)) (omega arith)
  by_word_spread kinds.Throw n (tree.more word parts) f = let here : 1 ≤ width word = wide word f.0 in thrown_spread n (n + width word) parts (n + (width word + widths parts)) (omega arith)
  by_word_spread kinds.Try n (tree.more word parts) f = let here : 1 ≤ width word = wide word f.0 in as_long n (n + width word) (width word) (widths parts) _ refl (tried_spread n (n + width word) parts (omega arith) f.1)
  by_word_spread kinds.Final n (tree.more word parts) f = declared_spread true n (n + width word) parts f.1 (n + (width word + widths parts)) (omega arith) (omega arith)
  by_word_spread _ n (tree.more x parts) f = other_spread n x parts f.0 f.1
  by_word_spread _ n tree.none f = absurd f

  branch_spread : (n m : ℕ) (parts : Asts) → n < m → AllFull parts → Spread n (m + widths parts) (places (branch n m parts))
  branch_spread n m (tree.more paren (tree.more e (tree.more close (tree.more s rest)))) less f =
      let p = m + width paren + width e + width close in
      in_front n p (m + (width paren + (width e + (width close + (width s + widths rest))))) (places (statement p s) ++ other_places (otherwise (p + width s) rest)) (omega arith)
      (both_spread p (p + width s) (m + (width paren + (width e + (width close + (width s + widths rest))))) (places (statement p s)) (other_places (otherwise (p + width s) rest)) (statement_spread p s f.1.1.1.0)
      (wider_spread (p + width s) (p + width s + widths rest) (p + width s) (m + (width paren + (width e + (width close + (width s + widths rest))))) _ (omega arith) (omega arith) (otherwise_spread (p + width s) rest f.1.1.1.1)))
  branch_spread n m tree.none less f = none_spread n (m + 0) (omega arith)
  branch_spread n m (tree.more a tree.none) less f = none_spread n (m + (width a + 0)) (omega arith)
  branch_spread n m (tree.more a (tree.more b tree.none)) less f = none_spread n (m + (width a + (width b + 0))) (omega arith)
  branch_spread n m (tree.more a (tree.more b (tree.more c tree.none))) less f = none_spread n (m + (width a + (width b + (width c + 0)))) (omega arith)

  otherwise_spread : (n : ℕ) (parts : Asts) → AllFull parts → Spread n (n + widths parts) (other_places (otherwise n parts))
  otherwise_spread n tree.none f = none_spread n (n + 0) (omega arith)
  otherwise_spread n (tree.more word tree.none) f = none_spread n (n + (width word + 0)) (omega arith)
  otherwise_spread n (tree.more word (tree.more s tree.none)) f =
      wider_spread (n + width word) (n + width word + width s) n (n + (width word + (width s + 0))) _ (omega arith) (omega arith) (statement_spread (n + width word) s f.1.0)
  otherwise_spread n (tree.more word (tree.more s (tree.more x rest))) f = none_spread n (n + (width word + (width s + (width x + widths rest)))) (omega arith)

  while_spread : (n m : ℕ) (parts : Asts) → n < m → AllFull parts → Spread n (m + widths parts) (places (loop_while n m parts))
  while_spread n m (tree.more paren (tree.more e (tree.more close (tree.more s tree.none)))) less f =
      let p = m + width paren + width e + width close in
      in_front n p (m + (width paren + (width e + (width close + (width s + 0))))) (places (statement p s)) (omega arith)
      (wider_spread p (p + width s) p (m + (width paren + (width e + (width close + (width s + 0))))) _ (omega arith) (omega arith) (statement_spread p s f.1.1.1.0))
  while_spread n m tree.none less f = none_spread n (m + 0) (omega arith)
  while_spread n m (tree.more a tree.none) less f = none_spread n (m + (width a + 0)) (omega arith)
  while_spread n m (tree.more a (tree.more b tree.none)) less f = none_spread n (m + (width a + (width b + 0))) (omega arith)
  while_spread n m (tree.more a (tree.more b (tree.more c tree.none))) less f = none_spread n (m + (width a + (width b + (width c + 0)))) (omega arith)
  while_spread n m (tree.more a (tree.more b (tree.more c (tree.more d (tree.more x rest))))) less f = none_spread n (m + (width a + (width b + (width c + (width d + (width x + widths rest)))))) (omega arith)

  do_spread : (n m : ℕ) (parts : Asts) → n < m → AllFull parts → Spread n (m + widths parts) (places (loop_do n m parts))
  do_spread n m (tree.more s (tree.more word (tree.more paren (tree.more e rest)))) less f =
      in_front n m (m + (width s + (width word + (width paren + (width e + widths rest))))) (places (statement m s)) less
      (wider_spread m (m + width s) m (m + (width s + (width word + (width paren + (width e + widths rest))))) _ (omega arith) (omega arith) (statement_spread m s f.0))
  do_spread n m tree.none less f = none_spread n (m + 0) (omega arith)
  do_spread n m (tree.more a tree.none) less f = none_spread n (m + (width a + 0)) (omega arith)
  do_spread n m (tree.more a (tree.more b tree.none)) less f = none_spread n (m + (width a + (width b + 0))) (omega arith)
  do_spread n m (tree.more a (tree.more b (tree.more c tree.none))) less f = none_spread n (m + (width a + (width b + (width c + 0)))) (omega arith)

  for_spread : (n m : ℕ) (parts : Asts) → n < m → AllFull parts → Spread n (m + widths parts) (places (loop_for n m parts))
  for_spread n m tree.none less f = none_spread n (m + 0) (omega arith)
  for_spread n m (tree.more paren tree.none) less f = none_spread n (m + (width paren + 0)) (omega arith)
  for_spread n m (tree.more paren (tree.more x rest)) less f =
      let p = m + width paren + width x in
      one_of n (m + (width paren + (width x + widths rest))) (is_leaf kinds.Semicolon x) (for_test n Nothing p rest) (behind_init n (for_init (m + width paren) x) p rest)
      (λ e. wider_spread n (p + widths rest) n (m + (width paren + (width x + widths rest))) _ (omega arith) (omega arith)
      (for_test_spread n Nothing p p rest (omega arith) (none_spread p p (omega arith)) f.1.1))
      (λ e. wider_spread n (p + widths rest) n (m + (width paren + (width x + widths rest))) _ (omega arith) (omega arith)
      (behind_init_spread n (for_init (m + width paren) x) (m + width paren) p rest (omega arith) (for_init_spread (m + width paren) x f.1.0) f.1.1))

  behind_init_spread : (n : ℕ) (init : ForInit) (from m : ℕ) (parts : Asts) → n < from → Spread from m (init_places init) → AllFull parts → Spread n (m + widths parts) (places (behind_init n init m parts))
  behind_init_spread n init from m tree.none less h f = let rising : 8 * from ≤ 8 * m = h.rising in none_spread n (m + 0) (omega arith)
  behind_init_spread n init from m (tree.more semicolon rest) less h f =
      wider_spread n (m + width semicolon + widths rest) n (m + (width semicolon + widths rest)) _ (omega arith) (omega arith)
      (for_test_spread n init from (m + width semicolon) rest less (wider_spread from m from (m + width semicolon) (init_places init) (omega arith) (omega arith) h) f.1)

  for_test_spread : (n : ℕ) (init : ForInit) (from m : ℕ) (parts : Asts) → n < from → Spread from m (init_places init) → AllFull parts → Spread n (m + widths parts) (places (for_test n init m parts))
  for_test_spread n init from m tree.none less h f = let rising : 8 * from ≤ 8 * m = h.rising in none_spread n (m + 0) (omega arith)
  for_test_spread n init from m (tree.more x tree.none) less h f = let rising : 8 * from ≤ 8 * m = h.rising in none_spread n (m + (width x + 0)) (omega arith)
  for_test_spread n init from m (tree.more x (tree.more y rest)) less h f =
      let rising : 8 * from ≤ 8 * m = h.rising in
      let high = m + (width x + (width y + widths rest)) in
      let p = m + width x in
      let q = m + width x + width y in
      one_of n high (is_leaf kinds.Semicolon x)
      (For init None (effects p (tree.more y rest)) (body_behind p (tree.more y rest)) n) (For init (Some (expression m x)) (effects q rest) (body_behind q rest) n)
      (λ e. in_front n from high (init_places init ++ effect_places (effects p (tree.more y rest)) ++ places (body_behind p (tree.more y rest))) less
      (three_spread from m high (init_places init) (effect_places (effects p (tree.more y rest))) (places (body_behind p (tree.more y rest))) h
      (wider_spread p (p + (width y + widths rest)) m high _ (omega arith) (omega arith) (updates_spread p (tree.more y rest) f.1))))
      (λ e. in_front n from high (init_places init ++ effect_places (effects q rest) ++ places (body_behind q rest)) less
      (three_spread from m high (init_places init) (effect_places (effects q rest)) (places (body_behind q rest)) h
      (wider_spread q (q + widths rest) m high _ (omega arith) (omega arith) (updates_spread q rest f.1.1))))

  body_spread : (n : ℕ) (parts : Asts) → AllFull parts → Spread n (n + widths parts) (places (body_behind n parts))
  body_spread n tree.none f = none_spread n (n + 0) (omega arith)
  body_spread n (tree.more x tree.none) f = none_spread n (n + (width x + 0)) (omega arith)
  body_spread n (tree.more x (tree.more s rest)) f =
      let p = n + width x in
      let high = n + (width x + (width s + widths rest)) in
      one_of n high (is_leaf kinds.CloseParen x) (statement p s) (body_behind p (tree.more s rest))
      (λ e. wider_spread p (p + width s) n high _ (omega arith) (omega arith) (statement_spread p s f.1.0))
      (λ e. wider_spread p (p + (width s + widths rest)) n high _ (omega arith) (omega arith) (body_spread p (tree.more s rest) f.1))

  -- updates and the body behind them
  updates_spread : (n : ℕ) (parts : Asts) → AllFull parts → Spread n (n + widths parts) (effect_places (effects n parts) ++ places (body_behind n parts))
  updates_spread n tree.none f = none_spread n (n + 0) (omega arith)
  updates_spread n (tree.more e tree.none) f =
      let here : 1 ≤ width e = wide e f.0 in
      elim (is_leaf kinds.CloseParen e) as (λ b. Spread n (n + (width e + 0)) (effect_places (if b then [] else record { value = expression n e; token = n } ∷ []) ++ [])) [
        | true ↦ none_spread n (n + (width e + 0)) (omega arith)
        | false ↦ alone_at n (n + (width e + 0)) (omega arith)
      ]
  updates_spread n (tree.more e (tree.more s rest)) f =
      let here : 1 ≤ width e = wide e f.0 in
      let p = n + width e in
      let high = n + (width e + (width s + widths rest)) in
      elim (is_leaf kinds.CloseParen e) as (λ b. Spread n high (effect_places (if b then [] else record { value = expression n e; token = n } ∷ effects_behind p (tree.more s rest)) ++ places (if b then statement p s else body_behind p (tree.more s rest)))) [
        | true ↦ wider_spread p (p + width s) n high _ (omega arith) (omega arith) (statement_spread p s f.1.0)
        | false ↦ in_front n p high (effect_places (effects_behind p (tree.more s rest)) ++ places (body_behind p (tree.more s rest))) (omega arith)
            (wider_spread p (p + (width s + widths rest)) p high _ (omega arith) (omega arith) (further_spread p (tree.more s rest) f.1))
      ]

  -- from the part behind an update on
  further_spread : (n : ℕ) (parts : Asts) → AllFull parts → Spread n (n + widths parts) (effect_places (effects_behind n parts) ++ places (body_behind n parts))
  further_spread n tree.none f = none_spread n (n + 0) (omega arith)
  further_spread n (tree.more mark tree.none) f = none_spread n (n + (width mark + 0)) (omega arith)
  further_spread n (tree.more mark (tree.more e tree.none)) f =
      let here : 1 ≤ width e = wide e f.1.0 in
      let p = n + width mark in
      let high = n + (width mark + (width e + 0)) in
      comma_or_body n high (is_leaf kinds.Comma mark) (is_leaf kinds.CloseParen mark) (record { value = expression p e; token = p } ∷ []) (statement p e) Unknown (λ c. comma_leaf mark c kinds.CloseParen refl)
      (λ c. one_spread n high p Written (omega arith) (omega arith))
      (one_of n high (is_leaf kinds.CloseParen mark) (statement p e) Unknown
      (λ c. wider_spread p (p + width e) n high _ (omega arith) (omega arith) (statement_spread p e f.1.0)) (λ c. none_spread n high (omega arith)))
  further_spread n (tree.more mark (tree.more e (tree.more s rest))) f =
      let here : 1 ≤ width e = wide e f.1.0 in
      let p = n + width mark in
      let q = n + width mark + width e in
      let high = n + (width mark + (width e + (width s + widths rest))) in
      comma_or_body n high (is_leaf kinds.Comma mark) (is_leaf kinds.CloseParen mark) (record { value = expression p e; token = p } ∷ effects_behind q (tree.more s rest)) (statement p e) (body_behind p (tree.more e (tree.more s rest))) (λ c. comma_leaf mark c kinds.CloseParen refl)
      (λ c. head_spread n p high Written (effect_places (effects_behind q (tree.more s rest)) ++ places (if is_leaf kinds.CloseParen e then statement q s else body_behind q (tree.more s rest))) (omega arith)
      (elim (is_leaf kinds.CloseParen e) as (λ b. Spread (p + 1) high (effect_places (effects_behind q (tree.more s rest)) ++ places (if b then statement q s else body_behind q (tree.more s rest)))) [
        | true ↦ wider_spread q (q + (width s + widths rest)) (p + 1) high _ (omega arith) (omega arith) (closing_spread q s rest f.1.1.0 f.1.1.1 (statement_spread q s f.1.1.0))
        | false ↦ wider_spread q (q + (width s + widths rest)) (p + 1) high _ (omega arith) (omega arith) (further_spread q (tree.more s rest) f.1.1)
      ]))
      (one_of n high (is_leaf kinds.CloseParen mark) (statement p e) (body_behind p (tree.more e (tree.more s rest)))
      (λ c. wider_spread p (p + width e) n high _ (omega arith) (omega arith) (statement_spread p e f.1.0))
      (λ c. wider_spread p (p + (width e + (width s + widths rest))) n high _ (omega arith) (omega arith) (body_spread p (tree.more e (tree.more s rest)) f.1)))

  tried_spread : (n m : ℕ) (parts : Asts) → n < m → AllFull parts → Spread n (m + widths parts) (places (tried n m parts))
  tried_spread n m tree.none less f = none_spread n (m + 0) (omega arith)
  tried_spread n m (tree.more b rest) less f =
      let p = m + width b in
      let high = m + (width b + widths rest) in
      in_front n m high (block_places (block m b) ++ catch_places (catches p rest) ++ last_places (last_of p rest)) less
      (three_spread m p high (block_places (block m b)) (catch_places (catches p rest)) (last_places (last_of p rest)) (block_spread m b f.0)
      (wider_spread p (p + widths rest) p high _ (omega arith) (omega arith) (handlers_spread p rest f.1)))

  last_spread : (n : ℕ) (parts : Asts) → AllFull parts → Spread n (n + widths parts) (last_places (last_of n parts))
  last_spread n tree.none f = none_spread n (n + 0) (omega arith)
  last_spread n (tree.more x tree.none) f = none_spread n (n + (width x + 0)) (omega arith)
  last_spread n (tree.more x (tree.more b rest)) f =
      let p = n + width x in
      let high = n + (width x + (width b + widths rest)) in
      elim (is_leaf kinds.Finally x) as (λ c. Spread n high (last_places (if c then finally (block p b) else last_of p (tree.more b rest)))) [
        | true ↦ wider_spread p (p + width b) n high _ (omega arith) (omega arith) (block_spread p b f.1.0)
        | false ↦ wider_spread p (p + (width b + widths rest)) n high _ (omega arith) (omega arith) (last_spread p (tree.more b rest) f.1)
      ]

  handlers_spread : (n : ℕ) (parts : Asts) → AllFull parts → Spread n (n + widths parts) (catch_places (catches n parts) ++ last_places (last_of n parts))
  handlers_spread n tree.none f = none_spread n (n + 0) (omega arith)
  handlers_spread n (tree.more (Leaf o) tree.none) f = none_spread n (n + (1 + 0)) (omega arith)
  handlers_spread n (tree.more (Leaf o) (tree.more b rest)) f =
      let p = n + 1 in
      let high = n + (1 + (width b + widths rest)) in
      elim (is_leaf kinds.Finally (Leaf o)) as (λ c. Spread n high (last_places (if c then finally (block p b) else last_of p (tree.more b rest)))) [
        | true ↦ wider_spread p (p + width b) n high _ (omega arith) (omega arith) (block_spread p b f.1.0)
        | false ↦ wider_spread p (p + (width b + widths rest)) n high _ (omega arith) (omega arith) (last_spread p (tree.more b rest) f.1)
      ]
  handlers_spread n (tree.more (Node g ps) tree.none) f =
      clause_spread n ps uncaught [] (n + (widths ps + 0)) (parts_full ps f.0) (none_spread (n + widths ps) (n + (widths ps + 0)) (omega arith))
  handlers_spread n (tree.more (Node g ps) (tree.more b rest)) f =
      let p = n + widths ps in
      let high = n + (widths ps + (width b + widths rest)) in
      clause_spread n ps (catches p (tree.more b rest)) (last_places (last_of p (tree.more b rest))) high (parts_full ps f.0)
      (wider_spread p (p + (width b + widths rest)) p high _ (omega arith) (omega arith) (handlers_spread p (tree.more b rest) f.1))

  clause_spread : (n : ℕ) (ps : Asts) (others : Catches) (l : List Place) (high : ℕ) → AllFull ps → Spread (n + widths ps) high (catch_places others ++ l) → Spread n high (catch_places (clause n ps others) ++ l)
  clause_spread n (tree.more word (tree.more paren (tree.more class (tree.more x (tree.more close (tree.more b tree.none)))))) others l high f h =
      let p = n + width word + width paren + width class + width x + width close in
      three_spread n (p + width b) high (block_places (block p b)) (catch_places others) l
      (wider_spread p (p + width b) n (p + width b) _ (omega arith) (omega arith) (block_spread p b f.1.1.1.1.1.0))
      (wider_spread (n + (width word + (width paren + (width class + (width x + (width close + (width b + 0))))))) high (p + width b) high _ (omega arith) (omega arith) h)
  clause_spread n (tree.more word (tree.more paren (tree.more is_final (tree.more class (tree.more x (tree.more close (tree.more b tree.none))))))) others l high f h =
      let p = n + width word + width paren + width is_final + width class + width x + width close in
      three_spread n (p + width b) high (block_places (block p b)) (catch_places others) l
      (wider_spread p (p + width b) n (p + width b) _ (omega arith) (omega arith) (block_spread p b f.1.1.1.1.1.1.0))
      (wider_spread (n + (width word + (width paren + (width is_final + (width class + (width x + (width close + (width b + 0)))))))) high (p + width b) high _ (omega arith) (omega arith) h)
  clause_spread n ps others l high f h = wider_spread (n + widths ps) high n high (catch_places others ++ l) (omega arith) (omega arith) h

  thrown_spread : (n m : ℕ) (parts : Asts) (high : ℕ) → n < high → Spread n high (places (thrown n m parts))
  thrown_spread n m tree.none high less = none_spread n high (omega arith)
  thrown_spread n m (tree.more e semicolon) high less = alone_at n high less

  declared_spread : (is_final : Bool) (n m : ℕ) (parts : Asts) → AllFull parts → (high : ℕ) → n ≤ m → m + widths parts ≤ high → Spread n high (places (declared is_final m parts))
  declared_spread is_final n m tree.none f high a b = none_spread n high (omega arith)
  declared_spread is_final n m (tree.more ty tree.none) f high a b = none_spread n high (omega arith)
  declared_spread is_final n m (tree.more ty (tree.more all semicolon)) f high a b = later n (m + width ty) high all f.1.0 (omega arith) (omega arith)

  other_spread : (n : ℕ) (x : Ast) (parts : Asts) → Full x → AllFull parts → Spread n (n + (width x + widths parts)) (places (other n x parts))
  other_spread n x tree.none f g = none_spread n (n + (width x + 0)) (omega arith)
  other_spread n x (tree.more semicolon tree.none) f g = let here : 1 ≤ width x = wide x f in alone_at n (n + (width x + (width semicolon + 0))) (omega arith)
  other_spread n x (tree.more y (tree.more z tree.none)) f g =
      let here : 1 ≤ width x = wide x f in
      let p = n + width x + width y in
      let high = n + (width x + (width y + (width z + 0))) in
      one_of n high (is_leaf kinds.Colon y) (Labelled (named n x) (statement p z)) (Declare false (written_type n x) (declarators (n + width x) y))
      (λ e. in_front n p high (places (statement p z)) (omega arith) (wider_spread p (p + width z) p high _ (omega arith) (omega arith) (statement_spread p z g.1.0)))
      (λ e. later n (n + width x) high y g.0 (omega arith) (omega arith))
  other_spread n x (tree.more y (tree.more z (tree.more u rest))) f g = none_spread n (n + (width x + (width y + (width z + (width u + widths rest))))) (omega arith)
