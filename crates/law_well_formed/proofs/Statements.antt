-- The statements that a well-formed tree is have nothing missing.
use Rattle.std.proofs.Common.{◌≡◌, refl, sym, subst, ℕ, ◌+◌, Bool, true, false, if◌then◌else◌, List, [], ◌∷◌}
use Rattle.std.specs.Prelude.{Some, None}
use Rattle.wy_tree.specs.Seen.{Tok}
use Rattle.wy_tree.specs.Kinds.{kind_of, same}
use Rattle.wy_tree.specs.Ast.{Ast, Asts, Leaf, Node, node}
use Rattle.wy_tree.specs.Ast as tree
use Rattle.wy_tree.specs.Conditions.{leaf_kind, is_name}
use Rattle.wy_tree.specs.Grammar.{a, is_own, allows, Is, Match}
use Rattle.wy_tree.specs.Grammar as grammar
use Rattle.wy_tree.specs.declared.kind.Kind.{Kind}
use Rattle.wy_tree.specs.declared.kind.Kind.TheVariants as kinds
use Rattle.wy_tree.specs.declared.tree.Form.TheVariants as form
use Rattle.wy_tree.specs.declared.grammar.Class.TheVariants as classes
use Rattle.wy_tree.specs.declared.grammar.Sort.TheVariants as sorts
use Rattle.wy_tree.specs.declared.grammar.Row.TheVariants as rows
use Rattle.wy_tree.specs.declared.grammar.Item.{Item}
use Rattle.wy_tree.specs.declared.grammar.Item.TheVariants.{Part, Parts}
use Rattle.wy_tree.proofs.Tags.{same_is}
use Rattle.wy_syntax.specs.Syntax.{ForInit, Nothing, Statement, Empty, Declare, For, Labelled, Unknown, Last, finally, Catches}
use Rattle.wy_syntax.specs.Names.{width, widths, is_leaf, named, written}
use Rattle.wy_syntax.specs.Expressions.{expression}
use Rattle.wy_syntax.specs.Statements.{declarators, effects_behind, effects, for_init, statement, braces, block, statements, by_word, branch, otherwise, loop_while, loop_do, loop_for, behind_init, for_test, body_behind, other, tried, catches, clause, last_of}
use Rattle.wy_syntax.specs.Declarations.{is_block}
use Rattle.law_well_formed.proofs.Whole.{Names, WholeEffects, WholeInit, WholeStatement, WholeBlock, WholeStatements, WholeLast, WholeCatches, in_block}
use Rattle.law_well_formed.proofs.Leaves.{Worded, AllWorded, parts_worded, alone, is_operand, Plain, plain_leaf}
use Rattle.law_well_formed.proofs.Expressions.{told, HasPart}
use Rattle.law_well_formed.proofs.Declarators.{first_effects, second_effects, declarators_told, init_told}

-- ---- one of two

first_statement : (P : Names) (c b : Bool) (x y : Statement) → b ≡ true → WholeStatement P c x → WholeStatement P c (if b then x else y)
first_statement P c true x y e h = h
first_statement P c false x y e h = absurd cc

second_statement : (P : Names) (c b : Bool) (x y : Statement) → b ≡ false → WholeStatement P c y → WholeStatement P c (if b then x else y)
second_statement P c true x y e h = absurd cc
second_statement P c false x y e h = h

first_last : (P : Names) (b : Bool) (x y : Last) → b ≡ true → WholeLast P x → WholeLast P (if b then x else y)
first_last P true x y e h = h
first_last P false x y e h = absurd cc

-- ---- first words

-- a word that a statement begins with
abbrev is_word : Kind → Bool
is_word kinds.If = true
is_word kinds.While = true
is_word kinds.Do = true
is_word kinds.For = true
is_word kinds.Break = true
is_word kinds.Continue = true
is_word kinds.Return = true
is_word kinds.Throw = true
is_word kinds.Try = true
is_word kinds.Final = true
is_word _ = false

name_word : (k : Kind) → is_name k ≡ true → is_word k ≡ false
name_word kinds.Word e = refl
name_word kinds.Override e = refl
name_word _ e = absurd cc

operand_word : (k : Kind) → is_operand k ≡ true → is_word k ≡ false
operand_word kinds.Word e = refl
operand_word kinds.Override e = refl
operand_word kinds.This e = refl
operand_word kinds.Literal e = refl
operand_word _ e = absurd cc

element_word : (k : Kind) → allows classes.Element k ≡ true → is_word k ≡ false
element_word kinds.Word e = refl
element_word kinds.Override e = refl
element_word kinds.Prim e = refl
element_word _ e = absurd cc

plain_word : (t : Ast) → Plain t → is_word (leaf_kind t) ≡ false
plain_word (Leaf o) h = operand_word (kind_of o) h
plain_word (Node f parts) h = refl

type_node : (o : Tok) (ts : Asts) → allows classes.Element (kind_of o) ≡ true → is_word (leaf_kind (node form.TypeNode (tree.more (Leaf o) ts))) ≡ false
type_node o tree.none m = element_word (kind_of o) m
type_node o (tree.more t rest) m = refl

type_word : (t : Ast) → Is sorts.Type t → is_word (leaf_kind t) ≡ false
type_word t (grammar.made (grammar.token {o} {ts} m w) e q) = let Q : Ast → Type 0 = λ u. is_word (leaf_kind u) ≡ false in subst Q (sym q) (type_node o ts m)
type_word t (grammar.grown v (grammar.operator e) w j q) = absurd cc

by_other : (P : Names) (b : Bool) (k : Kind) (n : ℕ) (x : Ast) (parts : Asts) → is_word k ≡ false → WholeStatement P b (other n x parts) → WholeStatement P b (by_word k n (tree.more x parts))
unfolding by_word
by_other P b kinds.If n x parts e h = absurd cc
by_other P b kinds.While n x parts e h = absurd cc
by_other P b kinds.Do n x parts e h = absurd cc
by_other P b kinds.For n x parts e h = absurd cc
by_other P b kinds.Break n x parts e h = absurd cc
by_other P b kinds.Continue n x parts e h = absurd cc
by_other P b kinds.Return n x parts e h = absurd cc
by_other P b kinds.Throw n x parts e h = absurd cc
by_other P b kinds.Try n x parts e h = absurd cc
by_other P b kinds.Final n x parts e h = absurd cc
by_other P b _ n x parts e h = h

by_kind : (P : Names) (b : Bool) (k j : Kind) (n : ℕ) (parts : Asts) → same k j ≡ true → WholeStatement P b (by_word j n parts) → WholeStatement P b (by_word k n parts)
by_kind P b k j n parts e h = let Q : Kind → Type 0 = λ x. WholeStatement P b (by_word x n parts) in subst Q (sym (same_is k j e)) h

-- ---- what a tree says

abbrev pub StatementTold : Names → Ast → Type 0
StatementTold P t = ((n : ℕ) → WholeStatement P false (statement n t)) × (is_own (leaf_kind t) ≡ false)

-- a statement of a block
abbrev pub LocalTold : Names → Ast → Type 0
LocalTold P t = ((n : ℕ) → WholeStatement P true (statement n t)) × (is_own (leaf_kind t) ≡ false)

abbrev pub BlockTold : Names → Ast → Type 0
BlockTold P t = (is_block t ≡ true) × ((n : ℕ) → WholeBlock P (block n t))

block_statement : (P : Names) (t : Ast) → BlockTold P t → StatementTold P t
unfolding statement block
block_statement P (Leaf o) h = absurd (let e : false ≡ true = h.0 in cc)
block_statement P (Node form.Block parts) h = (h.1, refl)
block_statement P (Node _ parts) h = absurd (let e : false ≡ true = h.0 in cc)

own_semicolon : (k : Kind) → same k kinds.Semicolon ≡ true → is_own k ≡ false
own_semicolon kinds.Semicolon e = refl
own_semicolon _ e = absurd cc

empty_told : (P : Names) (o : Tok) → same (kind_of o) kinds.Semicolon ≡ true → StatementTold P (Leaf o)
unfolding statement
empty_told P o m = (λ n. first_statement P false (same (kind_of o) kinds.Semicolon) (Empty n) Unknown m tt, own_semicolon (kind_of o) m)

-- statements and the brace behind them
abbrev pub to_brace : List Item
to_brace = Parts (rows.Any sorts.Local) ∷ a kinds.CloseBrace ∷ []

pub brace_part : (ts : Asts) → Match to_brace ts → HasPart ts
brace_part ts (grammar.chosen grammar.none_of (grammar.token m w)) = tt
brace_part ts (grammar.chosen grammar.some_of (grammar.part v w)) = tt

block_node : (P : Names) (o : Tok) (ts : Asts) → HasPart ts → ((n : ℕ) → WholeStatements P (statements n ts)) → BlockTold P (node form.Block (tree.more (Leaf o) ts))
unfolding block braces
block_node P o tree.none h i = absurd h
block_node P o (tree.more t rest) h i = (refl, λ n. i (n + 1))

first_told : (P : Names) (t : Ast) (ts : Asts) (n : ℕ) → HasPart ts → WholeStatement P true (statement n t) → WholeStatements P (statements (n + width t) ts) → WholeStatements P (statements n (tree.more t ts))
unfolding statements
first_told P t tree.none n h i j = absurd h
first_told P t (tree.more u rest) n h i j = (i, j)

-- ---- the end of a `for`

abbrev to_body : List Item
to_body = a kinds.CloseParen ∷ Part sorts.Stmt ∷ []

abbrev updating : List Item
updating = Parts (rows.Series sorts.Effect) ∷ to_body

updates_part : (ts : Asts) → Match updating ts → HasPart ts
updates_part ts (grammar.chosen grammar.no_series (grammar.token m w)) = tt
updates_part ts (grammar.chosen grammar.series (grammar.part v w)) = tt

further_part : (ts : Asts) → Match (Parts (rows.Further sorts.Effect) ∷ to_body) ts → HasPart ts
further_part ts (grammar.chosen grammar.no_further (grammar.token m w)) = tt
further_part ts (grammar.chosen grammar.further (grammar.token m w)) = tt

skipped : (P : Names) (x : Ast) (ts : Asts) (n : ℕ) → is_leaf kinds.CloseParen x ≡ false → HasPart ts → WholeStatement P false (body_behind (n + width x) ts) → WholeStatement P false (body_behind n (tree.more x ts))
unfolding body_behind
skipped P x tree.none n e h i = absurd h
skipped P x (tree.more s rest) n e h i = second_statement P false (is_leaf kinds.CloseParen x) (statement (n + width x) s) _ e i

absent_test : (P : Names) (n : ℕ) (init : ForInit) (m : ℕ) (o : Tok) (ts : Asts) → same (kind_of o) kinds.Semicolon ≡ true → HasPart ts → WholeInit P init → WholeEffects P (effects (m + 1) ts) × WholeStatement P false (body_behind (m + 1) ts) →
    WholeStatement P false (for_test n init m (tree.more (Leaf o) ts))
unfolding for_test
absent_test P n init m o tree.none e h g i = absurd h
absent_test P n init m o (tree.more y rest) e h g i =
    first_statement P false (same (kind_of o) kinds.Semicolon) (For init None (effects (m + 1) (tree.more y rest)) (body_behind (m + 1) (tree.more y rest)) n) _ e (g, tt, i.0, i.1)

-- ---- the end of a `try`

abbrev Handled : Names → Asts → Type 0
Handled P ts = (n : ℕ) → WholeCatches P (catches n ts) × WholeLast P (last_of n ts)

abbrev CatchTold : Names → Ast → Type 0
CatchTold P t = (ts : Asts) × (t ≡ Node form.Catch ts) × ((n : ℕ) (others : Catches) → WholeCatches P others → WholeCatches P (clause n ts others))

past_catch : (P : Names) (parts ts : Asts) (n : ℕ) → WholeLast P (last_of (n + widths parts) ts) → WholeLast P (last_of n (tree.more (Node form.Catch parts) ts))
unfolding last_of
past_catch P parts tree.none n h = tt
past_catch P parts (tree.more b rest) n h = h

one_more : (P : Names) (t : Ast) (ts : Asts) → CatchTold P t → Handled P ts → Handled P (tree.more t ts)
unfolding catches
one_more P t ts c h =
    let Q : Ast → Type 0 = λ u. Handled P (tree.more u ts) in
    subst Q (sym c.1) (λ n. (c.2 n (catches (n + widths c.0) ts) (h (n + widths c.0)).0, past_catch P c.0 ts n (h (n + widths c.0)).1))

mutual
  unfolding effects effects_behind statement braces block statements by_word branch otherwise loop_while loop_do loop_for behind_init for_test body_behind other tried catches clause last_of

  pub block_told : (P : Names) (t : Ast) → Is sorts.Block t → Worded P t → BlockTold P t
  block_told P t (grammar.made {ts} (grammar.token {o} {ts = rest} m w) e q) h =
      let g = parts_worded P form.Block ts (subst (Worded P) q h) in
      subst (BlockTold P) (sym q) (block_node P o rest (brace_part rest w) (λ n. locals_told P rest w g.1 n))
  block_told P t (grammar.grown v (grammar.operator e) w j q) h = absurd cc

  locals_told : (P : Names) (ts : Asts) → Match to_brace ts → AllWorded P ts → (n : ℕ) → WholeStatements P (statements n ts)
  locals_told P ts (grammar.chosen grammar.none_of (grammar.token m grammar.done)) h n = tt
  locals_told P ts (grammar.chosen grammar.some_of (grammar.part {t} {ts = rest} v w)) h n =
      first_told P t rest n (brace_part rest w) ((local_told P t v h.0).0 n) (locals_told P rest w h.1 (n + width t))

  pub local_told : (P : Names) (t : Ast) → Is sorts.Local t → Worded P t → LocalTold P t
  local_told P t (grammar.made {ts} (grammar.chosen grammar.a_declaration (grammar.chosen grammar.not_final (grammar.part {t = ty} v (grammar.part {t = all} u (grammar.token {o} m grammar.done))))) e q) h =
      let g = parts_worded P form.Stmt ts (subst (Worded P) q h) in
      let ds = declarators_told P all u g.1.0 in
      subst (LocalTold P) (sym q) (
        λ n. by_other P true (leaf_kind ty) n ty (tree.more all (tree.more (Leaf o) tree.none)) (type_word ty v)
            (second_statement P true (is_leaf kinds.Colon all) _ (Declare false (written n ty) (declarators (n + width ty) all)) ds.1 (refl, ds.0 (n + width ty))),
        refl,
      )
  local_told P t (grammar.made {ts} (grammar.chosen grammar.a_declaration (grammar.chosen grammar.is_final (grammar.token {o = f} k (grammar.part {t = ty} v (grammar.part {t = all} u (grammar.token {o} m grammar.done)))))) e q) h =
      let g = parts_worded P form.Stmt ts (subst (Worded P) q h) in
      let ds = declarators_told P all u g.1.1.0 in
      subst (LocalTold P) (sym q)
      (λ n. by_kind P true (kind_of f) kinds.Final n (tree.more (Leaf f) (tree.more ty (tree.more all (tree.more (Leaf o) tree.none)))) k (refl, ds.0 (n + 1 + width ty)), refl)
  local_told P t (grammar.made {ts} (grammar.chosen grammar.a_statement (grammar.part {t = s} v grammar.done)) e q) h =
      let x = statement_told P s v (subst (Worded P) q h) in
      subst (LocalTold P) (sym q) (λ n. in_block P true (statement n s) (x.0 n), x.1)
  local_told P t (grammar.grown v (grammar.operator e) w j q) h = absurd cc

  pub statement_told : (P : Names) (t : Ast) → Is sorts.Stmt t → Worded P t → StatementTold P t
  statement_told P t (grammar.made {ts} (grammar.chosen grammar.a_block (grammar.part {t = b} v grammar.done)) e q) h =
      subst (StatementTold P) (sym q) (block_statement P b (block_told P b v (subst (Worded P) q h)))
  statement_told P t (grammar.made {ts} (grammar.chosen grammar.empty (grammar.token {o} m grammar.done)) e q) h = subst (StatementTold P) (sym q) (empty_told P o m)
  statement_told P t (grammar.made {ts} (grammar.chosen grammar.an_effect (grammar.part {t = x} v (grammar.token {o} m grammar.done))) e q) h =
      let g = parts_worded P form.Stmt ts (subst (Worded P) q h) in
      let y = told P sorts.Effect x refl v g.0 in
      subst (StatementTold P) (sym q) (λ n. by_other P false (leaf_kind x) n x (tree.more (Leaf o) tree.none) (plain_word x y.0) (y.1 n), refl)
  statement_told P t (grammar.made {ts} (grammar.chosen grammar.an_if (grammar.token {o} m (grammar.token {o = p} k (grammar.part {t = x} v (grammar.token {o = r} l (grammar.part {t = s} u (grammar.chosen grammar.no_else grammar.done))))))) e q) h =
      let g = parts_worded P form.Stmt ts (subst (Worded P) q h) in
      subst (StatementTold P) (sym q)
      (λ n. by_kind P false (kind_of o) kinds.If n ts m ((told P sorts.Expr x refl v g.1.1.0).1 (n + 1 + 1), (statement_told P s u g.1.1.1.1.0).0 (n + 1 + 1 + width x + 1), tt), refl)
  statement_told P t (grammar.made {ts} (grammar.chosen grammar.an_if (grammar.token {o} m (grammar.token {o = p} k (grammar.part {t = x} v (grammar.token {o = r} l (grammar.part {t = s} u (grammar.chosen grammar.an_else (grammar.token {o = z} j (grammar.part {t = y} w grammar.done))))))))) e q) h =
      let g = parts_worded P form.Stmt ts (subst (Worded P) q h) in
      subst (StatementTold P) (sym q)
      (λ n. by_kind P false (kind_of o) kinds.If n ts m ((told P sorts.Expr x refl v g.1.1.0).1 (n + 1 + 1), (statement_told P s u g.1.1.1.1.0).0 (n + 1 + 1 + width x + 1), (statement_told P y w g.1.1.1.1.1.1.0).0 (n + 1 + 1 + width x + 1 + width s + 1)), refl)
  statement_told P t (grammar.made {ts} (grammar.chosen grammar.a_while (grammar.token {o} m (grammar.token {o = p} k (grammar.part {t = x} v (grammar.token {o = r} l (grammar.part {t = s} u grammar.done)))))) e q) h =
      let g = parts_worded P form.Stmt ts (subst (Worded P) q h) in
      subst (StatementTold P) (sym q) (λ n. by_kind P false (kind_of o) kinds.While n ts m ((told P sorts.Expr x refl v g.1.1.0).1 (n + 1 + 1), (statement_told P s u g.1.1.1.1.0).0 (n + 1 + 1 + width x + 1)), refl)
  statement_told P t (grammar.made {ts} (grammar.chosen grammar.a_do (grammar.token {o} m (grammar.part {t = s} u (grammar.token {o = z} j (grammar.token {o = p} k (grammar.part {t = x} v (grammar.token {o = r} l (grammar.token {o = y} d grammar.done)))))))) e q) h =
      let g = parts_worded P form.Stmt ts (subst (Worded P) q h) in
      subst (StatementTold P) (sym q) (λ n. by_kind P false (kind_of o) kinds.Do n ts m ((statement_told P s u g.1.0).0 (n + 1), (told P sorts.Expr x refl v g.1.1.1.1.0).1 (n + 1 + width s + 1 + 1)), refl)
  statement_told P t (grammar.made {ts} (grammar.chosen grammar.a_for (grammar.token {o} m (grammar.token {o = p} k (grammar.chosen grammar.absent (grammar.token {o = s} {ts = rest} l w))))) e q) h =
      let g = parts_worded P form.Stmt ts (subst (Worded P) q h) in
      subst (StatementTold P) (sym q)
      (λ n. by_kind P false (kind_of o) kinds.For n ts m (first_statement P false (same (kind_of s) kinds.Semicolon) (for_test n Nothing (n + 1 + 1 + 1) rest) _ l (test_told P rest w g.1.1.1 n Nothing tt (n + 1 + 1 + 1))), refl)
  statement_told P t (grammar.made {ts} (grammar.chosen grammar.a_for (grammar.token {o} m (grammar.token {o = p} k (grammar.chosen grammar.present (grammar.part {t = x} v (grammar.token {o = s} {ts = rest} l w)))))) e q) h =
      let g = parts_worded P form.Stmt ts (subst (Worded P) q h) in
      let i = init_told P x v g.1.1.0 in
      subst (StatementTold P) (sym q) (
        λ n. by_kind P false (kind_of o) kinds.For n ts m (second_statement P false (is_leaf kinds.Semicolon x) _ (for_test n (for_init (n + 1 + 1) x) (n + 1 + 1 + width x + 1) rest) i.0
            (test_told P rest w g.1.1.1.1 n (for_init (n + 1 + 1) x) (i.1 (n + 1 + 1)) (n + 1 + 1 + width x + 1))),
        refl,
      )
  statement_told P t (grammar.made {ts} (grammar.chosen grammar.labelled (grammar.token {o} m (grammar.token {o = c} k (grammar.part {t = s} u grammar.done)))) e q) h =
      let g = parts_worded P form.Stmt ts (subst (Worded P) q h) in
      subst (StatementTold P) (sym q) (
        λ n. by_other P false (kind_of o) n (Leaf o) (tree.more (Leaf c) (tree.more s tree.none)) (name_word (kind_of o) m)
            (first_statement P false (same (kind_of c) kinds.Colon) (Labelled (named n (Leaf o)) (statement (n + 1 + 1) s)) _ k ((statement_told P s u g.1.1.0).0 (n + 1 + 1))),
        refl,
      )
  statement_told P t (grammar.made {ts} (grammar.chosen grammar.a_break (grammar.token {o} m (grammar.chosen grammar.no_label (grammar.token k grammar.done)))) e q) h =
      subst (StatementTold P) (sym q) (λ n. by_kind P false (kind_of o) kinds.Break n ts m tt, refl)
  statement_told P t (grammar.made {ts} (grammar.chosen grammar.a_break (grammar.token {o} m (grammar.chosen grammar.label (grammar.token l (grammar.token k grammar.done))))) e q) h =
      subst (StatementTold P) (sym q) (λ n. by_kind P false (kind_of o) kinds.Break n ts m tt, refl)
  statement_told P t (grammar.made {ts} (grammar.chosen grammar.a_continue (grammar.token {o} m (grammar.chosen grammar.no_label (grammar.token k grammar.done)))) e q) h =
      subst (StatementTold P) (sym q) (λ n. by_kind P false (kind_of o) kinds.Continue n ts m tt, refl)
  statement_told P t (grammar.made {ts} (grammar.chosen grammar.a_continue (grammar.token {o} m (grammar.chosen grammar.label (grammar.token l (grammar.token k grammar.done))))) e q) h =
      subst (StatementTold P) (sym q) (λ n. by_kind P false (kind_of o) kinds.Continue n ts m tt, refl)
  statement_told P t (grammar.made {ts} (grammar.chosen grammar.a_return (grammar.token {o} m (grammar.chosen grammar.absent (grammar.token k grammar.done)))) e q) h =
      subst (StatementTold P) (sym q) (λ n. by_kind P false (kind_of o) kinds.Return n ts m tt, refl)
  statement_told P t (grammar.made {ts} (grammar.chosen grammar.a_return (grammar.token {o} m (grammar.chosen grammar.present (grammar.part {t = x} v (grammar.token k grammar.done))))) e q) h =
      let g = parts_worded P form.Stmt ts (subst (Worded P) q h) in
      subst (StatementTold P) (sym q) (λ n. by_kind P false (kind_of o) kinds.Return n ts m ((told P sorts.Expr x refl v g.1.0).1 (n + 1)), refl)
  statement_told P t (grammar.made {ts} (grammar.chosen grammar.a_throw (grammar.token {o} m (grammar.part {t = x} v (grammar.token k grammar.done)))) e q) h =
      let g = parts_worded P form.Stmt ts (subst (Worded P) q h) in
      subst (StatementTold P) (sym q) (λ n. by_kind P false (kind_of o) kinds.Throw n ts m ((told P sorts.Expr x refl v g.1.0).1 (n + 1)), refl)
  statement_told P t (grammar.made {ts} (grammar.chosen grammar.a_try (grammar.token {o} m (grammar.part {t = b} {ts = rest} v w))) e q) h =
      let g = parts_worded P form.Stmt ts (subst (Worded P) q h) in
      subst (StatementTold P) (sym q)
      (λ n. by_kind P false (kind_of o) kinds.Try n ts m ((block_told P b v g.1.0).1 (n + 1), (handlers_told P rest w g.1.1 (n + 1 + width b)).0, (handlers_told P rest w g.1.1 (n + 1 + width b)).1), refl)
  statement_told P t (grammar.grown v (grammar.operator e) w j q) h = absurd cc

  -- from the test of a `for` on
  test_told : (P : Names) (ts : Asts) → Match (Parts (rows.Maybe sorts.Expr) ∷ a kinds.Semicolon ∷ updating) ts → AllWorded P ts → (n : ℕ) (init : ForInit) → WholeInit P init → (m : ℕ) → WholeStatement P false (for_test n init m ts)
  test_told P ts (grammar.chosen grammar.absent (grammar.token {o} {ts = rest} e w)) h n init g m =
      absent_test P n init m o rest e (updates_part rest w) g (updates_told P rest w h.1 (m + 1))
  test_told P ts (grammar.chosen grammar.present (grammar.part {t = x} v (grammar.token {o} {ts = rest} e w))) h n init g m =
      let y = told P sorts.Expr x refl v h.0 in
      let us = updates_told P rest w h.1.1 (m + width x + 1) in
      second_statement P false (is_leaf kinds.Semicolon x) _ (For init (Some (expression m x)) (effects (m + width x + 1) rest) (body_behind (m + width x + 1) rest) n) (plain_leaf kinds.Semicolon refl x y.0) (g, y.1 m, us.0, us.1)

  updates_told : (P : Names) (ts : Asts) → Match updating ts → AllWorded P ts → (n : ℕ) → WholeEffects P (effects n ts) × WholeStatement P false (body_behind n ts)
  updates_told P ts (grammar.chosen grammar.no_series (grammar.token {o} m (grammar.part {t = s} v grammar.done))) h n =
      (first_effects P (same (kind_of o) kinds.CloseParen) [] _ m tt, first_statement P false (same (kind_of o) kinds.CloseParen) (statement (n + 1) s) _ m ((statement_told P s v h.1.0).0 (n + 1)))
  updates_told P ts (grammar.chosen grammar.series (grammar.part {t = x} {ts = rest} v w)) h n =
      let y = told P sorts.Effect x refl v h.0 in
      let more = others_told P rest w h.1 (n + width x) in
      (second_effects P (is_leaf kinds.CloseParen x) [] _ (plain_leaf kinds.CloseParen refl x y.0) (y.1 n, more.0), skipped P x rest n (plain_leaf kinds.CloseParen refl x y.0) (further_part rest w) more.1)

  -- behind an update
  others_told : (P : Names) (ts : Asts) → Match (Parts (rows.Further sorts.Effect) ∷ to_body) ts → AllWorded P ts → (n : ℕ) → WholeEffects P (effects_behind n ts) × WholeStatement P false (body_behind n ts)
  others_told P ts (grammar.chosen grammar.no_further (grammar.token {o} m (grammar.part {t = s} v grammar.done))) h n = (
    second_effects P (same (kind_of o) kinds.Comma) _ [] (alone (kind_of o) kinds.CloseParen kinds.Comma m refl) tt,
    first_statement P false (same (kind_of o) kinds.CloseParen) (statement (n + 1) s) _ m ((statement_told P s v h.1.0).0 (n + 1)),
  )
  others_told P ts (grammar.chosen grammar.further (grammar.token {o} m (grammar.part {t = x} {ts = rest} v w))) h n =
      let y = told P sorts.Effect x refl v h.1.0 in
      let more = others_told P rest w h.1.1 (n + 1 + width x) in (
        first_effects P (same (kind_of o) kinds.Comma) (record { value = expression (n + 1) x; token = n + 1 } ∷ effects_behind (n + 1 + width x) rest) _ m (y.1 (n + 1), more.0),
        skipped P (Leaf o) (tree.more x rest) n (alone (kind_of o) kinds.Comma kinds.CloseParen m refl) tt (skipped P x rest (n + 1) (plain_leaf kinds.CloseParen refl x y.0) (further_part rest w) more.1),
      )

  handlers_told : (P : Names) (ts : Asts) → Match (Parts rows.Handlers ∷ []) ts → AllWorded P ts → Handled P ts
  handlers_told P ts (grammar.chosen grammar.catches (grammar.part {t = c} {ts = rest} v w)) h = one_more P c rest (catch_told P c v h.0) (catches_told P rest w h.1)
  handlers_told P ts (grammar.chosen grammar.only_finally (grammar.token {o} m (grammar.part {t = b} v grammar.done))) h = λ n.
      (tt, first_last P (same (kind_of o) kinds.Finally) (finally (block (n + 1) b)) _ m ((block_told P b v h.1.0).1 (n + 1)))

  catches_told : (P : Names) (ts : Asts) → Match (Parts (rows.Any sorts.Catch) ∷ Parts rows.Finally ∷ []) ts → AllWorded P ts → Handled P ts
  catches_told P ts (grammar.chosen grammar.none_of (grammar.chosen grammar.no_finally grammar.done)) h = λ n. (tt, tt)
  catches_told P ts (grammar.chosen grammar.none_of (grammar.chosen grammar.finally (grammar.token {o} m (grammar.part {t = b} v grammar.done)))) h = λ n.
      (tt, first_last P (same (kind_of o) kinds.Finally) (finally (block (n + 1) b)) _ m ((block_told P b v h.1.0).1 (n + 1)))
  catches_told P ts (grammar.chosen grammar.some_of (grammar.part {t = c} {ts = rest} v w)) h = one_more P c rest (catch_told P c v h.0) (catches_told P rest w h.1)

  catch_told : (P : Names) (t : Ast) → Is sorts.Catch t → Worded P t → CatchTold P t
  catch_told P t (grammar.made {ts} (grammar.token m (grammar.token k (grammar.chosen grammar.not_final (grammar.token l (grammar.token j (grammar.token i (grammar.part {t = b} v grammar.done))))))) e q) h =
      let g = parts_worded P form.Catch ts (subst (Worded P) q h) in
      (_, q, λ n others o. ((block_told P b v g.1.1.1.1.1.0).1 _, o))
  catch_told P t (grammar.made {ts} (grammar.token m (grammar.token k (grammar.chosen grammar.is_final (grammar.token f (grammar.token l (grammar.token j (grammar.token i (grammar.part {t = b} v grammar.done)))))))) e q) h =
      let g = parts_worded P form.Catch ts (subst (Worded P) q h) in
      (_, q, λ n others o. ((block_told P b v g.1.1.1.1.1.1.0).1 _, o))
  catch_told P t (grammar.grown v (grammar.operator e) w j q) h = absurd cc
