-- The expression that a well-formed tree is has nothing missing.
use Rattle.std.proofs.Common.{◌≡◌, refl, sym, subst, ℕ, ◌+◌, Bool, true, false, ◌||◌, if◌then◌else◌, List, [], ◌∷◌}
use Rattle.wy_tree.specs.Seen.{Tok}
use Rattle.wy_tree.specs.Kinds.{kind_of, same}
use Rattle.wy_tree.specs.Ast.{Ast, Asts, Leaf, Node, node}
use Rattle.wy_tree.specs.Ast as tree
use Rattle.wy_tree.specs.Grammar.{a, form_of, tighter, operates, rule, Suffix, Is, Match}
use Rattle.wy_tree.specs.Grammar as grammar
use Rattle.wy_tree.specs.declared.kind.Kind.{Kind}
use Rattle.wy_tree.specs.declared.kind.Kind.TheVariants as kinds
use Rattle.wy_tree.specs.declared.tree.Form.TheVariants as form
use Rattle.wy_tree.specs.declared.grammar.Sort.{Sort}
use Rattle.wy_tree.specs.declared.grammar.Sort.TheVariants as sorts
use Rattle.wy_tree.specs.declared.grammar.Row.TheVariants as rows
use Rattle.wy_tree.specs.declared.grammar.Item.{Item}
use Rattle.wy_tree.specs.declared.grammar.Item.TheVariants.{Parts}
use Rattle.wy_syntax.specs.Syntax.{Base, Expression, Group, Field, InvokeOn, SuperField, SuperInvoke, Element, NewArray, NewList, Unary, Step, Binary, Both, Either, InstanceOf, Assign, Update, Row, none, more, Value, Listed, Elements, no_more, element}
use Rattle.wy_syntax.specs.Names.{width, is_leaf, word_of, sign_of, written, operator, updating, prefix, is_up}
use Rattle.wy_syntax.specs.Expressions.{joined, assigned, prefixed, is_mark, stepped, is_braced, expression, assignment, choice, binary, unary, cast, postfix, primary, creation, sizes, listed, elements, inside, arguments_of, arguments, initial}
use Rattle.law_typed.specs.ExpressionsWritten.{IsSome}
use Rattle.law_well_formed.proofs.Whole.{Names, Whole, WholeRow, WholeInitial, WholeElements}
use Rattle.law_well_formed.proofs.Leaves.{Worded, AllWorded, parts_worded, alone, is_operand, operand, name_operand, Plain, plain_leaf, plain_mark, plain_braced, leaf_whole, big_whole, updating_plain}

-- ---- one of two

pub chosen_first : (P : Names) (b : Bool) (x y : Expression) → b ≡ true → Whole P x → Whole P (if b then x else y)
chosen_first P true x y e h = h
chosen_first P false x y e h = absurd cc

pub chosen_second : (P : Names) (b : Bool) (x y : Expression) → b ≡ false → Whole P y → Whole P (if b then x else y)
chosen_second P true x y e h = absurd cc
chosen_second P false x y e h = h

either : (P : Names) (b : Bool) (x y : Expression) → Whole P x → Whole P y → Whole P (if b then x else y)
either P true x y h i = h
either P false x y h i = i

no_elements : (P : Names) (b c : Bool) (x : Elements) → b ≡ true → WholeElements P (if b || c then no_more else x)
no_elements P true c x e = tt
no_elements P false c x e = absurd cc

some_elements : (P : Names) (b : Bool) (x : Elements) → b ≡ false → WholeElements P x → WholeElements P (if b then no_more else x)
some_elements P true x e h = absurd cc
some_elements P false x e h = h

no_sizes : (P : Names) (b : Bool) (r : Row) → b ≡ true → WholeRow P (if b then none else r)
no_sizes P true r e = tt
no_sizes P false r e = absurd cc

some_sizes : (P : Names) (b : Bool) (e : Expression) (r : Row) → b ≡ false → Whole P e → WholeRow P r → IsSome (if b then none else more e r) × WholeRow P (if b then none else more e r)
some_sizes P true e r f h i = absurd cc
some_sizes P false e r f h i = (tt, (h, i))

-- an initial value is one of an expression
pub value_whole : (P : Names) (b : Bool) (x : Elements) (n : ℕ) (e : Expression) → b ≡ false → Whole P e → WholeInitial P (if b then Listed x n else Value e)
value_whole P true x n e f h = absurd cc
value_whole P false x n e f h = h

-- ---- operators

assigned_whole : (P : Names) (o : Tok) (l v : Expression) (n : ℕ) → Whole P l → Whole P v → Whole P (assigned o l v n)
assigned_whole P o l v n h i = either P (same (kind_of o) kinds.Assign) (Assign l v n) (Update (updating (sign_of o)) l v n) (tt, h, i) (updating_plain (sign_of o), h, i)

prefixed_whole : (P : Names) (o : Tok) (e : Expression) (n : ℕ) → Whole P e → Whole P (prefixed o e n)
prefixed_whole P o e n h = either P (same (kind_of o) kinds.Step) (Step true (is_up (sign_of o)) e n) (Unary (prefix (sign_of o)) e n) (tt, h) (tt, h)

joined_whole : (P : Names) (o : Tok) (l r : Expression) (n : ℕ) → Whole P l → Whole P r → Whole P (joined o l r n)
joined_whole P o l r n h i =
    either P (same (kind_of o) kinds.AndAlso) (Both l r n) _ (tt, h, i) (either P (same (kind_of o) kinds.OrElse) (Either l r n) (Binary (operator (sign_of o)) l r n) (tt, h, i) (tt, h, i))

-- ---- what a tree says

-- an expression
abbrev pub Told : Names → Ast → Type 0
Told P t = Plain t × ((n : ℕ) → Whole P (expression n t))

-- what a variable or an element is given first
abbrev pub InitialTold : Names → Ast → Type 0
InitialTold P t = (is_mark t ≡ false) × ((n : ℕ) → WholeInitial P (initial n t))

-- arguments
abbrev pub ArgumentsTold : Names → Ast → Type 0
ArgumentsTold P t = (n : ℕ) → WholeRow P (arguments_of n t)

-- the sorts of expressions
abbrev pub is_expression : Sort → Bool
is_expression sorts.Expr = true
is_expression sorts.Effect = true
is_expression sorts.Cond = true
is_expression sorts.OrElse = true
is_expression sorts.AndAlso = true
is_expression sorts.Or = true
is_expression sorts.Xor = true
is_expression sorts.And = true
is_expression sorts.Equality = true
is_expression sorts.Relation = true
is_expression sorts.Shift = true
is_expression sorts.Sum = true
is_expression sorts.Product = true
is_expression sorts.Unary = true
is_expression sorts.Cast = true
is_expression sorts.Operand = true
is_expression sorts.Postfix = true
is_expression sorts.Primary = true
is_expression sorts.New = true
is_expression _ = false

tighter_expression : (x : Sort) → is_expression (tighter x) ≡ true
tighter_expression sorts.OrElse = refl
tighter_expression sorts.AndAlso = refl
tighter_expression sorts.Or = refl
tighter_expression sorts.Xor = refl
tighter_expression sorts.And = refl
tighter_expression sorts.Equality = refl
tighter_expression sorts.Relation = refl
tighter_expression sorts.Shift = refl
tighter_expression sorts.Sum = refl
tighter_expression _ = refl

leaf_told : (P : Names) (o : Tok) → is_operand (kind_of o) ≡ true → Told P (Leaf o)
unfolding expression
leaf_told P o h = (h, λ n. leaf_whole P o n h)

-- an operator between two expressions
binary_told : (P : Names) (l r : Ast) (o : Tok) → Told P l → Told P r → Told P (Node form.Binary (tree.more l (tree.more (Leaf o) (tree.more r tree.none))))
unfolding expression binary
binary_told P l r o h i = (
  refl,
  λ n. either P (same (kind_of o) kinds.Instanceof) (InstanceOf (expression n l) (written (n + width l + 1) r) (n + width l)) _ (tt, h.1 n)
      (joined_whole P o (expression n l) (expression (n + width l + 1) r) (n + width l) (h.1 n) (i.1 (n + width l + 1))),
)

level_told : (P : Names) (x : Sort) (k : Kind) (l r : Ast) (o : Tok) → operates x k ≡ true → Told P l → Told P r → Told P (Node (form_of x) (tree.more l (tree.more (Leaf o) (tree.more r tree.none))))
level_told P sorts.OrElse k l r o e h i = binary_told P l r o h i
level_told P sorts.AndAlso k l r o e h i = binary_told P l r o h i
level_told P sorts.Or k l r o e h i = binary_told P l r o h i
level_told P sorts.Xor k l r o e h i = binary_told P l r o h i
level_told P sorts.And k l r o e h i = binary_told P l r o h i
level_told P sorts.Equality k l r o e h i = binary_told P l r o h i
level_told P sorts.Relation k l r o e h i = binary_told P l r o h i
level_told P sorts.Shift k l r o e h i = binary_told P l r o h i
level_told P sorts.Sum k l r o e h i = binary_told P l r o h i
level_told P sorts.Product k l r o e h i = binary_told P l r o h i
level_told P _ k l r o e h i = absurd cc

steps_whole : (P : Names) (ts : Asts) → Match (Parts rows.Steps ∷ []) ts → (e : Expression) (n : ℕ) → Whole P e → Whole P (stepped e n ts)
steps_whole P ts (grammar.chosen grammar.no_steps grammar.done) e n h = h
steps_whole P ts (grammar.chosen grammar.steps (grammar.token {o} {ts = rest} m w)) e n h = steps_whole P rest w (Step false (is_up (sign_of o)) e n) (n + 1) (tt, h)

-- the parts are not none
abbrev pub HasPart : Asts → Type 0
HasPart tree.none = ⊥
HasPart (tree.more t rest) = Unit {0}

abbrev listing : List Item
listing = Parts rows.Elements ∷ a kinds.CloseBrace ∷ []

listing_part : (ts : Asts) → Match listing ts → HasPart ts
listing_part ts (grammar.chosen grammar.no_elements (grammar.token m w)) = tt
listing_part ts (grammar.chosen grammar.comma_alone (grammar.token m w)) = tt
listing_part ts (grammar.chosen grammar.elements (grammar.part v w)) = tt

listed_told : (P : Names) (o : Tok) (ts : Asts) → HasPart ts → ((n : ℕ) → WholeElements P (elements n ts)) → InitialTold P (node form.Init (tree.more (Leaf o) ts))
unfolding inside
listed_told P o tree.none h i = absurd h
listed_told P o (tree.more t rest) h i = (refl, i)

value_told : (P : Names) (t : Ast) → Told P t → InitialTold P t
value_told P t h = (plain_mark t h.0, λ n. value_whole P (is_braced t) (inside n t) n (expression n t) (plain_braced t h.0) (h.1 n))

-- a production with one part is that part
alone_told : (P : Names) (x : Sort) (whole t : Ast) → whole ≡ node (form_of x) (tree.more t tree.none) → Worded P whole → (Worded P t → Told P t) → Told P whole
alone_told P x whole t q g is = subst (Told P) (sym q) (is (parts_worded P (form_of x) (tree.more t tree.none) (subst (Worded P) q g)).0)

mutual
  unfolding expression assignment choice binary unary cast postfix primary creation sizes listed elements arguments_of arguments

  pub told : (P : Names) (x : Sort) (t : Ast) → is_expression x ≡ true → Is x t → Worded P t → Told P t
  told P sorts.Expr whole i (grammar.made (grammar.part {t = l} v (grammar.chosen grammar.not_assigned grammar.done)) e q) g = alone_told P sorts.Expr whole l q g (told P sorts.Cond l refl v)
  told P sorts.Expr whole i (grammar.made {ts} (grammar.part {t = l} v (grammar.chosen grammar.assigned (grammar.token {o} m (grammar.part {t = r} u grammar.done)))) e q) g =
      let h = parts_worded P (form_of sorts.Expr) ts (subst (Worded P) q g) in
      subst (Told P) (sym q) (refl, λ n. assigned_whole P o (expression n l) (expression (n + width l + 1) r) (n + width l) ((told P sorts.Cond l refl v h.0).1 n) ((told P sorts.Expr r refl u h.1.1.0).1 (n + width l + 1)))
  told P sorts.Effect whole i (grammar.made (grammar.part {t} v grammar.done) e q) g = alone_told P sorts.Effect whole t q g (told P sorts.Expr t refl v)
  told P sorts.Cond whole i (grammar.made (grammar.part {t} v (grammar.chosen grammar.no_choice grammar.done)) e q) g = alone_told P sorts.Cond whole t q g (told P sorts.OrElse t refl v)
  told P sorts.Cond whole i (grammar.made {ts} (grammar.part {t = c} v (grammar.chosen grammar.choice (grammar.token {o} m (grammar.part {t = l} u (grammar.token {o = p} k (grammar.part {t = r} w grammar.done)))))) e q) g =
      let h = parts_worded P (form_of sorts.Cond) ts (subst (Worded P) q g) in
      subst (Told P) (sym q) (refl, λ n. (tt, (told P sorts.OrElse c refl v h.0).1 n, (told P sorts.Expr l refl u h.1.1.0).1 (n + width c + 1), (told P sorts.Cond r refl w h.1.1.1.1.0).1 (n + width c + 1 + width l + 1)))
  told P sorts.OrElse whole i (grammar.made (grammar.part {t} v grammar.done) e q) g = alone_told P sorts.OrElse whole t q g (told P sorts.AndAlso t refl v)
  told P sorts.AndAlso whole i (grammar.made (grammar.part {t} v grammar.done) e q) g = alone_told P sorts.AndAlso whole t q g (told P sorts.Or t refl v)
  told P sorts.Or whole i (grammar.made (grammar.part {t} v grammar.done) e q) g = alone_told P sorts.Or whole t q g (told P sorts.Xor t refl v)
  told P sorts.Xor whole i (grammar.made (grammar.part {t} v grammar.done) e q) g = alone_told P sorts.Xor whole t q g (told P sorts.And t refl v)
  told P sorts.And whole i (grammar.made (grammar.part {t} v grammar.done) e q) g = alone_told P sorts.And whole t q g (told P sorts.Equality t refl v)
  told P sorts.Equality whole i (grammar.made (grammar.part {t} v grammar.done) e q) g = alone_told P sorts.Equality whole t q g (told P sorts.Relation t refl v)
  told P sorts.Relation whole i (grammar.made (grammar.part {t} v grammar.done) e q) g = alone_told P sorts.Relation whole t q g (told P sorts.Shift t refl v)
  told P sorts.Shift whole i (grammar.made (grammar.part {t} v grammar.done) e q) g = alone_told P sorts.Shift whole t q g (told P sorts.Sum t refl v)
  told P sorts.Sum whole i (grammar.made (grammar.part {t} v grammar.done) e q) g = alone_told P sorts.Sum whole t q g (told P sorts.Product t refl v)
  told P sorts.Product whole i (grammar.made (grammar.part {t} v grammar.done) e q) g = alone_told P sorts.Product whole t q g (told P sorts.Unary t refl v)
  told P sorts.Unary whole i (grammar.made {ts} (grammar.chosen grammar.negated (grammar.token {o} m (grammar.chosen grammar.big (grammar.token {o = p} k grammar.done)))) e q) g =
      let h = parts_worded P (form_of sorts.Unary) ts (subst (Worded P) q g) in
      subst (Told P) (sym q) (refl, λ n. prefixed_whole P o (expression (n + 1) (Leaf p)) n (big_whole P p (n + 1) k))
  told P sorts.Unary whole i (grammar.made {ts} (grammar.chosen grammar.negated (grammar.token {o} m (grammar.chosen grammar.small (grammar.part {t} v grammar.done)))) e q) g =
      let h = parts_worded P (form_of sorts.Unary) ts (subst (Worded P) q g) in
      subst (Told P) (sym q) (refl, λ n. prefixed_whole P o (expression (n + 1) t) n ((told P sorts.Unary t refl v h.1.0).1 (n + 1)))
  told P sorts.Unary whole i (grammar.made {ts} (grammar.chosen grammar.prefixed (grammar.token {o} m (grammar.part {t} v grammar.done))) e q) g =
      let h = parts_worded P (form_of sorts.Unary) ts (subst (Worded P) q g) in
      subst (Told P) (sym q) (refl, λ n. prefixed_whole P o (expression (n + 1) t) n ((told P sorts.Unary t refl v h.1.0).1 (n + 1)))
  told P sorts.Unary whole i (grammar.made (grammar.chosen grammar.a_cast (grammar.part {t} v grammar.done)) e q) g = alone_told P sorts.Unary whole t q g (told P sorts.Cast t refl v)
  told P sorts.Unary whole i (grammar.made (grammar.chosen grammar.a_postfix (grammar.part {t} v grammar.done)) e q) g = alone_told P sorts.Unary whole t q g (told P sorts.Postfix t refl v)
  told P sorts.Cast whole i (grammar.made {ts} (grammar.token m (grammar.chosen grammar.to_primitive (grammar.token k (grammar.token l (grammar.part {t} v grammar.done))))) e q) g =
      let h = parts_worded P (form_of sorts.Cast) ts (subst (Worded P) q g) in
      subst (Told P) (sym q) (refl, λ n. (tt, (told P sorts.Unary t refl v h.1.1.1.0).1 _))
  told P sorts.Cast whole i (grammar.made {ts} (grammar.token m (grammar.chosen grammar.to_reference (grammar.part u (grammar.token l (grammar.part {t} v grammar.done))))) e q) g =
      let h = parts_worded P (form_of sorts.Cast) ts (subst (Worded P) q g) in
      subst (Told P) (sym q) (refl, λ n. (tt, (told P sorts.Operand t refl v h.1.1.1.0).1 _))
  told P sorts.Operand whole i (grammar.made (grammar.part {t} v grammar.done) e q) g = alone_told P sorts.Operand whole t q g (told P sorts.Unary t refl v)
  told P sorts.Postfix whole i (grammar.made (grammar.part {t} v (grammar.chosen grammar.no_steps grammar.done)) e q) g = alone_told P sorts.Postfix whole t q g (told P sorts.Primary t refl v)
  told P sorts.Postfix whole i (grammar.made {ts} (grammar.part {t} v (grammar.chosen grammar.steps (grammar.token {o} {ts = rest} m w))) e q) g =
      let h = parts_worded P (form_of sorts.Postfix) ts (subst (Worded P) q g) in
      subst (Told P) (sym q) (refl, λ n. steps_whole P rest w (Step false (is_up (sign_of o)) (expression n t) (n + width t)) (n + width t + 1) (tt, (told P sorts.Primary t refl v h.0).1 n))
  told P sorts.Primary whole i (grammar.made {ts} (grammar.chosen grammar.literal (grammar.token {o} m grammar.done)) e q) g =
      let h = parts_worded P (form_of sorts.Primary) ts (subst (Worded P) q g) in
      subst (Told P) (sym q) (leaf_told P o (operand (kind_of o) kinds.Literal m refl))
  told P sorts.Primary whole i (grammar.made {ts} (grammar.chosen grammar.this (grammar.token {o} m grammar.done)) e q) g =
      let h = parts_worded P (form_of sorts.Primary) ts (subst (Worded P) q g) in
      subst (Told P) (sym q) (leaf_told P o (operand (kind_of o) kinds.This m refl))
  told P sorts.Primary whole i (grammar.made {ts} (grammar.chosen grammar.named (grammar.token {o} m (grammar.chosen grammar.absent grammar.done))) e q) g =
      let h = parts_worded P (form_of sorts.Primary) ts (subst (Worded P) q g) in
      subst (Told P) (sym q) (leaf_told P o (name_operand (kind_of o) m))
  told P sorts.Primary whole i (grammar.made {ts} (grammar.chosen grammar.named (grammar.token {o} m (grammar.chosen grammar.present (grammar.part {t} v grammar.done)))) e q) g =
      let h = parts_worded P (form_of sorts.Primary) ts (subst (Worded P) q g) in
      subst (Told P) (sym q) (refl, λ n. (h.0, arguments_told P t v h.1.0 (n + 1)))
  told P sorts.Primary whole i (grammar.made {ts} (grammar.chosen grammar.grouped (grammar.token {o} m (grammar.part {t} v (grammar.token k grammar.done)))) e q) g =
      let h = parts_worded P (form_of sorts.Primary) ts (subst (Worded P) q g) in
      subst (Told P) (sym q) (refl, λ n. chosen_first P (same (kind_of o) kinds.OpenParen) (Group (expression (n + 1) t) n) _ m (tt, (told P sorts.Expr t refl v h.1.0).1 (n + 1)))
  told P sorts.Primary whole i (grammar.made (grammar.chosen grammar.created (grammar.part {t} v grammar.done)) e q) g = alone_told P sorts.Primary whole t q g (told P sorts.New t refl v)
  told P sorts.Primary whole i (grammar.made {ts} (grammar.chosen grammar.inherited (grammar.token {o} m (grammar.token k (grammar.token {o = x} l (grammar.chosen grammar.absent grammar.done))))) e q) g =
      let h = parts_worded P (form_of sorts.Primary) ts (subst (Worded P) q g) in
      subst (Told P) (sym q) (refl, λ n. chosen_second P (same (kind_of o) kinds.OpenParen) _ _ (alone (kind_of o) kinds.Super kinds.OpenParen m refl) (chosen_first P (same (kind_of o) kinds.Super) (SuperField (word_of x) (n + 1 + 1)) _ m tt))
  told P sorts.Primary whole i (grammar.made {ts} (grammar.chosen grammar.inherited (grammar.token {o} m (grammar.token {o = d} k (grammar.token {o = x} l (grammar.chosen grammar.present (grammar.part {t} v grammar.done)))))) e q) g =
      let h = parts_worded P (form_of sorts.Primary) ts (subst (Worded P) q g) in
      subst (Told P) (sym q) (
        refl,
        λ n. chosen_second P (same (kind_of d) kinds.OpenBracket) _ _ (alone (kind_of d) kinds.Dot kinds.OpenBracket k refl)
            (chosen_first P (same (kind_of o) kinds.Super) (SuperInvoke (word_of x) (arguments_of (n + 1 + 1 + 1) t) (n + 1 + 1 + 1)) _ m (h.1.1.0, arguments_told P t v h.1.1.1.0 (n + 1 + 1 + 1))),
      )
  told P sorts.New whole i (grammar.made {ts} (grammar.token m (grammar.chosen grammar.an_object (grammar.token k (grammar.part {t} v grammar.done)))) e q) g =
      let h = parts_worded P (form_of sorts.New) ts (subst (Worded P) q g) in
      subst (Told P) (sym q) (refl, λ n. (tt, arguments_told P t v h.1.1.0 _))
  told P sorts.New whole i (grammar.made {ts} (grammar.token m (grammar.chosen grammar.sized (grammar.token {o = base} k (grammar.token l (grammar.part {t} v (grammar.token {ts = rest} r w)))))) e q) g =
      let h = parts_worded P (form_of sorts.New) ts (subst (Worded P) q g) in
      let x = told P sorts.Expr t refl v h.1.1.1.0 in
      subst (Told P) (sym q) (
        refl,
        λ n. chosen_second P (is_leaf kinds.CloseBracket t) _ (NewArray _ _ _ _ _) (plain_leaf kinds.CloseBracket refl t x.0)
            (some_sizes P (is_leaf kinds.CloseBracket t) _ _ (plain_leaf kinds.CloseBracket refl t x.0) (x.1 _) (sizes_told P rest w h.1.1.1.1.1 _)),
      )
  told P sorts.New whole i (grammar.made {ts} (grammar.token m (grammar.chosen grammar.listed (grammar.token {o = base} k (grammar.token l (grammar.token {o = p} {ts = rest} r w))))) e q) g =
      let h = parts_worded P (form_of sorts.New) ts (subst (Worded P) q g) in
      subst (Told P) (sym q) (refl, λ n. chosen_first P (same (kind_of p) kinds.CloseBracket) _ _ r (list_told P rest w h.1.1.1.1 _ _ _ _ _))
  told P _ whole i (grammar.made w e q) g = absurd cc
  told P x t i (grammar.grown {l} {ts} {items} v y w e q) h =
      let g : Worded P l × AllWorded P ts = subst (Worded P) q h in
      subst (Told P) (sym q) (grown_told P x l ts items y w (told P x l i v g.0) g.1)

  grown_told : (P : Names) (x : Sort) (l : Ast) (ts : Asts) (items : List Item) → Suffix x items → Match items ts → Told P l → AllWorded P ts → Told P (Node (form_of x) (tree.more l ts))
  grown_told P x l ts items (grammar.operator {k} e) (grammar.token {o} m (grammar.part {t = r} u grammar.done)) g h =
      level_told P x k l r o e g (told P (tighter x) r (tighter_expression x) u h.1.0)
  grown_told P x l ts items grammar.instance_of (grammar.token {o} m (grammar.part {t = r} u grammar.done)) g h =
      (refl, λ n. chosen_first P (same (kind_of o) kinds.Instanceof) (InstanceOf (expression n l) (written (n + width l + 1) r) (n + width l)) _ m (tt, g.1 n))
  grown_told P x l ts items grammar.member (grammar.token {o} m (grammar.token {o = p} k (grammar.chosen grammar.absent grammar.done))) g h =
      (refl, λ n. chosen_second P (is_leaf kinds.OpenParen l) _ _ (plain_leaf kinds.OpenParen refl l g.0) (chosen_second P (is_leaf kinds.Super l) _ (Field (expression n l) (word_of p) _) (plain_leaf kinds.Super refl l g.0) (tt, g.1 n)))
  grown_told P x l ts items grammar.member (grammar.token {o} m (grammar.token {o = p} k (grammar.chosen grammar.present (grammar.part {t} u grammar.done)))) g h = (
    refl,
    λ n. chosen_second P (same (kind_of o) kinds.OpenBracket) _ _ (alone (kind_of o) kinds.Dot kinds.OpenBracket m refl)
        (chosen_second P (is_leaf kinds.Super l) _ (InvokeOn (expression n l) (word_of p) (arguments_of _ t) _) (plain_leaf kinds.Super refl l g.0) (h.1.0, g.1 n, arguments_told P t u h.1.1.0 _)),
  )
  grown_told P x l ts items grammar.element (grammar.token {o} m (grammar.part {t} u (grammar.token k grammar.done))) g h =
      (refl, λ n. chosen_first P (same (kind_of o) kinds.OpenBracket) (Element (expression n l) (expression (n + width l + 1) t) _) _ m (tt, g.1 n, (told P sorts.Expr t refl u h.1.0).1 (n + width l + 1)))

  -- the sizes behind the first
  sizes_told : (P : Names) (ts : Asts) → Match (Parts rows.Dimensions ∷ []) ts → AllWorded P ts → (n : ℕ) → WholeRow P (sizes n ts)
  sizes_told P ts (grammar.chosen grammar.no_dimensions grammar.done) h n = tt
  sizes_told P ts (grammar.chosen grammar.dimension (grammar.token m (grammar.part {t} v (grammar.token {ts = rest} k w)))) h n =
      let x = told P sorts.Expr t refl v h.1.0 in
      (some_sizes P (is_leaf kinds.CloseBracket t) _ _ (plain_leaf kinds.CloseBracket refl t x.0) (x.1 _) (sizes_told P rest w h.1.1.1 _)).1
  sizes_told P ts (grammar.chosen grammar.unsized (grammar.token {o} m (grammar.token {o = p} {ts = tree.none} k w))) h n = tt
  sizes_told P ts (grammar.chosen grammar.unsized (grammar.token {o} m (grammar.token {o = p} {ts = tree.more t rest} k w))) h n = no_sizes P (same (kind_of p) kinds.CloseBracket) _ k

  -- an array with its elements, from the pairs behind the first on
  list_told : (P : Names) (ts : Asts) → Match (Parts rows.Brackets ∷ a kinds.OpenBrace ∷ listing) ts → AllWorded P ts → (n : ℕ) (base : Base) (at brackets m : ℕ) → Whole P (listed n base at brackets m ts)
  list_told P ts (grammar.chosen grammar.no_brackets (grammar.token {o} {ts = rest} e w)) h n base at brackets m =
      chosen_first P (same (kind_of o) kinds.OpenBrace) (NewList base at brackets (elements m rest) m n) _ e (tt, elements_told P rest w h.1 m)
  list_told P ts (grammar.chosen grammar.brackets (grammar.token {o} e (grammar.token {o = p} {ts = rest} f w))) h n base at brackets m =
      chosen_second P (same (kind_of o) kinds.OpenBrace) _ _ (alone (kind_of o) kinds.OpenBracket kinds.OpenBrace e refl)
      (chosen_second P (same (kind_of p) kinds.OpenBrace) _ (listed n base at brackets (m + 1 + 1) rest) (alone (kind_of p) kinds.CloseBracket kinds.OpenBrace f refl) (list_told P rest w h.1.1 n base at brackets (m + 1 + 1)))

  elements_told : (P : Names) (ts : Asts) → Match listing ts → AllWorded P ts → (n : ℕ) → WholeElements P (elements n ts)
  elements_told P ts (grammar.chosen grammar.no_elements (grammar.token m grammar.done)) h n = tt
  elements_told P ts (grammar.chosen grammar.comma_alone (grammar.token {o} m (grammar.token k grammar.done))) h n = no_elements P (same (kind_of o) kinds.Comma) (same (kind_of o) kinds.CloseBrace) _ m
  elements_told P ts (grammar.chosen grammar.elements (grammar.part {t} {ts = rest} v w)) h n = further_told P t rest w (initial_told P t v h.0) h.1 n

  -- from an element on
  further_told : (P : Names) (t : Ast) (ts : Asts) → Match (Parts rows.MoreElements ∷ a kinds.CloseBrace ∷ []) ts → InitialTold P t → AllWorded P ts → (n : ℕ) → WholeElements P (elements n (tree.more t ts))
  further_told P t ts (grammar.chosen grammar.no_more_elements (grammar.token m grammar.done)) g h n =
      some_elements P (is_mark t) (element n (initial (n + 1) t) _) g.0 (g.1 (n + 1), tt)
  further_told P t ts (grammar.chosen grammar.more_elements (grammar.token m (grammar.chosen grammar.comma_last (grammar.token k grammar.done)))) g h n =
      some_elements P (is_mark t) (element n (initial (n + 1) t) _) g.0 (g.1 (n + 1), tt)
  further_told P t ts (grammar.chosen grammar.more_elements (grammar.token m (grammar.chosen grammar.comma_between (grammar.part {t = u} {ts = rest} v w)))) g h n =
      some_elements P (is_mark t) (element n (initial (n + 1) t) (elements (n + width t + 1) (tree.more u rest))) g.0 (g.1 (n + 1), further_told P u rest w (initial_told P u v h.1.0) h.1.1 (n + width t + 1))

  pub initial_told : (P : Names) (t : Ast) → Is sorts.Init t → Worded P t → InitialTold P t
  initial_told P t (grammar.made {ts} (grammar.chosen grammar.a_value (grammar.part {t = u} v grammar.done)) e q) h =
      subst (InitialTold P) (sym q) (value_told P u (told P sorts.Expr u refl v (subst (Worded P) q h)))
  initial_told P t (grammar.made (grammar.chosen grammar.an_array (grammar.token {o} {ts = rest} m w)) e q) h =
      subst (InitialTold P) (sym q) (listed_told P o rest (listing_part rest w) (elements_told P rest w (parts_worded P form.Init (tree.more (Leaf o) rest) (subst (Worded P) q h)).1))
  initial_told P t (grammar.grown v (grammar.operator e) w j q) h = absurd cc

  pub arguments_told : (P : Names) (t : Ast) → Is sorts.Args t → Worded P t → ArgumentsTold P t
  arguments_told P t (grammar.made (grammar.token m (grammar.chosen grammar.no_series (grammar.token k grammar.done))) e q) h =
      subst (ArgumentsTold P) (sym q) (λ n. tt)
  arguments_told P t (grammar.made (grammar.token m (grammar.chosen grammar.series (grammar.part {t = u} {ts = rest} v w))) e q) h =
      subst (ArgumentsTold P) (sym q) (λ n. series_told P u rest w (told P sorts.Expr u refl v (subst (Worded P) q h).1.0) (subst (Worded P) q h).1.1 (n + 1))
  arguments_told P t (grammar.grown v (grammar.operator e) w j q) h = absurd cc

  -- from an argument on
  series_told : (P : Names) (t : Ast) (ts : Asts) → Match (Parts (rows.Further sorts.Expr) ∷ a kinds.CloseParen ∷ []) ts → Told P t → AllWorded P ts → (n : ℕ) → WholeRow P (arguments n (tree.more t ts))
  series_told P t ts (grammar.chosen grammar.no_further (grammar.token m grammar.done)) g h n = (g.1 n, tt)
  series_told P t ts (grammar.chosen grammar.further (grammar.token m (grammar.part {t = u} {ts = rest} v w))) g h n =
      (g.1 n, series_told P u rest w (told P sorts.Expr u refl v h.1.0) h.1.1 (n + width t + 1))
