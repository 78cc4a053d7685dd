-- The calls of a tree: the word in front of the `(` of one on an object is its name.
use Rattle.std.proofs.Common.{◌≡◌, ◌∙◌, refl, sym, ap, subst, arith, ℕ, zero, suc, ◌+◌, ◌<◌, Bool, true, false, ◌||◌, if◌then◌else◌, List, [], ◌∷◌, ◌++◌, length, length-append}
use Rattle.wy_tree.specs.Seen.{Tok}
use Rattle.wy_tree.specs.Kinds.{kind_of, same}
use Rattle.wy_tree.specs.Ast.{Ast, Asts, Leaf, Node, node, tokens, tokens_all}
use Rattle.wy_tree.specs.Ast as tree
use Rattle.wy_tree.specs.Grammar.{form_of, rule, Suffix, Is, Match, WellFormed}
use Rattle.wy_tree.specs.Grammar as grammar
use Rattle.wy_tree.specs.declared.kind.Kind.TheVariants as kinds
use Rattle.wy_tree.specs.declared.tree.Form.{Form}
use Rattle.wy_tree.specs.declared.tree.Form.TheVariants as form
use Rattle.wy_tree.specs.declared.grammar.Sort.{Sort}
use Rattle.wy_tree.specs.declared.grammar.Sort.TheVariants as sorts
use Rattle.wy_tree.specs.declared.grammar.Item.{Item}
use Rattle.wy_syntax.specs.Syntax.{Base, Expression, Literal, Name, This, Group, Field, InvokeOn, SuperField, SuperInvoke, Element, NewArray, NewList, Unary, Step, Binary, Both, Either, InstanceOf, Assign, Update, Wrong, Row}
use Rattle.wy_syntax.specs.Names.{width, is_leaf, name_of, word_of, sign_of, base_named, written, operator, updating, prefix, is_up}
use Rattle.wy_syntax.specs.Expressions.{leaf, joined, empty_pairs, stepped, four, expression, assignment, choice, binary, unary, cast, postfix, primary, creation, sizes, listed, elements, arguments_of}
use Rattle.wy_elab_stmt.proofs.OneProgram.{as_wide}

-- ---- what is said of a call

-- the word in front of each token
abbrev pub Words : Type 0
Words = ℕ → List ℕ

-- of a call on an object it is the name
abbrev pub Called : Words → Expression → Type 0
Called W (InvokeOn object name args token) = W token ≡ name
Called W _ = Unit {0}

-- ---- what is seen of a tree

abbrev IsALeaf : Ast → Type 0
IsALeaf (Leaf o) = Unit {0}
IsALeaf (Node f parts) = ⊥

-- a name stands in front of arguments
abbrev Asked : Form → Asts → Type 0
Asked form.Primary (tree.more a (tree.more b (tree.more c (tree.more d tree.none)))) = is_leaf kinds.OpenBracket b ≡ false → IsALeaf c
Asked _ _ = Unit {0}

abbrev mutual
  -- W has the words of the tree's tokens, the first of which has number n
  pub Seen : Words → ℕ → Ast → Type 0
  Seen W n (Leaf o) = W (suc n) ≡ word_of o
  Seen W n (Node f parts) = Asked f parts × AllSeen W n parts

  pub AllSeen : Words → ℕ → Asts → Type 0
  AllSeen W n tree.none = Unit {0}
  AllSeen W n (tree.more t rest) = Seen W n t × AllSeen W (n + width t) rest

-- ---- expressions

if_called : (W : Words) (b : Bool) (x y : Expression) → (b ≡ true → Called W x) → (b ≡ false → Called W y) → Called W (if b then x else y)
if_called W true x y h i = h refl
if_called W false x y h i = i refl

leaf_called : (W : Words) (o : Tok) (n : ℕ) → Called W (leaf o n)
leaf_called W o n =
    if_called W (same (kind_of o) kinds.Word || same (kind_of o) kinds.Override) (Name (word_of o) n) _ (λ e. tt) (λ e.
    if_called W (same (kind_of o) kinds.This) (This n) _ (λ e. tt) (λ e.
    if_called W (same (kind_of o) kinds.Literal || same (kind_of o) kinds.Big) (Literal o n) Wrong (λ e. tt) (λ e. tt)))

stepped_called : (W : Words) (e : Expression) (n : ℕ) (steps : Asts) → Called W e → Called W (stepped e n steps)
stepped_called W e n tree.none h = h
stepped_called W e n (tree.more (Leaf o) steps) h = stepped_called W (Step false (is_up (sign_of o)) e n) (n + 1) steps tt
stepped_called W e n (tree.more (Node f parts) steps) h = tt

joined_called : (W : Words) (o : Tok) (l r : Expression) (n : ℕ) → Called W (joined o l r n)
joined_called W o l r n =
    if_called W (same (kind_of o) kinds.AndAlso) (Both l r n) _ (λ e. tt) (λ e.
    if_called W (same (kind_of o) kinds.OrElse) (Either l r n) (Binary (operator (sign_of o)) l r n) (λ f. tt) (λ f. tt))

-- the token behind a leaf
behind_name : (W : Words) (m : ℕ) (c : Ast) → IsALeaf c → Seen W m c → W (m + width c) ≡ name_of c
behind_name W m (Leaf o) x h = let e : m + 1 ≡ suc m = omega arith in ap W e ∙ h
behind_name W m (Node f parts) x h = absurd x

four_called : (W : Words) (n : ℕ) (a b c : Ast) (object index : Expression) (args : Row) → (is_leaf kinds.OpenBracket b ≡ false → IsALeaf c) → Seen W (n + width a + width b) c → Called W (four n a b c object index args)
four_called W n a b c object index args x h =
    if_called W (is_leaf kinds.OpenBracket b) (Element object index (n + width a)) _ (λ e. tt) (λ e.
    if_called W (is_leaf kinds.Super a) (SuperInvoke (name_of c) args (n + width a + width b + width c)) (InvokeOn object (name_of c) args (n + width a + width b + width c))
    (λ f. tt) (λ f. behind_name W (n + width a + width b) c (x e) h))

mutual
  unfolding expression assignment choice binary unary cast postfix primary creation listed

  pub expression_called : (W : Words) (n : ℕ) (t : Ast) → Seen W n t → Called W (expression n t)
  expression_called W n (Leaf o) h = leaf_called W o n
  expression_called W n (Node form.Expr parts) h = assignment_called W n parts
  expression_called W n (Node form.Cond parts) h = choice_called W n parts
  expression_called W n (Node form.Binary parts) h = binary_called W n parts
  expression_called W n (Node form.Unary parts) h = unary_called W n parts
  expression_called W n (Node form.Cast parts) h = cast_called W n parts
  expression_called W n (Node form.Postfix parts) h = postfix_called W n parts h.1
  expression_called W n (Node form.Primary parts) h = primary_called W n parts h.0 h.1
  expression_called W n (Node form.New parts) h = creation_called W n parts
  expression_called W n (Node f parts) h = tt

  assignment_called : (W : Words) (n : ℕ) (ts : Asts) → Called W (assignment n ts)
  assignment_called W n (tree.more l (tree.more (Leaf o) (tree.more v tree.none))) =
      if_called W (same (kind_of o) kinds.Assign) (Assign (expression n l) (expression (n + width l + 1) v) (n + width l))
      (Update (updating (sign_of o)) (expression n l) (expression (n + width l + 1) v) (n + width l)) (λ e. tt) (λ e. tt)
  assignment_called W n _ = tt

  choice_called : (W : Words) (n : ℕ) (ts : Asts) → Called W (choice n ts)
  choice_called W n (tree.more c (tree.more q (tree.more a (tree.more colon (tree.more b tree.none))))) = tt
  choice_called W n _ = tt

  binary_called : (W : Words) (n : ℕ) (ts : Asts) → Called W (binary n ts)
  binary_called W n (tree.more l (tree.more (Leaf o) (tree.more r tree.none))) =
      if_called W (same (kind_of o) kinds.Instanceof) (InstanceOf (expression n l) (written (n + width l + 1) r) (n + width l)) (joined o (expression n l) (expression (n + width l + 1) r) (n + width l))
      (λ e. tt) (λ e. joined_called W o (expression n l) (expression (n + width l + 1) r) (n + width l))
  binary_called W n _ = tt

  unary_called : (W : Words) (n : ℕ) (ts : Asts) → Called W (unary n ts)
  unary_called W n (tree.more (Leaf o) (tree.more e tree.none)) =
      if_called W (same (kind_of o) kinds.Step) (Step true (is_up (sign_of o)) (expression (n + 1) e) n) (Unary (prefix (sign_of o)) (expression (n + 1) e) n) (λ x. tt) (λ x. tt)
  unary_called W n _ = tt

  cast_called : (W : Words) (n : ℕ) (ts : Asts) → Called W (cast n ts)
  cast_called W n (tree.more paren (tree.more t (tree.more close (tree.more e tree.none)))) = tt
  cast_called W n _ = tt

  postfix_called : (W : Words) (n : ℕ) (ts : Asts) → AllSeen W n ts → Called W (postfix n ts)
  postfix_called W n (tree.more e steps) h = stepped_called W (expression n e) (n + width e) steps (expression_called W n e h.0)
  postfix_called W n tree.none h = tt

  primary_called : (W : Words) (n : ℕ) (ts : Asts) → Asked form.Primary ts → AllSeen W n ts → Called W (primary n ts)
  primary_called W n (tree.more f (tree.more args tree.none)) x h = tt
  primary_called W n (tree.more a (tree.more b (tree.more c tree.none))) x h =
      if_called W (is_leaf kinds.OpenParen a) (Group (expression (n + width a) b) n) _ (λ e. tt) (λ e.
      if_called W (is_leaf kinds.Super a) (SuperField (name_of c) (n + width a + width b)) (Field (expression n a) (name_of c) (n + width a + width b)) (λ f. tt) (λ f. tt))
  primary_called W n (tree.more a (tree.more b (tree.more c (tree.more d tree.none)))) x h =
      four_called W n a b c (expression n a) (expression (n + width a + width b) c) (arguments_of (n + width a + width b + width c) d) x h.1.1.0
  primary_called W n _ x h = tt

  creation_called : (W : Words) (n : ℕ) (ts : Asts) → Called W (creation n ts)
  creation_called W n (tree.more word (tree.more c (tree.more args tree.none))) = tt
  creation_called W n (tree.more word (tree.more base (tree.more bracket (tree.more x behind)))) =
      if_called W (is_leaf kinds.CloseBracket x)
      (listed n (base_named base) (n + width word) (empty_pairs (tree.more bracket (tree.more x behind))) (n + width word + width base + width bracket + width x) behind)
      (NewArray (base_named base) (n + width word) (sizes (n + width word + width base) (tree.more bracket (tree.more x behind))) (empty_pairs behind) n)
      (λ e. listed_called W n (base_named base) (n + width word) (empty_pairs (tree.more bracket (tree.more x behind))) (n + width word + width base + width bracket + width x) behind)
      (λ e. tt)
  creation_called W n _ = tt

  listed_called : (W : Words) (n : ℕ) (base : Base) (at brackets m : ℕ) (ts : Asts) → Called W (listed n base at brackets m ts)
  listed_called W n base at brackets m (tree.more x behind) =
      if_called W (is_leaf kinds.OpenBrace x) (NewList base at brackets (elements m behind) m n) (listed n base at brackets (m + width x) behind)
      (λ e. tt) (λ e. listed_called W n base at brackets (m + width x) behind)
  listed_called W n base at brackets m tree.none = tt

-- ---- well-formed trees

abbrev mutual
  AskedIn : Ast → Type 0
  AskedIn (Leaf o) = Unit {0}
  AskedIn (Node f parts) = Asked f parts × AllAsked parts

  AllAsked : Asts → Type 0
  AllAsked tree.none = Unit {0}
  AllAsked (tree.more t rest) = AskedIn t × AllAsked rest

node_asked : (f : Form) (ts : Asts) → Asked f ts → AllAsked ts → AskedIn (node f ts)
node_asked f tree.none a h = (a, h)
node_asked f (tree.more t tree.none) a h = h.0
node_asked f (tree.more t (tree.more u rest)) a h = (a, h)

made_asked : (x : Sort) (ts : Asts) → Match (rule x) ts → Asked (form_of x) ts
made_asked sorts.Primary ts (grammar.chosen grammar.literal (grammar.token m grammar.done)) = tt
made_asked sorts.Primary ts (grammar.chosen grammar.this (grammar.token m grammar.done)) = tt
made_asked sorts.Primary ts (grammar.chosen grammar.named (grammar.token m (grammar.chosen grammar.absent grammar.done))) = tt
made_asked sorts.Primary ts (grammar.chosen grammar.named (grammar.token m (grammar.chosen grammar.present (grammar.part v grammar.done)))) = tt
made_asked sorts.Primary ts (grammar.chosen grammar.grouped (grammar.token m (grammar.part v (grammar.token n grammar.done)))) = tt
made_asked sorts.Primary ts (grammar.chosen grammar.created (grammar.part v grammar.done)) = tt
made_asked sorts.Primary ts (grammar.chosen grammar.inherited (grammar.token m (grammar.token n (grammar.token o (grammar.chosen grammar.absent grammar.done))))) = tt
made_asked sorts.Primary ts (grammar.chosen grammar.inherited (grammar.token m (grammar.token n (grammar.token o (grammar.chosen grammar.present (grammar.part v grammar.done)))))) = λ e. tt
made_asked _ ts w = tt

grown_asked : (x : Sort) (items : List Item) → Suffix x items → (l : Ast) (ts : Asts) → Match items ts → Asked (form_of x) (tree.more l ts)
grown_asked sorts.Primary items (grammar.operator e) l ts w = absurd cc
grown_asked sorts.Primary items grammar.member l ts (grammar.token m (grammar.token n (grammar.chosen grammar.absent grammar.done))) = tt
grown_asked sorts.Primary items grammar.member l ts (grammar.token m (grammar.token n (grammar.chosen grammar.present (grammar.part v grammar.done)))) = λ e. tt
grown_asked sorts.Primary items grammar.element l ts (grammar.token m (grammar.part v (grammar.token n grammar.done))) = λ e. absurd (let clash : true ≡ false = sym m ∙ e in cc)
grown_asked _ items y l ts w = tt

mutual
  tree_asked : (x : Sort) (t : Ast) → Is x t → AskedIn t
  tree_asked x t (grammar.made {ts} w e q) = subst AskedIn (sym q) (node_asked (form_of x) ts (made_asked x ts w) (items_asked (rule x) ts w))
  tree_asked x t (grammar.grown {l} {ts} {items} v y w e q) = subst AskedIn (sym q) (grown_asked x items y l ts w, (tree_asked x l v, items_asked items ts w))

  items_asked : (items : List Item) (ts : Asts) → Match items ts → AllAsked ts
  items_asked _ _ grammar.done = tt
  items_asked _ _ (grammar.token {items} {ts} m w) = (tt, items_asked items ts w)
  items_asked _ _ (grammar.part {x} {t} {items} {ts} v w) = (tree_asked x t v, items_asked items ts w)
  items_asked _ _ (grammar.chosen {way} {items} {ts} y w) = items_asked (way ++ items) ts w

-- ---- the words of tokens by their numbers

abbrev word_at : List Tok → ℕ → List ℕ
word_at [] n = []
word_at (o ∷ rest) zero = word_of o
word_at (o ∷ rest) (suc n) = word_at rest n

abbrev pub word_before : List Tok → Words
word_before os zero = []
word_before os (suc n) = word_at os n

word_left : (xs ys : List Tok) (i : ℕ) → i < length xs → word_at (xs ++ ys) i ≡ word_at xs i
word_left [] ys i h = absurd (omega arith)
word_left (x ∷ xs) ys zero h = refl
word_left (x ∷ xs) ys (suc i) h = word_left xs ys i (omega arith)

word_right : (xs ys : List Tok) (i : ℕ) → word_at (xs ++ ys) (length xs + i) ≡ word_at ys i
word_right [] ys i = let e : 0 + i ≡ i = omega arith in ap (word_at ys) e
word_right (x ∷ xs) ys i = let e : suc (length xs) + i ≡ suc (length xs + i) = omega arith in ap (word_at (x ∷ (xs ++ ys))) e ∙ word_right xs ys i

-- from a number on these tokens stand
abbrev StandFrom : Words → ℕ → List Tok → Type 0
StandFrom W n os = (i : ℕ) → i < length os → W (suc (n + i)) ≡ word_at os i

front_stands : (W : Words) (n : ℕ) (xs ys : List Tok) → StandFrom W n (xs ++ ys) → StandFrom W n xs
front_stands W n xs ys h i less = h i (omega (arith, length-append xs ys)) ∙ word_left xs ys i less

rest_stands : (W : Words) (n w : ℕ) (xs ys : List Tok) → w ≡ length xs → StandFrom W n (xs ++ ys) → StandFrom W (n + w) ys
rest_stands W n w xs ys e h i less =
    let moved : suc ((n + w) + i) ≡ suc (n + (length xs + i)) = omega arith in
    ap W moved ∙ h (length xs + i) (omega (arith, length-append xs ys)) ∙ word_right xs ys i

mutual
  tree_seen : (W : Words) (n : ℕ) (t : Ast) → AskedIn t → StandFrom W n (tokens t) → Seen W n t
  tree_seen W n (Leaf o) a h = let e : suc n ≡ suc (n + 0) = omega arith in ap W e ∙ h 0 (omega arith)
  tree_seen W n (Node f parts) a h = (a.0, parts_seen W n parts a.1 h)

  parts_seen : (W : Words) (n : ℕ) (ts : Asts) → AllAsked ts → StandFrom W n (tokens_all ts) → AllSeen W n ts
  parts_seen W n tree.none a h = tt
  parts_seen W n (tree.more t rest) a h =
      (tree_seen W n t a.0 (front_stands W n (tokens t) (tokens_all rest) h), parts_seen W (n + width t) rest a.1 (rest_stands W n (width t) (tokens t) (tokens_all rest) (as_wide t) h))

pub whole_seen : (t : Ast) → WellFormed t → Seen (word_before (tokens t)) 0 t
whole_seen t w =
    tree_seen (word_before (tokens t)) 0 t (tree_asked sorts.Unit t w.0)
    (λ i less. let e : suc (0 + i) ≡ suc i = omega arith in ap (word_before (tokens t)) e)
