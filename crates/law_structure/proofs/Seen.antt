-- The tokens that a tree has at their places: the signs of its expressions are at those of the forms that decide.
use Rattle.std.proofs.Common.{◌≡◌, ◌∙◌, refl, sym, ap, subst, arith, ℕ, ◌+◌, Bool, true, false, ◌||◌, if◌then◌else◌}
use Rattle.wy_tree.specs.Seen.{Tok}
use Rattle.wy_tree.specs.Kinds.{kind_of, same}
use Rattle.wy_tree.specs.Ast.{Ast, Asts, Leaf, Node}
use Rattle.wy_tree.specs.Ast as tree
use Rattle.wy_tree.specs.declared.kind.Kind.{Kind}
use Rattle.wy_tree.specs.declared.kind.Kind.TheVariants as kinds
use Rattle.wy_tree.specs.declared.tree.Form.{Form}
use Rattle.wy_tree.specs.declared.tree.Form.TheVariants as form
use Rattle.wy_tree.proofs.Tags.{same_is}
use Rattle.wy_syntax.specs.Syntax.{Base, Expression, Literal, Name, This, Group, Field, InvokeOn, SuperField, SuperInvoke, Element, NewArray, NewList, Unary, Step, Binary, Both, Either, InstanceOf, Assign, Update, Wrong, Row, none, more, Initial, Value, Listed, Elements, no_more}
use Rattle.wy_syntax.specs.Names.{width, widths, is_leaf, name_of, word_of, sign_of, base_named, written, operator, updating, prefix, is_up}
use Rattle.wy_syntax.specs.Expressions.{leaf, joined, assigned, prefixed, empty_pairs, is_mark, stepped, three, four, is_braced, expression, assignment, choice, binary, unary, cast, postfix, primary, creation, sizes, listed, elements, inside, arguments_of, arguments, initial}
use Rattle.law_structure.proofs.Sound.{Numbers}
use Rattle.law_structure.proofs.Elaborations.{Signs, RowSigns, InitialSigns, ElementSigns}

-- `&&`, `||` and `?`
abbrev pub is_deciding : Kind → Bool
is_deciding k = same k kinds.AndAlso || (same k kinds.OrElse || same k kinds.Question)

-- the token with this number is such a sign
abbrev pub DecidesAt : (ℕ → Kind) → Numbers
DecidesAt K n = is_deciding (K n) ≡ true

-- what stands between the parts of a `?:` is its sign
abbrev pub Asked : Form → Asts → Type 0
Asked form.Cond (tree.more c (tree.more q (tree.more a (tree.more colon (tree.more b tree.none))))) = is_leaf kinds.Question q ≡ true
Asked _ _ = Unit {0}

abbrev mutual
  -- K has the kinds of the tree's tokens, the first of which has number n
  pub Seen : (ℕ → Kind) → ℕ → Ast → Type 0
  Seen K n (Leaf o) = K n ≡ kind_of o
  Seen K n (Node f parts) = Asked f parts × AllSeen K n parts

  pub AllSeen : (ℕ → Kind) → ℕ → Asts → Type 0
  AllSeen K n tree.none = Unit {0}
  AllSeen K n (tree.more t rest) = Seen K n t × AllSeen K (n + width t) rest

-- ---- signs

kind_decides : (k j : Kind) → same k j ≡ true → is_deciding j ≡ true → is_deciding k ≡ true
kind_decides k j e h = let P : Kind → Type 0 = λ x. is_deciding x ≡ true in subst P (sym (same_is k j e)) h

at_decides : (K : ℕ → Kind) (n : ℕ) (o : Tok) (j : Kind) → K n ≡ kind_of o → same (kind_of o) j ≡ true → is_deciding j ≡ true → DecidesAt K n
at_decides K n o j seen e h = ap is_deciding seen ∙ kind_decides (kind_of o) j e h

asked_at : (K : ℕ → Kind) (n : ℕ) (q : Ast) → Seen K n q → is_leaf kinds.Question q ≡ true → DecidesAt K n
asked_at K n (Leaf o) seen e = at_decides K n o kinds.Question seen e refl
asked_at K n (Node f parts) seen e = absurd cc

if_signs : (S : Numbers) (b : Bool) (x y : Expression) → (b ≡ true → Signs S x) → (b ≡ false → Signs S y) → Signs S (if b then x else y)
if_signs S true x y h i = h refl
if_signs S false x y h i = i refl

leaf_signs : (S : Numbers) (o : Tok) (n : ℕ) → Signs S (leaf o n)
leaf_signs S o n =
    if_signs S (same (kind_of o) kinds.Word || same (kind_of o) kinds.Override) (Name (word_of o) n) _ (λ e. tt) (λ e.
    if_signs S (same (kind_of o) kinds.This) (This n) _ (λ e. tt) (λ e.
    if_signs S (same (kind_of o) kinds.Literal || same (kind_of o) kinds.Big) (Literal o n) Wrong (λ e. tt) (λ e. tt)))

assigned_signs : (S : Numbers) (o : Tok) (l v : Expression) (n : ℕ) → Signs S l → Signs S v → Signs S (assigned o l v n)
assigned_signs S o l v n h i = if_signs S (same (kind_of o) kinds.Assign) (Assign l v n) (Update (updating (sign_of o)) l v n) (λ e. (h, i)) (λ e. (h, i))

prefixed_signs : (S : Numbers) (o : Tok) (e : Expression) (n : ℕ) → Signs S e → Signs S (prefixed o e n)
prefixed_signs S o e n h = if_signs S (same (kind_of o) kinds.Step) (Step true (is_up (sign_of o)) e n) (Unary (prefix (sign_of o)) e n) (λ x. h) (λ x. h)

stepped_signs : (S : Numbers) (e : Expression) (n : ℕ) (steps : Asts) → Signs S e → Signs S (stepped e n steps)
stepped_signs S e n tree.none h = h
stepped_signs S e n (tree.more (Leaf o) steps) h = stepped_signs S (Step false (is_up (sign_of o)) e n) (n + 1) steps h
stepped_signs S e n (tree.more (Node f parts) steps) h = tt

joined_signs : (K : ℕ → Kind) (o : Tok) (l r : Expression) (n : ℕ) → K n ≡ kind_of o → Signs (DecidesAt K) l → Signs (DecidesAt K) r → Signs (DecidesAt K) (joined o l r n)
joined_signs K o l r n seen h i =
    if_signs (DecidesAt K) (same (kind_of o) kinds.AndAlso) (Both l r n) _ (λ e. (at_decides K n o kinds.AndAlso seen e refl, h, i)) (λ e.
    if_signs (DecidesAt K) (same (kind_of o) kinds.OrElse) (Either l r n) (Binary (operator (sign_of o)) l r n) (λ f. (at_decides K n o kinds.OrElse seen f refl, h, i)) (λ f. (h, i)))

three_signs : (S : Numbers) (n : ℕ) (a b c : Ast) (object within : Expression) → Signs S object → Signs S within → Signs S (three n a b c object within)
three_signs S n a b c object within h i =
    if_signs S (is_leaf kinds.OpenParen a) (Group within n) _ (λ e. i) (λ e.
    if_signs S (is_leaf kinds.Super a) (SuperField (name_of c) (n + width a + width b)) (Field object (name_of c) (n + width a + width b)) (λ e. tt) (λ e. h))

four_signs : (S : Numbers) (n : ℕ) (a b c : Ast) (object index : Expression) (args : Row) → Signs S object → Signs S index → RowSigns S args → Signs S (four n a b c object index args)
four_signs S n a b c object index args h i j =
    if_signs S (is_leaf kinds.OpenBracket b) (Element object index (n + width a)) _ (λ e. (h, i)) (λ e.
    if_signs S (is_leaf kinds.Super a) (SuperInvoke (name_of c) args (n + width a + width b + width c)) (InvokeOn object (name_of c) args (n + width a + width b + width c)) (λ e. j) (λ e. (h, j)))

either_initial : (S : Numbers) (b : Bool) (x y : Initial) → InitialSigns S x → InitialSigns S y → InitialSigns S (if b then x else y)
either_initial S true x y h i = h
either_initial S false x y h i = i

either_row : (S : Numbers) (b : Bool) (x y : Row) → RowSigns S x → RowSigns S y → RowSigns S (if b then x else y)
either_row S true x y h i = h
either_row S false x y h i = i

either_elements : (S : Numbers) (b : Bool) (x y : Elements) → ElementSigns S x → ElementSigns S y → ElementSigns S (if b then x else y)
either_elements S true x y h i = h
either_elements S false x y h i = i

moved : (K : ℕ → Kind) (n m : ℕ) (ts : Asts) → n ≡ m → AllSeen K n ts → AllSeen K m ts
moved K n m ts e h = let P : ℕ → Type 0 = λ k. AllSeen K k ts in subst P e h

mutual
  unfolding expression assignment choice binary unary cast postfix primary creation sizes listed elements inside arguments_of arguments

  pub expression_signs : (K : ℕ → Kind) (n : ℕ) (t : Ast) → Seen K n t → Signs (DecidesAt K) (expression n t)
  expression_signs K n (Leaf o) h = leaf_signs (DecidesAt K) o n
  expression_signs K n (Node form.Expr parts) h = assignment_signs K n parts h.1
  expression_signs K n (Node form.Cond parts) h = choice_signs K n parts h.0 h.1
  expression_signs K n (Node form.Binary parts) h = binary_signs K n parts h.1
  expression_signs K n (Node form.Unary parts) h = unary_signs K n parts h.1
  expression_signs K n (Node form.Cast parts) h = cast_signs K n parts h.1
  expression_signs K n (Node form.Postfix parts) h = postfix_signs K n parts h.1
  expression_signs K n (Node form.Primary parts) h = primary_signs K n parts h.1
  expression_signs K n (Node form.New parts) h = creation_signs K n parts h.1
  expression_signs K n (Node f parts) h = tt

  assignment_signs : (K : ℕ → Kind) (n : ℕ) (ts : Asts) → AllSeen K n ts → Signs (DecidesAt K) (assignment n ts)
  assignment_signs K n (tree.more l (tree.more (Leaf o) (tree.more v tree.none))) h =
      assigned_signs (DecidesAt K) o (expression n l) (expression (n + width l + 1) v) (n + width l) (expression_signs K n l h.0) (expression_signs K (n + width l + 1) v h.1.1.0)
  assignment_signs K n _ h = tt

  choice_signs : (K : ℕ → Kind) (n : ℕ) (ts : Asts) → Asked form.Cond ts → AllSeen K n ts → Signs (DecidesAt K) (choice n ts)
  choice_signs K n (tree.more c (tree.more q (tree.more a (tree.more colon (tree.more b tree.none))))) e h =
      (asked_at K (n + width c) q h.1.0 e, expression_signs K n c h.0, expression_signs K (n + width c + width q) a h.1.1.0, expression_signs K (n + width c + width q + width a + width colon) b h.1.1.1.1.0)
  choice_signs K n _ e h = tt

  binary_signs : (K : ℕ → Kind) (n : ℕ) (ts : Asts) → AllSeen K n ts → Signs (DecidesAt K) (binary n ts)
  binary_signs K n (tree.more l (tree.more (Leaf o) (tree.more r tree.none))) h =
      if_signs (DecidesAt K) (same (kind_of o) kinds.Instanceof) (InstanceOf (expression n l) (written (n + width l + 1) r) (n + width l)) (joined o (expression n l) (expression (n + width l + 1) r) (n + width l))
      (λ e. expression_signs K n l h.0)
      (λ e. joined_signs K o (expression n l) (expression (n + width l + 1) r) (n + width l) h.1.0 (expression_signs K n l h.0) (expression_signs K (n + width l + 1) r h.1.1.0))
  binary_signs K n _ h = tt

  unary_signs : (K : ℕ → Kind) (n : ℕ) (ts : Asts) → AllSeen K n ts → Signs (DecidesAt K) (unary n ts)
  unary_signs K n (tree.more (Leaf o) (tree.more e tree.none)) h = prefixed_signs (DecidesAt K) o (expression (n + 1) e) n (expression_signs K (n + 1) e h.1.0)
  unary_signs K n _ h = tt

  cast_signs : (K : ℕ → Kind) (n : ℕ) (ts : Asts) → AllSeen K n ts → Signs (DecidesAt K) (cast n ts)
  cast_signs K n (tree.more paren (tree.more t (tree.more close (tree.more e tree.none)))) h = expression_signs K (n + width paren + width t + width close) e h.1.1.1.0
  cast_signs K n _ h = tt

  postfix_signs : (K : ℕ → Kind) (n : ℕ) (ts : Asts) → AllSeen K n ts → Signs (DecidesAt K) (postfix n ts)
  postfix_signs K n (tree.more e steps) h = stepped_signs (DecidesAt K) (expression n e) (n + width e) steps (expression_signs K n e h.0)
  postfix_signs K n tree.none h = tt

  primary_signs : (K : ℕ → Kind) (n : ℕ) (ts : Asts) → AllSeen K n ts → Signs (DecidesAt K) (primary n ts)
  primary_signs K n (tree.more f (tree.more args tree.none)) h = arguments_of_signs K (n + width f) args h.1.0
  primary_signs K n (tree.more a (tree.more b (tree.more c tree.none))) h =
      three_signs (DecidesAt K) n a b c (expression n a) (expression (n + width a) b) (expression_signs K n a h.0) (expression_signs K (n + width a) b h.1.0)
  primary_signs K n (tree.more a (tree.more b (tree.more c (tree.more d tree.none)))) h =
      four_signs (DecidesAt K) n a b c (expression n a) (expression (n + width a + width b) c) (arguments_of (n + width a + width b + width c) d)
      (expression_signs K n a h.0) (expression_signs K (n + width a + width b) c h.1.1.0) (arguments_of_signs K (n + width a + width b + width c) d h.1.1.1.0)
  primary_signs K n _ h = tt

  creation_signs : (K : ℕ → Kind) (n : ℕ) (ts : Asts) → AllSeen K n ts → Signs (DecidesAt K) (creation n ts)
  creation_signs K n (tree.more word (tree.more c (tree.more args tree.none))) h = arguments_of_signs K (n + width word + width c) args h.1.1.0
  creation_signs K n (tree.more word (tree.more base (tree.more bracket (tree.more x behind)))) h =
      if_signs (DecidesAt K) (is_leaf kinds.CloseBracket x)
      (listed n (base_named base) (n + width word) (empty_pairs (tree.more bracket (tree.more x behind))) (n + width word + width base + width bracket + width x) behind)
      (NewArray (base_named base) (n + width word) (sizes (n + width word + width base) (tree.more bracket (tree.more x behind))) (empty_pairs behind) n)
      (λ e. listed_signs K n (base_named base) (n + width word) (empty_pairs (tree.more bracket (tree.more x behind))) (n + width word + width base + width bracket + width x) behind h.1.1.1.1)
      (λ e. sizes_signs K (n + width word + width base) (tree.more bracket (tree.more x behind)) h.1.1)
  creation_signs K n _ h = tt

  sizes_signs : (K : ℕ → Kind) (n : ℕ) (ts : Asts) → AllSeen K n ts → RowSigns (DecidesAt K) (sizes n ts)
  sizes_signs K n (tree.more bracket (tree.more x (tree.more close behind))) h =
      either_row (DecidesAt K) (is_leaf kinds.CloseBracket x) none (more (expression (n + width bracket) x) (sizes (n + width bracket + width x + width close) behind)) tt
      (expression_signs K (n + width bracket) x h.1.0, sizes_signs K (n + width bracket + width x + width close) behind h.1.1.1)
  sizes_signs K n _ h = tt

  listed_signs : (K : ℕ → Kind) (n : ℕ) (base : Base) (at brackets m : ℕ) (ts : Asts) → AllSeen K m ts → Signs (DecidesAt K) (listed n base at brackets m ts)
  listed_signs K n base at brackets m (tree.more (Leaf o) behind) h =
      if_signs (DecidesAt K) (is_leaf kinds.OpenBrace (Leaf o)) (NewList base at brackets (elements m behind) m n) (listed n base at brackets (m + 1) behind)
      (λ e. elements_signs K m behind h.1) (λ e. listed_signs K n base at brackets (m + 1) behind h.1)
  listed_signs K n base at brackets m (tree.more (Node f parts) behind) h = listed_signs K n base at brackets (m + widths parts) behind h.1
  listed_signs K n base at brackets m tree.none h = tt

  elements_signs : (K : ℕ → Kind) (n : ℕ) (ts : Asts) → AllSeen K (n + 1) ts → ElementSigns (DecidesAt K) (elements n ts)
  elements_signs K n (tree.more x (tree.more mark behind)) h =
      either_elements (DecidesAt K) (is_mark x) no_more _ tt (
        either_initial (DecidesAt K) (is_braced x) (Listed (inside (n + 1) x) (n + 1)) (Value (expression (n + 1) x)) (inside_signs K (n + 1) x h.0) (expression_signs K (n + 1) x h.0),
        elements_signs K (n + width x + width mark) behind (moved K (n + 1 + width x + width mark) (n + width x + width mark + 1) behind (omega arith) h.1.1),
      )
  elements_signs K n (tree.more x tree.none) h = tt
  elements_signs K n tree.none h = tt

  inside_signs : (K : ℕ → Kind) (n : ℕ) (t : Ast) → Seen K n t → ElementSigns (DecidesAt K) (inside n t)
  inside_signs K n (Node f (tree.more (Leaf brace) parts)) h = elements_signs K n parts h.1.1
  inside_signs K n _ h = tt

  pub arguments_of_signs : (K : ℕ → Kind) (n : ℕ) (t : Ast) → Seen K n t → RowSigns (DecidesAt K) (arguments_of n t)
  arguments_of_signs K n (Node form.Args (tree.more paren parts)) h = arguments_signs K (n + width paren) parts h.1.1
  arguments_of_signs K n _ h = tt

  arguments_signs : (K : ℕ → Kind) (n : ℕ) (ts : Asts) → AllSeen K n ts → RowSigns (DecidesAt K) (arguments n ts)
  arguments_signs K n (tree.more e (tree.more mark parts)) h = (expression_signs K n e h.0, arguments_signs K (n + width e + width mark) parts h.1.1)
  arguments_signs K n _ h = tt

pub initial_signs : (K : ℕ → Kind) (n : ℕ) (t : Ast) → Seen K n t → InitialSigns (DecidesAt K) (initial n t)
initial_signs K n t h = either_initial (DecidesAt K) (is_braced t) (Listed (inside n t) n) (Value (expression n t)) (inside_signs K n t h) (expression_signs K n t h)
