-- The signs `&&`, `||` and `?` of a tree's expressions stand at its tokens, one after another: no two at one token.
use Rattle.std.proofs.Common.{◌≡◌, refl, sym, subst, arith, ℕ, ◌+◌, ◌≤◌, Bool, true, false, ◌||◌, if◌then◌else◌, List, [], ◌++◌}
use Rattle.wy_tree.specs.Seen.{Tok}
use Rattle.wy_tree.specs.Kinds.{kind_of, same}
use Rattle.wy_tree.specs.Ast.{Ast, Asts, Leaf, Node}
use Rattle.wy_tree.specs.Ast as tree
use Rattle.wy_tree.specs.declared.kind.Kind.TheVariants as kinds
use Rattle.wy_tree.specs.declared.tree.Form.TheVariants as form
use Rattle.wy_syntax.specs.Syntax.{Base, Expression, Literal, Name, This, Group, Field, InvokeOn, SuperField, SuperInvoke, Element, NewArray, NewList, Unary, Step, Binary, Both, Either, InstanceOf, Assign, Update, Wrong, Row, none, more, Initial, Value, Listed, Elements, no_more}
use Rattle.wy_syntax.specs.Names.{width, widths, is_leaf, name_of, word_of, sign_of, base_named, written, operator, updating, prefix, is_up}
use Rattle.wy_syntax.specs.Expressions.{leaf, joined, assigned, prefixed, empty_pairs, is_mark, stepped, three, four, is_braced, expression, assignment, choice, binary, unary, cast, postfix, primary, creation, sizes, listed, elements, inside, arguments_of, arguments, initial}
use Rattle.law_structure.proofs.Trees.{Full, AllFull, parts_full, wide}
use Rattle.law_sites.proofs.FewExpressions.{signs, row_signs, initial_signs, element_signs}
use Rattle.law_sites.proofs.Rising.{Rising, bounded, rise_none, rise_wider, rise_both, rise_at}

-- the signs of an expression, of a row, of elements
abbrev pub Signs : ℕ → Expression → ℕ → Type 0
Signs low e high = Rising low (signs e) high

abbrev pub RowSigns : ℕ → Row → ℕ → Type 0
RowSigns low es high = Rising low (row_signs es) high

abbrev pub InitialSigns : ℕ → Initial → ℕ → Type 0
InitialSigns low i high = Rising low (initial_signs i) high

abbrev pub ElementSigns : ℕ → Elements → ℕ → Type 0
ElementSigns low es high = Rising low (element_signs es) high

if_rises : (low high : ℕ) (b : Bool) (x y : Expression) → Signs low x high → Signs low y high → Signs low (if b then x else y) high
if_rises low high true x y h i = h
if_rises low high false x y h i = i

none_in_leaf : (o : Tok) (n : ℕ) → signs (leaf o n) ≡ []
none_in_leaf o n =
    either (same (kind_of o) kinds.Word || same (kind_of o) kinds.Override) (Name (word_of o) n) _ refl
    (either (same (kind_of o) kinds.This) (This n) _ refl
    (either (same (kind_of o) kinds.Literal || same (kind_of o) kinds.Big) (Literal o n) Wrong refl refl))
  where
    either : (b : Bool) (x y : Expression) → signs x ≡ [] → signs y ≡ [] → signs (if b then x else y) ≡ []
    either true x y h i = h
    either false x y h i = i

pub leaf_rises : (o : Tok) (n low high : ℕ) → low ≤ high → Signs low (leaf o n) high
leaf_rises o n low high h = let P : List ℕ → Type 0 = λ xs. Rising low xs high in subst P (sym (none_in_leaf o n)) (rise_none h)

assigned_rises : (o : Tok) (l v : Expression) (n low high : ℕ) → Rising low (signs l ++ signs v) high → Signs low (assigned o l v n) high
assigned_rises o l v n low high h = if_rises low high (same (kind_of o) kinds.Assign) (Assign l v n) (Update (updating (sign_of o)) l v n) h h

prefixed_rises : (o : Tok) (e : Expression) (n low high : ℕ) → Signs low e high → Signs low (prefixed o e n) high
prefixed_rises o e n low high h = if_rises low high (same (kind_of o) kinds.Step) (Step true (is_up (sign_of o)) e n) (Unary (prefix (sign_of o)) e n) h h

stepped_rises : (e : Expression) (n : ℕ) (steps : Asts) (low high : ℕ) → Signs low e high → Signs low (stepped e n steps) high
stepped_rises e n tree.none low high h = h
stepped_rises e n (tree.more (Leaf o) steps) low high h = stepped_rises (Step false (is_up (sign_of o)) e n) (n + 1) steps low high h
stepped_rises e n (tree.more (Node f parts) steps) low high h = rise_none (bounded h)

joined_rises : (o : Tok) (l r : Expression) (n low high : ℕ) → Signs low l n → Signs (n + 1) r high → Signs low (joined o l r n) high
joined_rises o l r n low high h i =
    let plain : Rising low (signs l ++ signs r) high = rise_both h (rise_wider (omega arith) (omega arith) i) in
    if_rises low high (same (kind_of o) kinds.AndAlso) (Both l r n) _ (rise_at n h i)
    (if_rises low high (same (kind_of o) kinds.OrElse) (Either l r n) (Binary (operator (sign_of o)) l r n) (rise_at n h i) plain)

three_rises : (n : ℕ) (a b c : Ast) (object within : Expression) (low high : ℕ) → Signs low object high → Signs low within high → Signs low (three n a b c object within) high
three_rises n a b c object within low high h i =
    if_rises low high (is_leaf kinds.OpenParen a) (Group within n) _ i
    (if_rises low high (is_leaf kinds.Super a) (SuperField (name_of c) (n + width a + width b)) (Field object (name_of c) (n + width a + width b)) (rise_none (bounded h)) h)

four_rises : (n : ℕ) (a b c : Ast) (object index : Expression) (args : Row) (low high : ℕ) → Rising low (signs object ++ signs index) high → Rising low (signs object ++ row_signs args) high → RowSigns low args high → Signs low (four n a b c object index args) high
four_rises n a b c object index args low high h i j =
    if_rises low high (is_leaf kinds.OpenBracket b) (Element object index (n + width a)) _ h
    (if_rises low high (is_leaf kinds.Super a) (SuperInvoke (name_of c) args (n + width a + width b + width c)) (InvokeOn object (name_of c) args (n + width a + width b + width c)) j i)

either_initial : (low high : ℕ) (b : Bool) (x y : Initial) → InitialSigns low x high → InitialSigns low y high → InitialSigns low (if b then x else y) high
either_initial low high true x y h i = h
either_initial low high false x y h i = i

either_row : (low high : ℕ) (b : Bool) (x y : Row) → RowSigns low x high → RowSigns low y high → RowSigns low (if b then x else y) high
either_row low high true x y h i = h
either_row low high false x y h i = i

either_elements : (low high : ℕ) (b : Bool) (x y : Elements) → ElementSigns low x high → ElementSigns low y high → ElementSigns low (if b then x else y) high
either_elements low high true x y h i = h
either_elements low high false x y h i = i

mutual
  unfolding expression assignment choice binary unary cast postfix primary creation sizes listed elements inside arguments_of arguments

  pub expression_rises : (n : ℕ) (t : Ast) → Full t → Signs n (expression n t) (n + width t)
  expression_rises n (Leaf o) f = leaf_rises o n n (n + 1) (omega arith)
  expression_rises n (Node form.Expr parts) f = assignment_rises n parts (parts_full parts f)
  expression_rises n (Node form.Cond parts) f = choice_rises n parts (parts_full parts f)
  expression_rises n (Node form.Binary parts) f = binary_rises n parts (parts_full parts f)
  expression_rises n (Node form.Unary parts) f = unary_rises n parts (parts_full parts f)
  expression_rises n (Node form.Cast parts) f = cast_rises n parts (parts_full parts f)
  expression_rises n (Node form.Postfix parts) f = postfix_rises n parts (parts_full parts f)
  expression_rises n (Node form.Primary parts) f = primary_rises n parts (parts_full parts f)
  expression_rises n (Node form.New parts) f = creation_rises n parts (parts_full parts f)
  expression_rises n (Node g parts) f = rise_none (omega arith)

  assignment_rises : (n : ℕ) (ts : Asts) → AllFull ts → Signs n (assignment n ts) (n + widths ts)
  assignment_rises n (tree.more l (tree.more (Leaf o) (tree.more v tree.none))) f =
      assigned_rises o (expression n l) (expression (n + width l + 1) v) (n + width l) n (n + (width l + (1 + (width v + 0))))
      (rise_both (expression_rises n l f.0) (rise_wider (omega arith) (omega arith) (expression_rises (n + width l + 1) v f.1.1.0)))
  assignment_rises n ts f = rise_none (omega arith)

  choice_rises : (n : ℕ) (ts : Asts) → AllFull ts → Signs n (choice n ts) (n + widths ts)
  choice_rises n (tree.more c (tree.more q (tree.more a (tree.more colon (tree.more b tree.none))))) f =
      let there : 1 ≤ width q = wide q f.1.0 in
      rise_at (n + width c) (expression_rises n c f.0)
      (rise_both (rise_wider (omega arith) (omega arith) (expression_rises (n + width c + width q) a f.1.1.0))
      (rise_wider {low = n + width c + width q + width a + width colon} {less = n + width c + width q + width a} (omega arith) (omega arith) (expression_rises (n + width c + width q + width a + width colon) b f.1.1.1.1.0)))
  choice_rises n ts f = rise_none (omega arith)

  binary_rises : (n : ℕ) (ts : Asts) → AllFull ts → Signs n (binary n ts) (n + widths ts)
  binary_rises n (tree.more l (tree.more (Leaf o) (tree.more r tree.none))) f =
      if_rises n (n + (width l + (1 + (width r + 0)))) (same (kind_of o) kinds.Instanceof) (InstanceOf (expression n l) (written (n + width l + 1) r) (n + width l)) (joined o (expression n l) (expression (n + width l + 1) r) (n + width l))
      (rise_wider (omega arith) (omega arith) (expression_rises n l f.0))
      (joined_rises o (expression n l) (expression (n + width l + 1) r) (n + width l) n (n + (width l + (1 + (width r + 0)))) (expression_rises n l f.0) (rise_wider (omega arith) (omega arith) (expression_rises (n + width l + 1) r f.1.1.0)))
  binary_rises n ts f = rise_none (omega arith)

  unary_rises : (n : ℕ) (ts : Asts) → AllFull ts → Signs n (unary n ts) (n + widths ts)
  unary_rises n (tree.more (Leaf o) (tree.more e tree.none)) f = prefixed_rises o (expression (n + 1) e) n n (n + (1 + (width e + 0))) (rise_wider (omega arith) (omega arith) (expression_rises (n + 1) e f.1.0))
  unary_rises n ts f = rise_none (omega arith)

  cast_rises : (n : ℕ) (ts : Asts) → AllFull ts → Signs n (cast n ts) (n + widths ts)
  cast_rises n (tree.more paren (tree.more t (tree.more close (tree.more e tree.none)))) f = rise_wider (omega arith) (omega arith) (expression_rises (n + width paren + width t + width close) e f.1.1.1.0)
  cast_rises n ts f = rise_none (omega arith)

  postfix_rises : (n : ℕ) (ts : Asts) → AllFull ts → Signs n (postfix n ts) (n + widths ts)
  postfix_rises n (tree.more e steps) f = stepped_rises (expression n e) (n + width e) steps n (n + (width e + widths steps)) (rise_wider (omega arith) (omega arith) (expression_rises n e f.0))
  postfix_rises n tree.none f = rise_none (omega arith)

  primary_rises : (n : ℕ) (ts : Asts) → AllFull ts → Signs n (primary n ts) (n + widths ts)
  primary_rises n (tree.more g (tree.more args tree.none)) f = rise_wider (omega arith) (omega arith) (arguments_of_rises (n + width g) args f.1.0)
  primary_rises n (tree.more a (tree.more b (tree.more c tree.none))) f =
      three_rises n a b c (expression n a) (expression (n + width a) b) n (n + (width a + (width b + (width c + 0))))
      (rise_wider (omega arith) (omega arith) (expression_rises n a f.0)) (rise_wider (omega arith) (omega arith) (expression_rises (n + width a) b f.1.0))
  primary_rises n (tree.more a (tree.more b (tree.more c (tree.more d tree.none)))) f =
      let high = n + (width a + (width b + (width c + (width d + 0)))) in
      let args : RowSigns (n + width a + width b + width c) (arguments_of (n + width a + width b + width c) d) (n + width a + width b + width c + width d) = arguments_of_rises (n + width a + width b + width c) d f.1.1.1.0 in
      four_rises n a b c (expression n a) (expression (n + width a + width b) c) (arguments_of (n + width a + width b + width c) d) n high
      (rise_both (expression_rises n a f.0) (rise_wider (omega arith) (omega arith) (expression_rises (n + width a + width b) c f.1.1.0)))
      (rise_both (expression_rises n a f.0) (rise_wider (omega arith) (omega arith) args)) (rise_wider (omega arith) (omega arith) args)
  primary_rises n ts f = rise_none (omega arith)

  creation_rises : (n : ℕ) (ts : Asts) → AllFull ts → Signs n (creation n ts) (n + widths ts)
  creation_rises n (tree.more word (tree.more c (tree.more args tree.none))) f = rise_wider (omega arith) (omega arith) (arguments_of_rises (n + width word + width c) args f.1.1.0)
  creation_rises n (tree.more word (tree.more base (tree.more bracket (tree.more x behind)))) f =
      let m = n + width word + width base + width bracket + width x in
      let at = n + width word + width base in
      let pairs = empty_pairs (tree.more bracket (tree.more x behind)) in
      if_rises n (n + (width word + (width base + (width bracket + (width x + widths behind))))) (is_leaf kinds.CloseBracket x)
      (listed n (base_named base) (n + width word) pairs m behind)
      (NewArray (base_named base) (n + width word) (sizes at (tree.more bracket (tree.more x behind))) (empty_pairs behind) n)
      (rise_wider (omega arith) (omega arith) (listed_rises n (base_named base) (n + width word) pairs m behind f.1.1.1.1))
      (rise_wider (omega arith) (omega arith) (sizes_rises at (tree.more bracket (tree.more x behind)) f.1.1))
  creation_rises n ts f = rise_none (omega arith)

  sizes_rises : (n : ℕ) (ts : Asts) → AllFull ts → RowSigns n (sizes n ts) (n + widths ts)
  sizes_rises n (tree.more bracket (tree.more x (tree.more close behind))) f =
      let high = n + (width bracket + (width x + (width close + widths behind))) in
      either_row n high (is_leaf kinds.CloseBracket x) none (more (expression (n + width bracket) x) (sizes (n + width bracket + width x + width close) behind)) (rise_none (omega arith))
      (rise_both {middle = n + width bracket + width x} (rise_wider (omega arith) (omega arith) (expression_rises (n + width bracket) x f.1.0))
      (rise_wider (omega arith) (omega arith) (sizes_rises (n + width bracket + width x + width close) behind f.1.1.1)))
  sizes_rises n ts f = rise_none (omega arith)

  listed_rises : (n : ℕ) (base : Base) (at brackets m : ℕ) (ts : Asts) → AllFull ts → Signs m (listed n base at brackets m ts) (m + widths ts)
  listed_rises n base at brackets m (tree.more (Leaf o) behind) f =
      if_rises m (m + (1 + widths behind)) (is_leaf kinds.OpenBrace (Leaf o)) (NewList base at brackets (elements m behind) m n) (listed n base at brackets (m + 1) behind)
      (rise_wider (omega arith) (omega arith) (elements_rises m behind f.1)) (rise_wider (omega arith) (omega arith) (listed_rises n base at brackets (m + 1) behind f.1))
  listed_rises n base at brackets m (tree.more (Node g parts) behind) f = rise_wider (omega arith) (omega arith) (listed_rises n base at brackets (m + widths parts) behind f.1)
  listed_rises n base at brackets m tree.none f = rise_none (omega arith)

  elements_rises : (n : ℕ) (ts : Asts) → AllFull ts → ElementSigns (n + 1) (elements n ts) (n + 1 + widths ts)
  elements_rises n (tree.more x (tree.more mark behind)) f =
      either_elements (n + 1) (n + 1 + (width x + (width mark + widths behind))) (is_mark x) no_more _ (rise_none (omega arith))
      (rise_both {middle = n + 1 + width x}
      (either_initial (n + 1) (n + 1 + width x) (is_braced x) (Listed (inside (n + 1) x) (n + 1)) (Value (expression (n + 1) x)) (inside_rises (n + 1) x f.0) (expression_rises (n + 1) x f.0))
      (rise_wider (omega arith) (omega arith) (elements_rises (n + width x + width mark) behind f.1.1)))
  elements_rises n (tree.more x tree.none) f = rise_none (omega arith)
  elements_rises n tree.none f = rise_none (omega arith)

  inside_rises : (n : ℕ) (t : Ast) → Full t → ElementSigns n (inside n t) (n + width t)
  inside_rises n (Node g (tree.more (Leaf brace) parts)) f = rise_wider (omega arith) (omega arith) (elements_rises n parts f.1)
  inside_rises n t f = rise_none (omega arith)

  pub arguments_of_rises : (n : ℕ) (t : Ast) → Full t → RowSigns n (arguments_of n t) (n + width t)
  arguments_of_rises n (Node form.Args (tree.more paren parts)) f = rise_wider (omega arith) (omega arith) (arguments_rises (n + width paren) parts f.1)
  arguments_of_rises n t f = rise_none (omega arith)

  arguments_rises : (n : ℕ) (ts : Asts) → AllFull ts → RowSigns n (arguments n ts) (n + widths ts)
  arguments_rises n (tree.more e (tree.more mark parts)) f = rise_both (expression_rises n e f.0) (rise_wider (omega arith) (omega arith) (arguments_rises (n + width e + width mark) parts f.1.1))
  arguments_rises n ts f = rise_none (omega arith)

pub initial_rises : (n : ℕ) (t : Ast) → Full t → InitialSigns n (initial n t) (n + width t)
initial_rises n t f = either_initial n (n + width t) (is_braced t) (Listed (inside n t) n) (Value (expression n t)) (inside_rises n t f) (expression_rises n t f)
