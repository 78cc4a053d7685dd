-- The tokens that an expression carries are below each bound that those of its tree are below.
use Rattle.std.proofs.Common.{arith, ℕ, ◌+◌, ◌<◌, ◌≤◌, Bool, true, false, ◌||◌, if◌then◌else◌}
use Rattle.wy_tree.specs.Seen.{Tok}
use Rattle.wy_tree.specs.Kinds.{kind_of, same}
use Rattle.wy_tree.specs.Ast.{Ast, Asts, Leaf, Node}
use Rattle.wy_tree.specs.Ast as tree
use Rattle.wy_tree.specs.declared.kind.Kind.TheVariants as kinds
use Rattle.wy_tree.specs.declared.tree.Form.TheVariants as form
use Rattle.wy_syntax.specs.Syntax.{Base, Expression, Literal, Name, This, Group, Field, InvokeOn, SuperField, SuperInvoke, Element, NewArray, NewList, Unary, Step, Binary, Both, Either, InstanceOf, Assign, Update, Wrong, Row, none, more, Value, Listed, no_more}
use Rattle.wy_syntax.specs.Names.{width, widths, is_leaf, name_of, word_of, sign_of, base_named, written, operator, updating, prefix, is_up}
use Rattle.wy_syntax.specs.Expressions.{leaf, joined, assigned, prefixed, empty_pairs, is_mark, stepped, three, four, is_braced, expression, assignment, choice, binary, unary, cast, postfix, primary, creation, sizes, listed, elements, inside, arguments_of, arguments, initial}
use Rattle.law_structure.proofs.Trees.{Full, AllFull, parts_full, wide}
use Rattle.wy_typing.specs.Sites.{IsToken}
use Rattle.law_sites.proofs.Tokens.{Tokens, RowTokens, InitialTokens, ElementTokens}

-- what holds of both holds of the one that is chosen
pub either : {A : Type 0} (P : A → Type 0) (b : Bool) (x y : A) → P x → P y → P (if b then x else y)
either P true x y h i = h
either P false x y h i = i

leaf_tokens : (K : ℕ) (o : Tok) (n : ℕ) → n < K → Tokens (IsToken K) (leaf o n)
leaf_tokens K o n h =
    either (Tokens (IsToken K)) (same (kind_of o) kinds.Word || same (kind_of o) kinds.Override) (Name (word_of o) n) _ h
    (either (Tokens (IsToken K)) (same (kind_of o) kinds.This) (This n) _ h
    (either (Tokens (IsToken K)) (same (kind_of o) kinds.Literal || same (kind_of o) kinds.Big) (Literal o n) Wrong h tt))

assigned_tokens : (K : ℕ) (o : Tok) (l v : Expression) (n : ℕ) → n < K → Tokens (IsToken K) l → Tokens (IsToken K) v → Tokens (IsToken K) (assigned o l v n)
assigned_tokens K o l v n less h i = either (Tokens (IsToken K)) (same (kind_of o) kinds.Assign) (Assign l v n) (Update (updating (sign_of o)) l v n) (less, h, i) (less, h, i)

prefixed_tokens : (K : ℕ) (o : Tok) (e : Expression) (n : ℕ) → n < K → Tokens (IsToken K) e → Tokens (IsToken K) (prefixed o e n)
prefixed_tokens K o e n less h = either (Tokens (IsToken K)) (same (kind_of o) kinds.Step) (Step true (is_up (sign_of o)) e n) (Unary (prefix (sign_of o)) e n) (less, h) (less, h)

stepped_tokens : (K : ℕ) (e : Expression) (n : ℕ) (steps : Asts) → n + widths steps ≤ K → Tokens (IsToken K) e → Tokens (IsToken K) (stepped e n steps)
stepped_tokens K e n tree.none less h = h
stepped_tokens K e n (tree.more (Leaf o) steps) less h = stepped_tokens K (Step false (is_up (sign_of o)) e n) (n + 1) steps (omega arith) (omega arith, h)
stepped_tokens K e n (tree.more (Node g parts) steps) less h = tt

joined_tokens : (K : ℕ) (o : Tok) (l r : Expression) (n : ℕ) → n < K → Tokens (IsToken K) l → Tokens (IsToken K) r → Tokens (IsToken K) (joined o l r n)
joined_tokens K o l r n less h i =
    either (Tokens (IsToken K)) (same (kind_of o) kinds.AndAlso) (Both l r n) _ (less, h, i)
    (either (Tokens (IsToken K)) (same (kind_of o) kinds.OrElse) (Either l r n) (Binary (operator (sign_of o)) l r n) (less, h, i) (less, h, i))

three_tokens : (K n : ℕ) (a b c : Ast) (object within : Expression) → n + width a + width b < K → Tokens (IsToken K) object → Tokens (IsToken K) within → Tokens (IsToken K) (three n a b c object within)
three_tokens K n a b c object within less h i =
    either (Tokens (IsToken K)) (is_leaf kinds.OpenParen a) (Group within n) _ (omega arith, i)
    (either (Tokens (IsToken K)) (is_leaf kinds.Super a) (SuperField (name_of c) (n + width a + width b)) (Field object (name_of c) (n + width a + width b)) less (less, h))

four_tokens : (K n : ℕ) (a b c : Ast) (object index : Expression) (args : Row) → n + width a + width b + width c < K → Tokens (IsToken K) object → Tokens (IsToken K) index → RowTokens (IsToken K) args → Tokens (IsToken K) (four n a b c object index args)
four_tokens K n a b c object index args less h i j =
    either (Tokens (IsToken K)) (is_leaf kinds.OpenBracket b) (Element object index (n + width a)) _ (omega arith, h, i)
    (either (Tokens (IsToken K)) (is_leaf kinds.Super a) (SuperInvoke (name_of c) args (n + width a + width b + width c)) (InvokeOn object (name_of c) args (n + width a + width b + width c)) (less, j) (less, h, j))

first_tokens : (K n : ℕ) (t : Ast) → n < K → ElementTokens (IsToken K) (inside n t) → Tokens (IsToken K) (expression n t) → InitialTokens (IsToken K) (initial n t)
first_tokens K n t less h i = either (InitialTokens (IsToken K)) (is_braced t) (Listed (inside n t) n) (Value (expression n t)) (less, h) i

mutual
  unfolding expression assignment choice binary unary cast postfix primary creation sizes listed elements inside arguments_of arguments

  pub expression_tokens : (K n : ℕ) (t : Ast) → Full t → n + width t ≤ K → Tokens (IsToken K) (expression n t)
  expression_tokens K n (Leaf o) f less = leaf_tokens K o n (omega arith)
  expression_tokens K n (Node form.Expr parts) f less = assignment_tokens K n parts (parts_full parts f) less
  expression_tokens K n (Node form.Cond parts) f less = choice_tokens K n parts (parts_full parts f) less
  expression_tokens K n (Node form.Binary parts) f less = binary_tokens K n parts (parts_full parts f) less
  expression_tokens K n (Node form.Unary parts) f less = unary_tokens K n parts (parts_full parts f) less
  expression_tokens K n (Node form.Cast parts) f less = cast_tokens K n parts (parts_full parts f) less
  expression_tokens K n (Node form.Postfix parts) f less = postfix_tokens K n parts (parts_full parts f) less
  expression_tokens K n (Node form.Primary parts) f less = primary_tokens K n parts (parts_full parts f) less
  expression_tokens K n (Node form.New parts) f less = creation_tokens K n parts (parts_full parts f) less
  expression_tokens K n (Node g parts) f less = tt

  assignment_tokens : (K n : ℕ) (ts : Asts) → AllFull ts → n + widths ts ≤ K → Tokens (IsToken K) (assignment n ts)
  assignment_tokens K n (tree.more l (tree.more (Leaf o) (tree.more v tree.none))) f less =
      assigned_tokens K o (expression n l) (expression (n + width l + 1) v) (n + width l) (omega arith) (expression_tokens K n l f.0 (omega arith)) (expression_tokens K (n + width l + 1) v f.1.1.0 (omega arith))
  assignment_tokens K n _ f less = tt

  choice_tokens : (K n : ℕ) (ts : Asts) → AllFull ts → n + widths ts ≤ K → Tokens (IsToken K) (choice n ts)
  choice_tokens K n (tree.more c (tree.more q (tree.more a (tree.more colon (tree.more b tree.none))))) f less =
      (omega (arith, wide q f.1.0), expression_tokens K n c f.0 (omega arith), expression_tokens K (n + width c + width q) a f.1.1.0 (omega arith), expression_tokens K (n + width c + width q + width a + width colon) b f.1.1.1.1.0 (omega arith))
  choice_tokens K n _ f less = tt

  binary_tokens : (K n : ℕ) (ts : Asts) → AllFull ts → n + widths ts ≤ K → Tokens (IsToken K) (binary n ts)
  binary_tokens K n (tree.more l (tree.more (Leaf o) (tree.more r tree.none))) f less =
      let left : Tokens (IsToken K) (expression n l) = expression_tokens K n l f.0 (omega arith) in
      either (Tokens (IsToken K)) (same (kind_of o) kinds.Instanceof) (InstanceOf (expression n l) (written (n + width l + 1) r) (n + width l)) (joined o (expression n l) (expression (n + width l + 1) r) (n + width l))
      (omega arith, left)
      (joined_tokens K o (expression n l) (expression (n + width l + 1) r) (n + width l) (omega arith) left (expression_tokens K (n + width l + 1) r f.1.1.0 (omega arith)))
  binary_tokens K n _ f less = tt

  unary_tokens : (K n : ℕ) (ts : Asts) → AllFull ts → n + widths ts ≤ K → Tokens (IsToken K) (unary n ts)
  unary_tokens K n (tree.more (Leaf o) (tree.more e tree.none)) f less = prefixed_tokens K o (expression (n + 1) e) n (omega arith) (expression_tokens K (n + 1) e f.1.0 (omega arith))
  unary_tokens K n _ f less = tt

  cast_tokens : (K n : ℕ) (ts : Asts) → AllFull ts → n + widths ts ≤ K → Tokens (IsToken K) (cast n ts)
  cast_tokens K n (tree.more paren (tree.more t (tree.more close (tree.more e tree.none)))) f less =
      (omega (arith, wide paren f.0), expression_tokens K (n + width paren + width t + width close) e f.1.1.1.0 (omega arith))
  cast_tokens K n _ f less = tt

  postfix_tokens : (K n : ℕ) (ts : Asts) → AllFull ts → n + widths ts ≤ K → Tokens (IsToken K) (postfix n ts)
  postfix_tokens K n (tree.more e steps) f less = stepped_tokens K (expression n e) (n + width e) steps (omega arith) (expression_tokens K n e f.0 (omega arith))
  postfix_tokens K n tree.none f less = tt

  primary_tokens : (K n : ℕ) (ts : Asts) → AllFull ts → n + widths ts ≤ K → Tokens (IsToken K) (primary n ts)
  primary_tokens K n (tree.more g (tree.more args tree.none)) f less = (omega (arith, wide args f.1.0), arguments_tokens K (n + width g) args f.1.0 (omega arith))
  primary_tokens K n (tree.more a (tree.more b (tree.more c tree.none))) f less =
      three_tokens K n a b c (expression n a) (expression (n + width a) b) (omega (arith, wide c f.1.1.0)) (expression_tokens K n a f.0 (omega arith)) (expression_tokens K (n + width a) b f.1.0 (omega arith))
  primary_tokens K n (tree.more a (tree.more b (tree.more c (tree.more d tree.none)))) f less =
      four_tokens K n a b c (expression n a) (expression (n + width a + width b) c) (arguments_of (n + width a + width b + width c) d) (omega (arith, wide d f.1.1.1.0))
      (expression_tokens K n a f.0 (omega arith)) (expression_tokens K (n + width a + width b) c f.1.1.0 (omega arith)) (arguments_tokens K (n + width a + width b + width c) d f.1.1.1.0 (omega arith))
  primary_tokens K n _ f less = tt

  creation_tokens : (K n : ℕ) (ts : Asts) → AllFull ts → n + widths ts ≤ K → Tokens (IsToken K) (creation n ts)
  creation_tokens K n (tree.more word (tree.more c (tree.more args tree.none))) f less = (omega (arith, wide word f.0), arguments_tokens K (n + width word + width c) args f.1.1.0 (omega arith))
  creation_tokens K n (tree.more word (tree.more base (tree.more bracket (tree.more x behind)))) f less =
      let here : n < K = omega (arith, wide word f.0) in
      let m = n + width word + width base + width bracket + width x in
      let at = n + width word + width base in
      let pairs = empty_pairs (tree.more bracket (tree.more x behind)) in
      either (Tokens (IsToken K)) (is_leaf kinds.CloseBracket x)
      (listed n (base_named base) (n + width word) pairs m behind)
      (NewArray (base_named base) (n + width word) (sizes at (tree.more bracket (tree.more x behind))) (empty_pairs behind) n)
      (listed_tokens K n (base_named base) (n + width word) pairs m behind here f.1.1.1.1 (omega arith))
      (here, sizes_tokens K at (tree.more bracket (tree.more x behind)) f.1.1 (omega arith))
  creation_tokens K n _ f less = tt

  sizes_tokens : (K n : ℕ) (ts : Asts) → AllFull ts → n + widths ts ≤ K → RowTokens (IsToken K) (sizes n ts)
  sizes_tokens K n (tree.more bracket (tree.more x (tree.more close behind))) f less =
      either (RowTokens (IsToken K)) (is_leaf kinds.CloseBracket x) none (more (expression (n + width bracket) x) (sizes (n + width bracket + width x + width close) behind)) tt
      (expression_tokens K (n + width bracket) x f.1.0 (omega arith), sizes_tokens K (n + width bracket + width x + width close) behind f.1.1.1 (omega arith))
  sizes_tokens K n _ f less = tt

  listed_tokens : (K n : ℕ) (base : Base) (at brackets m : ℕ) (ts : Asts) → n < K → AllFull ts → m + widths ts ≤ K → Tokens (IsToken K) (listed n base at brackets m ts)
  listed_tokens K n base at brackets m (tree.more (Leaf o) behind) here f less =
      either (Tokens (IsToken K)) (is_leaf kinds.OpenBrace (Leaf o)) (NewList base at brackets (elements m behind) m n) (listed n base at brackets (m + 1) behind)
      (here, omega arith, elements_tokens K m behind f.1 (omega arith)) (listed_tokens K n base at brackets (m + 1) behind here f.1 (omega arith))
  listed_tokens K n base at brackets m (tree.more (Node g parts) behind) here f less = listed_tokens K n base at brackets (m + widths parts) behind here f.1 (omega arith)
  listed_tokens K n base at brackets m tree.none here f less = tt

  elements_tokens : (K n : ℕ) (ts : Asts) → AllFull ts → n + 1 + widths ts ≤ K → ElementTokens (IsToken K) (elements n ts)
  elements_tokens K n (tree.more x (tree.more mark behind)) f less =
      either (ElementTokens (IsToken K)) (is_mark x) no_more _ tt (
        omega arith,
        first_tokens K (n + 1) x (omega (arith, wide x f.0)) (inside_tokens K (n + 1) x f.0 (omega arith)) (expression_tokens K (n + 1) x f.0 (omega arith)),
        elements_tokens K (n + width x + width mark) behind f.1.1 (omega arith),
      )
  elements_tokens K n (tree.more x tree.none) f less = tt
  elements_tokens K n tree.none f less = tt

  inside_tokens : (K n : ℕ) (t : Ast) → Full t → n + width t ≤ K → ElementTokens (IsToken K) (inside n t)
  inside_tokens K n (Node g (tree.more (Leaf brace) parts)) f less = elements_tokens K n parts f.1 (omega arith)
  inside_tokens K n _ f less = tt

  pub arguments_tokens : (K n : ℕ) (t : Ast) → Full t → n + width t ≤ K → RowTokens (IsToken K) (arguments_of n t)
  arguments_tokens K n (Node form.Args (tree.more paren parts)) f less = all_arguments_tokens K (n + width paren) parts f.1 (omega arith)
  arguments_tokens K n _ f less = tt

  all_arguments_tokens : (K n : ℕ) (ts : Asts) → AllFull ts → n + widths ts ≤ K → RowTokens (IsToken K) (arguments n ts)
  all_arguments_tokens K n (tree.more e (tree.more mark parts)) f less = (expression_tokens K n e f.0 (omega arith), all_arguments_tokens K (n + width e + width mark) parts f.1.1 (omega arith))
  all_arguments_tokens K n _ f less = tt

pub initial_tokens : (K n : ℕ) (t : Ast) → Full t → n + width t ≤ K → InitialTokens (IsToken K) (initial n t)
initial_tokens K n t f less = first_tokens K n t (omega (arith, wide t f)) (inside_tokens K n t f less) (expression_tokens K n t f less)
