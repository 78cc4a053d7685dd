-- The expression that a tree is, where its first token has a number: one rule a production (JLS 15).
use Rattle.std.specs.Prelude.{ℕ, suc, ◌+◌, Bool, true, false, ◌||◌, ◌&&◌, if◌then◌else◌}
use Rattle.wy_tree.specs.Seen.{Tok}
use Rattle.wy_tree.specs.Ast.{Ast, Asts, Leaf, Node}
use Rattle.wy_tree.specs.Ast as tree
use Rattle.wy_tree.specs.Kinds.{kind_of, same}
use Rattle.wy_tree.specs.declared.kind.Kind.TheVariants as kinds
use Rattle.wy_tree.specs.declared.tree.Form.TheVariants as form
use Rattle.wy_syntax.specs.Syntax.{Base, Expression, Literal, Name, This, Group, Invoke, Field, InvokeOn, SuperField, SuperInvoke, Element, NewObject, NewArray, NewList, Unary, Step, Binary, Both, Either, InstanceOf, Cast, Choice, Assign, Update, Wrong, Row, none, more, Initial, Value, Listed, Elements, no_more, element}
use Rattle.wy_syntax.specs.Names.{width, is_leaf, name_of, named, word_of, sign_of, base_named, written, operator, updating, prefix, is_up}

-- a name, `this`, or a literal
abbrev pub leaf : Tok → ℕ → Expression
leaf o n =
    if same (kind_of o) kinds.Word || same (kind_of o) kinds.Override then Name (word_of o) n else
    (if same (kind_of o) kinds.This then This n else
    (if same (kind_of o) kinds.Literal || same (kind_of o) kinds.Big then Literal o n else Wrong))

-- an operator between two expressions
abbrev pub joined : Tok → Expression → Expression → ℕ → Expression
joined o l r n =
    if same (kind_of o) kinds.AndAlso then Both l r n else
    (if same (kind_of o) kinds.OrElse then Either l r n else Binary (operator (sign_of o)) l r n)

abbrev pub assigned : Tok → Expression → Expression → ℕ → Expression
assigned o l v n = if same (kind_of o) kinds.Assign then Assign l v n else Update (updating (sign_of o)) l v n

abbrev pub prefixed : Tok → Expression → ℕ → Expression
prefixed o e n = if same (kind_of o) kinds.Step then Step true (is_up (sign_of o)) e n else Unary (prefix (sign_of o)) e n

-- the pairs of brackets with nothing between them
abbrev pub empty_pairs : Asts → ℕ
empty_pairs (tree.more a (tree.more b behind)) = if is_leaf kinds.OpenBracket a && is_leaf kinds.CloseBracket b then suc (empty_pairs behind) else empty_pairs (tree.more b behind)
empty_pairs _ = 0

-- a comma or a brace
abbrev pub is_mark : Ast → Bool
is_mark t = is_leaf kinds.Comma t || is_leaf kinds.CloseBrace t

-- steps behind an expression, the first of which has number n
abbrev pub stepped : Expression → ℕ → Asts → Expression
stepped e n tree.none = e
stepped e n (tree.more (Leaf o) steps) = stepped (Step false (is_up (sign_of o)) e n) (n + 1) steps
stepped e n (tree.more (Node f parts) steps) = Wrong

-- parentheses around the inner expression, or a field of an object or of the superclass
abbrev pub three : ℕ → Ast → Ast → Ast → Expression → Expression → Expression
three n a b c object inner =
    if is_leaf kinds.OpenParen a then Group inner n else
    (if is_leaf kinds.Super a then SuperField (name_of c) (n + width a + width b) else Field object (name_of c) (n + width a + width b))

-- an element of an array, or a call on an object or of the superclass's method
abbrev pub four : ℕ → Ast → Ast → Ast → Expression → Expression → Row → Expression
four n a b c object index args =
    if is_leaf kinds.OpenBracket b then Element object index (n + width a) else
    (if is_leaf kinds.Super a then SuperInvoke (name_of c) args (n + width a + width b + width c) else InvokeOn object (name_of c) args (n + width a + width b + width c))

-- elements in braces
abbrev pub is_braced : Ast → Bool
is_braced (Node form.Init parts) = true
is_braced _ = false

unfoldable mutual
  pub expression : ℕ → Ast → Expression
  expression n (Leaf o) = leaf o n
  expression n (Node form.Expr parts) = assignment n parts
  expression n (Node form.Cond parts) = choice n parts
  expression n (Node form.Binary parts) = binary n parts
  expression n (Node form.Unary parts) = unary n parts
  expression n (Node form.Cast parts) = cast n parts
  expression n (Node form.Postfix parts) = postfix n parts
  expression n (Node form.Primary parts) = primary n parts
  expression n (Node form.New parts) = creation n parts
  expression n (Node f parts) = Wrong

  pub assignment : ℕ → Asts → Expression
  assignment n (tree.more l (tree.more (Leaf o) (tree.more v tree.none))) = assigned o (expression n l) (expression (n + width l + 1) v) (n + width l)
  assignment n _ = Wrong

  pub choice : ℕ → Asts → Expression
  choice n (tree.more c (tree.more q (tree.more a (tree.more colon (tree.more b tree.none))))) =
      Choice (expression n c) (expression (n + width c + width q) a) (expression (n + width c + width q + width a + width colon) b) (n + width c)
  choice n _ = Wrong

  pub binary : ℕ → Asts → Expression
  binary n (tree.more l (tree.more (Leaf o) (tree.more r tree.none))) =
      if same (kind_of o) kinds.Instanceof then InstanceOf (expression n l) (written (n + width l + 1) r) (n + width l)
      else joined o (expression n l) (expression (n + width l + 1) r) (n + width l)
  binary n _ = Wrong

  pub unary : ℕ → Asts → Expression
  unary n (tree.more (Leaf o) (tree.more e tree.none)) = prefixed o (expression (n + 1) e) n
  unary n _ = Wrong

  -- `(`, a type, `)` and the operand
  pub cast : ℕ → Asts → Expression
  cast n (tree.more paren (tree.more t (tree.more close (tree.more e tree.none)))) =
      Cast (written (n + width paren) t) (expression (n + width paren + width t + width close) e) n
  cast n _ = Wrong

  pub postfix : ℕ → Asts → Expression
  postfix n (tree.more e steps) = stepped (expression n e) (n + width e) steps
  postfix n tree.none = Wrong

  -- a call, parentheses, a member or an element
  pub primary : ℕ → Asts → Expression
  primary n (tree.more f (tree.more args tree.none)) = Invoke (name_of f) (arguments_of (n + width f) args) (n + width f)
  primary n (tree.more a (tree.more b (tree.more c tree.none))) = three n a b c (expression n a) (expression (n + width a) b)
  primary n (tree.more a (tree.more b (tree.more c (tree.more d tree.none)))) =
      four n a b c (expression n a) (expression (n + width a + width b) c) (arguments_of (n + width a + width b + width c) d)
  primary n _ = Wrong

  -- `new`, a class and arguments; or an element type and what its brackets hold
  pub creation : ℕ → Asts → Expression
  creation n (tree.more word (tree.more c (tree.more args tree.none))) = NewObject (named (n + width word) c) (arguments_of (n + width word + width c) args) n
  creation n (tree.more word (tree.more base (tree.more bracket (tree.more x behind)))) =
      if is_leaf kinds.CloseBracket x
      then listed n (base_named base) (n + width word) (empty_pairs (tree.more bracket (tree.more x behind))) (n + width word + width base + width bracket + width x) behind
      else NewArray (base_named base) (n + width word) (sizes (n + width word + width base) (tree.more bracket (tree.more x behind))) (empty_pairs behind) n
  creation n _ = Wrong

  -- what stands in brackets, up to a pair with nothing between
  pub sizes : ℕ → Asts → Row
  sizes n (tree.more bracket (tree.more x (tree.more close behind))) =
      if is_leaf kinds.CloseBracket x then none else more (expression (n + width bracket) x) (sizes (n + width bracket + width x + width close) behind)
  sizes n _ = none

  -- an array with its elements: from the first part that may be its `{` on, whose number is m
  pub listed : ℕ → Base → ℕ → ℕ → ℕ → Asts → Expression
  listed n base at brackets m (tree.more x behind) =
      if is_leaf kinds.OpenBrace x then NewList base at brackets (elements m behind) m n else listed n base at brackets (m + width x) behind
  listed n base at brackets m tree.none = Wrong

  -- what stands in braces, behind the token of number n
  pub elements : ℕ → Asts → Elements
  elements n (tree.more x (tree.more mark behind)) =
      if is_mark x then no_more
      else element n (if is_braced x then Listed (inside (n + 1) x) (n + 1) else Value (expression (n + 1) x)) (elements (n + width x + width mark) behind)
  elements n _ = no_more

  pub inside : ℕ → Ast → Elements
  inside n (Node f (tree.more (Leaf brace) parts)) = elements n parts
  inside n _ = no_more

  pub arguments_of : ℕ → Ast → Row
  arguments_of n (Node form.Args (tree.more paren parts)) = arguments (n + width paren) parts
  arguments_of n _ = none

  -- expressions with one part behind each, or `)` alone
  pub arguments : ℕ → Asts → Row
  arguments n (tree.more e (tree.more mark parts)) = more (expression n e) (arguments (n + width e + width mark) parts)
  arguments n _ = none

-- what a variable is given first: a value, or elements in braces
abbrev pub initial : ℕ → Ast → Initial
initial n t = if is_braced t then Listed (inside n t) n else Value (expression n t)

-- an array by its type, which begins at the second number, and by the parts behind it
abbrev pub array : ℕ → ℕ → Ast → Asts → Expression
array n at base (tree.more bracket (tree.more x behind)) =
    if is_leaf kinds.CloseBracket x
    then listed n (base_named base) at (empty_pairs (tree.more bracket (tree.more x behind))) (at + width base + width bracket + width x) behind
    else NewArray (base_named base) at (sizes (at + width base) (tree.more bracket (tree.more x behind))) (empty_pairs behind) n
array n at base _ = Wrong
