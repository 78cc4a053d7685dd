-- The statement that a tree is, where its first token has a number: one rule a production (JLS 14).
use Rattle.std.specs.Prelude.{ℕ, ◌+◌, Bool, true, false, if◌then◌else◌, List, [], ◌∷◌, Option, Some, None}
use Rattle.wy_tree.specs.Ast.{Ast, Asts, Leaf, Node}
use Rattle.wy_tree.specs.Ast as tree
use Rattle.wy_tree.specs.Conditions.{first_kind, pairs}
use Rattle.wy_tree.specs.declared.kind.Kind.{Kind}
use Rattle.wy_tree.specs.declared.kind.Kind.TheVariants as kinds
use Rattle.wy_tree.specs.declared.tree.Form.TheVariants as form
use Rattle.wy_syntax.specs.Syntax.{Named, Expression, Initial, Declarator, Effect, ForInit, Nothing, Declared, Effects, Statement, Block, Empty, Declare, Perform, If, While, Do, For, Labelled, Break, Continue, Return, Throw, Try, Unknown, Braced, braced, Statements, done, first, Other, absent, present, Last, nowhere, finally, Catches, uncaught, catch}
use Rattle.wy_syntax.specs.Names.{width, widths, is_leaf, named, written}
use Rattle.wy_syntax.specs.Expressions.{expression, initial}

abbrev pub effect : ℕ → Ast → Effect
effect n t = record { value = expression n t; token = n }

-- ---- declarators

-- what stands behind `=`, if it does
unfoldable pub initial_in : ℕ → Asts → Option Initial
initial_in n (tree.more x (tree.more v behind)) = if is_leaf kinds.Assign x then Some (initial (n + width x) v) else initial_in (n + width x) (tree.more v behind)
initial_in n _ = None

-- a name alone
abbrev pub lone_declarator : ℕ → Ast → Declarator
lone_declarator n t = record { name = named n t; brackets = 0; initial = None }

unfoldable pub declarator : ℕ → Ast → Declarator
declarator n (Node form.Decl (tree.more x behind)) = record { name = named n x; brackets = pairs behind; initial = initial_in (n + width x) behind }
declarator n t = lone_declarator n t

unfoldable pub declarator_list : ℕ → Asts → List Declarator
declarator_list n (tree.more d (tree.more comma rest)) = declarator n d ∷ declarator_list (n + width d + width comma) rest
declarator_list n (tree.more d tree.none) = declarator n d ∷ []
declarator_list n tree.none = []

unfoldable pub declarators : ℕ → Ast → List Declarator
declarators n (Node form.Decls parts) = declarator_list n parts
declarators n t = declarator n t ∷ []

-- ---- the head of a `for`

-- the expressions behind the first, from the part behind it on: one a comma
unfoldable pub effects_behind : ℕ → Asts → List Effect
effects_behind n (tree.more mark (tree.more e rest)) =
    if is_leaf kinds.Comma mark then effect (n + width mark) e ∷ effects_behind (n + width mark + width e) rest else []
effects_behind n _ = []

-- expressions with commas between them, where `)` is none
unfoldable pub effects : ℕ → Asts → List Effect
effects n (tree.more e rest) = if is_leaf kinds.CloseParen e then [] else effect n e ∷ effects_behind (n + width e) rest
effects n tree.none = []

abbrev pub for_parts : ℕ → Asts → ForInit
for_parts n (tree.more ty (tree.more all tree.none)) = Declared false (written n ty) (declarators (n + width ty) all)
for_parts n (tree.more x (tree.more y (tree.more z rest))) =
    if is_leaf kinds.Final x then Declared true (written (n + width x) y) (declarators (n + width x + width y) z)
    else Effects (effects n (tree.more x (tree.more y (tree.more z rest))))
for_parts n _ = Nothing

abbrev pub for_init : ℕ → Ast → ForInit
for_init n (Node form.ForInit parts) = for_parts n parts
for_init n t = Effects (effect n t ∷ [])

-- ---- labels and values that may be absent, from the part behind the first word on

abbrev pub label : ℕ → Asts → Option Named
label n (tree.more x (tree.more semicolon tree.none)) = Some (named n x)
label n _ = None

abbrev pub value : ℕ → Asts → Option Expression
value n (tree.more x (tree.more semicolon tree.none)) = Some (expression n x)
value n _ = None

-- ---- statements that hold no other

abbrev pub thrown : ℕ → ℕ → Asts → Statement
thrown n m (tree.more e semicolon) = Throw (expression m e) n
thrown n m tree.none = Unknown

-- a type and declarators
abbrev pub declared : Bool → ℕ → Asts → Statement
declared is_final n (tree.more ty (tree.more all semicolon)) = Declare is_final (written n ty) (declarators (n + width ty) all)
declared is_final n _ = Unknown

-- a clause of a `try` by its class and its name, before the others
abbrev pub caught : Bool → ℕ → Ast → Ast → Braced → Catches → Catches
caught is_final n class x block others = catch is_final (named n class) (named (n + width class) x) block others

-- ---- statements: n is the number of the first token, and m that of the first part that is given

unfoldable mutual
  pub statement : ℕ → Ast → Statement
  statement n (Leaf o) = if is_leaf kinds.Semicolon (Leaf o) then Empty n else Unknown
  statement n (Node form.Block parts) = Block (braces n parts)
  statement n (Node form.Stmt parts) = by_word (first_kind parts) n parts
  statement n (Node f parts) = Unknown

  -- `{`, statements and `}`
  pub braces : ℕ → Asts → Braced
  braces n (tree.more brace parts) = braced n (statements (n + width brace) parts) (n + widths parts)
  braces n tree.none = braced n done n

  pub block : ℕ → Ast → Braced
  block n (Node f parts) = braces n parts
  block n (Leaf o) = braced n done n

  -- up to `}`
  pub statements : ℕ → Asts → Statements
  statements n (tree.more s (tree.more t rest)) = first (statement n s) (statements (n + width s) (tree.more t rest))
  statements n _ = done

  -- a statement by its first word
  pub by_word : Kind → ℕ → Asts → Statement
  by_word kinds.If n (tree.more word parts) = branch n (n + width word) parts
  by_word kinds.While n (tree.more word parts) = loop_while n (n + width word) parts
  by_word kinds.Do n (tree.more word parts) = loop_do n (n + width word) parts
  by_word kinds.For n (tree.more word parts) = loop_for n (n + width word) parts
  by_word kinds.Break n (tree.more word parts) = Break (label (n + width word) parts) n
  by_word kinds.Continue n (tree.more word parts) = Continue (label (n + width word) parts) n
  by_word kinds.Return n (tree.more word parts) = Return (value (n + width word) parts) n
  by_word kinds.Throw n (tree.more word parts) = thrown n (n + width word) parts
  by_word kinds.Try n (tree.more word parts) = tried n (n + width word) parts
  by_word kinds.Final n (tree.more word parts) = declared true (n + width word) parts
  by_word _ n (tree.more x parts) = other n x parts
  by_word _ n tree.none = Unknown

  pub branch : ℕ → ℕ → Asts → Statement
  branch n m (tree.more paren (tree.more e (tree.more close (tree.more s rest)))) =
      If (expression (m + width paren) e) (statement (m + width paren + width e + width close) s) (otherwise (m + width paren + width e + width close + width s) rest) n
  branch n m _ = Unknown

  -- `else` and a statement, if they are there
  pub otherwise : ℕ → Asts → Other
  otherwise n (tree.more word (tree.more s tree.none)) = present (statement (n + width word) s)
  otherwise n _ = absent

  pub loop_while : ℕ → ℕ → Asts → Statement
  loop_while n m (tree.more paren (tree.more e (tree.more close (tree.more s tree.none)))) =
      While (expression (m + width paren) e) (statement (m + width paren + width e + width close) s) n
  loop_while n m _ = Unknown

  pub loop_do : ℕ → ℕ → Asts → Statement
  loop_do n m (tree.more s (tree.more word (tree.more paren (tree.more e rest)))) = Do (statement m s) (expression (m + width s + width word + width paren) e) n
  loop_do n m _ = Unknown

  -- from `(` on
  pub loop_for : ℕ → ℕ → Asts → Statement
  loop_for n m (tree.more paren (tree.more x rest)) =
      if is_leaf kinds.Semicolon x then for_test n Nothing (m + width paren + width x) rest
      else behind_init n (for_init (m + width paren) x) (m + width paren + width x) rest
  loop_for n m _ = Unknown

  pub behind_init : ℕ → ForInit → ℕ → Asts → Statement
  behind_init n init m (tree.more semicolon rest) = for_test n init (m + width semicolon) rest
  behind_init n init m tree.none = Unknown

  pub for_test : ℕ → ForInit → ℕ → Asts → Statement
  for_test n init m (tree.more x (tree.more y rest)) =
      if is_leaf kinds.Semicolon x then For init None (effects (m + width x) (tree.more y rest)) (body_behind (m + width x) (tree.more y rest)) n
      else For init (Some (expression m x)) (effects (m + width x + width y) rest) (body_behind (m + width x + width y) rest) n
  for_test n init m _ = Unknown

  -- the statement behind `)`
  pub body_behind : ℕ → Asts → Statement
  body_behind n (tree.more x (tree.more s rest)) = if is_leaf kinds.CloseParen x then statement (n + width x) s else body_behind (n + width x) (tree.more s rest)
  body_behind n _ = Unknown

  -- an expression, a label or a declaration
  pub other : ℕ → Ast → Asts → Statement
  other n x (tree.more semicolon tree.none) = Perform (effect n x)
  other n x (tree.more y (tree.more z tree.none)) =
      if is_leaf kinds.Colon y then Labelled (named n x) (statement (n + width x + width y) z) else Declare false (written n x) (declarators (n + width x) y)
  other n x _ = Unknown

  pub tried : ℕ → ℕ → Asts → Statement
  tried n m (tree.more b rest) = Try (block m b) (catches (m + width b) rest) (last_of (m + width b) rest) n
  tried n m tree.none = Unknown

  pub catches : ℕ → Asts → Catches
  catches n (tree.more (Node f parts) rest) = clause n parts (catches (n + widths parts) rest)
  catches n _ = uncaught

  -- a clause by its parts, before the others
  pub clause : ℕ → Asts → Catches → Catches
  clause n (tree.more word (tree.more paren (tree.more class (tree.more x (tree.more close (tree.more b tree.none)))))) others =
      caught false (n + width word + width paren) class x (block (n + width word + width paren + width class + width x + width close) b) others
  clause n (tree.more word (tree.more paren (tree.more is_final (tree.more class (tree.more x (tree.more close (tree.more b tree.none))))))) others =
      caught true (n + width word + width paren + width is_final) class x (block (n + width word + width paren + width is_final + width class + width x + width close) b) others
  clause n _ others = others

  -- `finally` and a block, if they are there
  pub last_of : ℕ → Asts → Last
  last_of n (tree.more x (tree.more b rest)) = if is_leaf kinds.Finally x then finally (block (n + width x) b) else last_of (n + width x) (tree.more b rest)
  last_of n _ = nowhere

-- a `for` from its updates on
abbrev pub for_tested : ℕ → ForInit → Option Expression → ℕ → Asts → Statement
for_tested n init test m parts = For init test (effects m parts) (body_behind m parts) n
