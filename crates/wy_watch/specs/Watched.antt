-- Which expression a watch text is: the initializer of a field that is declared by it (JLS 8.3).
use Rattle.std.specs.Prelude.{◌≡◌, ℕ, List, [], ◌∷◌, ◌++◌, map, Option, Some, codes}
use Rattle.std.specs.Prelude.{None as Absent}
use Rattle.wy_tree.specs.Ast.{Ast}
use Rattle.wy_tree.specs.Tokens.{SpannedToken, Tokens}
use Rattle.wy_tree.specs.Trees.{IsTreeOf}
use Rattle.wy_syntax.specs.Syntax.{Expression, Initial, Value, Listed, Declarator, Member, Fields, Declaration}
use Rattle.wy_syntax.specs.Syntax as syntax
use Rattle.wy_syntax.specs.Declarations.{unit}

-- bytes of a watch text
abbrev pub watch_limit : ℕ
watch_limit = 4096

-- the class that a text is put into
abbrev pub wrapped : List ℕ → List ℕ
wrapped text = codes "class W { int w =" ++ (text ++ codes "; }")

-- what a source declares: it has tokens, they have a well-formed tree, and that declares this
pub record Declares (source : List ℕ) (all : List Declaration) : Type 0 where
  pub spans : List SpannedToken
  pub read : Tokens source spans
  pub tree : Ast
  pub reads : IsTreeOf (map (λ t. t.token) spans) tree
  pub declared : unit 0 tree ≡ all

-- an initializer that is an expression
abbrev pub value_in : Initial → Option Expression
value_in (Value e) = Some e
value_in (Listed elements brace) = Absent

abbrev pub initializer : Option Initial → Option Expression
initializer (Some first) = value_in first
initializer Absent = Absent

-- that of the only declarator
abbrev pub of_declarator : List Declarator → Option Expression
of_declarator (d ∷ []) = initializer d.initial
of_declarator _ = Absent

-- that of the only member, a field declaration
abbrev pub of_member : List Member → Option Expression
of_member (Fields modifiers ty declarators ∷ []) = of_declarator declarators
of_member _ = Absent

-- that of the only class
abbrev pub of_class : List Declaration → Option Expression
of_class (syntax.Declaration.Declared c ∷ []) = of_member c.members
of_class _ = Absent

-- a watch text is this expression
pub record IsWatched (text : List ℕ) (e : Expression) : Type 0 where
  pub all : List Declaration
  pub declares : Declares (wrapped text) all
  pub is : of_class all ≡ Some e
