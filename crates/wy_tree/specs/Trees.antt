-- The tree of a list of tokens, and where it has none.
use Rattle.std.specs.Prelude.{◌≡◌, List}
use Rattle.wy_tree.specs.Seen.{Tok}
use Rattle.wy_tree.specs.Ast.{Ast, tokens}
use Rattle.wy_tree.specs.Grammar.{WellFormed}

-- a text's tree, with these leaves
abbrev pub IsTreeOf : List Tok → Ast → Type 0
IsTreeOf s t = WellFormed t × (tokens t ≡ s)

abbrev pub IsOnlyTreeOf : List Tok → Ast → Type 0
IsOnlyTreeOf s t = (u : Ast) → IsTreeOf s u → u ≡ t

abbrev pub HasNoTree : List Tok → Type 0
HasNoTree s = (t : Ast) → ¬ IsTreeOf s t

-- Two trees of texts with the same leaves are one.
abbrev pub OneTree : Type 0
OneTree = (t u : Ast) → WellFormed t → WellFormed u → tokens t ≡ tokens u → t ≡ u
