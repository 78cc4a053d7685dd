-- What the abstract syntax of a well-formed tree says is what a text can say (JLS 3.8, 14.4, 15.9, 15.12, 15.26).
use Rattle.std.specs.Prelude.{ℕ, List, map}
use Rattle.wy_tree.specs.Ast.{Ast, tokens}
use Rattle.wy_tree.specs.Grammar.{WellFormed}
use Rattle.wy_tree.specs.Tokens.{SpannedToken, Tokens}
use Rattle.wy_tree.specs.Trees.{IsTreeOf}
use Rattle.wy_syntax.specs.Declarations.{unit}
use Rattle.law_well_formed.specs.Complete.{IsCompleteUnit}
use Rattle.law_well_formed.specs.Written.{UnitWritten, HasNoKeyword}

-- nothing is missing in it
abbrev pub NothingIsMissing : Type 0
NothingIsMissing = (tree : Ast) → WellFormed tree → IsCompleteUnit (unit 0 tree)

-- it is what a text can say, where no name of the tree is a keyword
abbrev pub TreesAreWritten : Type 0
TreesAreWritten = (tree : Ast) → WellFormed tree → HasNoKeyword (tokens tree) → UnitWritten (unit 0 tree)

-- no name of a text is a keyword: a word that is one is a token of its own
abbrev pub NamesAreNoKeywords : Type 0
NamesAreNoKeywords = (text : List ℕ) (spans : List SpannedToken) → Tokens text spans → HasNoKeyword (map (λ (s : SpannedToken). s.token) spans)

-- so the tree of a text's tokens is what a text can say
abbrev pub TextsAreWritten : Type 0
TextsAreWritten = (text : List ℕ) (spans : List SpannedToken) (tree : Ast) → Tokens text spans → IsTreeOf (map (λ (s : SpannedToken). s.token) spans) tree → UnitWritten (unit 0 tree)
