-- The program of every text has few statements.
use Rattle.std.specs.Prelude.{◌≤◌, ℕ, length, Ok}
use Rattle.wy_tree.specs.Ast.{Ast, tokens}
use Rattle.wy_tree.specs.Grammar.{WellFormed}
use Rattle.wy_tree.specs.Tokens.{token_limit}
use Rattle.wy_kernel.specs.Program.{Program}
use Rattle.wy_syntax.specs.Declarations.{unit}
use Rattle.wy_elab_stmt.specs.Elaborates.{Elaborates}

-- eight for each of the most tokens of a text, beside those of the library
abbrev pub statement_limit : ℕ
statement_limit = 8388682

-- so few has the program of a well-formed tree of at most 2^20 tokens: no two stand at one place of the text, and no token has eight places
abbrev pub TreesHaveFewStatements : Type 0
TreesHaveFewStatements =
    (tree : Ast) → WellFormed tree → length (tokens tree) ≤ token_limit
    → (count : ℕ) (p : Program) → Elaborates (unit 0 tree) count (Ok p) → p.statements ≤ statement_limit
