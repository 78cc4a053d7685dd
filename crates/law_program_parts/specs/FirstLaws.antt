-- The main of a text stands alone: no other method has its name at the token of its name.
use Rattle.std.specs.Prelude.{◌≤◌, ℕ, length, Ok}
use Rattle.wy_tree.specs.Ast.{Ast, tokens}
use Rattle.wy_tree.specs.Grammar.{WellFormed}
use Rattle.wy_kernel.specs.Program.{Program}
use Rattle.wy_syntax.specs.Declarations.{unit}
use Rattle.wy_elab_stmt.specs.Elaborates.{Elaborates}
use Rattle.wy_typing.specs.Programs.{HasMain}
use Rattle.law_program_parts.specs.Mains.{MainsStandAlone}
use Rattle.wy_tree.specs.Tokens.{token_limit}

-- in a well-formed tree of at most 2^20 tokens, what has its name at the token of a main is that main
abbrev pub MainsOfTreesStandAlone : Type 0
MainsOfTreesStandAlone = (tree : Ast) → WellFormed tree → length (tokens tree) ≤ token_limit → MainsStandAlone (unit 0 tree)

-- so the main of such a tree's program is `static void` with one array of texts, and has a body (JLS 12.1.4)
abbrev pub TextsHaveMain : Type 0
TextsHaveMain = (tree : Ast) → WellFormed tree → length (tokens tree) ≤ token_limit → (count : ℕ) (p : Program) → Elaborates (unit 0 tree) count (Ok p) → HasMain p
