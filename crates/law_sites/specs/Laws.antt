-- The sites of every program are tokens of its text.
use Rattle.std.specs.Prelude.{ℕ, length, Ok}
use Rattle.wy_tree.specs.Ast.{Ast, tokens}
use Rattle.wy_tree.specs.Grammar.{WellFormed}
use Rattle.wy_kernel.specs.Program.{Program}
use Rattle.wy_syntax.specs.Declarations.{unit}
use Rattle.wy_elab_stmt.specs.Elaborates.{Elaborates}
use Rattle.wy_typing.specs.Sites.{HasSites}

abbrev pub SitesAreTokens : Type 0
SitesAreTokens = (tree : Ast) → WellFormed tree → (count : ℕ) (p : Program) → Elaborates (unit 0 tree) count (Ok p) → HasSites (length (tokens tree)) p
