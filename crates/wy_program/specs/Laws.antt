-- Every program of a text has its types, and each method that may run has a body.
use Rattle.std.specs.Prelude.{◌≤◌, ℕ, List, map, length, Ok}
use Rattle.wy_tree.specs.Ast.{Ast}
use Rattle.wy_tree.specs.Tokens.{SpannedToken, Tokens, token_limit}
use Rattle.wy_tree.specs.Trees.{IsTreeOf}
use Rattle.wy_kernel.specs.Program.{Program}
use Rattle.wy_syntax.specs.Declarations.{unit}
use Rattle.wy_elab_stmt.specs.Elaborates.{Elaborates}
use Rattle.wy_typing.specs.Programs.{IsProgram}

-- what the tree of a text's tokens becomes is a program whose numbers are those of its parts, whose forms fit their types, and whose methods that may run have bodies
abbrev pub TextsArePrograms : Type 0
TextsArePrograms =
    (text : List ℕ) (spans : List SpannedToken) (tree : Ast) → Tokens text spans → IsTreeOf (map (λ (s : SpannedToken). s.token) spans) tree → length spans ≤ token_limit
    → (count : ℕ) (p : Program) → Elaborates (unit 0 tree) count (Ok p) → IsProgram p
