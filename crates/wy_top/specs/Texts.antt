-- What holds of the program of each text.
use Rattle.std.specs.Prelude.{◌≤◌, ℕ, List, map, length, Ok}
use Rattle.wy_tree.specs.Ast.{Ast}
use Rattle.wy_tree.specs.Tokens.{SpannedToken, Tokens, token_limit}
use Rattle.wy_tree.specs.Trees.{IsTreeOf}
use Rattle.wy_syntax.specs.Declarations.{unit as unit_of}
use Rattle.wy_kernel.specs.Program.{Program}
use Rattle.wy_elab_stmt.specs.Elaborates.{Elaborates}

-- it holds of the program of each text of at most 2^20 tokens
abbrev pub OfTexts : (Program → Type 0) → Type 0
OfTexts Q =
    (text : List ℕ) (spans : List SpannedToken) (tree : Ast) → Tokens text spans → IsTreeOf (map (λ (s : SpannedToken). s.token) spans) tree → length spans ≤ token_limit
    → (count : ℕ) (p : Program) → Elaborates (unit_of 0 tree) count (Ok p) → Q p
