-- What a text becomes: its tokens, the tree that they must have, and what that declares.
use Rattle.std.specs.Prelude.{◌≡◌, ℕ, List, length, map, Result, Ok}
use Rattle.wy_kernel.specs.Program.{Program}
use Rattle.wy_kernel.specs.declared.program.Program as memory
use Rattle.wy_kernel.specs.Parts.{program_of}
use Rattle.wy_constant.specs.Refusal as typing
use Rattle.wy_tree.specs.Seen.{Tok}
use Rattle.wy_tree.specs.Tokens.{SpannedToken, Tokens}
use Rattle.wy_tree.specs.Ast.{Ast, tokens}
use Rattle.wy_tree.specs.Grammar.{WellFormed}
use Rattle.wy_tree.specs.Trees.{IsTreeOf}
use Rattle.wy_syntax.specs.Declarations.{unit}
use Rattle.wy_elab_stmt.specs.Elaborates.{Elaborates}

-- the tokens without their places
abbrev pub unplaced : List SpannedToken → List Tok
unplaced spans = map (λ t. t.token) spans

-- some well-formed tree has exactly these tokens
abbrev pub HasTree : List Tok → Type 0
HasTree said = (tree : Ast) × WellFormed tree × (tokens tree ≡ said)

-- a well-formed tree has these tokens, and what it declares becomes this program, or breaks this rule
pub record Becomes (spans : List SpannedToken) (outcome : Result Program typing.Refusal) : Type 0 where
  pub tree : Ast
  pub reads : IsTreeOf (unplaced spans) tree
  pub elaborated : Elaborates (unit 0 tree) (length spans) outcome

-- a text's program in memory, with the line of each of its tokens
pub record IsProgramOf (source : List ℕ) (p : memory.Program) : Type 0 where
  pub spans : List SpannedToken
  pub read : Tokens source spans
  pub becomes : Becomes spans (Ok (program_of p))
  pub lines : p.lines.items ≡ map (λ t. t.line) spans
