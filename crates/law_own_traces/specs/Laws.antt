-- The program of every text fits its text.
use Rattle.std.specs.Prelude.{◌==◌, ℕ, length, Ok}
use Rattle.std.specs.List.{list_any}
use Rattle.wy_tree.specs.Ast.{Ast, tokens}
use Rattle.wy_tree.specs.Grammar.{WellFormed}
use Rattle.wy_kernel.specs.Program.{Program}
use Rattle.wy_kernel.specs.Statements.{statements_of}
use Rattle.wy_syntax.specs.Declarations.{unit}
use Rattle.wy_elab_stmt.specs.Elaborates.{Elaborates}
use Rattle.wy_payload.specs.Bodies.{newlines_of}
use Rattle.law_in_range.specs.InRange.{Text, FitsText}

-- a text of so many tokens, where a `println` stands at each print of the program that ends a line
abbrev pub text_of : ℕ → Program → Text
text_of many p = record { tokens = many; ends_line = λ site. list_any (λ s. s == site) (newlines_of (statements_of p)) }

abbrev pub TreesFitTheirTexts : Type 0
TreesFitTheirTexts = (tree : Ast) → WellFormed tree → (count : ℕ) (p : Program) → Elaborates (unit 0 tree) count (Ok p) → FitsText (text_of (length (tokens tree)) p) p
