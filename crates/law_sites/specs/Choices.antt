-- The choices of a program, its forms `&&`, `||` and `?:`, by their sites.
use Rattle.std.specs.Prelude.{ℕ, List, flat_map, nat_eq, Ok}
use Rattle.std.specs.List.{IsDistinct}
use Rattle.wy_tree.specs.Ast.{Ast}
use Rattle.wy_tree.specs.Grammar.{WellFormed}
use Rattle.wy_kernel.specs.Program.{Program}
use Rattle.wy_kernel.specs.Statements.{statements_of}
use Rattle.wy_syntax.specs.Declarations.{unit}
use Rattle.wy_elab_stmt.specs.Elaborates.{Elaborates}
use Rattle.law_structure.specs.Sites.{deciding_in_statement}

-- the sites of all forms `&&`, `||` and `?:` in the bodies and initializers of a program, of the library and of its text, one after another
abbrev pub choice_sites : Program → List ℕ
choice_sites p = flat_map deciding_in_statement (statements_of p)

-- no two of these forms have one site
abbrev pub ChoicesStandApart : Program → Type 0
ChoicesStandApart p = IsDistinct nat_eq (choice_sites p)

-- those of the program that a well-formed tree becomes
abbrev pub TreesChooseApart : Type 0
TreesChooseApart = (tree : Ast) → WellFormed tree → (count : ℕ) (p : Program) → Elaborates (unit 0 tree) count (Ok p) → ChoicesStandApart p
