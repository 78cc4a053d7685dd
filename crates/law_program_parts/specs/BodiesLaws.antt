-- Which methods of the program that a text becomes have bodies (JLS 8.4.3, 8.4.7, 8.6, 8.8, 9.4).
use Rattle.std.specs.Prelude.{◌≡◌, ℕ, false, List, map, Ok}
use Rattle.wy_tree.specs.Ast.{Ast, tokens}
use Rattle.wy_tree.specs.Grammar.{WellFormed}
use Rattle.wy_tree.specs.Tokens.{SpannedToken, Tokens}
use Rattle.wy_tree.specs.Trees.{IsTreeOf}
use Rattle.wy_kernel.specs.Program.{Program, Method}
use Rattle.wy_syntax.specs.Declarations.{unit}
use Rattle.wy_members.specs.Declarations.{classes_of}
use Rattle.wy_members.specs.Refusal.{KeepsRules}
use Rattle.wy_elab_stmt.specs.Elaborates.{Elaborates}
use Rattle.wy_typing.specs.Expressions.{IsMethod, HasBody}
use Rattle.law_program_parts.specs.Shapes.{AllKeep}
use Rattle.law_typed.specs.ExpressionsTyped.{IsNeverAbstract, MethodsFit}
use Rattle.law_well_formed.specs.Written.{HasNoKeyword}

-- what is written without a body is abstract, where no rule on declarations is broken
abbrev pub TreesKeep : Type 0
TreesKeep = (tree : Ast) → WellFormed tree → KeepsRules (unit 0 tree) → AllKeep (classes_of (unit 0 tree))

-- each method that isn't abstract has a body
abbrev pub MethodsOfTreesHaveBodies : Type 0
MethodsOfTreesHaveBodies =
    (tree : Ast) → WellFormed tree → (count : ℕ) (p : Program) → Elaborates (unit 0 tree) count (Ok p)
    → (k : ℕ) (m : Method) → IsMethod p k m → m.is_abstract ≡ false → HasBody p k

-- no constructor, no initializers, no static and no private method is abstract
abbrev pub NoneOfTheseIsAbstract : Type 0
NoneOfTheseIsAbstract =
    (tree : Ast) → WellFormed tree → (count : ℕ) (p : Program) → Elaborates (unit 0 tree) count (Ok p)
    → (k : ℕ) (m : Method) → IsMethod p k m → IsNeverAbstract m → m.is_abstract ≡ false

-- so each of them has a body
abbrev pub TheseHaveBodies : Type 0
TheseHaveBodies =
    (tree : Ast) → WellFormed tree → (count : ℕ) (p : Program) → Elaborates (unit 0 tree) count (Ok p)
    → (k : ℕ) (m : Method) → IsMethod p k m → IsNeverAbstract m → HasBody p k

-- all that holds of the methods of a program whose declarations break no rule, where no name of the tree is a keyword
abbrev pub MethodsOfTreesFit : Type 0
MethodsOfTreesFit = (tree : Ast) → WellFormed tree → HasNoKeyword (tokens tree) → (count : ℕ) (p : Program) → Elaborates (unit 0 tree) count (Ok p) → MethodsFit p

-- no name of a text is a keyword, so this holds of the program of each text
abbrev pub MethodsOfTextsFit : Type 0
MethodsOfTextsFit =
    (text : List ℕ) (spans : List SpannedToken) (tree : Ast) → Tokens text spans → IsTreeOf (map (λ (s : SpannedToken). s.token) spans) tree
    → (count : ℕ) (p : Program) → Elaborates (unit 0 tree) count (Ok p) → MethodsFit p
