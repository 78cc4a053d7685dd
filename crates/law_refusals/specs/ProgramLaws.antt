-- What a refusal of a program says: something in it breaks the named rule at the named token.
use Rattle.std.specs.Prelude.{◌≡◌, ℕ, Result, Ok, Err}
use Rattle.wy_tree.specs.Ast.{Ast}
use Rattle.wy_tree.specs.Grammar.{WellFormed}
use Rattle.wy_kernel.specs.Program.{Program}
use Rattle.wy_syntax.specs.Declarations.{unit as unit_of}
use Rattle.wy_constant.specs.declared.rule.Rule.{Rule}
use Rattle.wy_constant.specs.Refusal.{Refusal, refused}
use Rattle.wy_members.specs.Declarations.{CompilationUnit}
use Rattle.wy_elab_stmt.specs.Elaborates.{Elaborates}
use Rattle.law_well_formed.specs.Complete.{IsCompleteUnit}
use Rattle.law_refusals.specs.Units.{IsBrokenUnit}

abbrev pub ProgramRefusalsAreDue : Type 0
ProgramRefusalsAreDue = (unit : CompilationUnit) (tokens : ℕ) (rule : Rule) (token : ℕ) → IsCompleteUnit unit → Elaborates unit tokens (Err (refused rule token)) → IsBrokenUnit unit tokens rule token

-- nothing in the program breaks a rule
abbrev pub IsUnbroken : CompilationUnit → ℕ → Type 0
IsUnbroken unit tokens = (rule : Rule) (token : ℕ) → IsBrokenUnit unit tokens rule token → ⊥

abbrev pub UnbrokenProgramsAreAccepted : Type 0
UnbrokenProgramsAreAccepted = (unit : CompilationUnit) (tokens : ℕ) (r : Result Program Refusal) → IsCompleteUnit unit → IsUnbroken unit tokens → Elaborates unit tokens r → (p : Program) × (r ≡ Ok p)

-- where the program of a well-formed tree is refused, something in it breaks the named rule at the named token
abbrev pub RefusalsOfTreesAreDue : Type 0
RefusalsOfTreesAreDue = (tree : Ast) → WellFormed tree → (count : ℕ) (rule : Rule) (token : ℕ) → Elaborates (unit_of 0 tree) count (Err (refused rule token)) → IsBrokenUnit (unit_of 0 tree) count rule token

-- and where nothing in it breaks a rule, it is accepted
abbrev pub UnbrokenTreesAreAccepted : Type 0
UnbrokenTreesAreAccepted = (tree : Ast) → WellFormed tree → (count : ℕ) (r : Result Program Refusal) → IsUnbroken (unit_of 0 tree) count → Elaborates (unit_of 0 tree) count r → (p : Program) × (r ≡ Ok p)
