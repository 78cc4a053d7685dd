-- What a program becomes: the rules on its declarations come first, and then those of its bodies in the order of the text (JLS 7.3, 8, 9, 12.1).
use Rattle.std.specs.Prelude.{◌≡◌, ℕ, List, Result, Ok, Err}
use Rattle.wy_kernel.specs.declared.program.Program as memory
use Rattle.wy_kernel.specs.Program.{Program}
use Rattle.wy_kernel.specs.Parts.{program_of}
use Rattle.wy_kernel.specs.Table.{Table}
use Rattle.wy_constant.specs.declared.rule.Rule.{Rule}
use Rattle.wy_constant.specs.declared.rule.TypeError.{TypeError}
use Rattle.wy_constant.specs.declared.rule.TypeError.TheVariants as error
use Rattle.wy_constant.specs.Refusal.{Refusal, refused}
use Rattle.wy_members.specs.Declarations.{CompilationUnit}
use Rattle.wy_members.specs.Refusal.{IsRefusal, KeepsRules}
use Rattle.wy_members.specs.Constants.{IsTableOf}
use Rattle.wy_elab_expr.specs.Operators.{Judgement, Settles}
use Rattle.wy_elab_stmt.specs.Program.{program}

-- a text of these declarations and of so many tokens is this program, or breaks this rule at this token
pub data Elaborates (unit : CompilationUnit) (tokens : ℕ) : Result Program Refusal → Type 0 where
  -- its declarations break a rule
  by_declarations : (rule : Rule) (token : ℕ) → IsRefusal unit rule token → Elaborates unit tokens (Err (refused rule token))
  -- they break none: its table settles the rest
  by_bodies : (t : Table) (j : Judgement) → KeepsRules unit → IsTableOf unit t → Settles t j → Elaborates unit tokens (program j t unit tokens)

-- what a function returned is what the declarations become; want of memory is free
abbrev pub ElaboratesTo : CompilationUnit → ℕ → Result memory.Program TypeError → Type 0
ElaboratesTo unit tokens (Ok p) = Elaborates unit tokens (Ok (program_of p))
ElaboratesTo unit tokens (Err error.NoMemory) = Unit {0}
ElaboratesTo unit tokens (Err (error.Broken rule token)) = Elaborates unit tokens (Err (refused rule token))

-- a text becomes one program, or breaks one rule at one token
abbrev pub OneElaboration : Type 0
OneElaboration = (unit : CompilationUnit) (tokens : ℕ) (a b : Result Program Refusal) → Elaborates unit tokens a → Elaborates unit tokens b → a ≡ b
