-- Why a text is no program: the rule that it breaks first, and where it does.
use Rattle.std.specs.Prelude.{◌≡◌, ℕ, List, codes, Err}
use Rattle.wy_kernel.specs.declared.program.Program.{Program}
use Rattle.wy_constant.specs.declared.rule.Rule.{Rule}
use Rattle.wy_constant.specs.Refusal as typing
use Rattle.wy_tree.specs.Lines.{line_of}
use Rattle.wy_tree.specs.Tokens.{SpannedToken, Refusal, Tokens, Refuses, IsNotUtf8, BadToken, BadLiteral}
use Rattle.wy_parser.specs.Causes.{AllowsSyntax}
use Rattle.wy_reply.specs.Lines.{at_byte, at_token}
use Rattle.wy_constant.specs.RefusalNames.{rule_name}
use Rattle.wy_program.specs.Programs.{Becomes, HasTree, IsProgramOf, unplaced}

abbrev pub not_utf8_line : ℕ → List ℕ
not_utf8_line byte = at_byte (codes "NotUtf8") byte

abbrev pub fault_line : Refusal → List ℕ
fault_line (BadToken byte) = at_byte (codes "BadToken") byte
fault_line (BadLiteral byte) = at_byte (codes "BadLiteral") byte

abbrev pub syntax_line : ℕ → ℕ → List ℕ
syntax_line line token = at_token (codes "Syntax") line token

abbrev pub rule_line : Rule → ℕ → ℕ → List ℕ
rule_line r line token = at_token (rule_name r) line token

-- the line of Syntax at one of these tokens that may be named, or behind them
abbrev pub IsSyntaxLine : List SpannedToken → List ℕ → Type 0
IsSyntaxLine spans line = (token : ℕ) × AllowsSyntax (unplaced spans) token × (line ≡ syntax_line (line_of spans token) token)

-- this line says why a text is no program: it has no tokens, its tokens have no tree, or what the tree declares breaks a rule
pub data IsNoProgram (source : List ℕ) : List ℕ → Type 0 where
  not_utf8 : (byte : ℕ) → IsNotUtf8 source byte → IsNoProgram source (not_utf8_line byte)
  refused : (fault : Refusal) → Refuses source fault → IsNoProgram source (fault_line fault)
  syntax : (spans : List SpannedToken) (line : List ℕ) → Tokens source spans → ¬ HasTree (unplaced spans) → IsSyntaxLine spans line → IsNoProgram source line
  broken : (spans : List SpannedToken) (e : typing.Refusal) → Tokens source spans → Becomes spans (Err e) → IsNoProgram source (rule_line e.rule (line_of spans e.token) e.token)

-- a source that has a program is refused by no line
abbrev pub ProgramsAreNotRefused : Type 0
ProgramsAreNotRefused = (source line : List ℕ) (p : Program) → IsProgramOf source p → IsNoProgram source line → ⊥
