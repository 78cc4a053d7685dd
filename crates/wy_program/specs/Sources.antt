-- What the reading of a text gives: its program, or why it is none.
use Rattle.std.specs.Prelude.{◌≡◌, ℕ, List, length, map, Ok, Err}
use Rattle.wy_kernel.specs.declared.program.Program.{Program}
use Rattle.wy_kernel.specs.Parts.{program_of}
use Rattle.wy_constant.specs.Refusal.{refused}
use Rattle.wy_tree.specs.Ast.{Ast}
use Rattle.wy_tree.specs.Lines.{line_of}
use Rattle.wy_tree.specs.Tokens.{SpannedToken, Tokens, Refuses, IsNotUtf8}
use Rattle.wy_tree.specs.Tokens as fault
use Rattle.wy_parser.specs.Causes.{AllowsSyntax}
use Rattle.wy_syntax.specs.Declarations.{unit}
use Rattle.wy_elab_stmt.specs.Elaborates.{Elaborates}
use Rattle.wy_constant.specs.declared.source_refusal.LexFault.TheVariants.{NotUtf8, BadToken, BadLiteral}
use Rattle.wy_constant.specs.declared.source_refusal.SourceRefusal.{SourceRefusal}
use Rattle.wy_constant.specs.declared.source_refusal.SourceRefusal.TheVariants.{NoTokens, NoTree, Broken}
use Rattle.wy_program.specs.declared.source.SourceError.{SourceError}
use Rattle.wy_program.specs.declared.source.SourceError.TheVariants.{Refused, NoMemory}
use Rattle.wy_program.specs.Programs.{Becomes, HasTree, unplaced}

-- a text's tokens have no tree, and one that may be named is, with its line
pub record IsSyntaxAt (source : List ℕ) (line token : ℕ) : Type 0 where
  pub spans : List SpannedToken
  pub read : Tokens source spans
  pub none : ¬ HasTree (unplaced spans)
  pub allowed : AllowsSyntax (unplaced spans) token
  pub at : line ≡ line_of spans token

-- why a text is no program
abbrev pub IsRefusedFor : List ℕ → SourceRefusal → Type 0
IsRefusedFor source (NoTokens NotUtf8 byte) = IsNotUtf8 source byte
IsRefusedFor source (NoTokens BadToken byte) = Refuses source (fault.BadToken byte)
IsRefusedFor source (NoTokens BadLiteral byte) = Refuses source (fault.BadLiteral byte)
IsRefusedFor source (NoTree line token) = IsSyntaxAt source line token
IsRefusedFor source (Broken rule line token) = (spans : List SpannedToken) × Tokens source spans × Becomes spans (Err (refused rule token)) × (line ≡ line_of spans token)

-- the same, and memory can run out at any text
abbrev pub IsCauseOf : List ℕ → SourceError → Type 0
IsCauseOf source (Refused refusal) = IsRefusedFor source refusal
IsCauseOf source NoMemory = Unit {0}

-- ---- the parts of the way

-- the tokens have no tree, and one that may be named is, with its line
abbrev pub LacksTree : List SpannedToken → SourceError → Type 0
LacksTree spans (Refused (NoTokens fault byte)) = ⊥
LacksTree spans (Refused (NoTree line token)) = (¬ HasTree (unplaced spans)) × AllowsSyntax (unplaced spans) token × (line ≡ line_of spans token)
LacksTree spans (Refused (Broken rule line token)) = ⊥
LacksTree spans NoMemory = Unit {0}

-- what the tree of the tokens declares becomes this program, with the lines of the tokens
abbrev pub IsTypedAs : List SpannedToken → Ast → Program → Type 0
IsTypedAs spans tree p = Elaborates (unit 0 tree) (length spans) (Ok (program_of p)) × (p.lines.items ≡ map (λ t. t.line) spans)

-- it breaks a rule at a token, which is named with its line
abbrev pub LacksTypes : List SpannedToken → Ast → SourceError → Type 0
LacksTypes spans tree (Refused (NoTokens fault byte)) = ⊥
LacksTypes spans tree (Refused (NoTree line token)) = ⊥
LacksTypes spans tree (Refused (Broken rule line token)) = Elaborates (unit 0 tree) (length spans) (Err (refused rule token)) × (line ≡ line_of spans token)
LacksTypes spans tree NoMemory = Unit {0}
