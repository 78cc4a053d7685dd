-- The refusal that is due: of the rules that the declarations of a program break, the one at the least token, and there the first.
use Rattle.std.specs.Prelude.{◌≡◌, ℕ, ◌≤◌}
use Rattle.wy_constant.specs.declared.rule.Rule.{Rule}
use Rattle.wy_constant.specs.declared.rule.Rule.TheVariants as rule
use Rattle.wy_members.specs.Declarations.{CompilationUnit}
use Rattle.wy_members.specs.Broken.{Breaks}

-- the place of a rule in their order
unfoldable pub rule_order : Rule → ℕ
rule_order rule.Duplicate = 1
rule_order rule.UnknownName = 2
rule_order rule.Cycle = 3
rule_order rule.BadOverride = 4
rule_order rule.NotImplemented = 5
rule_order rule.NoMethod = 6
rule_order rule.Ambiguous = 7
rule_order rule.BadOperand = 8
rule_order rule.BadAssign = 9
rule_order rule.BadCast = 10
rule_order rule.Private = 11
rule_order rule.NotInStatic = 12
rule_order rule.NotOffered = 13
rule_order rule.BadJump = 14
rule_order rule.BadReturn = 15
rule_order rule.NoMain = 16

pub record IsRefusal (unit : CompilationUnit) (rule : Rule) (token : ℕ) : Type 0 where
  pub broken : Breaks unit rule token
  pub least_token : (other : Rule) (later : ℕ) → Breaks unit other later → token ≤ later
  pub first_rule : (other : Rule) → Breaks unit other token → rule_order rule ≤ rule_order other

-- no rule on declarations is broken
abbrev pub KeepsRules : CompilationUnit → Type 0
KeepsRules unit = (rule : Rule) (token : ℕ) → Breaks unit rule token → ⊥

-- two refusals of a program are one
abbrev pub OneIsDue : Type 0
OneIsDue = (unit : CompilationUnit) (a b : Rule) (x y : ℕ) → IsRefusal unit a x → IsRefusal unit b y → (a ≡ b) × (x ≡ y)

-- a program that keeps the rules has no refusal
abbrev pub NoneIsDue : Type 0
NoneIsDue = (unit : CompilationUnit) (rule : Rule) (token : ℕ) → KeepsRules unit → IsRefusal unit rule token → ⊥
