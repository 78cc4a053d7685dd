-- How what a source breaks is written.
use Rattle.std.specs.Prelude.{ℕ, List, codes}
use Rattle.wy_constant.specs.declared.rule.Rule.{Rule}
use Rattle.wy_constant.specs.declared.rule.Rule.TheVariants as rule
use Rattle.wy_constant.specs.declared.source_refusal.LexFault.{LexFault}
use Rattle.wy_constant.specs.declared.source_refusal.LexFault.TheVariants.{NotUtf8, BadToken, BadLiteral}

unfoldable pub fault_name : LexFault → List ℕ
fault_name NotUtf8 = codes "NotUtf8"
fault_name BadToken = codes "BadToken"
fault_name BadLiteral = codes "BadLiteral"

unfoldable pub rule_name : Rule → List ℕ
rule_name rule.Duplicate = codes "Duplicate"
rule_name rule.UnknownName = codes "UnknownName"
rule_name rule.Cycle = codes "Cycle"
rule_name rule.BadOverride = codes "BadOverride"
rule_name rule.NotImplemented = codes "NotImplemented"
rule_name rule.NoMethod = codes "NoMethod"
rule_name rule.Ambiguous = codes "Ambiguous"
rule_name rule.BadOperand = codes "BadOperand"
rule_name rule.BadAssign = codes "BadAssign"
rule_name rule.BadCast = codes "BadCast"
rule_name rule.Private = codes "Private"
rule_name rule.NotInStatic = codes "NotInStatic"
rule_name rule.NotOffered = codes "NotOffered"
rule_name rule.BadJump = codes "BadJump"
rule_name rule.BadReturn = codes "BadReturn"
rule_name rule.NoMain = codes "NoMain"
