-- The line of a source that is no program.
use Rattle.std.specs.Prelude.{ℕ, List, codes}
use Rattle.wy_constant.specs.declared.source_refusal.SourceRefusal.{SourceRefusal}
use Rattle.wy_constant.specs.declared.source_refusal.SourceRefusal.TheVariants.{NoTokens, NoTree, Broken}
use Rattle.wy_constant.specs.RefusalNames.{fault_name, rule_name}
use Rattle.wy_reply.specs.Lines.{at_byte, at_token}

-- the rule that it breaks first, and where it does
abbrev pub source_refusal_text : SourceRefusal → List ℕ
source_refusal_text (NoTokens fault byte) = at_byte (fault_name fault) byte
source_refusal_text (NoTree line token) = at_token (codes "Syntax") line token
source_refusal_text (Broken rule line token) = at_token (rule_name rule) line token
