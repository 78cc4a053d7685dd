-- What is written of a source that is refused.
use Rattle.std.specs.Prelude.{◌≡◌, ℕ, List, [], codes}
use Rattle.wy_explain.specs.Explained.{explanation}
use Rattle.wy_explain.specs.declared.text.Place.TheVariants.{Byte, Token}
use Rattle.wy_constant.specs.RefusalNames.{fault_name, rule_name}
use Rattle.wy_constant.specs.declared.source_refusal.SourceRefusal.{SourceRefusal}
use Rattle.wy_constant.specs.declared.source_refusal.SourceRefusal.TheVariants.{NoTokens, NoTree, Broken}
use Rattle.wy_tree.specs.Tokens.{SpannedToken, Tokens}

-- it has tokens
abbrev pub HasTokens : List ℕ → Type 0
HasTokens source = (spans : List SpannedToken) × Tokens source spans

-- the text explains a refusal of this source at one of its tokens, or behind them
abbrev pub IsExplainedAt : List ℕ → List ℕ → List ℕ → ℕ → List ℕ → Type 0
IsExplainedAt name source rule token text = (spans : List SpannedToken) × Tokens source spans × (text ≡ explanation name source spans rule (Token token))

-- the text explains why this source is refused
abbrev pub IsExplained : List ℕ → List ℕ → SourceRefusal → List ℕ → Type 0
IsExplained name source (NoTokens fault byte) text = text ≡ explanation name source [] (fault_name fault) (Byte byte)
IsExplained name source (NoTree line token) text = IsExplainedAt name source (codes "Syntax") token text
IsExplained name source (Broken rule line token) text = IsExplainedAt name source (rule_name rule) token text
