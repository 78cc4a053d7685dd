-- What `lex` answers where a text has no tokens.
use Rattle.std.specs.Prelude.{ℕ, ◌≡◌, List, Result, Ok, Err, ◌⊎◌}
use Rattle.wy_lexer.specs.declared.error.LexError.{LexError}
use Rattle.wy_lexer.specs.declared.error.LexError.TheVariants as errors
use Rattle.wy_tree.specs.Tokens.{Refusal, BadToken, BadLiteral, SpannedToken, Refuses, IsNotUtf8}

-- The fault that is named is the text's; memory can run out at any text.
abbrev pub IsCause : List ℕ → LexError → Type 0
IsCause text (errors.NotUtf8 byte) = IsNotUtf8 text byte
IsCause text (errors.BadToken byte) = Refuses text (BadToken byte)
IsCause text (errors.BadLiteral byte) = Refuses text (BadLiteral byte)
IsCause text errors.NoMemory = Unit {0}

abbrev pub refused : Refusal → LexError
refused (BadToken byte) = errors.BadToken byte
refused (BadLiteral byte) = errors.BadLiteral byte

-- these tokens, unless memory ran out
abbrev pub Finds : {X : Type 0} → (X → List SpannedToken) → List SpannedToken → Result X LexError → Type 0
Finds view spans (Ok x) = view x ≡ spans
Finds view spans (Err e) = e ≡ errors.NoMemory

-- this error, unless memory ran out
abbrev pub Fails : {X : Type 0} → LexError → Result X LexError → Type 0
Fails error (Ok x) = ⊥
Fails error (Err e) = (e ≡ error) ⊎ (e ≡ errors.NoMemory)
