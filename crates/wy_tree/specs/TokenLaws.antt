-- Laws of the tokens of a text.
use Rattle.std.specs.Prelude.{ℕ, ◌+◌, ◌≡◌, ◌≤◌, ◌<◌, List, [], ◌∷◌, length, take, All, Some}
use Rattle.std.specs.Str.{chars}
use Rattle.wy_tree.specs.Bytes.{line_ends}
use Rattle.wy_tree.specs.Literals.{first_char}
use Rattle.wy_tree.specs.Tokens.{SpannedToken, Refusal, Tokens, Refuses, IsNotUtf8}

-- A text has at most one list of tokens.
abbrev pub OneTokenList : Type 0
OneTokenList = (text : List ℕ) (spans others : List SpannedToken) → Tokens text spans → Tokens text others → spans ≡ others

-- A text that is refused has no tokens.
abbrev pub TokensOrRefusal : Type 0
TokensOrRefusal = (text : List ℕ) (spans : List SpannedToken) (r : Refusal) → Tokens text spans → Refuses text r → ⊥

-- A text is refused for at most one fault.
abbrev pub OneRefusal : Type 0
OneRefusal = (text : List ℕ) (r s : Refusal) → Refuses text r → Refuses text s → r ≡ s

-- A text that isn't UTF-8 has no tokens and no other fault, and one place at which it isn't.
abbrev pub NotUtf8Alone : Type 0
NotUtf8Alone =
    (text : List ℕ) (byte : ℕ) → IsNotUtf8 text byte
    → ((spans : List SpannedToken) → Tokens text spans → ⊥) × ((r : Refusal) → Refuses text r → ⊥) × ((other : ℕ) → IsNotUtf8 text other → byte ≡ other)

-- tokens one after another, from this byte and this line on, and within so many bytes
abbrev pub InOrder : ℕ → ℕ → ℕ → List SpannedToken → Type 0
InOrder place line size [] = Unit {0}
InOrder place line size (t ∷ spans) = (place ≤ t.start) × (t.start < t.end) × (t.end ≤ size) × (line ≤ t.line) × InOrder t.end t.line size spans

-- The tokens of a text stand one after another within it, each with a byte or more, on lines from 1 on.
abbrev pub TokensInOrder : Type 0
TokensInOrder = (text : List ℕ) (spans : List SpannedToken) → Tokens text spans → InOrder 0 1 (length text) spans

-- The line of a token is one more than the lines that end before its first byte.
abbrev pub LinesAreCounted : Type 0
LinesAreCounted = (text : List ℕ) (spans : List SpannedToken) → Tokens text spans → All (λ t. t.line ≡ 1 + line_ends (take t.start text)) spans

-- The character that a literal's element begins with is the text's first character in UTF-8.
abbrev pub FirstCharacter : Type 0
FirstCharacter = (b : ℕ) (bytes rest : List ℕ) (c : ℕ) → first_char b bytes ≡ Some (c, rest) → chars (b ∷ bytes) ≡ c ∷ chars rest
