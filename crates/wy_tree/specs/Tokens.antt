-- The tokens of a text, and why a text has none (JLS 3.2, 3.4, 3.5): it is white space, comments and tokens one after another, each the longest at its place.
use Rattle.std.specs.Prelude.{ℕ, zero, suc, ◌+◌, ◌≡◌, List, [], ◌∷◌, take, drop, Option, Some, None, if◌then◌else◌}
use Rattle.std.specs.Str.{IsUtf8, IsValidUpTo}
use Rattle.wy_tree.specs.declared.token.Spanned.{Spanned}
use Rattle.wy_tree.specs.Seen.{Tok, seen}
use Rattle.wy_tree.specs.Bytes.{line_ends}
use Rattle.wy_tree.specs.Pieces.{Piece, Between, Lexeme, Fault, IsLongest, NothingFits, begins_literal}

-- a token, the bytes that it stands at, and its line
pub record SpannedToken : Type 0 where
  pub token : Tok
  pub start : ℕ
  pub end : ℕ
  pub line : ℕ

-- a token of the code as contracts see it
abbrev pub spanned_token : Spanned → SpannedToken
spanned_token s = record { token = seen s.token; start = s.start; end = s.end; line = s.line }

-- the byte at which no piece fits
pub data Refusal : Type 0 where
  BadToken : ℕ → Refusal
  BadLiteral : ℕ → Refusal

abbrev pub refusal_at : ℕ → List ℕ → Refusal
refusal_at place text = if begins_literal text then BadLiteral place else BadToken place

-- where no piece is read any more: the text has ended, or none fits
abbrev pub Stops : ℕ → List ℕ → Option Refusal → Type 0
Stops place [] end = end ≡ None
Stops place (b ∷ bytes) end = NothingFits (b ∷ bytes) × (end ≡ Some (refusal_at place (b ∷ bytes)))

-- what a piece of n bytes gives: a token before the others, nothing, or no reading at all
abbrev pub Adds : Piece → ℕ → ℕ → ℕ → List SpannedToken → List SpannedToken → Type 0
Adds Between place n line spans more = spans ≡ more
Adds (Lexeme t) place n line spans more = spans ≡ record { token = t; start = place; end = place + n; line = line } ∷ more
Adds Fault place n line spans more = ⊥

-- the longest piece at the front, which gives these tokens and leaves those
pub record Begins (text : List ℕ) (place : ℕ) (line : ℕ) (n : ℕ) (spans : List SpannedToken) (more : List SpannedToken) : Type 0 where
  pub piece : Piece
  pub fits : IsLongest text n piece
  pub adds : Adds piece place n line spans more

-- So many pieces stand one after another, and give these tokens; behind them the text ends, or is refused.
abbrev pub Reads : ℕ → ℕ → ℕ → List ℕ → List SpannedToken → Option Refusal → Type 0
Reads zero place line text spans end = (spans ≡ []) × Stops place text end
Reads (suc k) place line text spans end =
    (n : ℕ) × (more : List SpannedToken) × Begins text place line n spans more × Reads k (place + n) (line + line_ends (take n text)) (drop n text) more end

-- the text's pieces from the first byte, on line 1
abbrev pub ReadsWhole : List ℕ → List SpannedToken → Option Refusal → Type 0
ReadsWhole text spans end = IsUtf8 text × ((k : ℕ) × Reads k 0 1 text spans end)

-- the text has these tokens
abbrev pub Tokens : List ℕ → List SpannedToken → Type 0
Tokens text spans = ReadsWhole text spans None

-- the text has no tokens, for a fault at this byte
abbrev pub Refuses : List ℕ → Refusal → Type 0
Refuses text r = (spans : List SpannedToken) × ReadsWhole text spans (Some r)

-- the text isn't UTF-8, and this many bytes at its front are the most that are
abbrev pub IsNotUtf8 : List ℕ → ℕ → Type 0
IsNotUtf8 text byte = (¬ (IsUtf8 text)) × IsValidUpTo text byte

-- A text has at most so many tokens, since it has at most so many bytes.
abbrev pub token_limit : ℕ
token_limit = 1048576
