-- Why parsing finds no tree.
use Rattle.std.specs.Prelude.{◌≡◌, ◌≤◌, ◌<◌, ◌+◌, ℕ, List, length, take}
use Rattle.wy_tree.specs.Seen.{Tok}
use Rattle.wy_tree.specs.Trees.{HasNoTree}
use Rattle.wy_parser.specs.declared.parse.ParseError.{ParseError}
use Rattle.wy_parser.specs.declared.parse.ParseError.TheVariants as errors

-- Tokens are refused for that they have no tree; memory can run out at any.
abbrev pub IsCause : List Tok → ParseError → Type 0
IsCause s (errors.Syntax at) = HasNoTree s
IsCause s errors.NoMemory = Unit {0}

-- two lists that agree through this token
abbrev pub AgreeThrough : ℕ → List Tok → List Tok → Type 0
AgreeThrough at s u = take (at + 1) s ≡ take (at + 1) u

-- The number of a token may be named where these have no tree: none that agree with them through it have one. Their number may always be.
abbrev pub AllowsSyntax : List Tok → ℕ → Type 0
AllowsSyntax s at = (at ≤ length s) × (at < length s → (u : List Tok) → AgreeThrough at s u → HasNoTree u)

abbrev pub IsPlaced : List Tok → ParseError → Type 0
IsPlaced s (errors.Syntax at) = AllowsSyntax s at
IsPlaced s errors.NoMemory = Unit {0}
