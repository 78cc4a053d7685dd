-- A token as what it says, without where its text lies in memory.
use Rattle.std.specs.Prelude.{ℕ, Bool, List, string_bytes}
use Rattle.wy_tree.specs.declared.token.Token.{Token}
use Rattle.wy_tree.specs.declared.token.Token.TheVariants as token

-- The texts of words, keywords and signs are bytes; those of string literals are 16-bit units.
pub data Tok : Type 0 where
  Word : List ℕ → Tok
  Key : List ℕ → Tok
  Int : ℕ → Bool → Tok
  Long : ℕ → Bool → Tok
  Char : ℕ → Tok
  Text : List ℕ → Tok
  Sign : List ℕ → Tok

abbrev pub seen : Token → Tok
seen (token.Word text) = Word (string_bytes text)
seen (token.Key text) = Key (string_bytes text)
seen (token.Int value decimal) = Int value decimal
seen (token.Long value decimal) = Long value decimal
seen (token.Char unit) = Char unit
seen (token.Text units) = Text units.items
seen (token.Sign text) = Sign (string_bytes text)
