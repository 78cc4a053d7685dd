-- The longest piece at the front of a text, as the functions of this crate find it.
use Rattle.std.specs.Prelude.{ℕ, ◌+◌, ◌-◌, nat_le, ◌==◌, Bool, not, ◌&&◌, List, [], ◌∷◌, length, take, drop, Option, Some, None, if◌then◌else◌}
use Rattle.std.specs.List.{prefix_len}
use Rattle.wy_lexer.specs.declared.class.Class.{Class as Begun}
use Rattle.wy_lexer.specs.declared.class.Class.TheVariants as begun
use Rattle.wy_lexer.specs.declared.literal.Units.{Units}
use Rattle.wy_lexer.specs.declared.literal.Units.TheVariants as unit
use Rattle.wy_lexer.specs.declared.piece.Piece.{Piece as Stands}
use Rattle.wy_lexer.specs.declared.piece.Piece.TheVariants as stands
use Rattle.wy_lexer.specs.declared.piece.Found.{Found}
use Rattle.wy_tree.specs.Seen.{seen, Char, Text, Sign}
use Rattle.wy_tree.specs.Bytes.{begins_with, is_line_end, goes_on_word, goes_on_number}
use Rattle.wy_tree.specs.Words.{is_sign}
use Rattle.wy_tree.specs.Numbers.{number_of}
use Rattle.wy_tree.specs.Literals.{Element, text_literal, char_literal}
use Rattle.wy_tree.specs.Pieces.{Piece, Between, Lexeme, Fault, Class, Blank, Name, Number, LineComment, BlockComment, Character, Quoted, Other, class_of, name_of, judged, close_at}

abbrev pub class_seen : Begun → Class
class_seen begun.Blank = Blank
class_seen begun.Name = Name
class_seen begun.Number = Number
class_seen begun.LineComment = LineComment
class_seen begun.BlockComment = BlockComment
class_seen begun.Character = Character
class_seen begun.Quoted = Quoted
class_seen begun.Other = Other

abbrev pub units_seen : Units → List ℕ
units_seen (unit.One u) = u ∷ []
units_seen (unit.Two high low) = high ∷ (low ∷ [])

abbrev pub piece_seen : Stands → Piece
piece_seen stands.Between = Between
piece_seen (stands.Lexeme t) = Lexeme (seen t)
piece_seen stands.Fault = Fault

-- a piece and how many bytes it has; Fault and 0 where nothing fits
abbrev pub found_seen : Found → Piece × ℕ
found_seen f = (piece_seen f.piece, f.length)

abbrev pub blank_found : ℕ → List ℕ → Piece × ℕ
blank_found b rest = (Between, if b == 13 && begins_with (λ c. c == 10) rest then 2 else 1)

abbrev pub name_found : List ℕ → Piece × ℕ
name_found text = (Lexeme (name_of (take (prefix_len goes_on_word text) text)), prefix_len goes_on_word text)

abbrev pub number_found : List ℕ → Piece × ℕ
number_found text = (judged (number_of (take (prefix_len goes_on_number text) text)), prefix_len goes_on_number text)

abbrev pub line_comment_found : List ℕ → Piece × ℕ
line_comment_found text = (Between, prefix_len (λ b. not (is_line_end b)) text)

abbrev pub closed_found : ℕ → Option ℕ → Piece × ℕ
closed_found size None = (Fault, size)
closed_found size (Some n) = (Between, 2 + n)

abbrev pub block_comment_found : List ℕ → Piece × ℕ
block_comment_found text = closed_found (length text) (close_at (drop 2 text))

abbrev pub unit_found : ℕ → Option (ℕ × List ℕ) → Piece × ℕ
unit_found size None = (Fault, 0)
unit_found size (Some x) = (Lexeme (Char x.0), 1 + (size - length x.1))

abbrev pub char_found : List ℕ → Piece × ℕ
char_found rest = unit_found (length rest) (char_literal rest)

abbrev pub units_found : ℕ → Option Element → Piece × ℕ
units_found size None = (Fault, 0)
units_found size (Some x) = (Lexeme (Text x.0), 1 + (size - length x.1))

abbrev pub text_found : List ℕ → Piece × ℕ
text_found rest = units_found (length rest) (text_literal rest)

abbrev pub has_sign : List ℕ → ℕ → Bool
has_sign text n = nat_le n (length text) && is_sign (take n text)

unfoldable pub sign_length : List ℕ → ℕ
sign_length text = if has_sign text 4 then 4 else (if has_sign text 3 then 3 else (if has_sign text 2 then 2 else (if has_sign text 1 then 1 else 0)))

abbrev pub sign_of_length : ℕ → List ℕ → Piece × ℕ
sign_of_length n text = if n == 0 then (Fault, 0) else (Lexeme (Sign (take n text)), n)

abbrev pub sign_found : List ℕ → Piece × ℕ
sign_found text = sign_of_length (sign_length text) text

abbrev pub found_of_class : Class → ℕ → List ℕ → Piece × ℕ
found_of_class Blank b rest = blank_found b rest
found_of_class Name b rest = name_found (b ∷ rest)
found_of_class Number b rest = number_found (b ∷ rest)
found_of_class LineComment b rest = line_comment_found (b ∷ rest)
found_of_class BlockComment b rest = block_comment_found (b ∷ rest)
found_of_class Character b rest = char_found rest
found_of_class Quoted b rest = text_found rest
found_of_class Other b rest = sign_found (b ∷ rest)

unfoldable pub found : ℕ → List ℕ → Piece × ℕ
found b rest = found_of_class (class_of b rest) b rest
