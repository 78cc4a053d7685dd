-- What stands at a place of a text: white space, a comment or a token, the longest there (JLS 3.2, 3.5, 3.6, 3.7).
use Rattle.std.specs.Prelude.{ℕ, ◌+◌, ◌<◌, ◌≤◌, ◌≡◌, ◌==◌, Bool, true, false, not, ◌&&◌, ◌||◌, List, [], ◌∷◌, length, take, drop, Option, Some, None, option_map, if◌then◌else◌}
use Rattle.std.specs.List.{list_all}
use Rattle.wy_tree.specs.Seen.{Tok, Word, Key, Char, Text, Sign}
use Rattle.wy_tree.specs.Bytes.{begins_with, is_line_end, is_blank, is_digit, begins_word, goes_on_word, goes_on_number}
use Rattle.wy_tree.specs.Words.{is_key, is_sign}
use Rattle.wy_tree.specs.Numbers.{number_of}
use Rattle.wy_tree.specs.Literals.{Element, text_literal, char_literal}

-- white space or a comment; a token; or what is begun as a token or a comment and is none
pub data Piece : Type 0 where
  Between : Piece
  Lexeme : Tok → Piece
  Fault : Piece

-- what a first byte and the one behind it begin
pub data Class : Type 0 where
  Blank : Class
  Name : Class
  Number : Class
  LineComment : Class
  BlockComment : Class
  Character : Class
  Quoted : Class
  Other : Class

-- A number begins with a digit, or with "." before one.
unfoldable pub class_of : ℕ → List ℕ → Class
class_of b bytes =
    if is_blank b then Blank else (if begins_word b then Name else (if is_digit b || (b == 46 && begins_with is_digit bytes) then Number
    else (if b == 47 && begins_with (λ c. c == 47) bytes then LineComment else (if b == 47 && begins_with (λ c. c == 42) bytes then BlockComment
    else (if b == 39 then Character else (if b == 34 then Quoted else Other))))))

-- a byte of white space, or CR LF
abbrev pub blank_piece : List ℕ → Option Piece
blank_piece [] = None
blank_piece (b ∷ []) = Some Between
blank_piece (b ∷ c ∷ []) = if b == 13 && c == 10 then Some Between else None
blank_piece (b ∷ c ∷ d ∷ bytes) = None

abbrev pub name_of : List ℕ → Tok
name_of bytes = if is_key bytes then Key bytes else Word bytes

abbrev pub name_piece : List ℕ → Option Piece
name_piece bytes = if list_all goes_on_word bytes then Some (Lexeme (name_of bytes)) else None

abbrev pub judged : Option Tok → Piece
judged None = Fault
judged (Some t) = Lexeme t

-- a whole run of letters, digits, "_", "$" and ".", whether it is a literal or not
abbrev pub number_piece : List ℕ → Option Piece
number_piece bytes = if list_all goes_on_number bytes then Some (judged (number_of bytes)) else None

-- up to the line's end
abbrev pub line_comment_piece : List ℕ → Option Piece
line_comment_piece bytes = if list_all (λ b. not (is_line_end b)) bytes then Some Between else None

-- how many bytes there are through the first "*/"
unfoldable pub close_at : List ℕ → Option ℕ
close_at [] = None
close_at (b ∷ []) = None
close_at (b ∷ c ∷ bytes) = if b == 42 && c == 47 then Some 2 else option_map (λ n. 1 + n) (close_at (c ∷ bytes))

abbrev pub closed_comment : ℕ → Option ℕ → Option Piece
closed_comment n None = Some Fault
closed_comment n (Some k) = if k == n then Some Between else None

-- up to the first "*/" behind the "/*"; without one, all that follows is begun as a comment and is none
abbrev pub block_comment_piece : List ℕ → Option Piece
block_comment_piece bytes = closed_comment (length (drop 2 bytes)) (close_at (drop 2 bytes))

abbrev pub sign_piece : List ℕ → Option Piece
sign_piece bytes = if is_sign bytes then Some (Lexeme (Sign bytes)) else None

-- a literal with nothing behind it
abbrev pub alone : Tok → List ℕ → Option Piece
alone t [] = Some (Lexeme t)
alone t (b ∷ bytes) = None

abbrev pub char_piece : Option (ℕ × List ℕ) → Option Piece
char_piece None = None
char_piece (Some x) = alone (Char x.0) x.1

abbrev pub text_piece : Option Element → Option Piece
text_piece None = None
text_piece (Some x) = alone (Text x.0) x.1

abbrev pub piece_of_class : Class → List ℕ → Option Piece
piece_of_class Blank bytes = blank_piece bytes
piece_of_class Name bytes = name_piece bytes
piece_of_class Number bytes = number_piece bytes
piece_of_class LineComment bytes = line_comment_piece bytes
piece_of_class BlockComment bytes = block_comment_piece bytes
piece_of_class Character bytes = char_piece (char_literal (drop 1 bytes))
piece_of_class Quoted bytes = text_piece (text_literal (drop 1 bytes))
piece_of_class Other bytes = sign_piece bytes

-- what these bytes are, if they are a piece
abbrev pub piece_of : List ℕ → Option Piece
piece_of [] = None
piece_of (b ∷ bytes) = piece_of_class (class_of b bytes) (b ∷ bytes)

-- what the first n bytes of a text are, if they are a piece
unfoldable pub piece_here : List ℕ → ℕ → Option Piece
piece_here text n = piece_of (take n text)

-- the first n bytes are this piece, and no more bytes are one
pub record IsLongest (text : List ℕ) (n : ℕ) (p : Piece) : Type 0 where
  pub within : n ≤ length text
  pub here : piece_here text n ≡ Some p
  pub longest : (m : ℕ) → n < m → m ≤ length text → piece_here text m ≡ None

-- no piece fits: there is none, or the longest one is none of the language
abbrev pub NothingFits : List ℕ → Type 0
NothingFits text = (n : ℕ) (p : Piece) → IsLongest text n p → p ≡ Fault

abbrev pub is_literal_class : Class → Bool
is_literal_class Number = true
is_literal_class Character = true
is_literal_class Quoted = true
is_literal_class _ = false

abbrev pub begins_literal : List ℕ → Bool
begins_literal [] = false
begins_literal (b ∷ bytes) = is_literal_class (class_of b bytes)
