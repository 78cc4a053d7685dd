-- No name of a text is a keyword.
use Rattle.std.proofs.Common.{◌≡◌, refl, sym, subst, ℕ, zero, suc, ◌==◌, Bool, true, false, ◌&&◌, if◌then◌else◌, List, [], ◌∷◌}
use Rattle.std.specs.Prelude.{Option, Some, None, map, take, drop, length}
use Rattle.std.proofs.lemmas.List.Elements.{All-nil, All-cons}
use Rattle.wy_tree.specs.Seen.{Tok, Word, Key, Char, Text, Sign}
use Rattle.wy_tree.specs.Words.{is_key, is_sign}
use Rattle.wy_tree.specs.Numbers.{number_of, literal_of}
use Rattle.wy_tree.specs.Literals.{Element, text_literal, char_literal}
use Rattle.wy_tree.specs.Pieces.{Piece, Between, Lexeme, Fault, Class, Blank, Name, Number, LineComment, BlockComment, Character, Quoted, Other, class_of, name_of, judged, close_at, closed_comment, alone, char_piece, text_piece, piece_of_class, piece_of, piece_here}
use Rattle.wy_tree.specs.Tokens.{SpannedToken, Refusal, Adds, Reads, Tokens}
use Rattle.law_well_formed.specs.Written.{IsNoKeyword, HasNoKeyword}

-- a token that is read is no keyword's name
abbrev Fine : Option Piece → Type 0
Fine (Some (Lexeme t)) = IsNoKeyword t
Fine _ = Unit {0}

either : (b : Bool) (x y : Option Piece) → Fine x → Fine y → Fine (if b then x else y)
either true x y h i = h
either false x y h i = i

name_fine : (bytes : List ℕ) → IsNoKeyword (name_of bytes)
name_fine bytes = by (is_key bytes) refl
  where
    by : (b : Bool) → is_key bytes ≡ b → IsNoKeyword (if b then Key bytes else Word bytes)
    by true e = tt
    by false e = e

literal_fine : (wide : Bool) (value : ℕ) (decimal : Bool) → IsNoKeyword (literal_of wide value decimal)
literal_fine true value decimal = tt
literal_fine false value decimal = tt

number_fine : (run : List ℕ) → Fine (Some (judged (number_of run)))
unfolding number_of
number_fine run = by _ _ _ _
  where
    by : (b wide : Bool) (value : ℕ) (decimal : Bool) → Fine (Some (judged (if b then Some (literal_of wide value decimal) else None)))
    by true wide value decimal = literal_fine wide value decimal
    by false wide value decimal = tt

comment_fine : (n : ℕ) (k : Option ℕ) → Fine (closed_comment n k)
comment_fine n None = tt
comment_fine n (Some k) = either (k == n) (Some Between) None tt tt

char_alone : (c : ℕ) (rest : List ℕ) → Fine (alone (Char c) rest)
char_alone c [] = tt
char_alone c (b ∷ rest) = tt

char_fine : (x : Option (ℕ × List ℕ)) → Fine (char_piece x)
char_fine None = tt
char_fine (Some x) = char_alone x.0 x.1

text_alone : (c : List ℕ) (rest : List ℕ) → Fine (alone (Text c) rest)
text_alone c [] = tt
text_alone c (b ∷ rest) = tt

text_fine : (x : Option Element) → Fine (text_piece x)
text_fine None = tt
text_fine (Some x) = text_alone x.0 x.1

class_fine : (c : Class) (bytes : List ℕ) → Fine (piece_of_class c bytes)
class_fine Blank [] = tt
class_fine Blank (b ∷ []) = tt
class_fine Blank (b ∷ c ∷ []) = either (b == 13 && c == 10) (Some Between) None tt tt
class_fine Blank (b ∷ c ∷ d ∷ bytes) = tt
class_fine Name bytes = either _ (Some (Lexeme (name_of bytes))) None (name_fine bytes) tt
class_fine Number bytes = either _ (Some (judged (number_of bytes))) None (number_fine bytes) tt
class_fine LineComment bytes = either _ (Some Between) None tt tt
class_fine BlockComment bytes = comment_fine (length (drop 2 bytes)) (close_at (drop 2 bytes))
class_fine Character bytes = char_fine (char_literal (drop 1 bytes))
class_fine Quoted bytes = text_fine (text_literal (drop 1 bytes))
class_fine Other bytes = either (is_sign bytes) (Some (Lexeme (Sign bytes))) None tt tt

piece_fine : (bytes : List ℕ) → Fine (piece_of bytes)
piece_fine [] = tt
piece_fine (b ∷ bytes) = class_fine (class_of b bytes) (b ∷ bytes)

here_fine : (text : List ℕ) (n : ℕ) (p : Piece) → piece_here text n ≡ Some p → Fine (Some p)
unfolding piece_here
here_fine text n p e = subst Fine e (piece_fine (take n text))

abbrev tokens_of : List SpannedToken → List Tok
tokens_of spans = map (λ (s : SpannedToken). s.token) spans

along_spans : (spans others : List SpannedToken) → spans ≡ others → HasNoKeyword (tokens_of others) → HasNoKeyword (tokens_of spans)
along_spans spans others e h = let Q : List SpannedToken → Type 0 = λ xs. HasNoKeyword (tokens_of xs) in subst Q (sym e) h

adds_fine : (p : Piece) (place n line : ℕ) (spans others : List SpannedToken) → Fine (Some p) → Adds p place n line spans others → HasNoKeyword (tokens_of others) → HasNoKeyword (tokens_of spans)
adds_fine Between place n line spans others f e h = along_spans spans others e h
adds_fine (Lexeme t) place n line spans others f e h = along_spans spans _ e (All-cons IsNoKeyword t (tokens_of others) f h)
adds_fine Fault place n line spans others f e h = absurd e

reads_fine : (k place line : ℕ) (text : List ℕ) (spans : List SpannedToken) (end : Option Refusal) → Reads k place line text spans end → HasNoKeyword (tokens_of spans)
reads_fine zero place line text spans end h = along_spans spans [] h.0 (All-nil IsNoKeyword)
reads_fine (suc k) place line text spans end h =
    let start = h.2 in
    adds_fine start.piece place h.0 line spans h.1 (here_fine text h.0 start.piece start.fits.here) start.adds (reads_fine k _ _ _ h.1 end h.3)

pub no_keywords : (text : List ℕ) (spans : List SpannedToken) → Tokens text spans → HasNoKeyword (tokens_of spans)
no_keywords text spans h = reads_fine h.1.0 0 1 text spans None h.1.1
