-- Each line of a command is ASCII, and so it is a text, but for what is to be shown.
use Rattle.std.proofs.Common.{◌≡◌, ℕ, zero, suc, ◌<◌, Bool, true, nat_lt, List, [], ◌∷◌, ◌++◌, not, refl, arith, ltb-true}
use Rattle.std.specs.Prelude.{IsTrue, codes}
use Rattle.std.specs.List.{list_all}
use Rattle.std.specs.Str.{IsAscii, IsUtf8}
use Rattle.std.proofs.lemmas.Bool.{and_parts}
use Rattle.std.proofs.lemmas.Option.{cond_some}
use Rattle.std.proofs.lemmas.Str.{IsAscii-append, IsUtf8-from_ascii}
use Rattle.wy_tree.specs.Bytes.{begins_with, begins_word, goes_on_word, is_digit}
use Rattle.wy_tree.specs.Words.{is_key}
use Rattle.wy_ask.specs.Words.{IsClassWord, is_name, is_number, library, of_library, of_source, value_of}
use Rattle.wy_ask.specs.Questions.{Asked, IsNumber, Spells, element, event, field_word, local, object_field, print, static_field}
use Rattle.wy_ask.specs.Questions as written
use Rattle.wy_ask.specs.Statements.{SpellsStatement, alone, placed}
use Rattle.wy_ask.proofs.Numerals.{has_digits}
use Rattle.wy_explore.specs.Session.{Command, Says}
use Rattle.wy_explore.specs.Session as session

ascii : (test : ℕ → Bool) → ((b : ℕ) → test b ≡ true → b < 128) → (w : List ℕ) → list_all test w ≡ true → IsAscii w
ascii test low [] e i = omega arith
ascii test low (b ∷ w) e zero = low b (and_parts (test b) (list_all test w) e).0
ascii test low (b ∷ w) e (suc i) = ascii test low w (and_parts (test b) (list_all test w) e).1 i

low_digit : (b : ℕ) → is_digit b ≡ true → b < 128
low_digit b e = grind (arith, e)

low_letter : (b : ℕ) → goes_on_word b ≡ true → b < 128
low_letter b e = grind (arith, e)

-- what is written in a program's text
fixed : (w : List ℕ) → list_all (λ b. nat_lt b 128) w ≡ true → IsAscii w
fixed w e = ascii (λ b. nat_lt b 128) (λ b is. ltb-true b 128 is) w e

a_number : (n : ℕ) (w : List ℕ) → IsNumber n w → IsAscii w
a_number n w e = ascii is_digit low_digit w (has_digits w (cond_some (is_number w) (value_of w) n e).0)

a_name : (w : List ℕ) → IsTrue (is_name w) → IsAscii w
unfolding is_name
a_name w e = ascii goes_on_word low_letter w (and_parts (list_all goes_on_word w) (not (is_key w)) (and_parts (begins_with begins_word w) _ e).1).0

a_class : (c : List ℕ) → IsClassWord c → IsAscii c
a_class _ (of_source name e) = a_name name e
a_class _ (of_library name e) = IsAscii-append library name (fixed library refl) (a_name name e)

a_field : (c f : List ℕ) → IsClassWord c → IsTrue (is_name f) → IsAscii (field_word c f)
a_field c f is e = IsAscii-append c (codes "." ++ f) (a_class c is) (IsAscii-append (codes ".") f (fixed (codes ".") refl) (a_name f e))

at_moment : (place w : List ℕ) (m : ℕ) → IsAscii place → IsNumber m w → IsAscii (written.at place w)
at_moment place w m low e = IsAscii-append place (codes "@" ++ w) low (IsAscii-append (codes "@") w (fixed (codes "@") refl) (a_number m w e))

within : (v part : List ℕ) (n : ℕ) → IsNumber n v → IsAscii part → IsAscii (written.within v part)
within v part n e low = IsAscii-append v (codes ":" ++ part) (a_number n v e) (IsAscii-append (codes ":") part (fixed (codes ":") refl) low)

a_question : (q : Asked) (w : List ℕ) → Spells q w → IsAscii w
a_question _ _ (print k w e) = IsAscii-append (codes "p") w (fixed (codes "p") refl) (a_number k w e)
a_question _ _ (event n w e) = IsAscii-append (codes "e") w (fixed (codes "e") refl) (a_number n w e)
a_question _ _ (static_field c f m w is e em) =
    IsAscii-append (codes "static:") (written.at (field_word c f) w) (fixed (codes "static:") refl) (at_moment (field_word c f) w m (a_field c f is e) em)
a_question _ _ (object_field n c f m v w en is e em) =
    IsAscii-append (codes "field:") (written.at (written.within v (field_word c f)) w) (fixed (codes "field:") refl)
    (at_moment (written.within v (field_word c f)) w m (within v (field_word c f) n en (a_field c f is e)) em)
a_question _ _ (element n i m v u w en ei em) =
    IsAscii-append (codes "elem:") (written.at (written.within v u) w) (fixed (codes "elem:") refl)
    (at_moment (written.within v u) w m (within v u n en (a_number i u ei)) em)
a_question _ _ (local n i m v u w en ei em) =
    IsAscii-append (codes "local:") (written.at (written.within v u) w) (fixed (codes "local:") refl)
    (at_moment (written.within v u) w m (within v u n en (a_number i u ei)) em)

a_statement : (line place : ℕ) (w : List ℕ) → SpellsStatement line place w → IsAscii w
a_statement _ _ _ (placed line place v w e f some more) =
    IsAscii-append v (codes "." ++ w) (a_number line v e) (IsAscii-append (codes ".") w (fixed (codes ".") refl) (a_number place w f))
a_statement _ _ _ (alone line v e some) = a_number line v e

-- nothing is to be shown
abbrev pub ShowsNothing : Command → Type 0
ShowsNothing (session.Show text) = ⊥
ShowsNothing c = Unit {0}

a_command : (line : List ℕ) (c : Command) → Says line c → ShowsNothing c → IsAscii line
a_command _ _ (session.ask q w spells) other = IsAscii-append (codes "ask ") w (fixed (codes "ask ") refl) (a_question q w spells)
a_command _ _ session.listing other = fixed (codes "list") refl
a_command _ _ session.up other = fixed (codes "up") refl
a_command _ _ session.down other = fixed (codes "down") refl
a_command _ _ (session.go n w is) other = IsAscii-append (codes "go ") w (fixed (codes "go ") refl) (a_number n w is)
a_command _ _ session.sources other = fixed (codes "sources") refl
a_command _ _ (session.whynot line place w spells) other = IsAscii-append (codes "whynot ") w (fixed (codes "whynot ") refl) (a_statement line place w spells)
a_command _ _ session.frames other = fixed (codes "frames") refl
a_command _ _ (session.show text short) other = absurd other
a_command _ _ session.undo other = fixed (codes "undo") refl
a_command _ _ session.quit other = fixed (codes "quit") refl

pub command_is_text : (line : List ℕ) (c : Command) → Says line c → ShowsNothing c → IsUtf8 line
command_is_text line c says other = IsUtf8-from_ascii line (a_command line c says other)
