-- Questions, and their spellings.
use Rattle.std.specs.Prelude.{◌≡◌, ℕ, List, ◌++◌, Some, IsTrue, codes, string_bytes, Result, Ok, Err}
use Rattle.wy_ask.specs.declared.question.Question.{Question}
use Rattle.wy_ask.specs.declared.question.Question.TheVariants as question
use Rattle.wy_ask.specs.declared.question.AskError.{AskError}
use Rattle.wy_ask.specs.declared.question.AskError.TheVariants as errors
use Rattle.wy_ask.specs.Words.{is_name, number_of, IsClassWord}

-- a question without where its words lie in memory
pub data Asked : Type 0 where
  Print : (piece : ℕ) → Asked
  Event : (number : ℕ) → Asked
  Static : (class field : List ℕ) (moment : ℕ) → Asked
  Field : (object : ℕ) (class field : List ℕ) (moment : ℕ) → Asked
  Elem : (array index moment : ℕ) → Asked
  Local : (frame index moment : ℕ) → Asked

abbrev pub asked : Question → Asked
asked (question.Print piece) = Print piece
asked (question.Event number) = Event number
asked (question.Static class field moment) = Static (string_bytes class) (string_bytes field) moment
asked (question.Field object class field moment) = Field object (string_bytes class) (string_bytes field) moment
asked (question.Elem array index moment) = Elem array index moment
asked (question.Local frame index moment) = Local frame index moment

-- the word is this number
abbrev pub IsNumber : ℕ → List ℕ → Type 0
IsNumber n word = number_of word ≡ Some n

-- a class and a field as they are written
abbrev pub field_word : List ℕ → List ℕ → List ℕ
field_word class field = class ++ (codes "." ++ field)

-- a place and a moment as they are written
abbrev pub at : List ℕ → List ℕ → List ℕ
at place moment = place ++ (codes "@" ++ moment)

-- a holder and a part of it as they are written
abbrev pub within : List ℕ → List ℕ → List ℕ
within holder part = holder ++ (codes ":" ++ part)

-- the words of a question: a number has several, with zeros in front
pub data Spells : Asked → List ℕ → Type 0 where
  print : (k : ℕ) (w : List ℕ) → IsNumber k w → Spells (Print k) (codes "p" ++ w)
  event : (n : ℕ) (w : List ℕ) → IsNumber n w → Spells (Event n) (codes "e" ++ w)
  static_field : (c f : List ℕ) (m : ℕ) (w : List ℕ) → IsClassWord c → IsTrue (is_name f) → IsNumber m w
      → Spells (Static c f m) (codes "static:" ++ at (field_word c f) w)
  object_field : (n : ℕ) (c f : List ℕ) (m : ℕ) (v w : List ℕ) → IsNumber n v → IsClassWord c → IsTrue (is_name f) → IsNumber m w
      → Spells (Field n c f m) (codes "field:" ++ at (within v (field_word c f)) w)
  element : (n i m : ℕ) (v u w : List ℕ) → IsNumber n v → IsNumber i u → IsNumber m w
      → Spells (Elem n i m) (codes "elem:" ++ at (within v u) w)
  local : (n i m : ℕ) (v u w : List ℕ) → IsNumber n v → IsNumber i u → IsNumber m w
      → Spells (Local n i m) (codes "local:" ++ at (within v u) w)

-- a text asks this question and no other
pub record Asks (text : List ℕ) (q : Asked) : Type 0 where
  pub spelled : Spells q text
  pub only : (other : Asked) → Spells other text → other ≡ q

-- why a text is not read: it asks no question, or memory ran out
abbrev pub IsUnread : List ℕ → AskError → Type 0
IsUnread text errors.BadQuestion = (q : Asked) → ¬ Spells q text
IsUnread text (errors.NoSuch n) = ⊥
IsUnread text errors.NoMemory = Unit {0}

-- the question of a text, and a refusal exactly where it asks none
abbrev pub IsReading : List ℕ → Result Question AskError → Type 0
IsReading text (Ok q) = Asks text (asked q)
IsReading text (Err e) = IsUnread text e
