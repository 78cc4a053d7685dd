-- The statement that a word names: by its line, and its place among the askable ones of the line.
use Rattle.std.specs.Prelude.{◌≡◌, ℕ, ◌-◌, ◌<◌, ◌&&◌, nat_lt, if◌then◌else◌, List, ◌++◌, length, Option, Some, None, Result, Ok, Err, codes, slice_get, IsPermutation}
use Rattle.std.specs.Ordering.{nat_cmp}
use Rattle.std.specs.List.Sorted.{IsSorted}
use Rattle.wy_kernel.specs.Form.{Statement}
use Rattle.wy_ask.specs.declared.naming.NamedStatement.{NamedStatement}
use Rattle.wy_ask.specs.declared.question.AskError.{AskError}
use Rattle.wy_ask.specs.declared.question.AskError.TheVariants as errors
use Rattle.wy_ask.specs.Words.{number_of}
use Rattle.wy_ask.specs.Questions.{IsNumber}
use Rattle.wy_ask.specs.Reading.{and_then, cut}
use Rattle.wy_ask.specs.Lines.{numbers_on}

-- a line and a place in it, both from 1; a line alone names its first statement
pub data SpellsStatement : ℕ → ℕ → List ℕ → Type 0 where
  placed : (line place : ℕ) (v w : List ℕ) → IsNumber line v → IsNumber place w → 0 < line → 0 < place → SpellsStatement line place (v ++ (codes "." ++ w))
  alone : (line : ℕ) (v : List ℕ) → IsNumber line v → 0 < line → SpellsStatement line 1 v

-- a text is the word of this line and place, and of no others
pub record Names (text : List ℕ) (line place : ℕ) : Type 0 where
  pub spelled : SpellsStatement line place text
  pub only : (l k : ℕ) → SpellsStatement l k text → (l ≡ line) × (k ≡ place)

-- the same numbers from the least on
pub record Rises (numbers rising : List ℕ) : Type 0 where
  pub same : IsPermutation numbers rising
  pub sorted : IsSorted nat_cmp rising

-- this statement is at the place, counted from 1 by the numbers of statements
pub record IsPlaced (numbers : List ℕ) (place n : ℕ) : Type 0 where
  pub rising : List ℕ
  pub rises : Rises numbers rising
  pub there : slice_get rising (place - 1) ≡ Some n

-- the statement of a text among all of a program, and a refusal exactly where it has none
abbrev pub Finds : List ℕ → List Statement → List ℕ → Result NamedStatement AskError → Type 0
Finds lines all text (Ok s) =
    Names text s.line s.place × IsPlaced (numbers_on lines s.line all) s.place s.number
Finds lines all text (Err (errors.NoSuch line)) = (place : ℕ) × Names text line place × length (numbers_on lines line all) < place
Finds lines all text (Err errors.BadQuestion) = (line place : ℕ) → ¬ SpellsStatement line place text
Finds lines all text (Err errors.NoMemory) = Unit {0}

-- ---- the word, as the functions of this crate find it

abbrev pub positive : ℕ → ℕ → Option (ℕ × ℕ)
positive line place = if nat_lt 0 line && nat_lt 0 place then Some (line, place) else None

abbrev pub by_dot : Option (List ℕ × List ℕ) → List ℕ → Option (ℕ × ℕ)
by_dot None text = and_then (number_of text) (λ line. positive line 1)
by_dot (Some x) text = and_then (number_of x.0) (λ line. and_then (number_of x.1) (λ place. positive line place))

abbrev pub word_in : List ℕ → Option (ℕ × ℕ)
word_in text = by_dot (cut 46 text) text
