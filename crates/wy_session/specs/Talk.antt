-- The lines of an input, what is written to them over a trace, and how that ends.
use Rattle.std.specs.Prelude.{◌≡◌, ◌⊎◌, ◌≢◌, ◌<◌, ◌≤◌, ◌-◌, ℕ, List, [], ◌∷◌, ◌++◌, length, codes, Some}
use Rattle.std.specs.Prelude.{None as Absent}
use Rattle.std.specs.List.{Contains}
use Rattle.std.specs.Io.BufRead.{strip_last}
use Rattle.wy_text.specs.EndLines.{line_of}
use Rattle.wy_explore.specs.Session.{Quit, Says, Session, begun}
use Rattle.wy_session.specs.Scene.{Said, Scene}

-- ---- lines

-- the bytes that a line may have before its end, and that all lines may have with their ends
abbrev pub most_in_line : ℕ
most_in_line = 4096

abbrev pub most_in_all : ℕ
most_in_all = 16777216

-- the bytes before the end of the first line, that line, and what is behind it: it ends with a line
-- feed, before which one carriage return goes, or with the input
pub data FirstLine : List ℕ → List ℕ → List ℕ → List ℕ → Type 0 where
  ended : (bytes behind : List ℕ) → ¬ Contains bytes 10
      → FirstLine (bytes ++ (10 ∷ behind)) bytes (strip_last 13 bytes) behind
  last : (bytes : List ℕ) → bytes ≢ [] → ¬ Contains bytes 10 → FirstLine bytes bytes bytes []

-- the first line of what is left of an input is within both limits
pub record Fits (input rest bytes line behind : List ℕ) : Type 0 where
  pub first : FirstLine rest bytes line behind
  pub short : length bytes ≤ most_in_line
  pub within : length input - length behind ≤ most_in_all

-- the first lines of an input lead a session there, with the rest of the input still to come, and
-- this is what was answered to them
pub data Reaches (x : Scene) (input : List ℕ) : Session → List ℕ → List ℕ → Type 0 where
  start : Reaches x input begun input []
  line : (s t : Session) (rest bytes line behind said reply : List ℕ) → Reaches x input s rest said
      → Fits input rest bytes line behind → Said x s line t (Some reply)
      → Reaches x input t behind (said ++ reply)

-- some first lines of an input are answered so
abbrev pub AnswersFirst : Scene → List ℕ → List ℕ → Type 0
AnswersFirst x input said = (s : Session) × (rest : List ℕ) × Reaches x input s rest said

abbrev pub long_line_text : List ℕ
long_line_text = line_of (codes "too long: line")

abbrev pub long_input_text : List ℕ
long_input_text = line_of (codes "too long: input")

-- how a session ends there: its status, and what is still written. A line's own limit comes first
pub data Ends (x : Scene) (input : List ℕ) (s : Session) : List ℕ → ℕ → List ℕ → Type 0 where
  over : Ends x input s [] 0 []
  quit : (t : Session) (rest bytes line behind : List ℕ) → Fits input rest bytes line behind
      → Said x s line t Absent → Ends x input s rest 0 []
  long_line : (rest bytes line behind : List ℕ) → FirstLine rest bytes line behind
      → most_in_line < length bytes → Ends x input s rest 8 long_line_text
  long_input : (rest bytes line behind : List ℕ) → FirstLine rest bytes line behind
      → length bytes ≤ most_in_line → most_in_all < length input - length behind
      → Ends x input s rest 8 long_input_text

-- the status and the text of a session over an input
pub data Talks (x : Scene) (input : List ℕ) : ℕ → List ℕ → Type 0 where
  talks : (s : Session) (rest said last : List ℕ) (status : ℕ) → Reaches x input s rest said
      → Ends x input s rest status last → Talks x input status (said ++ last)

-- the first lines of an input lead a session to a quit, and this is behind the end of that line
pub record QuitsBefore (x : Scene) (input behind : List ℕ) : Type 0 where
  pub session : Session
  pub rest : List ℕ
  pub bytes : List ℕ
  pub line : List ℕ
  pub said : List ℕ
  pub reaches : Reaches x input session rest said
  pub fits : Fits input rest bytes line behind
  pub quits : Says line Quit

-- an input of which so much is left was read to its end, or at least to the end of its quit
abbrev pub IsReadOut : Scene → List ℕ → List ℕ → Type 0
IsReadOut x input left =
    (left ≡ []) ⊎ ((more : List ℕ) × QuitsBefore x input (more ++ left))

abbrev pub IsPrefixOf : List ℕ → List ℕ → Type 0
IsPrefixOf part text = (rest : List ℕ) × (text ≡ part ++ rest)

-- this is a prefix of what is due for an input: of what its first lines are answered, or of all
pub data BeginsTalk (x : Scene) (input part : List ℕ) : Type 0 where
  answered : (s : Session) (rest said : List ℕ) → Reaches x input s rest said
      → IsPrefixOf part said → BeginsTalk x input part
  ended : (status : ℕ) (text : List ℕ) → Talks x input status text → IsPrefixOf part text
      → BeginsTalk x input part
