-- The line that is being read, and what reading on does to it.
use Rattle.std.specs.Prelude.{◌≡◌, ◌≤◌, ℕ, ◌+◌, List, [], ◌∷◌, ◌++◌, length, Option, Some, Result, Ok, Err}
use Rattle.std.specs.Prelude.{None as Absent}
use Rattle.std.specs.List.{Contains}
use Rattle.wy_explore.specs.Session.{Session}
use Rattle.wy_outside.specs.Sink.{appended}
use Rattle.wy_session.specs.Scene.{Scene}
use Rattle.wy_session.specs.Situation.{Situation}
use Rattle.wy_session.specs.Talk.{Reaches, most_in_all, most_in_line}
use Rattle.wy_session.specs.Closings.{Answered, IsWithin, Leads, OutFor, OutOf, Stops, StopsAt}
use Rattle.wy_session.specs.declared.ending.Ending.{Ending}
use Rattle.wy_session.specs.declared.line.OpenLine.{OpenLine}

-- what stands before the first line feed and behind it, where there is one
abbrev pub SplitsLine : List ℕ → Option (List ℕ × List ℕ) → Type 0
SplitsLine bytes Absent = ¬ Contains bytes 10
SplitsLine bytes (Some p) = (bytes ≡ p.0 ++ (10 ∷ p.1)) × (¬ Contains p.0 10)

-- no end of a line is in it, and neither limit is passed
pub record IsOpen (l : OpenLine) : Type 0 where
  pub unended : ¬ Contains l.bytes.items 10
  pub short : length l.bytes.items ≤ most_in_line
  pub within : l.before ≤ most_in_all

-- these bytes were read, and all whole lines among them answered
pub record ReadsOn (before after : Situation) (b : ℕ) (bytes : List ℕ) (l : OpenLine) (rest said : List ℕ)
    : Type 0 where
  pub counts : b + length bytes ≡ l.before + length (l.bytes.items ++ rest)
  pub leads : (x : Scene) (s : Session) → before x s
      → (t : Session) × Leads x s b bytes t l.before (l.bytes.items ++ rest) said × after x t

-- these bytes were read, or they ended the session
abbrev pub Reads : Situation → Situation → ℕ → List ℕ → OpenLine → Option (List ℕ) → Option (List ℕ)
    → ℕ → ℕ → Result Unit Ending → Type 0
Reads before after b bytes l old new n m (Ok _) =
    (said : List ℕ) × ReadsOn before after b bytes l [] said × (new ≡ appended old said) × (m ≡ n)
Reads before after b bytes l old new n m (Err ending) =
    (said : List ℕ) × ((x : Scene) (s : Session) → before x s → Stops x s b bytes ending said)
    × (new ≡ appended old said) × OutFor ending n m

-- the input ends behind these bytes, and the session with it
abbrev pub Finishes : Situation → ℕ → List ℕ → Option (List ℕ) → Option (List ℕ) → ℕ → ℕ → Ending → Type 0
Finishes before b bytes old new n m ending =
    (said : List ℕ) × ((x : Scene) (s : Session) → before x s → (input earlier : List ℕ)
    → Reaches x input s bytes earlier → length input ≡ b + length bytes
    → StopsAt x input [] ending (earlier ++ said)) × (new ≡ appended old said) × OutFor ending n m

-- a line was answered, or the session ended
abbrev pub AnswersLine : Situation → Situation → List ℕ → Option (List ℕ) → Option (List ℕ) → ℕ → ℕ
    → Result Unit Ending → Type 0
AnswersLine before after line old new n m result =
    (part : List ℕ) × ((x : Scene) (s : Session) → before x s → Answered x s line (after x) result part)
    × (new ≡ appended old part) × OutOf result n m × IsWithin result
