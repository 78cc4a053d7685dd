-- How far a run printed what was expected.
use Rattle.std.specs.Prelude.{◌≡◌, ◌<◌, ◌+◌, ◌==◌, ℕ, not, List, ◌++◌, filter, take, length, Option, Some}
use Rattle.std.specs.Prelude.{None as Absent}
use Rattle.std.specs.List.{flat_map}
use Rattle.wy_kernel.specs.Program.{Program}
use Rattle.wy_event.specs.Record.{Recorded}
use Rattle.wy_telling.specs.Output.{whole_lines}
use Rattle.wy_telling.specs.Printed.{printed, printed_by}
use Rattle.wy_expect.specs.declared.walk.Walked.{Walked}

-- a text begins another
abbrev pub Begins : List ℕ → List ℕ → Type 0
Begins front text = (rest : List ℕ) × (text ≡ front ++ rest)

-- a carriage return counts for nothing
abbrev pub without_returns : List ℕ → List ℕ
without_returns text = filter (λ b. not (b == 13)) text

-- nor does it whether the last line has a line feed
abbrev pub plain : List ℕ → List ℕ
plain text = whole_lines (without_returns text)

-- what the events below a number printed
abbrev pub printed_below : Program → List Recorded → ℕ → List ℕ
printed_below p rs n = without_returns (flat_map (printed_by p rs) (take n rs))

-- what was printed before an event begins what is expected, and with what the event printed it doesn't
pub record IsFirstOther (p : Program) (rs : List Recorded) (expected : List ℕ) (n : ℕ) : Type 0 where
  pub there : n < length rs
  pub before : Begins (printed_below p rs n) expected
  pub here : ¬ Begins (printed_below p rs (n + 1)) expected

-- the first event that printed something else, or all that was printed begins what is expected
abbrev pub FindsOther : Program → List Recorded → List ℕ → Option ℕ → Type 0
FindsOther p rs expected (Some n) = IsFirstOther p rs expected n
FindsOther p rs expected Absent = Begins (without_returns (printed p rs)) expected

-- ---- in memory

-- what was printed up to the event that was found, or in all
abbrev pub printed_to : Program → List Recorded → Option ℕ → List ℕ
printed_to p rs (Some n) = printed_below p rs (n + 1)
printed_to p rs Absent = without_returns (printed p rs)

pub record IsWalk (p : Program) (rs : List Recorded) (expected : List ℕ) (w : Walked) : Type 0 where
  pub finds : FindsOther p rs expected w.other
  pub to : w.printed.items ≡ printed_to p rs w.other
