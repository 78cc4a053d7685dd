-- What is written of a run's output beside what was expected.
use Rattle.std.specs.Prelude.{◌≡◌, ◌+◌, ◌⊎◌, ℕ, false, List, [], ◌∷◌, ◌++◌, codes, Option, Some}
use Rattle.std.specs.Prelude.{None as Absent}
use Rattle.wy_kernel.specs.Program.{Program}
use Rattle.wy_event.specs.declared.record.Cover.{Cover}
use Rattle.wy_event.specs.declared.record.Tail.{Tail}
use Rattle.wy_event.specs.Record.{Recorded}
use Rattle.wy_ask.specs.declared.never.PlacedStatement.{PlacedStatement}
use Rattle.wy_fold.specs.Shown.{show_text}
use Rattle.wy_telling.specs.Items.{items_text}
use Rattle.wy_telling.specs.Output.{output_text}
use Rattle.wy_telling.specs.Printed.{printed}
use Rattle.wy_telling.specs.Questions.{never_line}
use Rattle.wy_text.specs.EndLines.{line_of}
use Rattle.wy_whynot.specs.Evidence.{Evidence}
use Rattle.wy_whynot.specs.Items.{AreItems}
use Rattle.wy_expect.specs.Beside.{beside_text}
use Rattle.wy_expect.specs.Expected.{FindsOther, plain, printed_below}
use Rattle.wy_expect.specs.Printers.{unprinted}

-- ---- a print that is another

-- what was printed up to it beside what was expected, and all that it comes from, folded by lines
unfoldable pub other_text : Program → List ℕ → List ℕ → List Recorded → List ℕ → ℕ → List ℕ
other_text p lines source rs expected n =
    beside_text expected (printed_below p rs (n + 1)) ++ show_text p lines source rs n (record { is_open = false; by_data = false })

-- ---- what was never printed

unfoldable pub all_ran_line : List ℕ
all_ran_line = line_of (codes "each statement that prints began")

-- each statement by the words that ask why it never ran, and the answer
abbrev pub NeverPrinted : Program → List ℕ → List Recorded → List Cover → List PlacedStatement → List ℕ → Type 0
NeverPrinted p lines rs covers [] text = text ≡ []
NeverPrinted p lines rs covers (s ∷ rest) text =
    (items : List Evidence) × (more : List ℕ) × AreItems p rs covers s.statement.number items × NeverPrinted p lines rs covers rest more
    × (text ≡ (never_line s.statement.line s.place ++ items_text p lines items) ++ more)

-- those of the statements that print, or that each of them ran
abbrev pub NeverText : Program → List ℕ → List Recorded → List Cover → List PlacedStatement → List ℕ → Type 0
NeverText p lines rs covers [] text = text ≡ all_ran_line
NeverText p lines rs covers (s ∷ rest) text = NeverPrinted p lines rs covers (s ∷ rest) text

-- ---- all of it

unfoldable pub as_expected_line : List ℕ
as_expected_line = line_of (codes "as expected")

-- what is expected was printed and nothing else; it may end with the line that tells how the run ended
abbrev pub IsAll : Program → List ℕ → List Recorded → Tail → List ℕ → Type 0
IsAll p lines rs tail expected = (expected ≡ plain (printed p rs)) ⊎ (expected ≡ plain (output_text p lines rs tail))

-- where all that was printed begins what is expected
pub data SaysOfBegun (p : Program) (lines : List ℕ) (rs : List Recorded) (covers : List Cover) (tail : Tail) (expected text : List ℕ) : Type 0 where
  all : IsAll p lines rs tail expected → text ≡ as_expected_line → SaysOfBegun p lines rs covers tail expected text
  missing : (never : List ℕ) → ¬ IsAll p lines rs tail expected → NeverText p lines rs covers (unprinted p lines covers) never
      → text ≡ beside_text expected (plain (output_text p lines rs tail)) ++ never
      → SaysOfBegun p lines rs covers tail expected text

-- by the first event that printed something else, if one did
abbrev pub SaysBy : Program → List ℕ → List ℕ → List Recorded → List Cover → Tail → List ℕ → Option ℕ → List ℕ → Type 0
SaysBy p lines source rs covers tail expected (Some n) text = text ≡ other_text p lines source rs expected n
SaysBy p lines source rs covers tail expected Absent text = SaysOfBegun p lines rs covers tail expected text

-- the text of a run, and of what a file expects of its output
abbrev pub IsExpectText : Program → List ℕ → List ℕ → List Recorded → List Cover → Tail → List ℕ → List ℕ → Type 0
IsExpectText p lines source rs covers tail file text =
    (other : Option ℕ) × FindsOther p rs (plain file) other × SaysBy p lines source rs covers tail (plain file) other text
