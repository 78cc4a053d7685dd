-- What holds of what is written of a run's output.
use Rattle.std.specs.Prelude.{◌≡◌, ◌↔◌, ℕ, List}
use Rattle.wy_kernel.specs.Program.{Program}
use Rattle.wy_event.specs.declared.record.Cover.{Cover}
use Rattle.wy_event.specs.declared.record.Tail.{Tail}
use Rattle.wy_event.specs.Record.{Recorded}
use Rattle.wy_expect.specs.Expected.{plain}
use Rattle.wy_expect.specs.Texts.{IsAll, IsExpectText, as_expected_line}

-- `as expected` is said exactly where the file is what the run printed, or what is written of its output, but for carriage returns and a last
-- line feed
abbrev pub SaidOfTheSame : Type 0
SaidOfTheSame = (p : Program) (lines source : List ℕ) (rs : List Recorded) (covers : List Cover) (tail : Tail) (file text : List ℕ)
    → IsExpectText p lines source rs covers tail file text → (text ≡ as_expected_line) ↔ IsAll p lines rs tail (plain file)

-- a run, and what a file expects of its output, have one text
abbrev pub OneTextIsDue : Type 0
OneTextIsDue = (p : Program) (lines source : List ℕ) (rs : List Recorded) (covers : List Cover) (tail : Tail) (file a b : List ℕ)
    → IsExpectText p lines source rs covers tail file a → IsExpectText p lines source rs covers tail file b → a ≡ b
