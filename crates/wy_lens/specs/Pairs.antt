-- What is due for the bytes of a trace and of a second one: why one of them can't be opened, that they are of other sources, or where
-- their runs part; and for those of a trace and of what its run was expected to print.
use Rattle.std.specs.Prelude.{◌≡◌, ◌⊎◌, ℕ, List, map}
use Rattle.wy_kernel.specs.Parts.{program_of}
use Rattle.wy_event.specs.Record.{recorded}
use Rattle.wy_compare.specs.Compared.{IsDiff, ends_alike}
use Rattle.wy_expect.specs.Texts.{IsExpectText}
use Rattle.wy_program.specs.Openings.{IsUnopenedFor, Opens}
use Rattle.wy_program.specs.declared.opening.OpenTrace.{OpenTrace}
use Rattle.wy_program.specs.declared.opening.OpeningError.{OpeningError}
use Rattle.wy_lens.specs.Statuses.{code_of}
use Rattle.wy_lens.specs.Texts.{other_source_line}
use Rattle.wy_lens.specs.Traces.{IsUnopenedLine}
use Rattle.wy_lens.specs.declared.answer.Answer.{Answer}
use Rattle.wy_lens.specs.declared.status.Status.TheVariants.{Done, Question}
use Rattle.wy_lens.specs.declared.words.Beside.{Beside}
use Rattle.wy_lens.specs.declared.words.Beside.TheVariants.{Run, Output}

-- two runs of one source
abbrev pub AreOfOneSource : OpenTrace → OpenTrace → Type 0
AreOfOneSource o q = o.trace.head.source ≡ q.trace.head.source

-- where the runs of two opened traces part, the second of which has this name
abbrev pub IsDiffOf : OpenTrace → OpenTrace → List ℕ → List ℕ → Type 0
IsDiffOf o q name text =
    IsDiff (program_of o.typed.program) o.typed.program.lines.items (map recorded o.trace.events) (map recorded q.trace.events)
    (ends_alike o.trace.tail q.trace.tail) name text

pub data Compares (o q : OpenTrace) (name : List ℕ) : ℕ → List ℕ → Type 0 where
  other : ¬ AreOfOneSource o q → Compares o q name 6 other_source_line
  parted : (text : List ℕ) → AreOfOneSource o q → IsDiffOf o q name text → Compares o q name 0 text

-- in memory
abbrev pub IsCompared : OpenTrace → OpenTrace → List ℕ → Answer → Type 0
IsCompared o q name answer = ((answer.status ≡ Done) ⊎ (answer.status ≡ Question)) × Compares o q name (code_of answer.status) answer.text.items

-- the run of an opened trace beside what it was expected to print
abbrev pub IsExpectOf : OpenTrace → List ℕ → List ℕ → Type 0
IsExpectOf o file text =
    IsExpectText (program_of o.typed.program) o.typed.program.lines.items o.trace.head.source (map recorded o.trace.events)
    o.trace.tail.coverage.statements o.trace.tail file text

abbrev pub IsExpected : OpenTrace → List ℕ → Answer → Type 0
IsExpected o file answer = (answer.status ≡ Done) × IsExpectOf o file answer.text.items

-- by the bytes of the two files
pub data DueForPair (trace other name : List ℕ) : Beside → ℕ → List ℕ → Type 0 where
  first_unopened : (beside : Beside) (e : OpeningError) (line : List ℕ) → IsUnopenedFor trace e → IsUnopenedLine e line
      → DueForPair trace other name beside 5 line
  second_unopened : (o : OpenTrace) (e : OpeningError) (line : List ℕ) → Opens trace o → IsUnopenedFor other e → IsUnopenedLine e line
      → DueForPair trace other name Run 5 line
  compared : (o q : OpenTrace) (status : ℕ) (text : List ℕ) → Opens trace o → Opens other q → Compares o q name status text
      → DueForPair trace other name Run status text
  expected : (o : OpenTrace) (text : List ℕ) → Opens trace o → IsExpectOf o other text → DueForPair trace other name Output 0 text
