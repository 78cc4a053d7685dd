-- What a call has to answer: its status and its text, by the words and the files alone.
use Rattle.std.specs.Prelude.{◌≡◌, ◌<◌, ◌≤◌, ◌⊎◌, ℕ, List, length, Option, Some, None}
use Rattle.wy_explain.specs.Explained.{program_line}
use Rattle.wy_kernel.specs.Limits.{source_limit, trace_limit}
use Rattle.wy_kernel.specs.declared.program.Program.{Program}
use Rattle.wy_lens.specs.Refusals.{IsExplained}
use Rattle.wy_lens.specs.Texts.{absent_line, help_text, too_long_line, usage_text, version_text}
use Rattle.wy_lens.specs.Traces.{DueForBytes}
use Rattle.wy_lens.specs.Pairs.{DueForPair}
use Rattle.wy_lens.specs.declared.words.Beside.{Beside}
use Rattle.wy_lens.specs.Words.{Asks, AskNothing, Compare, Explain, Tell, Telling, Help, Version}
use Rattle.wy_outside.specs.Shelf.{Files}
use Rattle.wy_program.specs.Programs.{IsProgramOf}
use Rattle.wy_program.specs.Sources.{IsRefusedFor}
use Rattle.wy_constant.specs.declared.source_refusal.SourceRefusal.{SourceRefusal}

-- the status and the text that are due for a source: it is a program, or this explains why it is none
abbrev pub DueFor : List ℕ → List ℕ → ℕ → List ℕ → Type 0
DueFor name source status text =
    ((p : Program) × IsProgramOf source p × (status ≡ 0) × (text ≡ program_line name))
    ⊎ ((refusal : SourceRefusal) × IsRefusedFor source refusal × (status ≡ 4) × IsExplained name source refusal text)

-- the same for the file of a name, which has at most so many bytes, by what is due for these
abbrev pub DueForFile : Files → List ℕ → ℕ → (List ℕ → ℕ → List ℕ → Type 0) → ℕ → List ℕ → Type 0
DueForFile files name limit due status text =
    ((files name ≡ None) × (status ≡ 3) × (text ≡ absent_line name))
    ⊎ ((bytes : List ℕ) × (files name ≡ Some bytes) × (limit < length bytes) × (status ≡ 8) × (text ≡ too_long_line name))
    ⊎ ((bytes : List ℕ) × (files name ≡ Some bytes) × (length bytes ≤ limit) × due bytes status text)

abbrev pub DueForSource : Files → List ℕ → ℕ → List ℕ → Type 0
DueForSource files name = DueForFile files name source_limit (DueFor name)

abbrev pub DueForTrace : Files → List ℕ → Telling → ℕ → List ℕ → Type 0
DueForTrace files name telling = DueForFile files name trace_limit (λ bytes. DueForBytes bytes telling)

-- the same for the trace of a name and the file of another
abbrev pub DueForFiles : Beside → Files → List ℕ → List ℕ → ℕ → List ℕ → Type 0
DueForFiles beside files trace other =
    DueForFile files trace trace_limit (λ first. DueForFile files other trace_limit (λ second. DueForPair first second other beside))

-- the status and the text that are due, by the files where they are told
pub data Due (words : List (List ℕ)) (held : Option Files) : ℕ → List ℕ → Type 0 where
  usage : AskNothing words → Due words held 2 usage_text
  help : Asks words Help → Due words held 0 help_text
  version : Asks words Version → Due words held 0 version_text
  explained : (name : List ℕ) (files : Files) (status : ℕ) (text : List ℕ) → Asks words (Explain name) → held ≡ Some files → DueForSource files name status text
      → Due words held status text
  told : (name : List ℕ) (telling : Telling) (files : Files) (status : ℕ) (text : List ℕ) → Asks words (Tell name telling) → held ≡ Some files → DueForTrace files name telling status text
      → Due words held status text
  compared : (beside : Beside) (trace other : List ℕ) (files : Files) (status : ℕ) (text : List ℕ) → Asks words (Compare beside trace other) → held ≡ Some files
      → DueForFiles beside files trace other status text → Due words held status text
