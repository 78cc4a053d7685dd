-- What a call answers, and what is written of it.
use Rattle.std.specs.Prelude.{◌≡◌, ◌≢◌, ◌⊎◌, ℕ, List, take, Option, Some}
use Rattle.wy_lens.specs.Due.{Due, DueFor}
use Rattle.wy_lens.specs.Statuses.{code_of}
use Rattle.wy_lens.specs.Texts.{absent_line, fault_line}
use Rattle.wy_lens.specs.Traces.{DueForBytes}
use Rattle.wy_lens.specs.Pairs.{DueForPair}
use Rattle.wy_lens.specs.declared.words.Beside.{Beside}
use Rattle.wy_lens.specs.Words.{Asks, Compare, Explain, Tell, Telling}
use Rattle.wy_lens.specs.declared.answer.Answer.{Answer}
use Rattle.wy_lens.specs.declared.status.Status.TheVariants.{Absent, Fault, TooLong, Usage}
use Rattle.wy_outside.specs.Counts.{Rose}
use Rattle.wy_outside.specs.declared.shelf.ShelfError.{ShelfError}
use Rattle.wy_outside.specs.declared.shelf.ShelfError.TheVariants.{Absent as Missing, Failed, NoMemory}
use Rattle.wy_outside.specs.Shelf.{Files}
use Rattle.wy_outside.specs.Sink.{appended}

pub record AskNoFile (words : List (List ℕ)) : Type 0 where
  pub source : (name : List ℕ) → ¬ Asks words (Explain name)
  pub trace : (name : List ℕ) (telling : Telling) → ¬ Asks words (Tell name telling)
  pub pair : (beside : Beside) (trace other : List ℕ) → ¬ Asks words (Compare beside trace other)

-- the words ask for no file, or the shelf tells its files
abbrev pub Knows : List (List ℕ) → Option Files → Type 0
Knows words held = AskNoFile words ⊎ ((files : Files) × (held ≡ Some files))

-- the shelf failed, and the answer says so; or it did not, and the answer is what is due where this is so
abbrev pub Answers : (ℕ → List ℕ → Type 0) → ℕ → ℕ → Answer → Type 0
Answers due faults_before faults_after answer =
    ((answer.status ≡ Fault) × (answer.text.items ≡ fault_line) × Rose faults_before faults_after)
    ⊎ ((faults_after ≡ faults_before) × (answer.status ≢ Fault) × due (code_of answer.status) answer.text.items)

abbrev pub IsAnswer : List (List ℕ) → Option Files → ℕ → ℕ → Answer → Type 0
IsAnswer words held faults_before faults_after answer = Answers (λ status text. Knows words held → Due words held status text) faults_before faults_after answer

-- an answer speaks neither of a file nor of the words
abbrev pub SpeaksOfNoFile : Answer → Type 0
SpeaksOfNoFile answer = (answer.status ≢ Fault) × (answer.status ≢ Absent) × (answer.status ≢ TooLong) × (answer.status ≢ Usage)

-- what is due for a source, and for the bytes of a trace
abbrev pub IsSourceAnswer : List ℕ → List ℕ → Answer → Type 0
IsSourceAnswer name source answer = SpeaksOfNoFile answer × DueFor name source (code_of answer.status) answer.text.items

abbrev pub IsBytesAnswer : List ℕ → Telling → Answer → Type 0
IsBytesAnswer bytes telling answer = SpeaksOfNoFile answer × DueForBytes bytes telling (code_of answer.status) answer.text.items

abbrev pub IsPairAnswer : Beside → List ℕ → List ℕ → List ℕ → Answer → Type 0
IsPairAnswer beside trace other name answer = SpeaksOfNoFile answer × DueForPair trace other name beside (code_of answer.status) answer.text.items

-- the same for the file of a name
abbrev pub IsFileAnswer : (Files → ℕ → List ℕ → Type 0) → Option Files → ℕ → ℕ → Answer → Type 0
IsFileAnswer due held faults_before faults_after answer =
    Answers (λ status text. (files : Files) → held ≡ Some files → due files status text) faults_before faults_after answer

-- why the file of a name was not read; want of memory has no answer
abbrev pub Lacks : List ℕ → ShelfError → Answer → Type 0
Lacks name Missing answer = (answer.status ≡ Absent) × (answer.text.items ≡ absent_line name)
Lacks name Failed answer = (answer.status ≡ Fault) × (answer.text.items ≡ fault_line)
Lacks name NoMemory answer = ⊥

-- each status that speaks of a file has its cause
abbrev pub HasCause : ℕ → ℕ → ℕ → ℕ → Answer → Type 0
HasCause misses_before misses_after fulls_before fulls_after answer =
    (answer.status ≡ Absent → Rose misses_before misses_after) × (answer.status ≡ TooLong → Rose fulls_before fulls_after)

-- all of a text that is due with this status was written
abbrev pub WritesDue : List (List ℕ) → Option Files → ℕ → Option (List ℕ) → Option (List ℕ) → Type 0
WritesDue words held status before after = (text : List ℕ) × Due words held status text × (after ≡ appended before text)

-- a first part of a text that is due, or of the line of a fault, and nothing after it
abbrev pub WritesPart : List (List ℕ) → Option Files → Option (List ℕ) → Option (List ℕ) → Type 0
WritesPart words held before after = (text : List ℕ) × (n : ℕ) × (after ≡ appended before (take n text))
    × ((text ≡ fault_line) ⊎ (Knows words held → (status : ℕ) × Due words held status text))
