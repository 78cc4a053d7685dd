-- An answer as a status and a text.
use Rattle.std.specs.Prelude.{◌≡◌, ◌≤◌, ℕ, List, ◌⊎◌, Option, Some, None}
use Rattle.wy_outside.specs.Counts.{Rose}
use Rattle.wy_outside.specs.Shelf.{Files}
use Rattle.wy_words.specs.Words.{Asks, Command, Explore, Gen, IsNoCommand, Migrate}
use Rattle.wy_reply.specs.declared.answer.Answer.{Answer}
use Rattle.wy_reply.specs.declared.status.Status.TheVariants.{Fault}
use Rattle.wy_reply.specs.Statuses.{code_of}
use Rattle.wy_reply.specs.Lines.{shelf_fault_line, recorder_fault_line}
use Rattle.wy_top.specs.Due.{Due}

-- the words ask to explore a trace
abbrev pub AsksToExplore : List (List ℕ) → Type 0
AsksToExplore words = (trace : List ℕ) × Asks words (Explore trace)

-- the words ask to migrate a trace
abbrev pub AsksToMigrate : List (List ℕ) → Type 0
AsksToMigrate words = (trace : List ℕ) × (name : List ℕ) × Asks words (Migrate trace name)

-- what the words ask, and nothing where they are no command
abbrev pub IsAsked : List (List ℕ) → Option Command → Type 0
IsAsked words (Some c) = Asks words c
IsAsked words None = IsNoCommand words

-- a program that is to be generated has at most 2,000 methods
abbrev pub HasFewMethods : Option Command → Type 0
HasFewMethods asked = (n : ℕ) → asked ≡ Some (Gen n) → (1 ≤ n) × (n ≤ 2000)

-- the words ask for no file, or the shelf tells its files, and the keys what is left of them where these are read
abbrev pub Knows : List (List ℕ) → Option Files → Option (List ℕ) → Type 0
Knows words held keys = IsNoCommand words ⊎ ((n : ℕ) × Asks words (Gen n))
    ⊎ ((files : Files) × (held ≡ Some files) × (AsksToExplore words → (input : List ℕ) × (keys ≡ Some input)))

-- counts of faults, of a shelf and of a recorder
pub record Counts : Type 0 where
  pub shelf : ℕ
  pub recorder : ℕ

abbrev pub counts : ℕ → ℕ → Counts
counts shelf recorder = record { shelf = shelf; recorder = recorder }

-- the line of a fault of one of the two, whose count rose
abbrev pub IsFaultLine : Counts → Counts → List ℕ → Type 0
IsFaultLine before after line = ((line ≡ shelf_fault_line) × Rose before.shelf after.shelf) ⊎ ((line ≡ recorder_fault_line) × Rose before.recorder after.recorder)

-- one of the two failed, and the answer names it
abbrev pub IsFault : Counts → Counts → Answer → Type 0
IsFault before after answer = (answer.status ≡ Fault) × IsFaultLine before after answer.text.items

-- an answer to the words: that one failed, or, where none did, what is due
abbrev pub IsAnswer : List (List ℕ) → Option Files → Option (List ℕ) → Counts → Counts → Answer → Type 0
IsAnswer words held keys before after answer =
    IsFault before after answer
    ⊎ ((after ≡ before) × (Knows words held keys → Due words held keys (code_of answer.status) answer.text.items))
