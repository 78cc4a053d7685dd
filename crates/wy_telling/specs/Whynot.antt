-- The answer to why a statement never began.
use Rattle.std.specs.Prelude.{◌≡◌, ◌<◌, ℕ, List, length, Result, Ok, Err, Vec}
use Rattle.std.specs.declared.alloc.Global.{Global}
use Rattle.wy_kernel.specs.Program.{Program}
use Rattle.wy_kernel.specs.Statements.{statements_of}
use Rattle.wy_event.specs.declared.record.Cover.{Cover}
use Rattle.wy_event.specs.Record.{Recorded}
use Rattle.wy_ask.specs.declared.naming.NamedStatement.{NamedStatement}
use Rattle.wy_ask.specs.Lines.{numbers_on}
use Rattle.wy_ask.specs.Statements.{IsPlaced, Names, SpellsStatement}
use Rattle.wy_whynot.specs.Evidence.{Evidence}
use Rattle.wy_whynot.specs.Executed.{cover_of}
use Rattle.wy_whynot.specs.Items.{AreItems, HasRun}
use Rattle.wy_telling.specs.declared.whynot.Unanswered.{Unanswered}
use Rattle.wy_telling.specs.declared.whynot.Unanswered.TheVariants as unanswered
use Rattle.wy_telling.specs.Items.{items_text}

-- why there is no answer: the word names no statement, or one that ran
pub data Denied : Type 0 where
  NotRead : Denied
  NoSuch : (line : ℕ) → Denied
  Ran : (line place count first : ℕ) → Denied

-- a word names the statement of this number, by its line and its place among the askable ones of the line
pub record NamesStatement (p : Program) (lines word : List ℕ) (line place n : ℕ) : Type 0 where
  pub names : Names word line place
  pub placed : IsPlaced (numbers_on lines line (statements_of p)) place n

-- the answer to a word that is put to a trace of a program
pub data WhynotIs (p : Program) (lines : List ℕ) (rs : List Recorded) (covers : List Cover)
    (word : List ℕ) : Result (List ℕ) Denied → Type 0 where
  answered : (line place n : ℕ) (items : List Evidence) → NamesStatement p lines word line place n
      → (cover_of covers n).begins ≡ 0 → AreItems p rs covers n items
      → WhynotIs p lines rs covers word (Ok (items_text p lines items))
  ran : (line place n count first : ℕ) → NamesStatement p lines word line place n
      → HasRun covers n count first
      → WhynotIs p lines rs covers word (Err (Ran line place count first))
  not_there : (line place : ℕ) → Names word line place
      → length (numbers_on lines line (statements_of p)) < place
      → WhynotIs p lines rs covers word (Err (NoSuch line))
  not_read : ((line place : ℕ) → ¬ SpellsStatement line place word)
      → WhynotIs p lines rs covers word (Err NotRead)

-- a word has one answer
abbrev pub OneAnswerToWhynot : Type 0
OneAnswerToWhynot = (p : Program) (lines : List ℕ) (rs : List Recorded) (covers : List Cover)
    (word : List ℕ) (a b : Result (List ℕ) Denied)
    → WhynotIs p lines rs covers word a → WhynotIs p lines rs covers word b → a ≡ b

-- this text or this refusal is the answer; memory can run out at any word
abbrev pub TellsWhynot : Program → List ℕ → List Recorded → List Cover → List ℕ
    → Result (Vec ℕ Global) Unanswered → Type 0
TellsWhynot p lines rs covers word (Ok text) = WhynotIs p lines rs covers word (Ok text.items)
TellsWhynot p lines rs covers word (Err unanswered.NotRead) =
    WhynotIs p lines rs covers word (Err NotRead)
TellsWhynot p lines rs covers word (Err (unanswered.NoSuch line)) =
    WhynotIs p lines rs covers word (Err (NoSuch line))
TellsWhynot p lines rs covers word (Err (unanswered.Ran line place count first)) =
    WhynotIs p lines rs covers word (Err (Ran line place count first))
TellsWhynot p lines rs covers word (Err unanswered.NoMemory) = Unit {0}

-- ---- the parts of the way

-- the lines of the items of a statement, or that it ran
abbrev pub TellsNamed : Program → List ℕ → List Recorded → List Cover → NamedStatement
    → Result (Vec ℕ Global) Unanswered → Type 0
TellsNamed p lines rs covers s (Ok text) =
    ((cover_of covers s.number).begins ≡ 0)
    × ((items : List Evidence) × AreItems p rs covers s.number items
    × (text.items ≡ items_text p lines items))
TellsNamed p lines rs covers s (Err unanswered.NotRead) = ⊥
TellsNamed p lines rs covers s (Err (unanswered.NoSuch line)) = ⊥
TellsNamed p lines rs covers s (Err (unanswered.Ran line place count first)) =
    (line ≡ s.line) × (place ≡ s.place) × HasRun covers s.number count first
TellsNamed p lines rs covers s (Err unanswered.NoMemory) = Unit {0}
