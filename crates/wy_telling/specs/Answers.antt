-- The answer to a question about a trace: what is told of the event that it asks about, or why there is none.
use Rattle.std.specs.Prelude.{◌≡◌, ℕ, List, Some, Result, Ok, Err, Vec}
use Rattle.std.specs.Prelude.{None as Absent}
use Rattle.std.specs.List.{flat_map}
use Rattle.std.specs.declared.alloc.Global.{Global}
use Rattle.wy_kernel.specs.Program.{Program}
use Rattle.wy_event.specs.Numbers.{Numbers}
use Rattle.wy_event.specs.Record.{Recorded}
use Rattle.wy_text.specs.EventLines.{event_line}
use Rattle.wy_ask.specs.Asked.{event_of, number_in}
use Rattle.wy_ask.specs.Questions.{Asked, Asks, Spells}
use Rattle.wy_telling.specs.declared.untold.Untold.{Untold}
use Rattle.wy_telling.specs.declared.untold.Untold.TheVariants as untold

-- the lines of events, with a star on those of a set
abbrev pub marked_lines : Program → List ℕ → List Recorded → Numbers → List ℕ → List ℕ
marked_lines p lines rs by_data events = flat_map (λ n. event_line p lines rs n (by_data n)) events

-- what is told of an event of a trace of a program, by the lines of the program's tokens
abbrev pub Telling : Type 0
Telling = Program → List ℕ → List Recorded → ℕ → List ℕ

-- why a question has no answer: it is none, or what it asks about is not there
pub data Refused : Type 0 where
  NotRead : Refused
  NoSuch : (number : ℕ) → Refused

-- the answer to a text that is put to a trace of a program
pub data AnswerIs (telling : Telling) (p : Program) (lines : List ℕ) (rs : List Recorded) (question : List ℕ) : Result (List ℕ) Refused → Type 0 where
  answered : (q : Asked) (event : ℕ) → Asks question q → event_of p rs q ≡ Some event
      → AnswerIs telling p lines rs question (Ok (telling p lines rs event))
  not_there : (q : Asked) → Asks question q → event_of p rs q ≡ Absent
      → AnswerIs telling p lines rs question (Err (NoSuch (number_in q)))
  not_read : ((q : Asked) → ¬ Spells q question) → AnswerIs telling p lines rs question (Err NotRead)

-- a question has one answer, whatever is told of events
abbrev pub OneAnswerToQuestions : Type 0
OneAnswerToQuestions = (telling : Telling) (p : Program) (lines : List ℕ) (rs : List Recorded) (question : List ℕ)
    (a b : Result (List ℕ) Refused)
    → AnswerIs telling p lines rs question a → AnswerIs telling p lines rs question b → a ≡ b

-- this text or this refusal is the answer; a view can refuse, and memory run out, at any question
abbrev pub TellsAnswer : Telling → Program → List ℕ → List Recorded → List ℕ → Result (Vec ℕ Global) Untold → Type 0
TellsAnswer telling p lines rs question (Ok text) = AnswerIs telling p lines rs question (Ok text.items)
TellsAnswer telling p lines rs question (Err untold.BadQuestion) = AnswerIs telling p lines rs question (Err NotRead)
TellsAnswer telling p lines rs question (Err (untold.NoSuch n)) = AnswerIs telling p lines rs question (Err (NoSuch n))
TellsAnswer telling p lines rs question (Err (untold.View error)) = Unit {0}
