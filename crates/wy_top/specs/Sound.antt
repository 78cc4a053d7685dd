-- When all that a command needs is there, and how it ends then.
use Rattle.std.specs.Prelude.{◌≡◌, ◌≤◌, ◌⊎◌, ℕ, true, List, ◌++◌, length, map, Option, Some}
use Rattle.wy_kernel.specs.declared.program.Program.{Program}
use Rattle.wy_kernel.specs.Parts.{program_of}
use Rattle.wy_kernel.specs.Limits.{source_limit}
use Rattle.wy_event.specs.Record.{Recorded, recorded}
use Rattle.wy_event.specs.declared.record.Cover.{Cover}
use Rattle.wy_event.specs.declared.record.Trace.{Trace}
use Rattle.wy_outside.specs.Shelf.{Files}
use Rattle.wy_ask.specs.Asked.{event_of}
use Rattle.wy_ask.specs.Questions.{Asked as Question, Asks as AsksEvent}
use Rattle.wy_whynot.specs.Executed.{cover_of}
use Rattle.wy_scope.specs.Items.{IsMissed}
use Rattle.wy_scope.specs.Laws.{is_call_at}
use Rattle.wy_telling.specs.Whynot.{NamesStatement}
use Rattle.wy_session.specs.Talk.{FirstLine, most_in_all, most_in_line}
use Rattle.wy_words.specs.Words.{Asked, Asks, Command, Run, Record, Output, Questions, Why, Affects, Certify, Check, Scope, WhyNot, Audit, Explore, Migrate, Gen}
use Rattle.wy_gen.specs.Generated.{source as generated_source}
use Rattle.wy_program.specs.Programs.{IsProgramOf}
use Rattle.wy_reply.specs.Tellings.{Bytes, Lacking, Wanted, covers_of}
use Rattle.wy_reply.specs.Tellings as wanted
use Rattle.wy_top.specs.Call.{IsOpened}
use Rattle.wy_top.specs.Due.{Due}
use Rattle.wy_top.specs.Held.{Holds, IsInput, certificate_limit}

-- the files of a run are there and within their limits, and its source is a program
pub record RunIsThere (files : Files) (a : Asked) : Type 0 where
  pub source : List ℕ
  pub holds : Holds files a.source source_limit source
  pub input : List ℕ
  pub is_input : IsInput files a.input input
  pub program : Program
  pub is_program : IsProgramOf source program

-- a question asks about an event that is there
pub record NamesEvent (p : Program) (rs : List Recorded) (text : List ℕ) : Type 0 where
  pub question : Question
  pub event : ℕ
  pub asks : AsksEvent text question
  pub there : event_of (program_of p) rs question ≡ Some event

-- a word names a statement, and none that it names ever began
pub record NamesUnbegun (p : Program) (covers : List Cover) (word : List ℕ) : Type 0 where
  pub line : ℕ
  pub place : ℕ
  pub number : ℕ
  pub names : NamesStatement (program_of p) p.lines.items word line place number
  pub never : (l k n : ℕ) → NamesStatement (program_of p) p.lines.items word l k n → (cover_of covers n).begins ≡ 0

-- a word names a statement, and an event is a Call, in which the region of no statement that the word
-- names is passed
pub record NamesMissed (p : Program) (rs : List Recorded) (word : List ℕ) (call : ℕ) : Type 0 where
  pub line : ℕ
  pub place : ℕ
  pub number : ℕ
  pub names : NamesStatement (program_of p) p.lines.items word line place number
  pub calls : is_call_at rs call ≡ true
  pub missed : (l k n : ℕ) → NamesStatement (program_of p) p.lines.items word l k n
      → IsMissed (program_of p) rs call n

-- each line of an input is within its limit, and so are all of them
pub record KeepsLimits (input : List ℕ) : Type 0 where
  pub lines : (before rest bytes line behind : List ℕ) → input ≡ before ++ rest → FirstLine rest bytes line behind → length bytes ≤ most_in_line
  pub all : length input ≤ most_in_all

-- what is wanted of a trace names something in it
abbrev pub IsThere : Program → Trace → Wanted → Type 0
IsThere p t (wanted.Why question) = NamesEvent p (map recorded t.events) question
IsThere p t (wanted.Affects question) = NamesEvent p (map recorded t.events) question
IsThere p t (wanted.Certify question) = NamesEvent p (map recorded t.events) question
IsThere p t (wanted.WhyNot word) = NamesUnbegun p (covers_of t) word
IsThere p t (wanted.Scope word call) = NamesMissed p (map recorded t.events) word call
IsThere p t (wanted.Explore input) = KeepsLimits input
IsThere p t (wanted.Check (Lacking status text)) = ⊥
IsThere p t _ = Unit {0}

-- the file of a name is a sealed trace of a program, and what is wanted of it names something
pub record TraceIsThere (files : Files) (name : List ℕ) (w : Wanted) : Type 0 where
  pub program : Program
  pub trace : Trace
  pub opened : IsOpened files name program trace
  pub names : IsThere program trace w

-- all that a command needs is there
abbrev pub IsSound : Files → Option (List ℕ) → Command → Type 0
IsSound files keys (Run a) = RunIsThere files a
IsSound files keys (Record a trace) = RunIsThere files a
IsSound files keys (Output trace) = TraceIsThere files trace wanted.Output
IsSound files keys (Questions trace) = TraceIsThere files trace wanted.Questions
IsSound files keys (Why trace question) = TraceIsThere files trace (wanted.Why question)
IsSound files keys (Affects trace question) = TraceIsThere files trace (wanted.Affects question)
IsSound files keys (Certify trace question) = TraceIsThere files trace (wanted.Certify question)
IsSound files keys (WhyNot trace word) = TraceIsThere files trace (wanted.WhyNot word)
IsSound files keys (Scope trace word call) = TraceIsThere files trace (wanted.Scope word call)
IsSound files keys (Audit trace) = TraceIsThere files trace wanted.Audit
IsSound files keys (Migrate trace name) = TraceIsThere files trace wanted.Migrate
IsSound files keys (Check trace name) =
    (certificate : List ℕ) × Holds files name certificate_limit certificate × TraceIsThere files trace (wanted.Check (Bytes certificate))
IsSound files keys (Explore trace) = (input : List ℕ) × (keys ≡ Some input) × TraceIsThere files trace (wanted.Explore input)
IsSound files keys (Gen n) = (p : Program) × IsProgramOf (generated_source n) p

-- it did what it says; an audit and a check have a second answer
abbrev pub EndsWell : Command → ℕ → Type 0
EndsWell (Audit trace) status = (status ≡ 0) ⊎ (status ≡ 10)
EndsWell (Check trace name) status = (status ≡ 0) ⊎ (status ≡ 11)
EndsWell _ status = status ≡ 0

-- where all that a command needs is there, nothing else is due
abbrev pub SoundCallsSucceed : Type 0
SoundCallsSucceed =
    (words : List (List ℕ)) (files : Files) (keys : Option (List ℕ)) (c : Command) (status : ℕ) (text : List ℕ)
    → Asks words c → IsSound files keys c → Due words (Some files) keys status text → EndsWell c status
