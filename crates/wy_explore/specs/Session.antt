-- A session of questions to one trace: what a line says, what it changes, and what it is answered.
use Rattle.std.specs.Prelude.{◌≡◌, ◌<◌, ◌≤◌, ◌↔◌, ℕ, List, [], ◌∷◌, ◌++◌, length, map, take, codes, Option, Some}
use Rattle.std.specs.Prelude.{None as Absent}
use Rattle.std.specs.List.{Contains}
use Rattle.std.specs.List.Sorted.{IsStrictlySortedBy}
use Rattle.wy_kernel.specs.Program.{Program}
use Rattle.wy_kernel.specs.Statements.{statements_of}
use Rattle.wy_value.specs.declared.value.Value.{Value}
use Rattle.wy_event.specs.declared.record.Cover.{Cover}
use Rattle.wy_event.specs.Record.{Recorded}
use Rattle.wy_event.specs.Sources as records
use Rattle.wy_travel.specs.Backtrace.{StackFrame, backtrace}
use Rattle.wy_watch.specs.Watch.{IsValueOf}
use Rattle.wy_watch.specs.Watched.{watch_limit}
use Rattle.wy_why.specs.Answer.{up_to}
use Rattle.wy_why.specs.declared.source.Source.{Source}
use Rattle.wy_why.specs.Sources.{source_cmp, source_of}
use Rattle.wy_ask.specs.Asked.{event_of, owners}
use Rattle.wy_ask.specs.Lines.{numbers_on}
use Rattle.wy_ask.specs.Questions.{Asked, IsNumber, Spells}
use Rattle.wy_ask.specs.Statements.{IsPlaced, SpellsStatement}
use Rattle.wy_whynot.specs.Evidence.{Evidence}
use Rattle.wy_whynot.specs.Executed.{cover_of}
use Rattle.wy_whynot.specs.Items.{AreItems}

-- the event that was asked about last, and the event that is looked at
pub record Position : Type 0 where
  pub asked : Option ℕ
  pub cursor : Option ℕ

-- where a session stands, and where it stood before each change that can be undone, the last one first
pub record Session : Type 0 where
  pub at : Position
  pub past : List Position

-- so many changes can be undone
abbrev pub most_changes : ℕ
most_changes = 64

-- nothing was asked, and nothing is looked at
abbrev pub begun : Session
begun = record { at = record { asked = Absent; cursor = Absent }; past = [] }

-- a session that is changed to stand there
abbrev pub changed : Session → Position → Session
changed s position = record { at = position; past = take most_changes (s.at ∷ s.past) }

-- an event is asked about, and looked at
abbrev pub asking : Session → ℕ → Session
asking s event = changed s (record { asked = Some event; cursor = Some event })

-- an event is looked at, and the question stays
abbrev pub looking_at : Session → ℕ → Session
looking_at s event = changed s (record { asked = s.at.asked; cursor = Some event })

-- ---- lines

pub data Command : Type 0 where
  Ask : (question : Asked) → Command
  Listing : Command
  Up : Command
  Down : Command
  Go : (event : ℕ) → Command
  Sources : Command
  WhyNot : (line place : ℕ) → Command
  Frames : Command
  Show : (text : List ℕ) → Command
  Undo : Command
  Quit : Command

-- the line of each command, without its end
pub data Says : List ℕ → Command → Type 0 where
  ask : (q : Asked) (word : List ℕ) → Spells q word → Says (codes "ask " ++ word) (Ask q)
  listing : Says (codes "list") Listing
  up : Says (codes "up") Up
  down : Says (codes "down") Down
  go : (n : ℕ) (word : List ℕ) → IsNumber n word → Says (codes "go " ++ word) (Go n)
  sources : Says (codes "sources") Sources
  whynot : (line place : ℕ) (word : List ℕ) → SpellsStatement line place word
      → Says (codes "whynot " ++ word) (WhyNot line place)
  frames : Says (codes "frames") Frames
  show : (text : List ℕ) → length text ≤ watch_limit → Says (codes "show " ++ text) (Show text)
  undo : Says (codes "undo") Undo
  quit : Says (codes "quit") Quit

-- ---- what is answered

pub data Reply : Type 0 where
  -- the event that is looked at now, or none
  At : (event : Option ℕ) → Reply
  -- all that an event comes from
  Answer : (event : ℕ) → Reply
  -- what an event comes from directly
  From : (sources : List Source) → Reply
  -- what kept a statement from running
  Items : (items : List Evidence) → Reply
  -- the frames just before the event that is looked at, with what their locals held
  Backtrace : (frames : List StackFrame) → Reply
  -- what a text was worth then
  Shown : (value : Value) → Reply
  NoSuch : Reply
  NothingToUndo : Reply
  End : Reply

-- all that an event comes from, rising
abbrev pub answer_to : Program → List Recorded → ℕ → List ℕ
answer_to p rs event = up_to event (records.closure (owners p) rs event)

pub record IsGreatestBelow (events : List ℕ) (n m : ℕ) : Type 0 where
  pub there : Contains events m
  pub below : m < n
  pub greatest : (k : ℕ) → Contains events k → k < n → k ≤ m

pub record IsLeastAbove (events : List ℕ) (n m : ℕ) : Type 0 where
  pub there : Contains events m
  pub above : n < m
  pub least : (k : ℕ) → Contains events k → n < k → m ≤ k

-- what an event comes from directly, by event and then by role, each once
pub record AreSources (p : Program) (rs : List Recorded) (event : ℕ) (found : List Source)
    : Type 0 where
  pub exact : (s : records.Source) → Contains (map source_of found) s
      ↔ Contains (records.sources (owners p) rs event) s
  pub in_order : IsStrictlySortedBy source_cmp found

-- what a command does over a trace of a program, whose tokens are on these lines: the session then,
-- and the reply
pub data Does (p : Program) (lines : List ℕ) (rs : List Recorded) (covers : List Cover)
    (s : Session) : Command → Session → Reply → Type 0 where
  ask : (q : Asked) (e : ℕ) → event_of p rs q ≡ Some e
      → Does p lines rs covers s (Ask q) (asking s e) (At (Some e))
  listing : (e : ℕ) → s.at.asked ≡ Some e → Does p lines rs covers s Listing s (Answer e)
  up : (e n m : ℕ) → s.at.asked ≡ Some e → s.at.cursor ≡ Some n
      → IsGreatestBelow (answer_to p rs e) n m
      → Does p lines rs covers s Up (looking_at s m) (At (Some m))
  down : (e n m : ℕ) → s.at.asked ≡ Some e → s.at.cursor ≡ Some n
      → IsLeastAbove (answer_to p rs e) n m
      → Does p lines rs covers s Down (looking_at s m) (At (Some m))
  go : (n : ℕ) → n < length rs → Does p lines rs covers s (Go n) (looking_at s n) (At (Some n))
  sources : (n : ℕ) (found : List Source) → s.at.cursor ≡ Some n → AreSources p rs n found
      → Does p lines rs covers s Sources s (From found)
  whynot : (line place n : ℕ) (items : List Evidence)
      → IsPlaced (numbers_on lines line (statements_of p)) place n
      → (cover_of covers n).begins ≡ 0 → AreItems p rs covers n items
      → Does p lines rs covers s (WhyNot line place) s (Items items)
  frames : (n : ℕ) → s.at.cursor ≡ Some n
      → Does p lines rs covers s Frames s (Backtrace (backtrace p rs n))
  show : (n : ℕ) (text : List ℕ) (v : Value) → s.at.cursor ≡ Some n → IsValueOf p rs n text v
      → Does p lines rs covers s (Show text) s (Shown v)
  undo : (position : Position) (past : List Position) → s.past ≡ position ∷ past
      → Does p lines rs covers s Undo (record { at = position; past = past }) (At position.cursor)
  nothing : s.past ≡ [] → Does p lines rs covers s Undo s NothingToUndo
  quit : Does p lines rs covers s Quit s End

-- one of some commands can be done, and it is done
pub record Serves (p : Program) (lines : List ℕ) (rs : List Recorded) (covers : List Cover)
    (s : Session) (IsMeant : Command → Type 0) (t : Session) (r : Reply) : Type 0 where
  pub command : Command
  pub meant : IsMeant command
  pub does : Does p lines rs covers s command t r

-- the session and the reply after one of some commands; there is no such thing, and nothing changes,
-- where none of them can be done
pub data RepliesTo (p : Program) (lines : List ℕ) (rs : List Recorded) (covers : List Cover)
    (s : Session) (IsMeant : Command → Type 0) : Session → Reply → Type 0 where
  served : (t : Session) (r : Reply) → Serves p lines rs covers s IsMeant t r
      → RepliesTo p lines rs covers s IsMeant t r
  no_such : ((t : Session) (r : Reply) → ¬ Serves p lines rs covers s IsMeant t r)
      → RepliesTo p lines rs covers s IsMeant s NoSuch

-- the session and the reply after a line, which may say no command
abbrev pub Replies : Program → List ℕ → List Recorded → List Cover
    → Session → List ℕ → Session → Reply → Type 0
Replies p lines rs covers s line = RepliesTo p lines rs covers s (Says line)

-- a line has one reply, and leaves one session
abbrev pub OneReply : Type 0
OneReply = (p : Program) (lines : List ℕ) (rs : List Recorded) (covers : List Cover)
    (s : Session) (line : List ℕ) (t u : Session) (r q : Reply)
    → Replies p lines rs covers s line t r → Replies p lines rs covers s line u q
    → (t ≡ u) × (r ≡ q)
