-- The command of a line, as the functions of this crate find it.
use Rattle.std.specs.Prelude.{◌≡◌, ◌≤◌, ℕ, List, length, Option, Some, codes, if◌then◌else◌}
use Rattle.std.specs.Prelude.{None as Absent}
use Rattle.std.specs.Str.{bytes_eq}
use Rattle.wy_event.specs.Record.{Recorded}
use Rattle.wy_kernel.specs.Program.{Program}
use Rattle.wy_ask.specs.Asked.{event_of}
use Rattle.wy_ask.specs.Questions as questions
use Rattle.wy_ask.specs.Questions.{IsNumber, Spells}
use Rattle.wy_ask.specs.Reading.{behind, by_front}
use Rattle.wy_ask.specs.Statements.{SpellsStatement}
use Rattle.wy_watch.specs.Watched.{watch_limit}
use Rattle.wy_explore.specs.Session as session
use Rattle.wy_explore.specs.declared.command.Command.{Command}
use Rattle.wy_explore.specs.declared.command.Command.TheVariants as command

-- a command whose words are still to be read
pub data Worded : Type 0 where
  Ask : (word : List ℕ) → Worded
  Listing : Worded
  Up : Worded
  Down : Worded
  Go : (word : List ℕ) → Worded
  Sources : Worded
  WhyNot : (word : List ℕ) → Worded
  Frames : Worded
  Show : (text : List ℕ) → Worded
  Undo : Worded
  Quit : Worded

abbrev pub worded : Command → Worded
worded (command.Ask word) = Ask word.now
worded command.Listing = Listing
worded command.Up = Up
worded command.Down = Down
worded (command.Go word) = Go word.now
worded command.Sources = Sources
worded (command.WhyNot word) = WhyNot word.now
worded command.Frames = Frames
worded (command.Show text) = Show text.now
worded command.Undo = Undo
worded command.Quit = Quit

-- the commands that it can be
abbrev pub IsMeant : Worded → session.Command → Type 0
IsMeant (Ask word) c = (q : questions.Asked) × Spells q word × (c ≡ session.Ask q)
IsMeant Listing c = c ≡ session.Listing
IsMeant Up c = c ≡ session.Up
IsMeant Down c = c ≡ session.Down
IsMeant (Go word) c = (n : ℕ) × IsNumber n word × (c ≡ session.Go n)
IsMeant Sources c = c ≡ session.Sources
IsMeant (WhyNot word) c =
    (line : ℕ) × (place : ℕ) × SpellsStatement line place word × (c ≡ session.WhyNot line place)
IsMeant Frames c = c ≡ session.Frames
IsMeant (Show text) c = (length text ≤ watch_limit) × (c ≡ session.Show text)
IsMeant Undo c = c ≡ session.Undo
IsMeant Quit c = c ≡ session.Quit

-- a command of one word
abbrev pub short_in : List ℕ → Option Worded
short_in text =
    if bytes_eq text (codes "list") then Some Listing
    else if bytes_eq text (codes "up") then Some Up
    else if bytes_eq text (codes "down") then Some Down
    else if bytes_eq text (codes "sources") then Some Sources
    else if bytes_eq text (codes "frames") then Some Frames
    else if bytes_eq text (codes "undo") then Some Undo
    else if bytes_eq text (codes "quit") then Some Quit
    else Absent

abbrev pub command_in : List ℕ → Option Worded
command_in text =
    by_front (behind (codes "ask ") text) (λ word. Some (Ask word))
    (by_front (behind (codes "go ") text) (λ word. Some (Go word))
    (by_front (behind (codes "whynot ") text) (λ word. Some (WhyNot word)) (short_in text)))

-- a command of a line, which is a text but for what is to be shown
abbrev pub said_in : List ℕ → Option Worded
said_in line = by_front (behind (codes "show ") line) (λ text. Some (Show text)) (command_in line)

-- no command is said, or one of this command's
abbrev pub Reads : List ℕ → Option Command → Type 0
Reads line Absent = (c : session.Command) → ¬ session.Says line c
Reads line (Some read) =
    (c : session.Command) → (session.Says line c → IsMeant (worded read) c)
    × (IsMeant (worded read) c → session.Says line c)

-- the event that a word asks about, in the records of a trace of a program
abbrev pub AsksAbout : Program → List Recorded → List ℕ → Option ℕ → Type 0
AsksAbout p rs word Absent =
    (q : questions.Asked) (event : ℕ) → Spells q word → event_of p rs q ≡ Some event → ⊥
AsksAbout p rs word (Some event) =
    (q : questions.Asked) × Spells q word × (event_of p rs q ≡ Some event)
