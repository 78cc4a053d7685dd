-- What a line of a session is answered over a trace.
use Rattle.std.specs.Prelude.{◌≢◌, ℕ, false, List, [], ◌∷◌, codes, Option, Some}
use Rattle.std.specs.Prelude.{None as Absent}
use Rattle.std.specs.List.{flat_map}
use Rattle.wy_kernel.specs.Program.{Program}
use Rattle.wy_event.specs.declared.record.Cover.{Cover}
use Rattle.wy_event.specs.Record.{Recorded}
use Rattle.wy_why.specs.declared.source.Source.{Source}
use Rattle.wy_why.specs.Sources.{source_of}
use Rattle.wy_text.specs.EndLines.{line_of}
use Rattle.wy_text.specs.EventLines.{event_line}
use Rattle.wy_text.specs.Sources.{source_line}
use Rattle.wy_telling.specs.Why.{why_text}
use Rattle.wy_telling.specs.Items.{items_text}
use Rattle.wy_explore.specs.Session.{Session, Reply, At, Answer, From, Items, Backtrace, Shown, NoSuch, NothingToUndo, End, Replies}
use Rattle.wy_session.specs.Frames.{backtrace_text, shown_line}

-- a trace of a program: the lines of the program's tokens, the records, and the covers of statements
pub record Scene : Type 0 where
  pub program : Program
  pub lines : List ℕ
  pub records : List Recorded
  pub covers : List Cover

-- ---- replies

unfoldable pub none_line : List ℕ
none_line = line_of (codes "none")

-- a line a source
abbrev pub lines_of : Program → List ℕ → List Recorded → List Source → List ℕ
lines_of p lines rs sources = flat_map (λ s. source_line p lines rs (source_of s)) sources

unfoldable pub sources_text : Program → List ℕ → List Recorded → List Source → List ℕ
sources_text p lines rs [] = none_line
sources_text p lines rs (s ∷ sources) = lines_of p lines rs (s ∷ sources)

-- the lines of a reply; the end of a session has none
unfoldable pub reply_text : Scene → Reply → List ℕ
reply_text x (At Absent) = none_line
reply_text x (At (Some event)) = event_line x.program x.lines x.records event false
reply_text x (Answer event) = why_text x.program x.lines x.records event
reply_text x (From sources) = sources_text x.program x.lines x.records sources
reply_text x (Items items) = items_text x.program x.lines items
reply_text x (Backtrace frames) = backtrace_text x.program x.records frames
reply_text x (Shown value) = shown_line x.program x.records value
reply_text x NoSuch = line_of (codes "no such")
reply_text x NothingToUndo = line_of (codes "nothing to undo")
reply_text x End = []

-- what is answered to a line, and the session then; nothing where the line ends the session
pub data Said (x : Scene) (s : Session) (line : List ℕ) : Session → Option (List ℕ) → Type 0 where
  replied : (t : Session) (r : Reply) → Replies x.program x.lines x.records x.covers s line t r
      → r ≢ End → Said x s line t (Some (reply_text x r))
  over : (t : Session) → Replies x.program x.lines x.records x.covers s line t End
      → Said x s line t Absent
