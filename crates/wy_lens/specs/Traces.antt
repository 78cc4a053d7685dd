-- What is due for the bytes of a trace: why they can't be opened, or what is told of them.
use Rattle.std.specs.Prelude.{◌≡◌, ℕ, List, [], ◌∷◌, length, map, Option, Some, None, Result, Ok, Err}
use Rattle.wy_kernel.specs.Parts.{program_of}
use Rattle.wy_kernel.specs.declared.program.Program.{Program}
use Rattle.wy_event.specs.Record.{Recorded, recorded}
use Rattle.wy_ask.specs.Words.{number_of}
use Rattle.wy_ask.specs.declared.question.AskError.{AskError}
use Rattle.wy_ask.specs.declared.question.AskError.TheVariants.{BadQuestion, NoSuch, NoMemory}
use Rattle.wy_fold.specs.Asked.{FindsAsked}
use Rattle.wy_fold.specs.Shown.{all_events_text, events_on, line_events_text, show_text, slice_text}
use Rattle.wy_fold.specs.Stops.{StopsAt}
use Rattle.wy_fold.specs.declared.fold.Showing.{Showing}
use Rattle.wy_report.specs.Page.{IsReport}
use Rattle.wy_reply.specs.Lines.{not_read_line, no_such_line, of_trace}
use Rattle.wy_reply.specs.Sources.{source_refusal_text}
use Rattle.wy_reply.specs.Tellings.{IsTraceLine}
use Rattle.wy_program.specs.Openings.{IsUnopenedFor, Opens}
use Rattle.wy_program.specs.declared.opening.OpenTrace.{OpenTrace}
use Rattle.wy_program.specs.declared.opening.OpeningError.{OpeningError}
use Rattle.wy_program.specs.declared.opening.OpeningError.TheVariants as opening
use Rattle.wy_program.specs.declared.source.SourceError.TheVariants as source
use Rattle.wy_lens.specs.Words.{Telling, Show, Slice, Report, Events}

-- ---- what is told of an event

-- the status and the text of an answer
abbrev pub Told : Type 1
Told = ℕ → List ℕ → Type 0

abbrev pub Says : ℕ → List ℕ → Told
Says s t status text = (status ≡ s) × (text ≡ t)

-- what is told of the event that was found, or why none was
abbrev pub OfEvent : (ℕ → List ℕ) → Result ℕ AskError → Told
OfEvent tell (Ok event) = Says 0 (tell event)
OfEvent tell (Err BadQuestion) = Says 6 not_read_line
OfEvent tell (Err (NoSuch n)) = Says 6 (no_such_line n)
OfEvent tell (Err NoMemory) = λ status text. ⊥

-- what is told of the event that a question asks about
abbrev pub OfQuestion : Program → List Recorded → List ℕ → (ℕ → List ℕ) → Told
OfQuestion p rs question tell status text = (found : Result ℕ AskError) × FindsAsked (program_of p) rs question found × OfEvent tell found status text

-- the same of the event at which the run stopped; a run without events has none
abbrev pub AtStop : (ℕ → List ℕ) → Option ℕ → Told
AtStop tell (Some event) = Says 0 (tell event)
AtStop tell None = Says 6 (no_such_line 0)

abbrev pub OfStop : ℕ → ℕ → (ℕ → List ℕ) → Told
OfStop last count tell status text = (found : Option ℕ) × StopsAt last count found × AtStop tell found status text

-- ---- a page

-- the page of the event that was found, or why none was
abbrev pub Reports : Program → List Recorded → List ℕ → Result ℕ AskError → Told
Reports p rs source (Ok event) status text = (status ≡ 0) × IsReport (program_of p) p.lines.items source rs event text
Reports p rs source (Err e) status text = OfEvent (λ event. []) (Err e) status text

abbrev pub OfReport : Program → List Recorded → List ℕ → List ℕ → Told
OfReport p rs source question status text =
    (found : Result ℕ AskError) × FindsAsked (program_of p) rs question found × Reports p rs source found status text

-- ---- all events

-- the lines of these events, where there are some on the line
abbrev pub OnLine : List ℕ → ℕ → List ℕ → Told
OnLine [] line told = Says 6 (no_such_line line)
OnLine (n ∷ events) line told = Says 0 told

abbrev pub OfLine : Program → List Recorded → Option ℕ → Told
OfLine p rs None = Says 6 not_read_line
OfLine p rs (Some line) = OnLine (events_on p.lines.items rs line) line (line_events_text (program_of p) p.lines.items rs line)

-- ---- a trace

-- what is shown of an event, and of the source by it
abbrev pub shown_of : Program → List Recorded → List ℕ → Showing → ℕ → List ℕ
shown_of p rs source showing event = show_text (program_of p) p.lines.items source rs event showing

abbrev pub sliced_by : Program → List Recorded → List ℕ → ℕ → List ℕ
sliced_by p rs source event = slice_text (program_of p) p.lines.items source rs event

-- what is told of the records of a run that ended with this Throw, if with one, and whose source has these bytes
abbrev pub Tells : Program → List Recorded → ℕ → List ℕ → Telling → Told
Tells p rs last source (Show (Some question) showing) = OfQuestion p rs question (shown_of p rs source showing)
Tells p rs last source (Show None showing) = OfStop last (length rs) (shown_of p rs source showing)
Tells p rs last source (Slice question) = OfQuestion p rs question (sliced_by p rs source)
Tells p rs last source (Report question) = OfReport p rs source question
Tells p rs last source (Events None) = Says 0 (all_events_text (program_of p) p.lines.items rs)
Tells p rs last source (Events (Some word)) = OfLine p rs (number_of word)

-- ---- its bytes

-- the line of why they can't be opened, as whyline has it
abbrev pub IsUnopenedLine : OpeningError → List ℕ → Type 0
IsUnopenedLine (opening.Trace e) line = IsTraceLine e line
IsUnopenedLine (opening.Source (source.Refused refusal)) line = line ≡ of_trace (source_refusal_text refusal)
IsUnopenedLine (opening.Source source.NoMemory) line = ⊥

pub data DueForBytes (bytes : List ℕ) (telling : Telling) : ℕ → List ℕ → Type 0 where
  unopened : (e : OpeningError) (line : List ℕ) → IsUnopenedFor bytes e → IsUnopenedLine e line → DueForBytes bytes telling 5 line
  opened : (o : OpenTrace) (status : ℕ) (text : List ℕ) → Opens bytes o
      → Tells o.typed.program (map recorded o.trace.events) o.trace.tail.last o.trace.head.source telling status text
      → DueForBytes bytes telling status text
