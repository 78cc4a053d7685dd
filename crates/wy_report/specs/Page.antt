-- The page of an answer, as the pieces of which it is made.
use Rattle.std.specs.Prelude.{◌≡◌, ◌<◌, ℕ, ◌+◌, ◌==◌, ◌||◌, nat_lt, Bool, true, false, if◌then◌else◌, List, [], ◌∷◌, ◌++◌, codes, length, map, Contains}
use Rattle.std.specs.List.{AllByRecursion, flat_map}
use Rattle.wy_kernel.specs.Program.{Program}
use Rattle.wy_event.specs.Numbers.{Numbers}
use Rattle.wy_event.specs.Record.{Recorded}
use Rattle.wy_event.specs.Sources.{Owners, closure, data_closure}
use Rattle.wy_ask.specs.Asked.{owners}
use Rattle.wy_cert.specs.Goodness.{AreSources}
use Rattle.wy_text.specs.EndLines.{line_of}
use Rattle.wy_text.specs.EventLines.{event_line}
use Rattle.wy_why.specs.Answer.{up_to}
use Rattle.wy_why.specs.declared.source.Role.{Role}
use Rattle.wy_why.specs.declared.source.Role.TheVariants as role
use Rattle.wy_why.specs.declared.source.Source.{Source}
use Rattle.wy_fold.specs.Places.{Places, line_at, stands_on}
use Rattle.wy_fold.specs.Rows.{without_end}
use Rattle.wy_fold.specs.SourceLines.{source_lines}
use Rattle.wy_report.specs.declared.line.Mark.{Mark}
use Rattle.wy_report.specs.declared.line.Mark.TheVariants.{Nothing, Other, Data}
use Rattle.wy_report.specs.declared.piece.Target.TheVariants.{Line, Event}
use Rattle.wy_report.specs.Pieces.{Piece, Markup, Number, Shown, Anchor, Link, written}
use Rattle.wy_report.specs.Template.{opening, styles, middle, between, closing}

-- ---- marks

abbrev pub mark_of : Bool → Bool → Mark
mark_of in_all true = Data
mark_of true false = Other
mark_of false false = Nothing

abbrev pub class_text : Mark → List ℕ
class_text Nothing = codes "><td>"
class_text Other = codes " class='other'><td>"
class_text Data = codes " class='data'><td>"

abbrev pub star_text : Mark → List ℕ
star_text Nothing = codes "</td><td></td><td>"
star_text Other = codes "</td><td>-</td><td>"
star_text Data = codes "</td><td>*</td><td>"

abbrev pub row_end : List ℕ
row_end = line_of (codes "</td></tr>")

-- ---- the source

-- the row of a line, which is a place of the page
unfoldable pub line_row : Mark → ℕ → List ℕ → List Piece
line_row mark k text =
    Markup (codes "<tr") ∷ Anchor (Line k) ∷ Markup (class_text mark) ∷ Number k ∷ Markup (star_text mark) ∷ Shown text ∷ Markup row_end ∷ []

-- the lines from number k on, those marked on which some of the answer stands
abbrev pub line_rows : Places → List ℕ → List ℕ → ℕ → List (List ℕ) → List Piece
line_rows at all flow k [] = []
line_rows at all flow k (text ∷ lines) = line_row (mark_of (stands_on at k all) (stands_on at k flow)) k text ++ line_rows at all flow (k + 1) lines

-- ---- the events

-- a link to a line, if the source has it
abbrev pub line_link : ℕ → ℕ → List Piece
line_link many k = if k == 0 || nat_lt many k then [] else Link (Line k) ∷ []

abbrev pub role_text : Role → List ℕ
role_text role.Data = codes ">data #"
role_text role.Choice = codes ">choice #"
role_text role.Control = codes ">control #"

unfoldable pub source_link : Source → List Piece
source_link s = Markup (codes "<a") ∷ Link (Event s.event) ∷ Markup (role_text s.role) ∷ Number s.event ∷ Markup (codes "</a> ") ∷ []

abbrev pub source_links : List Source → List Piece
source_links sources = flat_map source_link sources

-- the text of an event, which ends the link that is open
abbrev pub text_cell : List ℕ → List Piece
text_cell text = Markup (codes ">") ∷ Shown text ∷ Markup (codes "</a></td><td>") ∷ []

-- the row of an event, which is a place of the page, with links to its line and to what it comes from
unfoldable pub event_row : ℕ → ℕ → Mark → ℕ → List ℕ → List Source → List Piece
event_row many n mark k text sources =
    (Markup (codes "<tr") ∷ Anchor (Event n) ∷ Markup (class_text mark) ∷ Markup (codes "<a") ∷ [])
    ++ (line_link many k
    ++ (text_cell text
    ++ (source_links sources ++ Markup row_end ∷ [])))

-- an event of the answer with what it comes from directly
pub record Entry : Type 0 where
  pub event : ℕ
  pub sources : List Source

-- the text of an event, without the end of its line
abbrev pub event_text : Program → List ℕ → List Recorded → ℕ → Bool → List ℕ
event_text p lines rs n marked = without_end (event_line p lines rs n marked)

abbrev pub entry_row : Program → List ℕ → List Recorded → Numbers → ℕ → Entry → List Piece
entry_row p lines rs by_data many e =
    event_row many e.event (mark_of true (by_data e.event)) (line_at lines rs e.event) (event_text p lines rs e.event (by_data e.event)) e.sources

-- what it comes from directly, all of which is below it
abbrev pub HasSources : Owners → List Recorded → Entry → Type 0
HasSources owner rs e = AreSources owner rs e.event e.sources × ((s : Source) → Contains e.sources s → s.event < e.event)

-- these are the events of the answer in order, each with what it comes from directly
pub record AreEntries (owner : Owners) (rs : List Recorded) (event : ℕ) (entries : List Entry) : Type 0 where
  pub events : map (λ (e : Entry). e.event) entries ≡ up_to event (closure owner rs event)
  pub sources : AllByRecursion (HasSources owner rs) entries

-- ---- the page

abbrev pub source_part : Program → List ℕ → List ℕ → List Recorded → ℕ → List Piece
source_part p lines source rs event =
    line_rows (line_at lines rs) (up_to event (closure (owners p) rs event)) (up_to event (data_closure (owners p) rs event)) 1 (source_lines source)

abbrev pub answer_part : Program → List ℕ → List ℕ → List Recorded → ℕ → List Entry → List Piece
answer_part p lines source rs event entries =
    flat_map (entry_row p lines rs (data_closure (owners p) rs event) (length (source_lines source))) entries

-- the front of a page: the event that is asked about is its title and its heading
abbrev pub head_part : List ℕ → List Piece
head_part text = Markup opening ∷ Shown text ∷ Markup styles ∷ Shown text ∷ Markup middle ∷ []

-- the event that is asked about, the source, and the events of the answer
abbrev pub page : Program → List ℕ → List ℕ → List Recorded → ℕ → List Entry → List Piece
page p lines source rs event entries =
    head_part (event_text p lines rs event false)
    ++ (source_part p lines source rs event
    ++ (Markup between ∷ (answer_part p lines source rs event entries ++ Markup closing ∷ [])))

-- the bytes of the page of an answer
abbrev pub IsReport : Program → List ℕ → List ℕ → List Recorded → ℕ → List ℕ → Type 0
IsReport p lines source rs event text =
    (entries : List Entry) × AreEntries (owners p) rs event entries × (text ≡ flat_map written (page p lines source rs event entries))
