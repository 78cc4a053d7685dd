-- What holds of every page.
use Rattle.std.specs.Prelude.{◌≡◌, ℕ, List, ◌∷◌, ◌++◌, filter, length, map, Contains}
use Rattle.std.specs.List.{AllByRecursion, range_with_len}
use Rattle.wy_kernel.specs.Program.{Program}
use Rattle.wy_event.specs.Record.{Recorded}
use Rattle.wy_event.specs.Sources.{closure}
use Rattle.wy_ask.specs.Asked.{owners}
use Rattle.wy_why.specs.Answer.{up_to}
use Rattle.wy_fold.specs.SourceLines.{source_lines}
use Rattle.wy_report.specs.declared.piece.Target.TheVariants.{Line, Event}
use Rattle.wy_report.specs.Escapes.{IsText, escaped}
use Rattle.wy_report.specs.Page.{IsReport}
use Rattle.wy_report.specs.Pieces.{target_text}
use Rattle.wy_report.specs.Reading.{is_name, tags, values}
use Rattle.wy_report.specs.Tags.{IsTag}

-- an event of a trace has one page
abbrev pub OneReport : Type 0
OneReport = (p : Program) (lines source : List ℕ) (rs : List Recorded) (event : ℕ) (x y : List ℕ) → IsReport p lines source rs event x → IsReport p lines source rs event y → x ≡ y

-- what the source or an event holds is shown as text, which begins no tag, and ends none and no attribute
abbrev pub ShownIsText : Type 0
ShownIsText = (text : List ℕ) → IsText (escaped text)

-- each tag that is read in a page is one of the template's, whatever the source and the events hold
abbrev pub TagsAreTheTemplates : Type 0
TagsAreTheTemplates = (p : Program) (lines source : List ℕ) (rs : List Recorded) (event : ℕ) (text : List ℕ) → IsReport p lines source rs event text
    → AllByRecursion IsTag (tags text)

-- the names that are read in a page are those of the lines of the source and of the events of the answer, each once
abbrev pub AnchorsAreTheAnswer : Type 0
AnchorsAreTheAnswer = (p : Program) (lines source : List ℕ) (rs : List Recorded) (event : ℕ) (text : List ℕ) → IsReport p lines source rs event text
    → filter is_name (values text)
    ≡ map target_text (map Line (range_with_len 1 (length (source_lines source))) ++ map Event (up_to event (closure (owners p) rs event)))

-- where # and a name are read in a page, which is a link, the name is one of those
abbrev pub LinksLeadToAnchors : Type 0
LinksLeadToAnchors = (p : Program) (lines source : List ℕ) (rs : List Recorded) (event : ℕ) (text : List ℕ) → IsReport p lines source rs event text
    → (name : List ℕ) → Contains (values text) (35 ∷ name) → Contains (filter is_name (values text)) name
