-- The lines of a certificate as they are made, one behind another.
use Rattle.std.specs.Prelude.{◌≡◌, ℕ, ◌<◌, ◌++◌, List, take, Contains, Some}
use Rattle.std.specs.List.{AllByRecursion, flat_map}
use Rattle.wy_event.specs.Record.{Recorded}
use Rattle.wy_event.specs.Sources.{Owners}
use Rattle.wy_view.specs.View.{Told}
use Rattle.wy_index.specs.declared.index.Index.{Index}
use Rattle.wy_index.specs.Index.{owners_of}
use Rattle.wy_why.specs.declared.source.Source.{Source}
use Rattle.wy_cert.specs.declared.certificate.Listed.{Listed}
use Rattle.wy_cert.specs.Goodness.{AreSources}
use Rattle.wy_cert.specs.Spelling.{FitsLine, events, line_text}

-- each line says the sources of its event, which are below it
abbrev pub AreSaid : Owners → List Recorded → List Listed → Type 0
AreSaid owner rs ls = AllByRecursion (λ (l : Listed). AreSources owner rs l.event l.sources
    × ((s : Source) → Contains l.sources s → s.event < l.event)) ls

-- the lines of the first n of some events stand behind what was there
pub record IsMade (index : Index) (start : Told) (first out all : List ℕ) (n : ℕ) : Type 0 where
  pub lines : List Listed
  pub listed : events lines ≡ take n all
  pub fit : AllByRecursion FitsLine lines
  pub text : out ≡ first ++ flat_map line_text lines
  pub said : (rs : List Recorded) → start.records ≡ Some rs → AreSaid (owners_of index) rs lines
