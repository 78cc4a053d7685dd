-- The rows of the events as they are put, one behind another.
use Rattle.std.specs.Prelude.{◌≡◌, ℕ, Bool, List, ◌++◌, take, map}
use Rattle.std.specs.List.{AllByRecursion, flat_map}
use Rattle.wy_kernel.specs.Program.{Program}
use Rattle.wy_event.specs.Numbers.{Numbers}
use Rattle.wy_event.specs.Record.{Recorded}
use Rattle.wy_event.specs.Sources.{Owners}
use Rattle.wy_why.specs.declared.source.Source.{Source}
use Rattle.wy_report.specs.Page.{Entry, HasSources, entry_row}
use Rattle.wy_report.specs.Pieces.{written}

-- the row of an event stands behind what was there, with what it comes from directly
abbrev pub PutsEntry : Program → List ℕ → Owners → List Recorded → ℕ → ℕ → Bool → List ℕ → List ℕ → Type 0
PutsEntry p lines owner rs many event of_data old new =
    (sources : List Source) × HasSources owner rs (record { event = event; sources = sources })
    × (new ≡ old ++ flat_map written (entry_row p lines rs (λ n. of_data) many (record { event = event; sources = sources })))

-- the rows of the first n of some events stand behind what was there, those of the data marked so
pub record PutsRows (p : Program) (lines : List ℕ) (owner : Owners) (rs : List Recorded) (by_data : Numbers) (many : ℕ) (old new all : List ℕ) (n : ℕ) : Type 0 where
  pub entries : List Entry
  pub listed : map (λ (e : Entry). e.event) entries ≡ take n all
  pub said : AllByRecursion (HasSources owner rs) entries
  pub text : new ≡ old ++ flat_map written (flat_map (entry_row p lines rs by_data many) entries)
