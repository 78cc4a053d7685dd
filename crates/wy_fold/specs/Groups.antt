-- The events of an answer, together where they stand on one line.
use Rattle.std.specs.Prelude.{◌≡◌, ◌<◌, ℕ, List, [], filter, length, map, slice_index_or, All}
use Rattle.std.specs.declared.vec.Vec.{Vec}
use Rattle.std.specs.declared.alloc.Global.{Global}
use Rattle.wy_event.specs.Numbers.{Numbers}
use Rattle.wy_event.specs.Record.{Recorded}
use Rattle.wy_why.specs.Answer.{Rises}
use Rattle.wy_fold.specs.declared.group.Group.{Group}
use Rattle.wy_fold.specs.declared.table.Table.{Table}
use Rattle.wy_fold.specs.declared.fold.Fold.{Fold}
use Rattle.wy_fold.specs.Places.{Places, last_ones, line_at, on_line, stands_on}
use Rattle.wy_fold.specs.SourceLines.{source_lines}

-- the group of an event: how many stand on its line, and whether one of the data does
abbrev pub group_of : Places → List ℕ → List ℕ → ℕ → Group
group_of at all flow n = record { line = at n; last = n; count = length (on_line at (at n) all); of_data = stands_on at (at n) flow }

-- a group for each line on which an event stands, in the order of the last ones
abbrev pub groups : Places → List ℕ → List ℕ → List Group
groups at all flow = map (group_of at all flow) (last_ones at all)

-- ---- in memory: a row for each line

abbrev pub lists_of : List (Vec ℕ Global) → List (List ℕ)
lists_of rows = map (λ v. v.items) rows

abbrev pub row_of : Table → ℕ → List ℕ
row_of t k = slice_index_or (lists_of t.rows.items) k []

-- each row has the events that stand on its line, and row 0 those of the library
pub record IsTable (at : Places) (t : Table) : Type 0 where
  pub inside : (n : ℕ) → at n < length t.rows.items
  pub each : (k : ℕ) → row_of t k ≡ on_line at k t.events.now

-- these are the groups of events and of those of the data
pub record IsFold (lines : List ℕ) (rs : List Recorded) (source all flow : List ℕ) (fold : Fold) : Type 0 where
  pub texts : map (λ l. l.now) fold.lines.items ≡ source_lines source
  pub tabled : IsTable (line_at lines rs) fold.all
  pub data_tabled : IsTable (line_at lines rs) fold.flow
  pub events : fold.all.events.now ≡ all
  pub data_events : fold.flow.events.now ≡ flow
  pub found : fold.groups.items ≡ groups (line_at lines rs) all flow

-- the groups are of events below a count, and of rows that are there
pub record CanBeShown (count : ℕ) (fold : Fold) : Type 0 where
  pub there : All (λ g. g.last < count) fold.groups.items
  pub in_all : All (λ g. g.line < length fold.all.rows.items) fold.groups.items
  pub in_flow : All (λ g. g.line < length fold.flow.rows.items) fold.groups.items
  pub rises : (k : ℕ) → Rises 0 count (row_of fold.all k)

-- those of the data are these among the others
abbrev pub AreOfData : Numbers → Fold → Type 0
AreOfData by_data fold = (k : ℕ) → row_of fold.flow k ≡ filter by_data (row_of fold.all k)
