-- Which events are marked, and what one event marks.
use Rattle.std.specs.Prelude.{ℕ, Bool, true, false, if◌then◌else◌, List, [], slice_index_or}
use Rattle.wy_event.specs.Sources.{Source, source_events}
use Rattle.wy_why.specs.declared.mark.Mark.{Mark}
use Rattle.wy_why.specs.declared.mark.Mark.TheVariants.{Out, In, Flow}

-- in all of the answer, or in that of the data
abbrev pub is_marked : Bool → Mark → Bool
is_marked all Out = false
is_marked all In = all
is_marked all Flow = true

abbrev pub marked : Bool → List Mark → ℕ → Bool
marked all marks j = is_marked all (slice_index_or marks j Out)

-- the events of sources that an event marks; those of the data go on only from an event of the data
abbrev pub taken : Bool → Bool → List Source → List ℕ
taken true flow sources = source_events true sources
taken false flow sources = if flow then source_events false sources else []
