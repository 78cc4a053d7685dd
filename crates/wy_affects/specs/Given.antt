-- How an event is marked, once its sources are.
use Rattle.std.specs.Prelude.{ℕ, Bool, if◌then◌else◌, List, [], ◌∷◌}
use Rattle.std.specs.List.{list_any}
use Rattle.wy_event.specs.Sources.{Source, source_events}
use Rattle.wy_why.specs.declared.mark.Mark.{Mark}
use Rattle.wy_why.specs.Marks.{is_marked, marked}

-- one of the events of these sources is marked; in the data, one of those that are sources by data
abbrev pub is_given : Bool → List Mark → List Source → Bool
is_given all marks sources = list_any (marked all marks) (source_events all sources)

-- an event where it is marked so
abbrev pub listed : Bool → Mark → ℕ → List ℕ
listed all mark k = if is_marked all mark then k ∷ [] else []
