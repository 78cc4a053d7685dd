-- What is told of an event by the lines of the source.
use Rattle.std.specs.Prelude.{◌≡◌, ◌≢◌, ℕ, ◌+◌, Bool, true, false, List, [], ◌∷◌, ◌++◌, codes, if◌then◌else◌, length, Option, Some, Vec}
use Rattle.std.specs.Prelude.{None as Absent}
use Rattle.std.specs.declared.alloc.Global.{Global}
use Rattle.std.specs.List.{flat_map, range_with_len}
use Rattle.wy_kernel.specs.Program.{Program}
use Rattle.wy_event.specs.Numbers.{Numbers, none}
use Rattle.wy_event.specs.Record.{Recorded}
use Rattle.wy_event.specs.Sources.{closure, data_closure}
use Rattle.wy_ask.specs.Asked.{owners}
use Rattle.wy_text.specs.EndLines.{line_of}
use Rattle.wy_telling.specs.Answers.{marked_lines}
use Rattle.wy_why.specs.Answer.{up_to}
use Rattle.wy_fold.specs.declared.fold.Showing.{Showing}
use Rattle.wy_fold.specs.declared.group.Group.{Group}
use Rattle.wy_fold.specs.Places.{Places, line_at, on_line, stands_on}
use Rattle.wy_fold.specs.Groups.{groups}
use Rattle.wy_fold.specs.Rows.{count_line, numbered_text, row_text}
use Rattle.wy_fold.specs.SourceLines.{source_lines}

-- ---- folded

-- the lines of events, where groups are opened
abbrev pub opened_text : Program → List ℕ → List Recorded → Numbers → Bool → List ℕ → List ℕ
opened_text p lines rs by_data false events = []
opened_text p lines rs by_data true events = marked_lines p lines rs by_data events

-- the row of a group, and the lines of the events that stand on its line
abbrev pub group_text : Program → List ℕ → List (List ℕ) → List Recorded → Numbers → (ℕ → List ℕ) → Bool → Group → List ℕ
group_text p lines source rs by_data here is_open g = row_text p lines source rs g ++ opened_text p lines rs by_data is_open (here g.line)

-- the groups of these events, and how many there are
abbrev pub fold_text : Program → List ℕ → List (List ℕ) → List Recorded → Showing → Numbers → List ℕ → List ℕ → List ℕ
fold_text p lines source rs showing by_data all flow =
    let at = line_at lines rs in
    flat_map (group_text p lines source rs by_data (λ k. on_line at k all) showing.is_open) (groups at all flow)
    ++ count_line showing (length all) (length (groups at all flow))

-- all that an event comes from, or what it comes from by data
abbrev pub shown_events : Program → List Recorded → ℕ → Showing → List ℕ
shown_events p rs event showing =
    if showing.by_data then up_to event (data_closure (owners p) rs event) else up_to event (closure (owners p) rs event)

-- these events, folded by the lines on which they stand
unfoldable pub show_text : Program → List ℕ → List ℕ → List Recorded → ℕ → Showing → List ℕ
show_text p lines source rs event showing =
    let by_data = data_closure (owners p) rs event in
    fold_text p lines (source_lines source) rs showing by_data (shown_events p rs event showing) (up_to event by_data)

-- ---- the source alone

-- a line on which some of the events stand
abbrev pub sliced_line : Places → List ℕ → List ℕ → ℕ → List ℕ → List ℕ
sliced_line at all flow k text = if stands_on at k all then numbered_text k (stands_on at k flow) text else []

-- those of these lines, which begin with line k
abbrev pub sliced : Places → List ℕ → List ℕ → ℕ → List (List ℕ) → List ℕ
sliced at all flow k [] = []
sliced at all flow k (text ∷ lines) = sliced_line at all flow k text ++ sliced at all flow (k + 1) lines

abbrev pub or_nothing : List ℕ → List ℕ
or_nothing [] = line_of (codes "nothing in the source")
or_nothing (b ∷ text) = b ∷ text

-- the lines of the source on which some of all that an event comes from stands, with a star where some of its data does
unfoldable pub slice_text : Program → List ℕ → List ℕ → List Recorded → ℕ → List ℕ
slice_text p lines source rs event =
    let all = up_to event (closure (owners p) rs event) in
    let flow = up_to event (data_closure (owners p) rs event) in
    or_nothing (sliced (line_at lines rs) all flow 1 (source_lines source))

-- ---- all events

abbrev pub numbers_of : List Recorded → List ℕ
numbers_of rs = range_with_len 0 (length rs)

-- the lines of all events
unfoldable pub all_events_text : Program → List ℕ → List Recorded → List ℕ
all_events_text p lines rs = marked_lines p lines rs none (numbers_of rs)

-- the events that stand on a line
abbrev pub events_on : List ℕ → List Recorded → ℕ → List ℕ
events_on lines rs k = on_line (line_at lines rs) k (numbers_of rs)

-- their lines
unfoldable pub line_events_text : Program → List ℕ → List Recorded → ℕ → List ℕ
line_events_text p lines rs k = marked_lines p lines rs none (events_on lines rs k)

-- these lines are told exactly where an event stands on the line
abbrev pub TellsLine : Program → List ℕ → List Recorded → ℕ → Option (Vec ℕ Global) → Type 0
TellsLine p lines rs k Absent = events_on lines rs k ≡ []
TellsLine p lines rs k (Some text) = (events_on lines rs k ≢ []) × (text.items ≡ line_events_text p lines rs k)
