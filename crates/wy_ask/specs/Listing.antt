-- What can be asked about a trace: its prints, what was stored in its fields, and the statements that never began.
use Rattle.std.specs.Prelude.{ℕ, ◌+◌, ◌<◌, Bool, true, false, not, ◌&&◌, ◌==◌, nat_le, nat_lt, if◌then◌else◌, List, [], ◌∷◌, ◌++◌, Option, Some, count_by, filter, find, length, map, option_map, reverse, slice_get, unwrap_or}
use Rattle.std.specs.Prelude.{None as Absent}
use Rattle.std.specs.List.{enumerate_from}
use Rattle.wy_kernel.specs.Order.{in_order}
use Rattle.wy_kernel.specs.Program.{Program}
use Rattle.wy_kernel.specs.Statements.{statements_of}
use Rattle.wy_kernel.specs.Form.{Statement}
use Rattle.wy_value.specs.declared.value.Value.{Value}
use Rattle.wy_value.specs.declared.value.Value.TheVariants as value_of
use Rattle.wy_event.specs.declared.record.Cover.{Cover}
use Rattle.wy_event.specs.declared.record.Kind.{Kind}
use Rattle.wy_event.specs.declared.record.Kind.TheVariants.{Set}
use Rattle.wy_event.specs.declared.record.Slot.{Slot}
use Rattle.wy_event.specs.declared.record.Slot.TheVariants.{Static, Field}
use Rattle.wy_event.specs.Record.{Recorded, same_slot}
use Rattle.wy_view.specs.References.{ValueBelow}
use Rattle.wy_index.specs.Found.{prints_in}
use Rattle.wy_ask.specs.declared.askable.Askable.{Askable}
use Rattle.wy_ask.specs.declared.never.PlacedStatement.{PlacedStatement}
use Rattle.wy_ask.specs.declared.asking.Listed.{Listed}
use Rattle.wy_ask.specs.declared.asking.Listed.TheVariants.{Printed, Stored, Never}
use Rattle.wy_ask.specs.Lines.{askable_in}

-- ---- prints

-- these events, counted from 0
abbrev pub printed : List ℕ → List Listed
printed events = map (λ x. Printed x.0 x.1) (enumerate_from 0 events)

-- ---- fields

abbrev pub is_set : Kind → Bool
is_set Set = true
is_set _ = false

-- a static field, or a field of an object
abbrev pub is_field : Slot → Bool
is_field (Static field) = true
is_field (Field object field) = true
is_field _ = false

abbrev pub field_sets : List Recorded → List Recorded
field_sets rs = filter (λ r. is_set r.kind && is_field r.slot) rs

-- each slot where it stands first
abbrev pub each_once : List Slot → List Slot
each_once [] = []
each_once (x ∷ slots) = x ∷ filter (λ y. not (same_slot x y)) (each_once slots)

abbrev pub last_set : List Recorded → Slot → Option Recorded
last_set sets x = find (λ r. same_slot r.slot x) (reverse sets)

-- the value of the last of these that is of the slot
abbrev pub last_value : List Recorded → Slot → Value
last_value sets x = unwrap_or (option_map (λ r. r.value) (last_set sets x)) value_of.None

-- the fields that these wrote, each as it is when so many events stand
abbrev pub stored_by : List Recorded → ℕ → List Listed
stored_by sets moment =
    map (λ x. Stored x moment (last_value sets x)) (each_once (map (λ r. r.slot) sets))

-- ---- statements

-- each with its place in its line, counted from 1, behind those of these lines
abbrev pub placed : List ℕ → List Askable → List PlacedStatement
placed before [] = []
placed before (s ∷ rest) =
    record { statement = s; place = 1 + count_by (λ line. line == s.line) before }
    ∷ placed (before ++ s.line ∷ []) rest

abbrev pub has_begun : Option Cover → Bool
has_begun Absent = false
has_begun (Some c) = nat_lt 0 c.begins

abbrev pub never_began : List Cover → PlacedStatement → Bool
never_began covers s = not (has_begun (slice_get covers s.statement.number))

-- the places go by the numbers of the statements
abbrev pub places_in : List ℕ → List Statement → List PlacedStatement
places_in lines all = placed [] (in_order (λ s. s.number) (askable_in lines all))

-- those that never began, by their sites
abbrev pub unbegun_in : List ℕ → List Statement → List Cover → List PlacedStatement
unbegun_in lines all covers =
    in_order (λ s. s.statement.site) (filter (never_began covers) (places_in lines all))

abbrev pub never : List PlacedStatement → List Listed
never all = map (λ s. Never s.statement.line s.place) all

-- ---- all of it

-- what is listed refers below a number of events
abbrev pub IsListedBelow : ℕ → Listed → Type 0
IsListedBelow n (Printed piece event) = event < n
IsListedBelow n (Stored slot moment value) = ValueBelow n value
IsListedBelow n (Never line place) = Unit {0}

-- by the lines of the program's tokens
unfoldable pub listing : Program → List ℕ → List Recorded → List Cover → List Listed
listing p lines rs covers =
    printed (prints_in rs) ++ (stored_by (field_sets rs) (length rs)
    ++ never (unbegun_in lines (statements_of p) covers))
