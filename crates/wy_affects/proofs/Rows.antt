-- What some events of a small trace affect, computed: that of `int x = 2; int y = 0; if (x > 1) { y = x + 3; } System.out.println(y);`
-- in a Main that begins with its arguments.
use Rattle.std.proofs.Common.{◌≡◌, ℕ, List, [], ◌∷◌, refl}
use Rattle.std.specs.Prelude.{Option, Some}
use Rattle.std.specs.Prelude.{None as Absent}
use Rattle.wy_value.specs.declared.value.Value.TheVariants as value
use Rattle.wy_event.specs.declared.record.Kind.{Kind}
use Rattle.wy_event.specs.declared.record.Kind.TheVariants as kind
use Rattle.wy_event.specs.declared.record.Slot.{Slot}
use Rattle.wy_event.specs.declared.record.Slot.TheVariants as slot
use Rattle.wy_event.specs.declared.record.Use.{Use}
use Rattle.wy_event.specs.declared.record.Use.TheVariants as use_of
use Rattle.wy_event.specs.Numbers.{none, only, union, union_of}
use Rattle.wy_event.specs.Record.{Recorded, same_slot}
use Rattle.wy_event.specs.Sources.{Owners, closure, closure_within, creates, creates_as, creation, data_closure, event_sources, is_data, is_entity, is_so, is_write, last_write, or_else, source_events, sources, sources_of, use_source, use_sources, with_role, writes, written}
use Rattle.wy_affects.specs.Affected.{affected, affected_by_data}

abbrev event : Kind → Option ℕ → Slot → List Use → Recorded
event k control x us = record { kind = k; site = 0; frame = Absent; control = control; entity = Absent; slot = x; value = value.None; units = []; uses = us }

-- what a local held
abbrev held : ℕ → ℕ → List Use
held x moment = use_of.Place (slot.Local 2 x) moment ∷ []

abbrev trace : List Recorded
trace =
    event kind.Init Absent slot.None []
    ∷ event kind.New Absent slot.None []
    ∷ event kind.Call Absent slot.None []
    ∷ event kind.Bind (Some 2) (slot.Local 2 0) (use_of.Value 1 ∷ [])
    ∷ event kind.Set (Some 2) (slot.Local 2 1) []
    ∷ event kind.Set (Some 2) (slot.Local 2 2) []
    ∷ event kind.Test (Some 2) slot.None (held 1 6)
    ∷ event kind.Set (Some 6) (slot.Local 2 2) (held 1 7)
    ∷ event kind.Print (Some 2) slot.None (held 2 8)
    ∷ event kind.Return (Some 2) slot.None []
    ∷ []

abbrev no_owner : Owners
no_owner f = 0

abbrev those : ℕ → List ℕ
those e = affected no_owner trace e

abbrev those_by_data : ℕ → List ℕ
those_by_data e = affected_by_data no_owner trace e

of_x : those 4 ≡ 6 ∷ 7 ∷ 8 ∷ []
unfolding none only union union_of same_slot closure closure_within creates creates_as creation event_sources is_data is_entity is_so is_write last_write or_else source_events sources sources_of use_source use_sources with_role writes written
of_x = refl

of_x_by_data : those_by_data 4 ≡ 6 ∷ 7 ∷ 8 ∷ []
unfolding none only union union_of same_slot data_closure closure_within creates creates_as creation event_sources is_data is_entity is_so is_write last_write or_else source_events sources sources_of use_source use_sources with_role writes written
of_x_by_data = refl

-- the value that was overwritten before it was used
of_y : those 5 ≡ []
unfolding none only union union_of same_slot closure closure_within creates creates_as creation event_sources is_data is_entity is_so is_write last_write or_else source_events sources sources_of use_source use_sources with_role writes written
of_y = refl

of_test : those 6 ≡ 7 ∷ 8 ∷ []
unfolding none only union union_of same_slot closure closure_within creates creates_as creation event_sources is_data is_entity is_so is_write last_write or_else source_events sources sources_of use_source use_sources with_role writes written
of_test = refl

of_test_by_data : those_by_data 6 ≡ []
unfolding none only union union_of same_slot data_closure closure_within creates creates_as creation event_sources is_data is_entity is_so is_write last_write or_else source_events sources sources_of use_source use_sources with_role writes written
of_test_by_data = refl
