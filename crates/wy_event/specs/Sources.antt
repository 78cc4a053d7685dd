-- What follows from a list of records: the last write of a slot, the sources of an event, and all that it comes from.
-- An event depends by data on the last event that wrote what it used, and by control on the test that decided that it ran.
use Rattle.std.specs.Prelude.{ℕ, zero, suc, Bool, true, false, ◌&&◌, ◌||◌, nat_eq, nat_lt, if◌then◌else◌, List, [], ◌∷◌, ◌++◌, Option, Some, slice_get, filter}
use Rattle.std.specs.Prelude.{None as Absent}
use Rattle.wy_event.specs.declared.record.Kind.{Kind}
use Rattle.wy_event.specs.declared.record.Kind.TheVariants.{Init, New, Bind, Set, Catch}
use Rattle.wy_event.specs.declared.record.Slot.{Slot}
use Rattle.wy_event.specs.declared.record.Slot.TheVariants.{Static, Field, Elem}
use Rattle.wy_event.specs.declared.record.Use.{Use}
use Rattle.wy_event.specs.declared.record.Use.TheVariants.{Place, Value, Choice}
use Rattle.wy_event.specs.Record.{Recorded, same_slot}
use Rattle.wy_event.specs.Numbers.{Numbers, none, only, union, union_of}

-- the class that declares a static field, by the field's number
abbrev pub Owners : Type 0
Owners = ℕ → ℕ

-- ---- writes and creations

-- events of these kinds write their slot
unfoldable pub is_write : Kind → Bool
is_write Bind = true
is_write Set = true
is_write Catch = true
is_write _ = false

unfoldable pub writes : Slot → Recorded → Bool
writes x e = is_write e.kind && same_slot x e.slot

unfoldable pub is_entity : Option ℕ → ℕ → Bool
is_entity (Some n) m = nat_eq n m
is_entity Absent m = false

-- a New creates the fields and the elements of its object, an Init the static fields of its class
unfoldable pub creates_as : Owners → Kind → ℕ → Option ℕ → Slot → Bool
creates_as owner New n entity (Field object f) = nat_eq object n
creates_as owner New n entity (Elem array i) = nat_eq array n
creates_as owner Init n entity (Static f) = is_entity entity (owner f)
creates_as owner _ n entity x = false

-- as event n
unfoldable pub creates : Owners → ℕ → Slot → Recorded → Bool
creates owner n x e = creates_as owner e.kind n e.entity x

unfoldable pub is_so : (Recorded → Bool) → Option Recorded → Bool
is_so f Absent = false
is_so f (Some e) = f e

unfoldable pub or_else : Option ℕ → Option ℕ → Option ℕ
or_else (Some n) other = Some n
or_else Absent other = other

-- the greatest event below a moment that wrote the slot
unfoldable pub written : List Recorded → Slot → ℕ → Option ℕ
written records x zero = Absent
written records x (suc m) = if is_so (writes x) (slice_get records m) then Some m else written records x m

-- the least event below a moment that created the slot
unfoldable pub creation : Owners → List Recorded → Slot → ℕ → Option ℕ
creation owner records x zero = Absent
creation owner records x (suc m) = or_else (creation owner records x m) (if is_so (creates owner m x) (slice_get records m) then Some m else Absent)

-- the greatest event below a moment that wrote the slot, else its creation
unfoldable pub last_write : Owners → List Recorded → Slot → ℕ → Option ℕ
last_write owner records x m = or_else (written records x m) (creation owner records x m)

-- ---- sources

-- how an event comes from a source
pub data Role : Type 0 where
  Data : Role
  Choosing : Role
  Control : Role

pub record Source : Type 0 where
  pub role : Role
  pub event : ℕ

unfoldable pub with_role : Role → Option ℕ → List Source
with_role role Absent = []
with_role role (Some n) = record { role = role; event = n } ∷ []

-- the last write of a place below its moment, the event of a value, and an event as a choice
unfoldable pub use_source : Owners → List Recorded → Use → List Source
use_source owner records (Place x m) = with_role Data (last_write owner records x m)
use_source owner records (Value n) = with_role Data (Some n)
use_source owner records (Choice n) = with_role Choosing (Some n)

unfoldable pub use_sources : Owners → List Recorded → List Use → List Source
use_sources owner records [] = []
use_sources owner records (u ∷ us) = use_source owner records u ++ use_sources owner records us

-- those of its uses in their order, and then its control parent
unfoldable pub event_sources : Owners → List Recorded → Recorded → List Source
event_sources owner records e = use_sources owner records e.uses ++ with_role Control e.control

unfoldable pub sources_of : Owners → List Recorded → Option Recorded → List Source
sources_of owner records Absent = []
sources_of owner records (Some e) = event_sources owner records e

unfoldable pub sources : Owners → List Recorded → ℕ → List Source
sources owner records n = sources_of owner records (slice_get records n)

unfoldable pub is_data : Role → Bool
is_data Data = true
is_data _ = false

-- the events of all sources, or of those of the data
unfoldable pub source_events : Bool → List Source → List ℕ
source_events all [] = []
source_events all (s ∷ rest) = if all || is_data s.role then s.event ∷ source_events all rest else source_events all rest

-- ---- closure

-- an event and what its sources come from, in at most so many steps; sources are below their event in every list that this is said of
unfoldable pub closure_within : Owners → Bool → List Recorded → ℕ → ℕ → Numbers
closure_within owner all records zero n = none
closure_within owner all records (suc depth) n = union (only n) (union_of (closure_within owner all records depth) (filter (λ w. nat_lt w n) (source_events all (sources owner records n))))

-- an event and all that it comes from
unfoldable pub closure : Owners → List Recorded → ℕ → Numbers
closure owner records n = closure_within owner true records (suc n) n

-- an event and what it comes from by data
unfoldable pub data_closure : Owners → List Recorded → ℕ → Numbers
data_closure owner records n = closure_within owner false records (suc n) n
