-- The event that a question asks about, in the records of a trace of a program.
use Rattle.std.specs.Prelude.{◌≡◌, ℕ, zero, suc, Bool, true, false, not, ◌&&◌, ◌||◌, ◌==◌, nat_lt, nat_le, if◌then◌else◌, List, length, slice_get, Option, Some, option_map, Result, Ok, Err}
use Rattle.std.specs.Prelude.{None as Absent}
use Rattle.std.specs.List.{position_from}
use Rattle.std.specs.Str.{bytes_eq}
use Rattle.wy_kernel.specs.Program.{Program, class, field, full_name, is_above, is_array, class_of_type, type_of_code}
use Rattle.wy_kernel.specs.Program as kernel
use Rattle.wy_event.specs.declared.record.Slot.{Slot}
use Rattle.wy_event.specs.declared.record.Slot.TheVariants as slot
use Rattle.wy_event.specs.Record.{Recorded}
use Rattle.wy_event.specs.Sources.{Owners, last_write}
use Rattle.wy_index.specs.declared.index.Index.{Index}
use Rattle.wy_index.specs.declared.found.Made.{Made}
use Rattle.wy_index.specs.Found.{made_at, prints_in}
use Rattle.wy_index.specs.Index.{IsIndexOf, owners_of}
use Rattle.wy_ask.specs.declared.question.AskError.{AskError}
use Rattle.wy_ask.specs.declared.question.AskError.TheVariants as errors
use Rattle.wy_ask.specs.Questions.{Asked, Print, Event, Static, Elem, Local}
use Rattle.wy_ask.specs.Questions as question
use Rattle.wy_ask.specs.Reading.{and_then}

-- ---- fields

abbrev pub same_truth : Bool → Bool → Bool
same_truth true b = b
same_truth false b = not b

-- the field of this name that the class of this word declares, static or of its objects
abbrev pub is_meant : Program → Bool → List ℕ → List ℕ → kernel.Field → Bool
is_meant p is_static class name f = same_truth f.is_static is_static && (bytes_eq f.name name && bytes_eq (full_name p f.class) class)

abbrev pub field_number : Program → Bool → List ℕ → List ℕ → Option ℕ
field_number p is_static class name = position_from (is_meant p is_static class name) 0 p.fields

-- a class is another, or extends it in at most so many steps
unfoldable pub extends : Program → ℕ → ℕ → ℕ → Bool
extends p zero c d = c == d
extends p (suc longest) c d = c == d || is_above (λ e. extends p longest e d) (class p c).above

-- an object of this type code has the fields that the class declares; no chain is longer than there are classes
unfoldable pub has_fields_of : Program → ℕ → ℕ → Bool
has_fields_of p code c = not (is_array (type_of_code code)) && extends p (length p.classes) (class_of_type (type_of_code code)) c

-- ---- slots

-- the object or array that an event below a moment made
abbrev pub holder : List Recorded → ℕ → ℕ → Option Made
holder rs n m = if nat_lt n m then made_at (slice_get rs n) else Absent

abbrev pub field_slot : Program → Made → ℕ → ℕ → Option Slot
field_slot p made n f = if has_fields_of p made.entity (field p f).class then Some (slot.Field n f) else Absent

abbrev pub element_slot : Made → ℕ → ℕ → Option Slot
element_slot made n i = if is_array (type_of_code made.entity) && nat_lt i made.length then Some (slot.Elem n i) else Absent

-- what the places of questions are, where they are there below their moment
abbrev pub static_place : Program → List ℕ → List ℕ → Option Slot
static_place p class name = option_map slot.Static (field_number p true class name)

abbrev pub field_place : Program → List Recorded → ℕ → List ℕ → List ℕ → ℕ → Option Slot
field_place p rs n class name m = and_then (holder rs n m) (λ made. and_then (field_number p false class name) (λ f. field_slot p made n f))

abbrev pub element_place : List Recorded → ℕ → ℕ → ℕ → Option Slot
element_place rs n i m = and_then (holder rs n m) (λ made. element_slot made n i)

-- the last write of a place below a moment that the trace reaches
abbrev pub stored : Owners → List Recorded → Option Slot → ℕ → Option ℕ
stored owner rs place m = if nat_le m (length rs) then and_then place (λ x. last_write owner rs x m) else Absent

-- the class that declares a field
abbrev pub owners : Program → Owners
owners p f = (field p f).class

-- ---- what a question asks about

-- the event, if what is asked about is there
abbrev pub event_of : Program → List Recorded → Asked → Option ℕ
event_of p rs (Print k) = slice_get (prints_in rs) k
event_of p rs (Event n) = if nat_lt n (length rs) then Some n else Absent
event_of p rs (Static class name m) = stored (owners p) rs (static_place p class name) m
event_of p rs (question.Field n class name m) = stored (owners p) rs (field_place p rs n class name m) m
event_of p rs (Elem n i m) = stored (owners p) rs (element_place rs n i m) m
event_of p rs (Local n i m) = stored (owners p) rs (Some (slot.Local n i)) m

-- the number that a refusal names: that of the piece or the event, or the moment
abbrev pub number_in : Asked → ℕ
number_in (Print k) = k
number_in (Event n) = n
number_in (Static class name m) = m
number_in (question.Field n class name m) = m
number_in (Elem n i m) = m
number_in (Local n i m) = m

-- this event, and a refusal with this number where there is none
abbrev pub Resolves : Result ℕ AskError → Option ℕ → ℕ → Type 0
Resolves (Ok event) found number = found ≡ Some event
Resolves (Err (errors.NoSuch n)) found number = (found ≡ Absent) × (n ≡ number)
Resolves (Err errors.BadQuestion) found number = ⊥
Resolves (Err errors.NoMemory) found number = ⊥

-- the index and the number of the records of a trace of the program
pub record IsOf (p : Program) (index : Index) (count : ℕ) (rs : List Recorded) : Type 0 where
  pub is_index : IsIndexOf index rs
  pub owners : (f : ℕ) → owners_of index f ≡ (field p f).class
  pub all : length rs ≡ count
