-- What the records of a run refer to: earlier records, each of a kind that may stand in its place, and what each kind of record has.
use Rattle.std.specs.Prelude.{◌+◌, ◌≡◌, ◌<◌, ◌≤◌, ◌⊎◌, ℕ, zero, suc, pos, List, [], ◌∷◌, length, Option, Some, slice_get}
use Rattle.std.specs.Prelude.{None as Absent}
use Rattle.wy_kernel.specs.Program.{Program}
use Rattle.wy_value.specs.declared.value.Value.{Value}
use Rattle.wy_value.specs.declared.value.Value.TheVariants as val
use Rattle.wy_event.specs.declared.record.Kind.{Kind}
use Rattle.wy_event.specs.declared.record.Kind.TheVariants as kind
use Rattle.wy_event.specs.declared.record.Slot.{Slot}
use Rattle.wy_event.specs.declared.record.Slot.TheVariants as slot
use Rattle.wy_event.specs.declared.record.Use.{Use}
use Rattle.wy_event.specs.declared.record.Use.TheVariants as use_of
use Rattle.wy_event.specs.Record.{Recorded}
use Rattle.wy_steps.specs.Sets.{Sets}
use Rattle.wy_steps.specs.State.{Covered}
use Rattle.wy_kernel.specs.Limits.{event_limit, use_limit, output_limit}
use Rattle.wy_steps.specs.Steps.{going_on, never_left}
use Rattle.wy_meaning.specs.Run.{events, output, tail}

-- ---- kinds by what they may stand for

-- the event of a body that runs
abbrev pub IsFrame : Kind → Type 0
IsFrame kind.Init = Unit {0}
IsFrame kind.Call = Unit {0}
IsFrame _ = ⊥

-- an event that decides that others happen
abbrev pub IsControl : Kind → Type 0
IsControl kind.Init = Unit {0}
IsControl kind.Call = Unit {0}
IsControl kind.Test = Unit {0}
IsControl kind.Catch = Unit {0}
IsControl _ = ⊥

-- an event whose value is used
abbrev pub IsValued : Kind → Type 0
IsValued kind.New = Unit {0}
IsValued kind.Set = Unit {0}
IsValued kind.Test = Unit {0}
IsValued kind.Text = Unit {0}
IsValued kind.Read = Unit {0}
IsValued kind.Return = Unit {0}
IsValued kind.Throw = Unit {0}
IsValued _ = ⊥

-- an event that leaves statements before their end
abbrev pub IsLeaving : Kind → Type 0
IsLeaving kind.Jump = Unit {0}
IsLeaving kind.Return = Unit {0}
IsLeaving kind.Throw = Unit {0}
IsLeaving _ = ⊥

abbrev pub IsNew : Kind → Type 0
IsNew kind.New = Unit {0}
IsNew _ = ⊥

abbrev pub IsText : Kind → Type 0
IsText kind.Text = Unit {0}
IsText _ = ⊥

abbrev pub IsTest : Kind → Type 0
IsTest kind.Test = Unit {0}
IsTest _ = ⊥

abbrev pub IsThrow : Kind → Type 0
IsThrow kind.Throw = Unit {0}
IsThrow _ = ⊥

-- ---- references

-- event k of the records is below n, and of such a kind
pub record Below (records : List Recorded) (IsKind : Kind → Type 0) (n k : ℕ) : Type 0 where
  pub before : k < n
  pub event : Recorded
  pub there : slice_get records k ≡ Some event
  pub kind : IsKind event.kind

abbrev pub OptionBelow : List Recorded → (Kind → Type 0) → ℕ → Option ℕ → Type 0
OptionBelow records IsKind n Absent = Unit {0}
OptionBelow records IsKind n (Some k) = Below records IsKind n k

-- an object or array is a New, and a text that the run made a Text
abbrev pub ValueFits : List Recorded → ℕ → Value → Type 0
ValueFits records n (val.Object k) = Below records IsNew n k
ValueFits records n (val.Text k) = Below records IsText n k
ValueFits records n _ = Unit {0}

abbrev pub SlotFits : List Recorded → ℕ → Slot → Type 0
SlotFits records n (slot.Local frame i) = Below records IsFrame n frame
SlotFits records n (slot.Field object f) = Below records IsNew n object
SlotFits records n (slot.Elem array i) = Below records IsNew n array
SlotFits records n _ = Unit {0}

-- a moment may be the event's own number
abbrev pub UseFits : List Recorded → ℕ → Use → Type 0
UseFits records n (use_of.Place x moment) = SlotFits records n x × moment ≤ n
UseFits records n (use_of.Value k) = Below records IsValued n k
UseFits records n (use_of.Choice k) = Below records IsTest n k

abbrev pub UsesFit : List Recorded → ℕ → List Use → Type 0
UsesFit records n [] = Unit {0}
UsesFit records n (u ∷ us) = UseFits records n u × UsesFit records n us

-- ---- what a record of a kind has

-- an Init has its class, a New its type and a Call its method
abbrev pub EntityOf : Kind → Option ℕ → Type 0
EntityOf kind.Init (Some c) = Unit {0}
EntityOf kind.Init Absent = ⊥
EntityOf kind.New (Some ty) = Unit {0}
EntityOf kind.New Absent = ⊥
EntityOf kind.Call (Some m) = Unit {0}
EntityOf kind.Call Absent = ⊥
EntityOf _ Absent = Unit {0}
EntityOf _ (Some n) = ⊥

abbrev pub IsPlace : Slot → Type 0
IsPlace slot.None = ⊥
IsPlace _ = Unit {0}

abbrev pub IsLocal : Slot → Type 0
IsLocal (slot.Local f i) = Unit {0}
IsLocal _ = ⊥

abbrev pub IsNowhere : Slot → Type 0
IsNowhere slot.None = Unit {0}
IsNowhere _ = ⊥

-- a Bind and a Catch write a local, and a Set a place
abbrev pub SlotOf : Kind → Slot → Type 0
SlotOf kind.Bind x = IsLocal x
SlotOf kind.Catch x = IsLocal x
SlotOf kind.Set x = IsPlace x
SlotOf _ x = IsNowhere x

abbrev pub IsNoValue : Value → Type 0
IsNoValue val.None = Unit {0}
IsNoValue _ = ⊥

abbrev pub IsLength : Value → Type 0
IsLength val.None = Unit {0}
IsLength (val.Int (pos n)) = Unit {0}
IsLength _ = ⊥

abbrev pub IsInt : Value → Type 0
IsInt (val.Int z) = Unit {0}
IsInt _ = ⊥

-- a New has the length of an array, and a Read the byte or -1; Init, Call, Text and Jump have none
abbrev pub ValueOf : Kind → Value → Type 0
ValueOf kind.Init v = IsNoValue v
ValueOf kind.New v = IsLength v
ValueOf kind.Call v = IsNoValue v
ValueOf kind.Text v = IsNoValue v
ValueOf kind.Read v = IsInt v
ValueOf kind.Jump v = IsNoValue v
ValueOf _ v = Unit {0}

-- only a Text has units
abbrev pub UnitsOf : Kind → List ℕ → Type 0
UnitsOf kind.Text us = Unit {0}
UnitsOf _ [] = Unit {0}
UnitsOf _ (u ∷ us) = ⊥

-- an Init, a Read and a Jump use nothing
abbrev pub UsesOf : Kind → List Use → Type 0
UsesOf kind.Init [] = Unit {0}
UsesOf kind.Init (u ∷ us) = ⊥
UsesOf kind.Read [] = Unit {0}
UsesOf kind.Read (u ∷ us) = ⊥
UsesOf kind.Jump [] = Unit {0}
UsesOf kind.Jump (u ∷ us) = ⊥
UsesOf _ us = Unit {0}

-- record n among the records
pub record Shaped (records : List Recorded) (n : ℕ) (e : Recorded) : Type 0 where
  pub frame : OptionBelow records IsFrame n e.frame
  pub control : OptionBelow records IsControl n e.control
  pub slot : SlotFits records n e.slot
  pub value : ValueFits records n e.value
  pub uses : UsesFit records n e.uses
  pub entity_of_kind : EntityOf e.kind e.entity
  pub slot_of_kind : SlotOf e.kind e.slot
  pub value_of_kind : ValueOf e.kind e.value
  pub units_of_kind : UnitsOf e.kind e.units
  pub uses_of_kind : UsesOf e.kind e.uses

abbrev pub RecordsAreShaped : Sets → Program → List ℕ → ℕ → Type 0
RecordsAreShaped A p input budget = (n : ℕ) (e : Recorded) → slice_get (events A p input budget) n ≡ Some e → Shaped (events A p input budget) n e

-- ---- the end of a run

-- a moment of a first begin is there exactly where a statement began
abbrev pub FirstFits : ℕ → ℕ → Option ℕ → Type 0
FirstFits n zero Absent = Unit {0}
FirstFits n zero (Some moment) = ⊥
FirstFits n (suc begins) Absent = ⊥
FirstFits n (suc begins) (Some moment) = moment ≤ n

-- what last left a statement is a Jump, Return or Throw, where anything left it
abbrev pub CauseFits : List Recorded → ℕ → ℕ → Type 0
CauseFits records n cause = (cause ≡ never_left) ⊎ ((cause ≡ going_on) ⊎ Below records IsLeaving n cause)

pub record CoverFits (records : List Recorded) (n : ℕ) (c : Covered) : Type 0 where
  pub first : FirstFits n c.begins c.first
  pub cause : CauseFits records n c.cause

-- and no statement ended more often than it began
abbrev pub CoverageIsShaped : Sets → Program → List ℕ → ℕ → Type 0
CoverageIsShaped A p input budget = (number : ℕ) (c : Covered) → slice_get (tail A p input budget).coverage number ≡ Some c → CoverFits (events A p input budget) (length (events A p input budget)) c × c.ends ≤ c.begins

-- the event that ended a run is a Throw
abbrev pub LastIsShaped : Sets → Program → List ℕ → ℕ → Type 0
LastIsShaped A p input budget = OptionBelow (events A p input budget) IsThrow (length (events A p input budget)) (tail A p input budget).last

abbrev pub uses_in : List Recorded → ℕ
uses_in [] = 0
uses_in (e ∷ rest) = length e.uses + uses_in rest

-- the tail counts the events, their uses and the output; each is within its limit
abbrev pub CountsAreShaped : Sets → Program → List ℕ → ℕ → Type 0
CountsAreShaped A p input budget =
    length (events A p input budget) ≤ event_limit
    × ((tail A p input budget).events ≡ length (events A p input budget))
    × ((tail A p input budget).uses ≡ uses_in (events A p input budget))
    × (tail A p input budget).uses ≤ use_limit
    × ((tail A p input budget).output ≡ length (output A p input budget))
    × length (output A p input budget) ≤ output_limit
