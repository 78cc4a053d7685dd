-- To what a record refers: events below it, and moments up to it.
use Rattle.std.specs.Prelude.{◌≡◌, ◌<◌, ◌≤◌, ℕ, List, [], ◌∷◌, Option, Some, slice_get}
use Rattle.std.specs.Prelude.{None as Absent}
use Rattle.std.specs.Coded.{×_prop, Unit-prop, le_prop}
use Rattle.wy_value.specs.declared.value.Value.{Value}
use Rattle.wy_value.specs.declared.value.Value.TheVariants.{Object, Text}
use Rattle.wy_event.specs.declared.record.Event.{Event}
use Rattle.wy_event.specs.declared.record.Slot.{Slot}
use Rattle.wy_event.specs.declared.record.Slot.TheVariants.{Local, Field, Elem}
use Rattle.wy_event.specs.declared.record.Use.{Use}
use Rattle.wy_event.specs.declared.record.Use.TheVariants as use_of
use Rattle.wy_event.specs.Record.{Recorded, recorded}

abbrev pub OptionBelow : ℕ → Option ℕ → Type 0
OptionBelow n Absent = Unit {0}
OptionBelow n (Some k) = k < n

-- an object, an array or a text is the event that made it
abbrev pub ValueBelow : ℕ → Value → Type 0
ValueBelow n (Object k) = k < n
ValueBelow n (Text k) = k < n
ValueBelow n _ = Unit {0}

abbrev pub SlotBelow : ℕ → Slot → Type 0
SlotBelow n (Local frame index) = frame < n
SlotBelow n (Field object field) = object < n
SlotBelow n (Elem array index) = array < n
SlotBelow n _ = Unit {0}

abbrev pub UseBelow : ℕ → Use → Type 0
UseBelow n (use_of.Place slot moment) = SlotBelow n slot × moment ≤ n
UseBelow n (use_of.Value k) = k < n
UseBelow n (use_of.Choice k) = k < n

abbrev pub UsesBelow : ℕ → List Use → Type 0
UsesBelow n [] = Unit {0}
UsesBelow n (u ∷ us) = UseBelow n u × UsesBelow n us

-- as record n
pub record RefersBelow (n : ℕ) (e : Recorded) : Type 0 where
  pub frame : OptionBelow n e.frame
  pub control : OptionBelow n e.control
  pub slot : SlotBelow n e.slot
  pub value : ValueBelow n e.value
  pub uses : UsesBelow n e.uses

-- each in its place
abbrev pub AllRefersBelow : List Event → Type 0
AllRefersBelow events = (n : ℕ) (e : Event) → slice_get events n ≡ Some e → RefersBelow n (recorded e)

-- ---- each is a fact

OptionBelow-prop : (n : ℕ) (o : Option ℕ) → IsProp (OptionBelow n o)
OptionBelow-prop n Absent = Unit-prop
OptionBelow-prop n (Some k) = le_prop

ValueBelow-prop : (n : ℕ) (v : Value) → IsProp (ValueBelow n v)
ValueBelow-prop n (Object k) = le_prop
ValueBelow-prop n (Text k) = le_prop
ValueBelow-prop n _ = Unit-prop

SlotBelow-prop : (n : ℕ) (x : Slot) → IsProp (SlotBelow n x)
SlotBelow-prop n (Local frame index) = le_prop
SlotBelow-prop n (Field object field) = le_prop
SlotBelow-prop n (Elem array index) = le_prop
SlotBelow-prop n _ = Unit-prop

UseBelow-prop : (n : ℕ) (u : Use) → IsProp (UseBelow n u)
UseBelow-prop n (use_of.Place slot moment) = ×_prop (SlotBelow-prop n slot) le_prop
UseBelow-prop n (use_of.Value k) = le_prop
UseBelow-prop n (use_of.Choice k) = le_prop

UsesBelow-prop : (n : ℕ) (us : List Use) → IsProp (UsesBelow n us)
UsesBelow-prop n [] = Unit-prop
UsesBelow-prop n (u ∷ us) = ×_prop (UseBelow-prop n u) (UsesBelow-prop n us)

pub RefersBelow-prop : (n : ℕ) (e : Recorded) → IsProp (RefersBelow n e)
RefersBelow-prop n e = hlevel (OptionBelow-prop, ValueBelow-prop, SlotBelow-prop, UsesBelow-prop)

pub AllRefersBelow-prop : (events : List Event) → IsProp (AllRefersBelow events)
AllRefersBelow-prop events = hlevel RefersBelow-prop
