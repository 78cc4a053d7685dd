-- Steps that the definition has only in the middle of others, by themselves.
use Rattle.std.specs.Prelude.{ℕ, pos, List, Option, Some, length}
use Rattle.wy_event.specs.declared.record.Slot.{Slot}
use Rattle.wy_event.specs.declared.record.Slot.TheVariants.{Local}
use Rattle.wy_kernel.specs.Program.{Program}
use Rattle.wy_value.specs.declared.value.Value.{Value}
use Rattle.wy_value.specs.declared.value.Value.TheVariants.{None as Nothing, Int}
use Rattle.wy_event.specs.declared.record.Use.{Use}
use Rattle.wy_event.specs.declared.record.Kind.TheVariants as kind
use Rattle.wy_meaning.specs.World.{about, spelling}
use Rattle.wy_steps.specs.Sets.{nothing}
use Rattle.wy_state.specs.Seen.{given}
use Rattle.wy_steps.specs.State.{Run, Done, Active, Reach, Through, ◌>>=◌, ◌>>◌, return}
use Rattle.wy_steps.specs.Steps.{Made, begun, code_of, covering, ended, frame, held_of, left_by, note, note_new, take_elements, take_units, with_active, with_stored, without}

abbrev pub do_nothing : Run nothing (Unit {0})
do_nothing s = Done tt s

abbrev pub nothing_of : {X : Type 0} → X → Unit {0}
nothing_of x = tt

-- a statement begins
abbrev pub begin : ℕ → Run nothing (Unit {0})
begin n s = Done tt (covering n (begun (length s.noted)) s)

-- a statement ends normally, and with it the reaches through it
abbrev pub finish : ℕ → Run nothing (Unit {0})
finish n s = Done tt (without s.frame n (covering n ended s))

-- an event leaves a statement, and with it end the reaches through it
abbrev pub leave_by : ℕ → ℕ → Run nothing (Unit {0})
leave_by n e s = Done tt (without s.frame n (covering n (left_by e) s))

-- the running body is that of an event from now on, and another again
abbrev pub enter_frame : ℕ → Run nothing (Unit {0})
enter_frame n s = Done tt (record s { frame = Some n })

abbrev pub back_to : Option ℕ → Run nothing (Unit {0})
back_to f s = Done tt (record s { frame = f })

-- an event that was recorded is active from now on
abbrev pub activate : Reach → ℕ → Run nothing (Unit {0})
activate reach n s = Done tt (with_active (record { number = n; from_all = tt; reach = reach }) s)

abbrev pub activate_through : ℕ → ℕ → Run nothing (Unit {0})
activate_through n statement s = activate (Through s.frame statement) n s

-- these entries are active again
abbrev pub active_be : List (Active nothing) → Run nothing (Unit {0})
active_be entries s = Done tt (record s { active = entries })

abbrev pub local_slot : ℕ → Run nothing Slot
local_slot i = do
  f ← frame
  return (Local (code_of f) i)

-- the value in a slot alone
abbrev pub value_of_slot : Slot → Run nothing Value
value_of_slot x s = Done (held_of (s.store x)).value s

-- as the end of `note_write`
abbrev pub put : Slot → Value → Run nothing (Unit {0})
put x v s = Done tt (with_stored x (record { value = v; from_data = tt; from_all = tt }) s)

-- the New of an array of a type by its code, with so many elements
abbrev pub make_array : Program → ℕ → ℕ → ℕ → List Use → Run nothing (Made nothing)
make_array p site code n us = do
  take_elements n
  note_new p (about kind.New site code (Int (pos n))) (given Nothing us)

-- the Text of these units
abbrev pub make_text : ℕ → List ℕ → List Use → Run nothing (Made nothing)
make_text site units us = do
  take_units (length units)
  note (spelling site units) (given Nothing us)
