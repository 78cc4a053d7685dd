-- The state of a run, how a part of one ends, and how parts are put together.
use Rattle.std.specs.Prelude.{ℕ, Bool, true, false, List, Option}
use Rattle.wy_value.specs.declared.value.Value.{Value}
use Rattle.wy_event.specs.declared.record.Slot.{Slot}
use Rattle.wy_event.specs.declared.record.Use.{Use}
use Rattle.wy_event.specs.Record.{Recorded}
use Rattle.wy_steps.specs.Sets.{Sets}

-- a value with what it was made of, and the events that it comes from: by data, and in all
pub record Carried (A : Sets) : Type 0 where
  pub value : Value
  pub uses : List Use
  pub from_data : A.set
  pub from_all : A.set

-- what is in a slot
pub record Held (A : Sets) : Type 0 where
  pub value : Value
  pub from_data : A.set
  pub from_all : A.set

-- what every slot holds, where something was stored in it
abbrev pub Store : Sets → Type 0
Store A = Slot → Option (Held A)

-- an event with what it comes from, and the store just before it
pub record Noted (A : Sets) : Type 0 where
  pub event : Recorded
  pub from_data : A.set
  pub from_all : A.set
  pub before : Store A

-- an active entry ends with what it was made for, or with a statement of its frame
pub data Reach : Type 0 where
  Around : Reach
  Through : (frame : Option ℕ) (statement : ℕ) → Reach

-- an event that is active, with what it comes from
pub record Active (A : Sets) : Type 0 where
  pub number : ℕ
  pub from_all : A.set
  pub reach : Reach

-- what is known of a statement: how often it began and ended normally, the moment of its first begin, and what last left it
pub record Covered : Type 0 where
  pub begins : ℕ
  pub ends : ℕ
  pub first : Option ℕ
  pub cause : ℕ

-- noted and active have the newest first; uses, elements and units are counted in all
pub record State (A : Sets) : Type 0 where
  pub store : Store A
  pub noted : List (Noted A)
  pub active : List (Active A)
  pub frame : Option ℕ
  pub left : ℕ
  pub uses : ℕ
  pub elements : ℕ
  pub units : ℕ
  pub output : List ℕ
  pub input : List ℕ
  pub coverage : ℕ → Covered

-- what stops a run where it is; no `finally` runs
pub data Stop : Type 0 where
  StepLimit : Stop
  EventLimit : Stop
  UseLimit : Stop
  ElementLimit : Stop
  UnitLimit : Stop
  OutputLimit : Stop
  DepthLimit : Stop
  Unassigned : Stop
  FellOff : Stop
  InitFailed : (last : ℕ) → Stop

-- why a statement or an expression is left, with the Jump, Return or Throw that says so (JLS 14.1)
pub data Reason (A : Sets) : Type 0 where
  Jumped : (target event : ℕ) → Reason A
  Returned : (event : ℕ) (value : Carried A) → Reason A
  Threw : (event : ℕ) (value : Carried A) → Reason A

pub data Outcome (A : Sets) (X : Type 0) : Type 0 where
  Done : X → State A → Outcome A X
  Left : Reason A → State A → Outcome A X
  Stopped : Stop → State A → Outcome A X

abbrev pub Run : Sets → Type 0 → Type 0
Run A X = State A → Outcome A X

infixl 20 ◌>>=◌
infixl 20 ◌>>◌
unfoldable pub go_on : {A : Sets} {X Y : Type 0} → Outcome A X → (X → Run A Y) → Outcome A Y
go_on (Done x s) f = f x s
go_on (Left why s) f = Left why s
go_on (Stopped why s) f = Stopped why s

unfoldable pub ◌>>=◌ : {A : Sets} {X Y : Type 0} → Run A X → (X → Run A Y) → Run A Y
◌>>=◌ m f s = go_on (m s) f

unfoldable pub ◌>>◌ : {A : Sets} {X Y : Type 0} → Run A X → Run A Y → Run A Y
◌>>◌ m k = m >>= (λ _. k)

unfoldable pub return : {A : Sets} {X : Type 0} → X → Run A X
return x s = Done x s

unfoldable pub leave : {A : Sets} {X : Type 0} → Reason A → Run A X
leave why s = Left why s

unfoldable pub stop : {A : Sets} {X : Type 0} → Stop → Run A X
stop why s = Stopped why s

unfoldable pub go_on_left : {A : Sets} {X : Type 0} → Outcome A X → (Reason A → Run A X) → Outcome A X
go_on_left (Done x s) f = Done x s
go_on_left (Left why s) f = f why s
go_on_left (Stopped why s) f = Stopped why s

-- what is done where a part of a run is left early
unfoldable pub catching : {A : Sets} {X : Type 0} → Run A X → (Reason A → Run A X) → Run A X
catching m f s = go_on_left (m s) f

unfoldable pub choose : {A : Sets} {X : Type 0} → Bool → Run A X → Run A X → Run A X
choose true m k = m
choose false m k = k
