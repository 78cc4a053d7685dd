-- The bodies that run with their locals, and what is active, as contracts see them. The newest come first.
use Rattle.std.specs.Prelude.{ℕ, ◌≡◌, ◌≢◌, ◌≤◌, ◌<◌, List, [], ◌∷◌, length, replicate, slice_get, slice_set, nat_eq, if◌then◌else◌, Option, Some}
use Rattle.std.specs.Prelude.{None as Absent}
use Rattle.wy_value.specs.declared.value.Value.{Value}
use Rattle.wy_value.specs.declared.value.Value.TheVariants.{None as Nothing}
use Rattle.wy_steps.specs.Sets.{nothing}
use Rattle.wy_steps.specs.State.{Active, Reach}
use Rattle.wy_kernel.specs.Limits.{depth_limit}
use Rattle.wy_steps.specs.Steps.{outlasting}
use Rattle.wy_calls.specs.declared.error.CallError.{CallError}
use Rattle.wy_calls.specs.declared.error.CallError.TheVariants.{TooDeep, NoMemory}

-- a body that runs, by the event that called it
pub record CallFrame : Type 0 where
  pub event : ℕ
  pub locals : List Value

-- scopes has what was active when each scope that isn't closed was opened
pub record CallStack : Type 0 where
  pub frames : List CallFrame
  pub active : List (Active nothing)
  pub scopes : List (List (Active nothing))

-- ---- what is asked

abbrev pub event_of : List CallFrame → Option ℕ
event_of [] = Absent
event_of (f ∷ fs) = Some f.event

-- the event of the newest body
abbrev pub frame_of : CallStack → Option ℕ
frame_of c = event_of c.frames

abbrev pub locals_of : List CallFrame → List Value
locals_of [] = []
locals_of (f ∷ fs) = f.locals

-- the value of a local of a live frame: some exactly where there is that frame, with that local
abbrev pub held : List CallFrame → ℕ → ℕ → Option Value
held [] event i = Absent
held (f ∷ fs) event i = if nat_eq f.event event then slice_get f.locals i else held fs event i

-- an active entry is of an event up to a number
abbrev pub IsUpTo : ℕ → Active nothing → Type 0
IsUpTo n a = a.number ≤ n

-- ---- what is done

abbrev pub nothing_runs : CallStack
nothing_runs = record { frames = []; active = []; scopes = [] }

-- a body begins, with so many locals without value
abbrev pub entered : ℕ → ℕ → CallStack → CallStack
entered event count c = record c { frames = record { event = event; locals = replicate count Nothing } ∷ c.frames }

-- a body is refused as too deep exactly where so many run, and then nothing changes
abbrev pub Refuses : CallError → CallStack → CallStack → Type 0
Refuses TooDeep old new = (depth_limit ≤ length old.frames) × (new ≡ old)
Refuses NoMemory old new = length old.frames < depth_limit

abbrev pub rest_of : {X : Type 0} → List X → List X
rest_of [] = []
rest_of (x ∷ xs) = xs

-- the newest body ends
abbrev pub left : CallStack → CallStack
left c = record c { frames = rest_of c.frames }

abbrev pub with_newest : ℕ → Value → List CallFrame → List CallFrame
with_newest i v [] = []
with_newest i v (f ∷ fs) = record { event = f.event; locals = slice_set f.locals i v } ∷ fs

-- a local of the newest body holds another value
abbrev pub with_local : ℕ → Value → CallStack → CallStack
with_local i v c = record c { frames = with_newest i v c.frames }

-- an event is active from now on
abbrev pub activated : ℕ → Reach → CallStack → CallStack
activated event reach c = record c { active = record { number = event; from_all = tt; reach = reach } ∷ c.active }

-- a statement of the newest body ends, and with it what reaches through it
abbrev pub ended : ℕ → CallStack → CallStack
ended statement c = record c { active = outlasting (frame_of c) statement c.active }

-- what is active now comes back with the end of the scope
abbrev pub opened : CallStack → CallStack
opened c = record c { scopes = c.active ∷ c.scopes }

abbrev pub first_of : {X : Type 0} → List (List X) → List X
first_of [] = []
first_of (x ∷ xs) = x

-- what was active when the newest scope was opened is active again
abbrev pub closed : CallStack → CallStack
closed c = record c { active = first_of c.scopes; scopes = rest_of c.scopes }

-- a statement of the newest body may end: a body runs, and nothing that comes back with the newest scope reaches through it
abbrev pub MayEnd : ℕ → CallStack → Type 0
MayEnd statement c = (frame_of c ≢ Absent) × (outlasting (frame_of c) statement (first_of c.scopes) ≡ first_of c.scopes)
