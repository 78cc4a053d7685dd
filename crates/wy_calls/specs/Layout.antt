-- How what stands of the calls lies in memory, where the newest come last; the lists here have the newest first.
use Rattle.std.specs.Prelude.{ℕ, ◌≡◌, ◌≤◌, ◌<◌, Bool, false, ◌&&◌, not, nat_eq, if◌then◌else◌, List, [], ◌∷◌, map, reverse, take, drop, length, ◌+◌, Option, Some}
use Rattle.std.specs.Prelude.{None as Absent}
use Rattle.std.specs.Option.{IsSomeAnd}
use Rattle.std.specs.List.{All, AllPairs}
use Rattle.wy_kernel.specs.View.{NONE}
use Rattle.wy_value.specs.declared.value.Value.{Value}
use Rattle.wy_steps.specs.Sets.{nothing}
use Rattle.wy_steps.specs.State.{Active}
use Rattle.wy_steps.specs.State as run
use Rattle.wy_calls.specs.Calls.{CallFrame, locals_of}
use Rattle.wy_calls.specs.declared.parts.Live.{Live}
use Rattle.wy_calls.specs.declared.parts.Reach.{Reach}
use Rattle.wy_calls.specs.declared.parts.Reach.TheVariants.{Around, Through}
use Rattle.wy_calls.specs.declared.parts.Entry.{Entry}
use Rattle.wy_calls.specs.declared.parts.Begun.{Begun}

-- the locals of all frames lie behind one another
abbrev pub framed : List Live → List Value → List CallFrame
framed [] vs = []
framed (l ∷ ls) vs = record { event = l.event; locals = drop l.base vs } ∷ framed ls (take l.base vs)

abbrev pub newest_of : List Live → Option ℕ
newest_of [] = Absent
newest_of (l ∷ ls) = Some l.event

-- where a local of the newest frame lies
abbrev pub IsPlace : List Live → List Value → ℕ → ℕ → Type 0
IsPlace [] vs i at = ⊥
IsPlace (l ∷ ls) vs i at = (at ≡ l.base + i) × (at < length vs)

-- none exactly where the newest frame hasn't that local
abbrev pub IsPlaceOf : Option ℕ → List Live → List Value → ℕ → Type 0
IsPlaceOf Absent ls vs i = length (locals_of (framed ls vs)) ≤ i
IsPlaceOf (Some at) ls vs i = IsPlace ls vs i at

abbrev pub reach_seen : Reach → run.Reach
reach_seen Around = run.Around
reach_seen (Through frame statement) = run.Through (Some frame) statement

abbrev pub active_of : Entry → Active nothing
active_of e = record { number = e.number; from_all = tt; reach = reach_seen e.reach }

abbrev pub active_in : List Entry → List (Active nothing)
active_in es = map active_of (reverse es)

-- of each scope the number of entries is kept
abbrev pub scopes_in : List Entry → List ℕ → List (List (Active nothing))
scopes_in es ns = map (λ n. active_in (take n es)) ns

-- an entry ends with a statement of a frame
abbrev pub ends_with : ℕ → ℕ → Reach → Bool
ends_with frame statement Around = false
ends_with frame statement (Through f n) = nat_eq frame f && nat_eq statement n

abbrev pub outlasts : ℕ → ℕ → Entry → Bool
outlasts frame statement e = not (ends_with frame statement e.reach)

abbrev pub is_of : Begun → ℕ → ℕ → Bool
is_of o frame statement = nat_eq o.frame frame && nat_eq o.statement statement

abbrev pub is_innermost : List Begun → ℕ → ℕ → Bool
is_innermost [] frame statement = false
is_innermost (o ∷ os) frame statement = is_of o frame statement

-- the mark of a statement of a frame that has begun and hasn't ended
abbrev pub mark_in : List Begun → ℕ → ℕ → Option ℕ
mark_in [] frame statement = Absent
mark_in (o ∷ os) frame statement = if is_of o frame statement then Some o.mark else mark_in os frame statement

-- without a statement, where it is the innermost that has begun
abbrev pub without : List Begun → ℕ → ℕ → List Begun
without [] frame statement = []
without (o ∷ os) frame statement = if is_of o frame statement then os else o ∷ os

-- an event reaches around, or through a statement that began with its mark or a lower one
abbrev pub Sits : List Begun → ℕ → Reach → Type 0
Sits os number Around = Unit {0}
Sits os number (Through frame statement) = IsSomeAnd (mark_in os frame statement) (λ m. m ≤ number)

-- each entry is of an event above those of the entries below it
abbrev pub Ascends : List Entry → Type 0
Ascends es = AllPairs (λ a b. a.number < b.number) es

abbrev pub IsBelow : Entry → ℕ → Type 0
IsBelow e number = e.number < number

-- an event above those of all entries
abbrev pub IsNext : List Entry → ℕ → Type 0
IsNext es number = (number < NONE) × All (λ e. IsBelow e number) es

abbrev pub IsAtMost : List Begun → ℕ → Type 0
IsAtMost [] frame = Unit {0}
IsAtMost (o ∷ os) frame = o.frame ≤ frame

abbrev pub MayBegin : List Begun → ℕ → ℕ → Type 0
MayBegin os frame statement = IsAtMost os frame × (mark_in os frame statement ≡ Absent)

-- the frames of statements that have begun rise
abbrev pub Rises : List Begun → Type 0
Rises [] = Unit {0}
Rises (o ∷ os) = IsAtMost os o.frame × Rises os

-- marks fall from a bound
abbrev pub Falls : List ℕ → ℕ → Type 0
Falls [] bound = Unit {0}
Falls (n ∷ ns) bound = (n ≤ bound) × Falls ns n

abbrev pub IsUnder : List ℕ → ℕ → Type 0
IsUnder [] bound = Unit {0}
IsUnder (n ∷ ns) bound = n ≤ bound

pub record IsStanding (begun : List Begun) (active : List Entry) (scopes : List ℕ) : Type 0 where
  pub sits : All (λ e. Sits begun e.number e.reach) active
  pub ascends : Ascends active
  pub rises : Rises begun
  pub falls : Falls scopes (length active)
