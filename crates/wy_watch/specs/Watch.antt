-- The value of a watch text at a moment, and when it has none.
use Rattle.std.specs.Prelude.{◌≡◌, ℕ, List, Some, Result, Err}
use Rattle.wy_kernel.specs.Program.{Program}
use Rattle.wy_value.specs.declared.value.Value.{Value as Given}
use Rattle.wy_event.specs.Record.{Recorded}
use Rattle.wy_view.specs.View.{RefusedFor, Told}
use Rattle.wy_syntax.specs.Syntax.{Expression}
use Rattle.wy_watch.specs.declared.error.WatchError.{WatchError}
use Rattle.wy_watch.specs.declared.error.WatchError.TheVariants as errors
use Rattle.wy_watch.specs.Watched.{IsWatched}
use Rattle.wy_watch.specs.Sight.{sight_at}
use Rattle.wy_watch.specs.Value.{value}

-- just before event m, a text is an expression that has this value
pub record IsValueOf (p : Program) (rs : List Recorded) (m : ℕ) (text : List ℕ) (v : Given) : Type 0 where
  pub expression : Expression
  pub watched : IsWatched text expression
  pub is : value (sight_at p rs m) expression ≡ Some v

abbrev pub HasNoValue : Program → List Recorded → ℕ → List ℕ → Type 0
HasNoValue p rs m text = (v : Given) → ¬ IsValueOf p rs m text v

-- NoValue is answered where this is so
abbrev pub IfNoValue : Type 0 → WatchError → Type 0
IfNoValue so errors.NoValue = so
IfNoValue so (errors.View error) = Unit {0}
IfNoValue so errors.NoMemory = Unit {0}

-- a view's refusal has its cause, and every other answer leaves the view's faults
abbrev pub KeepsView : Result Given WatchError → Told → Told → Type 0
KeepsView (Err (errors.View error)) old new = RefusedFor error old new
KeepsView _ old new = new.faults ≡ old.faults

-- a text has at most one value
abbrev pub OneValue : Type 0
OneValue = (p : Program) (rs : List Recorded) (m : ℕ) (text : List ℕ) (v w : Given) → IsValueOf p rs m text v → IsValueOf p rs m text w → v ≡ w
