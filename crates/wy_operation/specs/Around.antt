-- What stays of a run around an operation, and what it is that a run always ends before its end.
use Rattle.std.specs.Prelude.{◌≡◌, map, Result, Ok, Err}
use Rattle.wy_calls.specs.Calls.{CallFrame, CallStack}
use Rattle.wy_kernel.specs.Program.{Program}
use Rattle.wy_steps.specs.Sets.{nothing}
use Rattle.wy_steps.specs.State.{Run}
use Rattle.wy_state.specs.Agrees.{Shape, StepGives, itself}
use Rattle.wy_state.specs.declared.parts.Halt.{Halt}
use Rattle.wy_state.specs.declared.parts.Halt.TheVariants.{Left, Stopped, Memory}

-- the same bodies run, and the same scopes are open; locals and active entries may differ
pub record IsSameAround (old new : CallStack) : Type 0 where
  pub frames : map (λ (f : CallFrame). f.event) new.frames ≡ map (λ (f : CallFrame). f.event) old.frames
  pub scopes : new.scopes ≡ old.scopes

-- so it is where a run was left or stopped; memory may be wanting in the middle
abbrev pub KeepsAt : Halt → CallStack → CallStack → Type 0
KeepsAt (Left why) old new = IsSameAround old new
KeepsAt (Stopped why) old new = IsSameAround old new
KeepsAt Memory old new = Unit {0}

abbrev pub Keeps : {X : Type 0} → Result X Halt → CallStack → CallStack → Type 0
Keeps (Ok x) old new = IsSameAround old new
Keeps (Err e) old new = KeepsAt e old new

-- a run from which nothing goes on ended so
abbrev pub Ends : Program → Halt → Shape → Run nothing ⊥ → Shape → Type 0
Ends p e m f n = StepGives p (itself {X = ⊥}) (Err e) m f n

-- a statement was left, or the run stopped, so
abbrev pub Leaves : Program → Halt → Shape → Run nothing (Unit {0}) → Shape → Type 0
Leaves p e m f n = StepGives p (itself {X = Unit {0}}) (Err e) m f n
