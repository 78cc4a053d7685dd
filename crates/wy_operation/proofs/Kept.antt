-- What stays around operations that are put together.
use Rattle.std.proofs.Common.{◌∙◌, Result, Ok, Err}
use Rattle.wy_calls.specs.Calls.{CallStack}
use Rattle.wy_operation.specs.Around.{IsSameAround, Keeps, KeepsAt}
use Rattle.wy_state.specs.declared.parts.Halt.{Halt}
use Rattle.wy_state.specs.declared.parts.Halt.TheVariants.{Left, Stopped, Memory}

pub around_after : (old mid new : CallStack) → IsSameAround old mid → IsSameAround mid new → IsSameAround old new
around_after old mid new a b = record { frames = b.frames ∙ a.frames; scopes = b.scopes ∙ a.scopes }

pub at_after : (e : Halt) (old mid new : CallStack) → IsSameAround old mid → KeepsAt e mid new → KeepsAt e old new
at_after (Left why) old mid new a b = around_after old mid new a b
at_after (Stopped why) old mid new a b = around_after old mid new a b
at_after Memory old mid new a b = tt

pub keeps_after : {X : Type 0} (r : Result X Halt) (old mid new : CallStack) → IsSameAround old mid → Keeps r mid new → Keeps r old new
keeps_after (Ok x) old mid new a b = around_after old mid new a b
keeps_after (Err e) old mid new a b = at_after e old mid new a b
