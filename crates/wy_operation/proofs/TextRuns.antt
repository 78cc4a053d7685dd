-- How operations on texts are put together, and what stays around them.
use Rattle.std.proofs.Common.{◌≡◌, refl, Result, Ok, Err}
use Rattle.wy_calls.specs.Calls.{CallStack}
use Rattle.wy_kernel.specs.Program.{Program}
use Rattle.wy_steps.specs.Sets.{nothing}
use Rattle.wy_steps.specs.State.{Run, ◌>>=◌, return}
use Rattle.wy_operation.specs.Around.{IsSameAround, Keeps}
use Rattle.wy_operation.proofs.Runs.{answers_next, done_first}
use Rattle.wy_state.specs.Agrees.{Shape, Onward, StepGives}
use Rattle.wy_state.specs.declared.parts.Halt.{Halt}
use Rattle.wy_state.specs.declared.parts.Halt.TheVariants.{Left, Stopped, Memory}

-- a step that was done, and what answers after it
pub answers_bind : {X Y Z : Type 0} (p : Program) (view : X → Y) (r : Result X Halt) (m n l : Shape) (f : Run nothing Z) (z : Z) (k : Z → Run nothing Y) → Onward p m f n (return z) → StepGives p view r n (k z) l → StepGives p view r m (f >>= k) l
answers_bind p view r m n l f z k a b = answers_next p view r m n l (f >>= k) (k z) (done_first f k z a) b

-- what was refused is so whatever would have been carried
pub refused_as : {X Y Z : Type 0} (p : Program) (view : X → Y) (other : Z → Y) (e : Halt) (m n : Shape) (f : Run nothing Y) → StepGives p view (Err e) m f n → StepGives p other (Err e) m f n
refused_as p view other (Left why) m n f a = a
refused_as p view other (Stopped why) m n f a = a
refused_as p view other Memory m n f a = tt

same_around : (old new : CallStack) → new ≡ old → IsSameAround old new
same_around old new is = rw is (record { frames = refl; scopes = refl })

pub keeps_same : {X : Type 0} (r : Result X Halt) (old new : CallStack) → new ≡ old → Keeps r old new
keeps_same (Ok x) old new is = same_around old new is
keeps_same (Err (Left why)) old new is = same_around old new is
keeps_same (Err (Stopped why)) old new is = same_around old new is
keeps_same (Err Memory) old new is = tt
