-- How the machine goes on is put together: what was done, then what is left to do.
use Rattle.std.proofs.Common.{◌≡◌, ◌∙◌, ℕ, ◌∷◌, map, refl, ap, ap₂, sym, subst, Result, Ok, Err}
use Rattle.wy_kernel.specs.Program.{Program}
use Rattle.wy_steps.specs.Sets.{nothing}
use Rattle.wy_steps.specs.State as run
use Rattle.wy_steps.specs.State.{State, Carried, Run, Outcome, go_on, ◌>>=◌, ◌>>◌, return, stop, leave}
use Rattle.wy_calls.specs.Calls.{CallFrame as Body, CallStack as Calls}
use Rattle.wy_state.specs.declared.parts.Halt.{Halt}
use Rattle.wy_state.specs.declared.parts.Halt.TheVariants.{Left, Stopped, Memory}
use Rattle.wy_state.specs.Agrees.{Shape, Onward, StepGives}
use Rattle.wy_state.specs.Seen.{reason_of, stop_of}
use Rattle.wy_state.proofs.Onward.{within, onward_as, onward_then, onward_same}
use Rattle.wy_meaning.specs.Run.{world}
use Rattle.wy_operation.specs.Around.{IsSameAround, KeepsAt}
use Rattle.wy_operands.specs.Values.{Values}
use Rattle.wy_work.specs.Expressions.{put_on}
use Rattle.wy_work.specs.Operands.{Given}
use Rattle.wy_work.specs.Tasks.{MachineState, around, after, then_all, goes, followed, Turned}
use Rattle.wy_operation.proofs.Runs.{go_on-go_on}

-- outcomes one after the other
-- the same stands around, and the same is left to do
pub record IsSettled (m n : MachineState) : Type 0 where
  pub around : around n ≡ around m
  pub work : n.work ≡ m.work

pub settled_same : (m : MachineState) → IsSettled m m
settled_same m = record { around = refl; work = refl }

pub settled_then : {m n l : MachineState} → IsSettled m n → IsSettled n l → IsSettled m l
settled_then a b = record { around = b.around ∙ a.around; work = b.work ∙ a.work }

-- a state whose bodies and scopes are the same
pub settled_state : (m : MachineState) (s : Shape) → IsSameAround m.state.calls s.calls → IsSettled m (record m { state = s })
settled_state m s same = record {
  around = ap₂ (λ bs ss. record { depth = m.depth; bodies = bs; scopes = ss; saved = m.saved }) same.frames same.scopes;
  work = refl;
}

pub settled_calls : (m : MachineState) (s : Shape) → s.calls ≡ m.state.calls → IsSettled m (record m { state = s })
settled_calls m s same = settled_state m s (record { frames = ap (λ (c : Calls). map (λ (f : Body). f.event) c.frames) same; scopes = ap (λ (c : Calls). c.scopes) same })

-- other values leave all of this
pub settled_values : (m n : MachineState) (vs : Values) → IsSettled m n → IsSettled m (record n { values = vs })
settled_values m n vs a = record { around = a.around; work = a.work }

pub then_settled : (p : Program) {m n : MachineState} (k : Run nothing Values) → IsSettled m n → then_all p m k ≡ then_all p n k
then_settled p k a = ap₂ (λ x fs s. after p x fs (k s)) (sym a.around) (sym a.work)

-- a run before one that the machine goes on with
pub turned_after : {X : Type 0} (p : Program) (m : Shape) (n q : MachineState) (f g : Run nothing Values) (r : Result X Halt) (next : X → Run nothing Values) → Onward p m f n.state g → Turned p g n.state r q next → Turned p f m r q next
turned_after p m n q f g (Ok x) next a b = onward_then a b
turned_after p m n q f g (Err (Left why)) next a b = onward_then a b
turned_after p m n q f g (Err (Stopped why)) next a b = onward_then a b
turned_after p m n q f g (Err Memory) next a b = tt

module _ {X : Type 0} (p : Program) (m n : MachineState) (f : Run nothing X) (k : X → Run nothing Values) where
  -- what was done, and the rest
  pub went : (x : X) → Onward p m.state f n.state (return x) → IsSettled m n → Onward p m.state (then_all p m (followed f k)) n.state (then_all p n (k x))
  unfolding go_on return
  went x a settled = subst (λ g. Onward p m.state (then_all p m (followed f k)) n.state g) (then_settled p (k x) settled) (within (λ o. after p (around m) m.work (go_on o k)) a)

  -- what was left or stopped before its end
  pub failed : {Y Z : Type 0} (view : Y → X) (e : Halt) (next : Z → Run nothing Values) → StepGives p view (Err e) m.state f n.state → IsSettled m n → Turned p (then_all p m (followed f k)) m.state (Err e) n next
  unfolding go_on leave stop
  failed view (Left why) next a settled = subst (λ g. Onward p m.state (then_all p m (followed f k)) n.state g) (then_settled p (leave (reason_of why)) settled) (within (λ o. after p (around m) m.work (go_on o k)) a)
  failed view (Stopped why) next a settled = subst (λ g. Onward p m.state (then_all p m (followed f k)) n.state g) (then_settled p (stop (stop_of why)) settled) (within (λ o. after p (around m) m.work (go_on o k)) a)
  failed view Memory next a settled = tt

-- a value of an operation comes on the stack
pub gave : (p : Program) (m n : MachineState) (f : Given) (v : Carried nothing) (vs : Values) → Onward p m.state f n.state (return v) → IsSettled m n → n.values ≡ v ∷ vs → Onward p m.state (then_all p m (put_on vs f)) n.state (goes p n)
unfolding return
gave p m n f v vs a settled values = subst (λ us. Onward p m.state (then_all p m (put_on vs f)) n.state (then_all p n (return us))) (sym values) (went p m n f (λ v. return (v ∷ vs)) v a settled)

-- the same where only the state changed, and the values on the stack
module _ (p : Program) (m : MachineState) (s : Shape) (us : Values) where
  pub kept_after : IsSameAround m.state.calls s.calls → IsSettled m (record m { state = s; values = us })
  kept_after same = settled_values m (record m { state = s }) us (settled_state m s same)

  pub failed_at : {X Y Z : Type 0} (f : Run nothing X) (k : X → Run nothing Values) (view : Y → X) (e : Halt) (next : Z → Run nothing Values) → StepGives p view (Err e) m.state f s → KeepsAt e m.state.calls s.calls →
      Turned p (then_all p m (followed f k)) m.state (Err e) (record m { state = s; values = us }) next
  failed_at f k view (Left why) next a same = failed p m (record m { state = s; values = us }) f k view (Left why) next a (kept_after same)
  failed_at f k view (Stopped why) next a same = failed p m (record m { state = s; values = us }) f k view (Stopped why) next a (kept_after same)
  failed_at f k view Memory next a same = tt

  -- what an operation gave, on the stack in place of its operands
  pub gave_at : (f : Given) (v : Carried nothing) (vs : Values) → Onward p m.state f s (return v) → IsSameAround m.state.calls s.calls → us ≡ v ∷ vs → Onward p m.state (then_all p m (put_on vs f)) s (goes p (record m { state = s; values = us }))
  gave_at f v vs a same values = gave p m (record m { state = s; values = us }) f v vs a (kept_after same) values

-- the world of a program has it
pub world_program : (p : Program) (depth : ℕ) → (world {A = nothing} p depth).program ≡ p
unfolding world
world_program p ℕ.zero = refl
world_program p (ℕ.suc depth) = refl

-- nothing of the state changed
pub same_around : (c : Calls) → IsSameAround c c
same_around c = record { frames = refl; scopes = refl }

-- what stays the same stands around at every end
pub keeps_calls : (e : Halt) (old new : Calls) → new ≡ old → KeepsAt e old new
keeps_calls (Left why) old new same = record { frames = ap (λ (c : Calls). map (λ (f : Body). f.event) c.frames) same; scopes = ap (λ (c : Calls). c.scopes) same }
keeps_calls (Stopped why) old new same = record { frames = ap (λ (c : Calls). map (λ (f : Body). f.event) c.frames) same; scopes = ap (λ (c : Calls). c.scopes) same }
keeps_calls Memory old new same = tt

-- the same run, said in another way
pub turned_as : {X : Type 0} (p : Program) (m q : MachineState) (f g : Run nothing Values) (r : Result X Halt) (next : X → Run nothing Values) → ((s : State nothing) → f s ≡ g s) → Turned p (then_all p m g) m.state r q next → Turned p (then_all p m f) m.state r q next
turned_as p m q f g r next same a = turned_after p m.state m q (then_all p m f) (then_all p m g) r next (onward_as (λ s. ap (after p (around m) m.work) (same s)) (onward_same p m.state (then_all p m g))) a

-- what ended early ends so whatever was to come
pub refused : {X Y : Type 0} (p : Program) (f : Run nothing Values) (m : Shape) (q : MachineState) (e : Halt) (before : X → Run nothing Values) (next : Y → Run nothing Values) → Turned p f m (Err e) q before → Turned p f m (Err e) q next
refused p f m q (Left why) before next a = a
refused p f m q (Stopped why) before next a = a
refused p f m q Memory before next a = tt
