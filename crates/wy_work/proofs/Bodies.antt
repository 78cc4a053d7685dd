-- What the tasks of a body stand for: its Binds, its block and its end.
use Rattle.std.proofs.Common.{◌≡◌, ◌∙◌, ℕ, suc, [], ◌∷◌, refl, ap, sym, subst, Bool, true, false, nat_lt, nat_le, length, Option, Some, Result, Ok, Err}
use Rattle.std.specs.Prelude.{None as Absent, ◌+◌}
use Rattle.std.specs.Borrow.{Bor}
use Rattle.wy_kernel.specs.declared.form.Stmt.{Stmt as Written}
use Rattle.wy_kernel.specs.declared.types.MethodForm.{MethodForm}
use Rattle.wy_kernel.specs.declared.types.MethodForm.TheVariants.{Constructor, Static, Instance, Fields}
use Rattle.wy_kernel.specs.Program.{Program, Body as Code, body, method, local_site}
use Rattle.wy_kernel.specs.View.{statement}
use Rattle.wy_event.specs.declared.record.Slot.TheVariants as slot
use Rattle.wy_event.specs.declared.record.Kind.TheVariants as kind
use Rattle.wy_value.specs.declared.value.Value.TheVariants as val
use Rattle.wy_steps.specs.Sets.{nothing}
use Rattle.wy_steps.specs.State as run
use Rattle.wy_steps.specs.State.{State, Carried, Run, Outcome, go_on, go_on_left, ◌>>=◌, ◌>>◌, return, stop, choose, catching}
use Rattle.wy_kernel.specs.Limits.{event_limit, use_limit}
use Rattle.wy_steps.specs.Steps.{constant, Draft, note, note_write, writing, room_for, scoped, in_frame}
use Rattle.wy_meaning.specs.World.{into, about}
use Rattle.wy_meaning.specs.Run.{world, call_body}
use Rattle.wy_meaning.specs.Call.{bind_all, bound, call_method, call_uses, end_body, at_return, run_body, frame_of_call, is_void}
use Rattle.wy_meaning.specs.Statement.{exec}
use Rattle.wy_calls.specs.Calls.{first_of}
use Rattle.wy_state.specs.Agrees.{Shape, Onward, StepGives, itself}
use Rattle.wy_state.specs.declared.parts.Halt.{Halt}
use Rattle.wy_state.specs.declared.parts.Halt.TheVariants.{Left, Stopped, Memory}
use Rattle.wy_operation.specs.Around.{Keeps}
use Rattle.wy_state.proofs.Onward.{onward_as, onward_then, onward_same}
use Rattle.wy_operands.specs.Values.{Values, at, under_many, last_many}
use Rattle.wy_work.specs.declared.task.Task.TheVariants as task
use Rattle.wy_work.specs.declared.task.Step.TheVariants as step
use Rattle.wy_work.specs.declared.task.StmtStep.TheVariants as doing
use Rattle.wy_work.specs.Calls.{IsSameStack, Enters, begun}
use Rattle.wy_work.specs.Expressions.{put_on}
use Rattle.wy_work.specs.Statements.{emptied, forgotten}
use Rattle.wy_work.specs.Tasks.{MachineState, around, after, pushed, then_all, followed, Turned, Resumed}
use Rattle.wy_work.proofs.Runs.{world_program, went, failed_at, settled_state}
use Rattle.wy_work.proofs.Begins.{forgotten_emptied}
use Rattle.wy_work.proofs.Rows.{last_more}
use Rattle.wy_work.proofs.Calls.{enters_call}

-- ---- Binds are never left

abbrev IsGoing : {X : Type 0} → Outcome nothing X → Type 0
IsGoing (run.Done x s) = Unit {0}
IsGoing (run.Left why s) = ⊥
IsGoing (run.Stopped why s) = Unit {0}

going_on : {X Y : Type 0} (o : Outcome nothing X) (k : X → Run nothing Y) → IsGoing o → ((x : X) (s : State nothing) → IsGoing (k x s)) → IsGoing (go_on o k)
unfolding go_on
going_on (run.Done x s) k a b = b x s
going_on (run.Left why s) k a b = absurd a
going_on (run.Stopped why s) k a b = tt

choice_going : {X : Type 0} (b : Bool) (m k : Run nothing X) (s : State nothing) → IsGoing (m s) → IsGoing (k s) → IsGoing (choose b m k s)
unfolding choose
choice_going true m k s x y = x
choice_going false m k s x y = y

write_going : (d : Draft) (c : Carried nothing) (s : State nothing) → IsGoing (note_write d c s)
unfolding note_write room_for writing stop
write_going d c s = choice_going (nat_lt (length s.noted) event_limit) (choose (nat_le (s.uses + length c.uses) use_limit) (writing d c) (stop run.UseLimit)) (stop run.EventLimit) s (choice_going (nat_le (s.uses + length c.uses) use_limit) (writing d c) (stop run.UseLimit) s tt tt) tt

binds_going : (b : Code) (f i : ℕ) (vs : Values) (s : State nothing) → IsGoing (bind_all b f i vs s)
unfolding bind_all ◌>>=◌ return
binds_going b f i [] s = tt
binds_going b f i (v ∷ vs) s = going_on (note_write (into kind.Bind (local_site b i) (slot.Local f i) v.value) v s) (λ e. bind_all b f (suc i) vs) (write_going (into kind.Bind (local_site b i) (slot.Local f i) v.value) v s) (λ e t. binds_going b f (suc i) vs t)

-- ---- the tasks of a call

module _ (block : Run nothing (Unit {0})) (returns_none : Bool) (site : ℕ) where
  body_after : (o : Outcome nothing (Unit {0})) → IsGoing o →
      go_on o (λ u. run_body block returns_none site) ≡ go_on_left (go_on (forgotten (go_on (go_on o (λ u. return {X = Values} [])) (λ vs. emptied block))) (λ u. end_body returns_none site)) at_return
  unfolding run_body catching go_on go_on_left ◌>>◌ ◌>>=◌ return
  body_after (run.Done u s) going = ap (λ z. go_on_left (go_on z (λ x. end_body returns_none site)) at_return) (forgotten_emptied (block s))
  body_after (run.Left why s) going = absurd going
  body_after (run.Stopped why s) going = refl

module _ (p : Program) (n : MachineState) (b : Code) (returns_none : Bool) (event : ℕ) (values : Values) where
  call_frames : (x : Bor Written) (q : MachineState) → statement x.now ≡ b.block → q ≡ pushed (task.Stmt x doing.Do) (pushed (task.Plain (step.BodyEnd returns_none b.end)) n) → (s : State nothing) →
      then_all p n (put_on [] (frame_of_call b (exec (world p n.depth) b.block) returns_none event values)) s ≡ then_all p q (followed (bind_all b event 0 values) (λ u. return [])) s
  unfolding frame_of_call ◌>>◌ ◌>>=◌
  call_frames x q is pushes s =
      ap (λ st. then_all p n (put_on [] (frame_of_call b (exec (world p n.depth) st) returns_none event values)) s) (sym is)
      ∙ ap (λ z. after p (around n) n.work (go_on z (λ v. return (v ∷ [])))) (body_after (exec (world p n.depth) (statement x.now)) returns_none b.end (bind_all b event 0 values s) (binds_going b event 0 values s))
      ∙ ap (λ z. then_all p z (followed (bind_all b event 0 values) (λ u. return [])) s) (sym pushes)

-- what a call does, where there is room for its frame
module _ (p : Program) (site number depth : ℕ) (b : Code) (r : Option (Carried nothing)) (args : Values) where
  abbrev pub in_call : ℕ → Run nothing (Carried nothing)
  in_call e = in_frame e (frame_of_call b (exec (world p depth) b.block) (is_void (method p number).result) e (bound r args))

  pub call_is : (d : ℕ) → d ≡ suc depth → body p number ≡ Some b → (s : State nothing) → (world p d).call site number r args s ≡ begun (note (about kind.Call site number val.None) (call_uses (method p number).form r)) in_call s
  unfolding world call_body call_method scoped ◌>>=◌
  call_is d is has s = rw is (ap (λ z. call_body (world p depth) site number z r args s) has ∙ ap (λ z. call_method site number (method z number) b (exec (world p depth) b.block) r args s) (world_program p depth))

module _ (p : Program) (site number : ℕ) (b : Code) (r : Option (Carried nothing)) (args : Values) (count event : ℕ) (m l n q : MachineState) where
  pub called : body p number ≡ Some b → bound r args ≡ last_many count m.values → IsSameStack m l → Enters p event (step.LeaveCall count) l n →
      Onward p m.state (then_all p m (put_on (under_many count m.values) (begun (note (about kind.Call site number val.None) (call_uses (method p number).form r)) (in_call p site number n.depth b r args)))) l.state (then_all p l (put_on (under_many count m.values) (in_call p site number n.depth b r args event))) →
      (x : Bor Written) → statement x.now ≡ b.block → q ≡ pushed (task.Stmt x doing.Do) (pushed (task.Plain (step.BodyEnd (is_void (method p number).result) b.end)) n) →
      Onward p m.state (then_all p m (put_on (under_many count m.values) ((world p m.depth).call site number r args))) q.state (then_all p q (followed (bind_all b event 0 (last_many count (first_of q.saved))) (λ u. return [])))
  called has args_are same e begins x is pushes =
      let f = frame_of_call b (exec (world p n.depth) b.block) (is_void (method p number).result) event (bound r args) in
      let rest = λ (vs : Values). then_all p q (followed (bind_all b event 0 vs) (λ u. return [])) in
      let values = args_are ∙ ap (last_many count) (sym same.values ∙ ap first_of (sym e.saved) ∙ ap (λ (z : MachineState). first_of z.saved) (sym pushes)) in
      let enters = subst (λ vs. Onward p l.state (then_all p l (put_on (under_many count vs) (in_frame event f))) n.state (then_all p n (put_on [] f))) same.values (enters_call p l n event count e f) in
      let frames = subst (λ z. Onward p n.state (then_all p n (put_on [] f)) z (rest (bound r args))) (ap (λ (z : MachineState). z.state) (sym pushes)) (onward_as (call_frames p n b (is_void (method p number).result) event (bound r args) x q is pushes) (onward_same p n.state (rest (bound r args)))) in
      subst (λ vs. Onward p m.state (then_all p m (put_on (under_many count m.values) ((world p m.depth).call site number r args))) q.state (rest vs)) values
      (onward_then (onward_as (λ s. ap (λ z. after p (around m) m.work (go_on z (λ v. return (v ∷ under_many count m.values)))) (call_is p site number n.depth b r args m.depth (sym same.depth ∙ sym e.depth) has s)) begins) (onward_then enters frames))

-- a step that answers, and what comes after it
pub turned_by : {X : Type 0} (p : Program) (m : MachineState) (s : Shape) (f : Run nothing X) (r : Result X Halt) (next : Run nothing Values) → StepGives p itself r m.state f s → Keeps r m.state.calls s.calls → Turned p (then_all p m (followed f (λ u. next))) m.state r (record m { state = s }) (λ u. next)
turned_by p m s f (Ok x) next a same = went p m (record m { state = s }) f (λ u. next) x a (settled_state m s same)
turned_by p m s f (Err e) next a same = failed_at p m s m.values f (λ u. next) itself e (λ u. next) a same

module _ (p : Program) (m : MachineState) (site number count : ℕ) (r : Option (Carried nothing)) (args : Values) where
  abbrev calling : Run nothing Values
  calling = then_all p m (put_on (under_many count m.values) ((world p m.depth).call site number r args))

  -- no body may begin
  pub too_deep : m.depth ≡ 0 → Onward p m.state calling m.state (then_all p m (stop run.DepthLimit))
  unfolding world stop go_on
  too_deep is = onward_as (λ s. ap (λ d. after p (around m) m.work (go_on ((world p d).call site number r args s) (λ v. return (v ∷ under_many count m.values)))) is) (onward_same p m.state _)

  -- there is no body
  pub fell_off : (d : ℕ) → m.depth ≡ suc d → body p number ≡ Absent → Onward p m.state calling m.state (then_all p m (stop run.FellOff))
  unfolding world call_body stop go_on
  fell_off d is none = onward_as (λ s. ap (λ x. after p (around m) m.work (go_on ((world p x).call site number r args s) (λ v. return (v ∷ under_many count m.values)))) is ∙ ap (λ x. after p (around m) m.work (go_on (call_body (world p d) site number x r args s) (λ v. return (v ∷ under_many count m.values)))) none) (onward_same p m.state _)

  -- the Call wasn't recorded
  pub call_refused : {X Y : Type 0} (b : Code) (d : ℕ) (l : MachineState) (e : Halt) (after_it : X → Run nothing Values) (next : Y → Run nothing Values) → m.depth ≡ suc d → body p number ≡ Some b →
      Turned p (then_all p m (put_on (under_many count m.values) (begun (note (about kind.Call site number val.None) (call_uses (method p number).form r)) (in_call p site number d b r args)))) m.state (Err e) l after_it → Turned p calling m.state (Err e) l next
  call_refused b d l (Left why) after_it next is has a = onward_as (λ s. ap (λ z. after p (around m) m.work (go_on z (λ v. return (v ∷ under_many count m.values)))) (call_is p site number d b r args m.depth is has s)) a
  call_refused b d l (Stopped why) after_it next is has a = onward_as (λ s. ap (λ z. after p (around m) m.work (go_on z (λ v. return (v ∷ under_many count m.values)))) (call_is p site number d b r args m.depth is has s)) a
  call_refused b d l Memory after_it next is has a = tt

pub pushes_body : (x : Bor Written) (q u n : MachineState) (v w : Bool) (site : ℕ) → q ≡ pushed (task.Stmt x doing.Do) u → u ≡ pushed (task.Plain (step.BodyEnd v site)) n → v ≡ w → q ≡ pushed (task.Stmt x doing.Do) (pushed (task.Plain (step.BodyEnd w site)) n)
pushes_body x q u n v w site a b is = a ∙ ap (pushed (task.Stmt x doing.Do)) (b ∙ ap (λ z. pushed (task.Plain (step.BodyEnd z site)) n) is)

-- without a receiver nothing is used
pub no_receiver : (f : MethodForm) → (call_uses {A = nothing} f Absent).uses ≡ []
unfolding call_uses constant
no_receiver Constructor = refl
no_receiver Static = refl
no_receiver Instance = refl
no_receiver Fields = refl

pub constructed_on : (f : MethodForm) (r : Option (Carried nothing)) → f ≡ Constructor → (call_uses f r).uses ≡ []
unfolding call_uses constant
constructed_on f r is = rw is refl

pub called_on : (f : MethodForm) (r : Carried nothing) → (f ≡ Constructor → ⊥) → (call_uses f (Some r)).uses ≡ r.uses
unfolding call_uses
called_on Constructor r other = absurd (other refl)
called_on Static r other = refl
called_on Instance r other = refl
called_on Fields r other = refl

pub bound_none : (args : Values) → bound Absent args ≡ args
unfolding bound
bound_none args = refl

-- a receiver is the first of the last values
pub bound_receiver : (n count : ℕ) (vs : Values) → n ≡ suc count → bound (Some (at count vs)) (last_many count vs) ≡ last_many n vs
unfolding bound
bound_receiver n count vs is = sym (last_more count vs) ∙ ap (λ k. last_many k vs) (sym is)

-- so many values and one are taken off
pub one_under : (p : Program) (m q : MachineState) (r : Result (Unit {0}) Halt) (f : Run nothing (Carried nothing)) (n count : ℕ) → n ≡ suc count → Resumed p (then_all p m (put_on (under_many n m.values) f)) m.state r q → Resumed p (then_all p m (put_on (under_many (suc count) m.values) f)) m.state r q
one_under p m q r f n count is a = subst (λ k. Resumed p (then_all p m (put_on (under_many k m.values) f)) m.state r q) is a
