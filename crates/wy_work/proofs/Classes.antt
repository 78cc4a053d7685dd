-- The initialization of a class: nothing that it throws is left to whoever needs the class, so that its frames may catch twice.
use Rattle.std.proofs.Common.{◌≡◌, ◌∙◌, ℕ, suc, List, [], refl, ap, sym, subst, Bool, true, false, not, ◌<◌, nat_lt, nat_le, length, Option, Some, Err}
use Rattle.std.specs.Prelude.{None as Absent, ◌+◌}
use Rattle.wy_kernel.specs.Program.{Program, class, init_body, is_source}
use Rattle.wy_event.specs.declared.record.Kind.TheVariants as kind
use Rattle.wy_value.specs.declared.value.Value.TheVariants as val
use Rattle.wy_steps.specs.Sets.{nothing}
use Rattle.wy_steps.specs.State as run
use Rattle.wy_steps.specs.State.{State, Active, Carried, Run, Outcome, Around as Within, go_on, go_on_left, ◌>>=◌, ◌>>◌, return, stop, leave, choose, catching}
use Rattle.wy_kernel.specs.Limits.{event_limit, use_limit}
use Rattle.wy_steps.specs.Steps.{constant, Draft, Made, note_new, creating, room_for, activating, go_in, entered, active_again, frame_again, scoped, in_frame, is_begun}
use Rattle.wy_meaning.specs.World.{World, about}
use Rattle.wy_meaning.specs.Place.{initialize, initialize_source}
use Rattle.wy_meaning.specs.Run.{world, init_block}
use Rattle.wy_meaning.specs.Call.{at_failure, initialization, initialize_above}
use Rattle.std.proofs.lemmas.Bool.Decides.{Decides-ltb}
use Rattle.wy_calls.proofs.Entries.{is_less}
use Rattle.wy_state.specs.Agrees.{Onward}
use Rattle.wy_state.proofs.Onward.{onward_as, onward_same, within, onward_then}
use Rattle.wy_work.specs.Tasks.{MachineState, Turned, after, around, goes, pushed, then_all}
use Rattle.wy_work.specs.Calls.{IsSameStack, Enters, begun}
use Rattle.wy_work.proofs.Runs.{world_program}
use Rattle.wy_state.specs.declared.parts.Halt.{Halt}
use Rattle.wy_state.specs.declared.parts.Halt.TheVariants.{Left, Stopped, Memory}
use Rattle.wy_state.specs.Seen.{given}
use Rattle.wy_work.specs.Expressions.{leaving}
use Rattle.wy_work.specs.Statements.{emptied, forgotten}
use Rattle.wy_operands.specs.Values.{Values}
use Rattle.wy_work.proofs.Begins.{forgotten_emptied}
use Rattle.std.specs.Borrow.{Bor}
use Rattle.wy_kernel.specs.Program.{Body as Code}
use Rattle.wy_kernel.specs.View.{statement}
use Rattle.wy_kernel.specs.declared.form.Stmt.{Stmt as Written}
use Rattle.wy_meaning.specs.Statement.{exec}
use Rattle.wy_work.specs.declared.task.Task.TheVariants as task
use Rattle.wy_work.specs.declared.task.Step.TheVariants as step
use Rattle.wy_work.specs.declared.task.StmtStep.TheVariants as doing
use Rattle.wy_work.proofs.Calls.{enters_class}

pub init_noted : (p : Program) (site c : ℕ) (s : State nothing) → note_new p (about kind.Init site c val.None) (constant val.None) s ≡ note_new p (about kind.Init site c val.None) (given val.None []) s
unfolding constant
init_noted p site c s = refl

-- ---- nothing is thrown

abbrev pub IsCalm : {X : Type 0} → Outcome nothing X → Type 0
IsCalm (run.Done x s) = Unit {0}
IsCalm (run.Left (run.Jumped target e) s) = Unit {0}
IsCalm (run.Left (run.Returned e v) s) = Unit {0}
IsCalm (run.Left (run.Threw e v) s) = ⊥
IsCalm (run.Stopped why s) = Unit {0}

calm_on : {X Y : Type 0} (o : Outcome nothing X) (k : X → Run nothing Y) → IsCalm o → ((x : X) (s : State nothing) → IsCalm (k x s)) → IsCalm (go_on o k)
unfolding go_on
calm_on (run.Done x s) k a b = b x s
calm_on (run.Left (run.Jumped target e) s) k a b = tt
calm_on (run.Left (run.Returned e v) s) k a b = tt
calm_on (run.Left (run.Threw e v) s) k a b = absurd a
calm_on (run.Stopped why s) k a b = tt

calm_active : {X : Type 0} (entries : List (Active nothing)) (o : Outcome nothing X) → IsCalm o → IsCalm (active_again entries o)
unfolding active_again
calm_active entries (run.Done x s) a = tt
calm_active entries (run.Left (run.Jumped target e) s) a = tt
calm_active entries (run.Left (run.Returned e v) s) a = tt
calm_active entries (run.Left (run.Threw e v) s) a = absurd a
calm_active entries (run.Stopped why s) a = tt

calm_frame : {X : Type 0} (f : Option ℕ) (o : Outcome nothing X) → IsCalm o → IsCalm (frame_again f o)
unfolding frame_again
calm_frame f (run.Done x s) a = tt
calm_frame f (run.Left (run.Jumped target e) s) a = tt
calm_frame f (run.Left (run.Returned e v) s) a = tt
calm_frame f (run.Left (run.Threw e v) s) a = absurd a
calm_frame f (run.Stopped why s) a = tt

calm_in : (o : Outcome nothing (Made nothing)) → IsCalm o → IsCalm (go_in Within o)
unfolding go_in entered
calm_in (run.Done x s) a = tt
calm_in (run.Left (run.Jumped target e) s) a = tt
calm_in (run.Left (run.Returned e v) s) a = tt
calm_in (run.Left (run.Threw e v) s) a = absurd a
calm_in (run.Stopped why s) a = tt

calm_choice : {X : Type 0} (b : Bool) (m k : Run nothing X) (s : State nothing) → IsCalm (m s) → IsCalm (k s) → IsCalm (choose b m k s)
unfolding choose
calm_choice true m k s x y = x
calm_choice false m k s x y = y

calm_new : (p : Program) (d : Draft) (c : Carried nothing) (s : State nothing) → IsCalm (note_new p d c s)
unfolding note_new room_for creating stop
calm_new p d c s = calm_choice (nat_lt (length s.noted) event_limit) (choose (nat_le (s.uses + length c.uses) use_limit) (creating p d c) (stop run.UseLimit)) (stop run.EventLimit) s (calm_choice (nat_le (s.uses + length c.uses) use_limit) (creating p d c) (stop run.UseLimit) s tt tt) tt

calm_caught : (o : Outcome nothing (Unit {0})) → IsCalm (go_on_left o at_failure)
unfolding go_on_left at_failure leave stop
calm_caught (run.Done x s) = tt
calm_caught (run.Left (run.Jumped target e) s) = tt
calm_caught (run.Left (run.Returned e v) s) = tt
calm_caught (run.Left (run.Threw e v) s) = tt
calm_caught (run.Stopped why s) = tt

-- what throws nothing has nothing to catch
pub calm_same : (o : Outcome nothing (Unit {0})) → IsCalm o → go_on_left o at_failure ≡ o
unfolding go_on_left at_failure leave stop
calm_same (run.Done x s) a = refl
calm_same (run.Left (run.Jumped target e) s) a = refl
calm_same (run.Left (run.Returned e v) s) a = refl
calm_same (run.Left (run.Threw e v) s) a = absurd a
calm_same (run.Stopped why s) a = refl

abbrev IsCalmWorld : World nothing → Type 0
IsCalmWorld w = (site c : ℕ) (s : State nothing) → IsCalm (w.enter site c s)

calm_source : (w : World nothing) (site c : ℕ) (is : Bool) (s : State nothing) → IsCalmWorld w → IsCalm (initialize_source w site c is s)
unfolding initialize_source return ◌>>=◌ is_begun
calm_source w site c false s calm = tt
calm_source w site c true s calm = calm_on (is_begun c s) (λ going. choose going (return tt) (w.enter site c)) tt (λ going t. calm_choice going (return tt) (w.enter site c) t tt (calm site c t))

pub calm_initialize : (w : World nothing) (site c : ℕ) (s : State nothing) → IsCalmWorld w → IsCalm (initialize w site c s)
unfolding initialize
calm_initialize w site c s calm = calm_source w site c (is_source c) s calm

calm_above : (w : World nothing) (site : ℕ) (above : Option ℕ) (s : State nothing) → IsCalmWorld w → IsCalm (initialize_above w site above s)
unfolding initialize_above return
calm_above w site Absent s calm = tt
calm_above w site (Some c) s calm = calm_initialize w site c s calm

calm_initialization : (w : World nothing) (site c : ℕ) (block : Run nothing (Unit {0})) (s : State nothing) → IsCalmWorld w → IsCalm (initialization w site c block s)
unfolding initialization scoped ◌>>=◌ ◌>>◌ activating in_frame catching
calm_initialization w site c block s calm =
    let d = about kind.Init site c val.None in
    let inner = λ (t : State nothing). go_on (initialize_above w (class w.program c).site (class w.program c).above t) (λ u z. go_on_left (block z) at_failure) in
    calm_active s.active (go_on (go_in Within (note_new w.program d (constant val.None) s)) (λ e t. frame_again t.frame (inner (record t { frame = Some e.number }))))
    (calm_on (go_in Within (note_new w.program d (constant val.None) s)) (λ e t. frame_again t.frame (inner (record t { frame = Some e.number }))) (calm_in (note_new w.program d (constant val.None) s) (calm_new w.program d (constant val.None) s))
    (λ e t. calm_frame t.frame (inner (record t { frame = Some e.number })) (calm_on (initialize_above w (class w.program c).site (class w.program c).above (record t { frame = Some e.number })) (λ u z. go_on_left (block z) at_failure) (calm_above w (class w.program c).site (class w.program c).above (record t { frame = Some e.number }) calm) (λ u z. calm_caught (block z)))))

pub calm_world : (p : Program) (depth : ℕ) → IsCalmWorld (world p depth)
unfolding world stop
calm_world p ℕ.zero site c s = tt
calm_world p (ℕ.suc depth) site c s = calm_initialization (world p depth) site c (init_block (world p depth) (init_body p c)) s (calm_world p depth)

-- ---- whether a class is initialized

is_untrue : (b : Bool) → (b ≡ true → ⊥) → b ≡ false
is_untrue true other = absurd (other refl)
is_untrue false other = refl

pub built_in : (c : ℕ) → c < 18 → nat_lt c 18 ≡ true
built_in c less = (Decides-ltb c 18).1 less

pub from_source : (c : ℕ) → (c < 18 → ⊥) → nat_lt c 18 ≡ false
from_source c other = is_untrue (nat_lt c 18) (λ is. other (is_less c 18 is))

module _ (p : Program) (m : MachineState) (site c : ℕ) where
  abbrev needed : Run nothing Values
  needed = then_all p m (leaving m.values (initialize (world p m.depth) site c))

  abbrev needing : Bool → Run nothing Values
  needing b s = after p (around m) m.work (go_on (initialize_source (world p m.depth) site c (not b) s) (λ u. return m.values))

  pub needs_none : nat_lt c 18 ≡ true → Onward p m.state needed m.state (then_all p m (return m.values))
  unfolding initialize initialize_source is_source go_on return
  needs_none is = onward_as (λ s. ap (λ b. needing b s) is) (onward_same p m.state _)

  pub needs_begun : (b : Bool) → nat_lt c 18 ≡ false → Onward p m.state (is_begun c) m.state (return b) → Onward p m.state needed m.state (then_all p m (leaving m.values (choose b (return tt) ((world p m.depth).enter site c))))
  unfolding initialize initialize_source is_source ◌>>=◌ go_on return
  needs_begun b is a = onward_as (λ s. ap (λ z. needing z s) is) (within (λ o. after p (around m) m.work (go_on (go_on o (λ going. choose going (return tt) ((world p m.depth).enter site c))) (λ u. return m.values))) a)

  pub needs_no_more : (b : Bool) → b ≡ true → nat_lt c 18 ≡ false → Onward p m.state (is_begun c) m.state (return b) → Onward p m.state needed m.state (then_all p m (return m.values))
  unfolding choose go_on return
  needs_no_more b is from a = needs_begun true from (subst (λ z. Onward p m.state (is_begun c) m.state (return z)) is a)

  pub needs_to_enter : (b : Bool) → b ≡ false → nat_lt c 18 ≡ false → Onward p m.state (is_begun c) m.state (return b) → Onward p m.state needed m.state (then_all p m (leaving m.values ((world p m.depth).enter site c)))
  unfolding choose
  needs_to_enter b is from a = needs_begun false from (subst (λ z. Onward p m.state (is_begun c) m.state (return z)) is a)

  -- no initialization may begin
  pub class_too_deep : m.depth ≡ 0 → Onward p m.state (then_all p m (leaving m.values ((world p m.depth).enter site c))) m.state (then_all p m (stop run.DepthLimit))
  unfolding world stop go_on
  class_too_deep is = onward_as (λ s. ap (λ d. after p (around m) m.work (go_on ((world p d).enter site c s) (λ u. return m.values))) is) (onward_same p m.state _)

-- ---- what an initialization does, where there is room for its frame

module _ (p : Program) (site c depth : ℕ) where
  abbrev pub in_class : ℕ → Run nothing (Unit {0})
  in_class e = in_frame e (initialize_above (world p depth) (class p c).site (class p c).above >> catching (init_block (world p depth) (init_body p c)) at_failure)

  pub class_is : (d : ℕ) → d ≡ suc depth → (s : State nothing) → (world p d).enter site c s ≡ begun (note_new p (about kind.Init site c val.None) (constant val.None)) in_class s
  unfolding world initialization scoped
  class_is d is s = ap (λ z. (world p z).enter site c s) is ∙ ap (λ z. scoped (activating Within (note_new z (about kind.Init site c val.None) (constant val.None)) >>= (λ e. in_frame e.number (initialize_above (world p depth) (class z c).site (class z c).above >> catching (init_block (world p depth) (init_body p c)) at_failure))) s) (world_program p depth)

  -- the Init wasn't recorded
  pub class_refused : {X Y : Type 0} (m l : MachineState) (e : Halt) (after_it : X → Run nothing Values) (next : Y → Run nothing Values) → m.depth ≡ suc depth →
      Turned p (then_all p m (leaving m.values (begun (note_new p (about kind.Init site c val.None) (constant val.None)) in_class))) m.state (Err e) l after_it → Turned p (then_all p m (leaving m.values ((world p m.depth).enter site c))) m.state (Err e) l next
  class_refused m l (Left why) after_it next is a = onward_as (λ s. ap (λ z. after p (around m) m.work (go_on z (λ u. return m.values))) (class_is m.depth is s)) a
  class_refused m l (Stopped why) after_it next is a = onward_as (λ s. ap (λ z. after p (around m) m.work (go_on z (λ u. return m.values))) (class_is m.depth is s)) a
  class_refused m l Memory after_it next is a = tt

-- ---- the tasks of an initialization

module _ (vs : Values) where
  block_after : (block : Run nothing (Unit {0})) (o : Outcome nothing (Unit {0})) → IsCalm o →
      go_on o (λ u. catching block at_failure) ≡ go_on_left (forgotten (go_on (go_on o (λ u. return vs)) (λ us. emptied block))) at_failure
  unfolding catching go_on go_on_left return at_failure leave
  block_after block (run.Done u s) calm = ap (λ z. go_on_left z at_failure) (forgotten_emptied (block s))
  block_after block (run.Left (run.Jumped target e) s) calm = refl
  block_after block (run.Left (run.Returned e v) s) calm = refl
  block_after block (run.Left (run.Threw e v) s) calm = absurd calm
  block_after block (run.Stopped why s) calm = refl

  none_after : (o : Outcome nothing (Unit {0})) → IsCalm o →
      go_on o (λ u. catching (return tt) at_failure) ≡ go_on_left (forgotten (go_on o (λ u. return vs))) at_failure
  unfolding catching go_on go_on_left return at_failure leave
  none_after (run.Done u s) calm = refl
  none_after (run.Left (run.Jumped target e) s) calm = refl
  none_after (run.Left (run.Returned e v) s) calm = refl
  none_after (run.Left (run.Threw e v) s) calm = absurd calm
  none_after (run.Stopped why s) calm = refl

module _ (p : Program) (n q : MachineState) (site : ℕ) where
  abbrev pub of_class : Option ℕ → Option Code → Run nothing (Unit {0})
  of_class above code = initialize_above (world p n.depth) site above >> catching (init_block (world p n.depth) code) at_failure

  abbrev ends : Outcome nothing (Unit {0}) → Outcome nothing Values
  ends o = after p (around n) n.work (go_on o (λ u. return []))

  pub above_and_block : (c : ℕ) (x : Bor Written) (b : Code) → statement x.now ≡ b.block → q ≡ pushed (task.Plain (step.Initialize c site)) (pushed (task.Stmt x doing.Do) (pushed (task.Plain step.Initialized) n)) → (s : State nothing) →
      then_all p n (emptied (of_class (Some c) (Some b))) s ≡ goes p q s
  unfolding initialize_above init_block ◌>>◌ ◌>>=◌ return go_on
  above_and_block c x b is pushes s =
      let w = world p n.depth in
      ap (λ z. ends (go_on (initialize w site c s) (λ u. catching (exec w z) at_failure))) (sym is)
      ∙ ap ends (block_after n.values (exec w (statement x.now)) (initialize w site c s) (calm_initialize w site c s (calm_world p n.depth)))
      ∙ ap (λ z. goes p z s) (sym pushes)

  pub above_alone : (c : ℕ) → q ≡ pushed (task.Plain (step.Initialize c site)) (pushed (task.Plain step.Initialized) n) → (s : State nothing) →
      then_all p n (emptied (of_class (Some c) Absent)) s ≡ goes p q s
  unfolding initialize_above init_block ◌>>◌ ◌>>=◌ return go_on
  above_alone c pushes s =
      let w = world p n.depth in
      ap ends (none_after n.values (initialize w site c s) (calm_initialize w site c s (calm_world p n.depth))) ∙ ap (λ z. goes p z s) (sym pushes)

  pub block_alone : (x : Bor Written) (b : Code) → statement x.now ≡ b.block → q ≡ pushed (task.Stmt x doing.Do) (pushed (task.Plain step.Initialized) n) → (s : State nothing) →
      then_all p n (emptied (of_class Absent (Some b))) s ≡ goes p q s
  unfolding initialize_above init_block ◌>>◌ ◌>>=◌ return go_on
  block_alone x b is pushes s =
      let w = world p n.depth in
      ap (λ z. ends (catching (exec w z) at_failure s)) (sym is)
      ∙ ap ends (block_after n.values (exec w (statement x.now)) (return tt s) tt)
      ∙ ap (λ z. goes p z s) (sym pushes)

  pub none_at_all : q ≡ pushed (task.Plain step.Initialized) n → (s : State nothing) →
      then_all p n (emptied (of_class Absent Absent)) s ≡ goes p q s
  unfolding initialize_above init_block ◌>>◌ ◌>>=◌ return go_on
  none_at_all pushes s = ap ends (none_after n.values (return tt s) tt) ∙ ap (λ z. goes p z s) (sym pushes)

pub is_absent : {X : Type 0} (o : Option X) → ((x : X) → o ≡ Some x → ⊥) → o ≡ Absent
is_absent Absent other = refl
is_absent (Some x) other = absurd (other x refl)

-- the Init is recorded, its frame stands, and then all that is left of it
module _ (p : Program) (site c event : ℕ) (m l n q : MachineState) where
  pub class_entered : IsSameStack m l → Enters p event step.LeaveClass l n →
      Onward p m.state (then_all p m (leaving m.values (begun (note_new p (about kind.Init site c val.None) (constant val.None)) (in_class p site c n.depth)))) l.state (then_all p l (leaving m.values (in_class p site c n.depth event))) →
      (at : ℕ) (above : Option ℕ) (code : Option Code) → (class p c).site ≡ at → (class p c).above ≡ above → init_body p c ≡ code → n.state ≡ q.state →
      ((s : State nothing) → then_all p n (emptied (of_class p n q at above code)) s ≡ goes p q s) →
      Onward p m.state (then_all p m (leaving m.values ((world p m.depth).enter site c))) q.state (goes p q)
  class_entered same e begins at above code at_is above_is code_is state frames =
      let f = λ (k : ℕ) (a : Option ℕ) (b : Option Code). of_class p n q k a b in
      let enters = subst (λ vs. Onward p l.state (then_all p l (leaving vs (in_frame event (f (class p c).site (class p c).above (init_body p c))))) n.state (then_all p n (emptied (f (class p c).site (class p c).above (init_body p c))))) same.values (enters_class p l n event e (f (class p c).site (class p c).above (init_body p c))) in
      let known = λ (s : State nothing). ap (λ k. then_all p n (emptied (f k (class p c).above (init_body p c))) s) at_is ∙ ap (λ a. then_all p n (emptied (f at a (init_body p c))) s) above_is ∙ ap (λ b. then_all p n (emptied (f at above b)) s) code_is ∙ frames s in
      let ready = subst (λ z. Onward p n.state (then_all p n (emptied (f (class p c).site (class p c).above (init_body p c)))) z (goes p q)) state (onward_as known (onward_same p n.state (goes p q))) in
      onward_then (onward_as (λ s. ap (λ z. after p (around m) m.work (go_on z (λ u. return m.values))) (class_is p site c n.depth m.depth (sym same.depth ∙ sym e.depth) s)) begins) (onward_then enters ready)
