-- `?:`, `&&` and `||`: the test, the Test and the arm within a scope.
use Rattle.std.proofs.Common.{◌≡◌, ◌∙◌, ℕ, Bool, true, false, List, [], ◌∷◌, map, refl, ap, sym, subst, Bor, Option, Some, Result, Ok, Err}
use Rattle.std.specs.Prelude.{None as Absent, if◌then◌else◌}
use Rattle.std.specs.declared.alloc.Global.{Global}
use Rattle.std.specs.declared.boxed.Box.{Box}
use Rattle.wy_kernel.specs.Program.{Program}
use Rattle.wy_kernel.specs.Form.{Expression}
use Rattle.wy_kernel.specs.Form as plain
use Rattle.wy_kernel.specs.View.{expression, part_seen}
use Rattle.wy_kernel.specs.declared.form.Expr.{Expr}
use Rattle.wy_kernel.specs.declared.form.Expr.TheVariants as form
use Rattle.wy_kernel.specs.declared.form.CondForm.{CondForm}
use Rattle.wy_value.specs.declared.value.Value.{Value}
use Rattle.wy_value.specs.declared.value.Value.TheVariants as val
use Rattle.wy_event.specs.declared.record.Kind.TheVariants as kinds
use Rattle.wy_event.specs.declared.record.Use.{Use}
use Rattle.wy_event.specs.declared.record.Use.TheVariants as uses
use Rattle.wy_steps.specs.Sets.{nothing}
use Rattle.wy_steps.specs.State.{State, Carried, Run, Outcome, Around as Within, go_on, ◌>>=◌, return, choose}
use Rattle.wy_steps.specs.Steps.{Made, activating, active_again, chosen, joined, note, scoped, value_of}
use Rattle.wy_meaning.specs.World.{World, is_true, arm_of_truth}
use Rattle.wy_meaning.specs.World as meaning
use Rattle.wy_meaning.specs.Run.{world}
use Rattle.wy_meaning.specs.Expression.{arm, conditional, eval, eval_part}
use Rattle.wy_calls.specs.declared.calls.Scope.{Scope}
use Rattle.wy_calls.specs.Calls.{CallFrame as Body, CallStack as Calls, opened, first_of, rest_of}
use Rattle.wy_state.specs.declared.parts.Halt.{Halt}
use Rattle.wy_state.specs.Agrees.{Shape, Onward, StepGives}
use Rattle.wy_state.specs.Seen.{given, made_of}
use Rattle.wy_state.specs.Steps.{do_nothing}
use Rattle.wy_state.proofs.Onward.{within, onward_as, onward_same, onward_then}
use Rattle.wy_operation.specs.Around.{IsSameAround, KeepsAt}
use Rattle.wy_operands.specs.Values.{Values, top, under, joined_last, uses_of_last, with_event}
use Rattle.wy_work.specs.declared.task.Task.TheVariants as tasks
use Rattle.wy_work.specs.declared.task.ExprStep.TheVariants as step
use Rattle.wy_work.specs.Expressions.{decided, expr_step, put_on}
use Rattle.wy_work.specs.Tasks.{MachineState, around, after, goes, pushed, then_all, Does, Resumed}
use Rattle.wy_operation.proofs.Runs.{go_on-go_on}
use Rattle.wy_work.specs.Listed.{IsTestOf}
use Rattle.wy_work.proofs.Forms.{test_of}
use Rattle.wy_work.proofs.Places.{Operating, first_failed, first_went, put_as}
use Rattle.wy_work.proofs.Single.{carried_is}
use Rattle.wy_work.proofs.Updates.{go_on_same}
use Rattle.wy_kernel.proofs.ExpressionViews.{view_cond}
use Rattle.wy_work.proofs.Calls.{active_here, closes}

-- the value of the arm
pub chosen_gave : (p : Program) (m : MachineState) (us : Values) (x : Expression) (value : Value) → value ≡ (top m.values).value → us ≡ joined_last 2 value m.values →
    Onward p m.state (then_all p m (expr_step (world p m.depth) x step.Chosen m.values)) m.state (goes p (record m { values = us }))
unfolding joined
chosen_gave p m us x value l is = rw (is, l) (onward_same p m.state _)

module _ (p : Program) (m : MachineState) (l : Shape) (scope : Scope) (e test : Bor Expr) (kind : CondForm) (yes no : plain.Part) (site : ℕ) where
  -- the Test and the arm come after the test
  abbrev tested : Run nothing (Carried nothing)
  tested = λ s. go_on (eval (world p m.depth) (expression test.now) s) (λ v. decided (world p m.depth) v yes no site)

  conditional_is : (s : State nothing) → conditional (eval (world p m.depth) (expression test.now)) (eval_part (world p m.depth) yes) (eval_part (world p m.depth) no) site s ≡ scoped tested s
  unfolding conditional ◌>>=◌
  conditional_is s = refl

  abbrev put : Carried nothing → Run nothing Values
  put v = return (v ∷ m.values)

  frames_are : (s : State nothing) → go_on (active_again m.state.calls.active (tested s)) put ≡ active_again m.state.calls.active (go_on (go_on (eval (world p m.depth) (expression test.now) s) put) (expr_step (world p m.depth) (plain.Cond kind (expression test.now) yes no site) step.Decide))
  unfolding go_on return
  frames_are s = closes m.state.calls.active (λ v. v ∷ m.values) (tested s) ∙ ap (active_again m.state.calls.active) (go_on-go_on (eval (world p m.depth) (expression test.now) s) _ put ∙ sym (go_on-go_on (eval (world p m.depth) (expression test.now) s) put _))

  pub conditional_begins : (n : MachineState) → Onward p m.state do_nothing l (return tt) → l.calls ≡ opened m.state.calls → expression e.now ≡ plain.Cond kind (expression test.now) yes no site →
      n ≡ pushed (tasks.Expr test step.Find) (pushed (tasks.Expr e step.Decide) (pushed (tasks.Close scope) (record m { state = l }))) →
      Onward p m.state (then_all p m (put_on m.values (conditional (eval (world p m.depth) (expression test.now)) (eval_part (world p m.depth) yes) (eval_part (world p m.depth) no) site))) n.state (goes p n)
  unfolding go_on return
  conditional_begins n opens calls seen is =
      let C = λ (o : Outcome nothing (Carried nothing)). after p (around m) m.work (go_on o put) in
      let found = λ (s : State nothing). go_on (eval (world p m.depth) (expression test.now) s) put in
      let scoped_at = λ (z : Calls) (o : Outcome nothing Values). after p (record { depth = m.depth; bodies = map (λ (f : Body). f.event) z.frames; scopes = rest_of z.scopes; saved = m.saved }) m.work (active_again (first_of z.scopes) o) in
      subst (λ (z : MachineState). Onward p m.state (then_all p m (put_on m.values (conditional (eval (world p m.depth) (expression test.now)) (eval_part (world p m.depth) yes) (eval_part (world p m.depth) no) site))) z.state (goes p z)) (sym is)
      (onward_as (λ s. ap C (conditional_is s)) (onward_then (within C (active_here p m.state tested))
      (onward_then (within (λ (o : Outcome nothing (Unit {0})). C (active_again m.state.calls.active (go_on o (λ u. tested)))) opens)
      (onward_as (λ s. ap (after p (around m) m.work) (frames_are s)
      ∙ ap (λ (z : Calls). scoped_at z (go_on (found s) (expr_step (world p m.depth) (plain.Cond kind (expression test.now) yes no site) step.Decide))) (sym calls)
      ∙ ap (λ y. scoped_at l.calls (go_on (found s) (expr_step (world p m.depth) y step.Decide))) (sym seen)) (onward_same p l _)))))

pub conditional_goes : (p : Program) (m : MachineState) (l : Shape) (scope : Scope) (e test : Bor Expr) (n : MachineState) → IsTestOf (expression e.now) (expression test.now) → Onward p m.state do_nothing l (return tt) → l.calls ≡ opened m.state.calls →
    n ≡ pushed (tasks.Expr test step.Find) (pushed (tasks.Expr e step.Decide) (pushed (tasks.Close scope) (record m { state = l }))) → Operating p (expression e.now) m (Ok tt) n
conditional_goes p m l scope e test n tests opens calls is =
    let of = test_of (expression e.now) (expression test.now) tests in
    subst (λ z. Operating p z m (Ok tt) n) (sym of.is) (conditional_begins p m l scope e test of.kind of.yes of.no of.site n opens calls of.is is)

-- ---- the Test, and the arm that it chooses

-- what an arm is of which the code has the part in memory
pub arm_seen : (b : Bool) (yes no part : Option (Box Expr Global)) → part ≡ (if b then yes else no) → part_seen part ≡ (if b then part_seen yes else part_seen no)
arm_seen true main other part is = ap part_seen is
arm_seen false main other part is = ap part_seen is

arm_is : (w : World nothing) (e : Made nothing) (v : Value) (b : Bool) (yes no : plain.Part) (s : State nothing) → choose b (arm e v (eval_part w yes)) (arm e v (eval_part w no)) s ≡ arm e v (eval_part w (if b then yes else no)) s
unfolding choose
arm_is w e v true main other s = refl
arm_is w e v false main other s = refl

module _ (p : Program) (m : MachineState) (s : Shape) (x : Expression) (kind : CondForm) (test : Expression) (yes no : plain.Part) (site : ℕ) (seen : x ≡ plain.Cond kind test yes no site) (value : Value) (used : List Use) (l : value ≡ (top m.values).value) (u : used ≡ uses_of_last 1 m.values) where
  abbrev test_noted : Run nothing (Made nothing)
  test_noted = activating Within (note (meaning.plain kinds.Test site (val.Arm (arm_of_truth (is_true value)))) (given value used))

  -- the arm after its Test
  abbrev armed : plain.Part → Made nothing → Run nothing (Carried nothing)
  armed part e = arm e value (eval_part (world p m.depth) part)

  decided_is : (part : plain.Part) → part ≡ (if is_true value then yes else no) → (st : State nothing) → decided (world p m.depth) (top m.values) yes no site st ≡ (test_noted >>= armed part) st
  unfolding ◌>>=◌
  decided_is part is st =
      ap (λ c. decided (world p m.depth) c yes no site st) (carried_is (top m.values) value used l u)
      ∙ go_on_same (test_noted st) _ _ (λ e st. arm_is (world p m.depth) e value (is_true value) yes no st ∙ ap (λ z. armed z e st) (sym is))

  abbrev pub Deciding : Result (Unit {0}) Halt → MachineState → Type 0
  Deciding r n = Does p (λ w. expr_step w x step.Decide) m r n

  -- there was no room for the Test
  pub test_refused : (e : Halt) → StepGives {X = ℕ} p made_of (Err e) m.state test_noted s → KeepsAt e m.state.calls s.calls → Deciding (Err e) (record m { state = s })
  test_refused e a same =
      let part = if is_true value then yes else no in
      subst (λ y. Does p (λ w. expr_step w y step.Decide) m (Err e) (record m { state = s })) (sym seen)
      (put_as p m (decided (world p m.depth) (top m.values) yes no site) (test_noted >>= armed part) (under m.values) (Err e) (record m { state = s }) (decided_is part refl)
      (first_failed p m s test_noted (armed part) (under m.values) made_of e a same))

  module _ (event : ℕ) (a : Onward p m.state test_noted s (return (made_of event))) (same : IsSameAround m.state.calls s.calls) where
    arm_next : (part : plain.Part) (n : MachineState) → part ≡ (if is_true value then yes else no) →
        Resumed p (then_all p (record m { state = s }) (put_on (under m.values) (armed part (made_of event)))) s (Ok tt) n → Deciding (Ok tt) n
    arm_next part n is next =
        subst (λ y. Does p (λ w. expr_step w y step.Decide) m (Ok tt) n) (sym seen)
        (put_as p m (decided (world p m.depth) (top m.values) yes no site) (test_noted >>= armed part) (under m.values) (Ok tt) n (decided_is part is)
        (first_went p m s test_noted (armed part) (under m.values) (made_of event) (Ok tt) n a same next))

    -- an empty arm has the value of the condition
    pub arm_empty : (us : Values) → plain.absent ≡ (if is_true value then yes else no) → us ≡ with_event 1 value event m.values → Deciding (Ok tt) (record m { state = s; values = us })
    unfolding arm eval_part value_of go_on return
    arm_empty us is values =
        arm_next plain.absent (record m { state = s; values = us }) is
        (onward_as (λ st. ap (λ z. after p (around (record m { state = s })) m.work (return z st)) (sym values)) (onward_same p s _))

    -- the arm is next
    pub arm_found : (e found : Bor Expr) (us : Values) (n : MachineState) → x ≡ expression e.now → plain.the (expression found.now) ≡ (if is_true value then yes else no) → us ≡ given val.None (uses.Choice event ∷ []) ∷ under m.values →
        n ≡ pushed (tasks.Expr found step.Find) (pushed (tasks.Expr e step.Chosen) (record m { state = s; values = us })) → Deciding (Ok tt) n
    unfolding arm eval_part chosen joined go_on return ◌>>=◌
    arm_found e found us n own is values frames_are =
        let w = world p m.depth in
        let o = λ (st : State nothing). eval w (expression found.now) st in
        arm_next (plain.the (expression found.now)) n is
        (subst (λ (z : MachineState). Onward p s (then_all p (record m { state = s }) (put_on (under m.values) (armed (plain.the (expression found.now)) (made_of event)))) z.state (goes p z)) (sym frames_are)
        (onward_as (λ st. ap (after p (around (record m { state = s })) m.work)
        (go_on-go_on (o st) _ _
        ∙ sym (go_on-go_on (o st) (λ v. return (v ∷ given val.None (uses.Choice event ∷ []) ∷ under m.values)) (expr_step w (expression e.now) step.Chosen))
        ∙ ap (λ (r : Values). go_on (go_on (o st) (λ v. return (v ∷ r))) (expr_step w (expression e.now) step.Chosen)) (sym values))) (onward_same p s _)))

-- ---- the form in memory

module _ (e : Expr) (kind : CondForm) (test : Box Expr Global) (yes no : Option (Box Expr Global)) (site : ℕ) (is : e ≡ form.Cond kind test yes no site) where
  pub cond_seen : expression e ≡ plain.Cond kind (expression test.value) (part_seen yes) (part_seen no) site
  cond_seen = ap expression is ∙ view_cond kind test yes no site

-- the arm in memory is that of the form
pub no_arm : (b : Bool) (yes no part : Option (Box Expr Global)) → part ≡ (if b then yes else no) → part ≡ Absent → plain.absent ≡ (if b then part_seen yes else part_seen no)
no_arm b main other part is none = sym (ap part_seen none) ∙ arm_seen b main other part is

pub one_arm : (b : Bool) (yes no part : Option (Box Expr Global)) (found : Box Expr Global) (target : Expr) → part ≡ (if b then yes else no) → part ≡ Some found → target ≡ found.value → plain.the (expression target) ≡ (if b then part_seen yes else part_seen no)
one_arm b main other part found target is some same = ap (λ z. plain.the (expression z)) same ∙ sym (ap part_seen some) ∙ arm_seen b main other part is
