-- A new object: its class is initialized, it is made, the arguments are evaluated, the constructor is called.
use Rattle.std.proofs.Common.{◌≡◌, ◌≢◌, inl, inr, ◌∙◌, ℕ, zero, suc, List, [], ◌∷◌, length, refl, ap, ap₂, sym, subst, Bor, Option, Some, Result, Ok, Err}
use Rattle.std.specs.Prelude.{None as Absent, if◌then◌else◌}
use Rattle.std.proofs.lemmas.Bool.Decides.{eqb_tells}
use Rattle.wy_kernel.specs.Program.{Program}
use Rattle.wy_kernel.specs.Form.{Expression, Row}
use Rattle.wy_kernel.specs.Form as plain
use Rattle.wy_kernel.specs.View.{expression, present, row_of}
use Rattle.wy_kernel.specs.declared.form.Expr.{Expr}
use Rattle.wy_value.specs.declared.value.Value.TheVariants as val
use Rattle.wy_event.specs.declared.record.Kind.TheVariants as kind
use Rattle.wy_steps.specs.Sets.{nothing}
use Rattle.wy_steps.specs.State.{State, Carried, Run, go_on, ◌>>=◌, ◌>>◌, return}
use Rattle.wy_steps.specs.Steps.{Made, constant, note_new, value_of}
use Rattle.wy_meaning.specs.World.{World, about, all_of, class_code}
use Rattle.wy_meaning.specs.Run.{world}
use Rattle.wy_meaning.specs.Place.{initialize}
use Rattle.wy_meaning.specs.Call.{construct, create}
use Rattle.wy_meaning.specs.Expression.{eval_row}
use Rattle.wy_state.specs.declared.parts.Halt.{Halt}
use Rattle.wy_state.specs.Agrees.{Shape, Onward, StepGives}
use Rattle.wy_state.specs.Seen.{given, made_of, valued}
use Rattle.wy_state.proofs.Onward.{onward_as, onward_same, onward_then}
use Rattle.wy_operands.specs.Values.{Values, at, top, under, under_many, last_many}
use Rattle.wy_work.specs.declared.task.Task.TheVariants as tasks
use Rattle.wy_work.specs.declared.task.ExprStep.TheVariants as step
use Rattle.wy_work.specs.declared.task.Step.TheVariants as steps
use Rattle.wy_work.specs.Expressions.{constructed, created, expr_step, leaving, put_all, put_on}
use Rattle.wy_work.specs.Tasks.{MachineState, around, after, followed, goes, pushed, then_all, Does}
use Rattle.wy_work.specs.Listed.{IsNew, rows}
use Rattle.wy_work.specs.Operands.{Given, list_of}
use Rattle.wy_work.proofs.Finds.{row_found}
use Rattle.wy_work.proofs.Forms.{new_of}
use Rattle.wy_work.proofs.Places.{Operating, once_initialized, resumed_as}
use Rattle.wy_operation.proofs.Runs.{go_on-go_on}
use Rattle.wy_work.proofs.Runs.{failed_at, keeps_calls, settled_calls, went, world_program}
use Rattle.wy_work.proofs.Seen.{operating_by}
use Rattle.wy_work.proofs.Updates.{go_on_same}
use Rattle.wy_work.proofs.Views.{listed_row}

-- ---- the class comes first

create_is : (w : World nothing) (c : ℕ) (constructor_of : Option ℕ) (args : Row) (site : ℕ) (vs : Values) (s : State nothing) →
    put_on vs (create w c constructor_of (eval_row w args) site) s ≡ go_on (initialize w site c s) (λ u. put_on vs (created w c constructor_of args site))
unfolding create ◌>>=◌ ◌>>◌
create_is w c constructor_of args site vs s = go_on-go_on (initialize w site c s) _ _

pub new_begins : (p : Program) (m q : MachineState) (r : Result (Unit {0}) Halt) (n : MachineState) (e : Bor Expr) (class site : ℕ) → q ≡ pushed (tasks.Expr e step.Ready) m → IsNew (expression e.now) class site →
    Does p (λ w vs. leaving vs (initialize w site class)) q r n → Operating p (expression e.now) m r n
new_begins p m q r n e class site pushes is_new a =
    let of = new_of (expression e.now) class site is_new in
    let x = plain.New class of.constructor_of of.args site in
    operating_by p m n r (expression e.now) x of.is
    (once_initialized p m q r n e x (initialize (world p q.depth) site class) (put_on m.values (create (world p m.depth) class of.constructor_of (eval_row (world p m.depth) of.args) site)) pushes of.is
    (λ s. rw pushes (create_is (world p m.depth) class of.constructor_of of.args site m.values s)) a)

-- ---- the object is made

under_many_next : (k : ℕ) (vs : Values) → under_many (suc k) vs ≡ under (under_many k vs)
under_many_next zero vs = refl
under_many_next (suc k) vs = under_many_next k (under vs)

module _ (w : World nothing) (constructor_of : Option ℕ) (args : Row) (site : ℕ) where
  -- the arguments and the constructor, for an object that is made
  abbrev pub finished : Carried nothing → Given
  finished object = do
    vs ← all_of (eval_row w args)
    construct w site constructor_of object vs
    return object

  finished_is : (c : ℕ) (object : Carried nothing) (vs : Values) (s : State nothing) →
      put_on vs (finished object) s ≡ go_on (put_all w (list_of args) (object ∷ object ∷ vs) s) (constructed w (plain.New c constructor_of args site))
  unfolding ◌>>=◌ ◌>>◌ go_on return
  finished_is c object vs s =
      let k = length (list_of args) in
      go_on-go_on (all_of (eval_row w args) s) _ _ ∙ go_on_same (all_of (eval_row w args) s) _ _ (λ xs s. go_on-go_on (construct w site constructor_of object xs s) _ _)
      ∙ sym (row_found w args (object ∷ object ∷ vs) (λ xs us. leaving (under us) (construct w site constructor_of (top us) xs)) s)
      ∙ go_on_same (put_all w (list_of args) (object ∷ object ∷ vs) s) _ _ (λ us s. ap (λ z. leaving z (construct w site constructor_of (at k us) (last_many k us)) s) (sym (under_many_next k us)))

  made_is : (c : ℕ) (p : Program) (vs : Values) → w.program ≡ p → (s : State nothing) →
      put_on vs (created w c constructor_of args site) s ≡ followed (note_new p (about kind.New site (class_code c) val.None) (given val.None [])) (λ e. put_on vs (finished (value_of e (val.Object e.number)))) s
  unfolding ◌>>=◌ ◌>>◌ constant
  made_is c p vs is s = rw (← is) (go_on-go_on (note_new w.program (about kind.New site (class_code c) val.None) (given val.None []) s) _ _)

abbrev pub noting : Program → ℕ → ℕ → Run nothing (Made nothing)
noting p site c = note_new p (about kind.New site (class_code c) val.None) (given val.None [])

module _ (p : Program) (m : MachineState) (e : Bor Expr) (c : ℕ) (constructor_of : Option ℕ) (args : List Expr) (site : ℕ) (seen : expression e.now ≡ plain.New c constructor_of (row_of (rows args)) site) (l : Shape) (calls : l.calls ≡ m.state.calls) where
  pub object_made : (event : ℕ) (us : Values) (row : Bor (List Expr)) (n : MachineState) → Onward p m.state (noting p site c) l (return (made_of event)) → us ≡ valued event (val.Object event) ∷ valued event (val.Object event) ∷ m.values → row.now ≡ args →
      n ≡ pushed (tasks.Row row) (pushed (tasks.Expr e step.Construct) (record m { state = l; values = us })) → Does p (λ w. expr_step w (expression e.now) step.Ready) m (Ok tt) n
  unfolding go_on return value_of
  object_made event us row n a values row_is is =
      let w = world p m.depth in
      let object = valued event (val.Object event) in
      let q = record m { state = l } in
      let x = plain.New c constructor_of (row_of (rows args)) site in
      let ready = λ (y : Expression). then_all p m (expr_step w y step.Ready m.values) in
      let begun = onward_as (λ s. ap (after p (around m) m.work) (made_is w constructor_of (row_of (rows args)) site c p m.values (world_program p m.depth) s))
      (went p m q (noting p site c) (λ e. put_on m.values (finished w constructor_of (row_of (rows args)) site (value_of e (val.Object e.number)))) (made_of event) a (settled_calls m l calls)) in
      let same = λ (s : State nothing). ap (after p (around q) m.work) (finished_is w constructor_of (row_of (rows args)) site c object m.values s
      ∙ ap (λ es. go_on (put_all w es (object ∷ object ∷ m.values) s) (constructed w x)) (listed_row (rows args) ∙ ap rows (sym row_is))
      ∙ ap₂ (λ vs y. go_on (put_all w (rows row.now) vs s) (expr_step w y step.Construct)) (sym values) (sym seen)) in
      subst (λ (z : MachineState). Onward p m.state (ready (expression e.now)) z.state (goes p z)) (sym is)
      (subst (λ y. Onward p m.state (ready y) l (goes p (pushed (tasks.Row row) (pushed (tasks.Expr e step.Construct) (record m { state = l; values = us }))))) (sym seen)
      (onward_then begun (onward_as same (onward_same p l _))))

  pub object_failed : (er : Halt) → StepGives p made_of (Err er) m.state (noting p site c) l → Does p (λ w. expr_step w (expression e.now) step.Ready) m (Err er) (record m { state = l })
  object_failed er a =
      let w = world p m.depth in
      let k = λ (e : Made nothing). put_on m.values (finished w constructor_of (row_of (rows args)) site (value_of e (val.Object e.number))) in
      subst (λ y. Does p (λ w. expr_step w y step.Ready) m (Err er) (record m { state = l })) (sym seen)
      (resumed_as p m (then_all p m (put_on m.values (created w c constructor_of (row_of (rows args)) site))) (then_all p m (followed (noting p site c) k)) (Err er) (record m { state = l }) (λ s. ap (after p (around m) m.work) (made_is w constructor_of (row_of (rows args)) site c p m.values (world_program p m.depth) s))
      (failed_at p m l m.values (noting p site c) k made_of er (λ u. return m.values) a (keeps_calls er m.state.calls l.calls calls)))

-- ---- the constructor is called

pub has_none : (n : ℕ) → n ≡ 4294967295 → present n ≡ Absent
unfolding present
has_none n is = rw is refl

pub has_one : (n : ℕ) → n ≢ 4294967295 → present n ≡ Some n
unfolding present
has_one n other = elim (eqb_tells n 4294967295) as (λ _. present n ≡ Some n) [
  | inl same ↦ absurd (other same.1)
  | inr differ ↦ ap (λ b. if b then Absent else Some n) differ.0
]

module _ (p : Program) (m : MachineState) (x : Expression) (c : ℕ) (constructor_of : Option ℕ) (args : Row) (site : ℕ) (seen : x ≡ plain.New c constructor_of args site) (k : ℕ) (many : length (list_of args) ≡ k) where
  abbrev constructs : Result (Unit {0}) Halt → MachineState → Type 0
  constructs r n = Does p (λ w. expr_step w x step.Construct) m r n

  pub not_constructed : constructor_of ≡ Absent → (us : Values) → us ≡ under_many (suc k) m.values → Does p (λ w. expr_step w x step.Construct) m (Ok tt) (record m { values = us })
  unfolding construct go_on return
  not_constructed none us is = rw (seen, none, many, is) (onward_same p m.state _)

  constructed_is : (w : World nothing) (method : ℕ) → constructor_of ≡ Some method → (s : State nothing) →
      expr_step w x step.Construct m.values s ≡ go_on (put_on (under_many (suc k) m.values) (w.call site method (Some (at k m.values)) (last_many k m.values)) s) (λ vs. return (under vs))
  unfolding construct ◌>>=◌ go_on return
  constructed_is w method some s = rw (seen, some, many) (go_on-go_on (w.call site method (Some (at k m.values)) (last_many k m.values) s) _ _ ∙ sym (go_on-go_on (w.call site method (Some (at k m.values)) (last_many k m.values) s) _ _))

  pub is_constructed : (q : MachineState) (r : Result (Unit {0}) Halt) (n : MachineState) (method : ℕ) → constructor_of ≡ Some method → q ≡ pushed (tasks.Plain steps.Forget) m →
      Does p (λ w vs. put_on (under_many (suc k) vs) (w.call site method (Some (at k vs)) (last_many k vs))) q r n → Does p (λ w. expr_step w x step.Construct) m r n
  is_constructed q r n method some pushes a =
      let w = world p m.depth in
      let call = put_on (under_many (suc k) m.values) (w.call site method (Some (at k m.values)) (last_many k m.values)) in
      resumed_as p m (then_all p m (expr_step w x step.Construct m.values)) (then_all p (pushed (tasks.Plain steps.Forget) m) call) r n
      (λ s. ap (after p (around m) m.work) (constructed_is w method some s))
      (subst (λ z. Does p (λ w vs. put_on (under_many (suc k) vs) (w.call site method (Some (at k vs)) (last_many k vs))) z r n) pushes a)
