-- What the tasks stand for, as what is done with the outcome of all before them; and how the machine goes on with it.
use Rattle.std.specs.Prelude.{ℕ, suc, pos, Bool, List, [], ◌∷◌, ◌++◌, map, Option, Some, Result, Ok, Err}
use Rattle.std.specs.Prelude.{None as Absent}
use Rattle.wy_kernel.specs.Program.{Program, method}
use Rattle.wy_kernel.specs.View.{expression, statement, statements_of}
use Rattle.wy_value.specs.declared.value.Value.TheVariants as val
use Rattle.wy_steps.specs.Sets.{nothing}
use Rattle.wy_steps.specs.State.{Carried, Active, Run, Outcome, go_on, go_on_left, ◌>>=◌, return, leave, stop}
use Rattle.wy_steps.specs.Steps.{constant, value_of, active_again, frame_again, end_reaches, cover_end}
use Rattle.wy_meaning.specs.World.{World}
use Rattle.wy_meaning.specs.Place.{initialize}
use Rattle.wy_meaning.specs.Array.{make_array}
use Rattle.wy_meaning.specs.Call.{at_return, at_failure, end_body}
use Rattle.wy_meaning.specs.Statement.{exec_all}
use Rattle.wy_meaning.specs.Run.{strings, world}
use Rattle.wy_calls.specs.Calls.{CallFrame as Body, rest_of, first_of}
use Rattle.wy_state.specs.declared.parts.Halt.{Halt}
use Rattle.wy_state.specs.declared.parts.Halt.TheVariants.{Left, Stopped, Memory}
use Rattle.wy_state.specs.Seen.{reason_of, stop_of}
use Rattle.wy_state.specs.Agrees.{Shape, Onward}
use Rattle.wy_operands.specs.Values.{Values, top, under, at, under_many}
use Rattle.wy_work.specs.declared.task.Task.{Task}
use Rattle.wy_work.specs.declared.task.Task.TheVariants as task
use Rattle.wy_work.specs.declared.task.Step.{Step}
use Rattle.wy_work.specs.declared.task.Step.TheVariants as step
use Rattle.wy_work.specs.declared.turn.Signal.{Signal}
use Rattle.wy_work.specs.declared.turn.Signal.TheVariants as signal
use Rattle.wy_work.specs.Expressions.{put_on, leaving, put_all, expr_step, showing_right}
use Rattle.wy_operation.specs.Words.{joined_texts}
use Rattle.wy_work.specs.Statements.{emptied, forgotten, without_values, stmt_frame}

-- what stands around the tasks, the innermost first: how many bodies may still begin, the events of those that run, what was
-- active when each scope was opened, and the values of the bodies that wait
pub record Context : Type 0 where
  pub depth : ℕ
  pub bodies : List ℕ
  pub scopes : List (List (Active nothing))
  pub saved : List Values

abbrev pub newest : List ℕ → Option ℕ
newest [] = Absent
newest (n ∷ ns) = Some n

-- around a task that ends a body or a scope there is one fewer
abbrev pub without_body : Context → Context
without_body a = record { depth = suc a.depth; bodies = rest_of a.bodies; scopes = a.scopes; saved = rest_of a.saved }

abbrev pub outside_step : Step → Context → Context
outside_step (step.LeaveCall n) a = without_body a
outside_step step.LeaveClass a = without_body a
outside_step _ a = a

abbrev pub outside : Task → Context → Context
outside (task.Plain x) a = outside_step x a
outside (task.Close scope) a = record a { scopes = rest_of a.scopes }
outside _ a = a

-- main is called with an array of length 0
abbrev pub main_called : World nothing → Run nothing (Carried nothing)
main_called w = do
  args ← make_array w (method w.program w.program.main).site strings 0 (constant (val.Int (pos 0)))
  w.call (method w.program w.program.main).site w.program.main Absent (value_of args (val.Object args.number) ∷ [])

-- ---- tasks, at every outcome

module _ (w : World nothing) (a : Context) where
  abbrev pub returned : Bool → ℕ → Outcome nothing Values → Outcome nothing Values
  returned returns_none site o = go_on (go_on_left (go_on (forgotten o) (λ u. end_body returns_none site)) at_return) (λ v. return (v ∷ []))

  abbrev pub step_of : Step → Outcome nothing Values → Outcome nothing Values
  step_of (step.ShowRight site) o = go_on o (showing_right w site)
  step_of (step.Join site) o = go_on o (λ vs. put_on (under_many 4 vs) (joined_texts w site (at 1 vs) (top vs)))
  step_of (step.Initialize c site) o = go_on o (λ vs. leaving vs (initialize w site c))
  step_of step.Main o = go_on o (λ vs. put_on vs (main_called w))
  step_of (step.BodyEnd returns_none site) o = returned returns_none site o
  step_of step.Initialized o = without_values (go_on_left (forgotten o) at_failure)
  step_of (step.LeaveCall n) o = go_on (frame_again (newest (rest_of a.bodies)) o) (λ vs. return (top vs ∷ under_many n (first_of a.saved)))
  step_of step.LeaveClass o = go_on (frame_again (newest (rest_of a.bodies)) o) (λ vs. return (first_of a.saved))
  step_of (step.Again why) o = go_on o (λ vs. leave (reason_of why))
  step_of step.Forget o = go_on o (λ vs. return (under vs))
  step_of (step.End n) o = without_values (end_reaches (newest a.bodies) n (cover_end n (forgotten o)))

  abbrev pub task_of : Task → Outcome nothing Values → Outcome nothing Values
  task_of (task.Expr e x) o = go_on o (expr_step w (expression e.now) x)
  task_of (task.Row es) o = go_on o (put_all w (map expression es.now))
  task_of (task.Stmt s x) o = stmt_frame w (statement s.now) x o
  task_of (task.Stmts ss) o = go_on o (λ vs. emptied (exec_all w (statements_of (map statement ss.now))))
  task_of (task.Plain x) o = step_of x o
  task_of (task.Close scope) o = active_again (first_of a.scopes) o

-- the tasks, from the newest to the oldest
abbrev pub after : Program → Context → List Task → Outcome nothing Values → Outcome nothing Values
after p a [] o = o
after p a (f ∷ fs) o = after p (outside f a) fs (task_of (world p a.depth) a f o)

-- what contracts see of a machine: its tasks and its values have the newest first
pub record MachineState : Type 0 where
  pub state : Shape
  pub depth : ℕ
  pub work : List Task
  pub values : Values
  pub saved : List Values

abbrev pub around : MachineState → Context
around m = record { depth = m.depth; bodies = map (λ (f : Body). f.event) m.state.calls.frames; scopes = m.state.calls.scopes; saved = m.saved }

abbrev pub pushed : Task → MachineState → MachineState
pushed f m = record m { work = f ∷ m.work }

-- what is left to do after a run of a part
abbrev pub then_all : Program → MachineState → Run nothing Values → Run nothing Values
then_all p m k = λ s. after p (around m) m.work (k s)

abbrev pub goes : Program → MachineState → Run nothing Values
goes p m = then_all p m (return m.values)

-- a run, and what comes after it
abbrev pub followed : {X : Type 0} → Run nothing X → (X → Run nothing Values) → Run nothing Values
followed m next = λ s. go_on (m s) next

-- it went through, and this run is next; or it was left or stopped; and then the rest
abbrev pub Turned : {X : Type 0} → Program → Run nothing Values → Shape → Result X Halt → MachineState → (X → Run nothing Values) → Type 0
Turned p before m (Ok x) n next = Onward p m before n.state (then_all p n (next x))
Turned p before m (Err (Left why)) n next = Onward p m before n.state (then_all p n (leave (reason_of why)))
Turned p before m (Err (Stopped why)) n next = Onward p m before n.state (then_all p n (stop (stop_of why)))
Turned p before m (Err Memory) n next = Unit {0}

-- it went through, and the values on the stack are what the rest goes on with
abbrev pub Resumed : Program → Run nothing Values → Shape → Result (Unit {0}) Halt → MachineState → Type 0
Resumed p before m r n = Turned p before m r n (λ u. return n.values)

-- what is done with the values on the stack, from where the machine stands, and then the rest
abbrev pub Does : Program → (World nothing → Values → Run nothing Values) → MachineState → Result (Unit {0}) Halt → MachineState → Type 0
Does p f m r n = Resumed p (then_all p m (f (world p m.depth) m.values)) m.state r n

-- a task at how what was before it ended
abbrev pub Ends : Program → Task → Run nothing Values → MachineState → Result (Unit {0}) Halt → MachineState → Type 0
Ends p f before m r n = Resumed p (then_all p (pushed f m) before) m.state r n

abbrev pub outcome_at : Signal → Values → Run nothing Values
outcome_at signal.Going vs = return vs
outcome_at (signal.Left why) vs = leave (reason_of why)
outcome_at (signal.Stopped why) vs = stop (stop_of why)

-- tasks one over the other
abbrev pub pushed_all : List Task → MachineState → MachineState
pushed_all fs m = record m { work = fs ++ m.work }
