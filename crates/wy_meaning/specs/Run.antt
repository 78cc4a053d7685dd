-- The run of a program with an input and a step budget (JLS 12.1, 12.4).
use Rattle.std.specs.Prelude.{ℕ, zero, suc, ◌-◌, pos, List, [], ◌∷◌, length, map, reverse, Option, Some, option_and_then, slice_get}
use Rattle.std.specs.Prelude.{None as Absent}
use Rattle.wy_kernel.specs.declared.types.Base.TheVariants.{Class as Named}
use Rattle.wy_kernel.specs.declared.types.Ty.{Ty}
use Rattle.wy_kernel.specs.declared.types.Ty.TheVariants.{Of}
use Rattle.wy_kernel.specs.Program.{Program, Body, method, class, body, init_body, string_class, class_of_type}
use Rattle.wy_value.specs.declared.value.Value.TheVariants.{Int, Object}
use Rattle.wy_event.specs.Record.{Recorded}
use Rattle.wy_steps.specs.Sets.{Sets}
use Rattle.wy_steps.specs.State.{Carried, Store, Noted, Covered, State, Stop, StepLimit, EventLimit, UseLimit, ElementLimit, UnitLimit, OutputLimit, DepthLimit, Unassigned, FellOff, InitFailed, Reason, Jumped, Returned, Threw, Outcome, Done, Left, Stopped, Run, ◌>>=◌, ◌>>◌, return, stop}
use Rattle.wy_kernel.specs.Limits.{depth_limit}
use Rattle.wy_steps.specs.Steps.{constant, value_of, never_left}
use Rattle.wy_meaning.specs.World.{World, object_in, type_in}
use Rattle.wy_meaning.specs.Place.{initialize}
use Rattle.wy_meaning.specs.Call.{call_method, initialization}
use Rattle.wy_meaning.specs.Array.{make_array}
use Rattle.wy_meaning.specs.Statement.{exec}

-- ---- calls and initializations in one another

unfoldable pub call_body : {A : Sets} → World A → ℕ → ℕ → Option Body → Option (Carried A) → List (Carried A) → Run A (Carried A)
call_body w site m Absent receiver args = stop FellOff
call_body w site m (Some b) receiver args = call_method site m (method w.program m) b (exec w b.block) receiver args

unfoldable pub init_block : {A : Sets} → World A → Option Body → Run A Unit
init_block w Absent = return tt
init_block w (Some b) = exec w b.block

-- with so many frames left: what stands in a frame has one fewer
unfoldable pub world : {A : Sets} → Program → ℕ → World A
world p zero = record {
  program = p;
  call = λ site m receiver args. stop DepthLimit;
  enter = λ site c. stop DepthLimit;
}
world p (suc depth) = record {
  program = p;
  call = λ site m receiver args. call_body (world p depth) site m (body p m) receiver args;
  enter = λ site c. initialization (world p depth) site c (init_block (world p depth) (init_body p c));
}

-- ---- the start and the end

abbrev pub strings : Ty
strings = Of (Named string_class) 1

-- main's class is initialized, an array of length 0 is made, and main is called
unfoldable pub main_run : {A : Sets} → World A → Run A (Carried A)
main_run w = do
  initialize w (class w.program (method w.program w.program.main).class).site (method w.program w.program.main).class
  args ← make_array w (method w.program w.program.main).site strings 0 (constant (Int (pos 0)))
  w.call (method w.program w.program.main).site w.program.main Absent (value_of args (Object args.number) ∷ [])

unfoldable pub start : {A : Sets} → List ℕ → ℕ → State A
start input budget = record {
  store = λ x. Absent;
  noted = [];
  active = [];
  frame = Absent;
  left = budget;
  uses = 0;
  elements = 0;
  units = 0;
  output = [];
  input = input;
  coverage = λ n. record { begins = 0; ends = 0; first = Absent; cause = never_left };
}

unfoldable pub outcome : {A : Sets} → Program → List ℕ → ℕ → Outcome A (Carried A)
outcome p input budget = main_run (world p depth_limit) (start input budget)

unfoldable pub end : {A : Sets} {X : Type 0} → Outcome A X → State A
end (Done x s) = s
end (Left why s) = s
end (Stopped why s) = s

unfoldable pub stop_number : Stop → ℕ
stop_number StepLimit = 2
stop_number EventLimit = 3
stop_number UseLimit = 4
stop_number ElementLimit = 5
stop_number UnitLimit = 6
stop_number OutputLimit = 7
stop_number DepthLimit = 8
stop_number Unassigned = 9
stop_number FellOff = 10
stop_number (InitFailed last) = 11

-- 0 where main returned, 1 where it ended by a throw
unfoldable pub stop_of : {A : Sets} {X : Type 0} → Outcome A X → ℕ
stop_of (Done x s) = 0
stop_of (Left why s) = 1
stop_of (Stopped why s) = stop_number why

unfoldable pub last_of_stop : Stop → Option ℕ
last_of_stop (InitFailed last) = Some last
last_of_stop _ = Absent

unfoldable pub last_of_reason : {A : Sets} → Reason A → Option ℕ
last_of_reason (Jumped target e) = Absent
last_of_reason (Returned e v) = Absent
last_of_reason (Threw e v) = Some e

-- the Throw that ended the run
unfoldable pub last_of : {A : Sets} {X : Type 0} → Outcome A X → Option ℕ
last_of (Done x s) = Absent
last_of (Left why s) = last_of_reason why
last_of (Stopped why s) = last_of_stop why

-- the class of the object that a Throw threw, and the site of the Throw
pub record Thrown : Type 0 where
  pub class : Option ℕ
  pub site : Option ℕ

-- those of a Throw, by the records; both are absent where there is none
unfoldable pub thrown_in : List Recorded → Option Recorded → Thrown
thrown_in records Absent = record { class = Absent; site = Absent }
thrown_in records (Some e) = record { class = Some (class_of_type (type_in (slice_get records (object_in e.value)))); site = Some e.site }

pub record Tail : Type 0 where
  pub coverage : List Covered
  pub stop : ℕ
  pub last : Option ℕ
  pub steps : ℕ
  pub events : ℕ
  pub uses : ℕ
  pub output : ℕ

-- the covers of n statements from number i
unfoldable pub covers : (ℕ → Covered) → ℕ → ℕ → List Covered
covers f i zero = []
covers f i (suc n) = f i ∷ covers f (suc i) n

unfoldable pub tail_of : {A : Sets} {X : Type 0} → Program → ℕ → Outcome A X → Tail
tail_of p budget o = record {
  coverage = covers (end o).coverage 0 p.statements;
  stop = stop_of o;
  last = last_of o;
  steps = budget - (end o).left;
  events = length (end o).noted;
  uses = (end o).uses;
  output = length (end o).output;
}

-- the events, the oldest first, each with what it comes from and the store just before it
unfoldable pub history : (A : Sets) → Program → List ℕ → ℕ → List (Noted A)
history A p input budget = reverse (end (outcome {A = A} p input budget)).noted

unfoldable pub events : (A : Sets) → Program → List ℕ → ℕ → List Recorded
events A p input budget = map (λ e. e.event) (history A p input budget)

unfoldable pub output : (A : Sets) → Program → List ℕ → ℕ → List ℕ
output A p input budget = (end (outcome {A = A} p input budget)).output

unfoldable pub tail : (A : Sets) → Program → List ℕ → ℕ → Tail
tail A p input budget = tail_of p budget (outcome {A = A} p input budget)

-- the Throw that ended the run
unfoldable pub thrown : (A : Sets) → Program → List ℕ → ℕ → Thrown
thrown A p input budget = thrown_in (events A p input budget) (option_and_then (slice_get (events A p input budget)) (tail A p input budget).last)

-- the store at the end
unfoldable pub final_store : (A : Sets) → Program → List ℕ → ℕ → Store A
final_store A p input budget = (end (outcome {A = A} p input budget)).store
