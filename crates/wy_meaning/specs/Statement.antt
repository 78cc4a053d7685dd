-- What a statement does (JLS 14): each form by what its parts do, and the recursion on the forms.
use Rattle.std.specs.Prelude.{ℕ, zero, suc, Bool, true, List, [], ◌∷◌, Option, Some}
use Rattle.std.specs.Prelude.{None as Absent}
use Rattle.wy_kernel.specs.Form.{Statement, Stmt, Act, Block, Eval, Declare, If, While, Do, For, Labelled, Jump, Return, Throw, Try, Print, Other, nothing, this, Statements, done, first, Catches, uncaught, catch}
use Rattle.wy_kernel.specs.Program.{Program, is_subclass, class_of_type}
use Rattle.wy_value.specs.declared.value.Value.TheVariants.{None as Nothing, Arm}
use Rattle.wy_event.specs.declared.record.Kind.TheVariants as kind
use Rattle.wy_event.specs.declared.record.Slot.TheVariants.{Local}
use Rattle.wy_steps.specs.Sets.{Sets}
use Rattle.wy_steps.specs.State.{Carried, Run, Through, Reason, Jumped, Returned, Threw, StepLimit, ◌>>=◌, ◌>>◌, return, leave, stop, catching, choose}
use Rattle.wy_steps.specs.Steps.{constant, value_of, tick, steps_left, frame, code_of, declare, note, note_write, activating, reaching, covered}
use Rattle.wy_meaning.specs.World.{World, plain, into, fail, throwing, null_pointer, is_true, arm_of_truth, is_null, type_of}
use Rattle.wy_meaning.specs.Text.{print_value, print_nothing}
use Rattle.wy_meaning.specs.Expression.{eval, eval_part, part_or}

-- a statement with a number: it begins with a step, and with its end end the reaches of tests that reach through it
unfoldable pub statement : {A : Sets} → ℕ → Run A Unit → Run A Unit
statement number m = do
  tick
  reaching number (covered number m)

-- the Test of a statement, with the arm that it takes; it is active until its reach ends
unfoldable pub armed : {A : Sets} → (site reach arm : ℕ) → Carried A → Run A Unit
armed site reach n v = do
  f ← frame
  e ← activating (Through f reach) (note (plain kind.Test site (Arm n)) v)
  return tt

-- the condition of a statement, and its Test
unfoldable pub tested : {A : Sets} → (site reach : ℕ) → Run A (Carried A) → Run A Bool
tested site reach test = do
  v ← test
  armed site reach (arm_of_truth (is_true v.value)) v
  return (is_true v.value)

unfoldable pub evaluated : {A : Sets} → Run A (Carried A) → Run A Unit
evaluated m = do
  v ← m
  return tt

-- a declaration without initializer takes the local's value away
unfoldable pub declaration : {A : Sets} → ℕ → Run A Unit
declaration i = do
  f ← frame
  declare (Local (code_of f) i)

unfoldable pub if_form : {A : Sets} → Run A Bool → Run A Unit → Run A Unit → Run A Unit
if_form test if_true if_false = do
  b ← test
  choose b if_true if_false

-- a loop's turns, at most n of them
unfoldable pub turns : {A : Sets} → ℕ → Run A Bool → Run A Unit → Run A Unit
turns zero test body = stop StepLimit
turns (suc n) test body = do
  b ← test
  choose b (body >> turns n test body) (return tt)

-- `while` and `for`: each turn takes a step, so the steps that are left are turns enough
unfoldable pub while_form : {A : Sets} → Run A Bool → Run A Unit → Run A Unit
while_form test body = do
  n ← steps_left
  turns (suc n) test body

-- `do`: the body comes first
unfoldable pub do_form : {A : Sets} → Run A Unit → Run A Bool → Run A Unit
do_form body test = do
  n ← steps_left
  body
  turns (suc n) test body

unfoldable pub for_test : {A : Sets} → ℕ → ℕ → Option (Run A (Carried A)) → Run A Bool
for_test site reach Absent = return true
for_test site reach (Some m) = tested site reach m

unfoldable pub for_form : {A : Sets} → Run A Unit → Run A Bool → Run A Unit → Run A Unit → Run A Unit
for_form inits test updates body = do
  inits
  while_form test (body >> updates)

unfoldable pub jump : {A : Sets} → ℕ → ℕ → Run A Unit
jump site target = do
  e ← note (plain kind.Jump site Nothing) (constant Nothing)
  leave (Jumped target e.number)

-- the Return comes before `finally` blocks run
unfoldable pub return_form : {A : Sets} → ℕ → Run A (Carried A) → Run A Unit
return_form site value = do
  v ← value
  e ← note (plain kind.Return site v.value) v
  leave (Returned e.number (value_of e v.value))

-- a throw of null is a NullPointerException (JLS 14.18)
unfoldable pub throw_form : {A : Sets} → World A → ℕ → Run A (Carried A) → Run A Unit
throw_form w site value = do
  v ← value
  choose (is_null v.value) (fail w null_pointer site v) (throwing site v)

-- a clause of a `try`, by the number of its block and what the block does
pub record Clause (A : Sets) : Type 0 where
  pub class : ℕ
  pub local : ℕ
  pub site : ℕ
  pub number : ℕ
  pub block : Run A Unit

-- the Catch binds the object, and is active until the block ends; a test in the block may reach further
unfoldable pub caught : {A : Sets} → Clause A → Carried A → Run A Unit
caught c v = do
  f ← frame
  e ← activating (Through f c.number) (note_write (into kind.Catch c.site (Local (code_of f) c.local) v.value) v)
  c.block

-- the first clause whose class is the object's class or above it takes it (JLS 14.20.1)
unfoldable pub handle : {A : Sets} → Program → List (Clause A) → ℕ → ℕ → Carried A → Run A Unit
handle p [] c e v = leave (Threw e v)
handle p (clause ∷ rest) c e v = choose (is_subclass p c clause.class) (caught clause v) (handle p rest c e v)

unfoldable pub at_throw : {A : Sets} → World A → List (Clause A) → Reason A → Run A Unit
at_throw w clauses (Jumped target e) = leave (Jumped target e)
at_throw w clauses (Returned e v) = leave (Returned e v)
at_throw w clauses (Threw e v) = do
  ty ← type_of v.value
  handle w.program clauses (class_of_type ty) e v

-- the last block runs however the rest ended, and where it ends abruptly its reason replaces the other (JLS 14.20.2)
unfoldable pub finally : {A : Sets} → Run A Unit → Run A Unit → Run A Unit
finally m last = catching m (λ why. last >> leave why) >> last

unfoldable pub try_form : {A : Sets} → World A → Run A Unit → List (Clause A) → Option (Run A Unit) → Run A Unit
try_form w main clauses Absent = catching main (at_throw w clauses)
try_form w main clauses (Some last) = finally (catching main (at_throw w clauses)) last

unfoldable pub print_form : {A : Sets} → World A → Option (Run A (Carried A)) → Bool → ℕ → Run A Unit
print_form w Absent ends_line site = print_nothing ends_line site
print_form w (Some m) ends_line site = print_value w m ends_line site

unfoldable pub other_or : {A : Sets} → Option (Run A Unit) → Run A Unit
other_or Absent = return tt
other_or (Some m) = m

abbrev pub number_of : Statement → ℕ
number_of (Stmt number site askable reach act) = number

unfoldable mutual
  pub exec : {A : Sets} → World A → Statement → Run A Unit
  exec w (Stmt number site askable reach act) = statement number (exec_act w site reach act)

  pub exec_act : {A : Sets} → World A → ℕ → ℕ → Act → Run A Unit
  exec_act w site reach (Block parts) = exec_all w parts
  exec_act w site reach (Eval value) = evaluated (eval w value)
  exec_act w site reach (Declare i) = declaration i
  exec_act w site reach (If test if_true if_false) = if_form (tested site reach (eval w test)) (exec w if_true) (other_or (exec_other w if_false))
  exec_act w site reach (While test body) = while_form (tested site reach (eval w test)) (exec w body)
  exec_act w site reach (Do body test) = do_form (exec w body) (tested site reach (eval w test))
  exec_act w site reach (For inits test updates body) = for_form (exec_all w inits) (for_test site reach (eval_part w test)) (exec_all w updates) (exec w body)
  exec_act w site reach (Labelled body) = exec w body
  exec_act w site reach (Jump target) = jump site target
  exec_act w site reach (Return value) = return_form site (part_or Nothing (eval_part w value))
  exec_act w site reach (Throw value) = throw_form w site (eval w value)
  exec_act w site reach (Try main catches last) = try_form w (exec w main) (exec_catches w catches) (exec_other w last)
  exec_act w site reach (Print operand ty ends_line at) = print_form w (eval_part w operand) ends_line at

  pub exec_other : {A : Sets} → World A → Other → Option (Run A Unit)
  exec_other w nothing = Absent
  exec_other w (this s) = Some (exec w s)

  pub exec_all : {A : Sets} → World A → Statements → Run A Unit
  exec_all w done = return tt
  exec_all w (first s rest) = exec w s >> exec_all w rest

  pub exec_catches : {A : Sets} → World A → Catches → List (Clause A)
  exec_catches w uncaught = []
  exec_catches w (catch c local site block rest) = record { class = c; local = local; site = site; number = number_of block; block = exec w block } ∷ exec_catches w rest
