-- Calls and creation (JLS 12.5, 15.9.4, 15.12.4).
use Rattle.std.specs.Prelude.{ℕ, suc, Bool, true, false, ◌==◌, if◌then◌else◌, List, [], ◌∷◌, Option, Some}
use Rattle.std.specs.Prelude.{None as Absent}
use Rattle.wy_kernel.specs.declared.types.Ty.{Ty}
use Rattle.wy_kernel.specs.declared.types.Ty.TheVariants.{Void}
use Rattle.wy_kernel.specs.declared.types.MethodForm.{MethodForm}
use Rattle.wy_kernel.specs.declared.types.MethodForm.TheVariants.{Constructor}
use Rattle.wy_kernel.specs.Program.{Body, Method, method, class, local_site}
use Rattle.wy_kernel.specs.declared.form.CallForm.{CallForm}
use Rattle.wy_kernel.specs.declared.form.CallForm.TheVariants as form
use Rattle.wy_value.specs.declared.value.Value.TheVariants.{None as Nothing, Bool as Boolean, Object}
use Rattle.wy_event.specs.declared.record.Kind.TheVariants as kind
use Rattle.wy_event.specs.declared.record.Slot.TheVariants.{Local}
use Rattle.wy_steps.specs.Sets.{Sets}
use Rattle.wy_steps.specs.State.{Carried, Run, Around, Reason, Jumped, Returned, Threw, FellOff, InitFailed, ◌>>=◌, ◌>>◌, return, leave, stop, catching, choose}
use Rattle.wy_steps.specs.Steps.{constant, joined, value_of, note, note_new, note_write, activating, scoped, in_frame}
use Rattle.wy_meaning.specs.World.{World, plain, about, into, fail, null_pointer, class_code, is_null, is_text, units_of, all_of}
use Rattle.wy_meaning.specs.Place.{initialize}
use Rattle.wy_meaning.specs.Text.{call_chosen}
use Rattle.wy_kernel.specs.Program.{same_units}

-- ---- what a call does

-- a Call uses its receiver, but that of a constructor uses nothing
unfoldable pub call_uses : {A : Sets} → MethodForm → Option (Carried A) → Carried A
call_uses Constructor receiver = constant Nothing
call_uses _ Absent = constant Nothing
call_uses _ (Some r) = r

-- the receiver is local 0 where there is one, and the arguments follow
unfoldable pub bound : {A : Sets} → Option (Carried A) → List (Carried A) → List (Carried A)
bound Absent args = args
bound (Some r) args = r ∷ args

-- a Bind for each, in the frame of the call
unfoldable pub bind_all : {A : Sets} → Body → ℕ → ℕ → List (Carried A) → Run A Unit
bind_all b f i [] = return tt
bind_all b f i (v ∷ vs) = do
  e ← note_write (into kind.Bind (local_site b i) (Local f i) v.value) v
  bind_all b f (suc i) vs

unfoldable pub is_void : Ty → Bool
is_void Void = true
is_void _ = false

-- the Return at the end of a body; a method with a result has none there
unfoldable pub end_body : {A : Sets} → Bool → ℕ → Run A (Carried A)
end_body false site = stop FellOff
end_body true site = do
  e ← note (plain kind.Return site Nothing) (constant Nothing)
  return (value_of e Nothing)

unfoldable pub at_return : {A : Sets} → Reason A → Run A (Carried A)
at_return (Jumped target e) = leave (Jumped target e)
at_return (Returned e v) = return v
at_return (Threw e v) = leave (Threw e v)

-- a body, by what its block does: a call has the value of the Return that left the body last
unfoldable pub run_body : {A : Sets} → Run A Unit → Bool → ℕ → Run A (Carried A)
run_body block returns_none site = catching (block >> end_body returns_none site) at_return

-- the frame of a call: its Binds and its body
unfoldable pub frame_of_call : {A : Sets} → Body → Run A Unit → Bool → ℕ → List (Carried A) → Run A (Carried A)
frame_of_call b block returns_none f values = do
  bind_all b f 0 values
  run_body block returns_none b.end

-- a call of a method that is known, by what its block does; it is active until its body ends
unfoldable pub call_method : {A : Sets} → ℕ → ℕ → Method → Body → Run A Unit → Option (Carried A) → List (Carried A) → Run A (Carried A)
call_method site n m b block receiver args = scoped (do
  e ← activating Around (note (about kind.Call site n Nothing) (call_uses m.form receiver))
  in_frame e.number (frame_of_call b block (is_void m.result) e.number (bound receiver args)))

-- ---- what an initialization does (JLS 12.4.2)

-- an initializer that ends by a throw stops the run
unfoldable pub at_failure : {A : Sets} → Reason A → Run A Unit
at_failure (Jumped target e) = leave (Jumped target e)
at_failure (Returned e v) = leave (Returned e v)
at_failure (Threw e v) = stop (InitFailed e)

unfoldable pub initialize_above : {A : Sets} → World A → ℕ → Option ℕ → Run A Unit
initialize_above w site Absent = return tt
initialize_above w site (Some c) = initialize w site c

-- the superclass comes first, within it, and then the initializers in text order
unfoldable pub initialization : {A : Sets} → World A → ℕ → ℕ → Run A Unit → Run A Unit
initialization w site c block = scoped (do
  e ← activating Around (note_new w.program (about kind.Init site c Nothing) (constant Nothing))
  in_frame e.number (do
    initialize_above w (class w.program c).site (class w.program c).above
    catching block at_failure))

-- ---- calls as forms

-- on a text at run time `equals` and `toString` are operations of the library, and record nothing
abbrev pub equals : ℕ
equals = 1

unfoldable pub text_equals : {A : Sets} → World A → Carried A → Carried A → Run A (Carried A)
text_equals w a b = do
  x ← units_of w a.value
  y ← units_of w b.value
  return (joined (Boolean (if is_text b.value then same_units x y else false)) a b)

unfoldable pub call_on_text : {A : Sets} → World A → Bool → Carried A → List (Carried A) → Run A (Carried A)
call_on_text w true r (v ∷ vs) = text_equals w r v
call_on_text w _ r args = return r

unfoldable pub call_form : {A : Sets} → World A → CallForm → ℕ → ℕ → Carried A → List (Carried A) → Run A (Carried A)
call_form w form.Chosen site m r args = choose (is_text r.value) (call_on_text w (m == equals) r args) (call_chosen w site m r args)
call_form w _ site m r args = w.call site m (Some r) args

-- the receiver, the arguments, null, the choice of the method
unfoldable pub call_on : {A : Sets} → World A → CallForm → ℕ → Run A (Carried A) → List (Run A (Carried A)) → ℕ → Run A (Carried A)
call_on w f m receiver args site = do
  r ← receiver
  vs ← all_of args
  choose (is_null r.value) (fail w null_pointer site r) (call_form w f site m r vs)

-- the arguments, the initialization of the class that declares the method, the call
unfoldable pub call_static : {A : Sets} → World A → ℕ → List (Run A (Carried A)) → ℕ → Run A (Carried A)
call_static w m args site = do
  vs ← all_of args
  initialize w site (method w.program m).class
  w.call site m Absent vs

unfoldable pub construct : {A : Sets} → World A → ℕ → Option ℕ → Carried A → List (Carried A) → Run A Unit
construct w site Absent object args = return tt
construct w site (Some m) object args = do
  v ← w.call site m (Some object) args
  return tt

-- the class is initialized, the object is made, the arguments are evaluated, the constructor is called
unfoldable pub create : {A : Sets} → World A → ℕ → Option ℕ → List (Run A (Carried A)) → ℕ → Run A (Carried A)
create w c constructor args site = do
  initialize w site c
  e ← note_new w.program (about kind.New site (class_code c) Nothing) (constant Nothing)
  vs ← all_of args
  construct w site constructor (value_of e (Object e.number)) vs
  return (value_of e (Object e.number))
