-- Which method a call takes, once its operands are there.
use Rattle.std.specs.Prelude.{◌==◌}
use Rattle.std.proofs.Common.{◌≡◌, ◌∙◌, ℕ, [], ◌∷◌, map, refl, ap, sym, subst, true, false, Some, Result, Ok, Err}
use Rattle.wy_kernel.specs.Program.{Program, dispatch, class_of_type}
use Rattle.wy_kernel.specs.declared.types.Ty.{Ty}
use Rattle.wy_kernel.specs.declared.form.CallForm.TheVariants as form
use Rattle.wy_value.specs.declared.value.Value.{Value}
use Rattle.wy_steps.specs.Sets.{nothing}
use Rattle.wy_steps.specs.State.{State, Carried, go_on, ◌>>=◌, return, choose}
use Rattle.wy_value.specs.declared.value.Value.TheVariants as val
use Rattle.wy_meaning.specs.World.{World, all_of, fail, is_null, is_text, null_pointer, type_of}
use Rattle.wy_meaning.specs.Run.{world}
use Rattle.wy_meaning.specs.Text.{call_chosen}
use Rattle.wy_meaning.specs.Call.{call_form, call_on, call_on_text, equals}
use Rattle.wy_state.specs.declared.parts.Halt.{Halt}
use Rattle.wy_state.specs.declared.parts.Halt.TheVariants.{Left, Stopped, Memory}
use Rattle.wy_state.specs.Agrees.{Onward}
use Rattle.wy_state.proofs.Onward.{within, onward_as, onward_then, onward_same}
use Rattle.wy_operands.specs.Values.{Values}
use Rattle.wy_work.specs.Expressions.{put_on}
use Rattle.wy_work.specs.Operands.{Given, evaluated}
use Rattle.wy_work.specs.Tasks.{MachineState, around, after, then_all, Resumed}
use Rattle.wy_work.proofs.Runs.{world_program}

-- the same run, said in another way
pub resumed_as : (p : Program) (m q : MachineState) (r : Result (Unit {0}) Halt) (us : Values) (f g : Given) → ((s : State nothing) → f s ≡ g s) → Resumed p (then_all p m (put_on us g)) m.state r q → Resumed p (then_all p m (put_on us f)) m.state r q
resumed_as p m q (Ok x) us f g same a = onward_as (λ s. ap (λ z. after p (around m) m.work (go_on z (λ v. return (v ∷ us)))) (same s)) a
resumed_as p m q (Err (Left why)) us f g same a = onward_as (λ s. ap (λ z. after p (around m) m.work (go_on z (λ v. return (v ∷ us)))) (same s)) a
resumed_as p m q (Err (Stopped why)) us f g same a = onward_as (λ s. ap (λ z. after p (around m) m.work (go_on z (λ v. return (v ∷ us)))) (same s)) a
resumed_as p m q (Err Memory) us f g same a = tt

pub all_there : (vs : Values) (s : State nothing) → all_of (map return vs) s ≡ return vs s
unfolding all_of ◌>>=◌ go_on return
all_there [] s = refl
all_there (v ∷ vs) s = ap (λ o. go_on o (λ us. return (v ∷ us))) (all_there vs s)

module _ (w : World nothing) (m : ℕ) (r : Carried nothing) (args : Values) (site : ℕ) where
  abbrev directly : Given
  directly = choose (is_null r.value) (fail w null_pointer site r) (w.call site m (Some r) args)

  pub direct_is : (s : State nothing) → call_on w form.Direct m (return r) (evaluated args) site s ≡ directly s
  unfolding call_on call_form ◌>>=◌ go_on return
  direct_is s = ap (λ o. go_on o (λ vs. choose (is_null r.value) (fail w null_pointer site r) (w.call site m (Some r) vs))) (all_there args s)

  pub direct_called : is_null r.value ≡ false → (s : State nothing) → call_on w form.Direct m (return r) (evaluated args) site s ≡ w.call site m (Some r) args s
  unfolding choose
  direct_called apart s = direct_is s ∙ ap (λ b. choose b (fail w null_pointer site r) (w.call site m (Some r) args) s) apart

  pub direct_fails : is_null r.value ≡ true → (s : State nothing) → call_on w form.Direct m (return r) (evaluated args) site s ≡ fail w null_pointer site r s
  unfolding choose
  direct_fails same s = direct_is s ∙ ap (λ b. choose b (fail w null_pointer site r) (w.call site m (Some r) args) s) same

-- the class of the receiver is known, and what it runs
pub chosen_first : (p : Program) (m : MachineState) (us args : Values) (site number : ℕ) (r : Carried nothing) (v : Value) (ty : Ty) (class chosen : ℕ) → v ≡ r.value → Onward p m.state (type_of v) m.state (return ty) → class ≡ class_of_type ty → chosen ≡ dispatch p number class →
    Onward p m.state (then_all p m (put_on us (call_chosen (world p m.depth) site number r args))) m.state (then_all p m (put_on us ((world p m.depth).call site chosen (Some r) args)))
unfolding call_chosen ◌>>=◌ go_on return
chosen_first p m us args site number r v ty class chosen value typed class_is chosen_is =
    let w = world p m.depth in
    let is = ap (λ q. dispatch q number (class_of_type ty)) (world_program p m.depth) ∙ ap (dispatch p number) (sym class_is) ∙ sym chosen_is in
    onward_then (within (λ o. after p (around m) m.work (go_on (go_on o (λ t. w.call site (dispatch w.program number (class_of_type t)) (Some r) args)) (λ x. return (x ∷ us)))) (subst (λ z. Onward p m.state (type_of z) m.state (return ty)) value typed))
    (onward_as (λ s. ap (λ z. after p (around m) m.work (go_on (w.call site z (Some r) args s) (λ x. return (x ∷ us)))) is) (onward_same p m.state _))

-- ---- what the class of the receiver decides

module _ (w : World nothing) (m : ℕ) (r : Carried nothing) (args : Values) (site : ℕ) where
  abbrev unless_text : Given
  unless_text = choose (is_text r.value) (call_on_text w (m == equals) r args) (call_chosen w site m r args)

  chosen_is : (s : State nothing) → call_on w form.Chosen m (return r) (evaluated args) site s ≡ choose (is_null r.value) (fail w null_pointer site r) unless_text s
  unfolding call_on call_form ◌>>=◌ go_on return
  chosen_is s = ap (λ o. go_on o (λ vs. choose (is_null r.value) (fail w null_pointer site r) (choose (is_text r.value) (call_on_text w (m == equals) r vs) (call_chosen w site m r vs)))) (all_there args s)

  pub chosen_fails : is_null r.value ≡ true → (s : State nothing) → call_on w form.Chosen m (return r) (evaluated args) site s ≡ fail w null_pointer site r s
  unfolding choose
  chosen_fails same s = chosen_is s ∙ ap (λ b. choose b (fail w null_pointer site r) unless_text s) same

  pub chosen_on_text : is_null r.value ≡ false → is_text r.value ≡ true → (s : State nothing) → call_on w form.Chosen m (return r) (evaluated args) site s ≡ call_on_text w (m == equals) r args s
  unfolding choose
  chosen_on_text apart text s = chosen_is s ∙ ap (λ b. choose b (fail w null_pointer site r) unless_text s) apart ∙ ap (λ b. choose b (call_on_text w (m == equals) r args) (call_chosen w site m r args) s) text

  pub chosen_by_class : is_null r.value ≡ false → is_text r.value ≡ false → (s : State nothing) → call_on w form.Chosen m (return r) (evaluated args) site s ≡ call_chosen w site m r args s
  unfolding choose
  chosen_by_class apart other s = chosen_is s ∙ ap (λ b. choose b (fail w null_pointer site r) unless_text s) apart ∙ ap (λ b. choose b (call_on_text w (m == equals) r args) (call_chosen w site m r args) s) other

pub null_seen : (v : Value) → v ≡ val.Null → is_null v ≡ true
unfolding is_null
null_seen v is = rw is refl

pub text_seen : (v : Value) (n : ℕ) → v ≡ val.Text n → is_text v ≡ true
unfolding is_text
text_seen v n is = rw is refl

pub fixed_seen : (v : Value) (n : ℕ) → v ≡ val.Fixed n → is_text v ≡ true
unfolding is_text
fixed_seen v n is = rw is refl

pub text_apart : (v : Value) → is_text v ≡ true → is_null v ≡ false
unfolding is_text is_null
text_apart (val.Text n) is = refl
text_apart (val.Fixed n) is = refl
text_apart val.None is = refl
text_apart (val.Bool b) is = refl
text_apart (val.Byte z) is = refl
text_apart (val.Short z) is = refl
text_apart (val.Char n) is = refl
text_apart (val.Int z) is = refl
text_apart (val.Long z) is = refl
text_apart val.Null is = sym is
text_apart (val.Object n) is = refl
text_apart (val.Arm n) is = refl

pub null_apart : (v : Value) → (v ≡ val.Null → ⊥) → is_null v ≡ false
unfolding is_null
null_apart val.Null other = absurd (other refl)
null_apart (val.Text n) other = refl
null_apart (val.Fixed n) other = refl
null_apart val.None other = refl
null_apart (val.Bool b) other = refl
null_apart (val.Byte z) other = refl
null_apart (val.Short z) other = refl
null_apart (val.Char n) other = refl
null_apart (val.Int z) other = refl
null_apart (val.Long z) other = refl
null_apart (val.Object n) other = refl
null_apart (val.Arm n) other = refl

pub no_text : (v : Value) → ((n : ℕ) → v ≡ val.Text n → ⊥) → ((n : ℕ) → v ≡ val.Fixed n → ⊥) → is_text v ≡ false
unfolding is_text
no_text (val.Text n) other fixed = absurd (other n refl)
no_text (val.Fixed n) other fixed = absurd (fixed n refl)
no_text val.Null other fixed = refl
no_text val.None other fixed = refl
no_text (val.Bool b) other fixed = refl
no_text (val.Byte z) other fixed = refl
no_text (val.Short z) other fixed = refl
no_text (val.Char n) other fixed = refl
no_text (val.Int z) other fixed = refl
no_text (val.Long z) other fixed = refl
no_text (val.Object n) other fixed = refl
no_text (val.Arm n) other fixed = refl
