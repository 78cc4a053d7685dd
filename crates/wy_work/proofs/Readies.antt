-- What goes on once a class is initialized.
use Rattle.std.proofs.Common.{◌≡◌, ◌∙◌, ℕ, Bool, length, map, refl, ap, sym, subst, Option, Result, rules, vec_len}
use Rattle.std.specs.Prelude.{None as Absent}
use Rattle.wy_kernel.specs.Program.{Program}
use Rattle.std.proofs.lemmas.List.{length-map}
use Rattle.std.specs.declared.alloc.Global.{Global}
use Rattle.std.specs.declared.vec.Vec.{Vec}
use Rattle.wy_kernel.specs.Form.{Expression}
use Rattle.wy_kernel.specs.declared.form.Expr.{Expr}
use Rattle.wy_kernel.specs.View.{expression, row_of}
use Rattle.wy_kernel.specs.Form as plain
use Rattle.wy_kernel.specs.declared.form.CallForm.TheVariants as call_form
use Rattle.wy_kernel.specs.declared.operator.BinOp.{BinOp}
use Rattle.wy_kernel.specs.declared.operator.Primitive.{Primitive}
use Rattle.wy_kernel.specs.declared.types.Ty.{Ty}
use Rattle.wy_value.specs.declared.value.Value.TheVariants as val
use Rattle.wy_event.specs.declared.record.Slot.{Slot}
use Rattle.wy_event.specs.declared.record.Slot.TheVariants as slots
use Rattle.wy_steps.specs.Sets.{nothing}
use Rattle.wy_steps.specs.State.{Carried}
use Rattle.wy_steps.specs.Steps.{constant}
use Rattle.wy_state.specs.declared.parts.Halt.{Halt}
use Rattle.wy_operation.specs.Spots.{spot_of}
use Rattle.wy_operands.specs.Values.{top, under_many, last_many, uses_of_last}
use Rattle.wy_work.specs.declared.task.ExprStep.TheVariants as step
use Rattle.wy_work.specs.Expressions.{expr_step, put_on, updating_of}
use Rattle.wy_work.specs.Tasks.{MachineState, Does}
use Rattle.wy_work.specs.Listed.{IsStatic}
use Rattle.wy_work.specs.Operands.{list_of}
use Rattle.wy_work.proofs.Places.{Fetching, Storing}
use Rattle.wy_work.proofs.Views.{listed_row}

pub record StaticOf (z : plain.Place) (slot : Slot) : Type 0 where
  pub field : ℕ
  pub site : ℕ
  pub is : z ≡ plain.Static field site
  pub is_slot : slot ≡ slots.Static field

pub static_of : (z : plain.Place) (slot : Slot) → IsStatic z slot → StaticOf z slot
static_of (plain.Local i) slot h = absurd h
static_of (plain.Static f site) slot h = record { field = f; site = site; is = refl; is_slot = h }
static_of (plain.Field object f site) slot h = absurd h
static_of (plain.Elem array index site) slot h = absurd h

abbrev pub Readying : Program → Expression → MachineState → Result (Unit {0}) Halt → MachineState → Type 0
Readying p x m r n = Does p (λ w. expr_step w x step.Ready) m r n

module _ (p : Program) (m : MachineState) (r : Result (Unit {0}) Halt) (n : MachineState) (x : Expression) (z : plain.Place) (slot : Slot) (static : IsStatic z slot) where
  pub static_fetched : x ≡ plain.Read z → Fetching slot 0 m r n → Readying p x m r n
  unfolding constant
  static_fetched is a =
      let of = static_of z slot static in
      subst (λ y. Readying p y m r n) (sym (is ∙ ap plain.Read of.is)) (subst (λ (y : Slot). Fetching y 0 m r n) of.is_slot a p (constant val.None) refl)

  pub static_stored : (value : Expression) (site : ℕ) → x ≡ plain.Set z value site → Storing p slot 1 site m r n → Readying p x m r n
  unfolding constant
  static_stored value site is a =
      let of = static_of z slot static in
      subst (λ y. Readying p y m r n) (sym (is ∙ ap (λ y. plain.Set y value site) of.is))
      (subst (λ (y : Slot). Storing p y 1 site m r n) of.is_slot a (record { spot = spot_of (slots.Static of.field) (constant val.None); right = top m.values; is_slot = refl; is_right = refl; are_joined = refl }))

  pub static_updated : (op : BinOp) (part : plain.Part) (value_ty ty : Ty) (wide : Option Primitive) (gives_old : Bool) (site : ℕ) → x ≡ plain.Upd z op part value_ty ty wide gives_old site →
      ((q : Program) (c : Carried nothing) → c.uses ≡ uses_of_last 0 m.values → Does q (λ w vs. updating_of w x (spot_of slot c) (under_many 0 vs)) m r n) → Readying p x m r n
  unfolding constant
  static_updated op part value_ty ty wide gives_old site is a =
      let of = static_of z slot static in
      let y = plain.Upd (plain.Static of.field of.site) op part value_ty ty wide gives_old site in
      let seen = is ∙ ap (λ y. plain.Upd y op part value_ty ty wide gives_old site) of.is in
      subst (λ y. Readying p y m r n) (sym seen)
      (subst (λ (s : Slot). Does p (λ w vs. updating_of w y (spot_of s (constant val.None)) vs) m r n) of.is_slot
      (subst (λ (y : Expression). Does p (λ w vs. updating_of w y (spot_of slot (constant val.None)) vs) m r n) seen (a p (constant val.None) refl)))

-- a static call
pub static_called : (p : Program) (m : MachineState) (r : Result (Unit {0}) Halt) (n : MachineState) (x : Expression) (method count : ℕ) (receiver : plain.Part) (ty : Ty) (args : plain.Row) (site : ℕ) → x ≡ plain.Call call_form.Static method receiver ty args site → count ≡ length (list_of args) →
    Does p (λ w vs. put_on (under_many count vs) (w.call site method Absent (last_many count vs))) m r n → Readying p x m r n
static_called p m r n x method count receiver ty args site is many a =
    subst (λ y. Readying p y m r n) (sym is) (subst (λ k. Does p (λ w vs. put_on (under_many k vs) (w.call site method Absent (last_many k vs))) m r n) many a)

-- as many arguments as the call in memory has
pub as_many : (args : Vec Expr Global) (count : ℕ) → count ≡ vec_len args → count ≡ length (list_of (row_of (map expression args.items)))
as_many args count is =
    let same : vec_len args ≡ length args.items = search rules in
    is ∙ same ∙ sym (ap length (listed_row (map expression args.items)) ∙ length-map args.items expression)
