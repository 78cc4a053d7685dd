-- `op=`, `++` and `--`: the part of `update_place` after its operands, and how it goes.
use Rattle.std.proofs.Common.{◌≡◌, ℕ, Bool, List, refl, sym, ap, Some, Err}
use Rattle.std.specs.Prelude.{None as Absent, if◌then◌else◌}
use Rattle.wy_kernel.specs.declared.operator.BinOp.{BinOp}
use Rattle.wy_kernel.specs.declared.operator.Primitive.{Primitive}
use Rattle.wy_kernel.specs.declared.types.Ty.{Ty}
use Rattle.wy_kernel.specs.Program.{Program}
use Rattle.wy_value.specs.declared.value.Value.{Value}
use Rattle.wy_value.specs.declared.value.Value.TheVariants.{None as Nothing}
use Rattle.wy_event.specs.declared.record.Slot.{Slot}
use Rattle.wy_event.specs.declared.record.Use.{Use}
use Rattle.wy_steps.specs.Sets.{nothing}
use Rattle.wy_steps.specs.State.{State, Carried, Run, go_on, ◌>>=◌, return}
use Rattle.wy_steps.specs.Steps.{joined, with_value}
use Rattle.wy_meaning.specs.World.{World, arithmetic, fail}
use Rattle.wy_meaning.specs.Place.{Located, Spot, assign, divided, fetch, find, operated, primitive_of, update_place}
use Rattle.wy_operation.specs.Around.{Ends}
use Rattle.wy_operation.specs.Spots.{Stored}
use Rattle.wy_operation.specs.Updated.{Places, updated}
use Rattle.wy_operation.proofs.Operators.{divided_fails, divided_goes}
use Rattle.wy_operation.proofs.Runs.{answers_next, done_first, go_on-go_on}
use Rattle.wy_state.specs.Agrees.{Shape, Onward, StepGives, itself}
use Rattle.wy_state.specs.Seen.{given}
use Rattle.wy_state.specs.declared.parts.Halt.{Halt}
use Rattle.wy_state.proofs.Onward.{answers_after, onward_as, onward_then}

-- an update is its place, its old value and its right side, and then what `updated` says
pub update_is : (w : World nothing) (place : Located nothing) (op : BinOp) (right : Run nothing (Carried nothing)) (ty : Ty) (wide : Primitive) (gives_old : Bool) (site : ℕ) (s : State nothing) →
    update_place w place op right ty wide gives_old site s ≡
    (find w place >>= (λ spot. fetch spot >>= (λ old. right >>= (λ v. updated w op ty wide site spot old v >>= (λ set. return (if gives_old then old else set)))))) s
unfolding update_place updated ◌>>=◌
update_is w place op right ty wide gives_old site s = λ i. (find w place >>= (λ spot. fetch spot >>= (λ old. right >>= (λ v t. once spot old v t i)))) s
  where
    once : (spot : Spot nothing) (old v : Carried nothing) (t : State nothing) →
        go_on (divided w site (joined Nothing old v) (operated op wide old.value v.value) t) (λ new. assign site spot (with_value (primitive_of ty new.value) new) >>= (λ set. return (if gives_old then old else set))) ≡
        go_on (updated w op ty wide site spot old v t) (λ set. return (if gives_old then old else set))
    once spot old v t = sym (go_on-go_on (divided w site (joined Nothing old v) (operated op wide old.value v.value) t) (λ new. assign site spot (with_value (primitive_of ty new.value) new)) (λ set. return (if gives_old then old else set)))

updated_as : (w : World nothing) (op : BinOp) (ty : Ty) (wide : Primitive) (site : ℕ) (spot : Spot nothing) (old v : Carried nothing) (left right : Value) (c : Carried nothing) →
    old.value ≡ left → v.value ≡ right → joined Nothing old v ≡ c → (s : State nothing) →
    updated w op ty wide site spot old v s ≡ (divided w site c (operated op wide left right) >>= (λ new. assign site spot (with_value (primitive_of ty new.value) new))) s
unfolding updated
updated_as w op ty wide site spot old v left right c is_left is_right all s = rw (← is_left, ← is_right, ← all) refl

module _ (p : Program) (w : World nothing) (op : BinOp) (ty : Ty) (wide : Primitive) (site : ℕ) (x : Slot) (left right : Value) (ops us : List Use) (o : Places x left right ops us) where
  abbrev pub update : Run nothing (Carried nothing)
  update = updated w op ty wide site o.spot o.old o.value

  abbrev pub new_value : Run nothing (Carried nothing)
  new_value = divided w site (given Nothing ops) (operated op wide left right)

  abbrev pub set_to : Carried nothing → Run nothing (Carried nothing)
  set_to new = assign site o.spot (with_value (primitive_of ty new.value) new)

  operands_are : joined Nothing o.old o.value ≡ given Nothing ops
  unfolding joined
  operands_are = ap (given Nothing) o.are_operands

  update_said : (s : State nothing) → update s ≡ (new_value >>= set_to) s
  update_said s = updated_as w op ty wide site o.spot o.old o.value left right (given Nothing ops) o.is_left o.is_right operands_are s

  pub update_fails : (m n : Shape) (e : Halt) → operated op wide left right ≡ Absent → Ends p e m (fail w arithmetic site (given Nothing ops)) n → StepGives p (itself {X = Carried nothing}) (Err e) m update n
  update_fails m n e none a = answers_after p m n new_value itself itself set_to _ e update_said (divided_fails p w site _ ops refl _ m n e none a)

  module _ (v u : Value) (is : operated op wide left right ≡ Some v) (of_type : u ≡ primitive_of ty v) where
    abbrev pub stored : Stored x u us
    stored = record { spot = o.spot; right = given u ops; is_slot = o.is_slot; is_right = refl; are_joined = o.are_joined }

    update_starts : (m : Shape) → Onward p m update m (assign site o.spot (given u ops))
    unfolding with_value
    update_starts m = rw of_type (onward_as update_said (done_first new_value set_to (given v ops) (divided_goes p w site _ ops refl _ m v is)))

    pub update_goes : (m n : Shape) (c : Carried nothing) → Onward p m (assign site o.spot (given u ops)) n (return c) → Onward p m update n (return c)
    update_goes m n c a = onward_then (update_starts m) a

    pub update_halts : (m n : Shape) (e : Halt) → StepGives p (itself {X = Carried nothing}) (Err e) m (assign site o.spot (given u ops)) n → StepGives p (itself {X = Carried nothing}) (Err e) m update n
    update_halts m n e a = answers_next p itself (Err e) m m n _ _ (update_starts m) a
