-- What forms with at most one operand give, and reads of slots and assignments to them.
use Rattle.std.proofs.Common.{◌≡◌, ◌∙◌, ℕ, List, [], ◌∷◌, ◌++◌, refl, ap, sym, Err}
use Rattle.wy_kernel.specs.Program.{Program}
use Rattle.wy_kernel.specs.declared.operator.Primitive.{Primitive}
use Rattle.wy_kernel.specs.declared.operator.UnOp.{UnOp}
use Rattle.wy_kernel.specs.declared.types.Ty.{Ty}
use Rattle.wy_kernel.specs.Form.{Constant}
use Rattle.wy_value.specs.declared.value.Value.{Value}
use Rattle.wy_value.specs.declared.value.Value.TheVariants as val
use Rattle.wy_value.specs.Operator.{unary_of}
use Rattle.wy_value.specs.Conversion.{converted}
use Rattle.wy_event.specs.declared.record.Slot.{Slot}
use Rattle.wy_event.specs.declared.record.Use.{Use}
use Rattle.wy_steps.specs.Sets.{nothing}
use Rattle.wy_steps.specs.State.{State, Carried, ◌>>=◌, go_on, return}
use Rattle.wy_steps.specs.Steps.{constant, with_value}
use Rattle.wy_meaning.specs.World.{World}
use Rattle.wy_meaning.specs.Run.{world}
use Rattle.wy_meaning.specs.Expression.{cast, constant_value, convert, instance_of, unary}
use Rattle.wy_meaning.specs.Place.{fetch, store}
use Rattle.wy_state.specs.declared.parts.Halt.{Halt}
use Rattle.wy_state.specs.Agrees.{Shape, Onward, StepGives}
use Rattle.wy_state.specs.Seen.{given, valued}
use Rattle.wy_state.proofs.Onward.{onward_as, onward_same}
use Rattle.wy_operation.specs.Around.{IsSameAround, KeepsAt}
use Rattle.wy_operation.specs.Spots.{Stored, spot_of}
use Rattle.wy_operation.proofs.Runs.{answers_as}
use Rattle.wy_operands.specs.Values.{Values, top, under, under_many, uses_of_last, joined_last, joined_with, with_event}
use Rattle.wy_work.specs.Expressions.{put_on}
use Rattle.wy_work.specs.Tasks.{MachineState, then_all, goes, Resumed}
use Rattle.wy_work.specs.Operands.{Given}
use Rattle.wy_work.proofs.Runs.{failed_at, gave_at, keeps_calls, same_around, world_program}

-- what is its value and its uses
pub carried_is : (c : Carried nothing) (v : Value) (us : List Use) → v ≡ c.value → us ≡ c.uses → c ≡ given v us
carried_is c v us l u = rw (l, u) refl

-- a value comes on the stack, and the state is as it was
pub gave_same : (p : Program) (m : MachineState) (us : Values) (f : Given) (v : Carried nothing) (vs : Values) → ((s : State nothing) → f s ≡ return v s) → us ≡ v ∷ vs → Onward p m.state (then_all p m (put_on vs f)) m.state (goes p (record m { values = us }))
gave_same p m us f v vs is values = gave_at p m m.state us f v vs (onward_as is (onward_same p m.state (return v))) (same_around m.state.calls) values

pub text_gave : (p : Program) (m : MachineState) (us : Values) (text : ℕ) → us ≡ given (val.Fixed text) [] ∷ m.values →
    Onward p m.state (then_all p m (put_on m.values (return (constant (val.Fixed text))))) m.state (goes p (record m { values = us }))
unfolding constant
text_gave p m us text values = gave_same p m us (return (constant (val.Fixed text))) (given (val.Fixed text) []) m.values (λ s. refl) values

pub constant_gave : (p : Program) (m : MachineState) (us : Values) (k : Constant) (v : Value) → v ≡ constant_value k → us ≡ given v [] ∷ m.values →
    Onward p m.state (then_all p m (put_on m.values (return (constant (constant_value k))))) m.state (goes p (record m { values = us }))
unfolding constant
constant_gave p m us k v is values = gave_same p m us (return (constant (constant_value k))) (given v []) m.values (λ s. rw is refl) values

unary_is : (op : UnOp) (c : Carried nothing) (value v : Value) → value ≡ c.value → v ≡ unary_of op value → (s : State nothing) → unary op (return c) s ≡ return (given v c.uses) s
unfolding unary ◌>>=◌ go_on return with_value
unary_is op c value v l is s = rw (is, l) refl

pub unary_gave : (p : Program) (m : MachineState) (us : Values) (op : UnOp) (value v : Value) → value ≡ (top m.values).value → v ≡ unary_of op value → us ≡ joined_last 1 v m.values →
    Onward p m.state (then_all p m (put_on (under m.values) (unary op (return (top m.values))))) m.state (goes p (record m { values = us }))
unary_gave p m us op value v l is values = gave_same p m us (unary op (return (top m.values))) (given v (top m.values).uses) (under m.values) (unary_is op (top m.values) value v l is) values

convert_is : (to : Primitive) (c : Carried nothing) (value v : Value) → value ≡ c.value → v ≡ converted to value → (s : State nothing) → convert to (return c) s ≡ return (given v c.uses) s
unfolding convert ◌>>=◌ go_on return with_value
convert_is to c value v l is s = rw (is, l) refl

pub convert_gave : (p : Program) (m : MachineState) (us : Values) (to : Primitive) (value v : Value) → value ≡ (top m.values).value → v ≡ converted to value → us ≡ joined_last 1 v m.values →
    Onward p m.state (then_all p m (put_on (under m.values) (convert to (return (top m.values))))) m.state (goes p (record m { values = us }))
convert_gave p m us to value v l is values = gave_same p m us (convert to (return (top m.values))) (given v (top m.values).uses) (under m.values) (convert_is to (top m.values) value v l is) values

module _ (p : Program) (m : MachineState) (s : Shape) (us : Values) where
  module _ (ty : Ty) (site : ℕ) (value : Value) (used : List Use) (l : value ≡ (top m.values).value) (u : used ≡ uses_of_last 1 m.values) where
    cast_is : (w : World nothing) (at : State nothing) → cast w ty (return (top m.values)) site at ≡ cast w ty (return (given value used)) site at
    cast_is w at = ap (λ c. cast w ty (return c) site at) (carried_is (top m.values) value used l u)

    pub cast_went : ((w : World nothing) → w.program ≡ p → Onward p m.state (cast w ty (return (given value used)) site) s (return (given value used))) → IsSameAround m.state.calls s.calls → us ≡ joined_last 1 value m.values →
        Onward p m.state (then_all p m (put_on (under m.values) (cast (world p m.depth) ty (return (top m.values)) site))) s (goes p (record m { state = s; values = us }))
    cast_went a same values =
        gave_at p m s us _ (given value used) (under m.values) (onward_as (cast_is (world p m.depth)) (a (world p m.depth) (world_program p m.depth))) same
        (values ∙ ap (λ x. given value x ∷ under m.values) (sym u))

    pub cast_failed : (e : Halt) → ((w : World nothing) → w.program ≡ p → StepGives {X = Unit {0}} p (λ x. given value used) (Err e) m.state (cast w ty (return (given value used)) site) s) → KeepsAt e m.state.calls s.calls →
        Resumed p (then_all p m (put_on (under m.values) (cast (world p m.depth) ty (return (top m.values)) site))) m.state (Err e) (record m { state = s; values = us })
    cast_failed e a same =
        failed_at p m s us _ (λ v. return (v ∷ under m.values)) (λ (x : Unit {0}). given value used) e (λ x. return us)
        (answers_as p (λ (x : Unit {0}). given value used) (Err e) m.state s _ _ (cast_is (world p m.depth)) (a (world p m.depth) (world_program p m.depth))) same

  pub instance_gave : (ty : Ty) (value v : Value) → value ≡ (top m.values).value → ((w : World nothing) (own : List Use) → w.program ≡ p → Onward p m.state (instance_of w ty (return (given value own))) m.state (return (given v own))) → us ≡ joined_last 1 v m.values →
      Onward p m.state (then_all p m (put_on (under m.values) (instance_of (world p m.depth) ty (return (top m.values))))) m.state (goes p (record m { values = us }))
  instance_gave ty value v l a values =
      gave_at p m m.state us _ (given v (top m.values).uses) (under m.values)
      (onward_as (λ at. ap (λ c. instance_of (world p m.depth) ty (return c) at) (carried_is (top m.values) value (top m.values).uses l refl)) (a (world p m.depth) (top m.values).uses (world_program p m.depth)))
      (same_around m.state.calls) values

  module _ (slot : Slot) (many : ℕ) (c : Carried nothing) (own : c.uses ≡ uses_of_last many m.values) where
    pub fetch_went : (value : Value) (last : Use) → ((q : Program) (c : Carried nothing) → Onward q m.state (fetch (spot_of slot c)) m.state (return (given value (c.uses ++ last ∷ [])))) → us ≡ joined_with many value last m.values →
        Onward p m.state (then_all p m (put_on (under_many many m.values) (fetch (spot_of slot c)))) m.state (goes p (record m { values = us }))
    fetch_went value last a values =
        gave_at p m m.state us _ (given value (c.uses ++ last ∷ [])) (under_many many m.values) (a p c) (same_around m.state.calls)
        (values ∙ ap (λ x. given value (x ++ last ∷ []) ∷ under_many many m.values) (sym own))

    pub fetch_failed : (e : Halt) → ((q : Program) (c : Carried nothing) → StepGives {X = Value × Use} q (λ r. given r.0 (c.uses ++ r.1 ∷ [])) (Err e) m.state (fetch (spot_of slot c)) m.state) →
        Resumed p (then_all p m (put_on (under_many many m.values) (fetch (spot_of slot c)))) m.state (Err e) m
    fetch_failed e a =
        failed_at p m m.state m.values _ (λ v. return (v ∷ under_many many m.values)) (λ (r : Value × Use). given r.0 (c.uses ++ r.1 ∷ [])) e (λ x. return m.values) (a p c) (keeps_calls e m.state.calls m.state.calls refl)

  module _ (slot : Slot) (many : ℕ) (site : ℕ) (value : Value) (used : List Use) (l : value ≡ (top m.values).value) (u : used ≡ uses_of_last many m.values) (o : Stored slot (top m.values).value (uses_of_last many m.values)) where
    abbrev stored_here : Stored slot value used
    stored_here = record { spot = o.spot; right = o.right; is_slot = o.is_slot; is_right = o.is_right ∙ sym l; are_joined = o.are_joined ∙ sym u }

    pub store_went : (e : ℕ) → ((w : World nothing) (o : Stored slot value used) → w.program ≡ p → Onward p m.state (store w site o.spot o.right) s (return (valued e value))) → IsSameAround m.state.calls s.calls → us ≡ with_event many value e m.values →
        Onward p m.state (then_all p m (put_on (under_many many m.values) (store (world p m.depth) site o.spot o.right))) s (goes p (record m { state = s; values = us }))
    store_went e a same values = gave_at p m s us _ (valued e value) (under_many many m.values) (a (world p m.depth) stored_here (world_program p m.depth)) same values

    pub store_failed : (e : Halt) → ((w : World nothing) (o : Stored slot value used) → w.program ≡ p → StepGives {X = ℕ} p (λ n. valued n value) (Err e) m.state (store w site o.spot o.right) s) → KeepsAt e m.state.calls s.calls →
        Resumed p (then_all p m (put_on (under_many many m.values) (store (world p m.depth) site o.spot o.right))) m.state (Err e) (record m { state = s; values = us })
    store_failed e a same = failed_at p m s us _ (λ v. return (v ∷ under_many many m.values)) (λ (n : ℕ). valued n value) e (λ x. return us) (a (world p m.depth) stored_here (world_program p m.depth)) same
