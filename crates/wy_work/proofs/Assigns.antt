-- Updates whose old value and right side are there.
use Rattle.std.proofs.Common.{◌≡◌, ◌∙◌, ℕ, Bool, List, [], ◌∷◌, ◌++◌, refl, ap, sym, subst, Bor, Option, Some, Result, Ok, Err}
use Rattle.std.specs.Prelude.{None as Absent, if◌then◌else◌}
use Rattle.wy_kernel.specs.Program.{Program}
use Rattle.wy_kernel.specs.Form.{Expression}
use Rattle.wy_kernel.specs.Form as plain
use Rattle.wy_kernel.specs.View.{expression}
use Rattle.wy_kernel.specs.declared.form.Expr.{Expr}
use Rattle.wy_kernel.specs.declared.operator.BinOp.{BinOp}
use Rattle.wy_kernel.specs.declared.operator.Primitive.{Primitive}
use Rattle.wy_kernel.specs.declared.types.Ty.{Ty}
use Rattle.wy_value.specs.declared.value.Value.{Value}
use Rattle.wy_event.specs.declared.record.Slot.{Slot}
use Rattle.wy_event.specs.declared.record.Use.{Use}
use Rattle.wy_steps.specs.Sets.{nothing}
use Rattle.wy_steps.specs.State.{State, Carried, Run, Outcome, go_on, ◌>>=◌, ◌>>◌, return}
use Rattle.wy_meaning.specs.World.{World}
use Rattle.wy_meaning.specs.Run.{world}
use Rattle.wy_meaning.specs.Text.{concatenated}
use Rattle.wy_state.specs.declared.parts.Halt.{Halt}
use Rattle.wy_state.specs.Agrees.{Shape, Onward, StepGives}
use Rattle.wy_state.specs.Seen.{given, valued}
use Rattle.wy_state.proofs.Onward.{onward_as, onward_same}
use Rattle.wy_operation.specs.Around.{IsSameAround, KeepsAt}
use Rattle.wy_operation.specs.Spots.{spot_of}
use Rattle.wy_operation.specs.Updated.{Places, updated}
use Rattle.wy_operands.specs.Values.{Values, at, top, under_many, uses_of_last}
use Rattle.wy_work.specs.declared.task.Task.TheVariants as tasks
use Rattle.wy_work.specs.declared.task.ExprStep.TheVariants as step
use Rattle.wy_work.specs.Expressions.{expr_step, put_on, right_side, updating, updating_of}
use Rattle.wy_work.specs.Tasks.{MachineState, around, after, pushed, then_all, Does, Resumed}
use Rattle.wy_operation.proofs.Runs.{go_on-go_on}
use Rattle.wy_work.proofs.Runs.{turned_after, world_program}
use Rattle.wy_kernel.specs.Program as kernel
use Rattle.wy_event.specs.declared.record.Slot.TheVariants as slots
use Rattle.wy_value.specs.declared.value.Value.TheVariants.{None as Nothing}
use Rattle.wy_meaning.specs.Place.{Located, AtLocal, AtStatic, AtField, AtElem, Spot, element_spot, field_spot, find, initialize, local_spot, static_spot}
use Rattle.wy_steps.specs.Steps.{constant}
use Rattle.wy_state.specs.Steps.{local_slot}
use Rattle.wy_operation.specs.Operands.{Pair}
use Rattle.wy_work.specs.Expressions.{leaving}
use Rattle.wy_work.specs.Listed.{IsUpdate}
use Rattle.wy_work.proofs.Forms.{UpdateOf, update_of}
use Rattle.wy_work.proofs.Operates.{last_pair}
use Rattle.wy_work.proofs.Runs.{same_around}
use Rattle.wy_meaning.specs.Expression.{update}
use Rattle.wy_work.specs.Operands.{Given}
use Rattle.wy_work.proofs.Updates.{update_is}
use Rattle.wy_work.proofs.Places.{Operating, Storing, first_failed, first_went, local_found, once_initialized, put_as}

joined_thrice : (a b c : List Use) → a ++ (b ++ c) ≡ (a ++ b) ++ c
joined_thrice [] b c = refl
joined_thrice (x ∷ a) b c = ap (λ all. x ∷ all) (joined_thrice a b c)

module _ (p : Program) (m : MachineState) (slot : Slot) (place : plain.Place) (op : BinOp) (part : plain.Part) (value_ty ty : Ty) (site : ℕ) where
  -- the parts of the place and the text are there
  pub text_stored : (wide : Option Primitive) (gives_old : Bool) (r : Result (Unit {0}) Halt) (n : MachineState) (x : Expression) → x ≡ plain.Upd place op part value_ty ty wide gives_old site → Storing p slot 2 site m r n → Does p (λ w. expr_step w x (step.Store slot)) m r n
  text_stored wide gives_old r n x seen a =
      subst (λ z. Does p (λ w. expr_step w z (step.Store slot)) m r n) (sym seen) (a (record { spot = spot_of slot (at 1 m.values); right = top m.values; is_slot = refl; is_right = refl; are_joined = refl }))

  -- the text of the old value and the right side comes first
  pub text_next : (gives_old : Bool) (r : Result (Unit {0}) Halt) (n q : MachineState) (e : Bor Expr) → expression e.now ≡ plain.Upd place op part value_ty ty Absent gives_old site → q ≡ pushed (tasks.Expr e (step.Store slot)) m →
      Does p (λ w vs. put_on (under_many 2 vs) (concatenated w site (at 1 vs) (top vs))) q r n → Does p (λ w. expr_step w (expression e.now) (step.Assign slot)) m r n
  unfolding go_on return ◌>>=◌
  text_next gives_old r n q e seen is a =
      turned_after p m.state m n (then_all p m (expr_step (world p m.depth) (expression e.now) (step.Assign slot) m.values)) (then_all p (pushed (tasks.Expr e (step.Store slot)) m) (put_on (under_many 2 m.values) (concatenated (world p m.depth) site (at 1 m.values) (top m.values)))) r (λ u. return n.values)
      (onward_as (λ s. ap (after p (around m) m.work) (rw (seen) (go_on-go_on (concatenated (world p m.depth) site (at 1 m.values) (top m.values) s) _ _ ∙ sym (go_on-go_on (concatenated (world p m.depth) site (at 1 m.values) (top m.values) s) _ _)))) (onward_same p m.state _))
      (subst (λ z. Does p (λ w vs. put_on (under_many 2 vs) (concatenated w site (at 1 vs) (top vs))) z r n) is a)

  module _ (s : Shape) (us : Values) (wide : Primitive) (gives_old : Bool) (x : Expression) (seen : x ≡ plain.Upd place op part value_ty ty (Some wide) gives_old site) (left right : Value) (operands used : List Use)
      (l : left ≡ (at 1 m.values).value) (h : right ≡ (top m.values).value) (two : operands ≡ uses_of_last 2 m.values) (three : used ≡ uses_of_last 3 m.values) where
    abbrev here : Places slot left right operands used
    here = record {
      spot = spot_of slot (at 2 m.values);
      old = at 1 m.values;
      value = top m.values;
      is_slot = refl;
      is_left = sym l;
      is_right = sym h;
      are_operands = sym two;
      are_joined = ap (λ z. (at 2 m.values).uses ++ z) two ∙ joined_thrice (at 2 m.values).uses (at 1 m.values).uses (top m.values).uses ∙ sym three;
    }

    abbrev pub run_here : Run nothing (Carried nothing)
    run_here = updated (world p m.depth) op ty wide site (spot_of slot (at 2 m.values)) (at 1 m.values) (top m.values)

    pub number_set : (value : Value) (e : ℕ) (given_back : Carried nothing) → ((q : Program) (w : World nothing) (o : Places slot left right operands used) → w.program ≡ q → Onward q m.state (updated w op ty wide site o.spot o.old o.value) s (return (valued e value))) → IsSameAround m.state.calls s.calls →
        (if gives_old then at 1 m.values else valued e value) ≡ given_back → us ≡ given_back ∷ under_many 3 m.values → Resumed p (then_all p m (expr_step (world p m.depth) x (step.Assign slot) m.values)) m.state (Ok tt) (record m { state = s; values = us })
    unfolding go_on return
    number_set value e given_back a same back is =
        subst (λ z. Resumed p (then_all p m (expr_step (world p m.depth) z (step.Assign slot) m.values)) m.state (Ok tt) (record m { state = s; values = us })) (sym seen)
        (first_went p m s run_here (λ set. return (if gives_old then at 1 m.values else set)) (under_many 3 m.values) (valued e value) (Ok tt) (record m { state = s; values = us }) (a p (world p m.depth) here (world_program p m.depth)) same
        (onward_as (λ st. ap (λ c. after p (around (record m { state = s })) m.work (return (c ∷ under_many 3 m.values) st)) back ∙ ap (λ z. after p (around (record m { state = s })) m.work (return z st)) (sym is)) (onward_same p s _)))

    pub number_refused : (e : Halt) → ((q : Program) (w : World nothing) (o : Places slot left right operands used) → w.program ≡ q → StepGives {X = Value × ℕ} q (λ r. valued r.1 r.0) (Err e) m.state (updated w op ty wide site o.spot o.old o.value) s) → KeepsAt e m.state.calls s.calls →
        Resumed p (then_all p m (expr_step (world p m.depth) x (step.Assign slot) m.values)) m.state (Err e) (record m { state = s })
    number_refused e a same =
        subst (λ z. Resumed p (then_all p m (expr_step (world p m.depth) z (step.Assign slot) m.values)) m.state (Err e) (record m { state = s })) (sym seen)
        (first_failed p m s run_here (λ set. return (if gives_old then at 1 m.values else set)) (under_many 3 m.values) (λ (r : Value × ℕ). valued r.1 r.0) e (a p (world p m.depth) here (world_program p m.depth)) same)

-- ---- an update whose parts are there

-- what is done once the place is found
abbrev pub Locating : Expression → Slot → ℕ → MachineState → Result (Unit {0}) Halt → MachineState → Type 0
Locating x slot many m r n = (p : Program) (c : Carried nothing) → c.uses ≡ uses_of_last many m.values → Does p (λ w vs. updating_of w x (spot_of slot c) (under_many many vs)) m r n

module _ (p : Program) (m : MachineState) (s : Shape) (n : MachineState) (r : Result (Unit {0}) Halt) (x : Expression) (slot : Slot) (op : BinOp) (value : plain.Part) (value_ty ty : Ty) (wide : Option Primitive) (gives_old : Bool) (site : ℕ) where
  abbrev right : Given
  right = right_side (world p m.depth) value

  abbrev updates : Located nothing → Given
  updates at = update (world p m.depth) at op right ty wide gives_old site

  -- its place is found, and the rest is done from there
  pub update_found : (place : plain.Place) (at : Located nothing) (f : Run nothing (Spot nothing)) (many : ℕ) (c : Carried nothing) → x ≡ plain.Upd place op value value_ty ty wide gives_old site →
      ((s : State nothing) → find (world p m.depth) at s ≡ f s) → Onward p m.state f s (return (spot_of slot c)) → IsSameAround m.state.calls s.calls → c.uses ≡ uses_of_last many m.values → Locating x slot many (record m { state = s }) r n →
      Resumed p (then_all p m (put_on (under_many many m.values) (update (world p m.depth) at op right ty wide gives_old site))) m.state r n
  unfolding ◌>>=◌
  update_found place at f many c is found a same own next =
      let w = world p m.depth in
      put_as p m (update w at op right ty wide gives_old site) (f >>= (λ spot. updating w spot op right ty wide gives_old site)) (under_many many m.values) r n
      (λ st. update_is w at op right ty wide gives_old site st ∙ ap (λ o. go_on o (λ spot. updating w spot op right ty wide gives_old site)) (found st))
      (first_went p m s f (λ spot. updating w spot op right ty wide gives_old site) (under_many many m.values) (spot_of slot c) r n a same
      (subst (λ y. Does p (λ w vs. updating_of w y (spot_of slot c) (under_many many vs)) (record m { state = s }) r n) is (next p c own)))

  -- or it was refused
  pub update_refused : (place : plain.Place) (at : Located nothing) (f : Run nothing (Spot nothing)) (many : ℕ) (view : Slot → Spot nothing) (e : Halt) →
      ((s : State nothing) → find (world p m.depth) at s ≡ f s) → StepGives p view (Err e) m.state f s → KeepsAt e m.state.calls s.calls →
      Resumed p (then_all p m (put_on (under_many many m.values) (updates at))) m.state (Err e) (record m { state = s })
  unfolding ◌>>=◌
  update_refused place at f many view e found a same =
      let w = world p m.depth in
      put_as p m (updates at) (f >>= (λ spot. updating w spot op right ty wide gives_old site)) (under_many many m.values) (Err e) (record m { state = s })
      (λ st. update_is w at op right ty wide gives_old site st ∙ ap (λ o. go_on o (λ spot. updating w spot op right ty wide gives_old site)) (found st))
      (first_failed p m s f (λ spot. updating w spot op right ty wide gives_old site) (under_many many m.values) view e a same)

  -- a static field: first its class
  pub update_static : (f at : ℕ) (vs : Values) (st : State nothing) → put_on vs (updates (AtStatic f at)) st ≡ go_on (initialize (world p m.depth) at (kernel.field (world {A = nothing} p m.depth).program f).class st) (λ u. put_on vs (updating (world p m.depth) (spot_of (slots.Static f) (constant Nothing)) op right ty wide gives_old site))
  unfolding find static_spot ◌>>=◌ ◌>>◌ go_on return
  update_static f at vs st =
      let w = world {A = nothing} p m.depth in
      let init = initialize w at (kernel.field w.program f).class in
      let rest = λ (spot : Spot nothing). updating w spot op right ty wide gives_old site in
      ap (λ (o : Outcome nothing (Carried nothing)). go_on o (λ v. return (v ∷ vs))) (update_is w (AtStatic f at) op right ty wide gives_old site st ∙ go_on-go_on (init st) (λ u. return (spot_of (slots.Static f) (constant Nothing))) rest)
      ∙ go_on-go_on (init st) (λ u. rest (spot_of (slots.Static f) (constant Nothing))) (λ v. return (v ∷ vs))

-- ---- the place of an update, by its parts

module _ (w : World nothing) (s : State nothing) where
  find_local : (i : ℕ) → find w (AtLocal i) s ≡ local_spot i s
  unfolding find
  find_local i = refl

  find_field : (f at : ℕ) (c : Carried nothing) (v : Value) (us : List Use) → v ≡ c.value → us ≡ c.uses → find w (AtField (return c) f at) s ≡ field_spot w f at (given v us) s
  unfolding find ◌>>=◌ go_on return
  find_field f at c v us l u = rw (l, u) refl

  find_element : (site : ℕ) (a k : Carried nothing) → find w (AtElem (return a) (return k) site) s ≡ element_spot w site a k s
  unfolding find ◌>>=◌ go_on return
  find_element site a k = refl

-- what an update of a place is
updates_at : (x : Expression) (z y : plain.Place) → IsUpdate x z → z ≡ y → UpdateOf x y
updates_at x z y is same = update_of x y (subst (IsUpdate x) same is)

module _ (p : Program) (m : MachineState) (s : Shape) (n : MachineState) (r : Result (Unit {0}) Halt) (x : Expression) (slot : Slot) (z : plain.Place) (updated : IsUpdate x z) where
  pub local_updated : (i : ℕ) → z ≡ plain.Local i → ((q : Program) → Onward q m.state (local_slot i) m.state (return slot)) → Locating x slot 0 m r n → Operating p x m r n
  unfolding constant
  local_updated i same a next =
      let of = updates_at x z (plain.Local i) updated same in
      subst (λ y. Operating p y m r n) (sym of.is)
      (update_found p m m.state n r x slot of.op of.value of.value_ty of.ty of.wide of.gives_old of.site (plain.Local i) (AtLocal i) (local_spot i) 0 (constant Nothing) of.is (λ st. find_local (world p m.depth) st i) (local_found p m.state i slot a) (same_around m.state.calls) refl next)

  module _ (f at : ℕ) (object : Expression) (value : Value) (used : List Use) where
    pub field_updated : z ≡ plain.Field object f at → value ≡ (top m.values).value → used ≡ (top m.values).uses → ((q : Program) (w : World nothing) → w.program ≡ q → Onward q m.state (field_spot w f at (given value used)) s (return (spot_of slot (given value used)))) → IsSameAround m.state.calls s.calls →
        Locating x slot 1 (record m { state = s }) r n → Operating p x m r n
    field_updated same l u a around_it next =
        let w = world p m.depth in
        let of = updates_at x z (plain.Field object f at) updated same in
        subst (λ y. Operating p y m r n) (sym of.is)
        (update_found p m s n r x slot of.op of.value of.value_ty of.ty of.wide of.gives_old of.site (plain.Field object f at) (AtField (return (top m.values)) f at) (field_spot w f at (given value used)) 1 (given value used) of.is (λ st. find_field w st f at (top m.values) value used l u) (a p w (world_program p m.depth)) around_it u next)

  module _ (site : ℕ) (array index : Expression) (left right : Value) (used : List Use) where
    pub element_updated : z ≡ plain.Elem array index site → left ≡ (at 1 m.values).value → right ≡ (top m.values).value → used ≡ uses_of_last 2 m.values →
        ((q : Program) (w : World nothing) (o : Pair left right used) → w.program ≡ q → Onward q m.state (element_spot w site o.first o.second) s (return (spot_of slot (given Nothing used)))) → IsSameAround m.state.calls s.calls →
        Locating x slot 2 (record m { state = s }) r n → Operating p x m r n
    element_updated same l h u a around_it next =
        let w = world p m.depth in
        let of = updates_at x z (plain.Elem array index site) updated same in
        subst (λ y. Operating p y m r n) (sym of.is)
        (update_found p m s n r x slot of.op of.value of.value_ty of.ty of.wide of.gives_old of.site (plain.Elem array index site) (AtElem (return (at 1 m.values)) (return (top m.values)) site) (element_spot w site (at 1 m.values) (top m.values)) 2 (given Nothing used) of.is (λ st. find_element w st site (at 1 m.values) (top m.values)) (a p w (last_pair m.values left right used l h u) (world_program p m.depth)) around_it u next)

-- what was refused at a place
module _ (p : Program) (m : MachineState) (s : Shape) (e : Halt) (x : Expression) (z : plain.Place) (updated : IsUpdate x z) where
  module _ (f at : ℕ) (object : Expression) (value : Value) (used : List Use) where
    pub field_update_failed : z ≡ plain.Field object f at → value ≡ (top m.values).value → used ≡ (top m.values).uses → ((q : Program) (w : World nothing) → w.program ≡ q → StepGives {X = Slot} q (λ y. spot_of y (given value used)) (Err e) m.state (field_spot w f at (given value used)) s) → KeepsAt e m.state.calls s.calls → Operating p x m (Err e) (record m { state = s })
    field_update_failed same l u a around_it =
        let w = world p m.depth in
        let of = updates_at x z (plain.Field object f at) updated same in
        subst (λ y. Operating p y m (Err e) (record m { state = s })) (sym of.is)
        (update_refused p m s m (Ok tt) x slots.None of.op of.value of.value_ty of.ty of.wide of.gives_old of.site (plain.Field object f at) (AtField (return (top m.values)) f at) (field_spot w f at (given value used)) 1 (λ (y : Slot). spot_of y (given value used)) e (λ st. find_field w st f at (top m.values) value used l u) (a p w (world_program p m.depth)) around_it)

  module _ (site : ℕ) (array index : Expression) (left right : Value) (used : List Use) where
    pub element_update_failed : z ≡ plain.Elem array index site → left ≡ (at 1 m.values).value → right ≡ (top m.values).value → used ≡ uses_of_last 2 m.values →
        ((q : Program) (w : World nothing) (o : Pair left right used) → w.program ≡ q → StepGives {X = Slot} q (λ y. spot_of y (given Nothing used)) (Err e) m.state (element_spot w site o.first o.second) s) → KeepsAt e m.state.calls s.calls → Operating p x m (Err e) (record m { state = s })
    element_update_failed same l h u a around_it =
        let w = world p m.depth in
        let of = updates_at x z (plain.Elem array index site) updated same in
        subst (λ y. Operating p y m (Err e) (record m { state = s })) (sym of.is)
        (update_refused p m s m (Ok tt) x slots.None of.op of.value of.value_ty of.ty of.wide of.gives_old of.site (plain.Elem array index site) (AtElem (return (at 1 m.values)) (return (top m.values)) site) (element_spot w site (at 1 m.values) (top m.values)) 2 (λ (y : Slot). spot_of y (given Nothing used)) e (λ st. find_element w st site (at 1 m.values) (top m.values)) (a p w (last_pair m.values left right used l h u) (world_program p m.depth)) around_it)

-- a static field
pub static_update : (p : Program) (m q : MachineState) (r : Result (Unit {0}) Halt) (n : MachineState) (e : Bor Expr) (z : plain.Place) (f at : ℕ) → IsUpdate (expression e.now) z → z ≡ plain.Static f at → q ≡ pushed (tasks.Expr e step.Ready) m →
    Does p (λ w vs. leaving vs (initialize w at (kernel.field w.program f).class)) q r n → Operating p (expression e.now) m r n
static_update p m q r n e z f at updated same pushes a =
    let w = world p m.depth in
    let of = updates_at (expression e.now) z (plain.Static f at) updated same in
    let y = plain.Upd (plain.Static f at) of.op of.value of.value_ty of.ty of.wide of.gives_old of.site in
    subst (λ y. Operating p y m r n) (sym of.is)
    (once_initialized p m q r n e y (initialize (world p q.depth) at (kernel.field (world {A = nothing} p q.depth).program f).class) (put_on m.values (update w (AtStatic f at) of.op (right_side w of.value) of.ty of.wide of.gives_old of.site)) pushes of.is
    (λ s. rw pushes (update_static p m m.state m (Ok tt) y slots.None of.op of.value of.value_ty of.ty of.wide of.gives_old of.site f at m.values s)) a)
