-- Places that are found, and what comes after: reads and assignments.
use Rattle.std.proofs.Common.{◌≡◌, ◌∙◌, ℕ, List, [], ◌∷◌, ◌++◌, refl, ap, sym, subst, Bor, Result, Err}
use Rattle.wy_kernel.specs.Program.{Program}
use Rattle.wy_kernel.specs.Program as kernel
use Rattle.wy_kernel.specs.Form.{Expression}
use Rattle.wy_kernel.specs.Form as plain
use Rattle.wy_kernel.specs.View.{expression}
use Rattle.wy_kernel.specs.View.{place as place_seen}
use Rattle.wy_kernel.specs.declared.form.Place.{Place}
use Rattle.wy_kernel.specs.declared.form.Place.TheVariants as places
use Rattle.std.specs.declared.alloc.Global.{Global}
use Rattle.std.specs.declared.boxed.Box.{Box}
use Rattle.wy_kernel.proofs.ExpressionViews.{view_elem, view_field, view_local, view_static}
use Rattle.wy_kernel.specs.declared.form.Expr.{Expr}
use Rattle.wy_value.specs.declared.value.Value.{Value}
use Rattle.wy_value.specs.declared.value.Value.TheVariants.{None as Nothing}
use Rattle.wy_event.specs.declared.record.Slot.{Slot}
use Rattle.wy_event.specs.declared.record.Slot.TheVariants as slots
use Rattle.wy_event.specs.declared.record.Use.{Use}
use Rattle.wy_steps.specs.Sets.{nothing}
use Rattle.wy_steps.specs.State.{State, Carried, Run, go_on, ◌>>=◌, ◌>>◌, return}
use Rattle.wy_steps.specs.Steps.{constant, frame}
use Rattle.wy_meaning.specs.World.{World}
use Rattle.wy_meaning.specs.Run.{world}
use Rattle.wy_meaning.specs.Place.{AtLocal, AtStatic, AtField, AtElem, element_spot, fetch, field_spot, find, initialize, local_spot, read_place, set_place, static_spot, store}
use Rattle.wy_state.specs.declared.parts.Halt.{Halt}
use Rattle.wy_state.specs.Agrees.{Shape, Onward, StepGives}
use Rattle.wy_state.specs.Seen.{given}
use Rattle.wy_state.specs.Steps.{local_slot}
use Rattle.wy_state.proofs.Onward.{onward_as, onward_same}
use Rattle.wy_operation.specs.Around.{IsSameAround, KeepsAt}
use Rattle.wy_operation.specs.Operands.{Pair}
use Rattle.wy_operation.specs.Spots.{Stored, spot_of}
use Rattle.wy_operation.proofs.Runs.{done_first, go_on-go_on}
use Rattle.wy_operands.specs.Values.{Values, at, top, under, under_many, uses_of_last}
use Rattle.wy_work.specs.declared.task.Task.TheVariants as tasks
use Rattle.wy_work.specs.declared.task.ExprStep.TheVariants as step
use Rattle.wy_work.specs.Expressions.{put_on, leaving, expr_step}
use Rattle.wy_work.specs.Tasks.{MachineState, around, after, pushed, then_all, followed, Does, Resumed}
use Rattle.wy_work.specs.Operands.{Given}
use Rattle.wy_work.proofs.Runs.{failed_at, settled_state, turned_after, went, world_program}
use Rattle.wy_work.proofs.Operates.{last_pair}

-- ---- what is done first, and a value that comes after it

-- the same run, said in another way
pub resumed_as : (p : Program) (m : MachineState) (f g : Run nothing Values) (r : Result (Unit {0}) Halt) (n : MachineState) → ((s : State nothing) → f s ≡ g s) → Resumed p g m.state r n → Resumed p f m.state r n
resumed_as p m f g r n same a = turned_after p m.state m n f g r (λ u. return n.values) (onward_as same (onward_same p m.state g)) a

-- what a value is found by, said in another way
pub put_as : (p : Program) (m : MachineState) (f g : Given) (vs : Values) (r : Result (Unit {0}) Halt) (n : MachineState) → ((s : State nothing) → f s ≡ g s) → Resumed p (then_all p m (put_on vs g)) m.state r n → Resumed p (then_all p m (put_on vs f)) m.state r n
put_as p m f g vs r n same a = resumed_as p m (then_all p m (put_on vs f)) (then_all p m (put_on vs g)) r n (λ s. ap (λ o. after p (around m) m.work (go_on o (λ v. return (v ∷ vs)))) (same s)) a

module _ {X : Type 0} (p : Program) (m : MachineState) (s : Shape) (f : Run nothing X) (k : X → Given) (vs : Values) where
  first_is : (at : State nothing) → then_all p m (put_on vs (f >>= k)) at ≡ then_all p m (followed f (λ x. put_on vs (k x))) at
  unfolding ◌>>=◌
  first_is at = ap (after p (around m) m.work) (go_on-go_on (f at) k (λ v. return (v ∷ vs)))

  -- it was done, and the rest is done from there
  pub first_went : (x : X) (r : Result (Unit {0}) Halt) (n : MachineState) → Onward p m.state f s (return x) → IsSameAround m.state.calls s.calls →
      Resumed p (then_all p (record m { state = s }) (put_on vs (k x))) s r n → Resumed p (then_all p m (put_on vs (f >>= k))) m.state r n
  first_went x r n a same next =
      turned_after p m.state (record m { state = s }) n (then_all p m (put_on vs (f >>= k))) (then_all p (record m { state = s }) (put_on vs (k x))) r (λ u. return n.values)
      (onward_as first_is (went p m (record m { state = s }) f (λ y. put_on vs (k y)) x a (settled_state m s same))) next

  pub first_failed : {Y : Type 0} (view : Y → X) (e : Halt) → StepGives p view (Err e) m.state f s → KeepsAt e m.state.calls s.calls → Resumed p (then_all p m (put_on vs (f >>= k))) m.state (Err e) (record m { state = s })
  first_failed view e a same =
      resumed_as p m (then_all p m (put_on vs (f >>= k))) (then_all p m (followed f (λ y. put_on vs (k y)))) (Err e) (record m { state = s }) first_is
      (failed_at p m s m.values f (λ y. put_on vs (k y)) view e (λ u. return m.values) a same)

-- an expression goes on once a class is initialized
pub once_initialized : (p : Program) (m q : MachineState) (r : Result (Unit {0}) Halt) (n : MachineState) (e : Bor Expr) (x : Expression) (init : Run nothing (Unit {0})) (f : Run nothing Values) → q ≡ pushed (tasks.Expr e step.Ready) m → expression e.now ≡ x →
    ((s : State nothing) → f s ≡ go_on (init s) (λ u. expr_step (world p m.depth) x step.Ready m.values)) → Resumed p (then_all p q (leaving q.values init)) q.state r n → Resumed p (then_all p m f) m.state r n
unfolding go_on return
once_initialized p m q r n e x init f is form same a =
    resumed_as p m (then_all p m f) (then_all p (pushed (tasks.Expr e step.Ready) m) (leaving m.values init)) r n
    (λ s. ap (after p (around m) m.work) (same s ∙ ap (λ y. go_on (init s) (λ u. expr_step (world p m.depth) y step.Ready m.values)) (sym form) ∙ sym (go_on-go_on (init s) (λ u. return m.values) (expr_step (world p m.depth) (expression e.now) step.Ready))))
    (subst (λ z. Resumed p (then_all p z (leaving z.values init)) z.state r n) is a)

-- ---- how each place is found

local_spot_is : (i : ℕ) (s : State nothing) → local_spot i s ≡ (local_slot i >>= (λ x. return (spot_of x (constant Nothing)))) s
unfolding local_spot frame ◌>>=◌ go_on return
local_spot_is i s = refl

pub local_found : (p : Program) (m : Shape) (i : ℕ) (slot : Slot) → ((q : Program) → Onward q m (local_slot i) m (return slot)) → Onward p m (local_spot i) m (return (spot_of slot (constant Nothing)))
local_found p m i slot a = onward_as (local_spot_is i) (done_first (local_slot i) (λ x. return (spot_of x (constant Nothing))) slot (a p))

module _ (w : World nothing) (s : State nothing) where
  pub read_local_is : (i : ℕ) → read_place w (AtLocal i) s ≡ (local_spot i >>= fetch) s
  unfolding read_place find
  read_local_is i = refl

  pub read_field_is : (f site : ℕ) (c : Carried nothing) (v : Value) (us : List Use) → v ≡ c.value → us ≡ c.uses → read_place w (AtField (return c) f site) s ≡ (field_spot w f site (given v us) >>= fetch) s
  unfolding read_place find ◌>>=◌ go_on return
  read_field_is f site c v us l u = rw (l, u) refl

  pub read_element_is : (site : ℕ) (a k : Carried nothing) → read_place w (AtElem (return a) (return k) site) s ≡ (element_spot w site a k >>= fetch) s
  unfolding read_place find ◌>>=◌ go_on return
  read_element_is site a k = refl

  pub set_local_is : (i site : ℕ) (v : Carried nothing) → set_place w (AtLocal i) (return v) site s ≡ (local_spot i >>= (λ spot. store w site spot v)) s
  unfolding set_place ◌>>=◌ go_on return
  set_local_is i site v = refl

  pub set_field_is : (f at site : ℕ) (c v : Carried nothing) (value : Value) (us : List Use) → value ≡ c.value → us ≡ c.uses → set_place w (AtField (return c) f at) (return v) site s ≡ (field_spot w f at (given value us) >>= (λ spot. store w site spot v)) s
  unfolding set_place ◌>>=◌ go_on return
  set_field_is f at site c v value us l u = rw (l, u) refl

  pub set_element_is : (at site : ℕ) (a k v : Carried nothing) → set_place w (AtElem (return a) (return k) at) (return v) site s ≡ (element_spot w at a k >>= (λ spot. store w site spot v)) s
  unfolding set_place ◌>>=◌ go_on return
  set_element_is at site a k v = refl

  pub read_static_is : (f site : ℕ) (vs : Values) → put_on vs (read_place w (AtStatic f site)) s ≡ go_on (initialize w site (kernel.field w.program f).class s) (λ u. put_on vs (fetch (spot_of (slots.Static f) (constant Nothing))))
  unfolding read_place find static_spot ◌>>=◌ ◌>>◌ return go_on
  read_static_is f site vs = simp go_on-go_on

  pub set_static_is : (f at site : ℕ) (v : Carried nothing) (vs : Values) → put_on vs (set_place w (AtStatic f at) (return v) site) s ≡ go_on (initialize w at (kernel.field w.program f).class s) (λ u. put_on vs (store w site (spot_of (slots.Static f) (constant Nothing)) v))
  unfolding set_place static_spot ◌>>=◌ ◌>>◌ return go_on
  set_static_is f at site v vs = simp go_on-go_on

-- ---- an expression whose operands are there

constant_uses : (v : Value) → (constant {A = nothing} v).uses ≡ []
unfolding constant
constant_uses v = refl

-- what a slot's reads do, whatever the parts of its place carry
abbrev pub Fetching : Slot → ℕ → MachineState → Result (Unit {0}) Halt → MachineState → Type 0
Fetching slot many m r n = (p : Program) (c : Carried nothing) → c.uses ≡ uses_of_last many m.values → Does p (λ w vs. put_on (under_many many vs) (fetch (spot_of slot c))) m r n

abbrev pub Storing : Program → Slot → ℕ → ℕ → MachineState → Result (Unit {0}) Halt → MachineState → Type 0
Storing p slot many site m r n = (o : Stored slot (top m.values).value (uses_of_last many m.values)) → Does p (λ w vs. put_on (under_many many vs) (store w site o.spot o.right)) m r n

abbrev pub Operating : Program → Expression → MachineState → Result (Unit {0}) Halt → MachineState → Type 0
Operating p x m r n = Does p (λ w. expr_step w x step.Operate) m r n

module _ (p : Program) (m : MachineState) (s : Shape) (n : MachineState) (r : Result (Unit {0}) Halt) (x : Expression) (slot : Slot) where
  pub local_read : (i : ℕ) → x ≡ plain.Read (plain.Local i) → ((q : Program) → Onward q m.state (local_slot i) m.state (return slot)) → Fetching slot 0 m r n → Operating p x m r n
  local_read i is a next =
      rw is (put_as p m (read_place (world p m.depth) (AtLocal i)) (local_spot i >>= fetch) m.values r n (λ at. read_local_is (world p m.depth) at i)
      (first_went p m m.state (local_spot i) fetch m.values (spot_of slot (constant Nothing)) r n (local_found p m.state i slot a) (record { frames = refl; scopes = refl }) (next p (constant Nothing) (constant_uses Nothing))))

  pub local_set : (i site : ℕ) (value : Expression) → x ≡ plain.Set (plain.Local i) value site → ((q : Program) → Onward q m.state (local_slot i) m.state (return slot)) → Storing p slot 1 site m r n → Operating p x m r n
  unfolding constant
  local_set i site value is a next =
      rw is (put_as p m (set_place (world p m.depth) (AtLocal i) (return (top m.values)) site) (local_spot i >>= (λ spot. store (world p m.depth) site spot (top m.values))) (under m.values) r n (λ at. set_local_is (world p m.depth) at i site (top m.values))
      (first_went p m m.state (local_spot i) (λ spot. store (world p m.depth) site spot (top m.values)) (under m.values) (spot_of slot (constant Nothing)) r n (local_found p m.state i slot a) (record { frames = refl; scopes = refl })
      (next (record { spot = spot_of slot (constant Nothing); right = top m.values; is_slot = refl; is_right = refl; are_joined = refl }))))

  module _ (f at : ℕ) (object : Expression) (value : Value) (used : List Use) where
    pub field_read : x ≡ plain.Read (plain.Field object f at) → value ≡ (top m.values).value → used ≡ (top m.values).uses → ((q : Program) (w : World nothing) → w.program ≡ q → Onward q m.state (field_spot w f at (given value used)) s (return (spot_of slot (given value used)))) → IsSameAround m.state.calls s.calls →
        Fetching slot 1 (record m { state = s }) r n → Operating p x m r n
    field_read is l u a same next =
        let w = world p m.depth in
        rw is (put_as p m (read_place w (AtField (return (top m.values)) f at)) (field_spot w f at (given value used) >>= fetch) (under m.values) r n (λ st. read_field_is w st f at (top m.values) value used l u)
        (first_went p m s (field_spot w f at (given value used)) fetch (under m.values) (spot_of slot (given value used)) r n (a p w (world_program p m.depth)) same (next p (given value used) u)))

    pub field_set : (site : ℕ) (right : Expression) → x ≡ plain.Set (plain.Field object f at) right site → value ≡ (top (under m.values)).value → used ≡ (top (under m.values)).uses → ((q : Program) (w : World nothing) → w.program ≡ q → Onward q m.state (field_spot w f at (given value used)) s (return (spot_of slot (given value used)))) → IsSameAround m.state.calls s.calls →
        Storing p slot 2 site (record m { state = s }) r n → Operating p x m r n
    field_set site right is l u a same next =
        let w = world p m.depth in
        rw is (put_as p m (set_place w (AtField (return (top (under m.values))) f at) (return (top m.values)) site) (field_spot w f at (given value used) >>= (λ spot. store w site spot (top m.values))) (under (under m.values)) r n (λ st. set_field_is w st f at site (top (under m.values)) (top m.values) value used l u)
        (first_went p m s (field_spot w f at (given value used)) (λ spot. store w site spot (top m.values)) (under (under m.values)) (spot_of slot (given value used)) r n (a p w (world_program p m.depth)) same
        (next (record { spot = spot_of slot (given value used); right = top m.values; is_slot = refl; is_right = refl; are_joined = ap (λ us. us ++ (top m.values).uses) u }))))

  module _ (site : ℕ) (array index : Expression) (left right : Value) (used : List Use) where
    pub element_read : x ≡ plain.Read (plain.Elem array index site) → left ≡ (at 1 m.values).value → right ≡ (top m.values).value → used ≡ uses_of_last 2 m.values →
        ((q : Program) (w : World nothing) (o : Pair left right used) → w.program ≡ q → Onward q m.state (element_spot w site o.first o.second) s (return (spot_of slot (given Nothing used)))) → IsSameAround m.state.calls s.calls →
        Fetching slot 2 (record m { state = s }) r n → Operating p x m r n
    element_read is l h u a same next =
        let w = world p m.depth in
        rw is (put_as p m (read_place w (AtElem (return (at 1 m.values)) (return (top m.values)) site)) (element_spot w site (at 1 m.values) (top m.values) >>= fetch) (under_many 2 m.values) r n (λ st. read_element_is w st site (at 1 m.values) (top m.values))
        (first_went p m s (element_spot w site (at 1 m.values) (top m.values)) fetch (under_many 2 m.values) (spot_of slot (given Nothing used)) r n (a p w (last_pair m.values left right used l h u) (world_program p m.depth)) same (next p (given Nothing used) u)))

    pub element_set : (at_site : ℕ) (value : Expression) → x ≡ plain.Set (plain.Elem array index site) value at_site → left ≡ (at 2 m.values).value → right ≡ (at 1 m.values).value → used ≡ uses_of_last 2 (under m.values) →
        ((q : Program) (w : World nothing) (o : Pair left right used) → w.program ≡ q → Onward q m.state (element_spot w site o.first o.second) s (return (spot_of slot (given Nothing used)))) → IsSameAround m.state.calls s.calls →
        Storing p slot 3 at_site (record m { state = s }) r n → Operating p x m r n
    element_set at_site value is l h u a same next =
        let w = world p m.depth in
        rw is (put_as p m (set_place w (AtElem (return (at 2 m.values)) (return (at 1 m.values)) site) (return (top m.values)) at_site) (element_spot w site (at 2 m.values) (at 1 m.values) >>= (λ spot. store w at_site spot (top m.values))) (under_many 3 m.values) r n (λ st. set_element_is w st site at_site (at 2 m.values) (at 1 m.values) (top m.values))
        (first_went p m s (element_spot w site (at 2 m.values) (at 1 m.values)) (λ spot. store w at_site spot (top m.values)) (under_many 3 m.values) (spot_of slot (given Nothing used)) r n (a p w (last_pair (under m.values) left right used l h u) (world_program p m.depth)) same
        (next (record { spot = spot_of slot (given Nothing used); right = top m.values; is_slot = refl; is_right = refl; are_joined = ap (λ us. us ++ (top m.values).uses) u }))))

-- what was refused at a place
module _ (p : Program) (m : MachineState) (s : Shape) (e : Halt) (x : Expression) where
  module _ (f at : ℕ) (object : Expression) (value : Value) (used : List Use) where
    pub field_read_failed : x ≡ plain.Read (plain.Field object f at) → value ≡ (top m.values).value → used ≡ (top m.values).uses → ((q : Program) (w : World nothing) → w.program ≡ q → StepGives {X = Slot} q (λ z. spot_of z (given value used)) (Err e) m.state (field_spot w f at (given value used)) s) → KeepsAt e m.state.calls s.calls → Operating p x m (Err e) (record m { state = s })
    field_read_failed is l u a same =
        let w = world p m.depth in
        subst (λ z. Operating p z m (Err e) (record m { state = s })) (sym is) (put_as p m (read_place w (AtField (return (top m.values)) f at)) (field_spot w f at (given value used) >>= fetch) (under m.values) (Err e) (record m { state = s }) (λ st. read_field_is w st f at (top m.values) value used l u)
        (first_failed p m s (field_spot w f at (given value used)) fetch (under m.values) (λ (z : Slot). spot_of z (given value used)) e (a p w (world_program p m.depth)) same))

    pub field_set_failed : (site : ℕ) (right : Expression) → x ≡ plain.Set (plain.Field object f at) right site → value ≡ (top (under m.values)).value → used ≡ (top (under m.values)).uses → ((q : Program) (w : World nothing) → w.program ≡ q → StepGives {X = Slot} q (λ z. spot_of z (given value used)) (Err e) m.state (field_spot w f at (given value used)) s) → KeepsAt e m.state.calls s.calls → Operating p x m (Err e) (record m { state = s })
    field_set_failed site right is l u a same =
        let w = world p m.depth in
        subst (λ z. Operating p z m (Err e) (record m { state = s })) (sym is) (put_as p m (set_place w (AtField (return (top (under m.values))) f at) (return (top m.values)) site) (field_spot w f at (given value used) >>= (λ spot. store w site spot (top m.values))) (under (under m.values)) (Err e) (record m { state = s }) (λ st. set_field_is w st f at site (top (under m.values)) (top m.values) value used l u)
        (first_failed p m s (field_spot w f at (given value used)) (λ spot. store w site spot (top m.values)) (under (under m.values)) (λ (z : Slot). spot_of z (given value used)) e (a p w (world_program p m.depth)) same))

  module _ (site : ℕ) (array index : Expression) (left right : Value) (used : List Use) where
    pub element_read_failed : x ≡ plain.Read (plain.Elem array index site) → left ≡ (at 1 m.values).value → right ≡ (top m.values).value → used ≡ uses_of_last 2 m.values →
        ((q : Program) (w : World nothing) (o : Pair left right used) → w.program ≡ q → StepGives {X = Slot} q (λ z. spot_of z (given Nothing used)) (Err e) m.state (element_spot w site o.first o.second) s) → KeepsAt e m.state.calls s.calls → Operating p x m (Err e) (record m { state = s })
    element_read_failed is l h u a same =
        let w = world p m.depth in
        subst (λ z. Operating p z m (Err e) (record m { state = s })) (sym is) (put_as p m (read_place w (AtElem (return (at 1 m.values)) (return (top m.values)) site)) (element_spot w site (at 1 m.values) (top m.values) >>= fetch) (under_many 2 m.values) (Err e) (record m { state = s }) (λ st. read_element_is w st site (at 1 m.values) (top m.values))
        (first_failed p m s (element_spot w site (at 1 m.values) (top m.values)) fetch (under_many 2 m.values) (λ (z : Slot). spot_of z (given Nothing used)) e (a p w (last_pair m.values left right used l h u) (world_program p m.depth)) same))

    pub element_set_failed : (at_site : ℕ) (value : Expression) → x ≡ plain.Set (plain.Elem array index site) value at_site → left ≡ (at 2 m.values).value → right ≡ (at 1 m.values).value → used ≡ uses_of_last 2 (under m.values) →
        ((q : Program) (w : World nothing) (o : Pair left right used) → w.program ≡ q → StepGives {X = Slot} q (λ z. spot_of z (given Nothing used)) (Err e) m.state (element_spot w site o.first o.second) s) → KeepsAt e m.state.calls s.calls → Operating p x m (Err e) (record m { state = s })
    element_set_failed at_site value is l h u a same =
        let w = world p m.depth in
        subst (λ z. Operating p z m (Err e) (record m { state = s })) (sym is) (put_as p m (set_place w (AtElem (return (at 2 m.values)) (return (at 1 m.values)) site) (return (top m.values)) at_site) (element_spot w site (at 2 m.values) (at 1 m.values) >>= (λ spot. store w at_site spot (top m.values))) (under_many 3 m.values) (Err e) (record m { state = s }) (λ st. set_element_is w st site at_site (at 2 m.values) (at 1 m.values) (top m.values))
        (first_failed p m s (element_spot w site (at 2 m.values) (at 1 m.values)) (λ spot. store w at_site spot (top m.values)) (under_many 3 m.values) (λ (z : Slot). spot_of z (given Nothing used)) e (a p w (last_pair (under m.values) left right used l h u) (world_program p m.depth)) same))

-- a static field: first its class
module _ (p : Program) (m q : MachineState) (r : Result (Unit {0}) Halt) (n : MachineState) (e : Bor Expr) (f at : ℕ) (pushes : q ≡ pushed (tasks.Expr e step.Ready) m) where
  pub static_read : expression e.now ≡ plain.Read (plain.Static f at) → Does p (λ w vs. leaving vs (initialize w at (kernel.field w.program f).class)) q r n → Operating p (expression e.now) m r n
  static_read is a =
      rw is (once_initialized p m q r n e (plain.Read (plain.Static f at)) (initialize (world p q.depth) at (kernel.field (world p q.depth).program f).class) (put_on m.values (read_place (world p m.depth) (AtStatic f at))) pushes is
      (λ s. rw pushes (read_static_is (world p m.depth) s f at m.values)) a)

  pub static_set : (value : Expression) (site : ℕ) → expression e.now ≡ plain.Set (plain.Static f at) value site → Does p (λ w vs. leaving vs (initialize w at (kernel.field w.program f).class)) q r n → Operating p (expression e.now) m r n
  static_set value site is a =
      rw is (once_initialized p m q r n e (plain.Set (plain.Static f at) value site) (initialize (world p q.depth) at (kernel.field (world p q.depth).program f).class) (put_on (under m.values) (set_place (world p m.depth) (AtStatic f at) (return (top m.values)) site)) pushes is
      (λ s. rw pushes (set_static_is (world p m.depth) s f at site (top m.values) (under m.values))) a)

-- ---- the form in memory

module _ (z : Place) where
  pub local_seen : (i : ℕ) → z ≡ places.Local i → place_seen z ≡ plain.Local i
  local_seen i is = ap place_seen is ∙ view_local i

  pub static_seen : (f site : ℕ) → z ≡ places.Static f site → place_seen z ≡ plain.Static f site
  static_seen f site is = ap place_seen is ∙ view_static f site

  pub field_seen : (object : Box Expr Global) (f site : ℕ) → z ≡ places.Field object f site → place_seen z ≡ plain.Field (expression object.value) f site
  field_seen object f site is = ap place_seen is ∙ view_field object f site

  pub element_seen : (array index : Box Expr Global) (site : ℕ) → z ≡ places.Elem array index site → place_seen z ≡ plain.Elem (expression array.value) (expression index.value) site
  element_seen array index site is = ap place_seen is ∙ view_elem array index site

-- the place of a read, and that of an assignment
pub read_of : (x : Expression) (a b : plain.Place) → x ≡ plain.Read a → a ≡ b → x ≡ plain.Read b
read_of x a b is same = is ∙ ap plain.Read same

pub set_of : (x : Expression) (a b : plain.Place) (value : Expression) (site : ℕ) → x ≡ plain.Set a value site → a ≡ b → x ≡ plain.Set b value site
set_of x a b value site is same = is ∙ ap (λ z. plain.Set z value site) same
