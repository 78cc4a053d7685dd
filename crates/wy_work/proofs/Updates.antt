-- `op=`, `++` and `--`: the place, its old value, the right side, and what comes of them.
use Rattle.std.proofs.Common.{◌≡◌, ◌∙◌, ℕ, pos, Bool, List, [], ◌∷◌, ◌++◌, refl, ap, sym, subst, Bor, Option, Some, Err}
use Rattle.std.specs.Prelude.{None as Absent}
use Rattle.wy_kernel.specs.Program.{Program}
use Rattle.wy_kernel.specs.Form.{Expression}
use Rattle.wy_kernel.specs.Form as plain
use Rattle.wy_kernel.specs.View.{expression, part_seen}
use Rattle.wy_kernel.specs.View.{place as place_seen}
use Rattle.wy_kernel.specs.declared.form.Place.{Place}
use Rattle.wy_kernel.specs.declared.form.Expr.TheVariants as form
use Rattle.std.specs.declared.alloc.Global.{Global}
use Rattle.std.specs.declared.boxed.Box.{Box}
use Rattle.wy_kernel.proofs.ExpressionViews.{view_upd}
use Rattle.wy_kernel.specs.declared.form.Expr.{Expr}
use Rattle.wy_kernel.specs.declared.operator.BinOp.{BinOp}
use Rattle.wy_kernel.specs.declared.operator.Primitive.{Primitive}
use Rattle.wy_kernel.specs.declared.types.Ty.{Ty}
use Rattle.wy_value.specs.declared.value.Value.{Value}
use Rattle.wy_value.specs.declared.value.Value.TheVariants as val
use Rattle.wy_event.specs.declared.record.Slot.{Slot}
use Rattle.wy_event.specs.declared.record.Slot.TheVariants as slots
use Rattle.wy_event.specs.declared.record.Use.{Use}
use Rattle.wy_steps.specs.Sets.{nothing}
use Rattle.wy_steps.specs.State as run
use Rattle.wy_steps.specs.State.{State, Carried, Run, Outcome, go_on, ◌>>=◌, ◌>>◌, return}
use Rattle.wy_steps.specs.Steps.{constant, joined}
use Rattle.wy_meaning.specs.World.{World}
use Rattle.wy_meaning.specs.Run.{world}
use Rattle.wy_meaning.specs.Text.{append_place, concatenated}
use Rattle.wy_meaning.specs.Place.{Spot, Located, assign, check_store, fetch, find, store, update_place}
use Rattle.wy_meaning.specs.Expression.{eval, eval_part, part_or, update}
use Rattle.wy_state.specs.declared.parts.Halt.{Halt}
use Rattle.wy_state.specs.Agrees.{Onward, StepGives}
use Rattle.wy_state.specs.Seen.{given}
use Rattle.wy_state.proofs.Onward.{onward_as, onward_same, onward_then}
use Rattle.wy_operation.specs.Spots.{spot_of}
use Rattle.wy_operation.specs.Updated.{updated}
use Rattle.wy_operands.specs.Values.{Values, top}
use Rattle.wy_work.specs.Expressions.{expr_step, put_on, right_side, update_rest, updating, updating_of}
use Rattle.wy_work.specs.Tasks.{MachineState, around, after, goes, pushed, then_all, followed, Resumed}
use Rattle.wy_work.specs.Operands.{Given}
use Rattle.wy_work.specs.declared.task.Task.TheVariants as tasks
use Rattle.wy_work.specs.declared.task.ExprStep.TheVariants as step
use Rattle.wy_operation.proofs.Runs.{go_on-go_on}
use Rattle.wy_work.proofs.Runs.{failed_at, keeps_calls, settled_same, turned_after, went}

-- what goes on alike from each end
pub go_on_same : {X Y : Type 0} (o : Outcome nothing X) (f g : X → Run nothing Y) → ((x : X) (s : State nothing) → f x s ≡ g x s) → go_on o f ≡ go_on o g
unfolding go_on
go_on_same (run.Done x s) f g same = same x s
go_on_same (run.Left why s) f g same = refl
go_on_same (run.Stopped why s) f g same = refl

module _ (w : World nothing) where
  -- of the parts of a place only their uses count
  store_parts : (site : ℕ) (x : Slot) (us : List Use) (a b : Value) (right : Carried nothing) (s : State nothing) → store w site (spot_of x (given a us)) right s ≡ store w site (spot_of x (given b us)) right s
  unfolding store check_store assign joined ◌>>=◌ ◌>>◌ go_on return
  store_parts site slots.None us a b right s = refl
  store_parts site (slots.Local f i) us a b right s = refl
  store_parts site (slots.Static f) us a b right s = refl
  store_parts site (slots.Field n f) us a b right s = refl
  store_parts site (slots.Elem n i) us a b right s = refl

  module _ (x : Slot) (op : BinOp) (old v : Carried nothing) (ty : Ty) where
    rest_parts : (us : List Use) (a b : Value) (wide : Option Primitive) (gives_old : Bool) (site : ℕ) (s : State nothing) → update_rest w (spot_of x (given a us)) op old v ty wide gives_old site s ≡ update_rest w (spot_of x (given b us)) op old v ty wide gives_old site s
    unfolding ◌>>=◌ updated assign joined
    rest_parts us a b Absent gives_old site s = go_on_same (concatenated w site old v s) (store w site (spot_of x (given a us))) (store w site (spot_of x (given b us))) (store_parts site x us a b)
    rest_parts us a b (Some wide) gives_old site s = refl

    pub rest_same : (a b : Carried nothing) (wide : Option Primitive) (gives_old : Bool) (site : ℕ) → a.uses ≡ b.uses → (s : State nothing) → update_rest w (spot_of x a) op old v ty wide gives_old site s ≡ update_rest w (spot_of x b) op old v ty wide gives_old site s
    rest_same a b wide gives_old site same s = ap (λ us. update_rest w (spot_of x (given a.value us)) op old v ty wide gives_old site s) same ∙ rest_parts b.uses a.value b.value wide gives_old site s

  -- first the place is found
  pub update_is : (place : Located nothing) (op : BinOp) (right : Given) (ty : Ty) (wide : Option Primitive) (gives_old : Bool) (site : ℕ) (s : State nothing) → update w place op right ty wide gives_old site s ≡ (find w place >>= (λ spot. updating w spot op right ty wide gives_old site)) s
  unfolding update append_place update_place ◌>>=◌ updated
  update_is place op right ty Absent gives_old site s = refl
  update_is place op right ty (Some wide) gives_old site s = go_on_same (find w place s) _ _ (λ spot s. go_on_same (fetch spot s) _ _ (λ old s. go_on_same (right s) _ _ (λ v s. sym (go_on-go_on _ _ _))))

-- ---- an update whose place is found

module _ (w : World nothing) (spot : Spot nothing) (op : BinOp) (ty : Ty) (wide : Option Primitive) (gives_old : Bool) (site : ℕ) (vs : Values) where
  -- the right side, and what comes of it and the old value
  abbrev pub right_and_rest : Given → Carried nothing → Run nothing Values
  right_and_rest right old = λ s. go_on (right s) (λ v. put_on vs (update_rest w spot op old v ty wide gives_old site))

  updating_is : (right : Given) (s : State nothing) → put_on vs (updating w spot op right ty wide gives_old site) s ≡ go_on (fetch spot s) (right_and_rest right)
  unfolding ◌>>=◌
  updating_is right s = go_on-go_on (fetch spot s) _ _ ∙ go_on_same (fetch spot s) _ _ (λ old s. go_on-go_on (right s) _ _)

module _ (p : Program) (m : MachineState) (slot : Slot) (c : Carried nothing) (us : List Use) (own : c.uses ≡ us) (op : BinOp) (ty : Ty) (wide : Option Primitive) (gives_old : Bool) (site : ℕ) (vs : Values) (old : Value) (used : Use)
    (a : (q : Program) (c : Carried nothing) → Onward q m.state (fetch (spot_of slot c)) m.state (return (given old (c.uses ++ used ∷ [])))) where
  rest_is : (right : Given) (s : State nothing) → right_and_rest (world p m.depth) (spot_of slot c) op ty wide gives_old site vs right (given old (c.uses ++ used ∷ [])) s ≡ right_and_rest (world p m.depth) (spot_of slot (given val.None us)) op ty wide gives_old site vs right (given old (us ++ used ∷ [])) s
  rest_is right s =
      ap (λ z. right_and_rest (world p m.depth) (spot_of slot c) op ty wide gives_old site vs right (given old (z ++ used ∷ [])) s) own
      ∙ go_on_same (right s) _ _ (λ v s. ap (λ o. go_on o (λ x. return (x ∷ vs))) (rest_same (world p m.depth) slot op (given old (us ++ used ∷ [])) v ty c (given val.None us) wide gives_old site own s))

  -- the old value is there
  pub old_found : (right : Given) →
      Onward p m.state (then_all p m (put_on vs (updating (world p m.depth) (spot_of slot c) op right ty wide gives_old site))) m.state
      (then_all p m (right_and_rest (world p m.depth) (spot_of slot (given val.None us)) op ty wide gives_old site vs right (given old (us ++ used ∷ []))))
  old_found right =
      onward_as (λ s. ap (after p (around m) m.work) (updating_is (world p m.depth) (spot_of slot c) op ty wide gives_old site vs right s))
      (onward_then (went p m m (fetch (spot_of slot c)) (right_and_rest (world p m.depth) (spot_of slot c) op ty wide gives_old site vs right) (given old (c.uses ++ used ∷ [])) (a p c) (settled_same m))
      (onward_as (λ s. ap (after p (around m) m.work) (rest_is right s)) (onward_same p m.state _)))

  module _ (e : Bor Expr) (place : plain.Place) (value_ty : Ty) (first second : Values) (j : first ≡ given val.None us ∷ vs) (k : second ≡ given old ((top first).uses ++ used ∷ []) ∷ first) where
    stacked : second ≡ given old (us ++ used ∷ []) ∷ given val.None us ∷ vs
    stacked = k ∙ ap (λ r. given old ((top r).uses ++ used ∷ []) ∷ r) j

    abbrev stack : Values
    stack = given old (us ++ used ∷ []) ∷ given val.None us ∷ vs

    -- what was begun, and how the tasks say it
    begun_with : (part : plain.Part) (n : MachineState) (k : Run nothing Values) → expression e.now ≡ plain.Upd place op part value_ty ty wide gives_old site →
        ((s : State nothing) → then_all p m (right_and_rest (world p m.depth) (spot_of slot (given val.None us)) op ty wide gives_old site vs (right_side (world p m.depth) part) (given old (us ++ used ∷ []))) s ≡ k s) →
        Onward p m.state (then_all p m (updating_of (world p m.depth) (expression e.now) (spot_of slot c) vs)) m.state k
    begun_with part n k seen same =
        subst (λ y. Onward p m.state (then_all p m (updating_of (world p m.depth) y (spot_of slot c) vs)) m.state k) (sym seen)
        (onward_then (old_found (right_side (world p m.depth) part)) (onward_as same (onward_same p m.state k)))

    -- the right side is found next
    pub right_next : (value : Bor Expr) (n : MachineState) → expression e.now ≡ plain.Upd place op (plain.the (expression value.now)) value_ty ty wide gives_old site →
        n ≡ pushed (tasks.Expr value step.Find) (pushed (tasks.Expr e (step.Assign slot)) (record m { values = second })) →
        Onward p m.state (then_all p m (updating_of (world p m.depth) (expression e.now) (spot_of slot c) vs)) n.state (goes p n)
    unfolding go_on return part_or eval_part
    right_next value n seen is =
        let w = world p m.depth in
        let o = λ (s : State nothing). eval w (expression value.now) s in
        subst (λ (z : MachineState). Onward p m.state (then_all p m (updating_of w (expression e.now) (spot_of slot c) vs)) z.state (goes p z)) (sym is)
        (begun_with (plain.the (expression value.now)) n (goes p (pushed (tasks.Expr value step.Find) (pushed (tasks.Expr e (step.Assign slot)) (record m { values = second })))) seen
        (λ s. ap (after p (around m) m.work) (sym (go_on-go_on (o s) (λ v. return (v ∷ stack)) (expr_step w (plain.Upd place op (plain.the (expression value.now)) value_ty ty wide gives_old site) (step.Assign slot)))
        ∙ ap (λ y. go_on (go_on (o s) (λ v. return (v ∷ stack))) (expr_step w y (step.Assign slot))) (sym seen)
        ∙ ap (λ (r : Values). go_on (go_on (o s) (λ v. return (v ∷ r))) (expr_step w (expression e.now) (step.Assign slot))) (sym stacked))))

    -- it is the number one
    pub right_one : (q : MachineState) (third : Values) → expression e.now ≡ plain.Upd place op plain.absent value_ty ty wide gives_old site →
        q ≡ pushed (tasks.Expr e (step.Assign slot)) (record m { values = second }) → third ≡ given (val.Int (pos 1)) [] ∷ q.values →
        Onward p m.state (then_all p m (updating_of (world p m.depth) (expression e.now) (spot_of slot c) vs)) q.state (goes p (record q { values = third }))
    unfolding go_on return part_or eval_part constant
    right_one q third seen is t =
        let w = world p m.depth in
        let all = t ∙ ap (λ (z : MachineState). given (val.Int (pos 1)) [] ∷ z.values) is ∙ ap (λ (r : Values). given (val.Int (pos 1)) [] ∷ r) stacked in
        subst (λ (z : MachineState). Onward p m.state (then_all p m (updating_of w (expression e.now) (spot_of slot c) vs)) z.state (goes p (record z { values = third }))) (sym is)
        (begun_with plain.absent q (goes p (record (pushed (tasks.Expr e (step.Assign slot)) m) { values = third })) seen
        (λ s. ap (after p (around m) m.work) (ap (λ y. expr_step w y (step.Assign slot) (given (val.Int (pos 1)) [] ∷ stack) s) (sym seen) ∙ ap (λ (r : Values). expr_step w (expression e.now) (step.Assign slot) r s) (sym all))))

-- the old value was refused
pub old_refused : (p : Program) (m : MachineState) (slot : Slot) (c : Carried nothing) (vs first : Values) (x : Expression) (place : plain.Place) (op : BinOp) (part : plain.Part) (value_ty ty : Ty) (wide : Option Primitive) (gives_old : Bool) (site : ℕ) → x ≡ plain.Upd place op part value_ty ty wide gives_old site → (er : Halt) →
    ((q : Program) (c : Carried nothing) → StepGives {X = Value × Use} q (λ r. given r.0 (c.uses ++ r.1 ∷ [])) (Err er) m.state (fetch (spot_of slot c)) m.state) →
    Resumed p (then_all p m (updating_of (world p m.depth) x (spot_of slot c) vs)) m.state (Err er) (record m { values = first })
old_refused p m slot c vs first x place op part value_ty ty wide gives_old site seen er a =
    let w = world p m.depth in
    let rest = right_and_rest w (spot_of slot c) op ty wide gives_old site vs (right_side w part) in
    subst (λ z. Resumed p (then_all p m (updating_of w z (spot_of slot c) vs)) m.state (Err er) (record m { values = first })) (sym seen) (turned_after p m.state m (record m { values = first }) (then_all p m (put_on vs (updating w (spot_of slot c) op (right_side w part) ty wide gives_old site))) (then_all p m (followed (fetch (spot_of slot c)) rest)) (Err er) (λ u. return first)
    (onward_as (λ s. ap (after p (around m) m.work) (updating_is w (spot_of slot c) op ty wide gives_old site vs (right_side w part) s)) (onward_same p m.state _))
    (failed_at p m m.state first (fetch (spot_of slot c)) rest (λ (r : Value × Use). given r.0 (c.uses ++ r.1 ∷ [])) er (λ u. return first) (a p c) (keeps_calls er m.state.calls m.state.calls refl)))

-- ---- the form in memory

module _ (e : Expr) (place : Place) (op : BinOp) (part : Option (Box Expr Global)) (value_ty ty : Ty) (wide : Option Primitive) (gives_old : Bool) (site : ℕ) (is : e ≡ form.Upd place op part value_ty ty wide gives_old site) where
  pub update_seen : expression e ≡ plain.Upd (place_seen place) op (part_seen part) value_ty ty wide gives_old site
  update_seen = ap expression is ∙ view_upd place op part value_ty ty wide gives_old site

  pub with_part : (value : Box Expr Global) (target : Expr) → part ≡ Some value → target ≡ value.value → expression e ≡ plain.Upd (place_seen place) op (plain.the (expression target)) value_ty ty wide gives_old site
  with_part value target some same = update_seen ∙ ap (λ z. plain.Upd (place_seen place) op (part_seen z) value_ty ty wide gives_old site) some ∙ ap (λ z. plain.Upd (place_seen place) op (plain.the (expression z)) value_ty ty wide gives_old site) (sym same)

  pub without_part : part ≡ Absent → expression e ≡ plain.Upd (place_seen place) op plain.absent value_ty ty wide gives_old site
  without_part none = update_seen ∙ ap (λ z. plain.Upd (place_seen place) op (part_seen z) value_ty ty wide gives_old site) none
