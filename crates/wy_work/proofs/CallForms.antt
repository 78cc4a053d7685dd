-- Calls as forms: on a text, through a class that is initialized first, on a receiver; and the call of main.
use Rattle.std.specs.Prelude.{◌==◌, pos}
use Rattle.std.specs.Prelude.{None as Absent}
use Rattle.std.proofs.Common.{◌≡◌, ◌∙◌, ℕ, suc, Bool, false, List, [], ◌∷◌, ◌++◌, length, map, refl, ap, ap₂, sym, subst, inl, inr, arith, Bor, Option, Some, Result, Err}
use Rattle.std.proofs.lemmas.Bool.Decides.{eqb_tells}
use Rattle.std.proofs.lemmas.List.{length-map}
use Rattle.std.specs.declared.alloc.Global.{Global}
use Rattle.std.specs.declared.boxed.Box.{Box}
use Rattle.std.specs.declared.vec.Vec.{Vec}
use Rattle.wy_kernel.specs.Program.{Program}
use Rattle.wy_kernel.specs.Program as kernel
use Rattle.wy_kernel.specs.Form.{Expression}
use Rattle.wy_kernel.specs.Form as plain
use Rattle.wy_kernel.specs.View.{expression, row_of, part_seen}
use Rattle.wy_kernel.specs.declared.form.CallForm.{CallForm}
use Rattle.wy_kernel.specs.declared.form.CallForm.TheVariants as form
use Rattle.wy_kernel.specs.declared.form.Expr.{Expr}
use Rattle.wy_kernel.specs.declared.form.Expr.TheVariants as memory
use Rattle.wy_kernel.specs.declared.types.Ty.{Ty}
use Rattle.wy_value.specs.declared.value.Value.{Value}
use Rattle.wy_value.specs.declared.value.Value.TheVariants as val
use Rattle.wy_event.specs.declared.record.Use.{Use}
use Rattle.wy_steps.specs.Sets.{nothing}
use Rattle.wy_steps.specs.State.{State, Carried, Run, go_on, ◌>>=◌, ◌>>◌, return}
use Rattle.wy_steps.specs.Steps.{Made, constant, joined, value_of}
use Rattle.wy_meaning.specs.World.{World}
use Rattle.wy_meaning.specs.Run.{world, strings}
use Rattle.wy_meaning.specs.Place.{initialize}
use Rattle.wy_meaning.specs.Array.{make_array}
use Rattle.wy_meaning.specs.Call.{call_on, call_on_text, call_static, equals, text_equals}
use Rattle.wy_state.specs.declared.parts.Halt.{Halt}
use Rattle.wy_state.specs.Agrees.{Shape, Onward, StepGives}
use Rattle.wy_state.specs.Seen.{given, made_of, valued}
use Rattle.wy_state.proofs.Onward.{onward_as}
use Rattle.wy_operation.specs.Around.{IsSameAround, KeepsAt}
use Rattle.wy_operation.specs.Operands.{carried}
use Rattle.wy_operation.specs.declared.operand.Part.{Part}
use Rattle.wy_operands.specs.Values.{Values, at, top, under, joined_last, last_many, under_many}
use Rattle.wy_operation.specs.Words.{equality}
use Rattle.wy_work.specs.declared.task.Task.TheVariants as task
use Rattle.wy_work.specs.declared.task.ExprStep.TheVariants as step
use Rattle.wy_work.specs.Expressions.{expr_step, leaving, put_on}
use Rattle.wy_work.specs.Tasks.{MachineState, Does, Resumed, after, around, followed, goes, main_called, pushed, then_all}
use Rattle.wy_work.specs.Operands.{evaluated, list_of, of_first}
use Rattle.wy_work.proofs.Choices.{all_there}
use Rattle.wy_work.proofs.Places.{once_initialized}
use Rattle.wy_work.proofs.Rows.{last_more}
use Rattle.wy_operation.proofs.Runs.{go_on-go_on}
use Rattle.wy_work.proofs.Runs.{failed, failed_at, gave_at, kept_after, same_around, settled_same, turned_after, turned_as, went, world_program}
use Rattle.wy_work.proofs.Single.{gave_same}
use Rattle.wy_kernel.proofs.ExpressionViews.{view_call}
use Rattle.wy_work.proofs.Views.{listed_row}

-- ---- `equals` and `toString` of a text

other_number : (number : ℕ) → (number ≡ 1 → ⊥) → (number == equals) ≡ false
other_number number other = elim (eqb_tells number 1) as (λ _. (number == equals) ≡ false) [ inl a ↦ absurd (other a.1) | inr b ↦ b.0 ]

under_next : (n : ℕ) (vs : Values) → under (under_many n vs) ≡ under_many n (under vs)
under_next ℕ.zero vs = refl
under_next (ℕ.suc n) vs = under_next n (under vs)

module _ (w : World nothing) (number count : ℕ) (vs : Values) where
  abbrev pub on_text : Run nothing Values
  on_text = put_on (under_many (suc count) vs) (call_on_text w (number == equals) (at count vs) (last_many count vs))

  asks : number ≡ 1 → count ≡ 1 → (s : State nothing) → on_text s ≡ put_on (under_many 2 vs) (text_equals w (at 1 vs) (top vs)) s
  unfolding call_on_text
  asks is one s = rw (is, one) refl

  shows : (number ≡ 1 → ⊥) → (s : State nothing) → on_text s ≡ put_on (under_many (suc count) vs) (return (at count vs)) s
  unfolding call_on_text
  shows other s = rw (other_number number other) refl

module _ (p : Program) (m : MachineState) (number count : ℕ) where
  module _ (a b : Part) (left : carried a ≡ at 1 m.values) (right : carried b ≡ top m.values) (is : number ≡ 1) (one : count ≡ 1) where
    asked : (s : State nothing) → on_text (world p m.depth) number count m.values s ≡ put_on (under_many 2 m.values) (text_equals (world p m.depth) (carried a) (carried b)) s
    asked s = rw (left, right) (asks (world p m.depth) number count m.values is one s)

    pub equals_refused : (e : Halt) → StepGives p (equality a b) (Err e) m.state (text_equals (world p m.depth) (carried a) (carried b)) m.state → Resumed p (then_all p m (on_text (world p m.depth) number count m.values)) m.state (Err e) m
    equals_refused e h = turned_as p m m _ _ (Err e) (λ u. return m.values) asked
        (failed p m m (text_equals (world p m.depth) (carried a) (carried b)) (λ v. return (v ∷ under_many 2 m.values)) (equality a b) e (λ u. return m.values) h (settled_same m))

    pub equals_found : (is_same : Bool) (us : Values) → Onward p m.state (text_equals (world p m.depth) (carried a) (carried b)) m.state (return (equality a b is_same)) → us ≡ joined_last 2 (val.Bool is_same) m.values →
        Onward p m.state (then_all p m (on_text (world p m.depth) number count m.values)) m.state (goes p (record m { values = us }))
    unfolding joined
    equals_found is_same us h values = onward_as (λ s. ap (after p (around m) m.work) (asked s))
        (gave_at p m m.state us (text_equals (world p m.depth) (carried a) (carried b)) (equality a b is_same) (under_many 2 m.values) h (same_around m.state.calls) (values ∙ ap₂ (λ (x y : Carried nothing). given (val.Bool is_same) (x.uses ++ y.uses) ∷ under_many 2 m.values) (sym left) (sym right)))

  pub receiver_shown : (us mid : Values) (v : Value) → (number ≡ 1 → ⊥) → mid ≡ under_many count m.values → v ≡ (top mid).value → us ≡ joined_last 1 v mid →
      Onward p m.state (then_all p m (on_text (world p m.depth) number count m.values)) m.state (goes p (record m { values = us }))
  receiver_shown us mid v other rest value values = onward_as (λ s. ap (after p (around m) m.work) (shows (world p m.depth) number count m.values other s))
      (gave_same p m us (return (at count m.values)) (at count m.values) (under_many (suc count) m.values) (λ s. refl) (values ∙ rw (value, rest) (ap (λ z. at count m.values ∷ z) (under_next count m.values))))

-- ---- a call as a form

module _ (w : World nothing) (number : ℕ) (receiver : plain.Part) (ty : Ty) (row : plain.Row) (site : ℕ) where
  static_is : (vs : Values) (s : State nothing) → expr_step w (plain.Call form.Static number receiver ty row site) step.Operate vs s ≡
      go_on (initialize w site (kernel.method w.program number).class s) (λ u. expr_step w (plain.Call form.Static number receiver ty row site) step.Ready vs)
  unfolding call_static ◌>>=◌ ◌>>◌ go_on return
  static_is vs s =
      let k = length (list_of row) in
      let c = (kernel.method w.program number).class in
      ap (λ o. go_on (go_on o (λ xs z. go_on (initialize w site c z) (λ u. w.call site number Absent xs))) (λ v. return (v ∷ under_many k vs))) (all_there (last_many k vs) s)
      ∙ go_on-go_on (initialize w site c s) (λ u. w.call site number Absent (last_many k vs)) (λ v. return (v ∷ under_many k vs))

-- a call that has a receiver
abbrev pub IsReceived : CallForm → Type 0
IsReceived form.Static = ⊥
IsReceived _ = Unit {0}

module _ (w : World nothing) (number : ℕ) (r : Expression) (ty : Ty) (row : plain.Row) (site : ℕ) (vs : Values) where
  abbrev receiving : CallForm → Type 0
  receiving f = expr_step w (plain.Call f number (plain.the r) ty row site) step.Operate vs ≡ put_on (under_many (suc (length (list_of row))) vs) (call_on w f number (return (at (length (list_of row)) vs)) (evaluated (last_many (length (list_of row)) vs)) site)

  received : (f : CallForm) → IsReceived f → receiving f
  received form.Static other = absurd other
  received form.Direct other = let k = length (list_of row) in ap (λ xs. put_on (under_many (suc k) vs) (of_first w (λ receiver args. call_on w form.Direct number receiver args site) xs)) (last_more k vs)
  received form.Chosen other = let k = length (list_of row) in ap (λ xs. put_on (under_many (suc k) vs) (of_first w (λ receiver args. call_on w form.Chosen number receiver args site) xs)) (last_more k vs)

many_args : (args : Vec Expr Global) → length (list_of (row_of (map expression args.items))) ≡ length args.items
many_args args = ap length (listed_row (map expression args.items)) ∙ length-map args.items expression

module _ (p : Program) (m n : MachineState) (r : Result (Unit {0}) Halt) (e : Bor Expr) (number : ℕ) (receiver : Option (Box Expr Global)) (ty : Ty) (args : Vec Expr Global) (site : ℕ) where
  pub static_form : (f : CallForm) (q : MachineState) (class : ℕ) → e.now ≡ memory.Call f number receiver ty args site → f ≡ form.Static → q ≡ pushed (task.Expr e step.Ready) m → class ≡ (kernel.method p number).class →
      Does p (λ w vs. leaving vs (initialize w site class)) q r n → Does p (λ w. expr_step w (expression e.now) step.Operate) m r n
  static_form f q class is static pushes of a =
      let x = plain.Call form.Static number (part_seen receiver) ty (row_of (map expression args.items)) site in
      let seen = ap expression (is ∙ ap (λ z. memory.Call z number receiver ty args site) static) ∙ view_call form.Static number receiver ty args site in
      let depth = ap (λ (z : MachineState). z.depth) pushes in
      subst (λ y. Resumed p (then_all p m (expr_step (world p m.depth) y step.Operate m.values)) m.state r n) (sym seen)
      (once_initialized p m q r n e x (initialize (world p q.depth) site class) (expr_step (world p m.depth) x step.Operate m.values) pushes seen
      (λ s. static_is (world p m.depth) number (part_seen receiver) ty (row_of (map expression args.items)) site m.values s
      ∙ ap (λ c. go_on (initialize (world p m.depth) site c s) (λ u. expr_step (world p m.depth) x step.Ready m.values)) (ap (λ k. (kernel.method k number).class) (world_program p m.depth) ∙ sym of)
      ∙ ap (λ d. go_on (initialize (world p d) site class s) (λ u. expr_step (world p m.depth) x step.Ready m.values)) (sym depth))
      a)

  pub received_form : (f g : CallForm) (o : Box Expr Global) (count : ℕ) → e.now ≡ memory.Call f number receiver ty args site → f ≡ g → IsReceived g → receiver ≡ Some o → count ≡ args.len →
      Does p (λ w vs. put_on (under_many (suc count) vs) (call_on w g number (return (at count vs)) (evaluated (last_many count vs)) site)) m r n → Does p (λ w. expr_step w (expression e.now) step.Operate) m r n
  received_form f g o count is same other some many a =
      let seen = ap expression (is ∙ ap (λ z. memory.Call z number receiver ty args site) same ∙ ap (λ z. memory.Call g number z ty args site) some) ∙ view_call g number (Some o) ty args site in
      let row = row_of (map expression args.items) in
      let all : count ≡ length args.items = omega (arith, many, args.ok) in
      subst (λ y. Resumed p (then_all p m (expr_step (world p m.depth) y step.Operate m.values)) m.state r n) (sym seen)
      (subst (λ k. Resumed p (then_all p m k) m.state r n) (sym (received (world p m.depth) number (expression o.value) ty row site m.values g other))
      (subst (λ k. Resumed p (then_all p m (put_on (under_many (suc k) m.values) (call_on (world p m.depth) g number (return (at k m.values)) (evaluated (last_many k m.values)) site))) m.state r n) (all ∙ sym (many_args args)) a))

-- ---- main

module _ (p : Program) (m : MachineState) (site : ℕ) (at_main : site ≡ (kernel.method p p.main).site) (us : List Use) (none : us ≡ []) where
  abbrev array_made : Run nothing (Made nothing)
  array_made = make_array (world p m.depth) site strings 0 (given (val.Int (pos 0)) us)

  abbrev main_after : Made nothing → Run nothing Values
  main_after e = put_on m.values ((world p m.depth).call site p.main Absent (value_of e (val.Object e.number) ∷ []))

  main_is : (s : State nothing) → put_on m.values (main_called (world p m.depth)) s ≡ followed array_made main_after s
  unfolding ◌>>=◌ constant
  main_is s =
      let w = world p m.depth in
      let k = λ (at main : ℕ) (e : Made nothing). w.call at main Absent (value_of e (val.Object e.number) ∷ []) in
      rw (none, at_main) (ap (λ q. go_on (go_on (make_array w (kernel.method q q.main).site strings 0 (given (val.Int (pos 0)) []) s) (k (kernel.method q q.main).site q.main)) (λ v. return (v ∷ m.values))) (world_program p m.depth)
      ∙ go_on-go_on (make_array w (kernel.method p p.main).site strings 0 (given (val.Int (pos 0)) []) s) (k (kernel.method p p.main).site p.main) (λ v. return (v ∷ m.values)))

  pub main_refused : (l : Shape) (e : Halt) → StepGives p made_of (Err e) m.state array_made l → KeepsAt e m.state.calls l.calls → Resumed p (then_all p m (put_on m.values (main_called (world p m.depth)))) m.state (Err e) (record m { state = l })
  main_refused l e a same = turned_as p m (record m { state = l }) _ (followed array_made main_after) (Err e) (λ u. return m.values) main_is (failed_at p m l m.values array_made main_after made_of e (λ u. return m.values) a same)

  pub main_goes : (l : Shape) (vs : Values) (array : ℕ) (r : Result (Unit {0}) Halt) (q : MachineState) → Onward p m.state array_made l (return (made_of array)) → IsSameAround m.state.calls l.calls → vs ≡ valued array (val.Object array) ∷ m.values →
      Does p (λ w us. put_on (under_many 1 us) (w.call site p.main Absent (last_many 1 us))) (record m { state = l; values = vs }) r q → Resumed p (then_all p m (put_on m.values (main_called (world p m.depth)))) m.state r q
  unfolding value_of
  main_goes l vs array r q a same values next =
      turned_as p m q _ (followed array_made main_after) r (λ u. return q.values) main_is
      (turned_after p m.state (record m { state = l; values = vs }) q (then_all p m (followed array_made main_after)) (then_all p (record m { state = l; values = vs }) (main_after (made_of array))) r (λ u. return q.values)
      (went p m (record m { state = l; values = vs }) array_made main_after (made_of array) a (kept_after p m l vs same))
      (subst (λ us. Resumed p (then_all p (record m { state = l; values = vs }) (put_on (under_many 1 us) ((world p m.depth).call site p.main Absent (last_many 1 us)))) l r q) values next))
