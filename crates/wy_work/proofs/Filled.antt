-- New arrays: by their dimensions, or with elements that are evaluated one after another.
use Rattle.std.proofs.Common.{◌≡◌, ◌≢◌, ◌≤◌, ◌<◌, ◌∙◌, ℕ, zero, suc, List, [], ◌∷◌, ◌++◌, length, drop, get_or, map, refl, ap, ap₂, sym, subst, Bor, Result, Ok, Err}
use Rattle.std.proofs.Math.ListN.{drop_of_length-le}
use Rattle.std.proofs.Math.Seq.{drop-cons}
use Rattle.std.proofs.lemmas.List.{drop-map, length-map}
use Rattle.wy_kernel.specs.Program.{Program}
use Rattle.wy_kernel.specs.Form.{Expression, Row}
use Rattle.wy_kernel.specs.Form as plain
use Rattle.wy_kernel.specs.View.{expression, row_of}
use Rattle.wy_kernel.specs.declared.form.Expr.{Expr}
use Rattle.wy_kernel.specs.declared.types.Ty.{Ty}
use Rattle.wy_value.specs.declared.value.Value.{Value}
use Rattle.wy_value.specs.declared.value.Value.TheVariants as val
use Rattle.wy_event.specs.declared.record.Use.{Use}
use Rattle.wy_event.specs.declared.record.Use.TheVariants as uses
use Rattle.wy_steps.specs.Sets.{nothing}
use Rattle.wy_steps.specs.State.{State, Carried, Run, go_on, ◌>>=◌, ◌>>◌, return}
use Rattle.wy_steps.specs.Steps.{Made, constant, value_of}
use Rattle.wy_meaning.specs.World.{World}
use Rattle.wy_meaning.specs.Run.{world}
use Rattle.wy_meaning.specs.Array.{create_array, create_filled, first_site, make_array, rest_sites, set_elements}
use Rattle.wy_meaning.specs.Expression.{eval, eval_row}
use Rattle.wy_state.specs.declared.parts.Halt.{Halt}
use Rattle.wy_state.specs.Agrees.{Shape, Onward, StepGives}
use Rattle.wy_state.specs.Seen.{given, made_of, valued}
use Rattle.wy_state.proofs.Onward.{onward_as, onward_same, onward_then}
use Rattle.wy_operation.specs.Around.{IsSameAround, KeepsAt}
use Rattle.wy_operation.specs.Subarrays.{element_set}
use Rattle.wy_operands.specs.Values.{Values, at, top, under, under_many, last_many, uses_of_last}
use Rattle.wy_work.specs.declared.task.Task.TheVariants as tasks
use Rattle.wy_work.specs.declared.task.ExprStep.TheVariants as step
use Rattle.wy_work.specs.Expressions.{elements_from, expr_step, filled_at, filled_from, leaving, put_on}
use Rattle.wy_work.specs.Tasks.{MachineState, around, after, followed, pushed, then_all, Does}
use Rattle.wy_work.specs.Listed.{rows}
use Rattle.wy_work.specs.Operands.{Given, array_with, evaluated, list_of}
use Rattle.wy_work.proofs.Places.{Operating, resumed_as}
use Rattle.wy_operation.proofs.Runs.{go_on-go_on}
use Rattle.wy_work.proofs.Runs.{failed_at, settled_state, went, world_program}
use Rattle.wy_work.proofs.Seen.{operating_by}
use Rattle.wy_work.proofs.Updates.{go_on_same}

-- ---- the elements and their sites, from an index on

pub first_at : (sites : List ℕ) (i : ℕ) → first_site (drop i sites) ≡ get_or sites i 0
unfolding first_site
first_at [] zero = refl
first_at [] (suc i) = refl
first_at (x ∷ xs) zero = refl
first_at (x ∷ xs) (suc i) = first_at xs i

rest_at : (sites : List ℕ) (i : ℕ) → rest_sites (drop i sites) ≡ drop (suc i) sites
unfolding rest_sites
rest_at [] zero = refl
rest_at [] (suc i) = refl
rest_at (x ∷ xs) zero = refl
rest_at (x ∷ xs) (suc i) = rest_at xs i

module _ (w : World nothing) where
  row_is : (xs : List Expression) → eval_row w (row_of xs) ≡ map (eval w) xs
  unfolding eval_row
  row_is [] = refl
  row_is (x ∷ xs) = ap (λ rest. eval w x ∷ rest) (row_is xs)

  abbrev pub elements_of : List Expr → List Given
  elements_of items = eval_row w (row_of (rows items))

  dropped : (items : List Expr) (i : ℕ) → drop i (elements_of items) ≡ map (eval w) (rows (drop i items))
  dropped items i = ap (drop i) (row_is (rows items)) ∙ drop-map (eval w) i (rows items) ∙ ap (map (eval w)) (drop-map expression i items)

  many_elements : (items : List Expr) (n k : ℕ) → n ≡ k → k ≡ length items → length (elements_of items) ≡ n
  many_elements items n k is same = ap length (row_is (rows items)) ∙ length-map (rows items) (eval w) ∙ length-map items expression ∙ sym (is ∙ same)

  no_elements : (items all : List Expr) (i : ℕ) → all ≡ items → length all ≤ i → drop i (elements_of items) ≡ []
  no_elements items all i same past = dropped items i ∙ ap (λ es. map (eval w) (rows (drop i es))) (sym same) ∙ ap (λ es. map (eval w) (rows es)) (drop_of_length-le all past)

  next_element : (items all : List Expr) (i : ℕ) (e : Expr) → all ≡ items → i < length all → e ≡ get_or all i e → drop i (elements_of items) ≡ eval w (expression e) ∷ drop (suc i) (elements_of items)
  next_element items all i e same less is =
      dropped items i ∙ ap (λ es. map (eval w) (rows (drop i es))) (sym same)
      ∙ ap (λ es. map (eval w) (rows es)) (drop-cons all i e less ∙ ap (λ x. x ∷ drop (suc i) all) (sym is))
      ∙ ap (λ es. eval w (expression e) ∷ map (eval w) (rows (drop (suc i) es))) same ∙ ap (λ ms. eval w (expression e) ∷ ms) (sym (dropped items (suc i)))

  -- ---- what is done from an index on

  module _ (ty : Ty) (dims elements : Row) (sites : List ℕ) (site array i : ℕ) (vs : Values) (s : State nothing) where
    abbrev form : Expression
    form = plain.NewArray ty dims elements sites site

    none_left : drop i (eval_row w elements) ≡ [] → filled_from w form array i vs s ≡ return vs s
    unfolding set_elements go_on return
    none_left none = rw none refl

    -- an element is set, and then those after it
    abbrev pub set_then : Carried nothing → Values → Run nothing Values
    set_then v us = followed (element_set (first_site (drop i sites)) (made_of array) i v) (λ e. leaving us (elements_from w array (suc i) sites elements))

    at_is : filled_at w form array i vs s ≡ set_then (top vs) (under vs) s
    unfolding ◌>>=◌ ◌>>◌ go_on return
    at_is =
        let o = element_set (first_site (drop i sites)) (made_of array) i (top vs) s in
        go_on-go_on (go_on o (λ e. return tt)) _ _ ∙ go_on-go_on o _ _

  module _ (ty : Ty) (dims elements : Row) (sites : List ℕ) (site array i : ℕ) (vs : Values) where
    one_left : (m : Given) → drop i (eval_row w elements) ≡ m ∷ drop (suc i) (eval_row w elements) → (s : State nothing) →
        filled_from w (form ty dims elements sites site array i vs s) array i vs s ≡ go_on (put_on vs m s) (filled_at w (form ty dims elements sites site array i vs s) array i)
    unfolding set_elements ◌>>=◌ go_on return
    one_left m is s =
        let x = form ty dims elements sites site array i vs s in
        ap (λ ms. go_on (set_elements (made_of array) i (drop i sites) ms s) (λ u. return vs)) is
        ∙ go_on-go_on (m s) _ _
        ∙ go_on_same (m s) _ _ (λ v s. go_on-go_on (element_set (first_site (drop i sites)) (made_of array) i v s) _ _
        ∙ ap (λ z. go_on (element_set (first_site (drop i sites)) (made_of array) i v s) (λ e s. go_on (set_elements (made_of array) (suc i) z (drop (suc i) (eval_row w elements)) s) (λ u. return vs))) (rest_at sites i)
        ∙ sym (at_is ty dims elements sites site array i (v ∷ vs) s))
        ∙ sym (go_on-go_on (m s) _ _)

-- ---- an array initializer

module _ (p : Program) (m : MachineState) (e : Bor Expr) (ty : Ty) (dims : Row) (elements : List Expr) (sites : List ℕ) (site : ℕ) (seen : expression e.now ≡ plain.NewArray ty dims (row_of (rows elements)) sites site) (array i : ℕ) where
  abbrev pub Filling : Result (Unit {0}) Halt → MachineState → Type 0
  Filling r n = Does p (λ w. expr_step w (expression e.now) (step.Elements array i)) m r n

  pub filled : (all : List Expr) → all ≡ elements → length all ≤ i → Does p (λ w. expr_step w (expression e.now) (step.Elements array i)) m (Ok tt) m
  filled all same past =
      let w = world p m.depth in
      onward_as (λ s. ap (after p (around m) m.work) (ap (λ y. expr_step w y (step.Elements array i) m.values s) seen ∙ none_left w ty dims (row_of (rows elements)) sites site array i m.values s (no_elements w elements all i same past))) (onward_same p m.state _)

  pub element_begins : (all : List Expr) (next : Bor Expr) (n : MachineState) → all ≡ elements → i < length all → next.now ≡ get_or all i next.now →
      n ≡ pushed (tasks.Expr next step.Find) (pushed (tasks.Expr e (step.Element array i)) m) → Does p (λ w. expr_step w (expression e.now) (step.Elements array i)) m (Ok tt) n
  unfolding go_on return
  element_begins all next n same less is pushes =
      let w = world p m.depth in
      let first = put_on m.values (eval w (expression next.now)) in
      subst (λ (z : MachineState). Does p (λ w. expr_step w (expression e.now) (step.Elements array i)) m (Ok tt) z) (sym pushes)
      (onward_as (λ s. ap (after p (around m) m.work) (ap (λ y. expr_step w y (step.Elements array i) m.values s) seen
      ∙ one_left w ty dims (row_of (rows elements)) sites site array i m.values (eval w (expression next.now)) (next_element w elements all i next.now same less is) s
      ∙ ap (λ y. go_on (first s) (expr_step w y (step.Element array i))) (sym seen))) (onward_same p m.state _))

  -- the value of an element is there
  module _ (l : Shape) (value : Value) (used us_of_array : List Use) (is_value : value ≡ (top m.values).value) (is_used : used ≡ uses_of_last 2 m.values) (of_array : us_of_array ≡ (at 1 m.values).uses) (is_array : us_of_array ≡ uses.Value array ∷ []) (set_site : ℕ) (at_site : set_site ≡ get_or sites i 0) where
    abbrev SetsElement : Result ℕ Halt → Type 0
    SetsElement r = (q : Program) (c : Carried nothing) → c.value ≡ value → uses.Value array ∷ c.uses ≡ used → StepGives q made_of r m.state (element_set set_site (made_of array) i c) l

    uses_are : uses.Value array ∷ (top m.values).uses ≡ used
    uses_are = sym (is_used ∙ ap (λ us. us ++ (top m.values).uses) (sym of_array ∙ is_array))

    set_is : (s : State nothing) → expr_step (world p m.depth) (expression e.now) (step.Element array i) m.values s ≡ followed (element_set set_site (made_of array) i (top m.values)) (λ x. leaving (under m.values) (elements_from (world p m.depth) array (suc i) sites (row_of (rows elements)))) s
    set_is s =
        let w = world p m.depth in
        ap (λ y. expr_step w y (step.Element array i) m.values s) seen ∙ at_is w ty dims (row_of (rows elements)) sites site array i m.values s
        ∙ ap (λ k. followed (element_set k (made_of array) i (top m.values)) (λ x. leaving (under m.values) (elements_from w array (suc i) sites (row_of (rows elements)))) s) (first_at sites i ∙ sym at_site)

    pub element_filled : (number next : ℕ) (us : Values) (n : MachineState) → ((q : Program) (c : Carried nothing) → c.value ≡ value → uses.Value array ∷ c.uses ≡ used → Onward q m.state (element_set set_site (made_of array) i c) l (return (made_of number))) →
        IsSameAround m.state.calls l.calls → next ≡ suc i → us ≡ under m.values → n ≡ pushed (tasks.Expr e (step.Elements array next)) (record m { state = l; values = us }) →
        Does p (λ w. expr_step w (expression e.now) (step.Element array i)) m (Ok tt) n
    unfolding go_on return
    element_filled number next us n a same is_next values pushes =
        let w = world p m.depth in
        let q = record m { state = l } in
        let rest = leaving (under m.values) (elements_from w array (suc i) sites (row_of (rows elements))) in
        subst (λ (z : MachineState). Does p (λ w. expr_step w (expression e.now) (step.Element array i)) m (Ok tt) z) (sym pushes)
        (onward_then (onward_as (λ s. ap (after p (around m) m.work) (set_is s)) (went p m q (element_set set_site (made_of array) i (top m.values)) (λ x. rest) (made_of number) (a p (top m.values) (sym is_value) uses_are) (settled_state m l same)))
        (onward_as (λ s. ap (after p (around q) m.work) (ap (λ y. expr_step w y (step.Elements array (suc i)) (under m.values) s) (sym seen) ∙ ap₂ (λ k vs. expr_step w (expression e.now) (step.Elements array k) vs s) (sym is_next) (sym values))) (onward_same p l _)))

    pub element_refused : (er : Halt) → ((q : Program) (c : Carried nothing) → c.value ≡ value → uses.Value array ∷ c.uses ≡ used → StepGives {X = ℕ} q made_of (Err er) m.state (element_set set_site (made_of array) i c) l) → KeepsAt er m.state.calls l.calls →
        Does p (λ w. expr_step w (expression e.now) (step.Element array i)) m (Err er) (record m { state = l })
    element_refused er a same =
        let w = world p m.depth in
        let rest = leaving (under m.values) (elements_from w array (suc i) sites (row_of (rows elements))) in
        resumed_as p m (then_all p m (expr_step w (expression e.now) (step.Element array i) m.values)) (then_all p m (followed (element_set set_site (made_of array) i (top m.values)) (λ x. rest))) (Err er) (record m { state = l }) (λ s. ap (after p (around m) m.work) (set_is s))
        (failed_at p m l m.values (element_set set_site (made_of array) i (top m.values)) (λ x. rest) made_of er (λ u. return m.values) (a p (top m.values) (sym is_value) uses_are) same)

-- ---- the array is made

module _ (p : Program) (m : MachineState) (e : Bor Expr) (ty : Ty) (dims elements : List Expr) (sites : List ℕ) (site : ℕ) (seen : expression e.now ≡ plain.NewArray ty (row_of (rows dims)) (row_of (rows elements)) sites site) where
  -- by its dimensions
  module _ (first : length dims ≢ 0) where
    by_dims : (w : World nothing) (dims : List Expr) → length dims ≢ 0 → (f : List Given → Given) (g : Given) (vs : Values) → array_with w (row_of (rows dims)) (elements_of w elements) f g vs ≡ f (evaluated vs)
    by_dims w [] other f g vs = absurd (other refl)
    by_dims w (d ∷ ds) other f g vs = refl

    pub by_dimensions : (r : Result (Unit {0}) Halt) (n : MachineState) (count : ℕ) → length (list_of (row_of (rows dims))) ≡ count → Does p (λ w vs. put_on (under_many count vs) (create_array w ty (evaluated (last_many count vs)) site)) m r n → Operating p (expression e.now) m r n
    by_dimensions r n count many a =
        let w = world p m.depth in
        operating_by p m n r (expression e.now) (plain.NewArray ty (row_of (rows dims)) (row_of (rows elements)) sites site) seen
        (resumed_as p m _ (then_all p m (put_on (under_many count m.values) (create_array w ty (evaluated (last_many count m.values)) site))) r n
        (λ s. ap (λ k. then_all p m (put_on (under_many k m.values) (array_with w (row_of (rows dims)) (elements_of w elements) (λ ds. create_array w ty ds site) (create_filled w ty (elements_of w elements) sites site) (last_many k m.values))) s) many
        ∙ ap (λ g. then_all p m (put_on (under_many count m.values) g) s) (by_dims w dims first (λ ds. create_array w ty ds site) (create_filled w ty (elements_of w elements) sites site) (last_many count m.values))) a)

  -- with elements
  module _ (none : dims ≡ []) (l : Shape) (n k : ℕ) (is_length : n ≡ k) (length_is : k ≡ length elements) where
    abbrev made : World nothing → Run nothing (Made nothing)
    made w = make_array w site ty n (given val.None [])

    abbrev filling : World nothing → Made nothing → Run nothing Values
    filling w x = leaving (value_of x (val.Object x.number) ∷ m.values) (set_elements x 0 sites (elements_of w elements))

    filled_is : (w : World nothing) (s : State nothing) → expr_step w (expression e.now) step.Operate m.values s ≡ followed (made w) (filling w) s
    unfolding create_filled ◌>>=◌ ◌>>◌ constant go_on return
    filled_is w s =
        ap (λ y. expr_step w y step.Operate m.values s) (seen ∙ ap (λ ds. plain.NewArray ty (row_of (rows ds)) (row_of (rows elements)) sites site) none)
        ∙ ap (λ z. put_on m.values (λ s. go_on (make_array w site ty z (given val.None []) s) (λ x s. go_on (set_elements x 0 sites (elements_of w elements) s) (λ u. return (value_of x (val.Object x.number))))) s) (many_elements w elements n k is_length length_is)
        ∙ go_on-go_on (made w s) _ _ ∙ go_on_same (made w s) _ _ (λ x s. go_on-go_on (set_elements x 0 sites (elements_of w elements) s) _ _)

    pub array_made : (number : ℕ) (us : Values) (q : MachineState) → ((p : Program) (w : World nothing) (v : Value) → w.program ≡ p → Onward p m.state (make_array w site ty n (given v [])) l (return (made_of number))) → IsSameAround m.state.calls l.calls →
        us ≡ valued number (val.Object number) ∷ m.values → q ≡ pushed (tasks.Expr e (step.Elements number 0)) (record m { state = l; values = us }) → Operating p (expression e.now) m (Ok tt) q
    unfolding go_on return value_of
    array_made number us q a same values pushes =
        let w = world p m.depth in
        let mid = record m { state = l } in
        subst (λ (z : MachineState). Operating p (expression e.now) m (Ok tt) z) (sym pushes)
        (onward_then (onward_as (λ s. ap (after p (around m) m.work) (filled_is w s)) (went p m mid (made w) (filling w) (made_of number) (a p w val.None (world_program p m.depth)) (settled_state m l same)))
        (onward_as (λ s. ap (after p (around mid) m.work) (ap (λ y. expr_step w y (step.Elements number 0) (valued number (val.Object number) ∷ m.values) s) (sym seen) ∙ ap (λ vs. expr_step w (expression e.now) (step.Elements number 0) vs s) (sym values))) (onward_same p l _)))

    pub array_refused : (er : Halt) → ((p : Program) (w : World nothing) (v : Value) → w.program ≡ p → StepGives {X = ℕ} p made_of (Err er) m.state (make_array w site ty n (given v [])) l) → KeepsAt er m.state.calls l.calls → Operating p (expression e.now) m (Err er) (record m { state = l })
    array_refused er a same =
        let w = world p m.depth in
        resumed_as p m (then_all p m (expr_step w (expression e.now) step.Operate m.values)) (then_all p m (followed (made w) (filling w))) (Err er) (record m { state = l }) (λ s. ap (after p (around m) m.work) (filled_is w s))
        (failed_at p m l m.values (made w) (filling w) made_of er (λ u. return m.values) (a p w val.None (world_program p m.depth)) same)
