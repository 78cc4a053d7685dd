-- The run with the smaller budget is a prefix of the run with the larger one.
use Rattle.std.proofs.Common.{◌≡◌, ℕ, ◌+◌, ◌-◌, false, ◌≤◌, List, refl, ap, ◌∙◌, subst, arith}
use Rattle.std.specs.Prelude.{map, reverse}
use Rattle.std.proofs.lemmas.List.{map-append, reverse-append}
use Rattle.wy_kernel.specs.Program.{Program}
use Rattle.wy_steps.specs.Sets.{Sets}
use Rattle.wy_steps.specs.State.{Carried, Noted, State, Stop, StepLimit, Outcome, Done, Left, Stopped}
use Rattle.wy_meaning.specs.Run.{start, outcome, end, stop_number, stop_of, last_of, tail_of, history, events, output, tail, final_store}
use Rattle.law_budget.specs.Longer.{IsPrefixOf, IsPrefixOfLarger, IsSameWithLarger}
use Rattle.law_budget.proofs.LongerRules.{is_at_limit, longer, longer_outcome, at_limit, Grown, Ahead}
use Rattle.law_budget.proofs.Instance.{run_longer}

not_at_limit : (why : Stop) → (stop_number why ≡ stop_number StepLimit → ⊥) → is_at_limit why ≡ false
unfolding is_at_limit stop_number
not_at_limit StepLimit h = absurd (h refl)
not_at_limit _ h = refl

module _ (A : Sets) (d : ℕ) where
  not_stopped : {X : Type 0} (o : Outcome A X) → (stop_of o ≡ stop_number StepLimit → ⊥) → at_limit A d o ≡ false
  unfolding at_limit stop_of
  not_stopped (Done x s) h = refl
  not_stopped (Left why s) h = refl
  not_stopped (Stopped why s) h = not_at_limit why h

  steps_taken : (budget left : ℕ) → (budget + d) - (left + d) ≡ budget - left
  steps_taken budget left = omega arith

  same_tail : {X : Type 0} (p : Program) (budget : ℕ) (o : Outcome A X) → tail_of p (budget + d) (longer_outcome A d o) ≡ tail_of p budget o
  unfolding tail_of longer_outcome longer end stop_of last_of
  same_tail {X = X} p budget (Done x s) = ap (λ n. record (tail_of {X = X} p budget (Done x s)) { steps = n }) (steps_taken budget s.left)
  same_tail {X = X} p budget (Left why s) = ap (λ n. record (tail_of {X = X} p budget (Left why s)) { steps = n }) (steps_taken budget s.left)
  same_tail {X = X} p budget (Stopped why s) = ap (λ n. record (tail_of {X = X} p budget (Stopped why s)) { steps = n }) (steps_taken budget s.left)

  same_noted : {X : Type 0} (o : Outcome A X) → (end (longer_outcome A d o)).noted ≡ (end o).noted
  unfolding longer_outcome longer end
  same_noted (Done x s) = refl
  same_noted (Left why s) = refl
  same_noted (Stopped why s) = refl

  same_output : {X : Type 0} (o : Outcome A X) → (end (longer_outcome A d o)).output ≡ (end o).output
  unfolding longer_outcome longer end
  same_output (Done x s) = refl
  same_output (Left why s) = refl
  same_output (Stopped why s) = refl

  same_store : {X : Type 0} (o : Outcome A X) → (end (longer_outcome A d o)).store ≡ (end o).store
  unfolding longer_outcome longer end
  same_store (Done x s) = refl
  same_store (Left why s) = refl
  same_store (Stopped why s) = refl

  front_noted : (s t : State A) → Grown A d s t → IsPrefixOf (reverse s.noted) (reverse t.noted)
  front_noted s t g = (reverse g.later, ap reverse g.noted ∙ reverse-append g.later s.noted)

  front_map : (xs ys : List (Noted A)) → IsPrefixOf xs ys → IsPrefixOf (map (λ e. e.event) xs) (map (λ e. e.event) ys)
  front_map xs ys h = (map (λ e. e.event) h.0, ap (map (λ (e : Noted A). e.event)) h.1 ∙ map-append (λ (e : Noted A). e.event) xs h.0)

module _ (A : Sets) (p : Program) (input : List ℕ) (budget d : ℕ) where
  two_runs : Ahead A d (outcome {A = A} p input budget) (outcome {A = A} p input (budget + d))
  unfolding outcome start longer
  two_runs = (run_longer A d p).by.ahead (start input budget)

  front : IsPrefixOfLarger A p input budget (budget + d)
  unfolding events output history
  front =
      let g = two_runs.front in
      let h = front_noted A d _ _ g in
      (front_map A d _ _ h, (g.written, g.output), h)

  same : IsSameWithLarger A p input budget (budget + d)
  unfolding events output history tail tail_of final_store
  same h =
      let e = two_runs.same (not_stopped A d (outcome {A = A} p input budget) h) in
      let n = ap (λ (o : Outcome A (Carried A)). (end o).noted) e ∙ same_noted A d (outcome {A = A} p input budget) in (
        ap (λ (l : List (Noted A)). map (λ e. e.event) (reverse l)) n,
        ap (λ (o : Outcome A (Carried A)). (end o).output) e ∙ same_output A d (outcome {A = A} p input budget),
        ap (λ (o : Outcome A (Carried A)). tail_of p (budget + d) o) e ∙ same_tail A d p budget (outcome {A = A} p input budget),
        ap (λ (l : List (Noted A)). reverse l) n,
        ap (λ (o : Outcome A (Carried A)). (end o).store) e ∙ same_store A d (outcome {A = A} p input budget),
      )

pub front_of_larger : (A : Sets) (p : Program) (input : List ℕ) (budget larger : ℕ) → budget ≤ larger → IsPrefixOfLarger A p input budget larger
front_of_larger A p input budget larger le =
    let e : budget + (larger - budget) ≡ larger = omega (arith, le) in
    subst (λ n. IsPrefixOfLarger A p input budget n) e (front A p input budget (larger - budget))

pub same_with_larger : (A : Sets) (p : Program) (input : List ℕ) (budget larger : ℕ) → budget ≤ larger → IsSameWithLarger A p input budget larger
same_with_larger A p input budget larger le =
    let e : budget + (larger - budget) ≡ larger = omega (arith, le) in
    subst (λ n. IsSameWithLarger A p input budget n) e (same A p input budget (larger - budget))
