-- The run of a program that carries nothing is the run that carries sets, with the sets taken away.
use Rattle.std.proofs.Common.{◌≡◌, ℕ, zero, suc, List, [], ◌∷◌, ◌++◌, length, map, Option, refl, sym, ap, ap₂, ◌∙◌, subst}
use Rattle.std.specs.Prelude.{None as Absent, ◌-◌}
use Rattle.std.proofs.lemmas.List.{map-append, length-map}
use mathlib.Core.List.{reverse, reverse-cons}
use Rattle.wy_kernel.specs.Program.{Program, body, init_body}
use Rattle.wy_steps.specs.Sets.{Sets, nothing}
use Rattle.wy_steps.specs.State.{Carried, Noted, State, Reason, Jumped, Returned, Threw, Outcome, Done, Left, Stopped, Run}
use Rattle.wy_kernel.specs.Limits.{depth_limit}
use Rattle.wy_meaning.specs.World.{World}
use Rattle.wy_meaning.specs.Call.{initialization}
use Rattle.wy_meaning.specs.Run.{call_body, init_block, world, main_run, start, outcome, end, stop_number, last_of_stop, stop_of, last_of, last_of_reason, covers, Tail, tail_of, history, events, output, tail}
use Rattle.law_carried.proofs.Erased.{value_erased, all_erased, option_erased, reason_erased, noted_erased, state_erased, erased, plain, Erases, erases_stop}
use Rattle.law_carried.proofs.Alike.{erases_call_body, erases_init_block, erases_initialization, erases_main_run}

module _ (A : Sets) (p : Program) where
  record WorldErases (depth : ℕ) : Type 0 where
    call : (site m : ℕ) (r : Option (Carried A)) (args : List (Carried A)) → Erases A (value_erased A) ((world {A = A} p depth).call site m r args) ((world {A = nothing} p depth).call site m (option_erased A r) (all_erased A args))
    enter : (site c : ℕ) → Erases A (plain A) ((world {A = A} p depth).enter site c) ((world {A = nothing} p depth).enter site c)

  world_is : (B : Sets) (depth : ℕ) → world {A = B} p depth ≡ record { program = p; call = (world {A = B} p depth).call; enter = (world {A = B} p depth).enter }
  unfolding world
  world_is B zero = refl
  world_is B (suc depth) = refl

  abbrev of_parts : (B : Sets) → ℕ → World B
  of_parts B depth = record { program = p; call = (world {A = B} p depth).call; enter = (world {A = B} p depth).enter }

  -- what holds of two worlds by their parts holds of the two
  at_worlds : (depth : ℕ) (R : World A → World nothing → Type 0) → R (of_parts A depth) (of_parts nothing depth) → R (world p depth) (world p depth)
  at_worlds depth R h = subst (λ v. R (world p depth) v) (sym (world_is nothing depth)) (subst (λ v. R v (of_parts nothing depth)) (sym (world_is A depth)) h)

  abbrev call_body_of : {B : Sets} → World B → ℕ → ℕ → Option (Carried B) → List (Carried B) → Run B (Carried B)
  call_body_of v site m r args = call_body v site m (body p m) r args

  abbrev init_of : {B : Sets} → World B → ℕ → ℕ → Run B Unit
  init_of v site c = initialization v site c (init_block v (init_body p c))

  world_erases : (depth : ℕ) → WorldErases depth
  unfolding world
  world_erases zero = record { call = λ site m r args. erases_stop A _; enter = λ site c. erases_stop A _ }
  world_erases (suc depth) =
      let h = world_erases depth in
      record {
        call = λ site m r args. at_worlds depth (λ v v'. Erases A (value_erased A) (call_body_of v site m r args) (call_body_of v' site m (option_erased A r) (all_erased A args)))
            (erases_call_body A p _ _ _ _ h.call h.enter site m (body p m) r args);
        enter = λ site c. at_worlds depth (λ v v'. Erases A (plain A) (init_of v site c) (init_of v' site c))
            (erases_initialization A p _ _ _ _ h.call h.enter site c _ _ (erases_init_block A p _ _ _ _ h.call h.enter (init_body p c)));
      }

  outcome_erased : (input : List ℕ) (budget : ℕ) → outcome {A = nothing} p input budget ≡ erased A (value_erased A) (outcome {A = A} p input budget)
  unfolding outcome start
  outcome_erased input budget =
      let h = world_erases depth_limit in
      (at_worlds depth_limit (λ v v'. Erases A (value_erased A) (main_run v) (main_run v')) (erases_main_run A p _ _ _ _ h.call h.enter)).by (start input budget)

  end_erased : (o : Outcome A (Carried A)) → end (erased A (value_erased A) o) ≡ state_erased A (end o)
  unfolding end
  end_erased (Done x s) = refl
  end_erased (Left why s) = refl
  end_erased (Stopped why s) = refl

  events_erased : (noted : List (Noted A)) → map (λ (e : Noted nothing). e.event) (reverse (map (noted_erased A) noted)) ≡ map (λ (e : Noted A). e.event) (reverse noted)
  events_erased [] = refl
  events_erased (e ∷ rest) =
      ap (map (λ (x : Noted nothing). x.event)) (reverse-cons (noted_erased A e) (map (noted_erased A) rest))
      ∙ map-append (λ (x : Noted nothing). x.event) (reverse (map (noted_erased A) rest)) (noted_erased A e ∷ [])
      ∙ ap (λ l. l ++ e.event ∷ []) (events_erased rest)
      ∙ sym (map-append (λ (x : Noted A). x.event) (reverse rest) (e ∷ []))
      ∙ ap (map (λ (x : Noted A). x.event)) (sym (reverse-cons e rest))

  final : (input : List ℕ) (budget : ℕ) → end (outcome {A = nothing} p input budget) ≡ state_erased A (end (outcome {A = A} p input budget))
  final input budget = ap end (outcome_erased input budget) ∙ end_erased (outcome {A = A} p input budget)

  pub same_events : (input : List ℕ) (budget : ℕ) → events A p input budget ≡ events nothing p input budget
  unfolding events history
  same_events input budget = sym (ap (λ (s : State nothing). map (λ (e : Noted nothing). e.event) (reverse s.noted)) (final input budget) ∙ events_erased (end (outcome {A = A} p input budget)).noted)

  pub same_output : (input : List ℕ) (budget : ℕ) → output A p input budget ≡ output nothing p input budget
  unfolding output
  same_output input budget = sym (ap (λ (s : State nothing). s.output) (final input budget))

  last_same : (why : Reason A) → last_of_reason (reason_erased A why) ≡ last_of_reason why
  unfolding last_of_reason
  last_same (Jumped target e) = refl
  last_same (Returned e v) = refl
  last_same (Threw e v) = refl

  tail_with : (budget stop : ℕ) (last : Option ℕ) (events : ℕ) (s : State A) → Tail
  tail_with budget stop last events s = record { coverage = covers s.coverage 0 p.statements; stop = stop; last = last; steps = budget - s.left; events = events; uses = s.uses; output = length s.output }

  tail_erased : (budget : ℕ) (o : Outcome A (Carried A)) → tail_of p budget (erased A (value_erased A) o) ≡ tail_of p budget o
  unfolding tail_of end stop_of last_of tail_with
  tail_erased budget (Done x s) = ap (λ n. tail_with budget 0 Absent n s) (length-map s.noted (noted_erased A))
  tail_erased budget (Left why s) = ap₂ (λ l n. tail_with budget 1 l n s) (last_same why) (length-map s.noted (noted_erased A))
  tail_erased budget (Stopped why s) = ap (λ n. tail_with budget (stop_number why) (last_of_stop why) n s) (length-map s.noted (noted_erased A))

  pub same_tail : (input : List ℕ) (budget : ℕ) → tail A p input budget ≡ tail nothing p input budget
  unfolding tail
  same_tail input budget = sym (ap (tail_of p budget) (outcome_erased input budget) ∙ tail_erased budget (outcome {A = A} p input budget))
