-- What is kept of a whole run is that of the state at its end.
use Rattle.std.proofs.Common.{◌≡◌, ◌∙◌, ◌<◌, ◌+◌, ◌-◌, ℕ, suc, true, List, [], ◌∷◌, length, map, reverse, get_or, refl, sym, ap, ap₂, arith}
use Rattle.wy_kernel.specs.Program.{Program}
use Rattle.wy_event.specs.declared.record.Cover.{Cover}
use Rattle.wy_kernel.specs.View.{present}
use Rattle.wy_steps.specs.Sets.{nothing}
use Rattle.wy_steps.specs.State.{Carried, State, Covered, Outcome, Done, Left, Stopped, go_on, return, leave, stop}
use Rattle.wy_meaning.specs.Run as meaning
use Rattle.wy_meaning.specs.Kept as kept
use Rattle.wy_meaning.specs.Kept.{kept_tail, kept_thrown}
use Rattle.wy_operands.specs.Values.{Values}
use Rattle.wy_state.specs.declared.parts.Limit.TheVariants as limit
use Rattle.wy_state.specs.declared.parts.Reason.TheVariants as reason
use Rattle.wy_state.specs.Agrees.{Comes, Shape}
use Rattle.wy_state.specs.Seen.{blank, covered_of}
use Rattle.wy_work.specs.declared.turn.Signal.{Signal}
use Rattle.wy_work.specs.declared.turn.Signal.TheVariants as signal
use Rattle.wy_work.specs.Tasks.{outcome_at}
use Rattle.wy_machine.specs.Ended.{IsEndFor, IsEndOf, events_of, last_thrown, whole}
use Rattle.wy_machine.specs.Going.{last_at, stop_at}
use Rattle.wy_machine.specs.declared.ended.Ended.{Ended}

-- the covers of a row of statements, from a number on
covers_from : (f : ℕ → Covered) (i : ℕ) (cs : List Cover) → ((n : ℕ) → n < length cs → f (i + n) ≡ covered_of (get_or cs n blank)) → meaning.covers f i (length cs) ≡ map covered_of cs
unfolding meaning.covers
covers_from f i [] each = refl
covers_from f i (c ∷ cs) each =
    let first : f i ≡ covered_of c = ap f (omega arith) ∙ each 0 (omega arith) in
    ap₂ (λ x xs. x ∷ xs) first (covers_from f (suc i) cs (λ n below. ap f (omega arith) ∙ each (suc n) (omega (arith, below))))

-- ---- how it ended, by the signal

module _ (s : State nothing) (vs : Values) where
  pub end_at : (x : Signal) → meaning.end (outcome_at x vs s) ≡ s
  unfolding meaning.end return leave stop
  end_at signal.Going = refl
  end_at (signal.Left why) = refl
  end_at (signal.Stopped why) = refl

  pub stop_is : (x : Signal) → meaning.stop_of (outcome_at x vs s) ≡ stop_at x
  unfolding meaning.stop_of return leave stop
  stop_is signal.Going = refl
  stop_is (signal.Left why) = refl
  stop_is (signal.Stopped why) = refl

  pub last_is : (x : Signal) → meaning.last_of (outcome_at x vs s) ≡ last_at x
  unfolding meaning.last_of meaning.last_of_reason meaning.last_of_stop return leave stop
  last_is signal.Going = refl
  last_is (signal.Left (reason.Jumped target e)) = refl
  last_is (signal.Left (reason.Returned e v)) = refl
  last_is (signal.Left (reason.Threw e v)) = refl
  last_is (signal.Stopped limit.Steps) = refl
  last_is (signal.Stopped limit.Events) = refl
  last_is (signal.Stopped limit.Uses) = refl
  last_is (signal.Stopped limit.Elements) = refl
  last_is (signal.Stopped limit.Units) = refl
  last_is (signal.Stopped limit.Output) = refl
  last_is (signal.Stopped limit.Depth) = refl
  last_is (signal.Stopped limit.Unassigned) = refl
  last_is (signal.Stopped limit.FellOff) = refl
  last_is (signal.Stopped (limit.InitFailed last)) = refl

-- ---- what is kept

module _ (p : Program) (m : Shape) (vs : Values) (x : Signal) (o : Outcome nothing Values) (c : Comes p m (outcome_at x vs) o) where
  pub at_end : meaning.end o ≡ c.state
  at_end = ap meaning.end (sym c.is) ∙ end_at c.state vs x

  pub kept_of : (steps : ℕ) (e : Ended) → length m.covers ≡ p.statements → e.output.items ≡ m.output → e.tail.coverage.statements ≡ m.covers → e.tail.stop ≡ stop_at x → present e.tail.last ≡ last_at x →
      e.tail.steps ≡ steps - m.left → e.tail.events ≡ m.events → e.tail.uses ≡ m.uses → e.tail.output ≡ length m.output → kept_thrown e.thrown ≡ last_thrown c.state (last_at x) → IsEndFor p steps o e
  unfolding meaning.tail_of kept_tail kept.covered_of
  kept_of steps e many output coverage stopping last taken events uses printed thrown = record {
    output = output ∙ sym c.agrees.output ∙ ap (λ (s : State nothing). s.output) (sym at_end);
    tail = rw (coverage, stopping, last, taken, events, uses, printed, at_end, stopped, last_one, c.agrees.left, c.agrees.events, c.agrees.uses, c.agrees.output, ← many, covered) refl;
    thrown = thrown ∙ ap₂ last_thrown (sym at_end) (sym last_one);
  }
    where
      stopped : meaning.stop_of o ≡ stop_at x
      stopped = ap meaning.stop_of (sym c.is) ∙ stop_is c.state vs x

      last_one : meaning.last_of o ≡ last_at x
      last_one = ap meaning.last_of (sym c.is) ∙ last_is c.state vs x

      covered : meaning.covers c.state.coverage 0 (length m.covers) ≡ map covered_of m.covers
      covered = covers_from c.state.coverage 0 m.covers (λ n below. ap c.state.coverage (omega arith) ∙ c.agrees.covers n below)

-- ---- the whole run: what ends it leaves what the run of the program leaves

module _ (p : Program) (input : List ℕ) (steps : ℕ) where
  same_end : (x : Outcome nothing (Carried nothing)) → meaning.end (go_on x (λ v. return (v ∷ []))) ≡ meaning.end x
  unfolding meaning.end go_on return
  same_end (Done v s) = refl
  same_end (Left why s) = refl
  same_end (Stopped why s) = refl

  same_last : (x : Outcome nothing (Carried nothing)) → meaning.last_of (go_on x (λ v. return (v ∷ []))) ≡ meaning.last_of x
  unfolding meaning.last_of go_on return
  same_last (Done v s) = refl
  same_last (Left why s) = refl
  same_last (Stopped why s) = refl

  same_tail : (x : Outcome nothing (Carried nothing)) → meaning.tail_of p steps (go_on x (λ v. return (v ∷ []))) ≡ meaning.tail_of p steps x
  unfolding meaning.tail_of meaning.end meaning.stop_of meaning.last_of go_on return
  same_tail (Done v s) = refl
  same_tail (Left why s) = refl
  same_tail (Stopped why s) = refl

  pub all_events : events_of (whole p input steps) ≡ meaning.events nothing p input steps
  unfolding meaning.events meaning.history
  all_events = ap (λ (s : State nothing). map (λ e. e.event) (reverse s.noted)) (same_end (meaning.outcome p input steps))

  pub run_left : (e : Ended) → IsEndFor p steps (whole p input steps) e → IsEndOf p input steps e
  unfolding meaning.output meaning.tail meaning.thrown meaning.events meaning.history meaning.tail_of
  run_left e is = record {
    output = is.output ∙ ap (λ (s : State nothing). s.output) (same_end (meaning.outcome p input steps));
    tail = is.tail ∙ same_tail (meaning.outcome p input steps);
    thrown = is.thrown ∙ ap₂ last_thrown (same_end (meaning.outcome p input steps)) (same_last (meaning.outcome p input steps));
  }
