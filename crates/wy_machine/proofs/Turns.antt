-- A turn, and what it made handed on: the recorder took all that was made so far.
use Rattle.std.proofs.Common.{◌≡◌, ◌∙◌, ℕ, Bool, List, [], ◌++◌, length, take, refl, sym, ap, subst, Result, Ok}
use Rattle.std.proofs.Math.Seq.{take-length}
use Rattle.std.proofs.lemmas.List.{append-nil}
use Rattle.std.proofs.lemmas.List.Elements.{All-append, All-nil}
use Rattle.wy_event.specs.Record.{Recorded}
use Rattle.wy_fitting.specs.Fits.{AllFit, Fits}
use Rattle.wy_kernel.specs.Program.{Program}
use Rattle.wy_operands.specs.Values.{Values}
use Rattle.wy_record.specs.declared.recorder.RecordError.{RecordError}
use Rattle.wy_state.specs.Agrees.{Comes, Shape}
use Rattle.wy_state.specs.declared.parts.Halt.{Halt}
use Rattle.wy_steps.specs.Sets.{nothing}
use Rattle.wy_steps.specs.State.{Outcome, State}
use Rattle.wy_work.specs.declared.task.Task.{Task}
use Rattle.wy_work.specs.declared.turn.Signal.{Signal}
use Rattle.wy_work.specs.Tasks.{Ends, MachineState, outcome_at, pushed}
use Rattle.wy_machine.specs.Ended.{events_in, events_of}
use Rattle.wy_machine.specs.Going.{signal_after}
use Rattle.wy_machine.specs.Shown.{HasRefused, HasTaken, Shown}
use Rattle.wy_machine.proofs.Ends.{at_end}
use Rattle.wy_machine.proofs.Going.{Before, stayed, turned}
use Rattle.wy_machine.proofs.Handing.{Parts, all_made, forgotten, handed_on, parts}

-- all that were made are handed on
abbrev pub emptied : MachineState → MachineState
emptied m = record m { state = record m.state { keeps = m.state.events; kept = [] } }

module _ (keeps compares : Bool) (frame : Recorded → List ℕ) (p : Program) (first : Shown) (o : Outcome nothing Values) where
  -- a machine between two turns, and a recorder that took what was handed on
  pub record Stands (m : MachineState) (x : Signal) (now : Shown) : Type 0 where
    pub before : Before p m x o
    pub taken : HasTaken keeps compares frame first now (take m.state.keeps (events_of o))
    pub fit : AllFit (take m.state.keeps (events_of o))

  module _ (m n : MachineState) (f : Task) (x y : Signal) (r : Result (Unit {0}) Halt) (is : signal_after r ≡ Ok y) (ends : Ends p f (outcome_at x m.values) m r n) (old new : Shown) (h : Stands (pushed f m) x old) where
    here : Before p n y o
    here = turned p m n f x r y is ends o h.before

    made : Parts n.state o
    made = parts p n y o here

    handed : take m.state.keeps (events_of o) ≡ made.before
    handed = ap (λ k. take k (events_of o)) (sym (stayed p m n f x r y is ends)) ∙ handed_on n.state o made

    taken_before : HasTaken keeps compares frame first old made.before
    taken_before = subst (HasTaken keeps compares frame first old) handed h.taken

    -- the events of the turn were taken
    pub went_on : ((before : List Recorded) → HasTaken keeps compares frame first old before → HasTaken keeps compares frame first new (before ++ n.state.kept)) → AllFit n.state.kept → Stands (emptied n) y new
    went_on takes fits = record {
      before = forgotten p n y o here;
      taken = subst (HasTaken keeps compares frame first new) (sym (all_made n.state o made)) (takes made.before taken_before);
      fit = subst AllFit (sym (all_made n.state o made)) (All-append Fits made.before n.state.kept (subst AllFit handed h.fit) fits);
    }

    -- one of them was refused
    pub was_refused : (e : RecordError) → ((before rest : List Recorded) → HasTaken keeps compares frame first old before → HasRefused keeps compares frame first new ((before ++ n.state.kept) ++ rest) e) → HasRefused keeps compares frame first new (events_of o) e
    was_refused e refuses = subst (λ (es : List Recorded). HasRefused keeps compares frame first new es e) (sym made.are) (refuses made.before made.rest taken_before)

  -- at the start nothing was handed on
  pub starts_so : (m : MachineState) (x : Signal) (now : Shown) → Before p m x o → m.state.keeps ≡ 0 → HasTaken keeps compares frame first now [] → Stands m x now
  starts_so m x now before none taken =
      let nothing_yet : take m.state.keeps (events_of o) ≡ [] = ap (λ k. take k (events_of o)) none in
      record {
        before = before;
        taken = subst (HasTaken keeps compares frame first now) (sym nothing_yet) taken;
        fit = subst AllFit (sym nothing_yet) (All-nil Fits);
      }

  -- at the end all was handed on
  module _ (m : MachineState) (x : Signal) (now : Shown) (none : m.state.kept ≡ []) (c : Comes p m.state (outcome_at x m.values) o) where
    made_all : events_of o ≡ c.agrees.kept.0
    made_all = ap events_in (at_end p m.state m.values x o c) ∙ c.agrees.kept.2 ∙ ap (λ es. c.agrees.kept.0 ++ es) none ∙ append-nil c.agrees.kept.0

    handed_all : take m.state.keeps (events_of o) ≡ events_of o
    handed_all = ap (take m.state.keeps) made_all ∙ ap (λ k. take k c.agrees.kept.0) (sym c.agrees.kept.1) ∙ take-length c.agrees.kept.0 ∙ sym made_all

    pub took_all : HasTaken keeps compares frame first now (take m.state.keeps (events_of o)) → HasTaken keeps compares frame first now (events_of o)
    took_all taken = subst (HasTaken keeps compares frame first now) handed_all taken

    pub fit_all : AllFit (take m.state.keeps (events_of o)) → AllFit (events_of o)
    fit_all fit = subst AllFit handed_all fit
