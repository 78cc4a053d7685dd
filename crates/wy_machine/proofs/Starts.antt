-- What stands before the first step is the start of the definition, and the whole run is before it.
use Rattle.std.proofs.Common.{◌≡◌, ◌∙◌, ◌<◌, ℕ, List, [], ◌∷◌, length, replicate, get_or, Some, refl, sym, ap, subst, arith}
use Rattle.std.specs.Prelude.{None as Absent}
use Rattle.std.proofs.lemmas.List.{get_or-replicate, length-replicate}
use Rattle.wy_kernel.specs.Program.{Program, class, method}
use Rattle.wy_value.specs.declared.value.Value.{Value}
use Rattle.wy_event.specs.declared.record.Cover.{Cover}
use Rattle.wy_event.specs.declared.record.Slot.TheVariants.{Field, Elem}
use Rattle.wy_event.specs.Record.{Recorded}
use Rattle.wy_kernel.specs.View.{present}
use Rattle.wy_heap.specs.declared.heap.Heap.{Heap}
use Rattle.wy_heap.specs.Changes.{IsNew}
use Rattle.wy_steps.specs.Sets.{nothing}
use Rattle.wy_steps.specs.State.{Carried, Run, Outcome, Done, Left, Stopped, go_on, ◌>>=◌, ◌>>◌, return}
use Rattle.wy_kernel.specs.Limits.{depth_limit}
use Rattle.wy_steps.specs.Steps.{held_of, has_init}
use Rattle.wy_meaning.specs.World.{World}
use Rattle.wy_meaning.specs.Place.{initialize}
use Rattle.wy_meaning.specs.Run.{start, outcome, main_run, world}
use Rattle.wy_calls.specs.Calls.{nothing_runs}
use Rattle.wy_state.specs.Agrees.{Agrees, Comes}
use Rattle.wy_state.specs.Seen.{blank, covered_of}
use Rattle.wy_work.specs.declared.task.Task.TheVariants as task
use Rattle.wy_work.specs.declared.task.Step.TheVariants as step
use Rattle.wy_operands.specs.Values.{Values}
use Rattle.wy_work.specs.Tasks.{MachineState, goes, main_called, pushed}
use Rattle.wy_work.proofs.Runs.{world_program}
use Rattle.wy_machine.specs.Start.{untouched}
use Rattle.wy_machine.specs.Ended.{whole}

pub starts : (p : Program) (input : List ℕ) (budget : ℕ) (h : Heap) → IsNew p h → (cs : List Cover) (n : ℕ) → cs ≡ replicate n untouched → (keeps : ℕ) (kept : List Recorded) → keeps ≡ 0 → kept ≡ [] →
    Agrees p (record { calls = nothing_runs; heap = h; entered = 0; events = 0; uses = 0; left = budget; elements = 0; units = 0; output = []; input = input; covers = cs; throws = []; keeps = keeps; kept = kept }) (start input budget)
unfolding start held_of has_init present
starts p input budget h new cs n same keeps kept first none = record {
  events = refl;
  kept = ([], sym first, sym none);
  uses = refl;
  left = refl;
  elements = refl;
  units = refl;
  output = refl;
  input = refl;
  active = refl;
  frame = refl;
  covers = untouched_all cs same;
  throws = refl;
  fall = tt;
  locals = λ f i v is. absurd (nothing_held is);
  fresh_locals = λ f i le. refl;
  same_plan = new.same_plan;
  slots = λ x v is. let none = new.slots x in cc;
  fresh_statics = λ f is. refl;
  unmade = λ k le. record {
    no_code = new.codes k;
    no_size = new.sizes k;
    no_text = new.texts k;
    no_field = λ f. new.slots (Field k f);
    no_element = λ i. new.slots (Elem k i);
    fresh_field = λ f. refl;
    fresh_element = λ i. refl;
  };
  codes = λ k c is. let none = new.codes k in cc;
  sizes = λ k c is. let none = new.sizes k in cc;
  texts = λ k us is. let none = new.texts k in cc;
  begun = λ c. sym (new.classes c);
}
  where
    nothing_held : {v : Value} → Absent ≡ Some v → ⊥
    nothing_held is = cc

    within : (cs : List Cover) → cs ≡ replicate n untouched → (k : ℕ) → k < length cs → k < n
    within cs same k below = omega (arith, below, ap length same, length-replicate n untouched)

    untouched_all : (cs : List Cover) → cs ≡ replicate n untouched → (k : ℕ) → k < length cs → (start {A = nothing} input budget).coverage k ≡ covered_of (get_or cs k blank)
    untouched_all cs same k below = rw (same, get_or-replicate n k untouched blank (within cs same k below)) refl

-- a prefix that leaves no value, and the rest
first_part : (x : Outcome nothing (Unit {0})) (k : Run nothing (Carried nothing)) →
    go_on (go_on x (λ u. return [])) (λ (vs : Values) s. go_on (k s) (λ v. return (v ∷ vs))) ≡ go_on (go_on x (λ u. k)) (λ v. return (v ∷ []))
unfolding go_on return
first_part (Done u s) k = refl
first_part (Left why s) k = refl
first_part (Stopped why s) k = refl

module _ (p : Program) (input : List ℕ) (budget : ℕ) where
  abbrev w : World nothing
  w = world p depth_limit

  abbrev begun : Program → Outcome nothing (Unit {0})
  begun q = initialize w (class q (method q q.main).class).site (method q q.main).class (start input budget)

  in_turn : go_on (go_on (begun p) (λ u. return [])) (λ (vs : Values) s. go_on (main_called w s) (λ v. return (v ∷ vs))) ≡ whole p input budget
  unfolding outcome main_run ◌>>=◌ ◌>>◌
  in_turn = ap (λ q. go_on (go_on (begun q) (λ u. return [])) (λ (vs : Values) s. go_on (main_called w s) (λ v. return (v ∷ vs)))) (sym (world_program p depth_limit)) ∙ first_part (begun w.program) (main_called w)

  -- all of the run is before a machine that starts
  pub all_before : (m : MachineState) → Agrees p m.state (start input budget) → m.depth ≡ depth_limit → m.values ≡ [] →
      m.work ≡ task.Plain (step.Initialize (method p p.main).class (class p (method p p.main).class).site) ∷ task.Plain step.Main ∷ [] → Comes p m.state (goes p m) (whole p input budget)
  unfolding go_on return
  all_before m agrees deep none work = record {
    state = start input budget;
    agrees = agrees;
    is = rw (work, none, deep) in_turn;
  }

  -- where two frames were pushed
  pub pushed_before : (m n l : MachineState) (c site : ℕ) → Agrees p m.state (start input budget) → m.depth ≡ depth_limit → m.values ≡ [] → m.work ≡ [] →
      c ≡ (method p p.main).class → site ≡ (class p c).site → n ≡ pushed (task.Plain step.Main) m → l ≡ pushed (task.Plain (step.Initialize c site)) n → Comes p l.state (goes p l) (whole p input budget)
  pushed_before m n l c site agrees deep none work same at first second =
      subst (λ x. Comes p x.state (goes p x) (whole p input budget)) (sym (second ∙ ap (pushed (task.Plain (step.Initialize c site))) first))
      (all_before (pushed (task.Plain (step.Initialize c site)) (pushed (task.Plain step.Main) m)) agrees deep none (rw (work, at, same) refl))
