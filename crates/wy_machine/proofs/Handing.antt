-- What was made of the events of a run begins them; what was handed on begins that.
use Rattle.std.proofs.Common.{◌≡◌, ◌∙◌, ℕ, List, [], ◌++◌, length, map, reverse, take, append_assoc, refl, sym, ap, subst}
use Rattle.std.proofs.Math.Seq.{take-append_seam}
use Rattle.std.proofs.lemmas.List.{append-nil, length-map, length-reverse, map-append, reverse-append}
use Rattle.wy_event.specs.Record.{Recorded}
use Rattle.wy_kernel.specs.Program.{Program}
use Rattle.wy_meaning.specs.Run.{end}
use Rattle.wy_operands.specs.Values.{Values}
use Rattle.wy_state.specs.Agrees.{Agrees, Shape}
use Rattle.wy_steps.specs.Sets.{nothing}
use Rattle.wy_steps.specs.State.{Noted, Outcome, State}
use Rattle.wy_work.specs.declared.turn.Signal.{Signal}
use Rattle.wy_work.specs.Tasks.{MachineState, after, around, outcome_at}
use Rattle.law_added.specs.Added.{Begin}
use Rattle.law_added.proofs.Tasks.{adds_to_records}
use Rattle.wy_machine.specs.Ended.{events_in, events_of}
use Rattle.wy_machine.proofs.Ends.{end_at}
use Rattle.wy_machine.proofs.Going.{Before}

-- the events of a run: those that were handed on, those that are kept, and those that come
pub record Parts (m : Shape) (o : Outcome nothing Values) : Type 0 where
  pub before : List Recorded
  pub rest : List Recorded
  pub handed : length before ≡ m.keeps
  pub made : length (before ++ m.kept) ≡ m.events
  pub are : events_of o ≡ (before ++ m.kept) ++ rest

module _ (p : Program) (m : MachineState) (x : Signal) (o : Outcome nothing Values) (b : Before p m x o) where
  begins : Begin b.state.noted (end o).noted
  begins =
      subst (λ (s : State nothing). Begin s.noted (end o).noted) (end_at b.state m.values x)
      (subst (λ (q : Outcome nothing Values). Begin (end (outcome_at x m.values b.state)).noted (end q).noted) b.is (adds_to_records p (around m) m.work (outcome_at x m.values b.state)))

  made_of : (more noted all : List (Noted nothing)) → all ≡ more ++ noted → map (λ e. e.event) (reverse all) ≡ map (λ e. e.event) (reverse noted) ++ map (λ e. e.event) (reverse more)
  made_of more noted all is =
      ap (λ es. map (λ e. e.event) (reverse es)) is ∙ ap (map (λ e. e.event)) (reverse-append more noted) ∙ map-append (λ e. e.event) (reverse noted) (reverse more)

  many : length (events_in b.state) ≡ m.state.events
  many = length-map (reverse b.state.noted) (λ e. e.event) ∙ length-reverse b.state.noted ∙ b.agrees.events

  pub parts : Parts m.state o
  parts = record {
    before = b.agrees.kept.0;
    rest = map (λ e. e.event) (reverse begins.0);
    handed = b.agrees.kept.1;
    made = ap length (sym b.agrees.kept.2) ∙ many;
    are = made_of begins.0 b.state.noted (end o).noted begins.1 ∙ ap (λ es. es ++ map (λ e. e.event) (reverse begins.0)) b.agrees.kept.2;
  }

  -- nothing is kept once all are handed on
  pub forgotten : Before p (record m { state = record m.state { keeps = m.state.events; kept = [] } }) x o
  forgotten = record {
    state = b.state;
    agrees = record {
      events = b.agrees.events;
      kept = (events_in b.state, many, sym (append-nil (events_in b.state)));
      uses = b.agrees.uses;
      left = b.agrees.left;
      elements = b.agrees.elements;
      units = b.agrees.units;
      output = b.agrees.output;
      input = b.agrees.input;
      active = b.agrees.active;
      frame = b.agrees.frame;
      covers = b.agrees.covers;
      throws = b.agrees.throws;
      fall = b.agrees.fall;
      locals = b.agrees.locals;
      fresh_locals = b.agrees.fresh_locals;
      same_plan = b.agrees.same_plan;
      slots = b.agrees.slots;
      fresh_statics = b.agrees.fresh_statics;
      unmade = b.agrees.unmade;
      codes = b.agrees.codes;
      sizes = b.agrees.sizes;
      texts = b.agrees.texts;
      begun = b.agrees.begun;
    };
    is = b.is;
  }

module _ (m : Shape) (o : Outcome nothing Values) (q : Parts m o) where
  front : (xs ys : List Recorded) (n : ℕ) → length xs ≡ n → take n (xs ++ ys) ≡ xs
  front xs ys n is = ap (λ k. take k (xs ++ ys)) (sym is) ∙ take-append_seam xs ys

  pub handed_on : take m.keeps (events_of o) ≡ q.before
  handed_on = ap (take m.keeps) (q.are ∙ append_assoc q.before m.kept q.rest) ∙ front q.before (m.kept ++ q.rest) m.keeps q.handed

  pub all_made : take m.events (events_of o) ≡ q.before ++ m.kept
  all_made = ap (take m.events) q.are ∙ front (q.before ++ m.kept) q.rest m.events q.made
