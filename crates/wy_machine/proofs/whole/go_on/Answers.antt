use Rattle.std.proofs.Common.{◌≡◌, ◌∙◌, ◌++◌, arith, List, [], ◌∷◌, Err, ap, ap₂, map, subst, reverse, sym}
use Rattle.std.proofs.lemmas.List.{append-nil, reverse-append}
use Rattle.std.proofs.lemmas.Result.{err_from_is_err_and}
use Rattle.wy_event.specs.Record.{Recorded, recorded}
use Rattle.wy_fitting.specs.Fits.{AllFit}
use Rattle.wy_kernel.specs.Parts.{program_of}
use Rattle.wy_steps.specs.Sets.{nothing}
use Rattle.wy_steps.specs.State.{Outcome}
use Rattle.wy_operands.specs.Values.{Values}
use Rattle.wy_work.specs.Tasks.{MachineState, pushed}
use Rattle.wy_machine.specs.Going.{ComesTo}
use Rattle.wy_machine.specs.Handed.{seen}
use Rattle.wy_machine.specs.Ended.{events_of}
use Rattle.wy_machine.specs.Shown.{HasRefused, HasTaken, Shown, TakesRun, shown}
use Rattle.wy_state.specs.Agrees.{Comes}
use Rattle.wy_work.specs.Tasks.{outcome_at}
use Rattle.wy_work.specs.declared.turn.Signal.{Signal}
use Rattle.wy_machine.proofs.Going.{Before, ended, halted, nothing_popped}
use Rattle.wy_machine.proofs.Taking.{nothing_taken}
use Rattle.wy_machine.proofs.Turns.{Stands, emptied, fit_all, starts_so, took_all, was_refused, went_on}
use Rattle.wy_machine.proofs.whole.go_on.Given as given
use Rattle.wy_machine.proofs.whole.go_on.Goals as goal

module _ (g : given.Over) where
  abbrev see : g.row.R.Denot → Shown
  see = shown g.R.Recorder.phase g.R.Recorder.kept g.R.Recorder.expected g.R.Recorder.position g.R.Recorder.faults g.R.Recorder.counts g.R.Recorder.mirrors

pub loop-init : goal.loop-init
loop-init g c = record {
  none = c.requires.none;
  sound = c.requires.sound;
  recording = c.requires.recording;
  stands = λ o start. starts_so g.R.Recorder.keeps g.R.Recorder.compares g.R.Recorder.frame (program_of c.args.on.now.program.now) (see g c.args.recorder.now) o (seen c.args.machine.now) _ (see g c.args.recorder.now) start c.requires.first
      (nothing_taken g.R.Recorder.keeps g.R.Recorder.compares g.R.Recorder.frame (see g c.args.recorder.now) c.requires.recording c.requires.position);
}

pub loop-preserved : goal.loop-preserved
loop-preserved g c =
    let rest : MachineState = seen (record c.loop.machine { work = c.pop.new.self }) in
    let same : seen c.loop.machine ≡ pushed c.in-Some.task rest = ap (λ fs. record rest { work = fs }) (ap reverse c.in-Some.ensures.items ∙ reverse-append c.pop.new.self.items (c.in-Some.task ∷ [])) in
    let n : MachineState = seen c.turn.new.self in
    let made : c.as_slice-made.result.now ≡ c.turn.new.self.state.register.events.items = c.as_slice-made.ensures.value in
    let noted = c.in_ok-note_all.ensures {u = tt} in
    let empty : seen (record c.turn.new.self { state = record c.turn.new.self.state { register = c.forget.new.self } }) ≡ emptied n =
    ap₂ (λ k es. record n { state = record n.state { keeps = k; kept = es } }) c.forget.ensures.handed (ap (map recorded) c.forget.ensures.events) in
    record {
      none = ap (map recorded) c.forget.ensures.events;
      sound = noted.sound;
      recording = noted.recording;
      stands = λ o start.
          subst (λ m. Stands g.R.Recorder.keeps g.R.Recorder.compares g.R.Recorder.frame (program_of c.args.on.now.program.now) (see g c.args.recorder.now) o m c.in_ok-signal.signal (see g c.note_all.new.recorder)) (sym empty)
          (went_on g.R.Recorder.keeps g.R.Recorder.compares g.R.Recorder.frame (program_of c.args.on.now.program.now) (see g c.args.recorder.now) o rest n c.in-Some.task c.loop.signal c.in_ok-signal.signal c.turn.result (sym c.signal_of.ensures ∙ c.in_ok-signal.was) c.turn.ensures.goes (see g c.loop.recorder) (see g c.note_all.new.recorder)
          (subst (λ m. Stands g.R.Recorder.keeps g.R.Recorder.compares g.R.Recorder.frame (program_of c.args.on.now.program.now) (see g c.args.recorder.now) o m c.loop.signal (see g c.loop.recorder)) same (c.loop.invariant.stands o start))
          (λ before taken. subst (λ es. HasTaken g.R.Recorder.keeps g.R.Recorder.compares g.R.Recorder.frame (see g c.args.recorder.now) (see g c.note_all.new.recorder) (before ++ map recorded es)) made (noted.takes (see g c.args.recorder.now) before taken))
          (subst (λ es. AllFit (map recorded es)) made c.events_fit.ensures));
    }

pub returns-in_err-note_all-clause-takes : goal.returns-in_err-note_all-clause-takes
returns-in_err-note_all-clause-takes g c o start =
    let rest : MachineState = seen (record c.loop.machine { work = c.pop.new.self }) in
    let same : seen c.loop.machine ≡ pushed c.in-Some.task rest = ap (λ fs. record rest { work = fs }) (ap reverse c.in-Some.ensures.items ∙ reverse-append c.pop.new.self.items (c.in-Some.task ∷ [])) in
    let h = err_from_is_err_and c.from_residual-in_err-note_all.result c.from_residual-in_err-note_all.ensures.1 in
    let made : c.as_slice-made.result.now ≡ c.turn.new.self.state.register.events.items = c.as_slice-made.ensures.value in
    rw (h.1, h.2) (was_refused g.R.Recorder.keeps g.R.Recorder.compares g.R.Recorder.frame (program_of c.args.on.now.program.now) (see g c.args.recorder.now) o rest (seen c.turn.new.self) c.in-Some.task c.loop.signal c.in_ok-signal.signal c.turn.result (sym c.signal_of.ensures ∙ c.in_ok-signal.was) c.turn.ensures.goes (see g c.loop.recorder) (see g c.note_all.new.recorder)
    (subst (λ m. Stands g.R.Recorder.keeps g.R.Recorder.compares g.R.Recorder.frame (program_of c.args.on.now.program.now) (see g c.args.recorder.now) o m c.loop.signal (see g c.loop.recorder)) same (c.loop.invariant.stands o start)) c.in_err-note_all.field-0.0
    (λ before more taken. subst (λ es. HasRefused g.R.Recorder.keeps g.R.Recorder.compares g.R.Recorder.frame (see g c.args.recorder.now) (see g c.note_all.new.recorder) ((before ++ map recorded es) ++ more) c.in_err-note_all.field-0.0) made ((c.in_err-note_all.ensures {u = tt}).takes (see g c.args.recorder.now) before taken more)))

pub returns-in_default-clause-goes : goal.returns-in_default-clause-goes
returns-in_default-clause-goes g c o start =
    let none : c.loop.machine.work.items ≡ [] = nothing_popped c.pop.result c.loop.machine.work.items c.in_default.is (λ some. c.pop.ensures.variant.1 (omega (arith, some, c.loop.machine.work.ok))) in
    ended (program_of c.args.on.now.program.now) (seen c.loop.machine) c.loop.signal o (ap reverse none) (c.loop.invariant.stands o start).before

pub returns-in_default-clause-takes : goal.returns-in_default-clause-takes
returns-in_default-clause-takes g c o start =
    let none : c.loop.machine.work.items ≡ [] = nothing_popped c.pop.result c.loop.machine.work.items c.in_default.is (λ some. c.pop.ensures.variant.1 (omega (arith, some, c.loop.machine.work.ok))) in
    took_all g.R.Recorder.keeps g.R.Recorder.compares g.R.Recorder.frame (program_of c.args.on.now.program.now) (see g c.args.recorder.now) o (seen c.loop.machine) c.loop.signal (see g c.loop.recorder) c.loop.invariant.none (ended (program_of c.args.on.now.program.now) (seen c.loop.machine) c.loop.signal o (ap reverse none) (c.loop.invariant.stands o start).before) (c.loop.invariant.stands o start).taken

pub returns-in_default-clause-fits : goal.returns-in_default-clause-fits
returns-in_default-clause-fits g c o start =
    let none : c.loop.machine.work.items ≡ [] = nothing_popped c.pop.result c.loop.machine.work.items c.in_default.is (λ some. c.pop.ensures.variant.1 (omega (arith, some, c.loop.machine.work.ok))) in
    fit_all g.R.Recorder.keeps g.R.Recorder.compares g.R.Recorder.frame (program_of c.args.on.now.program.now) (see g c.args.recorder.now) o (seen c.loop.machine) c.loop.signal (see g c.loop.recorder) c.loop.invariant.none (ended (program_of c.args.on.now.program.now) (seen c.loop.machine) c.loop.signal o (ap reverse none) (c.loop.invariant.stands o start).before) (c.loop.invariant.stands o start).fit

pub returns-in_err-signal-clause-takes : goal.returns-in_err-signal-clause-takes
returns-in_err-signal-clause-takes g c o start =
    let h = err_from_is_err_and c.from_residual.result c.from_residual.ensures.1 in
    rw (h.1, h.2) (subst (λ e. TakesRun g.R.Recorder.keeps g.R.Recorder.compares g.R.Recorder.frame {X = Signal} (events_of o) (see g c.args.recorder.now) (Err e) (see g c.loop.recorder)) (sym (halted c.turn.result c.in_err-signal.field-0.0 (sym c.signal_of.ensures ∙ c.in_err-signal.was)))
    ((seen c.loop.machine).state.keeps, (c.loop.invariant.stands o start).taken))

pub returns-clause-takes : goal.returns-clause-takes
returns-clause-takes g c o start = ((seen c.loop.machine).state.keeps, (c.loop.invariant.stands o start).taken)
