use Rattle.std.proofs.Common.{◌≡◌, List, Ok, Err, ap, refl, subst, sym}
use Rattle.std.proofs.lemmas.Result.{err_from_is_err_and}
use Rattle.wy_event.specs.Record.{Recorded}
use Rattle.wy_fitting.specs.Fits.{AllFit}
use Rattle.wy_kernel.specs.Parts.{program_of}
use Rattle.wy_meaning.specs.Run.{events}
use Rattle.wy_operands.specs.Values.{Values}
use Rattle.wy_state.specs.Agrees.{Comes}
use Rattle.wy_steps.specs.Sets.{nothing}
use Rattle.wy_steps.specs.State.{Outcome}
use Rattle.wy_work.specs.Tasks.{outcome_at}
use Rattle.wy_work.specs.declared.turn.Signal.{Signal}
use Rattle.wy_machine.specs.declared.ended.Ended.{Ended}
use Rattle.wy_machine.specs.Ended.{events_of, whole}
use Rattle.wy_machine.specs.Going.{ComesTo}
use Rattle.wy_machine.specs.Handed.{seen}
use Rattle.wy_machine.specs.Shown.{HasTaken, Shown, TakesRun, shown}
use Rattle.wy_machine.proofs.Ends.{all_events, run_left}
use Rattle.wy_machine.proofs.Going.{came, comes_as}
use Rattle.wy_machine.proofs.Runs.{refused_alike, took_before}
use Rattle.wy_machine.proofs.Taking.{nothing_taken}
use Rattle.wy_machine.proofs.whole.run_with.Given as given
use Rattle.wy_machine.proofs.whole.run_with.Goals as goal

module _ (g : given.Over) where
  abbrev see : g.row.R.Denot → Shown
  see = shown g.R.Recorder.phase g.R.Recorder.kept g.R.Recorder.expected g.R.Recorder.position g.R.Recorder.faults g.R.Recorder.counts g.R.Recorder.mirrors

pub returns-in_err-on-clause-takes : goal.returns-in_err-on-clause-takes
returns-in_err-on-clause-takes g c =
    let h = err_from_is_err_and c.from_residual.result c.from_residual.ensures.1 in
    rw (h.1, h.2) (0, nothing_taken g.R.Recorder.keeps g.R.Recorder.compares g.R.Recorder.frame (see g c.args.recorder.now) c.requires.recording c.requires.position)

pub returns-in_err-machine-clause-takes : goal.returns-in_err-machine-clause-takes
returns-in_err-machine-clause-takes g c =
    let h = err_from_is_err_and c.from_residual-in_err-machine.result c.from_residual-in_err-machine.ensures.1 in
    rw (h.1, h.2) (0, nothing_taken g.R.Recorder.keeps g.R.Recorder.compares g.R.Recorder.frame (see g c.args.recorder.now) c.requires.recording c.requires.position)

pub returns-in_err-signal-clause-takes : goal.returns-in_err-signal-clause-takes
returns-in_err-signal-clause-takes g c =
    let h = err_from_is_err_and c.from_residual-in_err-signal.result c.from_residual-in_err-signal.ensures.1 in
    rw (h.1, h.2) (refused_alike g.R.Recorder.keeps g.R.Recorder.compares g.R.Recorder.frame (events nothing (program_of c.args.program.now) c.args.input.now c.args.steps) (see g c.args.recorder.now) (see g c.go_on.new.recorder) Signal Ended c.in_err-signal.field-0.0
    (subst (λ (es : List Recorded). TakesRun g.R.Recorder.keeps g.R.Recorder.compares g.R.Recorder.frame {X = Signal} es (see g c.args.recorder.now) (Err c.in_err-signal.field-0.0) (see g c.go_on.new.recorder)) (all_events (program_of c.args.program.now) c.args.input.now c.args.steps)
    (c.in_err-signal.ensures.takes (whole (program_of c.args.program.now) c.args.input.now c.args.steps) (comes_as (program_of c.args.program.now) _ (seen c.in_ok-machine.machine) (whole (program_of c.args.program.now) c.args.input.now c.args.steps) (ap program_of c.in_ok-on.ensures) c.in_ok-machine.ensures.comes))))

pub returns-in_err-ended-clause-takes : goal.returns-in_err-ended-clause-takes
returns-in_err-ended-clause-takes g c =
    let h = err_from_is_err_and c.from_residual-in_err-ended.result c.from_residual-in_err-ended.ensures.1 in
    rw (h.1, h.2) (took_before g.R.Recorder.keeps g.R.Recorder.compares g.R.Recorder.frame (events nothing (program_of c.args.program.now) c.args.input.now c.args.steps) (see g c.args.recorder.now) (see g c.go_on.new.recorder)
    (subst (HasTaken g.R.Recorder.keeps g.R.Recorder.compares g.R.Recorder.frame (see g c.args.recorder.now) (see g c.go_on.new.recorder)) (all_events (program_of c.args.program.now) c.args.input.now c.args.steps) (c.in_ok-signal.ensures.takes (whole (program_of c.args.program.now) c.args.input.now c.args.steps) (comes_as (program_of c.args.program.now) _ (seen c.in_ok-machine.machine) (whole (program_of c.args.program.now) c.args.input.now c.args.steps) (ap program_of c.in_ok-on.ensures) c.in_ok-machine.ensures.comes))))

pub returns-clause-takes : goal.returns-clause-takes
returns-clause-takes g c =
    subst (HasTaken g.R.Recorder.keeps g.R.Recorder.compares g.R.Recorder.frame (see g c.args.recorder.now) (see g c.go_on.new.recorder)) (all_events (program_of c.args.program.now) c.args.input.now c.args.steps) (c.in_ok-signal.ensures.takes (whole (program_of c.args.program.now) c.args.input.now c.args.steps) (comes_as (program_of c.args.program.now) _ (seen c.in_ok-machine.machine) (whole (program_of c.args.program.now) c.args.input.now c.args.steps) (ap program_of c.in_ok-on.ensures) c.in_ok-machine.ensures.comes))

pub returns-clause-fits : goal.returns-clause-fits
returns-clause-fits g c = subst AllFit (all_events (program_of c.args.program.now) c.args.input.now c.args.steps) (c.in_ok-signal.ensures.fits (whole (program_of c.args.program.now) c.args.input.now c.args.steps) (comes_as (program_of c.args.program.now) _ (seen c.in_ok-machine.machine) (whole (program_of c.args.program.now) c.args.input.now c.args.steps) (ap program_of c.in_ok-on.ensures) c.in_ok-machine.ensures.comes))

pub returns-clause-ended : goal.returns-clause-ended
returns-clause-ended g c =
    let p = program_of c.args.program.now in
    let o = whole p c.args.input.now c.args.steps in
    run_left p c.args.input.now c.args.steps c.in_ok-ended.ended (c.in_ok-ended.ensures p _ o
    (came p _ (seen c.in_ok-machine.machine) (seen c.go_on.new.machine) c.go_on.result c.in_ok-signal.signal o (ap program_of c.in_ok-on.ensures) c.in_ok-signal.was c.go_on.ensures.goes c.in_ok-machine.ensures.comes) refl)
