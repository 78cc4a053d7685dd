use Rattle.std.proofs.Common.{List}
use Rattle.wy_event.specs.Record.{Recorded}
use Rattle.wy_kernel.specs.Parts.{program_of}
use Rattle.wy_meaning.specs.Run.{events}
use Rattle.wy_steps.specs.Sets.{nothing}
use Rattle.wy_machine.specs.Shown.{Shown, shown}
use Rattle.wy_machine.proofs.Runs.{begun_so, counts_so, differs_so, expected_so, faults_so, phase_so, recorded_so}
use Rattle.wy_machine.proofs.whole.run.Given as given
use Rattle.wy_machine.proofs.whole.run.Goals as goal

module _ (g : given.Over) where
  abbrev see : g.row.R.Denot → Shown
  see = shown g.R.Recorder.phase g.R.Recorder.kept g.R.Recorder.expected g.R.Recorder.position g.R.Recorder.faults g.R.Recorder.counts g.R.Recorder.mirrors

  module _ (c : goal.After-run_with g) where
    abbrev all : List Recorded
    all = events nothing (program_of c.args.program.now) c.args.input.now c.args.steps

pub returns-clause-recorded : goal.returns-clause-recorded
returns-clause-recorded g c = recorded_so g.R.Recorder.keeps g.R.Recorder.compares g.R.Recorder.frame (see g c.args.recorder.now) (see g c.run_with.new.recorder) (program_of c.args.program.now) c.args.input.now c.args.steps c.run_with.result c.run_with.ensures.ended c.run_with.ensures.takes

pub returns-clause-begun : goal.returns-clause-begun
returns-clause-begun g c = begun_so g.R.Recorder.keeps g.R.Recorder.compares g.R.Recorder.frame (all g c) (see g c.args.recorder.now) (see g c.run_with.new.recorder) c.run_with.result c.run_with.ensures.takes

pub returns-clause-phase : goal.returns-clause-phase
returns-clause-phase g c = phase_so g.R.Recorder.keeps g.R.Recorder.compares g.R.Recorder.frame (all g c) (see g c.args.recorder.now) (see g c.run_with.new.recorder) c.run_with.result c.run_with.ensures.takes

pub returns-clause-expected : goal.returns-clause-expected
returns-clause-expected g c = expected_so g.R.Recorder.keeps g.R.Recorder.compares g.R.Recorder.frame (all g c) (see g c.args.recorder.now) (see g c.run_with.new.recorder) c.run_with.result c.run_with.ensures.takes

pub returns-clause-faults : goal.returns-clause-faults
returns-clause-faults g c = faults_so g.R.Recorder.keeps g.R.Recorder.compares g.R.Recorder.frame (all g c) (see g c.args.recorder.now) (see g c.run_with.new.recorder) c.run_with.result c.run_with.ensures.takes

pub returns-clause-counts : goal.returns-clause-counts
returns-clause-counts g c = counts_so g.R.Recorder.keeps g.R.Recorder.compares g.R.Recorder.frame (all g c) (see g c.args.recorder.now) (see g c.run_with.new.recorder) c.run_with.result c.run_with.ensures.takes

pub returns-clause-differs : goal.returns-clause-differs
returns-clause-differs g c = differs_so g.R.Recorder.keeps g.R.Recorder.compares g.R.Recorder.frame (all g c) (see g c.args.recorder.now) (see g c.run_with.new.recorder) c.run_with.result c.run_with.ensures.takes
