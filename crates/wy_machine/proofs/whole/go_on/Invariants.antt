-- the run that was before the machine at first is the one that is left, and the recorder took what was made of it so far
use Rattle.std.proofs.Common.{◌≡◌, []}
use Rattle.wy_kernel.specs.Parts.{program_of}
use Rattle.wy_record.specs.declared.recorder.Phase.TheVariants.{Recording}
use Rattle.wy_steps.specs.Sets.{nothing}
use Rattle.wy_steps.specs.State.{Outcome}
use Rattle.wy_operands.specs.Values.{Values}
use Rattle.wy_machine.specs.Going.{ComesTo}
use Rattle.wy_machine.specs.Handed.{seen}
use Rattle.wy_machine.specs.Shown.{shown}
use Rattle.wy_machine.proofs.Turns.{Stands}
use Rattle.wy_machine.proofs.whole.go_on.Given as goal

abbrev pub invariant-loop : goal.invariant-loop
invariant-loop g l =
    let see = shown g.R.Recorder.phase g.R.Recorder.kept g.R.Recorder.expected g.R.Recorder.position g.R.Recorder.faults g.R.Recorder.counts g.R.Recorder.mirrors in
    record {
      none : (seen l.machine).state.kept ≡ [];
      sound : g.R.Recorder.Sound l.recorder;
      recording : g.R.Recorder.phase l.recorder ≡ Recording;
      stands : (o : Outcome nothing Values) → ComesTo (program_of l.on.program.now) (seen l.initial.machine) o →
          Stands g.R.Recorder.keeps g.R.Recorder.compares g.R.Recorder.frame (program_of l.on.program.now) (see l.initial.recorder) o (seen l.machine) l.signal (see l.recorder);
    }
