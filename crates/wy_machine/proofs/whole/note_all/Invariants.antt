-- what was given so far was taken
use Rattle.std.proofs.Common.{◌≡◌, List, ◌++◌, map, take}
use Rattle.wy_event.specs.Record.{Recorded, recorded}
use Rattle.wy_record.specs.declared.recorder.Phase.TheVariants.{Recording}
use Rattle.wy_machine.specs.Shown.{HasTaken, Shown, shown}
use Rattle.wy_machine.proofs.whole.note_all.Given as goal

abbrev pub invariant-loop-event : goal.invariant-loop-event
invariant-loop-event g l =
    let see = shown g.R.Recorder.phase g.R.Recorder.kept g.R.Recorder.expected g.R.Recorder.position g.R.Recorder.faults g.R.Recorder.counts g.R.Recorder.mirrors in
    record {
      sound : g.R.Recorder.Sound l.recorder;
      recording : g.R.Recorder.phase l.recorder ≡ Recording;
      takes : (first : Shown) (before : List Recorded) → HasTaken g.R.Recorder.keeps g.R.Recorder.compares g.R.Recorder.frame first (see l.initial.recorder) before →
          HasTaken g.R.Recorder.keeps g.R.Recorder.compares g.R.Recorder.frame first (see l.recorder) (before ++ map recorded (take l.event-index l.events));
    }
