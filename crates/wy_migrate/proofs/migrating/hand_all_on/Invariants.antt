-- the events so far were handed on, and nothing was refused
use Rattle.std.proofs.Common.{◌≡◌, ◌≤◌, List, Some, map, take}
use Rattle.std.specs.List.{concat}
use Rattle.wy_event.specs.Record.{Recorded}
use Rattle.wy_record.specs.Recorders.{with_more}
use Rattle.wy_record.specs.declared.recorder.Phase.TheVariants.{Recording}
use Rattle.wy_view.specs.View.{Keeps}
use Rattle.wy_migrate.proofs.migrating.hand_all_on.Given as goal

abbrev pub invariant-loop-n : goal.invariant-loop-n
invariant-loop-n g l =
    let told = g.V.EventView.tells in
    record {
      within : l.n ≤ (told l.initial.view).count;
      sound : g.R.Recorder.Sound l.recorder;
      recording : g.R.Recorder.phase l.recorder ≡ Recording;
      mirrors : (rs : List Recorded) → (told l.initial.view).records ≡ Some rs →
          g.R.Recorder.mirrors l.recorder ≡ with_more (concat (map g.R.Recorder.frame (take l.n rs))) (g.R.Recorder.mirrors l.initial.recorder);
      keeps : Keeps (told l.initial.view) (told l.view);
      given : (told l.view).faults ≡ (told l.initial.view).faults;
      faults : g.R.Recorder.faults l.recorder ≡ g.R.Recorder.faults l.initial.recorder;
      counts : g.R.Recorder.counts l.recorder ≡ g.R.Recorder.counts l.initial.recorder;
    }
