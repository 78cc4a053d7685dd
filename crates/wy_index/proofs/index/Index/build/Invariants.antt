-- what was found in the events so far, which are those that the view tells
use Rattle.std.proofs.Common.{◌≡◌, ◌+◌, ◌≤◌, length, take, List}
use Rattle.std.specs.Prelude.{IfSome}
use Rattle.wy_event.specs.Record.{Recorded}
use Rattle.wy_view.specs.Counts.{RoseAtMost}
use Rattle.wy_view.specs.View.{Keeps}
use Rattle.wy_index.specs.Findings.{HasFound}
use Rattle.wy_index.proofs.index.Index.build.Given as goal

abbrev pub invariant-loop-n : goal.invariant-loop-n
invariant-loop-n g l =
    let told = g.V.EventView.tells in
    record {
      found : (rs : List Recorded) × HasFound l.found rs × (length rs ≡ l.n) × IfSome (told l.initial.view).records (λ t. rs ≡ take l.n t);
      within : l.n ≤ (told l.initial.view).count;
      keeps : Keeps (told l.initial.view) (told l.view);
      faults : (told l.view).faults ≡ (told l.initial.view).faults;
      reads : RoseAtMost l.n (told l.initial.view).reads (told l.view).reads;
      forward : l.initial.steps ≤ l.steps;
      steps : l.steps ≤ l.initial.steps + l.n;
    }
