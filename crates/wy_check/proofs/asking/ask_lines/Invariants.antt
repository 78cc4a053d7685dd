use Rattle.std.proofs.Common.{◌≡◌, ◌≤◌, [], List, Some, take}
use Rattle.wy_event.specs.Record.{Recorded}
use Rattle.wy_view.specs.Counts.{RoseAtMost}
use Rattle.wy_view.specs.View.{Keeps}
use Rattle.wy_check.specs.Asking.{AreLinesAsked}
use Rattle.wy_check.specs.History.{HasSeen}
use Rattle.wy_check.proofs.asking.ask_lines.Given as goal

abbrev pub invariant-loop-line : goal.invariant-loop-line
invariant-loop-line g l =
    let told = g.V.EventView.tells in
    record {
      asked : (rs : List Recorded) → (told l.fn.view).records ≡ Some rs → AreLinesAsked l.history rs (take l.line-index l.lines);
      seen : HasSeen l.history [];
      keeps : Keeps (told l.fn.view) (told l.view);
      reads : RoseAtMost l.line-index (told l.fn.view).reads (told l.view).reads;
      faults : (told l.view).faults ≡ (told l.fn.view).faults;
      forward : l.fn.steps ≤ l.steps;
    }
