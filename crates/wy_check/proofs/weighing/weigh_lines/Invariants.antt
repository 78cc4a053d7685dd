use Rattle.std.proofs.Common.{◌≡◌, ◌≤◌, [], List, Some, length}
use Rattle.wy_kernel.specs.Parts.{program_of}
use Rattle.wy_event.specs.Record.{Recorded}
use Rattle.wy_view.specs.Counts.{RoseAtMost}
use Rattle.wy_view.specs.View.{Keeps}
use Rattle.wy_check.specs.Asking.{AreLinesAsked}
use Rattle.wy_check.specs.History.{HasSeen}
use Rattle.wy_check.specs.Weighing.{IsWeighed}
use Rattle.wy_check.specs.Writes.{owners}
use Rattle.wy_check.proofs.weighing.weigh_lines.Given as goal

abbrev pub invariant-loop-n : goal.invariant-loop-n
invariant-loop-n g l =
    let told = g.V.EventView.tells in
    record {
      weighed : (rs : List Recorded) → (told l.fn.view).records ≡ Some rs → HasSeen l.fn.history [] → AreLinesAsked l.fn.history rs l.lines
          → IsWeighed (owners (program_of l.program)) rs l.lines l.end l.n l.weighing;
      few : length l.weighing.sound.items ≤ length l.lines;
      keeps : Keeps (told l.fn.view) (told l.view);
      reads : RoseAtMost l.n (told l.fn.view).reads (told l.view).reads;
      faults : (told l.view).faults ≡ (told l.fn.view).faults;
      forward : l.fn.steps ≤ l.steps;
    }
