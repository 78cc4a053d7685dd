-- the lines so far are told, and of the data those that are left come later
use Rattle.std.proofs.Common.{◌≡◌, List, Some, drop, take}
use Rattle.std.specs.Prelude.{filter}
use Rattle.wy_event.specs.Numbers.{Numbers}
use Rattle.wy_event.specs.Record.{Recorded}
use Rattle.wy_kernel.specs.Parts.{program_of}
use Rattle.wy_view.specs.View.{Keeps}
use Rattle.wy_telling.specs.Answers.{marked_lines}
use Rattle.wy_telling.proofs.marked.marked_lines.Given as goal

abbrev pub invariant-loop-event : goal.invariant-loop-event
invariant-loop-event g l =
    let told = g.V.EventView.tells in
    record {
      keeps : Keeps (told l.initial.view) (told l.view);
      faults : (told l.view).faults ≡ (told l.initial.view).faults;
      flow : (by_data : Numbers) → l.initial.flow ≡ filter by_data l.all
          → l.flow ≡ filter by_data (drop l.event-index l.all);
      lines : (rs : List Recorded) → (told l.initial.view).records ≡ Some rs → (by_data : Numbers) → l.initial.flow ≡ filter by_data l.all
          → l.text.items ≡ marked_lines (program_of l.program) l.program.lines.items rs by_data (take l.event-index l.all);
    }
