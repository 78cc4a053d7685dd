-- what the events so far printed
use Rattle.std.proofs.Common.{◌≡◌, ◌≤◌, List, Some, take}
use Rattle.std.specs.List.{flat_map}
use Rattle.wy_event.specs.Record.{Recorded}
use Rattle.wy_kernel.specs.Parts.{program_of}
use Rattle.wy_view.specs.View.{Keeps}
use Rattle.wy_telling.specs.Printed.{printed_by}
use Rattle.wy_telling.proofs.print.printed.Given as goal

abbrev pub invariant-loop-n : goal.invariant-loop-n
invariant-loop-n g l =
    let told = g.V.EventView.tells in
    record {
      within : l.n ≤ (told l.initial.view).count;
      keeps : Keeps (told l.initial.view) (told l.view);
      faults : (told l.view).faults ≡ (told l.initial.view).faults;
      bytes : (rs : List Recorded) → (told l.initial.view).records ≡ Some rs
          → l.bytes.items ≡ flat_map (printed_by (program_of l.program) rs) (take l.n rs);
    }
