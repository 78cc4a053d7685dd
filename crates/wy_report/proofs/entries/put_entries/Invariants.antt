-- the rows so far are put, and of the data those that are left come later
use Rattle.std.proofs.Common.{◌≡◌, List, Some, drop}
use Rattle.std.specs.Prelude.{filter}
use Rattle.wy_event.specs.Numbers.{Numbers}
use Rattle.wy_event.specs.Record.{Recorded}
use Rattle.wy_index.specs.Index.{owners_of}
use Rattle.wy_kernel.specs.Parts.{program_of}
use Rattle.wy_view.specs.View.{Keeps}
use Rattle.wy_report.specs.Rows.{PutsRows}
use Rattle.wy_report.proofs.entries.put_entries.Given as goal

abbrev pub invariant-loop-event : goal.invariant-loop-event
invariant-loop-event g l =
    let told = g.V.EventView.tells in
    record {
      keeps : Keeps (told l.initial.view) (told l.view);
      flow : (by_data : Numbers) → l.initial.flow ≡ filter by_data l.all → l.flow ≡ filter by_data (drop l.event-index l.all);
      rows : (rs : List Recorded) → (told l.initial.view).records ≡ Some rs → (by_data : Numbers) → l.initial.flow ≡ filter by_data l.all
          → PutsRows (program_of l.program) l.program.lines.items (owners_of l.index) rs by_data l.many l.initial.out.items l.out.items l.all l.event-index;
    }
