-- what was printed so far begins what is expected
use Rattle.std.proofs.Common.{◌≡◌, ◌≤◌, length}
use Rattle.std.specs.Prelude.{None, map}
use Rattle.wy_event.specs.Record.{recorded}
use Rattle.wy_kernel.specs.Parts.{program_of}
use Rattle.wy_view.specs.View.{Keeps}
use Rattle.wy_view.specs.Whole.{whole}
use Rattle.wy_expect.specs.Expected.{Begins, printed_below}
use Rattle.wy_expect.proofs.walk.walk_by.Given as goal

abbrev pub invariant-loop-n : goal.invariant-loop-n
invariant-loop-n g l =
    let events = l.initial.view.events.items in
    record {
      within : l.n ≤ length events;
      keeps : Keeps (whole events None) (whole l.view.events.items None);
      printed : l.printed.items ≡ printed_below (program_of l.program) (map recorded events) l.n;
      begins : Begins l.printed.items l.expected;
    }
