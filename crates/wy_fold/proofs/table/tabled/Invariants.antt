-- each row has the events so far that stand on its line
use Rattle.std.proofs.Common.{◌≡◌, ◌<◌, ℕ, [], get_or, length, map, take}
use Rattle.wy_event.specs.Record.{recorded}
use Rattle.wy_fold.specs.Groups.{lists_of}
use Rattle.wy_fold.specs.Places.{line_at, on_line}
use Rattle.wy_fold.proofs.table.tabled.Given as goal

abbrev pub invariant-loop-event : goal.invariant-loop-event
invariant-loop-event l =
    let at = line_at l.program.lines.items (map recorded l.records) in
    record {
      inside : (n : ℕ) → at n < length l.rows.items;
      each : (k : ℕ) → get_or (lists_of l.rows.items) k [] ≡ on_line at k (take l.event-index l.events);
    }
