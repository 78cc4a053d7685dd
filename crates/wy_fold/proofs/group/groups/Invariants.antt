-- the groups of the events so far
use Rattle.std.proofs.Common.{◌≡◌, map, take}
use Rattle.std.specs.Prelude.{filter}
use Rattle.wy_event.specs.Record.{recorded}
use Rattle.wy_fold.specs.Groups.{group_of}
use Rattle.wy_fold.specs.Places.{line_at}
use Rattle.wy_fold.proofs.Grouping.{is_end}
use Rattle.wy_fold.proofs.group.groups.Given as goal

abbrev pub invariant-loop-event : goal.invariant-loop-event
invariant-loop-event l =
    let at = line_at l.program.lines.items (map recorded l.records) in
    l.found.items ≡ map (group_of at l.all.events.now l.flow.events.now) (filter (is_end at l.all.events.now) (take l.event-index l.all.events.now))
