-- those from next on were gone through
use Rattle.std.proofs.Common.{◌+◌, ◌≤◌}
use Rattle.wy_index.specs.Finds.{IsRecent}
use Rattle.wy_why.specs.Walk.{IsDown}
use Rattle.wy_why.proofs.answer.why.Given as goal

abbrev pub invariant-loop-next : goal.invariant-loop-next
invariant-loop-next g l =
    let told = g.V.EventView.tells in
    record {
      down : IsDown l.index (told l.initial.view) (told l.view) l.initial.steps l.steps l.event l.next l.walk;
      within : l.next ≤ l.event + 1;
      recent : IsRecent l.index.postings l.walk.recent;
    }

abbrev pub decreases-loop-next : goal.decreases-loop-next
decreases-loop-next g l = l.next
