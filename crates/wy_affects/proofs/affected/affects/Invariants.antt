-- those below next were gone through
use Rattle.std.proofs.Common.{◌≤◌}
use Rattle.wy_index.specs.Finds.{IsRecent}
use Rattle.wy_affects.specs.Pass.{IsUp}
use Rattle.wy_affects.proofs.affected.affects.Given as goal

abbrev pub invariant-loop-next : goal.invariant-loop-next
invariant-loop-next g l =
    let told = g.V.EventView.tells in
    record {
      up : IsUp l.index (told l.initial.view) (told l.view) l.event l.next l.pass;
      recent : IsRecent l.index.postings l.pass.recent;
      forward : l.initial.steps ≤ l.steps;
    }
