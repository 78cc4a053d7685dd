-- the events from the call on and below n were gone through
use Rattle.std.proofs.Common.{◌≡◌, ◌-◌, ◌≤◌, List, Some}
use Rattle.wy_event.specs.Record.{Recorded}
use Rattle.wy_view.specs.Counts.{RoseAtMost}
use Rattle.wy_view.specs.View.{Keeps}
use Rattle.wy_scope.specs.Kept.{IsScopeTo}
use Rattle.wy_scope.proofs.scope.scope_of.Given as goal

abbrev pub invariant-loop-n : goal.invariant-loop-n
invariant-loop-n g l =
    let told = g.V.EventView.tells in
    record {
      scope : (rs : List Recorded) → (told l.fn.view).records ≡ Some rs → IsScopeTo rs l.call l.n l.scope;
      keeps : Keeps (told l.fn.view) (told l.view);
      faults : (told l.view).faults ≡ (told l.fn.view).faults;
      reads : RoseAtMost (l.n - l.call) (told l.fn.view).reads (told l.view).reads;
      forward : l.fn.steps ≤ l.steps;
    }
