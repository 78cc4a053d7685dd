use Rattle.std.proofs.Common.{◌≡◌, ◌≤◌}
use Rattle.wy_view.specs.View.{Keeps}
use Rattle.wy_cert.specs.Made.{IsMade}
use Rattle.wy_cert.proofs.making.put_lines.Given as goal

abbrev pub invariant-loop-n : goal.invariant-loop-n
invariant-loop-n g l =
    let told = g.V.EventView.tells in
    record {
      made : IsMade l.index (told l.initial.view) l.initial.out.items l.out.items l.events l.n-index;
      keeps : Keeps (told l.initial.view) (told l.view);
      faults : (told l.view).faults ≡ (told l.initial.view).faults;
      forward : l.initial.steps ≤ l.steps;
    }
