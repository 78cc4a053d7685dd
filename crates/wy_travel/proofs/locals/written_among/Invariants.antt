-- those below the number were looked at
use Rattle.std.proofs.Common.{◌≡◌, ◌≤◌, ℕ, List, Some}
use Rattle.std.specs.Prelude.{All}
use Rattle.wy_kernel.specs.Parts.{program_of}
use Rattle.wy_value.specs.declared.value.Value.{Value}
use Rattle.wy_event.specs.Record.{Recorded}
use Rattle.wy_view.specs.References.{ValueBelow}
use Rattle.wy_view.specs.View.{Keeps}
use Rattle.wy_travel.specs.Locals.{written_among}
use Rattle.wy_travel.proofs.locals.written_among.Given as goal

abbrev pub invariant-loop-number : goal.invariant-loop-number
invariant-loop-number g l =
    let told = g.V.EventView.tells in
    record {
      locals : (rs : List Recorded) → (told l.initial.view).records ≡ Some rs → l.locals.items ≡ written_among (program_of l.program) rs l.frame l.event l.number;
      below : All (λ (x : ℕ × Value). ValueBelow l.event x.1) l.locals.items;
      keeps : Keeps (told l.initial.view) (told l.view);
      faults : (told l.view).faults ≡ (told l.initial.view).faults;
      forward : l.initial.steps ≤ l.steps;
    }
