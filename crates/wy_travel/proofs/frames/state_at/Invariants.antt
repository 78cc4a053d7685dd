-- the frames that are shown, and those further out, are the frames at the event; each is below the one within it
use Rattle.std.proofs.Common.{◌≡◌, ◌-◌, ◌≤◌, List, Some, length}
use Rattle.std.specs.Prelude.{All}
use Rattle.wy_kernel.specs.Parts.{program_of}
use Rattle.wy_kernel.specs.View.{present}
use Rattle.wy_event.specs.Record.{Recorded}
use Rattle.wy_view.specs.References.{OptionBelow}
use Rattle.wy_view.specs.View.{Keeps}
use Rattle.wy_travel.specs.Backtrace.{IsBelow, backtrace}
use Rattle.wy_travel.proofs.Outward.{shown_from}
use Rattle.wy_travel.proofs.frames.state_at.Given as goal

abbrev pub invariant-loop-call : goal.invariant-loop-call
invariant-loop-call g l =
    let told = g.V.EventView.tells in
    let p = program_of l.program in
    record {
      within : OptionBelow (l.event - length l.frames.items) (present l.call);
      frames : (rs : List Recorded) → (told l.fn.view).records ≡ Some rs → shown_from p rs l.event l.frames.items (present l.call) ≡ backtrace p rs l.event;
      below : All (IsBelow l.event) l.frames.items;
      keeps : Keeps (told l.fn.view) (told l.view);
      faults : (told l.view).faults ≡ (told l.fn.view).faults;
      forward : l.fn.steps ≤ l.steps;
    }

abbrev pub decreases-loop-call : goal.decreases-loop-call
decreases-loop-call g l = l.event - length l.frames.items
