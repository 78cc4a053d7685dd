-- the lines so far
use Rattle.std.proofs.Common.{◌≡◌, ◌++◌, List, Some, take}
use Rattle.wy_event.specs.Record.{Recorded}
use Rattle.wy_kernel.specs.Parts.{program_of}
use Rattle.wy_view.specs.View.{Keeps}
use Rattle.wy_session.specs.Frames.{locals_text}
use Rattle.wy_session.proofs.frames.put_locals.Given as goal

abbrev pub invariant-loop-local : goal.invariant-loop-local
invariant-loop-local g l =
    let told = g.V.EventView.tells in
    record {
      keeps : Keeps (told l.initial.view) (told l.view);
      faults : (told l.view).faults ≡ (told l.initial.view).faults;
      lines : (rs : List Recorded) → (told l.initial.view).records ≡ Some rs
          → l.out.items ≡ l.fn.out.items ++ locals_text (program_of l.program) rs l.call (take l.local-index l.locals);
    }
