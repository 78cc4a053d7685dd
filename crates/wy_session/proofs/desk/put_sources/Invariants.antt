-- the lines so far
use Rattle.std.proofs.Common.{◌≡◌, ◌++◌, List, Some, take}
use Rattle.wy_event.specs.Record.{Recorded}
use Rattle.wy_kernel.specs.Parts.{program_of}
use Rattle.wy_view.specs.View.{Keeps}
use Rattle.wy_session.specs.Scene.{lines_of}
use Rattle.wy_session.proofs.desk.put_sources.Given as goal

abbrev pub invariant-loop-source : goal.invariant-loop-source
invariant-loop-source g l =
    let told = g.V.EventView.tells in
    record {
      keeps : Keeps (told l.initial.view) (told l.view);
      faults : (told l.view).faults ≡ (told l.initial.view).faults;
      lines : (rs : List Recorded) → (told l.initial.view).records ≡ Some rs
          → l.out.items ≡ l.fn.out.items ++ lines_of (program_of l.program) l.program.lines.items rs (take l.source-index l.sources);
    }
