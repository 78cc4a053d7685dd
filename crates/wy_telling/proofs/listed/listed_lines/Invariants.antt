use Rattle.std.proofs.Common.{◌≡◌, List, Some, take}
use Rattle.std.specs.List.{flat_map}
use Rattle.wy_event.specs.Record.{Recorded}
use Rattle.wy_kernel.specs.Parts.{program_of}
use Rattle.wy_view.specs.View.{Keeps}
use Rattle.wy_telling.specs.Questions.{listed_line}
use Rattle.wy_telling.proofs.listed.listed_lines.Given as goal

abbrev pub invariant-loop-one : goal.invariant-loop-one
invariant-loop-one g l =
    let told = g.V.EventView.tells in
    record {
      keeps : Keeps (told l.initial.view) (told l.view);
      faults : (told l.view).faults ≡ (told l.initial.view).faults;
      lines : (rs : List Recorded) → (told l.initial.view).records ≡ Some rs
          → l.text.items ≡ flat_map (listed_line (program_of l.program) l.program.lines.items rs) (take l.one-index l.listed);
    }
