-- the groups so far are told
use Rattle.std.proofs.Common.{◌≡◌, List, Some, map, take}
use Rattle.std.specs.List.{flat_map}
use Rattle.wy_event.specs.Numbers.{Numbers}
use Rattle.wy_event.specs.Record.{Recorded}
use Rattle.wy_kernel.specs.Parts.{program_of}
use Rattle.wy_view.specs.View.{Keeps}
use Rattle.wy_fold.specs.Groups.{AreOfData, row_of}
use Rattle.wy_fold.specs.Shown.{group_text}
use Rattle.wy_fold.proofs.fold.group_lines.Given as goal

abbrev pub invariant-loop-group : goal.invariant-loop-group
invariant-loop-group g l =
    let told = g.V.EventView.tells in
    record {
      keeps : Keeps (told l.initial.view) (told l.view);
      faults : (told l.view).faults ≡ (told l.initial.view).faults;
      lines : (rs : List Recorded) → (told l.initial.view).records ≡ Some rs → (by_data : Numbers) → AreOfData by_data l.fold
          → l.out.items ≡ flat_map (group_text (program_of l.program) l.program.lines.items (map (λ x. x.now) l.fold.lines.items) rs by_data (row_of l.fold.all) l.is_open) (take l.group-index l.fold.groups.items);
    }
