-- the events before the next one were noted
use Rattle.std.proofs.Common.{◌≡◌, ◌+◌, List, ◌++◌, length, map, take}
use Rattle.wy_event.specs.Record.{Recorded, recorded}
use Rattle.wy_frames.specs.Progress.{event_in}
use Rattle.wy_index.specs.Findings.{HasFound}
use Rattle.wy_page.proofs.noting.note_each.Given as goal

abbrev pub invariant-loop-one : goal.invariant-loop-one
invariant-loop-one l = record {
  number : l.n ≡ l.first + l.one-index;
  noted : (rs : List Recorded) → HasFound l.initial.found rs → length rs ≡ l.first → HasFound l.found (rs ++ map recorded (map event_in (take l.one-index l.placed)));
}
