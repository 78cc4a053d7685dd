use Rattle.std.proofs.Common.{◌≡◌, List, length, map, take}
use Rattle.wy_event.specs.Record.{Recorded}
use Rattle.wy_index.specs.Index.{IsIndexOf}
use Rattle.wy_whynot.specs.Executed.{executed}
use Rattle.wy_whynot.proofs.executed.executed_points.Given as goal

abbrev pub invariant-loop-point : goal.invariant-loop-point
invariant-loop-point l = record {
  sized : length l.begun.items ≡ l.point-index;
  executed : (rs : List Recorded) → IsIndexOf l.index rs → l.begun.items ≡ map (executed rs l.coverage) (take l.point-index l.points);
}
