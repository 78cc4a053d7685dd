use Rattle.std.proofs.Common.{◌≡◌, ℕ, List, length, map, take}
use Rattle.wy_kernel.specs.Program.{Program}
use Rattle.wy_event.specs.Record.{Recorded}
use Rattle.wy_static.specs.LookUps.{AreLinksOf}
use Rattle.wy_scope.specs.Kept.{IsScopeTo}
use Rattle.wy_scope.specs.Passing.{passed}
use Rattle.wy_scope.proofs.passed.passed_regions.Given as goal

abbrev pub invariant-loop-region : goal.invariant-loop-region
invariant-loop-region l = record {
  sized : length l.begun.items ≡ l.region-index;
  passed : (p : Program) (rs : List Recorded) (call : ℕ) → AreLinksOf l.links p → IsScopeTo rs call (length rs) l.scope → l.begun.items ≡ map (passed p rs call) (take l.region-index l.regions);
}
