use Rattle.std.proofs.Common.{◌≡◌, take}
use Rattle.std.specs.Prelude.{filter}
use Rattle.wy_scope.specs.Kept.{is_marked}
use Rattle.wy_scope.proofs.evidence.hits_in_scope.Given as goal

abbrev pub invariant-loop-hit : goal.invariant-loop-hit
invariant-loop-hit l = l.kept.items ≡ filter (is_marked l.scope) (take l.hit-index l.hits)
