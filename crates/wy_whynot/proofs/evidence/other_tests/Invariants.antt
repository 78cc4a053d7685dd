use Rattle.std.proofs.Common.{◌≡◌, take}
use Rattle.std.specs.Prelude.{filter}
use Rattle.wy_whynot.specs.Evidence.{events_of, gave_another}
use Rattle.wy_whynot.proofs.evidence.other_tests.Given as goal

abbrev pub invariant-loop-hit : goal.invariant-loop-hit
invariant-loop-hit l = l.tests.items ≡ events_of (filter (gave_another l.arm) (take l.hit-index l.hits))
