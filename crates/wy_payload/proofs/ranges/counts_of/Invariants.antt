use Rattle.std.proofs.Common.{◌≡◌, map, take}
use Rattle.wy_payload.specs.Bodies.{locals_of}
use Rattle.wy_payload.proofs.ranges.counts_of.Given as goal

abbrev pub invariant-loop-body : goal.invariant-loop-body
invariant-loop-body l = l.counts.items ≡ map locals_of (take l.body-index l.bodies)
