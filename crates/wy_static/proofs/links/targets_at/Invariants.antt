use Rattle.std.proofs.Common.{take}
use Rattle.wy_static.specs.Along.{AreCalled}
use Rattle.wy_static.proofs.links.targets_at.Given as goal

abbrev pub invariant-loop-link : goal.invariant-loop-link
invariant-loop-link l = AreCalled (take l.link-index l.links) l.targets
