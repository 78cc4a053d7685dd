use Rattle.std.proofs.Common.{take}
use Rattle.wy_static.specs.Seen.{seen_by}
use Rattle.wy_static.specs.Along.{AreAlong}
use Rattle.wy_static.specs.Receivers.{AreTargets}
use Rattle.wy_static.proofs.links.along.Given as goal

abbrev pub invariant-loop-way : goal.invariant-loop-way
invariant-loop-way l = record {
  targets : AreTargets l.targets (seen_by l.dispatcher);
  along : AreAlong (seen_by l.dispatcher) (take l.way-index l.ways) l.out.items;
}
