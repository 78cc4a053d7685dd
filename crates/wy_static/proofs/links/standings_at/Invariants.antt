use Rattle.std.proofs.Common.{◌≡◌, take}
use Rattle.wy_static.specs.declared.point.Point.{Point}
use Rattle.wy_static.specs.Along.{kept_at}
use Rattle.wy_static.specs.LookUps.{standing_at}
use Rattle.wy_static.proofs.links.standings_at.Given as goal

abbrev pub invariant-loop-standing : goal.invariant-loop-standing
invariant-loop-standing l = (q : Point) → kept_at l.standings q ≡ standing_at (take l.standing-index l.all) q
