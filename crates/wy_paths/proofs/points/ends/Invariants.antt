use Rattle.std.proofs.Common.{take}
use Rattle.wy_paths.specs.Numbers.{HasEnds}
use Rattle.wy_paths.proofs.points.ends.Given as goal

abbrev pub invariant-loop-link : goal.invariant-loop-link
invariant-loop-link l = HasEnds (take l.link-index l.links) l.fn.start l.fn.goal l.points.items
