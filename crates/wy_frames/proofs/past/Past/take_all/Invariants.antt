use Rattle.std.proofs.Common.{ℕ, List, length}
use Rattle.wy_frames.specs.Progress.{Progress}
use Rattle.wy_frames.specs.Holds.{Holds}
use Rattle.wy_frames.specs.Scan.{Leaves, Reached}
use Rattle.wy_frames.proofs.past.Past.take_all.Given as goal

abbrev pub invariant-frames : goal.invariant-frames
invariant-frames l = (from s : Progress) (fed : List ℕ) → Holds l.fn.self s → Leaves l.ranges l.steps from fed s l.bytes → Reached l.ranges l.steps from fed s l.fn.placed.items l.placed.items l.self l.rest

abbrev pub decreases-frames : goal.decreases-frames
decreases-frames l = length l.rest
