use Rattle.wy_kernel.specs.Parts.{program_of}
use Rattle.wy_state.specs.Above.{left_of}
use Rattle.wy_state.proofs.Climbing.{IsClimbing}
use Rattle.wy_state.proofs.above.stands_above.Given as goal

abbrev pub invariant-loop-found : goal.invariant-loop-found
invariant-loop-found l = IsClimbing (program_of l.program) l.class l.goal l.climb

abbrev pub decreases-loop-found : goal.decreases-loop-found
decreases-loop-found l = left_of l.climb
