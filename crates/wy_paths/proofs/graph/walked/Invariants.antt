use Rattle.wy_paths.specs.Graph.{IsSpreading, left_of}
use Rattle.wy_paths.proofs.graph.walked.Given as goal

abbrev pub invariant-loop-point : goal.invariant-loop-point
invariant-loop-point l = IsSpreading l.edges l.open l.start l.walk

abbrev pub decreases-loop-point : goal.decreases-loop-point
decreases-loop-point l = left_of l.walk
