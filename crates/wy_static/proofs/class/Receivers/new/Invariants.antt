use Rattle.wy_kernel.specs.Parts.{program_of}
use Rattle.wy_static.specs.Rows.{kept_under}
use Rattle.wy_static.proofs.Receiving.{SoFar}
use Rattle.wy_static.proofs.class.Receivers.new.Given as goal

abbrev pub invariant-loop-class : goal.invariant-loop-class
invariant-loop-class l = SoFar (program_of l.program) l.class l.all.items (kept_under l.below)
