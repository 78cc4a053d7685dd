use Rattle.std.proofs.Common.{◌≡◌, length}
use Rattle.wy_kernel.specs.Parts.{program_of}
use Rattle.wy_operation.specs.Clauses.{taking}
use Rattle.wy_operation.proofs.clause.find_clause.Given as goal

abbrev pub invariant-loop-clause : goal.invariant-loop-clause
invariant-loop-clause l = taking (program_of l.program) l.clauses l.class ≡ taking (program_of l.program) l.left l.class

abbrev pub decreases-loop-clause : goal.decreases-loop-clause
decreases-loop-clause l = length l.left
