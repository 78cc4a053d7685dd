use Rattle.std.proofs.Common.{◌≡◌}
use Rattle.wy_kernel.specs.Parts.{program_of}
use Rattle.wy_kernel.specs.Program.{dispatch, find_method}
use Rattle.wy_calls.proofs.lookup.Dispatcher.dispatch.Given as goal

abbrev pub invariant-loop-longest : goal.invariant-loop-longest
invariant-loop-longest l = find_method (program_of l.fn.self.program.now) l.longest l.fn.method l.class ≡ dispatch (program_of l.fn.self.program.now) l.fn.method l.fn.class

abbrev pub decreases-loop-longest : goal.decreases-loop-longest
decreases-loop-longest l = l.longest
