use Rattle.std.proofs.Common.{◌-◌}
use Rattle.wy_kernel.specs.View.{method_of}
use Rattle.wy_calls.proofs.Rows.{Position}
use Rattle.wy_calls.proofs.lookup.Dispatcher.declared_in.Given as goal

abbrev pub invariant-loop-number : goal.invariant-loop-number
invariant-loop-number l = Position l.self.program.now.methods.items l.class (method_of l.called) l.number

abbrev pub decreases-loop-number : goal.decreases-loop-number
decreases-loop-number l = 4294967295 - l.number
