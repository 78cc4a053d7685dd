use Rattle.std.proofs.Common.{◌≡◌, ◌≤◌, length}
use Rattle.wy_calls.specs.Dispatch.{AreOf, HasFirsts, HasNexts}
use Rattle.wy_calls.proofs.lookup.Dispatcher.new.Given as goal

abbrev pub invariant-loop-number : goal.invariant-loop-number
invariant-loop-number l = record {
  within : l.number ≤ length l.program.methods.items;
  long : length l.next.items ≡ length l.program.methods.items;
  owned : AreOf l.program.methods.items (length l.first.items) l.number;
  firsts : HasFirsts l.program.methods.items l.first.items l.number;
  nexts : HasNexts l.program.methods.items l.next.items l.number;
}

abbrev pub decreases-loop-number : goal.decreases-loop-number
decreases-loop-number l = l.number
