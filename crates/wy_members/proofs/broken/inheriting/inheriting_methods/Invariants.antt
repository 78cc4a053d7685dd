use Rattle.std.proofs.Common.{◌≡◌, ◌≤◌, ◌+◌, ◌++◌, length, map, not}
use Rattle.std.specs.Prelude.{filter}
use Rattle.wy_kernel.specs.Program.{Method}
use Rattle.wy_kernel.specs.View.{method_of}
use Rattle.wy_members.proofs.broken.inheriting.inheriting_methods.Given as goal

abbrev pub invariant-loop-left : goal.invariant-loop-left
invariant-loop-left l = record {
  value : map method_of l.found.items ++ filter (λ (m : Method). not m.is_private) (map method_of l.left) ≡ filter (λ (m : Method). not m.is_private) (map method_of l.initial.left);
  few : length l.found.items + length l.left ≤ length l.initial.left;
}

abbrev pub decreases-loop-left : goal.decreases-loop-left
decreases-loop-left l = length l.left
