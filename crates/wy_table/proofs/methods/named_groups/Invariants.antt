use Rattle.std.proofs.Common.{◌≡◌, ◌<◌, ℕ, Some, length, map, slice_get}
use Rattle.wy_kernel.specs.Program.{Method}
use Rattle.wy_kernel.specs.View.{method_of}
use Rattle.wy_table.specs.Listed.{group_key}
use Rattle.wy_table.proofs.methods.named_groups.Given as goal

abbrev pub invariant-loop-k : goal.invariant-loop-k
invariant-loop-k l = (length l.keys.items ≡ l.k)
    × ((i group : ℕ) (m : Method) → i < l.k → slice_get (map method_of l.methods) i ≡ Some m → slice_get l.groups i ≡ Some group → slice_get l.keys.items i ≡ Some (group_key m group))
