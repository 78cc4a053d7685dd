use Rattle.std.proofs.Common.{◌≡◌, ◌-◌, ◌++◌}
use Rattle.std.specs.Prelude.{map}
use Rattle.wy_kernel.specs.Builtin.{first_methods, all_constructors}
use Rattle.wy_kernel.specs.View.{method_of}
use Rattle.wy_kernel.proofs.builtin.methods.Given as goal

abbrev pub invariant-loop-class : goal.invariant-loop-class
invariant-loop-class l = map method_of l.all.items ≡ first_methods ++ all_constructors (l.class - 3)
