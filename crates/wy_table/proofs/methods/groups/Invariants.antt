use Rattle.std.proofs.Common.{map}
use Rattle.wy_kernel.specs.View.{method_of}
use Rattle.wy_table.proofs.Groups.{GroupedUpTo}
use Rattle.wy_table.proofs.methods.groups.Given as goal

abbrev pub invariant-loop-m : goal.invariant-loop-m
invariant-loop-m l = GroupedUpTo (map method_of l.methods) l.m-index l.signatures.keys l.groups.items
