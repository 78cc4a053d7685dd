use Rattle.std.proofs.Common.{◌≡◌, ◌++◌, take}
use Rattle.wy_static.specs.Along.{links_to_each}
use Rattle.wy_static.proofs.links.put_to_each.Given as goal

abbrev pub invariant-loop-method : goal.invariant-loop-method
invariant-loop-method l = l.out.items ≡ l.fn.out.items ++ links_to_each l.way (take l.method-index l.methods)
