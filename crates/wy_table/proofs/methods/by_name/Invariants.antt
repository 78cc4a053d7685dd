use Rattle.std.proofs.Common.{map}
use Rattle.wy_kernel.specs.View.{method_of}
use Rattle.wy_table.specs.Listed.{listed_by_text}
use Rattle.wy_table.proofs.Listing.{ListedUpTo}
use Rattle.wy_table.proofs.Wanted.{IsNameOf}
use Rattle.wy_table.proofs.methods.by_name.Given as goal

abbrev pub invariant-loop-k : goal.invariant-loop-k
invariant-loop-k l = ListedUpTo (IsNameOf (map method_of l.methods)) l.k (listed_by_text l.lists)
