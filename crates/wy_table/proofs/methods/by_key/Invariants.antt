use Rattle.std.proofs.Common.{length}
use Rattle.wy_table.specs.Listed.{listed}
use Rattle.wy_table.proofs.Listing.{ListedUpTo}
use Rattle.wy_table.proofs.Wanted.{IsKeyOf}
use Rattle.wy_table.proofs.methods.by_key.Given as goal

abbrev pub invariant-loop-k : goal.invariant-loop-k
invariant-loop-k l = ListedUpTo (IsKeyOf l.keys) l.k (listed l.lists)
