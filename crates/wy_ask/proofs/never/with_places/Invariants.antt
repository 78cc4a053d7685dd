use Rattle.std.proofs.Common.{◌≡◌, [], take}
use Rattle.wy_ask.specs.Listing.{placed}
use Rattle.wy_ask.proofs.Placing.{AreCounts}
use Rattle.wy_ask.proofs.never.with_places.Given as goal

abbrev pub invariant-loop-statement : goal.invariant-loop-statement
invariant-loop-statement l =
    record {
      counts : AreCounts l.counts (take l.statement-index l.statements);
      places : l.all.items ≡ placed [] (take l.statement-index l.statements);
    }
