use Rattle.std.proofs.Common.{◌≡◌, ◌++◌, take}
use Rattle.wy_ask.specs.Listing.{printed}
use Rattle.wy_ask.proofs.asking.put_prints.Given as goal

abbrev pub invariant-loop-event : goal.invariant-loop-event
invariant-loop-event l =
    record {
      piece : l.piece ≡ l.event-index;
      listed : l.listed.items ≡ l.fn.listed.items ++ printed (take l.event-index l.prints);
    }
