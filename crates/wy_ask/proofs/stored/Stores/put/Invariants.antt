use Rattle.std.proofs.Common.{◌≡◌, ℕ, ◌++◌, map, take}
use Rattle.std.specs.Prelude.{All}
use Rattle.wy_ask.specs.Held.{HoldsBelow}
use Rattle.wy_ask.specs.Listing.{IsListedBelow}
use Rattle.wy_ask.proofs.Storing.{stored_at}
use Rattle.wy_ask.proofs.stored.Stores.put.Given as goal

abbrev pub invariant-loop-key : goal.invariant-loop-key
invariant-loop-key l =
    record {
      listed : l.listed.items ≡ l.fn.listed.items ++ map (stored_at l.self.values l.moment) (take l.key-index l.keys);
      below : (n : ℕ) → HoldsBelow n l.self → All (IsListedBelow n) l.fn.listed.items → All (IsListedBelow n) l.listed.items;
    }
