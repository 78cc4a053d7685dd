-- How often some numbers of postings are halved: a thousand ten times, none not at all.
use Rattle.std.proofs.Common.{lit≤, lit<}
use Rattle.wy_index.specs.Halving.{IsHalvings}

a_thousand : IsHalvings 1000 10
a_thousand = record { within = lit≤ tt; greatest = lit< tt }

none : IsHalvings 0 0
none = record { within = lit≤ tt; greatest = lit< tt }
