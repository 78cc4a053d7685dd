use Rattle.std.proofs.Common.{◌≡◌, length}
use Rattle.wy_parser.specs.Symbols.{symbols_seen}
use Rattle.wy_parser.specs.Looks.{reach_named}
use Rattle.wy_parser.proofs.reach.reach_named.Given as goal

abbrev pub invariant-loop-ahead : goal.invariant-loop-ahead
invariant-loop-ahead l = reach_named (symbols_seen l.ahead) ≡ reach_named (symbols_seen l.initial.ahead)

abbrev pub decreases-loop-ahead : goal.decreases-loop-ahead
decreases-loop-ahead l = length l.ahead
