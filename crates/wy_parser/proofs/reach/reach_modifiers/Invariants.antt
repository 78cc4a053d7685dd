use Rattle.std.proofs.Common.{◌≡◌, length}
use Rattle.wy_parser.specs.Symbols.{symbols_seen}
use Rattle.wy_parser.specs.Looks.{reach_modifiers}
use Rattle.wy_parser.proofs.reach.reach_modifiers.Given as goal

abbrev pub invariant-loop-ahead : goal.invariant-loop-ahead
invariant-loop-ahead l = reach_modifiers (symbols_seen l.ahead) ≡ reach_modifiers (symbols_seen l.initial.ahead)

abbrev pub decreases-loop-ahead : goal.decreases-loop-ahead
decreases-loop-ahead l = length l.ahead
