use Rattle.std.proofs.Common.{◌≡◌, ◌++◌, length, map}
use Rattle.wy_parser.specs.Symbols.{symbols_seen, spanned_seen}
use Rattle.wy_parser.proofs.parse.symbols.Given as goal

abbrev pub invariant-loop-left : goal.invariant-loop-left
invariant-loop-left l = symbols_seen l.all.items ++ map spanned_seen l.left ≡ map spanned_seen l.initial.left

abbrev pub decreases-loop-left : goal.decreases-loop-left
decreases-loop-left l = length l.left
