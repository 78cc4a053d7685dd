use Rattle.std.proofs.Common.{◌≡◌, ◌++◌}
use Rattle.wy_meaning.specs.Library.{brackets_text}
use Rattle.wy_text.proofs.name.put_brackets.Given as goal

abbrev pub invariant-loop-left : goal.invariant-loop-left
invariant-loop-left l = l.name.items ++ brackets_text l.left ≡ l.fn.name.items ++ brackets_text l.fn.pairs

abbrev pub decreases-loop-left : goal.decreases-loop-left
decreases-loop-left l = l.left
