use Rattle.std.proofs.Common.{◌≡◌, ◌++◌, take}
use Rattle.wy_kernel.specs.Substatements.{statements_seen}
use Rattle.wy_ask.specs.Lines.{askable_in}
use Rattle.wy_ask.proofs.askable.put_all.Given as goal

abbrev pub invariant-loop-s : goal.invariant-loop-s
invariant-loop-s l = l.out.items ≡ l.fn.out.items ++ askable_in l.lines (statements_seen (take l.s-index l.all))
