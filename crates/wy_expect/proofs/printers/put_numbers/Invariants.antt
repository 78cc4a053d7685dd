use Rattle.std.proofs.Common.{◌≡◌, ◌++◌, take}
use Rattle.wy_kernel.specs.Substatements.{statements_seen}
use Rattle.wy_expect.specs.Printers.{prints_of}
use Rattle.wy_expect.proofs.printers.put_numbers.Given as goal

abbrev pub invariant-loop-s : goal.invariant-loop-s
invariant-loop-s l = l.numbers.items ≡ l.fn.numbers.items ++ prints_of (statements_seen (take l.s-index l.all))
