use Rattle.std.proofs.Common.{◌≡◌, ◌++◌, take}
use Rattle.wy_kernel.specs.Parts.{program_of}
use Rattle.wy_telling.specs.Items.{more_made}
use Rattle.wy_telling.proofs.item.put_more.Given as goal

abbrev pub invariant-loop-one : goal.invariant-loop-one
invariant-loop-one l = l.out.items ≡ l.fn.out.items ++ more_made (program_of l.program) (take l.one-index l.made)
