use Rattle.wy_kernel.specs.Parts.{program_of}
use Rattle.wy_expect.proofs.Numbered.{are_printers}
use Rattle.wy_expect.proofs.printers.Printers.of.Goals as goal

pub returns : goal.returns
returns c = are_printers (program_of c.args.program.now) c.in_ok-numbers.numbers.items c.sort_unstable.new.self.items c.in_ok-numbers.ensures c.sort_unstable.ensures.permutation
