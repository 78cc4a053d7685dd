use Rattle.wy_kernel.specs.Parts.{program_of}
use Rattle.wy_telling.proofs.EndSites.{line_ends}
use Rattle.wy_telling.proofs.print.LineEnds.of.Goals as goal

pub returns : goal.returns
returns c = line_ends (program_of c.args.program.now) c.in_ok-sites.sites.items c.sort_unstable.new.self.items c.in_ok-sites.ensures c.sort_unstable.ensures.permutation
