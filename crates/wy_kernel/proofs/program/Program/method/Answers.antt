use Rattle.wy_kernel.specs.Program.{method}
use Rattle.wy_kernel.specs.View.{method_of}
use Rattle.wy_kernel.proofs.Indexed.{indexed}
use Rattle.wy_kernel.proofs.program.Program.method.Goals as goal

pub returns : goal.returns
unfolding method
returns c = indexed method_of c.args.self.now.methods.items c.args.n _ c.index.result.now c.requires c.index.ensures
