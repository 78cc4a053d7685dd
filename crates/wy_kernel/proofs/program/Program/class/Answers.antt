use Rattle.wy_kernel.specs.Program.{class}
use Rattle.wy_kernel.specs.View.{class_of}
use Rattle.wy_kernel.proofs.Indexed.{indexed}
use Rattle.wy_kernel.proofs.program.Program.class.Goals as goal

pub returns : goal.returns
unfolding class
returns c = indexed class_of c.args.self.now.classes.items c.args.n _ c.index.result.now c.requires c.index.ensures
