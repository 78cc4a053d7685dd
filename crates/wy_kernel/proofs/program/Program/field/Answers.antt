use Rattle.wy_kernel.specs.Program.{field}
use Rattle.wy_kernel.specs.View.{field_of}
use Rattle.wy_kernel.proofs.Indexed.{indexed}
use Rattle.wy_kernel.proofs.program.Program.field.Goals as goal

pub returns : goal.returns
unfolding field
returns c = indexed field_of c.args.self.now.fields.items c.args.n _ c.index.result.now c.requires c.index.ensures
