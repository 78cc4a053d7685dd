use Rattle.std.proofs.Common.{◌∙◌}
use Rattle.wy_kernel.specs.Program.{fixed_text}
use Rattle.wy_kernel.proofs.Indexed.{indexed}
use Rattle.wy_kernel.proofs.program.Program.fixed_text.Goals as goal

pub returns : goal.returns
unfolding fixed_text
returns c = c.deref.ensures.value ∙ indexed (λ v. v.items) c.args.self.now.fixed_texts.items c.args.n _ c.index.result.now c.requires c.index.ensures
