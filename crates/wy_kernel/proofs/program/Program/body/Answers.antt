use Rattle.std.proofs.Common.{ap, ◌∙◌}
use Rattle.std.specs.Prelude.{option_map}
use Rattle.wy_kernel.specs.Program.{body}
use Rattle.wy_kernel.specs.View.{body_of}
use Rattle.wy_kernel.proofs.Indexed.{indexed, seen_through}
use Rattle.wy_kernel.proofs.program.Program.body.Goals as goal

pub returns : goal.returns
unfolding body
returns c = seen_through _ ∙ ap (option_map body_of) c.as_ref.ensures.value ∙ indexed (option_map body_of) c.args.self.now.bodies.items c.args.n _ c.index.result.now c.requires c.index.ensures
