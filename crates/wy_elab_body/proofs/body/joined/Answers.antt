use Rattle.std.proofs.Common.{ap, ◌∙◌}
use Rattle.wy_kernel.specs.View.{statements_of}
use Rattle.wy_elab_body.proofs.Blocks.{joined_row}
use Rattle.wy_elab_body.proofs.body.joined.Goals as goal

pub returns : goal.returns
returns c = ap statements_of c.in_ok-all.ensures ∙ joined_row _ _
