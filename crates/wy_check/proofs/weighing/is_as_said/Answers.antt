use Rattle.std.proofs.Common.{◌∙◌}
use Rattle.wy_check.proofs.Weights.{said_so}
use Rattle.wy_check.proofs.weighing.is_as_said.Goals as goal

pub returns-then-are_same : goal.returns-then-are_same
returns-then-are_same c = said_so c.args.found.now c.args.line.now c.args.listed.now c.are_marked.result (c.are_same.ensures.0 c.if-are_same.true ∙ c.as_slice.ensures) c.are_marked.ensures
