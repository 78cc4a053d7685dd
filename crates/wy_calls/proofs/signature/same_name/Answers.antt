use Rattle.std.proofs.Common.{◌∙◌}
use Rattle.wy_calls.proofs.Chain.{same_by_units}
use Rattle.wy_calls.proofs.signature.same_name.Goals as goal

pub returns : goal.returns
returns c = c.eq.ensures ∙ same_by_units c.args.left.now c.args.right.now
