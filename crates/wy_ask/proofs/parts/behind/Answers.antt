use Rattle.wy_ask.proofs.Fronts.{stripped}
use Rattle.wy_ask.proofs.parts.behind.Goals as goal

pub returns : goal.returns
returns c = stripped c.args.front.now c.args.text.now c.strip_prefix.result c.strip_prefix.ensures.cases
