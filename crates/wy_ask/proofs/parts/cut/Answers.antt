use Rattle.wy_ask.proofs.Fronts.{splits}
use Rattle.wy_ask.proofs.parts.cut.Goals as goal

pub returns : goal.returns
returns c = splits c.args.sign c.args.text.now c.split_once.result c.split_once.ensures.cases c.requires
