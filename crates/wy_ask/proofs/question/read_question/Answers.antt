use Rattle.wy_ask.proofs.Spellings.{answered}
use Rattle.wy_ask.proofs.question.read_question.Goals as goal

pub returns : goal.returns
returns c = answered c.args.text.now c.read.result c.read.ensures
