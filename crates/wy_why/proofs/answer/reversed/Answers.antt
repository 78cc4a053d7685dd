use Rattle.wy_why.proofs.answer.reversed.Goals as goal

pub returns : goal.returns
returns c = c.reverse.ensures.items
