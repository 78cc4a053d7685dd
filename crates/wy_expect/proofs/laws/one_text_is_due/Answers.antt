use Rattle.wy_expect.proofs.One.{one_due}
use Rattle.wy_expect.proofs.laws.one_text_is_due.Goals as goal

pub returns : goal.returns
returns c = one_due c.items_are_one.ensures
