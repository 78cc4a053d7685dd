use Rattle.wy_explore.proofs.Doing.{one_reply_to_line}
use Rattle.wy_explore.proofs.laws.one_reply.Goals as goal

pub returns : goal.returns
returns c = one_reply_to_line c.items_are_one.ensures c.a_text_has_one_value.ensures
