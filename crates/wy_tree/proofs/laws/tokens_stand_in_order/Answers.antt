use Rattle.wy_tree.proofs.Order.{tokens_in_order}
use Rattle.wy_tree.proofs.laws.tokens_stand_in_order.Goals as goal

pub returns : goal.returns
returns c = tokens_in_order
