use Rattle.wy_tree.proofs.Once.{one_token_list}
use Rattle.wy_tree.proofs.laws.a_text_has_one_token_list.Goals as goal

pub returns : goal.returns
returns c = one_token_list
