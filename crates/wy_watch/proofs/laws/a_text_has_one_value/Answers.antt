use Rattle.wy_watch.proofs.OneValue.{one_value}
use Rattle.wy_watch.proofs.laws.a_text_has_one_value.Goals as goal

pub returns : goal.returns
returns c = one_value c.a_text_has_one_token_list.ensures c.a_token_list_has_one_tree.ensures
