use Rattle.wy_parser.proofs.Complete.{one_tree}
use Rattle.wy_parser.proofs.laws.a_token_list_has_one_tree.Goals as goal

pub returns : goal.returns
returns c = one_tree
