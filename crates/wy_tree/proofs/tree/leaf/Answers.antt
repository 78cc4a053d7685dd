use Rattle.wy_tree.proofs.Views.{view_leaf}
use Rattle.wy_tree.proofs.tree.leaf.Goals as goal

pub returns : goal.returns
returns c = view_leaf c.args.token
