use Rattle.wy_tree.proofs.Views.{view_node}
use Rattle.wy_tree.proofs.tree.node.Goals as goal

pub returns : goal.returns
returns c = view_node c.args.form c.args.parts
