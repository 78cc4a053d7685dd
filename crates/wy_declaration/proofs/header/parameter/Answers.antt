use Rattle.std.proofs.Common.{◌≡◌, ap, sym, ◌∙◌, arith}
use Rattle.wy_tree.specs.Ast.{Node, view, views}
use Rattle.wy_syntax.specs.Names.{width, widths}
use Rattle.wy_syntax.specs.View.{parameter_of}
use Rattle.wy_syntax.proofs.Shapes.{leaf_is, node_is}
use Rattle.wy_declaration.proofs.Rows.{carried}
use Rattle.wy_declaration.proofs.Headers.{parameter_leaf, parameter_node}
use Rattle.wy_declaration.proofs.header.parameter.Goals as goal

pub invariant_of-parameter_in : goal.invariant_of-parameter_in
invariant_of-parameter_in c =
    let e : width (view c.args.part.tree.now) ≡ widths (views c.deref.result.now) = ap width (node_is _ _ _ c.in-Node.is) ∙ ap (λ z. widths (views z)) (sym c.deref.ensures.value) in
    record { within = omega (arith, e, c.args.part.within) }

pub returns-in-Leaf : goal.returns-in-Leaf
returns-in-Leaf c = c.lacking.ensures ∙ parameter_leaf _ _ _ (leaf_is _ _ c.in-Leaf.is)

pub returns-in-Node : goal.returns-in-Node
returns-in-Node c =
    carried _ parameter_of _ _ (parameter_node _ _ _ _ (node_is _ _ _ c.in-Node.is ∙ ap (λ z. Node c.in-Node.form (views z)) (sym c.deref.ensures.value))) c.parameter_in.ensures
