-- The view of a tree, layer by layer, and of rows of trees.
use Rattle.std.proofs.Common.{◌≡◌, ap, sym, ◌∙◌, List, [], ◌∷◌, ◌++◌, max, refl, arith}
use Rattle.std.specs.declared.alloc.Global.{Global}
use Rattle.std.specs.declared.vec.Vec.{Vec}
use Rattle.wy_tree.specs.Seen.{seen}
use Rattle.wy_tree.specs.Ast.{Ast, Leaf, Node, more, view, views, view_step, joined, one, deep, deepest}
use Rattle.wy_tree.specs.declared.token.Token.{Token}
use Rattle.wy_tree.specs.declared.tree.Form.{Form}
use Rattle.wy_tree.specs.declared.tree.Tree.{Tree}
use Rattle.wy_tree.specs.declared.tree.Tree.TheOpen as layer
use Rattle.wy_tree.specs.declared.tree.Tree.TheVariants as trees
use Rattle.wy_tree.specs.declared.tree.Tree.TheFolds.{fold-roll-Tree}

pub view_leaf : (t : Token) → view (trees.Leaf t) ≡ Leaf (seen t)
unfolding view
view_leaf t = ap view (sym (trees.rolls-Leaf t)) ∙ fold-roll-Tree Ast view_step (layer.Leaf t)

pub view_node : (f : Form) (v : Vec Tree Global) → view (trees.Node f v) ≡ Node f (views v.items)
unfolding view
view_node f v = ap view (sym (trees.rolls-Node f v)) ∙ fold-roll-Tree Ast view_step (layer.Node f v)

pub views_push : (ts : List Tree) (t : Tree) → views (ts ++ (t ∷ [])) ≡ joined (views ts) (one (view t))
views_push [] t = refl
views_push (u ∷ ts) t = ap (λ z. more (view u) z) (views_push ts t)

pub deepest_push : (ts : List Tree) (t : Tree) → deepest (views (ts ++ (t ∷ []))) ≡ max (deepest (views ts)) (deep (view t))
deepest_push [] t = omega arith
deepest_push (u ∷ ts) t = omega (arith, deepest_push ts t)
