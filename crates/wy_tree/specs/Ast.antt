-- Trees, as what they say.
use Rattle.std.specs.Prelude.{ℕ, List, [], ◌∷◌, ◌++◌, map, max, ◌+◌}
use Rattle.std.specs.Borrow.{Bor}
use Rattle.wy_tree.specs.declared.tree.Tree.{Tree}
use Rattle.wy_tree.specs.declared.tree.Tree.TheOpen.{Tree-F}
use Rattle.wy_tree.specs.declared.tree.Tree.TheOpen as layer
use Rattle.wy_tree.specs.declared.tree.Tree.TheFolds.{fold-Tree}
use Rattle.wy_tree.specs.declared.tree.Form.{Form}
use Rattle.wy_tree.specs.Seen.{Tok, seen}

mutual
  pub data Ast : Type 0 where
    Leaf : Tok → Ast
    Node : Form → Asts → Ast

  pub data Asts : Type 0 where
    none : Asts
    more : Ast → Asts → Asts

abbrev pub as_parts : List Ast → Asts
as_parts [] = none
as_parts (a ∷ all) = more a (as_parts all)

abbrev pub view_step : Tree-F Ast → Ast
view_step (layer.Leaf token) = Leaf (seen token)
view_step (layer.Node form parts) = Node form (as_parts parts.items)

-- a tree without where it lies in memory
unfoldable pub view : Tree → Ast
view = fold-Tree Ast view_step

abbrev pub views : List Tree → Asts
views all = as_parts (map view all)

-- the leaves from left to right
abbrev mutual
  pub tokens : Ast → List Tok
  tokens (Leaf t) = t ∷ []
  tokens (Node form parts) = tokens_all parts

  pub tokens_all : Asts → List Tok
  tokens_all none = []
  tokens_all (more a rest) = tokens a ++ tokens_all rest

-- a leaf, and a node without parts, has depth 1
abbrev mutual
  pub deep : Ast → ℕ
  deep (Leaf t) = 1
  deep (Node form parts) = deepest parts + 1

  pub deepest : Asts → ℕ
  deepest none = 0
  deepest (more a rest) = max (deep a) (deepest rest)

abbrev pub joined : Asts → Asts → Asts
joined none b = b
joined (more t a) b = more t (joined a b)

abbrev pub one : Ast → Asts
one a = more a none

-- A production that has a single part makes no node.
abbrev pub node : Form → Asts → Ast
node form (more t none) = t
node form parts = Node form parts

-- the nodes and leaves
abbrev mutual
  pub size : Ast → ℕ
  size (Leaf t) = 1
  size (Node form parts) = sizes parts + 1

  pub sizes : Asts → ℕ
  sizes none = 0
  sizes (more a rest) = size a + sizes rest

abbrev pub views_of : List (Bor Tree) → Asts
views_of [] = none
views_of (b ∷ all) = more (view b.now) (views_of all)
