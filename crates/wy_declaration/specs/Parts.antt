-- Parts in memory as contracts see them.
use Rattle.std.specs.Prelude.{◌≡◌, ◌+◌, [], ◌∷◌, length}
use Rattle.wy_tree.specs.Ast.{Node, none, more, view, views}
use Rattle.wy_tree.specs.declared.tree.Form.{Form}
use Rattle.wy_syntax.specs.Names.{width}
use Rattle.wy_syntax.specs.Declarations as syntax
use Rattle.wy_syntax.specs.Declarations.{placed}
use Rattle.wy_declaration.specs.declared.part.Part.{Part}
use Rattle.wy_declaration.specs.declared.part.Parts.{Parts}

abbrev pub part_of : Part → syntax.Part
part_of p = record { at = p.at; entity = view p.tree.now }

unfoldable pub parts_of : Parts → syntax.Parts
parts_of p = placed p.at (views p.trees.now)

-- parts that are none
pub record IsEmpty (all : Parts) : Type 0 where
  pub parts : parts_of all ≡ []
  pub trees : views all.trees.now ≡ none

-- parts by the first, and those behind it
pub record Splits (all : Parts) (first : Part) (behind : Parts) : Type 0 where
  pub parts : parts_of all ≡ part_of first ∷ parts_of behind
  pub trees : views all.trees.now ≡ more (view first.tree.now) (views behind.trees.now)
  pub count : length all.trees.now ≡ length behind.trees.now + 1
  pub at : first.at ≡ all.at
  pub next : behind.at ≡ all.at + width (view first.tree.now)

-- the parts of a tree of a form
pub record Inside (form : Form) (outer : Part) (inner : Parts) : Type 0 where
  pub tree : view outer.tree.now ≡ Node form (views inner.trees.now)
  pub parts : parts_of inner ≡ placed outer.at (views inner.trees.now)
  pub at : inner.at ≡ outer.at
