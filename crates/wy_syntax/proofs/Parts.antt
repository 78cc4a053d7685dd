-- What the parts of a production say, at each shape that they may have.
use Rattle.std.proofs.Common.{◌≡◌, ℕ, refl, []}
use Rattle.wy_tree.specs.Ast.{Asts, Node}
use Rattle.wy_tree.specs.declared.tree.Form.{Form}
use Rattle.wy_tree.specs.declared.tree.Form.TheVariants as form
use Rattle.wy_syntax.specs.Syntax.{Class}
use Rattle.wy_syntax.specs.Names.{written}

pub not_written : (n : ℕ) (f : Form) (ts : Asts) → (f ≡ form.TypeNode → ⊥) → written n (Node f ts) ≡ record { base = Class []; token = n; brackets = 0 }
not_written n form.TypeNode ts ne = absurd (ne refl)
not_written n _ ts ne = refl
