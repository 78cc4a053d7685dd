-- Trees by their form.
use Rattle.std.proofs.Common.{◌≡◌, true, false, refl}
use Rattle.wy_tree.specs.Ast.{Ast, Asts, Leaf, Node}
use Rattle.wy_tree.specs.declared.tree.Form.TheVariants as form
use Rattle.wy_syntax.specs.Declarations.{is_block, is_params, is_arguments}

pub a_block : (t : Ast) (ts : Asts) → t ≡ Node form.Block ts → true ≡ is_block t
a_block t ts e = rw e refl

pub no_block : (t : Ast) → ((ts : Asts) → t ≡ Node form.Block ts → ⊥) → false ≡ is_block t
no_block (Leaf o) h = refl
no_block (Node form.Block ts) h = absurd (h ts refl)
no_block (Node _ ts) h = refl

pub a_list : (t : Ast) (ts : Asts) → t ≡ Node form.Params ts → true ≡ is_params t
a_list t ts e = rw e refl

pub no_list : (t : Ast) → ((ts : Asts) → t ≡ Node form.Params ts → ⊥) → false ≡ is_params t
no_list (Leaf o) h = refl
no_list (Node form.Params ts) h = absurd (h ts refl)
no_list (Node _ ts) h = refl

pub a_row : (t : Ast) (ts : Asts) → t ≡ Node form.Args ts → true ≡ is_arguments t
a_row t ts e = rw e refl

pub no_row : (t : Ast) → ((ts : Asts) → t ≡ Node form.Args ts → ⊥) → false ≡ is_arguments t
no_row (Leaf o) h = refl
no_row (Node form.Args ts) h = absurd (h ts refl)
no_row (Node _ ts) h = refl
