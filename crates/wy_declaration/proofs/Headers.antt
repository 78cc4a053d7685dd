-- Headers by the shape of their parts.
use Rattle.std.proofs.Common.{◌≡◌, ℕ, ◌+◌, false, List, [], ◌∷◌, ◌++◌, map, refl, ap, sym, ◌∙◌}
use Rattle.wy_tree.specs.Seen.{Tok}
use Rattle.wy_tree.specs.Ast.{Ast, Asts, Leaf, Node, none, more}
use Rattle.wy_tree.specs.declared.tree.Form.{Form}
use Rattle.wy_syntax.specs.Syntax as plain
use Rattle.wy_syntax.specs.Names.{width}
use Rattle.wy_syntax.specs.Declarations.{parameter_of, parameter_in, parameter, parameters}
use Rattle.wy_syntax.specs.View.{parameter_of as parameter_seen}
use Rattle.wy_syntax.specs.declared.declaration.Parameter.{Parameter}
use Rattle.wy_declaration.proofs.Rows.{grown}

-- ---- a parameter

pub parameter_node : (n : ℕ) (t : Ast) (f : Form) (ts : Asts) → t ≡ Node f ts → parameter_in n ts ≡ parameter n t
parameter_node n t f ts e = rw e refl

pub parameter_leaf : (n : ℕ) (t : Ast) (o : Tok) → t ≡ Leaf o → parameter_of false n none ≡ parameter n t
parameter_leaf n t o e = rw e refl

-- ---- parameters

pub parameters_go : (n m k : ℕ) (found all_found : List Parameter) (d : Parameter) (ts us rest : Asts) (v mark : Ast) (all : List plain.Parameter)
    → all_found ≡ found ++ (d ∷ []) → ts ≡ more v us → us ≡ more mark rest → m ≡ n + width v → k ≡ m + width mark → parameter_seen d ≡ parameter n v
    → map parameter_seen found ++ parameters n ts ≡ all → map parameter_seen all_found ++ parameters k rest ≡ all
unfolding parameters
parameters_go n m k found all_found d ts us rest v mark all eg shape after em ek ed h =
    grown parameter_seen found all_found d (parameter n v) _ all eg ed (ap (λ r. map parameter_seen found ++ r) (sym (rw (shape, after, ek, em) refl)) ∙ h)

pub parameters_alone : (n : ℕ) (ts us : Asts) (v : Ast) → ts ≡ more v us → us ≡ none → parameters n ts ≡ []
unfolding parameters
parameters_alone n ts us v shape after = rw (shape, after) refl

pub parameters_end : (n : ℕ) (ts : Asts) → ts ≡ none → parameters n ts ≡ []
unfolding parameters
parameters_end n ts shape = rw shape refl
