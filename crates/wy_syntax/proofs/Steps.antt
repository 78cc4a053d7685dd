-- Steps behind an expression, one at a time.
use Rattle.std.proofs.Common.{◌≡◌, ℕ, ◌+◌, Bool, false, refl, sym, ◌∙◌}
use Rattle.wy_tree.specs.Seen.{Tok}
use Rattle.wy_tree.specs.Ast.{Asts, Leaf, Node, more}
use Rattle.wy_tree.specs.declared.tree.Form.{Form}
use Rattle.wy_syntax.specs.Syntax as plain
use Rattle.wy_syntax.specs.Names.{sign_of, is_up}
use Rattle.wy_syntax.specs.Expressions.{stepped}

pub steps_go : (e given : plain.Expression) (n : ℕ) (u : Bool) (o : Tok) (ts rest : Asts) (all : plain.Expression)
    → ts ≡ more (Leaf o) rest → given ≡ plain.Step false u e n → u ≡ is_up (sign_of o) → stepped e n ts ≡ all → stepped given (n + 1) rest ≡ all
steps_go e given n u o ts rest all shape eg eu h = sym (rw (shape, eg, eu) refl) ∙ h

pub steps_wrong : (e : plain.Expression) (n : ℕ) (f : Form) (ps ts rest : Asts) (all : plain.Expression)
    → ts ≡ more (Node f ps) rest → stepped e n ts ≡ all → plain.Wrong ≡ all
steps_wrong e n f ps ts rest all shape h = sym (rw (shape) refl) ∙ h
