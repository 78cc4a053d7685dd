-- What stands at the top of a program, by the form of its tree.
use Rattle.std.proofs.Common.{◌≡◌, ℕ, ◌+◌, List, [], ◌∷◌, ◌++◌, map, refl, ap, sym, ◌∙◌}
use Rattle.wy_tree.specs.Ast.{Ast, Asts, none, more}
use Rattle.wy_syntax.specs.Syntax as plain
use Rattle.wy_syntax.specs.Names.{width}
use Rattle.wy_syntax.specs.Declarations.{declaration, declarations}
use Rattle.wy_syntax.specs.View.{declaration_of}
use Rattle.wy_syntax.specs.declared.declaration.Declaration.{Declaration}
use Rattle.wy_declaration.proofs.Rows.{grown}

pub declarations_go : (n m : ℕ) (found all_found : List Declaration) (d : Declaration) (ts rest : Asts) (t : Ast) (all : List plain.Declaration)
    → all_found ≡ found ++ (d ∷ []) → ts ≡ more t rest → m ≡ n + width t → declaration_of d ≡ declaration n t
    → map declaration_of found ++ declarations n ts ≡ all → map declaration_of all_found ++ declarations m rest ≡ all
unfolding declarations
declarations_go n m found all_found d ts rest t all eg shape em ed h =
    grown declaration_of found all_found d (declaration n t) _ all eg ed (ap (λ r. map declaration_of found ++ r) (sym (rw (shape, em) refl)) ∙ h)

pub declarations_end : (n : ℕ) (ts : Asts) → ts ≡ none → declarations n ts ≡ []
unfolding declarations
declarations_end n ts shape = rw shape refl
