-- A tree has as many tokens as it is wide, and what is elaborated is one.
use Rattle.std.proofs.Common.{◌≡◌, ◌∙◌, sym, ap, subst, refl, ℕ, ◌+◌, ◌≤◌, List, length, map, arith, length-append, Err}
use Rattle.std.proofs.lemmas.List.{length-map}
use Rattle.wy_kernel.specs.Table.{Table}
use Rattle.wy_tree.specs.Seen.{Tok}
use Rattle.wy_tree.specs.Ast.{Ast, Asts, Leaf, Node, none, more, tokens, tokens_all}
use Rattle.wy_syntax.specs.Names.{width, widths}
use Rattle.wy_constant.specs.Refusal.{refused}
use Rattle.wy_members.specs.Declarations.{CompilationUnit, table}
use Rattle.wy_members.specs.Constants.{IsTableOf, with_constants}
use Rattle.wy_members.specs.Refusal.{OneIsDue, NoneIsDue}
use Rattle.wy_members.specs.Laws.{OneListOfConstants}
use Rattle.wy_elab_expr.specs.Operators.{Judgement, Settles}
use Rattle.law_judgement.specs.Laws.{OneJudgement}
use Rattle.wy_elab_stmt.specs.Program.{program}
use Rattle.wy_elab_stmt.specs.Elaborates.{by_declarations, by_bodies, OneElaboration}

mutual
  pub as_wide : (t : Ast) → width t ≡ length (tokens t)
  as_wide (Leaf o) = refl
  as_wide (Node f parts) = all_as_wide parts

  pub all_as_wide : (ts : Asts) → widths ts ≡ length (tokens_all ts)
  all_as_wide none = refl
  all_as_wide (more t rest) =
      let a : width t ≡ length (tokens t) = as_wide t in
      let b : widths rest ≡ length (tokens_all rest) = all_as_wide rest in
      omega (arith, length-append (tokens t) (tokens_all rest))

-- the tokens of a tree that are those of a list are as many
pub within : {X : Type 0} (f : X → Tok) (t : Ast) (xs : List X) → tokens t ≡ map f xs → length xs ≤ 1048576 → 0 + width t ≤ 1048576
within f t xs is few =
    let a : width t ≡ length (tokens t) = as_wide t in
    let b : length (tokens t) ≡ length (map f xs) = ap length is in
    omega (arith, length-map xs f)

one_table : OneListOfConstants → (unit : CompilationUnit) (t u : Table) → IsTableOf unit t → IsTableOf unit u → t ≡ u
one_table one unit t u a b = a.rows ∙ ap (with_constants (table unit)) (one unit t.constants u.constants a.constants b.constants) ∙ sym b.rows

settled_along : {t u : Table} {k : Judgement} → t ≡ u → Settles u k → Settles t k
settled_along {k} e h = let P : Table → Type 0 = λ x. Settles x k in subst P (sym e) h

one_program : OneJudgement → (unit : CompilationUnit) (tokens : ℕ) (t u : Table) (j k : Judgement) → t ≡ u → Settles t j → Settles u k → program j t unit tokens ≡ program k u unit tokens
one_program one unit tokens t u j k e h i =
    let same : j ≡ k = one t j k h (settled_along e i) in λ x. program (same x) (e x) unit tokens

pub one_elaboration : OneIsDue → NoneIsDue → OneListOfConstants → OneJudgement → OneElaboration
one_elaboration due neither list judged unit tokens a b (by_declarations rule token h) (by_declarations other later i) =
    let same = due unit rule other token later h i in λ x. Err (refused (same.0 x) (same.1 x))
one_elaboration due neither list judged unit tokens a b (by_declarations rule token h) (by_bodies t j keeps is settles) = absurd (neither unit rule token keeps h)
one_elaboration due neither list judged unit tokens a b (by_bodies t j keeps is settles) (by_declarations rule token h) = absurd (neither unit rule token keeps h)
one_elaboration due neither list judged unit tokens a b (by_bodies t j keeps is settles) (by_bodies u k keeps_too is_too settles_too) =
    one_program judged unit tokens t u j k (one_table list unit t u is is_too) settles settles_too
