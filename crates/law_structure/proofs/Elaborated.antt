-- What each program is made from.
use Rattle.std.proofs.Common.{◌≡◌, refl, ℕ, List, [], ◌∷◌, Result, Ok, Err}
use Rattle.std.specs.Prelude.{Option, Some, None}
use Rattle.wy_kernel.specs.Program.{Program}
use Rattle.wy_kernel.specs.Table.{Table}
use Rattle.wy_constant.specs.Refusal.{Refusal}
use Rattle.wy_constant.specs.Scope.{FixedText}
use Rattle.wy_members.specs.Declarations.{CompilationUnit}
use Rattle.wy_members.specs.Constants.{IsTableOf}
use Rattle.wy_elab_expr.specs.Operators.{Judgement}
use Rattle.wy_elab_stmt.specs.Program.{Bodies, bodies_of, setting, program, program_with, with_main, main_of, again, from_texts, library_text, in_order}
use Rattle.wy_elab_stmt.specs.Elaborates.{Elaborates, by_declarations, by_bodies}

-- the bodies that are made of the declarations, by their table and a judgement, with the texts that their forms hold
pub record MadeFrom (unit : CompilationUnit) (p : Program) : Type 0 where
  pub judgement : Judgement
  pub table : Table
  pub is_table : IsTableOf unit table
  pub main : ℕ
  pub bodies : Bodies
  pub texts : List FixedText
  pub after : List FixedText
  pub made : bodies_of (setting judgement table unit) unit texts ≡ Ok (bodies, after)
  pub is : program_with table unit main bodies after ≡ p

module _ (unit : CompilationUnit) (tokens : ℕ) (p : Program) (j : Judgement) (t : Table) (is_table : IsTableOf unit t) where
  with_this_main : (main : Option ℕ) (bs : Bodies) (texts after : List FixedText) → bodies_of (setting j t unit) unit texts ≡ Ok (bs, after) → with_main t unit tokens main bs after ≡ Ok p → MadeFrom unit p
  with_this_main None bs texts after made e = absurd cc
  with_this_main (Some main) bs texts after made e = record { judgement = j; table = t; is_table = is_table; main = main; bodies = bs; texts = texts; after = after; made = made; is = cc }

  made_again : (texts : List FixedText) (r : Result (Bodies × List FixedText) Refusal) → bodies_of (setting j t unit) unit texts ≡ r → again j t unit tokens r ≡ Ok p → MadeFrom unit p
  made_again texts (Ok q) is e = with_this_main (main_of t unit) q.0 texts q.1 is e
  made_again texts (Err x) is e = absurd cc

  made_first : (r : Result (Bodies × List FixedText) Refusal) → from_texts j t unit tokens r ≡ Ok p → MadeFrom unit p
  made_first (Ok q) e = made_again (in_order q.1) (bodies_of (setting j t unit) unit (in_order q.1)) refl e
  made_first (Err x) e = absurd cc

  program_made : program j t unit tokens ≡ Ok p → MadeFrom unit p
  unfolding program
  program_made e = made_first (bodies_of (setting j t unit) unit (library_text ∷ [])) e

elaborated_by : (unit : CompilationUnit) (tokens : ℕ) (r : Result Program Refusal) → Elaborates unit tokens r → (p : Program) → r ≡ Ok p → MadeFrom unit p
elaborated_by unit tokens r (by_declarations rule token is) p e = absurd cc
elaborated_by unit tokens r (by_bodies t j keeps is settles) p e = program_made unit tokens p j t is e

pub made_from : (unit : CompilationUnit) (tokens : ℕ) (p : Program) → Elaborates unit tokens (Ok p) → MadeFrom unit p
made_from unit tokens p h = elaborated_by unit tokens (Ok p) h p refl
