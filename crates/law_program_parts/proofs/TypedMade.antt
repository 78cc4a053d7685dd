-- What the program of a text is made of.
use Rattle.std.proofs.Common.{◌≡◌, refl, sym, ◌∙◌, ap, ℕ, List, [], ◌∷◌, Option, Some, None, Result, Ok, Err}
use Rattle.wy_kernel.specs.Program.{Program}
use Rattle.wy_kernel.specs.Table.{Table}
use Rattle.wy_constant.specs.Refusal.{Refusal}
use Rattle.wy_constant.specs.Scope.{FixedText}
use Rattle.wy_members.specs.Declarations.{CompilationUnit, table}
use Rattle.wy_members.specs.Constants.{IsTableOf}
use Rattle.wy_members.specs.Refusal.{KeepsRules}
use Rattle.wy_elab_expr.specs.Operators.{Judgement, Settles}
use Rattle.wy_elab_stmt.specs.Program.{Bodies, bodies_of, library_text, in_order, main_of, setting, program_with, with_main, again, from_texts, program}
use Rattle.wy_elab_stmt.specs.Elaborates.{Elaborates, by_declarations, by_bodies}

-- the bodies are made twice: first with the texts as they are met, and then with these in their order
pub record MadeOf (j : Judgement) (t : Table) (unit : CompilationUnit) (p : Program) : Type 0 where
  pub main : ℕ
  pub first : Bodies × List FixedText
  pub made_first : bodies_of (setting j t unit) unit (library_text ∷ []) ≡ Ok first
  pub bodies : Bodies
  pub texts : List FixedText
  pub made : bodies_of (setting j t unit) unit (in_order first.1) ≡ Ok (bodies, texts)
  pub is : program_with t unit main bodies texts ≡ p
  pub main_there : main_of t unit ≡ Some main

module _ (j : Judgement) (t : Table) (unit : CompilationUnit) (tokens : ℕ) (p : Program) where
  one_program : (a b : Program) (r : Result Program Refusal) → r ≡ Ok a → r ≡ Ok b → a ≡ b
  one_program a b r e f = cc

  main_by : (first : Bodies × List FixedText) (o : Option ℕ) (bodies : Bodies) (texts : List FixedText) → bodies_of (setting j t unit) unit (library_text ∷ []) ≡ Ok first → main_of t unit ≡ o →
      bodies_of (setting j t unit) unit (in_order first.1) ≡ Ok (bodies, texts) → with_main t unit tokens o bodies texts ≡ Ok p → MadeOf j t unit p
  main_by first (Some main) bodies texts begun o made e =
      record { main = main; first = first; made_first = begun; bodies = bodies; texts = texts; made = made; is = one_program (program_with t unit main bodies texts) p _ refl e; main_there = o }
  main_by first None bodies texts begun o made e = absurd (cc)

  again_by : (first : Bodies × List FixedText) (r : Result (Bodies × List FixedText) Refusal) → bodies_of (setting j t unit) unit (library_text ∷ []) ≡ Ok first → bodies_of (setting j t unit) unit (in_order first.1) ≡ r → again j t unit tokens r ≡ Ok p → MadeOf j t unit p
  again_by first (Ok q) begun made e = main_by first (main_of t unit) q.0 q.1 begun refl made e
  again_by first (Err x) begun made e = absurd (cc)

  texts_by : (r : Result (Bodies × List FixedText) Refusal) → bodies_of (setting j t unit) unit (library_text ∷ []) ≡ r → from_texts j t unit tokens r ≡ Ok p → MadeOf j t unit p
  texts_by (Ok q) begun e = again_by q (bodies_of (setting j t unit) unit (in_order q.1)) begun refl e
  texts_by (Err x) begun e = absurd (cc)

  pub made_of : program j t unit tokens ≡ Ok p → MadeOf j t unit p
  unfolding program
  made_of e = texts_by (bodies_of (setting j t unit) unit (library_text ∷ [])) refl e

-- a text that keeps the rules on declarations, and the program that it becomes, whose declarations are those of its table
pub record Comes (unit : CompilationUnit) (tokens : ℕ) (p : Program) : Type 0 where
  pub t : Table
  pub j : Judgement
  pub keeps : KeepsRules unit
  pub is_table : IsTableOf unit t
  pub settles : Settles t j
  pub becomes : program j t unit tokens ≡ Ok p
  pub made : MadeOf j t unit p
  pub classes : (table unit).classes ≡ p.classes
  pub methods : (table unit).methods ≡ p.methods
  pub fields : (table unit).fields ≡ p.fields

comes_of : (unit : CompilationUnit) (tokens : ℕ) (p : Program) (r : Result Program Refusal) → Elaborates unit tokens r → r ≡ Ok p → Comes unit tokens p
comes_of unit tokens p r (by_declarations rule token h) e = absurd (cc)
comes_of unit tokens p r (by_bodies t j keeps is settles) e =
    let made = made_of j t unit tokens p e in
    record {
      t = t;
      j = j;
      keeps = keeps;
      is_table = is;
      settles = settles;
      becomes = e;
      made = made;
      classes = sym (ap (λ (x : Table). x.classes) is.rows) ∙ ap (λ (x : Program). x.classes) made.is;
      methods = sym (ap (λ (x : Table). x.methods) is.rows) ∙ ap (λ (x : Program). x.methods) made.is;
      fields = sym (ap (λ (x : Table). x.fields) is.rows) ∙ ap (λ (x : Program). x.fields) made.is;
    }

pub comes : (unit : CompilationUnit) (tokens : ℕ) (p : Program) → Elaborates unit tokens (Ok p) → Comes unit tokens p
comes unit tokens p h = comes_of unit tokens p (Ok p) h refl
