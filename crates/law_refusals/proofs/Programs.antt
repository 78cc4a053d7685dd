-- Where a program is refused, something in it breaks the rule.
use Rattle.std.proofs.Common.{◌≡◌, ◌∙◌, ap, sym, subst, refl, arith, ℕ, suc, ◌+◌, List, [], ◌∷◌, Option, Some, Result, Ok, Err}
use Rattle.std.specs.Prelude.{slice_get}
use Rattle.std.specs.Prelude.{None as Absent}
use Rattle.std.specs.List.{All, Contains, enumerate_from}
use Rattle.std.proofs.lemmas.List.Elements.{All-head, All-tail}
use Rattle.wy_kernel.specs.Program.{Program, first_source_class}
use Rattle.wy_kernel.specs.Table.{Table}
use Rattle.wy_syntax.specs.Syntax.{ClassSyntax}
use Rattle.wy_constant.specs.declared.rule.Rule.TheVariants.{NoMain}
use Rattle.wy_constant.specs.Refusal.{Refusal, refused}
use Rattle.wy_constant.specs.Scope.{FixedText}
use Rattle.wy_members.specs.Declarations.{CompilationUnit, classes_of, table}
use Rattle.wy_members.specs.Broken.{IsSourceClass}
use Rattle.wy_members.specs.Refusal.{KeepsRules}
use Rattle.wy_members.specs.Constants.{IsTableOf}
use Rattle.wy_members.proofs.Contained.{in_numbered}
use Rattle.wy_elab_expr.specs.Meaning.{give, ◌>>=◌}
use Rattle.wy_elab_expr.specs.Operators.{Judgement, Settles}
use Rattle.wy_elab_body.specs.Statements.{Setting}
use Rattle.wy_elab_stmt.specs.Classes.{class_bodies}
use Rattle.wy_elab_stmt.specs.Program.{Bodies, and_more, bodies_from, bodies_of, library_text, in_order, main_of, setting, with_main, again, from_texts, program}
use Rattle.wy_elab_stmt.specs.Elaborates.{Elaborates, by_declarations, by_bodies}
use Rattle.law_refusals.proofs.Walk.{Only, only_give, only_bind, only_weaker}
use Rattle.law_well_formed.specs.Complete.{IsCompleteClass, IsCompleteUnit}
use Rattle.law_refusals.specs.Units.{IsBrokenClass, HasNoMain, IsBrokenUnit}
use Rattle.law_refusals.specs.Units as units
use Rattle.law_refusals.specs.ProgramLaws.{ProgramRefusalsAreDue, UnbrokenProgramsAreAccepted}
use Rattle.law_refusals.proofs.Classes.{class_only}
use Rattle.law_refusals.proofs.Main.{no_main_found}

-- a class among these, which are numbered from c on, breaks the rule
record ClassesBroken (w : Setting) (c : ℕ) (ks : List ClassSyntax) (r : Refusal) : Type 0 where
  place : ℕ
  class : ClassSyntax
  number : ℕ
  sum : number ≡ c + place
  stands : slice_get ks place ≡ Some class
  broken : IsBrokenClass w number class r.rule r.token

here_in : (w : Setting) (c : ℕ) (k : ClassSyntax) (rest : List ClassSyntax) (r : Refusal) → IsBrokenClass w c k r.rule r.token → ClassesBroken w c (k ∷ rest) r
here_in w c k rest r h = record { place = 0; class = k; number = c; sum = omega arith; stands = refl; broken = h }

later_in : (w : Setting) (c : ℕ) (k : ClassSyntax) (rest : List ClassSyntax) (r : Refusal) → ClassesBroken w (suc c) rest r → ClassesBroken w c (k ∷ rest) r
later_in w c k rest r h = let s : h.number ≡ suc c + h.place = h.sum in record { place = suc h.place; class = h.class; number = h.number; sum = omega arith; stands = h.stands; broken = h.broken }

classes_only : (w : Setting) → Settles w.table w.judgement → (c : ℕ) (ks : List ClassSyntax) → All IsCompleteClass ks → Only (ClassesBroken w c ks) (bodies_from w c ks)
unfolding bodies_from
classes_only w g c [] h = only_give
classes_only w g c (k ∷ rest) h =
    only_bind {m = class_bodies w c k} {f = λ x. bodies_from w (suc c) rest >>= λ xs. give (and_more x xs)} (only_weaker (λ r q. here_in w c k rest r q) (class_only w g c k (All-head IsCompleteClass k rest h)))
    (λ x u v is. only_bind {m = bodies_from w (suc c) rest} {f = λ xs. give (and_more x xs)}
    (only_weaker (λ r q. later_in w c k rest r q) (classes_only w g (suc c) rest (All-tail IsCompleteClass k rest h))) (λ xs y z it. only_give))

-- what is known of a program whose declarations keep the rules
record Kept (unit : CompilationUnit) (t : Table) (j : Judgement) : Type 0 where
  keeps : KeepsRules unit
  is_table : IsTableOf unit t
  settles : Settles t j

module _ (unit : CompilationUnit) (tokens : ℕ) (t : Table) (j : Judgement) (kept : Kept unit t j) (written : IsCompleteUnit unit) where
  abbrev UnitBroken : Refusal → Type 0
  UnitBroken r = IsBrokenUnit unit tokens r.rule r.token

  of_classes : (r : Refusal) → ClassesBroken (setting j t unit) first_source_class (classes_of unit) r → UnitBroken r
  of_classes r h =
      let same : first_source_class + h.place ≡ h.number = sym h.sum in
      let is : IsSourceClass unit h.number h.class =
      let Q : ℕ → Type 0 = λ n. Contains (enumerate_from first_source_class (classes_of unit)) (n, h.class) in
      subst Q same (in_numbered first_source_class (classes_of unit) h.place h.class h.stands) in
      units.of_body kept.keeps kept.is_table kept.settles is h.broken

  bodies_only : Only UnitBroken (bodies_of (setting j t unit) unit)
  bodies_only = only_weaker of_classes (classes_only (setting j t unit) kept.settles first_source_class (classes_of unit) written)

  main_by : (x : Refusal) (bodies : Bodies) (texts : List FixedText) → (o : Option ℕ) → main_of t unit ≡ o → with_main t unit tokens o bodies texts ≡ Err x → UnitBroken x
  main_by x bodies texts (Some m) e h = absurd (cc)
  main_by x bodies texts Absent e h =
      let same : refused NoMain tokens ≡ x = cc in
      let methods : t.methods ≡ (table unit).methods = ap (λ (z : Table). z.methods) kept.is_table.rows in
      subst UnitBroken same (units.no_main (no_main_found t unit methods e))

  again_by : (x : Refusal) (texts : List FixedText) (r : Result (Bodies × List FixedText) Refusal) → bodies_of (setting j t unit) unit texts ≡ r → again j t unit tokens r ≡ Err x → UnitBroken x
  again_by x texts (Ok p) e h = main_by x p.0 p.1 (main_of t unit) refl h
  again_by x texts (Err y) e h = let same : y ≡ x = cc in bodies_only.at texts x (e ∙ ap Err same)

  texts_by : (x : Refusal) (r : Result (Bodies × List FixedText) Refusal) → bodies_of (setting j t unit) unit (library_text ∷ []) ≡ r → from_texts j t unit tokens r ≡ Err x → UnitBroken x
  texts_by x (Ok p) e h = again_by x (in_order p.1) (bodies_of (setting j t unit) unit (in_order p.1)) refl h
  texts_by x (Err y) e h = let same : y ≡ x = cc in bodies_only.at (library_text ∷ []) x (e ∙ ap Err same)

  program_broken : (x : Refusal) → program j t unit tokens ≡ Err x → UnitBroken x
  unfolding program
  program_broken x h = texts_by x (bodies_of (setting j t unit) unit (library_text ∷ [])) refl h

due_by : (unit : CompilationUnit) (tokens : ℕ) (r : Result Program Refusal) (x : Refusal) → IsCompleteUnit unit → Elaborates unit tokens r → r ≡ Err x → IsBrokenUnit unit tokens x.rule x.token
due_by unit tokens _ x written (by_declarations rule token is) e =
    let same : refused rule token ≡ x = cc in
    let Q : Refusal → Type 0 = λ z. IsBrokenUnit unit tokens z.rule z.token in
    subst Q same (units.of_declaration is.broken)
due_by unit tokens _ x written (by_bodies t j keeps is_table settles) e = program_broken unit tokens t j (record { keeps = keeps; is_table = is_table; settles = settles }) written x e

pub due : ProgramRefusalsAreDue
due unit tokens rule token written h = due_by unit tokens (Err (refused rule token)) (refused rule token) written h refl

pub accepted : UnbrokenProgramsAreAccepted
accepted unit tokens (Ok p) written unbroken h = (p, refl)
accepted unit tokens (Err x) written unbroken h = absurd (unbroken x.rule x.token (due_by unit tokens (Err x) x written h refl))
