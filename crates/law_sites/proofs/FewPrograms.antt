-- A program has no more `&&`, `||` and `?:` of a site than its text has signs there.
use Rattle.std.proofs.Common.{◌≡◌, ◌∙◌, refl, sym, ap, subst, List, [], ◌∷◌, ◌++◌, append_assoc}
use Rattle.std.specs.Prelude.{ℕ, Option, Some, None, flat_map, map}
use Rattle.wy_kernel.specs.Form as kernel
use Rattle.wy_kernel.specs.Program.{Program, Body, Class, first_source_class}
use Rattle.wy_kernel.specs.Builtin as builtin
use Rattle.wy_kernel.specs.Statements.{statements, statements_within, statements_of_other, statements_of_all, statements_of_catches, statements_of_body, statements_of_bodies}
use Rattle.wy_members.specs.Declarations.{CompilationUnit, classes_of}
use Rattle.wy_library.specs.Library.{library_bodies, library_init_bodies}
use Rattle.wy_elab_stmt.specs.Program.{setting}
use Rattle.law_structure.specs.Sites.{deciding, deciding_in_part, deciding_in_act, deciding_in_statement}
use Rattle.law_structure.proofs.Elaborated.{MadeFrom}
use Rattle.law_sites.specs.Choices.{choice_sites}
use Rattle.law_sites.proofs.Fewer.{Fewer, few_same, few_none, few_then, few_both, few_crossed, few_behind}
use Rattle.law_sites.proofs.FewStatements.{choices, choices_in, choices_of_other, choices_of_all, choices_of_catches}
use Rattle.law_sites.proofs.FewClasses.{classes_signs, choices_of_body, choices_of_bodies, bodies_both, bodies_few}

abbrev decided : List kernel.Statement → List ℕ
decided xs = flat_map deciding_in_statement xs

decided_both : (xs ys : List kernel.Statement) → decided (xs ++ ys) ≡ decided xs ++ decided ys
decided_both [] ys = refl
decided_both (x ∷ xs) ys = ap (λ zs. deciding_in_statement x ++ zs) (decided_both xs ys) ∙ sym (append_assoc (deciding_in_statement x) (decided xs) (decided ys))

few_decided : {ks ls : List ℕ} (xs ys : List kernel.Statement) → Fewer (decided xs) ks → Fewer (decided ys) ls → Fewer (decided (xs ++ ys)) (ks ++ ls)
few_decided {ks} {ls} xs ys h i = let P : List ℕ → Type 0 = λ zs. Fewer zs (ks ++ ls) in subst P (sym (decided_both xs ys)) (few_both h i)

mutual
  all_decided : (s : kernel.Statement) → Fewer (decided (statements s)) (choices s)
  all_decided (kernel.Stmt number site askable reach act) = act_decided act

  act_decided : (act : kernel.Act) → Fewer (deciding_in_act act ++ decided (statements_within act)) (choices_in act)
  act_decided (kernel.Block parts) = row_decided parts
  act_decided (kernel.Eval value) = few_behind (few_same (deciding value))
  act_decided (kernel.Declare local) = few_none []
  act_decided (kernel.If test x y) = few_both (few_same (deciding test)) (few_decided (statements x) (statements_of_other y) (all_decided x) (other_decided y))
  act_decided (kernel.While test x) = few_both (few_same (deciding test)) (all_decided x)
  act_decided (kernel.Do x test) = few_both (few_same (deciding test)) (all_decided x)
  act_decided (kernel.For inits test updates x) =
      few_both (few_same (deciding_in_part test))
      (few_decided (statements_of_all inits) (statements_of_all updates ++ statements x) (row_decided inits) (few_decided (statements_of_all updates) (statements x) (row_decided updates) (all_decided x)))
  act_decided (kernel.Labelled x) = all_decided x
  act_decided (kernel.Jump target) = few_none []
  act_decided (kernel.Return value) = few_behind (few_same (deciding_in_part value))
  act_decided (kernel.Throw value) = few_behind (few_same (deciding value))
  act_decided (kernel.Try x catches y) =
      few_decided (statements x) (statements_of_catches catches ++ statements_of_other y) (all_decided x) (few_decided (statements_of_catches catches) (statements_of_other y) (catches_decided catches) (other_decided y))
  act_decided (kernel.Print operand ty ends_line at) = few_behind (few_same (deciding_in_part operand))

  other_decided : (x : kernel.Other) → Fewer (decided (statements_of_other x)) (choices_of_other x)
  other_decided kernel.nothing = few_none []
  other_decided (kernel.this s) = all_decided s

  row_decided : (x : kernel.Statements) → Fewer (decided (statements_of_all x)) (choices_of_all x)
  row_decided kernel.done = few_none []
  row_decided (kernel.first s rest) = few_decided (statements s) (statements_of_all rest) (all_decided s) (row_decided rest)

  catches_decided : (x : kernel.Catches) → Fewer (decided (statements_of_catches x)) (choices_of_catches x)
  catches_decided kernel.uncaught = few_none []
  catches_decided (kernel.catch class local site block rest) = few_decided (statements block) (statements_of_catches rest) (all_decided block) (catches_decided rest)

body_decided : (b : Option Body) → Fewer (decided (statements_of_body b)) (choices_of_body b)
body_decided None = few_none []
body_decided (Some b) = all_decided b.block

bodies_decided : (bs : List (Option Body)) → Fewer (decided (statements_of_bodies bs)) (choices_of_bodies bs)
bodies_decided [] = few_none []
bodies_decided (b ∷ rest) = few_decided (statements_of_body b) (statements_of_bodies rest) (body_decided b) (bodies_decided rest)

-- ---- the library

library_choices : choices_of_bodies library_bodies ≡ []
unfolding library_bodies
library_choices = refl

no_choices : (ks : List Class) → choices_of_bodies (map (λ (k : Class). None) ks) ≡ []
no_choices [] = refl
no_choices (k ∷ rest) = no_choices rest

library_init_choices : choices_of_bodies library_init_bodies ≡ []
unfolding library_init_bodies
library_init_choices = no_choices builtin.classes

pub program_few : (unit : CompilationUnit) (p : Program) → MadeFrom unit p → Fewer (choice_sites p) (classes_signs (classes_of unit))
program_few unit p m =
    let all = (bodies_few (setting m.judgement m.table unit) first_source_class (classes_of unit)).by m.texts m.after m.bodies m.made in
    let ks = classes_signs (classes_of unit) in
    let methods : choices_of_bodies (library_bodies ++ m.bodies.methods) ≡ choices_of_bodies m.bodies.methods =
    bodies_both library_bodies m.bodies.methods ∙ ap (λ zs. zs ++ choices_of_bodies m.bodies.methods) library_choices in
    let initializers : choices_of_bodies (library_init_bodies ++ m.bodies.initializers) ≡ choices_of_bodies m.bodies.initializers =
    bodies_both library_init_bodies m.bodies.initializers ∙ ap (λ zs. zs ++ choices_of_bodies m.bodies.initializers) library_init_choices in
    let P : Program → Type 0 = λ q. Fewer (choice_sites q) ks in
    let crossed : Fewer (choices_of_bodies m.bodies.methods ++ choices_of_bodies m.bodies.initializers) ks =
    few_then (few_crossed (few_same (choices_of_bodies m.bodies.methods)) (few_same (choices_of_bodies m.bodies.initializers))) all.few in
    let joined : Fewer (choices_of_bodies (library_bodies ++ m.bodies.methods) ++ choices_of_bodies (library_init_bodies ++ m.bodies.initializers)) ks =
    subst (λ (zs : List ℕ). Fewer zs ks) (λ i. sym methods i ++ sym initializers i) crossed in
    subst P m.is (few_then (few_decided (statements_of_bodies (library_bodies ++ m.bodies.methods)) (statements_of_bodies (library_init_bodies ++ m.bodies.initializers))
    (bodies_decided (library_bodies ++ m.bodies.methods)) (bodies_decided (library_init_bodies ++ m.bodies.initializers))) joined)
