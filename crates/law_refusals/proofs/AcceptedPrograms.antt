-- What breaks a rule in a program is refused.
use Rattle.std.proofs.Common.{◌≡◌, ◌∙◌, ap, sym, subst, refl, arith, ℕ, zero, suc, ◌+◌, Bool, true, false, List, [], ◌∷◌, Option, Some, Result, Ok, Err}
use Rattle.std.specs.Prelude.{option_and_then, slice_get, flat_map, if◌then◌else◌}
use Rattle.std.specs.Prelude.{None as Absent}
use Rattle.std.specs.List.{Contains, position_from}
use Rattle.wy_kernel.specs.Program.{Program, first_source_class}
use Rattle.wy_kernel.specs.Table.{Table}
use Rattle.wy_syntax.specs.Syntax.{Header, Member, ClassSyntax, Braced}
use Rattle.wy_syntax.specs.Syntax as source
use Rattle.wy_constant.specs.declared.rule.Rule.{Rule}
use Rattle.wy_constant.specs.Refusal.{Refusal}
use Rattle.wy_constant.specs.Scope.{FixedText}
use Rattle.wy_members.specs.Declarations.{CompilationUnit, classes_of, table}
use Rattle.wy_members.specs.Broken.{IsSourceClass}
use Rattle.wy_members.specs.Refusal.{KeepsRules}
use Rattle.wy_members.specs.Constants.{IsTableOf, with_constants}
use Rattle.wy_members.proofs.Contained.{contained, of_flat, of_numbered}
use Rattle.wy_members.proofs.Least.{one_list}
use Rattle.wy_elab_expr.specs.Meaning.{give, ◌>>=◌}
use Rattle.wy_elab_expr.specs.Operators.{Judgement, Settles}
use Rattle.wy_elab_body.specs.Statements.{Setting}
use Rattle.wy_elab_stmt.specs.Classes.{class_bodies}
use Rattle.wy_elab_stmt.specs.Program.{Bodies, and_more, bodies_from, bodies_of, library_text, in_order, first_of, main_in, is_main, stands_at, main_token, main_of, setting, with_main, again, from_texts, program}
use Rattle.wy_elab_stmt.specs.Elaborates.{Elaborates, by_declarations, by_bodies}
use Rattle.law_judgement.proofs.One.{one}
use Rattle.law_refusals.specs.Units.{IsBrokenClass, IsMain, HasNoMain, IsBrokenUnit}
use Rattle.law_refusals.specs.Units as units
use Rattle.law_refusals.proofs.Contained.{contains_here, contains_none}
use Rattle.law_refusals.specs.Laws.{AcceptedStatementsAreUnbroken, AcceptedProgramsAreUnbroken}
use Rattle.law_refusals.proofs.Never.{Never, never_bind, never_first}
use Rattle.law_refusals.proofs.Placed.{statement_of}
use Rattle.law_refusals.proofs.Statements.{broken_in}
use Rattle.law_refusals.proofs.AcceptedClasses.{broken_class}
use Rattle.law_refusals.proofs.Tables.{tables_know}

pub statements_unbroken : AcceptedStatementsAreUnbroken
statements_unbroken w g l a x m n s e r token b = (statement_of w a m.scope x (broken_in w g l b)).at m refl s n e

-- ---- bodies

never_bodies : (w : Setting) (n : ℕ) (ks : List ClassSyntax) (i : ℕ) (c : ℕ) (k : ClassSyntax) → slice_get ks i ≡ Some k → n + i ≡ c → Never (class_bodies w c k) → Never (bodies_from w n ks)
unfolding bodies_from
never_bodies w n [] i c k e sum h = absurd (cc)
never_bodies w n (x ∷ rest) zero c k e sum h =
    let same : x ≡ k = cc in
    let number : c ≡ n = omega arith in
    let P : ℕ → Type 0 = λ z. Never (class_bodies w z k) in
    let Q : ClassSyntax → Type 0 = λ z. Never (class_bodies w n z) in
    never_first (λ y. bodies_from w (suc n) rest >>= λ ys. give (and_more y ys)) (subst Q (sym same) (subst P number h))
never_bodies w n (x ∷ rest) (suc i) c k e sum h =
    never_bind (class_bodies w n x) (λ y. bodies_from w (suc n) rest >>= λ ys. give (and_more y ys)) (λ y u v is. never_first (λ ys. give (and_more y ys)) (never_bodies w (suc n) rest i c k e (omega arith) h))

-- ---- main

stands_first : (xs : List ℕ) (n : ℕ) → first_of xs ≡ Some n → Contains xs n
stands_first [] n e = absurd (cc)
stands_first (x ∷ xs) n e = let same : x ≡ n = cc in contains_here xs same

main_if : (unit : CompilationUnit) (h : Header) (b : Braced) (n : ℕ) (x : Bool) → is_main unit h ≡ x → Contains (if x then h.name.token ∷ [] else []) n → IsMain unit (source.Method h Absent (Some b))
main_if unit h b n true e stands = units.main e
main_if unit h b n false e stands = absurd (contains_none stands)

is_a_main : (unit : CompilationUnit) (m : Member) (n : ℕ) → Contains (main_in unit m) n → IsMain unit m
is_a_main unit (source.Method h Absent (Some b)) n stands = main_if unit h b n (is_main unit h) refl stands
is_a_main unit (source.Method h Absent Absent) n stands = absurd (contains_none stands)
is_a_main unit (source.Method h (Some ty) b) n stands = absurd (contains_none stands)
is_a_main unit (source.Constructor h own brace parts end) n stands = absurd (contains_none stands)
is_a_main unit (source.Fields ms ty all) n stands = absurd (contains_none stands)
is_a_main unit (source.Initializer is_static b) n stands = absurd (contains_none stands)
is_a_main unit source.Member.Nothing n stands = absurd (contains_none stands)
is_a_main unit source.Member.Unknown n stands = absurd (contains_none stands)

main_by : (t : Table) (unit : CompilationUnit) (m : ℕ) → HasNoMain unit → (o : Option ℕ) → main_token unit ≡ o → option_and_then (λ token. position_from (stands_at token) 0 t.methods) o ≡ Some m → ⊥
main_by t unit m none (Some n) e h =
    let in_k = of_flat (λ (k : ClassSyntax). flat_map (main_in unit) k.members) (classes_of unit) n (stands_first _ n e) in
    let in_m = of_flat (main_in unit) in_k.1.members n in_k.3 in
    none in_k.1 in_m.1 (contained (classes_of unit) in_k.0 in_k.1 in_k.2) (contained in_k.1.members in_m.0 in_m.1 in_m.2) (is_a_main unit in_m.1 n in_m.3)
main_by t unit m none Absent e h = cc

no_main : (t : Table) (unit : CompilationUnit) (m : ℕ) → HasNoMain unit → main_of t unit ≡ Some m → ⊥
unfolding main_of
no_main t unit m none e = main_by t unit m none (main_token unit) refl e

module _ (t : Table) (j : Judgement) (unit : CompilationUnit) (tokens : ℕ) (p : Program) where
  with_main_has : (o : Option ℕ) (b : Bodies) (texts : List FixedText) → with_main t unit tokens o b texts ≡ Ok p → (m : ℕ) × (o ≡ Some m)
  with_main_has (Some m) b texts e = (m, refl)
  with_main_has Absent b texts e = absurd (cc)

  again_has : (r : Result (Bodies × List FixedText) Refusal) → again j t unit tokens r ≡ Ok p → (m : ℕ) × (main_of t unit ≡ Some m)
  again_has (Ok q) e = with_main_has (main_of t unit) q.0 q.1 e
  again_has (Err x) e = absurd (cc)

  texts_have : (r : Result (Bodies × List FixedText) Refusal) → from_texts j t unit tokens r ≡ Ok p → (m : ℕ) × (main_of t unit ≡ Some m)
  texts_have (Ok q) e = again_has (bodies_of (setting j t unit) unit (in_order q.1)) e
  texts_have (Err x) e = absurd (cc)

  has_main : program j t unit tokens ≡ Ok p → (m : ℕ) × (main_of t unit ≡ Some m)
  unfolding program
  has_main e = texts_have (bodies_of (setting j t unit) unit (library_text ∷ [])) e

  texts_made : (r : Result (Bodies × List FixedText) Refusal) → from_texts j t unit tokens r ≡ Ok p → (q : Bodies × List FixedText) × (r ≡ Ok q)
  texts_made (Ok q) e = (q, refl)
  texts_made (Err x) e = absurd (cc)

  bodies_made : program j t unit tokens ≡ Ok p → Never (bodies_of (setting j t unit) unit) → ⊥
  unfolding program
  bodies_made e n = let q = texts_made (bodies_of (setting j t unit) unit (library_text ∷ [])) e in n.at (library_text ∷ []) q.0.0 q.0.1 q.1

one_table : (unit : CompilationUnit) (t u : Table) → IsTableOf unit t → IsTableOf unit u → t ≡ u
one_table unit t u a b = a.rows ∙ ap (with_constants (table unit)) (one_list unit t.constants u.constants a.constants b.constants) ∙ sym b.rows

class_refused : (unit : CompilationUnit) (t : Table) (j : Judgement) (c : ℕ) (k : ClassSyntax) (r : Rule) (token : ℕ) → KeepsRules unit → IsTableOf unit t → Settles t j → IsSourceClass unit c k → IsBrokenClass (setting j t unit) c k r token →
    Never (bodies_of (setting j t unit) unit)
class_refused unit t j c k r token keeps is settles written broken =
    let at = of_numbered first_source_class (classes_of unit) c k written in
    never_bodies (setting j t unit) first_source_class (classes_of unit) at.0 c k at.1 at.2 (broken_class (setting j t unit) settles (tables_know unit t keeps is) c k broken)

-- the table and the judgement are those of the program
same_refused : (unit : CompilationUnit) (t u : Table) (j i : Judgement) → IsTableOf unit t → IsTableOf unit u → Settles t j → Settles u i → Never (bodies_of (setting i u unit) unit) → Never (bodies_of (setting j t unit) unit)
same_refused unit t u j i is_t is_u settles_t settles_u n =
    let same : u ≡ t = one_table unit u t is_u is_t in
    let P : Table → Type 0 = λ z. Settles z i in
    let Q : Table → Type 0 = λ z. Never (bodies_of (setting i z unit) unit) in
    let R : Judgement → Type 0 = λ z. Never (bodies_of (setting z t unit) unit) in
    subst R (one t i j (subst P same settles_u) settles_t) (subst Q same n)

unbroken_by : (unit : CompilationUnit) (tokens : ℕ) (p : Program) (t : Table) (j : Judgement) → KeepsRules unit → IsTableOf unit t → Settles t j → program j t unit tokens ≡ Ok p → (r : Rule) (token : ℕ) → IsBrokenUnit unit tokens r token → ⊥
unbroken_by unit tokens p t j keeps is settles e r token (units.of_declaration b) = keeps r token b
unbroken_by unit tokens p t j keeps is settles e r token (units.of_body {t = u} {j = i} {c = c} {k = k} keeps_too is_too settles_too written broken) =
    bodies_made t j unit tokens p e (same_refused unit t u j i is is_too settles settles_too (class_refused unit u i c k r token keeps_too is_too settles_too written broken))
unbroken_by unit tokens p t j keeps is settles e _ _ (units.no_main none) = let m = has_main t j unit tokens p e in no_main t unit m.0 none m.1

elaborated_by : (unit : CompilationUnit) (tokens : ℕ) (p : Program) (x : Result Program Refusal) → Elaborates unit tokens x → x ≡ Ok p → (r : Rule) (token : ℕ) → IsBrokenUnit unit tokens r token → ⊥
elaborated_by unit tokens p _ (by_declarations rule at is) e r token b = cc
elaborated_by unit tokens p _ (by_bodies t j keeps is settles) e r token b = unbroken_by unit tokens p t j keeps is settles e r token b

pub programs_unbroken : AcceptedProgramsAreUnbroken
programs_unbroken unit tokens p h r token b = elaborated_by unit tokens p (Ok p) h refl r token b
