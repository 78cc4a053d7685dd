-- No class of a program extends String, which is final.
use Rattle.std.proofs.Common.{◌≡◌, refl, sym, ap, subst, ◌∙◌, arith, inl, inr, ℕ, zero, suc, ◌+◌, Bool, true, false, not, if◌then◌else◌, List, [], ◌∷◌, ◌++◌, length, map, Option, Some, Result, Ok}
use Rattle.std.specs.Prelude.{None as Absent}
use Rattle.std.specs.Prelude.{◌⊎◌, ◌==◌, slice_get, option_to_list, unwrap_or, filter_map}
use Rattle.std.specs.List.{Contains, list_all, cons_option}
use Rattle.std.proofs.lemmas.List.Elements.{Contains-append_cases}
use Rattle.wy_kernel.specs.Program.{Program, Class, string_class, first_source_class, object_class}
use Rattle.wy_kernel.specs.Builtin as builtin
use Rattle.wy_kernel.specs.Subtyping.{named_above, direct_supertypes}
use Rattle.wy_kernel.specs.Table.{Table}
use Rattle.wy_syntax.specs.Syntax.{Named, ClassSyntax}
use Rattle.wy_constant.specs.declared.rule.Rule.TheVariants as rule
use Rattle.wy_constant.specs.Refusal.{Refusal}
use Rattle.wy_members.specs.Declarations.{CompilationUnit, classes_of, denoted, superclass, class_row, class_rows, table}
use Rattle.wy_members.specs.Broken.{IsRow, IsJudged, HasWrongSupertype, implements_class, extends_final}
use Rattle.wy_members.specs.Refusal.{KeepsRules}
use Rattle.wy_members.proofs.Contained.{placed, in_numbered}
use Rattle.wy_members.proofs.InRange.{acyclic}
use Rattle.wy_elab_stmt.specs.Elaborates.{Elaborates, by_declarations, by_bodies}
use Rattle.law_structure.proofs.Elaborated.{MadeFrom}
use Rattle.law_structure.proofs.Members.{none_in, at_head, behind_head}
use Rattle.law_in_range.specs.InRange.{StringIsFinal}
use Rattle.law_own_traces.proofs.Standing.{passing}

-- ---- lists

-- what a place in two lists, one behind the other, is
of_two : {X : Type 0} (xs ys : List X) (c : ℕ) (x : X) → slice_get (xs ++ ys) c ≡ Some x → (slice_get xs c ≡ Some x) ⊎ ((i : ℕ) × (length xs + i ≡ c) × (slice_get ys i ≡ Some x))
of_two [] ys c x e = inr (c, omega arith, e)
of_two (y ∷ xs) ys zero x e = inl e
of_two (y ∷ xs) ys (suc c) x e = elim (of_two xs ys c x e) [ inl h ↦ inl h | inr w ↦ inr (w.0, (let same : length xs + w.0 ≡ c = w.1 in omega arith), w.2) ]

of_map : {X Y : Type 0} (f : X → Y) (xs : List X) (i : ℕ) (y : Y) → slice_get (map f xs) i ≡ Some y → (x : X) × (slice_get xs i ≡ Some x) × (f x ≡ y)
of_map f [] i y e = absurd (cc)
of_map f (x ∷ xs) zero y e = (x, refl, (let same : f x ≡ y = cc in same))
of_map f (x ∷ xs) (suc i) y e = of_map f xs i y e

-- what is made of an element
of_chosen : {X Y : Type 0} (f : X → Option Y) (xs : List X) (y : Y) → Contains (filter_map f xs) y → (x : X) × Contains xs x × (f x ≡ Some y)
of_chosen f [] y h = absurd (none_in y h)
of_chosen {X} {Y} f (x ∷ xs) y h = by (f x) refl h (of_chosen f xs y)
  where
    step : ((z : X) × Contains xs z × (f z ≡ Some y)) → (z : X) × Contains (x ∷ xs) z × (f z ≡ Some y)
    step (z, c, e) = (z, behind_head x xs z c, e)

    by : (o : Option Y) → f x ≡ o → Contains (cons_option o (filter_map f xs)) y → (Contains (filter_map f xs) y → (z : X) × Contains xs z × (f z ≡ Some y)) → (z : X) × Contains (x ∷ xs) z × (f z ≡ Some y)
    by Absent e c rest = step (rest c)
    by (Some v) e (zero, lt, is) rest = (x, at_head x xs, e ∙ ap Some is)
    by (Some v) e (suc k, lt, is) rest = step (rest (k, omega arith, is))

-- ---- the library

abbrev is_other : ℕ → Bool
is_other d = not (d == string_class)

abbrev is_beside : Class → Bool
is_beside row = list_all is_other (named_above (Some row))

all_beside : list_all is_beside builtin.classes ≡ true
unfolding builtin.classes
all_beside = refl

no_string : (xs : List ℕ) → list_all is_other xs ≡ true → Contains xs string_class → ⊥
no_string xs e h = let p = placed xs string_class h in let f : is_other string_class ≡ true = passing is_other xs p.0 string_class e p.1 in let clash : false ≡ true = f in cc

object_is_other : object_class ≡ string_class → ⊥
object_is_other e = cc

-- ---- the text

module _ (unit : CompilationUnit) (keeps : KeepsRules unit) where
  string_row : IsRow (table unit) string_class builtin.string
  unfolding table builtin.classes
  string_row = refl

  judged : (c : ℕ) → IsJudged unit c
  judged c d above (e, direct, chain) = acyclic unit keeps d e direct chain

  fits : (c token : ℕ) → HasWrongSupertype unit c token → ⊥
  fits c token wrong = keeps rule.BadOverride token (c, judged c, inl wrong)

  is_denoted : (o : Option ℕ) → unwrap_or o object_class ≡ string_class → o ≡ Some string_class
  is_denoted Absent e = absurd (object_is_other e)
  is_denoted (Some d) e = ap Some e

  module _ (i : ℕ) (k : ClassSyntax) (there : slice_get (classes_of unit) i ≡ Some k) where
    extended : (n : Named) → k.above ≡ Some n → superclass unit (Some n) ≡ string_class → ⊥
    extended n clause e =
        fits (first_source_class + i) k.name.token
        (extends_final (record { name = n; written = in_numbered first_source_class (classes_of unit) i k there; clause = clause; denotes = is_denoted (denoted unit n.name) e; found = string_row }) refl)

    by_name : (o : Option Named) → k.above ≡ o → superclass unit o ≡ string_class → ⊥
    by_name Absent clause e = object_is_other e
    by_name (Some n) clause e = extended n clause e

    alone : (d i : ℕ) → slice_get (d ∷ []) i ≡ Some string_class → d ≡ string_class
    alone d zero e = cc
    alone d (suc i) e = absurd cc

    not_above : (b : Bool) → Contains (option_to_list (if b then Absent else Some (superclass unit k.above))) string_class → ⊥
    not_above true h = none_in string_class h
    not_above false h = let p = placed (superclass unit k.above ∷ []) string_class h in by_name k.above refl (alone (superclass unit k.above) p.0 p.1)

    not_implemented : Contains (class_row unit k).interfaces string_class → ⊥
    not_implemented h =
        let w = of_chosen (λ (n : Named). denoted unit n.name) k.interfaces string_class h in
        fits (first_source_class + i) k.name.token
        (implements_class (record { name = w.0; written = in_numbered first_source_class (classes_of unit) i k there; clause = w.1; denotes = w.2; found = string_row }) refl)

    not_in_text : Contains (named_above (Some (class_row unit k))) string_class → ⊥
    not_in_text h =
        elim (Contains-append_cases (option_to_list (class_row unit k).above) (class_row unit k).interfaces string_class h) [
          | inl above ↦ not_above k.is_interface above
          | inr below ↦ not_implemented below
        ]

  row_beside : (c : ℕ) (row : Class) → slice_get (table unit).classes c ≡ Some row → Contains (named_above (Some row)) string_class → ⊥
  unfolding table
  row_beside c row at h =
      elim (of_two builtin.classes (class_rows unit unit) c row at) [
        | inl l ↦ no_string (named_above (Some row)) (passing is_beside builtin.classes c row all_beside l) h
        | inr w ↦ (let x = of_map (class_row unit) (classes_of unit) w.0 row w.2 in not_in_text w.0 x.0 x.1 (subst (λ (r : Class). Contains (named_above (Some r)) string_class) (sym x.2) h))
      ]

  beside : (c : ℕ) (o : Option Class) → slice_get (table unit).classes c ≡ o → Contains (named_above o) string_class → ⊥
  beside c Absent at h = none_in string_class h
  beside c (Some row) at h = row_beside c row at h

keeps_rules : (unit : CompilationUnit) (count : ℕ) (r : Result Program Refusal) → Elaborates unit count r → (p : Program) → r ≡ Ok p → KeepsRules unit
keeps_rules unit count r (by_declarations rule token is) p e = absurd cc
keeps_rules unit count r (by_bodies t j keeps is settles) p e = keeps

pub string_is_final : (unit : CompilationUnit) (count : ℕ) (p : Program) → Elaborates unit count (Ok p) → MadeFrom unit p → StringIsFinal p
unfolding direct_supertypes
string_is_final unit count p h m c contains =
    let same : p.classes ≡ (table unit).classes = ap (λ (q : Program). q.classes) (sym m.is) ∙ ap (λ (t : Table). t.classes) m.is_table.rows in
    beside unit (keeps_rules unit count (Ok p) h p refl) c (slice_get (table unit).classes c) refl
    (subst (λ (ks : List Class). Contains (named_above (slice_get ks c)) string_class) same contains)
