-- The classes of a text that keeps the rules: Object alone extends nothing, classes extend classes, and interfaces are what is implemented.
use Rattle.std.proofs.Common.{◌≡◌, refl, sym, ◌∙◌, ap, subst, arith, ℕ, zero, suc, ◌+◌, ◌<◌, ◌⊎◌, inl, inr, Bool, true, false, not, ◌&&◌, if◌then◌else◌, List, [], ◌∷◌, ◌++◌, length, drop, Option, Some, map, nat_lt}
use Rattle.std.specs.Prelude.{None as Absent}
use Rattle.std.specs.Prelude.{slice_get, is_some, option_map, option_to_list, unwrap_or}
use Rattle.std.specs.List.{Contains, list_all}
use Rattle.std.proofs.lemmas.Bool.{and_parts, not-true}
use Rattle.std.proofs.lemmas.Bool.Decides.{nat_tests}
use Rattle.std.proofs.lemmas.List.Elements.{Contains-append_left}
use Rattle.std.proofs.lemmas.Option.{slice_get-map}
use Rattle.wy_kernel.specs.Program.{Class, first_source_class, object_class}
use Rattle.wy_kernel.specs.Builtin as builtin
use Rattle.wy_syntax.specs.Syntax.{Named, ClassSyntax}
use Rattle.wy_constant.specs.declared.rule.Rule.TheVariants as rule
use Rattle.wy_members.specs.Declarations.{CompilationUnit, classes_of, denoted, superclass, class_row, class_rows, table}
use Rattle.wy_members.specs.Broken.{IsJudged, Extends, names_in, unknown_class, HasWrongSupertype, extends_interface, implements_class}
use Rattle.wy_members.specs.Refusal.{KeepsRules}
use Rattle.wy_members.proofs.Contained.{contained, in_numbered}
use Rattle.wy_members.proofs.InRange.{acyclic, names_among}
use Rattle.wy_members.proofs.Judgeable.{has_top}
use Rattle.wy_members.proofs.Library.{how_many}
use Rattle.law_program_parts.proofs.RunningLists.{passing, of_two, in_second, of_chosen}
use Rattle.law_program_parts.proofs.Chains.{IsAt, AreSorted}

-- ---- the library

abbrev implements_none : List ℕ → Bool
implements_none [] = true
implements_none (x ∷ xs) = false

abbrev in_library : Option ℕ → Bool
in_library Absent = true
in_library (Some d) = nat_lt d 18

-- no interface, implements nothing, and extends a class of the library or nothing
abbrev is_plain : Class → Bool
is_plain row = not row.is_interface && (implements_none row.interfaces && in_library row.above)

all_plain : list_all is_plain builtin.classes ≡ true
unfolding builtin.classes
all_plain = refl

none_implemented : {A : Type 0} (xs : List ℕ) (d : ℕ) → implements_none xs ≡ true → Contains xs d → A
none_implemented [] d e (k, lt, is) = absurd (omega arith)
none_implemented (x ∷ xs) d e h = absurd (cc)

library_number : (o : Option ℕ) (d : ℕ) → in_library o ≡ true → o ≡ Some d → d < 18
library_number Absent d e is = absurd (cc)
library_number (Some x) d e is = let same : x ≡ d = cc in let less : nat_lt d 18 ≡ true = ap (λ n. nat_lt n 18) (sym same) ∙ e in grind (arith, nat_tests)

plain_row : (c : ℕ) (row : Class) → slice_get builtin.classes c ≡ Some row → is_plain row ≡ true
plain_row c row at = passing is_plain builtin.classes c row all_plain at

pub library_no_interface : (c : ℕ) (row : Class) → slice_get builtin.classes c ≡ Some row → row.is_interface ≡ false
library_no_interface c row at = not-true row.is_interface (and_parts (not row.is_interface) (implements_none row.interfaces && in_library row.above) (plain_row c row at)).0

library_implements_none : {A : Type 0} (c d : ℕ) (row : Class) → slice_get builtin.classes c ≡ Some row → Contains row.interfaces d → A
library_implements_none c d row at h =
    none_implemented row.interfaces d (and_parts (implements_none row.interfaces) (in_library row.above) (and_parts (not row.is_interface) (implements_none row.interfaces && in_library row.above) (plain_row c row at)).1).0 h

library_extends : (c d : ℕ) (row : Class) → slice_get builtin.classes c ≡ Some row → row.above ≡ Some d → d < 18
library_extends c d row at is =
    library_number row.above d (and_parts (implements_none row.interfaces) (in_library row.above) (and_parts (not row.is_interface) (implements_none row.interfaces && in_library row.above) (plain_row c row at)).1).1 is

-- each class behind Object extends one
all_extend : list_all (λ (row : Class). is_some row.above) (drop 1 builtin.classes) ≡ true
unfolding builtin.classes
all_extend = refl

object_alone : (c : ℕ) (row : Class) → slice_get builtin.classes c ≡ Some row → row.above ≡ Absent → c ≡ 0
unfolding builtin.classes
object_alone zero row at is = refl
object_alone (suc c) row at is = absurd (let yes : is_some row.above ≡ true = passing (λ (x : Class). is_some x.above) (drop 1 builtin.classes) c row all_extend at in let no : true ≡ false = sym yes ∙ ap is_some is in cc)

-- ---- which row it is

module _ (unit : CompilationUnit) where
  -- class c of the library, or class i of the text, as it is written
  pub library_or_text : (c : ℕ) (row : Class) → IsAt (table unit).classes c row → (slice_get builtin.classes c ≡ Some row) ⊎ ((i : ℕ) × (k : ClassSyntax) × (18 + i ≡ c) × (slice_get (classes_of unit) i ≡ Some k) × (class_row unit k ≡ row))
  unfolding table
  library_or_text c row at =
      elim (of_two builtin.classes (class_rows unit unit) c row at) [
        | inl h ↦ inl h
        | inr w ↦ (let x = of_map (classes_of unit) w.0 w.2 in inr (w.0, x.0, (let many = how_many.0 in let place : length builtin.classes + w.0 ≡ c = w.1 in omega arith), x.1, x.2))
      ]
    where
      of_map : (ks : List ClassSyntax) (i : ℕ) → slice_get (map (class_row unit) ks) i ≡ Some row → (k : ClassSyntax) × (slice_get ks i ≡ Some k) × (class_row unit k ≡ row)
      of_map [] i e = absurd (cc)
      of_map (k ∷ ks) zero e = (k, refl, (let same : class_row unit k ≡ row = cc in same))
      of_map (k ∷ ks) (suc i) e = of_map ks i e

  -- a class of the library by its number
  pub of_library : (c : ℕ) (row : Class) → IsAt (table unit).classes c row → c < 18 → slice_get builtin.classes c ≡ Some row
  unfolding table
  of_library c row at lt =
      elim (of_two builtin.classes (class_rows unit unit) c row at) [
        | inl h ↦ h
        | inr w ↦ absurd (let many = how_many.0 in let place : length builtin.classes + w.0 ≡ c = w.1 in omega arith)
      ]

  pub of_text : (i : ℕ) (k : ClassSyntax) → slice_get (classes_of unit) i ≡ Some k → IsAt (table unit).classes (18 + i) (class_row unit k)
  unfolding table
  of_text i k e =
      (let place : 18 + i ≡ length builtin.classes + i = (let many = how_many.0 in omega arith) in ap (slice_get (table unit).classes) place)
      ∙ in_second builtin.classes (class_rows unit unit) i (class_row unit k) (slice_get-map (class_row unit) (classes_of unit) i ∙ ap (option_map (class_row unit)) e)

  module _ (keeps : KeepsRules unit) where
    pub judged : (c : ℕ) → IsJudged unit c
    judged c d above (e, direct, chain) = acyclic unit keeps d e direct chain

    -- each name of a class denotes one
    pub denotes : (k : ClassSyntax) (n : Named) → Contains (classes_of unit) k → Contains (names_in k) n → (d : ℕ) × (denoted unit n.name ≡ Some d)
    denotes k n there named = by (denoted unit n.name) refl
      where
        by : (o : Option ℕ) → denoted unit n.name ≡ o → (d : ℕ) × (denoted unit n.name ≡ Some d)
        by Absent e = absurd (keeps rule.UnknownName n.token (unknown_class there named e))
        by (Some d) e = (d, e)

    fits : (c token : ℕ) → HasWrongSupertype unit c token → ⊥
    fits c token wrong = keeps rule.BadOverride token (c, judged c, inl wrong)

    -- a class of the text extends a class
    text_extends : (i d : ℕ) (k : ClassSyntax) (above : Class) → slice_get (classes_of unit) i ≡ Some k → (class_row unit k).above ≡ Some d → IsAt (table unit).classes d above → above.is_interface ≡ false
    text_extends i d k above e is there = by_kind k.is_interface is
      where
        object : d ≡ 0 → above.is_interface ≡ false
        object f = library_no_interface d above (of_library d above there (omega (arith, f)))

        named : (n : Named) → k.above ≡ Some n → unwrap_or (denoted unit n.name) object_class ≡ d → above.is_interface ≡ false
        named n clause f = by above.is_interface refl
          where
            of_clause : Contains (option_to_list k.above) n
            of_clause = let P : List Named → Type 0 = λ ns. Contains ns n in subst P (ap option_to_list (sym clause)) (0, omega arith, refl)

            found : (x : ℕ) × (denoted unit n.name ≡ Some x)
            found = denotes k n (contained (classes_of unit) i k e) (Contains-append_left (option_to_list k.above ++ k.interfaces) _ n (Contains-append_left (option_to_list k.above) k.interfaces n of_clause))

            denotes_it : denoted unit n.name ≡ Some d
            denotes_it = let same : found.0 ≡ d = ap (λ o. unwrap_or o object_class) (sym found.1) ∙ f in found.1 ∙ ap Some same

            extends : Extends unit (18 + i) k d above
            extends = record { name = n; written = in_numbered first_source_class (classes_of unit) i k e; clause = clause; denotes = denotes_it; found = there }

            by : (b : Bool) → above.is_interface ≡ b → above.is_interface ≡ false
            by false g = g
            by true g = absurd (fits (18 + i) k.name.token (extends_interface extends g))

        by_name : (o : Option Named) → k.above ≡ o → superclass unit o ≡ d → above.is_interface ≡ false
        by_name Absent clause f = object (sym f)
        by_name (Some n) clause f = named n clause f

        by_kind : (b : Bool) → (if b then Absent else Some (superclass unit k.above)) ≡ Some d → above.is_interface ≡ false
        by_kind true f = absurd (cc)
        by_kind false f = by_name k.above refl (let same : superclass unit k.above ≡ d = cc in same)

    -- what is implemented is an interface
    text_implements : (i d : ℕ) (k : ClassSyntax) (above : Class) → slice_get (classes_of unit) i ≡ Some k → Contains (class_row unit k).interfaces d → IsAt (table unit).classes d above → above.is_interface ≡ true
    text_implements i d k above e h there =
        let w = of_chosen (λ (n : Named). denoted unit n.name) k.interfaces d h in
        by w.0 w.1 w.2 above.is_interface refl
      where
        by : (n : Named) → Contains k.interfaces n → denoted unit n.name ≡ Some d → (b : Bool) → above.is_interface ≡ b → above.is_interface ≡ true
        by n clause is true g = g
        by n clause is false g = absurd (fits (18 + i) k.name.token (implements_class (record { name = n; written = in_numbered first_source_class (classes_of unit) i k e; clause = clause; denotes = is; found = there }) g))

    nothing_above : (k : ClassSyntax) → k.is_interface ≡ true → (class_row unit k).above ≡ Absent
    nothing_above k e = ap (λ b. if b then Absent else Some (superclass unit k.above)) e

    something_above : {A : Type 0} (k : ClassSyntax) → k.is_interface ≡ false → (class_row unit k).above ≡ Absent → A
    something_above k e none = let some : Some (superclass unit k.above) ≡ Absent = sym (ap (λ b. if b then Absent else Some (superclass unit k.above)) e) ∙ none in absurd (cc)

    pub are_sorted : AreSorted (table unit).classes
    are_sorted = record {
      top = has_top unit;
      acyclic = acyclic unit keeps;
      among = names_among unit;
      extends = λ c d row above at is there.
          elim (library_or_text c row at) [
            | inl l ↦ library_no_interface d above (of_library d above there (library_extends c d row l is))
            | inr w ↦ text_extends w.0 d w.1 above w.3 (ap (λ (x : Class). x.above) w.4 ∙ is) there
          ];
      implements = λ c d row above at h there.
          elim (library_or_text c row at) [
            | inl l ↦ library_implements_none c d row l h
            | inr w ↦ text_implements w.0 d w.1 above w.3 (subst (λ (x : Class). Contains x.interfaces d) (sym w.4) h) there
          ];
      interfaces = λ c row at is.
          elim (library_or_text c row at) [
            | inl l ↦ absurd (let no : true ≡ false = sym is ∙ library_no_interface c row l in cc)
            | inr w ↦ ap (λ (x : Class). x.above) (sym w.4) ∙ nothing_above w.1 (ap (λ (x : Class). x.is_interface) w.4 ∙ is)
          ];
      object = λ c row at is none.
          elim (library_or_text c row at) [
            | inl l ↦ object_alone c row l none
            | inr w ↦ something_above w.1 (ap (λ (x : Class). x.is_interface) w.4 ∙ is) (ap (λ (x : Class). x.above) w.4 ∙ none)
          ];
    }
