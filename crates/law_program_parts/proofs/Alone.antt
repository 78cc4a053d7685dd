-- What has its name at the token of a main is that main.
use Rattle.std.proofs.Common.{◌≡◌, ◌∙◌, refl, sym, ap, subst, arith, inl, inr, ℕ, suc, ◌+◌, ◌<◌, ◌≤◌, Bool, true, false, ◌||◌, if◌then◌else◌, List, [], ◌∷◌, ◌++◌}
use Rattle.std.specs.Prelude.{◌⊎◌, Option, Some, None, flat_map, filter_map, nat_lt, codes}
use Rattle.std.specs.List.{Contains, list_all, list_any, enumerate_from, cons_option}
use Rattle.std.proofs.lemmas.Bool.{and_parts}
use Rattle.std.proofs.lemmas.Bool.Decides.{nat_tests}
use Rattle.wy_kernel.specs.declared.types.MethodForm.TheVariants as kind
use Rattle.wy_kernel.specs.Program.{Method, first_source_class}
use Rattle.wy_kernel.specs.Builtin as builtin
use Rattle.wy_syntax.specs.Syntax.{Braced, Header, Member, ClassSyntax}
use Rattle.wy_syntax.specs.Syntax as source
use Rattle.wy_syntax.specs.Names.{width}
use Rattle.wy_syntax.specs.Declarations.{unit}
use Rattle.wy_members.specs.Declarations.{CompilationUnit, classes_of, form_of, result_type, method_row, method_in, methods_in, methods_of, implied, fields_unit, implied_constructor, initializes_objects, is_constructor, class_by_class, table}
use Rattle.wy_elab_stmt.proofs.OneProgram.{as_wide}
use Rattle.law_structure.proofs.Dense.{In}
use Rattle.law_structure.proofs.Numbered.{contains_in}
use Rattle.law_structure.proofs.Turns.{in_both, in_left, in_right}
use Rattle.law_structure.proofs.Productions.{unit_full}
use Rattle.law_program_parts.specs.Mains.{MainsStandAlone}
use Rattle.law_program_parts.specs.FirstLaws.{MainsOfTreesStandAlone}
use Rattle.law_program_parts.proofs.Rising.{Rising, within, behind}
use Rattle.law_program_parts.proofs.Names.{member_names, names_among, class_names, all_names, unit_rises}

-- ---- lists

contains : {X : Type 0} (xs : List X) (x : X) → In x xs → Contains xs x
contains [] x m = absurd m
contains (y ∷ ys) x (inl e) = (0, omega arith, sym e)
contains (y ∷ ys) x (inr m) = let c = contains ys x m in let less = c.1 in (suc c.0, omega (arith, less), c.2)

kept_by : {X Y : Type 0} (f : X → Option Y) (x : X) (o : Option Y) (rest : List Y) (y : Y) → f x ≡ o → In y (cons_option o rest) → (f x ≡ Some y) ⊎ In y rest
kept_by f x None rest y e m = inr m
kept_by f x (Some z) rest y e (inl s) = inl (e ∙ ap Some (sym s))
kept_by f x (Some z) rest y e (inr m) = inr m

-- the first is kept, or one behind it
kept : {X Y : Type 0} (f : X → Option Y) (x : X) (xs : List X) (y : Y) → In y (filter_map f (x ∷ xs)) → (f x ≡ Some y) ⊎ In y (filter_map f xs)
kept f x xs y m = kept_by f x (f x) (filter_map f xs) y refl m

some_same : {a b : Method} → Some a ≡ Some b → a ≡ b
some_same e = cc

-- no number of the first rising ones is among the others
apart : (low : ℕ) (xs ys : List ℕ) (high : ℕ) → Rising low (xs ++ ys) high → (n : ℕ) → In n xs → In n ys → ⊥
apart low xs ys high h n m l =
    let b = behind low xs ys high h in
    let first = (within low xs b.0 b.1 n m).1 in
    let second = (within b.0 ys high b.2 n l).0 in omega (arith, first, second)

-- ---- the library's

is_far : Method → Bool
is_far m = nat_lt 1048576 m.site

all_far : (ms : List Method) → list_all is_far ms ≡ true → (row : Method) → In row ms → is_far row ≡ true
all_far [] e row i = absurd i
all_far (m ∷ ms) e row (inl s) = ap is_far s ∙ (and_parts (is_far m) (list_all is_far ms) e).0
all_far (m ∷ ms) e row (inr i) = all_far ms (and_parts (is_far m) (list_all is_far ms) e).1 row i

library_far : list_all is_far builtin.methods ≡ true
unfolding builtin.methods builtin.first_methods is_far
library_far = refl

far_is_more : (n : ℕ) → nat_lt 1048576 n ≡ true → 1048576 < n
far_is_more n e = grind (arith, nat_tests)

library_site : (row : Method) → In row builtin.methods → 1048576 < row.site
unfolding is_far
library_site row i = far_is_more row.site (all_far builtin.methods library_far row i)

-- ---- the rows of a text

module _ (text : CompilationUnit) where
  member_site : (c : ℕ) (k : ClassSyntax) (m : Member) (row : Method) → method_in text c k m ≡ Some row → In row.site (member_names m)
  member_site c k (source.Method h result body) row e = inl (sym (ap (λ (x : Method). x.site) (some_same e)))
  member_site c k (source.Constructor h own_call brace parts end) row e = inl (sym (ap (λ (x : Method). x.site) (some_same e)))
  member_site c k _ row e = absurd cc

  members_site : (c : ℕ) (k : ClassSyntax) (ms : List Member) (row : Method) → In row (methods_in text c k ms) → In row.site (names_among ms)
  members_site c k [] row m = absurd m
  members_site c k (m ∷ ms) row i = elim (kept (method_in text c k) m ms row i) [
    | inl e ↦ in_left (member_names m) (names_among ms) row.site (member_site c k m row e)
    | inr j ↦ in_right (member_names m) (names_among ms) row.site (members_site c k ms row j)
  ]

  implied_site : (c : ℕ) (k : ClassSyntax) (name : List ℕ) (form : _) (row : Method) → In row (implied c k name form ∷ []) → row.site ≡ k.name.token
  implied_site c k name form row (inl e) = ap (λ (x : Method). x.site) e
  implied_site c k name form row (inr m) = absurd m

  unit_site : (c : ℕ) (k : ClassSyntax) (row : Method) → In row (fields_unit c k) → row.site ≡ k.name.token
  unit_site c k row = elim (list_any initializes_objects k.members) as (λ b. In row (if b then implied c k (codes "<fields>") kind.Fields ∷ [] else []) → row.site ≡ k.name.token) [
    | true ↦ implied_site c k (codes "<fields>") kind.Fields row
    | false ↦ λ m. absurd m
  ]

  constructor_site : (c : ℕ) (k : ClassSyntax) (row : Method) → In row (implied_constructor c k) → row.site ≡ k.name.token
  constructor_site c k row = elim (k.is_interface || list_any is_constructor k.members) as (λ b. In row (if b then [] else implied c k (codes "new") kind.Constructor ∷ []) → row.site ≡ k.name.token) [
    | true ↦ λ m. absurd m
    | false ↦ implied_site c k (codes "new") kind.Constructor row
  ]

  -- at the name of its class, or a member's
  own_row : (c : ℕ) (k : ClassSyntax) (row : Method) → In row (methods_of text c k) → (row.site ≡ k.name.token) ⊎ In row (methods_in text c k k.members)
  own_row c k row m = elim (in_both (fields_unit c k ++ implied_constructor c k) (methods_in text c k k.members) row m) [
    | inl i ↦ elim (in_both (fields_unit c k) (implied_constructor c k) row i) [ inl j ↦ inl (unit_site c k row j) | inr j ↦ inl (constructor_site c k row j) ]
    | inr i ↦ inr i
  ]

  class_site : (c : ℕ) (k : ClassSyntax) (row : Method) → In row (methods_of text c k) → In row.site (class_names k)
  class_site c k row m = elim (own_row c k row m) [ inl e ↦ inl e | inr i ↦ inr (members_site c k k.members row i) ]

  abbrev rows_from : ℕ → List ClassSyntax → List Method
  rows_from c ks = flat_map (λ p. methods_of text p.0 p.1) (enumerate_from c ks)

  classes_site : (c : ℕ) (ks : List ClassSyntax) (row : Method) → In row (rows_from c ks) → In row.site (all_names ks)
  classes_site c [] row m = absurd m
  classes_site c (k ∷ ks) row m = elim (in_both (methods_of text c k) (rows_from (c + 1) ks) row m) [
    | inl i ↦ in_left (class_names k) (all_names ks) row.site (class_site c k row i)
    | inr i ↦ in_right (class_names k) (all_names ks) row.site (classes_site (c + 1) ks row i)
  ]

  -- ---- the main's

  module _ (h : Header) (b : Braced) where
    abbrev main : Member
    main = source.Method h None (Some b)

    abbrev main_row : ℕ → ClassSyntax → Method
    main_row c k = method_row text c k h h.name.name (result_type text None) (form_of h)

    main_name : (m : Member) → main ≡ m → In h.name.token (member_names m)
    main_name m e = let P : Member → Type 0 = λ x. In h.name.token (member_names x) in subst P e (inl refl)

    main_among : (ms : List Member) → In main ms → In h.name.token (names_among ms)
    main_among [] i = absurd i
    main_among (m ∷ ms) (inl e) = in_left (member_names m) (names_among ms) h.name.token (main_name m e)
    main_among (m ∷ ms) (inr i) = in_right (member_names m) (names_among ms) h.name.token (main_among ms i)

    at_main : (ns : List ℕ) (row : Method) → row.site ≡ h.name.token → In row.site ns → In h.name.token ns
    at_main ns row s i = let P : ℕ → Type 0 = λ n. In n ns in subst P s i

    same_row : (c : ℕ) (k : ClassSyntax) (ms : List Member) (low high : ℕ) → Rising low (names_among ms) high → In main ms → (row : Method) → In row (methods_in text c k ms) → row.site ≡ h.name.token → row ≡ main_row c k
    same_row c k [] low high r i row j s = absurd i
    same_row c k (m ∷ ms) low high r (inl e) row j s = elim (kept (method_in text c k) m ms row j) [
      | inl o ↦ some_same (sym o ∙ ap (method_in text c k) (sym e))
      | inr l ↦ absurd (apart low (member_names m) (names_among ms) high r h.name.token (main_name m e) (at_main (names_among ms) row s (members_site c k ms row l)))
    ]
    same_row c k (m ∷ ms) low high r (inr i) row j s = elim (kept (method_in text c k) m ms row j) [
      | inl o ↦ absurd (apart low (member_names m) (names_among ms) high r h.name.token (at_main (member_names m) row s (member_site c k m row o)) (main_among ms i))
      | inr l ↦ let rest = behind low (member_names m) (names_among ms) high r in same_row c k ms rest.0 high rest.2 i row l s
    ]

    same_in_class : (c : ℕ) (k : ClassSyntax) (low high : ℕ) → Rising low (class_names k) high → In main k.members → (row : Method) → In row (methods_of text c k) → row.site ≡ h.name.token → row ≡ main_row c k
    same_in_class c k low high r i row j s = elim (own_row c k row j) [
      | inl e ↦ absurd (apart low (k.name.token ∷ []) (names_among k.members) high r h.name.token (inl (sym s ∙ e)) (main_among k.members i))
      | inr l ↦ same_row c k k.members (k.name.token + 1) high r.1 i row l s
    ]

    class_main : (k : ClassSyntax) → In main k.members → In h.name.token (class_names k)
    class_main k i = inr (main_among k.members i)

    classes_main : (ks : List ClassSyntax) (k : ClassSyntax) → In k ks → In main k.members → In h.name.token (all_names ks)
    classes_main [] k i j = absurd i
    classes_main (x ∷ ks) k (inl e) j = let P : ClassSyntax → Type 0 = λ y. In h.name.token (class_names y) in in_left (class_names x) (all_names ks) h.name.token (subst P e (class_main k j))
    classes_main (x ∷ ks) k (inr i) j = in_right (class_names x) (all_names ks) h.name.token (classes_main ks k i j)

    -- the row is that of the main, in its class
    abbrev IsMainOf : ℕ → List ClassSyntax → ClassSyntax → Method → Type 0
    IsMainOf c ks k row = (d : ℕ) × In (d, k) (enumerate_from c ks) × (row ≡ main_row d k)

    same_in_text : (c : ℕ) (ks : List ClassSyntax) (low high : ℕ) → Rising low (all_names ks) high → (k : ClassSyntax) → In k ks → In main k.members → (row : Method) → In row (rows_from c ks) → row.site ≡ h.name.token → IsMainOf c ks k row
    same_in_text c [] low high r k i j row l s = absurd i
    same_in_text c (x ∷ ks) low high r k (inl e) j row l s = elim (in_both (methods_of text c x) (rows_from (c + 1) ks) row l) [
      | inl o ↦
          let P : ClassSyntax → Type 0 = λ y. In row (methods_of text c y) in
          let Q : ClassSyntax → Type 0 = λ y. Rising low (class_names y ++ all_names ks) high in
          let first = behind low (class_names k) (all_names ks) high (subst Q (sym e) r) in
          (c, inl (λ n. (c, e n)), same_in_class c k low first.0 first.1 j row (subst P (sym e) o) s)
      | inr o ↦
          let P : ClassSyntax → Type 0 = λ y. In h.name.token (class_names y) in
          absurd (apart low (class_names x) (all_names ks) high r h.name.token (subst P e (class_main k j)) (at_main (all_names ks) row s (classes_site (c + 1) ks row o)))
    ]
    same_in_text c (x ∷ ks) low high r k (inr i) j row l s = elim (in_both (methods_of text c x) (rows_from (c + 1) ks) row l) [
      | inl o ↦ absurd (apart low (class_names x) (all_names ks) high r h.name.token (at_main (class_names x) row s (class_site c x row o)) (classes_main ks k i j))
      | inr o ↦
          let rest = behind low (class_names x) (all_names ks) high r in
          let d = same_in_text (c + 1) ks rest.0 high rest.2 k i j row o s in (d.0, inr d.1, d.2)
    ]

  -- ---- the whole table

  all_rows : (row : Method) → In row (table text).methods → In row builtin.methods ⊎ In row (rows_from first_source_class (classes_of text))
  unfolding table
  all_rows row i = in_both builtin.methods (class_by_class (methods_of text) text) row i

  stand_alone : (high : ℕ) → Rising 0 (all_names (classes_of text)) high → high ≤ 1048576 → MainsStandAlone text
  stand_alone high r few k h b m in_text in_class written in_table s =
      let i = contains_in (classes_of text) k in_text in
      let j = contains_in k.members (source.Method h None (Some b)) in_class in
      elim (all_rows m (contains_in (table text).methods m in_table)) [
        | inl l ↦
            let far = library_site m l in
            let near = (within 0 (all_names (classes_of text)) high r h.name.token (classes_main h b (classes_of text) k i j)).1 in
            absurd (omega (arith, far, near, s))
        | inr l ↦
            let d = same_in_text h b first_source_class (classes_of text) 0 high r k i j m l s in
            (d.0, contains (enumerate_from first_source_class (classes_of text)) (d.0, k) d.1, d.2)
      ]

pub mains_stand_alone : MainsOfTreesStandAlone
mains_stand_alone tree well few =
    let wide = as_wide tree in
    stand_alone (unit 0 tree) (0 + width tree) (unit_rises 0 tree (unit_full tree well)) (omega (arith, few, wide))
