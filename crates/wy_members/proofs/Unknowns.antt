-- The unknown names of a program, part by part, are those by the rule.
use Rattle.std.proofs.Common.{◌≡◌, ℕ, zero, suc, ◌+◌, arith, List, [], ◌∷◌, ◌++◌, Option, Some, ◌⊎◌, inl, inr, refl, sym, ◌∙◌, ap, subst, map}
use Rattle.std.specs.Prelude.{None as Absent}
use Rattle.std.specs.Prelude.{slice_get, flat_map}
use Rattle.std.specs.Option.{option_to_list}
use Rattle.std.specs.List.{Contains}
use Rattle.std.proofs.lemmas.List.Elements.{Contains-append_left, Contains-append_right, Contains-append_cases}
use Rattle.std.proofs.lemmas.Grind.{flat_map-append}
use Rattle.wy_kernel.specs.Program.{first_source_class}
use Rattle.wy_syntax.specs.Syntax.{Named, WrittenType, Parameter, Header, Member, ClassSyntax}
use Rattle.wy_syntax.specs.Syntax as syntax
use Rattle.wy_members.specs.Least.{IsLeast, Among, Either, Here}
use Rattle.wy_members.specs.Within.{UnknownNamed, UnknownNames, UnknownType, UnknownBase, UnknownResult, UnknownAbove, UnknownInHeader, UnknownInMember, UnknownInClass}
use Rattle.wy_members.specs.Declarations.{CompilationUnit, classes_of, denoted}
use Rattle.wy_members.specs.Broken.{named_by, named_in_types, parameter_types_written, named_in, thrown_in, names_in, constructor_header, IsUnknownName, unknown_class, unknown_constructor}
use Rattle.wy_members.proofs.Contained.{contained, placed, in_flat, of_flat, in_numbered, of_numbered}
use Rattle.wy_members.proofs.Leasts.{like, place_of_seen, seen_at}

-- all parts
abbrev pub Unknowns : CompilationUnit → ℕ → Type 0
Unknowns unit = Among (classes_of unit) (λ i k. UnknownInClass unit k)

module _ (unit : CompilationUnit) where
  -- one of the names denotes nothing, and stands here
  Missing : List Named → ℕ → Type 0
  Missing names n = (name : Named) × Contains names name × (denoted unit name.name ≡ Absent) × (name.token ≡ n)

  module _ (n : ℕ) where
    left : (xs ys : List Named) → Missing xs n → Missing (xs ++ ys) n
    unfolding Missing
    left xs ys (name, c, d, e) = (name, Contains-append_left xs ys name c, d, e)

    right : (xs ys : List Named) → Missing ys n → Missing (xs ++ ys) n
    unfolding Missing
    right xs ys (name, c, d, e) = (name, Contains-append_right xs ys name c, d, e)

    cases : (xs ys : List Named) → Missing (xs ++ ys) n → Missing xs n ⊎ Missing ys n
    unfolding Missing
    cases xs ys (name, c, d, e) = elim (Contains-append_cases xs ys name c) [ inl a ↦ inl (name, a, d, e) | inr b ↦ inr (name, b, d, e) ]

    in_each : {X : Type 0} (f : X → List Named) (xs : List X) (i : ℕ) (x : X) → slice_get xs i ≡ Some x → Missing (f x) n → Missing (flat_map f xs) n
    unfolding Missing
    in_each f xs i x at (name, c, d, e) = (name, in_flat f xs i x name at c, d, e)

    of_each : {X : Type 0} (f : X → List Named) (xs : List X) → Missing (flat_map f xs) n → (i : ℕ) × (x : X) × (slice_get xs i ≡ Some x) × Missing (f x) n
    unfolding Missing
    of_each f xs (name, c, d, e) = let w = of_flat f xs name c in (w.0, w.1, w.2, (name, w.3, d, e))

    none : {A : Type 0} → Missing [] n → A
    unfolding Missing
    none (name, (k, lt, is), d, e) = absurd (omega arith)

    one : (name : Named) → UnknownNamed unit name n → Missing (name ∷ []) n
    unfolding Missing
    one name (d, e) = (name, (0, omega arith, refl), d, e)

    of_one : (name : Named) → Missing (name ∷ []) n → UnknownNamed unit name n
    unfolding Missing
    of_one name (other, (zero, lt, is), d, e) = (ap (λ (x : Named). denoted unit x.name) is ∙ d, ap (λ (x : Named). x.token) is ∙ e)
    of_one name (other, (suc k, lt, is), d, e) = absurd (omega arith)

    of_names : (names : List Named) → UnknownNames unit names n → Missing names n
    unfolding Missing
    of_names names (i, name, at, u) = (name, contained names i name at, u.0, u.1)

    to_names : (names : List Named) → Missing names n → UnknownNames unit names n
    unfolding Missing
    to_names names (name, c, d, e) = let at = placed names name c in (at.0, name, at.1, (d, e))

    of_above : (above : Option Named) → UnknownAbove unit above n → Missing (option_to_list above) n
    of_above Absent u = absurd u
    of_above (Some name) u = one name u

    to_above : (above : Option Named) → Missing (option_to_list above) n → UnknownAbove unit above n
    to_above Absent m = none m
    to_above (Some name) m = of_one name m

    of_base : (base : syntax.Base) (token : ℕ) → UnknownBase unit base token n → Missing (named_by base token) n
    of_base (syntax.Basic p) token u = absurd u
    of_base (syntax.Class name) token u = one (record { name = name; token = token }) u

    to_base : (base : syntax.Base) (token : ℕ) → Missing (named_by base token) n → UnknownBase unit base token n
    to_base (syntax.Basic p) token m = none m
    to_base (syntax.Class name) token m = of_one (record { name = name; token = token }) m

    of_result : (result : Option WrittenType) → UnknownResult unit result n → Missing (named_in_types (option_to_list result)) n
    of_result Absent u = absurd u
    of_result (Some ty) u = left (named_by ty.base ty.token) [] (of_base ty.base ty.token u)

    to_result : (result : Option WrittenType) → Missing (named_in_types (option_to_list result)) n → UnknownResult unit result n
    to_result Absent m = none m
    to_result (Some ty) m = elim (cases (named_by ty.base ty.token) [] m) [ inl x ↦ to_base ty.base ty.token x | inr y ↦ none y ]

    of_parameters : (ps : List Parameter) → Among ps (λ i (p : Parameter). UnknownType unit p.ty) n → Missing (named_in_types (map (λ (p : Parameter). p.ty) ps)) n
    of_parameters ps (i, p, at, u) = in_each (λ (ty : WrittenType). named_by ty.base ty.token) (map (λ (p : Parameter). p.ty) ps) i p.ty (seen_at (λ (p : Parameter). p.ty) ps i p at) (of_base p.ty.base p.ty.token u)

    to_parameters : (ps : List Parameter) → Missing (named_in_types (map (λ (p : Parameter). p.ty) ps)) n → Among ps (λ i (p : Parameter). UnknownType unit p.ty) n
    to_parameters ps m =
        let w = of_each (λ (ty : WrittenType). named_by ty.base ty.token) (map (λ (p : Parameter). p.ty) ps) m in
        let p = place_of_seen (λ (p : Parameter). p.ty) ps w.0 w.1 w.2 in
        (w.0, p.0, p.1, to_base p.0.ty.base p.0.ty.token (subst (λ (ty : WrittenType). Missing (named_by ty.base ty.token) n) (sym p.2) w.3))

    throws_more : (h : Header) → Missing h.throws n → Missing (flat_map (λ (g : Header). g.throws) (h ∷ [])) n
    throws_more h m = left h.throws [] m

    throws_less : (h : Header) → Missing (flat_map (λ (g : Header). g.throws) (h ∷ [])) n → Missing h.throws n
    throws_less h m = elim (cases h.throws [] m) [ inl x ↦ x | inr y ↦ none y ]

    of_header : (h : Header) → UnknownInHeader unit h n → Missing (named_in_types (parameter_types_written h) ++ flat_map (λ (g : Header). g.throws) (h ∷ [])) n
    of_header h u =
        elim u [
          | inl p ↦ left (named_in_types (parameter_types_written h)) (flat_map (λ (g : Header). g.throws) (h ∷ [])) (of_parameters h.params p)
          | inr t ↦ right (named_in_types (parameter_types_written h)) (flat_map (λ (g : Header). g.throws) (h ∷ [])) (throws_more h (of_names h.throws t))
        ]

    to_header : (h : Header) → Missing (named_in_types (parameter_types_written h) ++ flat_map (λ (g : Header). g.throws) (h ∷ [])) n → UnknownInHeader unit h n
    to_header h m =
        elim (cases (named_in_types (parameter_types_written h)) (flat_map (λ (g : Header). g.throws) (h ∷ [])) m) [
          | inl p ↦ inl (to_parameters h.params p)
          | inr t ↦ inr (to_names h.throws (throws_less h t))
        ]

    types_apart : (result : Option WrittenType) (h : Header) → named_in_types (option_to_list result ++ parameter_types_written h) ≡ named_in_types (option_to_list result) ++ named_in_types (parameter_types_written h)
    types_apart result h = flat_map-append (λ (ty : WrittenType). named_by ty.base ty.token) (option_to_list result) (parameter_types_written h)

    of_method : (result : Option WrittenType) (h : Header) → Either (UnknownResult unit result) (UnknownInHeader unit h) n → Missing (named_in_types (option_to_list result ++ parameter_types_written h) ++ flat_map (λ (g : Header). g.throws) (h ∷ [])) n
    of_method result h u =
        let results = named_in_types (option_to_list result) in
        let params = named_in_types (parameter_types_written h) in
        let throws = flat_map (λ (g : Header). g.throws) (h ∷ []) in
        subst (λ (types : List Named). Missing (types ++ throws) n) (sym (types_apart result h))
        (elim u [
          | inl r ↦ left (results ++ params) throws (left results params (of_result result r))
          | inr g ↦ elim (cases params throws (of_header h g)) [ inl p ↦ left (results ++ params) throws (right results params p) | inr t ↦ right (results ++ params) throws t ]
        ])

    to_method : (result : Option WrittenType) (h : Header) → Missing (named_in_types (option_to_list result ++ parameter_types_written h) ++ flat_map (λ (g : Header). g.throws) (h ∷ [])) n → Either (UnknownResult unit result) (UnknownInHeader unit h) n
    to_method result h m =
        let results = named_in_types (option_to_list result) in
        let params = named_in_types (parameter_types_written h) in
        let throws = flat_map (λ (g : Header). g.throws) (h ∷ []) in
        elim (cases (results ++ params) throws (subst (λ (types : List Named). Missing (types ++ throws) n) (types_apart result h) m)) [
          | inl types ↦ elim (cases results params types) [ inl r ↦ inl (to_result result r) | inr p ↦ inr (to_header h (left params throws p)) ]
          | inr t ↦ inr (to_header h (right params throws t))
        ]

    -- a constructor of another name than its class
    WrongName : List ℕ → Member → Type 0
    WrongName class m = (h : Header) × (constructor_header m ≡ Some h) × (h.name.name ≡ class → ⊥) × (h.name.token ≡ n)

    of_member : (class : List ℕ) (m : Member) → UnknownInMember unit class m n → Missing (named_in m ++ thrown_in m) n ⊎ WrongName class m
    unfolding WrongName
    of_member class syntax.Member.Nothing u = absurd u
    of_member class (syntax.Initializer is_static block) u = absurd u
    of_member class (syntax.Fields ms ty declarators) u = inl (left (named_in_types (ty ∷ [])) [] (left (named_by ty.base ty.token) [] (of_base ty.base ty.token u)))
    of_member class (syntax.Method h result body) u = inl (of_method result h u)
    of_member class (syntax.Constructor h own_call brace parts end) u = elim u [ inl g ↦ inl (of_header h g) | inr w ↦ inr (h, refl, w.0, w.1) ]
    of_member class syntax.Member.Unknown u = absurd u

    to_member : (class : List ℕ) (m : Member) → Missing (named_in m ++ thrown_in m) n → UnknownInMember unit class m n
    to_member class syntax.Member.Nothing m = none m
    to_member class (syntax.Initializer is_static block) m = none m
    to_member class (syntax.Fields ms ty declarators) m =
        elim (cases (named_in_types (ty ∷ [])) [] m) [ inl x ↦ elim (cases (named_by ty.base ty.token) [] x) [ inl y ↦ to_base ty.base ty.token y | inr z ↦ none z ] | inr y ↦ none y ]
    to_member class (syntax.Method h result body) m = to_method result h m
    to_member class (syntax.Constructor h own_call brace parts end) m = inl (to_header h m)
    to_member class syntax.Member.Unknown m = none m

    wrong_name : (class : List ℕ) (m : Member) → WrongName class m → UnknownInMember unit class m n
    unfolding WrongName
    wrong_name class syntax.Member.Nothing (h, is, w, e) = absurd (cc)
    wrong_name class (syntax.Initializer is_static block) (h, is, w, e) = absurd (cc)
    wrong_name class (syntax.Fields ms ty declarators) (h, is, w, e) = absurd (cc)
    wrong_name class (syntax.Method g result body) (h, is, w, e) = absurd (cc)
    wrong_name class (syntax.Constructor g own_call brace parts end) (h, is, w, e) = let same : h ≡ g = cc in inr (subst (λ (x : Header). Here (x.name.name ≡ class → ⊥) x.name.token n) same (w, e))
    wrong_name class syntax.Member.Unknown (h, is, w, e) = absurd (cc)

    -- ---- of a class, and of the unit

    missing_in : (i : ℕ) (k : ClassSyntax) → slice_get (classes_of unit) i ≡ Some k → Missing (names_in k) n → IsUnknownName unit n
    unfolding Missing
    missing_in i k there (name, c, d, e) = subst (IsUnknownName unit) e (unknown_class (contained (classes_of unit) i k there) c d)

    pub of_parts : Unknowns unit n → IsUnknownName unit n
    unfolding WrongName
    of_parts (i, k, there, u) =
        let above = option_to_list k.above in
        let members = flat_map (λ m. named_in m ++ thrown_in m) k.members in
        elim u [
          | inl a ↦ missing_in i k there (left (above ++ k.interfaces) members (left above k.interfaces (of_above k.above a)))
          | inr rest ↦ elim rest [
            | inl ns ↦ missing_in i k there (left (above ++ k.interfaces) members (right above k.interfaces (of_names k.interfaces ns)))
            | inr w ↦ elim (of_member k.name.name w.1 w.3) [
              | inl m ↦ missing_in i k there (right (above ++ k.interfaces) members (in_each (λ m. named_in m ++ thrown_in m) k.members w.0 w.1 w.2 m))
              | inr (h, is, differs, e) ↦ subst (IsUnknownName unit) e (unknown_constructor {c = first_source_class + i} (record { written = in_numbered first_source_class (classes_of unit) i k there; member = contained k.members w.0 w.1 w.2 }) is differs)
            ]
          ]
        ]

    to_class : (k : ClassSyntax) → Missing (names_in k) n → UnknownInClass unit k n
    to_class k m =
        let above = option_to_list k.above in
        let members = flat_map (λ m. named_in m ++ thrown_in m) k.members in
        elim (cases (above ++ k.interfaces) members m) [
          | inl x ↦ elim (cases above k.interfaces x) [ inl a ↦ inl (to_above k.above a) | inr ns ↦ inr (inl (to_names k.interfaces ns)) ]
          | inr y ↦ (let w = of_each (λ m. named_in m ++ thrown_in m) k.members y in inr (inr (w.0, w.1, w.2, to_member k.name.name w.1 w.3)))
        ]

  pub in_parts : (n : ℕ) → IsUnknownName unit n → Unknowns unit n
  unfolding Missing WrongName
  in_parts _ (unknown_class {k} {n = name} c d e) = let p = placed (classes_of unit) k c in (p.0, k, p.1, to_class name.token k (name, d, e, refl))
  in_parts _ (unknown_constructor {c} {k} {m} {h} has is differs) =
      let w = of_numbered first_source_class (classes_of unit) c k has.written in
      let p = placed k.members m has.member in
      (w.0, k, w.1, inr (inr (p.0, m, p.1, wrong_name h.name.token k.name.name m (h, is, differs, refl))))

  pub unknown_least : (r : Option ℕ) → IsLeast (Unknowns unit) r → IsLeast (IsUnknownName unit) r
  unknown_least r h = like (Unknowns unit) (IsUnknownName unit) r of_parts in_parts h
