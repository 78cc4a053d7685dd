-- What is declared again, part by part, is what is declared again by the rule.
use Rattle.std.proofs.Common.{◌≡◌, ℕ, zero, suc, ◌+◌, arith, List, [], Option, Some, inl, inr, refl, sym, subst}
use Rattle.std.specs.Prelude.{slice_get, ◌∷◌, map}
use Rattle.std.specs.List.{Contains}
use Rattle.std.proofs.lemmas.List.Elements.{Contains-append_right, Contains-append_cases}
use Rattle.wy_kernel.specs.Program.{first_source_class}
use Rattle.wy_syntax.specs.Syntax.{Placed, Parameter, Header, Member, ClassSyntax}
use Rattle.wy_syntax.specs.Syntax as syntax
use Rattle.wy_members.specs.Least.{IsLeast}
use Rattle.wy_members.specs.Within.{ModifierTwice, ParameterTwice, RepeatsInMember, RepeatsInClass, RepeatsIn}
use Rattle.wy_members.specs.Declarations.{CompilationUnit, classes_of, table}
use Rattle.wy_members.specs.Broken.{known_part, modifiers_of, modifiers_in, header_of, HasMember, IsSourceClass, IsDuplicate, again_class, reserved, again_field, again_method, again_parameter, again_modifier}
use Rattle.wy_members.proofs.Contained.{contained, placed, in_mapped, of_mapped, in_numbered, of_numbered}
use Rattle.wy_members.proofs.Leasts.{like}

-- all parts
abbrev pub Repeats : CompilationUnit → ℕ → Type 0
Repeats unit = RepeatsIn (table unit).classes (table unit).fields (table (known_part unit)).methods (classes_of unit)

module _ (unit : CompilationUnit) where
  at_token : {m n : ℕ} → m ≡ n → IsDuplicate unit m → IsDuplicate unit n
  at_token e d = subst (IsDuplicate unit) e d

  has_member : (i : ℕ) (k : ClassSyntax) (j : ℕ) (m : Member) → slice_get (classes_of unit) i ≡ Some k → slice_get k.members j ≡ Some m → HasMember unit (first_source_class + i) k m
  has_member i k j m there here = record { written = in_numbered first_source_class (classes_of unit) i k there; member = contained k.members j m here }

  of_modifiers : (k : ClassSyntax) (ms : List Placed) → Contains (classes_of unit) k → Contains (modifiers_in k) ms → (n : ℕ) → ModifierTwice ms n → IsDuplicate unit n
  of_modifiers k ms c d n (i, j, a, b, lt, at, there, s, e) = at_token e (again_modifier c d (i, j, lt, at, there) s)

  of_parameters : (i : ℕ) (k : ClassSyntax) (m : Member) (h : Header) → HasMember unit (first_source_class + i) k m → header_of m ≡ Some h → (n : ℕ) → ParameterTwice h.params n → IsDuplicate unit n
  of_parameters i k m h has is n (x, y, a, b, lt, at, there, s, e) = at_token e (again_parameter has is (x, y, lt, at, there) s)

  of_member : (i : ℕ) (k : ClassSyntax) (m : Member) → Contains (classes_of unit) k → Contains (modifiers_in k) (modifiers_of m) → HasMember unit (first_source_class + i) k m → (n : ℕ) → RepeatsInMember m n → IsDuplicate unit n
  of_member i k syntax.Member.Nothing c d has n h = absurd h
  of_member i k (syntax.Initializer is_static block) c d has n h = absurd h
  of_member i k (syntax.Fields ms ty declarators) c d has n h = of_modifiers k ms c d n h
  of_member i k (syntax.Method h result body) c d has n r = elim r [ inl a ↦ of_modifiers k h.modifiers c d n a | inr b ↦ of_parameters i k (syntax.Method h result body) h has refl n b ]
  of_member i k (syntax.Constructor h own_call brace parts end) c d has n r = elim r [ inl a ↦ of_modifiers k h.modifiers c d n a | inr b ↦ of_parameters i k (syntax.Constructor h own_call brace parts end) h has refl n b ]
  of_member i k syntax.Member.Unknown c d has n h = absurd h

  of_class : (i : ℕ) (k : ClassSyntax) → slice_get (classes_of unit) i ≡ Some k → (n : ℕ) → RepeatsInClass k n → IsDuplicate unit n
  of_class i k there n r =
      let c = contained (classes_of unit) i k there in
      elim r [
        | inl a ↦ at_token a.1 (reserved c a.0)
        | inr b ↦ elim b [
          | inl own ↦ of_modifiers k k.modifiers c (contained (modifiers_in k) 0 k.modifiers refl) n own
          | inr m ↦ of_member i k m.1 c (Contains-append_right (k.modifiers ∷ []) (map modifiers_of k.members) (modifiers_of m.1) (in_mapped modifiers_of k.members m.0 m.1 m.2)) (has_member i k m.0 m.1 there m.2) n m.3
        ]
      ]

  pub of_parts : (n : ℕ) → Repeats unit n → IsDuplicate unit n
  of_parts n r =
      elim r [
        | inl rows ↦ elim rows [
          | inl (i, j, a, b, lt, at, there, s, e) ↦ at_token e (again_class (i, j, lt, at, there) s)
          | inr (i, j, a, b, lt, at, there, s, e) ↦ at_token e (again_field (i, j, lt, at, there) s.0 s.1)
        ]
        | inr rest ↦ elim rest [
          | inl (i, j, a, b, lt, at, there, s, e) ↦ at_token e (again_method (i, j, lt, at, there) s.0 s.1 s.2)
          | inr (i, k, there, r) ↦ of_class i k there n r
        ]
      ]

  -- ---- and back

  member_with : (m : Member) (h : Header) → header_of m ≡ Some h → (n : ℕ) → ParameterTwice h.params n → RepeatsInMember m n
  member_with syntax.Member.Nothing h e n p = absurd (cc)
  member_with (syntax.Initializer is_static block) h e n p = absurd (cc)
  member_with (syntax.Fields ms ty declarators) h e n p = absurd (cc)
  member_with (syntax.Method g result body) h e n p = let same : h ≡ g = cc in inr (subst (λ (x : Header). ParameterTwice x.params n) same p)
  member_with (syntax.Constructor g own_call brace parts end) h e n p = let same : h ≡ g = cc in inr (subst (λ (x : Header). ParameterTwice x.params n) same p)
  member_with syntax.Member.Unknown h e n p = absurd (cc)

  member_of_modifiers : (m : Member) (n : ℕ) → ModifierTwice (modifiers_of m) n → RepeatsInMember m n
  member_of_modifiers syntax.Member.Nothing n (i, j, a, b, lt, at, there, same, e) = absurd (cc)
  member_of_modifiers (syntax.Initializer is_static block) n (i, j, a, b, lt, at, there, same, e) = absurd (cc)
  member_of_modifiers (syntax.Fields ms ty declarators) n t = t
  member_of_modifiers (syntax.Method g result body) n t = inl t
  member_of_modifiers (syntax.Constructor g own_call brace parts end) n t = inl t
  member_of_modifiers syntax.Member.Unknown n (i, j, a, b, lt, at, there, same, e) = absurd (cc)

  class_with : (i : ℕ) (k : ClassSyntax) (j : ℕ) (m : Member) → slice_get (classes_of unit) i ≡ Some k → slice_get k.members j ≡ Some m → (n : ℕ) → RepeatsInMember m n → Repeats unit n
  class_with i k j m there here n r = inr (inr (i, k, there, inr (inr (j, m, here, r))))

  written_at : (c : ℕ) (k : ClassSyntax) → IsSourceClass unit c k → (i : ℕ) × (slice_get (classes_of unit) i ≡ Some k)
  written_at c k w = let at = of_numbered first_source_class (classes_of unit) c k w in (at.0, at.1)

  one_in : {X : Type 0} (x y : X) → Contains (y ∷ []) x → y ≡ x
  one_in x y (zero, lt, e) = e
  one_in x y (suc k, lt, e) = absurd (omega arith)

  modifiers_with : (i : ℕ) (k : ClassSyntax) (ms : List Placed) → slice_get (classes_of unit) i ≡ Some k → Contains (modifiers_in k) ms → (n : ℕ) → ModifierTwice ms n → Repeats unit n
  modifiers_with i k ms there c n t =
      elim (Contains-append_cases (k.modifiers ∷ []) (map modifiers_of k.members) ms c) [
        | inl own ↦ inr (inr (i, k, there, inr (inl (subst (λ (x : List Placed). ModifierTwice x n) (sym (one_in ms k.modifiers own)) t))))
        | inr of ↦ (let m = of_mapped modifiers_of k.members ms of in class_with i k m.0 m.1 there m.2 n (member_of_modifiers m.1 n (subst (λ (x : List Placed). ModifierTwice x n) (sym m.3) t)))
      ]

  pub in_parts : (n : ℕ) → IsDuplicate unit n → Repeats unit n
  in_parts _ (again_class {a} {b} (i, j, lt, at, there) s) = inl (inl (i, j, a, b, lt, at, there, s, refl))
  in_parts _ (reserved {k} c r) = let at = placed (classes_of unit) k c in inr (inr (at.0, k, at.1, inl (r, refl)))
  in_parts _ (again_field {a} {b} (i, j, lt, at, there) s t) = inl (inr (i, j, a, b, lt, at, there, (s, t), refl))
  in_parts _ (again_method {a} {b} (i, j, lt, at, there) s t u) = inr (inl (i, j, a, b, lt, at, there, (s, t, u), refl))
  in_parts _ (again_parameter {c} {k} {m} {h} {a} {b} has is (x, y, lt, at, there) s) =
      let w = written_at c k has.written in
      let p = placed k.members m has.member in
      class_with w.0 k p.0 m w.1 p.1 b.name.token (member_with m h is b.name.token (x, y, a, b, lt, at, there, s, refl))
  in_parts _ (again_modifier {k} {ms} {a} {b} c d (x, y, lt, at, there) s) =
      let p = placed (classes_of unit) k c in modifiers_with p.0 k ms p.1 d b.token (x, y, a, b, lt, at, there, s, refl)

  pub duplicate_least : (r : Option ℕ) → IsLeast (Repeats unit) r → IsLeast (IsDuplicate unit) r
  duplicate_least r h = like (Repeats unit) (IsDuplicate unit) r of_parts in_parts h
