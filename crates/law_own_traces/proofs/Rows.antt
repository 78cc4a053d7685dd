-- Each row that a text adds to the tables is of a class of the text.
use Rattle.std.proofs.Common.{◌≡◌, ◌+◌, ◌<◌, ◌≤◌, arith, ℕ, zero, suc, Bool, true, false, ◌||◌, List, [], ◌∷◌, ◌++◌, length, ◌⊎◌, inl, inr, ⊎_elim, Option, Some, None, refl, sym, subst}
use Rattle.std.specs.Prelude.{slice_get, map, flat_map, filter_map, if◌then◌else◌, codes}
use Rattle.std.specs.List.{list_any, enumerate_from, cons_option}
use Rattle.std.proofs.lemmas.Bool.Decides.{nat_tests}
use Rattle.wy_kernel.specs.declared.types.MethodForm.TheVariants as kind
use Rattle.wy_kernel.specs.Builtin as builtin
use Rattle.wy_kernel.specs.Program.{Method, Field, is_source, first_source_class}
use Rattle.wy_syntax.specs.Syntax.{Member, Fields, ClassSyntax}
use Rattle.wy_syntax.specs.Syntax as syntax
use Rattle.wy_members.specs.Declarations.{CompilationUnit, classes_of, method_in, methods_in, methods_of, implied, fields_unit, implied_constructor, field_row, fields_in, fields_of, class_by_class, table, initializes_objects, is_constructor}
use Rattle.law_program_parts.proofs.TypedMade.{comes}
use Rattle.law_own_traces.specs.KeptLibrary.{ProgramsKeepLibrary}

-- ---- lists

abbrev Each : {X : Type 0} → (X → Type 0) → List X → Type 0
Each P [] = Unit {0}
Each P (x ∷ xs) = P x × Each P xs

each_append : {X : Type 0} (P : X → Type 0) (xs ys : List X) → Each P xs → Each P ys → Each P (xs ++ ys)
each_append P [] ys h g = g
each_append P (x ∷ xs) ys h g = (h.0, each_append P xs ys h.1 g)

each_map : {X Y : Type 0} (f : X → Y) (P : Y → Type 0) → ((x : X) → P (f x)) → (xs : List X) → Each P (map f xs)
each_map f P h [] = tt
each_map f P h (x ∷ xs) = (h x, each_map f P h xs)

each_flat : {X Y : Type 0} (f : X → List Y) (P : Y → Type 0) → ((x : X) → Each P (f x)) → (xs : List X) → Each P (flat_map f xs)
each_flat f P h [] = tt
each_flat f P h (x ∷ xs) = each_append P (f x) (flat_map f xs) (h x) (each_flat f P h xs)

each_filtered : {X Y : Type 0} (f : X → Option Y) (P : Y → Type 0) → ((x : X) (y : Y) → f x ≡ Some y → P y) → (xs : List X) → Each P (filter_map f xs)
each_filtered f P h [] = tt
each_filtered f P h (x ∷ xs) = by (f x) refl (each_filtered f P h xs)
  where
    by : (o : Option _) → f x ≡ o → Each P (filter_map f xs) → Each P (cons_option o (filter_map f xs))
    by None e rest = rest
    by (Some y) e rest = (h x y e, rest)

each_by_class : {Y : Type 0} (f : ℕ → ClassSyntax → List Y) (P : Y → Type 0) (low : ℕ) → ((i : ℕ) (k : ClassSyntax) → low ≤ i → Each P (f i k)) → (c : ℕ) (ks : List ClassSyntax) → low ≤ c → Each P (flat_map (λ p. f p.0 p.1) (enumerate_from c ks))
each_by_class f P low h c [] le = tt
each_by_class f P low h c (x ∷ ks) le = each_append P (f c x) (flat_map (λ p. f p.0 p.1) (enumerate_from (c + 1) ks)) (h c x le) (each_by_class f P low h (c + 1) ks (omega (arith, le)))

-- what stands in a list of two parts is in the first, or in the second
in_part : {X : Type 0} (P : X → Type 0) (xs ys : List X) (k : ℕ) (x : X) → Each P ys → slice_get (xs ++ ys) k ≡ Some x → (k < length xs) ⊎ P x
in_part P [] [] k x h e = absurd (cc e)
in_part P [] (y ∷ ys) zero x h e = inr (let q : y ≡ x = cc e in subst P q h.0)
in_part P [] (y ∷ ys) (suc k) x h e = later (in_part P [] ys k x h.1 e)
  where
    later : (k < zero) ⊎ P x → (suc k < zero) ⊎ P x
    later (inl lt) = absurd (omega (arith, lt))
    later (inr q) = inr q
in_part P (y ∷ xs) ys zero x h e = inl (omega arith)
in_part P (y ∷ xs) ys (suc k) x h e = ⊎_elim (λ lt. inl (omega (arith, lt))) (λ q. inr q) (in_part P xs ys k x h e)

-- ---- rows of a class

module _ (unit : CompilationUnit) where
  abbrev OfText : Method → Type 0
  OfText m = first_source_class ≤ m.class

  abbrev FieldOfText : Field → Type 0
  FieldOfText f = first_source_class ≤ f.class

  declared : (c : ℕ) (k : ClassSyntax) → first_source_class ≤ c → (m : Member) (row : Method) → method_in unit c k m ≡ Some row → OfText row
  declared c k le (syntax.Method h result body) row e = let q : c ≡ row.class = cc e in omega (arith, le, q)
  declared c k le (syntax.Constructor h own_call brace parts end) row e = let q : c ≡ row.class = cc e in omega (arith, le, q)
  declared c k le _ row e = absurd (cc e)

  methods_high : (c : ℕ) (k : ClassSyntax) → first_source_class ≤ c → Each OfText (methods_of unit c k)
  methods_high c k le =
      each_append OfText (fields_unit c k ++ implied_constructor c k) (methods_in unit c k k.members)
      (each_append OfText (fields_unit c k) (implied_constructor c k) (units (list_any initializes_objects k.members)) (constructors (k.is_interface || list_any is_constructor k.members)))
      (each_filtered (method_in unit c k) OfText (declared c k le) k.members)
    where
      units : (b : Bool) → Each OfText (if b then implied c k (codes "<fields>") kind.Fields ∷ [] else [])
      units true = (le, tt)
      units false = tt

      constructors : (b : Bool) → Each OfText (if b then [] else implied c k (codes "new") kind.Constructor ∷ [])
      constructors true = tt
      constructors false = (le, tt)

  fields_high : (c : ℕ) (k : ClassSyntax) → first_source_class ≤ c → Each FieldOfText (fields_of unit c k)
  fields_high c k le = each_flat (fields_in unit c) FieldOfText (λ m. member m) k.members
    where
      member : (m : Member) → Each FieldOfText (fields_in unit c m)
      member (Fields ms ty declarators) = each_map (field_row unit c ms ty) FieldOfText (λ d. le) declarators
      member _ = tt

  method_kept : (k : ℕ) (m : Method) → slice_get (table unit).methods k ≡ Some m → (k < length builtin.methods) ⊎ OfText m
  unfolding table
  method_kept k m e = in_part OfText builtin.methods (class_by_class (methods_of unit) unit) k m (each_by_class (methods_of unit) OfText first_source_class methods_high first_source_class (classes_of unit) (omega arith)) e

  field_kept : (k : ℕ) (f : Field) → slice_get (table unit).fields k ≡ Some f → (k < length builtin.fields) ⊎ FieldOfText f
  unfolding table
  field_kept k f e = in_part FieldOfText builtin.fields (class_by_class (fields_of unit) unit) k f (each_by_class (fields_of unit) FieldOfText first_source_class fields_high first_source_class (classes_of unit) (omega arith)) e

no_source : (c : ℕ) → first_source_class ≤ c → is_source c ≡ false → ⊥
unfolding is_source
no_source c le e = grind (arith, nat_tests)

pub programs_keep_library : ProgramsKeepLibrary
programs_keep_library unit tokens p h few =
    let c = comes unit tokens p h in
    record {
      few = few;
      methods = λ k m e s. ⊎_elim (λ lt. lt) (λ high. absurd (no_source m.class high s)) (method_kept unit k m (subst (λ ms. slice_get ms k ≡ Some m) (sym c.methods) e));
      fields = λ k f e s. ⊎_elim (λ lt. lt) (λ high. absurd (no_source f.class high s)) (field_kept unit k f (subst (λ fs. slice_get fs k ≡ Some f) (sym c.fields) e));
    }
