-- What lies above what, and that what the test of a run finds is what the relation of types says.
use Rattle.std.proofs.Common.{◌≡◌, ◌<◌, ◌+◌, ◌*◌, ◌^◌, arith, ℕ, zero, suc, Bool, true, false, ◌||◌, List, [], ◌∷◌, ◌⊎◌, inl, inr, ⊎_elim, Option, Some, refl, sym, subst, ap, ◌∙◌}
use Rattle.std.specs.Prelude.{None as Absent}
use Rattle.std.specs.Prelude.{slice_get, slice_index_or, ◌==◌, ◌%◌, ◌/◌}
use Rattle.std.specs.Option.{option_to_list}
use Rattle.std.specs.List.{Contains}
use Rattle.std.proofs.lemmas.Bool.{eqb-true}
use Rattle.std.proofs.lemmas.Bool.Decides.{nat_tests}
use Rattle.std.proofs.lemmas.Nat.{div-mul-add, mod-mul-add}
use Rattle.std.proofs.lemmas.List.Elements.{Contains-append_left, Contains-append_right}
use Rattle.wy_kernel.specs.declared.operator.Primitive.{Primitive}
use Rattle.wy_kernel.specs.declared.operator.Primitive.TheVariants as prim
use Rattle.wy_kernel.specs.declared.types.Base.{Base}
use Rattle.wy_kernel.specs.declared.types.Base.TheVariants.{Primitive as Basic, Class as Named}
use Rattle.wy_kernel.specs.declared.types.Ty.{Ty}
use Rattle.wy_kernel.specs.declared.types.Ty.TheVariants.{Void, Null as OfNull, Of}
use Rattle.wy_kernel.specs.Program.{Program, Class, class, class_below, is_above, is_one_of, is_subclass, same_primitive, primitive_code, base_code, base_of, type_code, type_of_code, base_below, is_object, brackets_below, is_below, object_class, string_class}
use Rattle.wy_kernel.specs.Subtyping.{IsReference, class_type, object_type, named_above, direct_supertypes, Below, same, transitive, declared, byte_short, short_int, int_long, char_int, of_null, to_object, of_arrays}
use Rattle.wy_typing.specs.Types.{text_type}

-- ---- what is found is so

or_true : (a b : Bool) → (a || b) ≡ true → (a ≡ true) ⊎ (b ≡ true)
or_true true b e = inl refl
or_true false b e = inr e

in_list : (n : ℕ) (ns : List ℕ) (d : ℕ) → (n ≡ d) ⊎ Contains ns d → Contains (n ∷ ns) d
in_list n ns d (inl e) = (0, omega arith, e)
in_list n ns d (inr h) = (suc h.0, omega (arith, h.1), h.2)

one_of : (f : ℕ → Bool) (ns : List ℕ) → is_one_of f ns ≡ true → (d : ℕ) × Contains ns d × (f d ≡ true)
unfolding is_one_of
one_of f [] e = absurd (cc e)
one_of f (n ∷ ns) e = ⊎_elim (λ h. (n, in_list n ns n (inl refl), h)) (λ h. let x = one_of f ns h in (x.0, in_list n ns x.0 (inr x.1), x.2)) (or_true (f n) (is_one_of f ns) e)

one_above : (f : ℕ → Bool) (o : Option ℕ) → is_above f o ≡ true → (d : ℕ) × Contains (option_to_list o) d × (f d ≡ true)
unfolding is_above
one_above f Absent e = absurd (cc e)
one_above f (Some d) e = (d, (0, omega arith, refl), e)

-- the numbered part, or the default where there is none
pub part_at : {X : Type 0} (xs : List X) (n : ℕ) (d : X) → ((slice_get xs n ≡ Absent) × (slice_index_or xs n d ≡ d)) ⊎ ((x : X) × (slice_get xs n ≡ Some x) × (slice_index_or xs n d ≡ x))
part_at [] n d = inl (refl, refl)
part_at (x ∷ xs) zero d = inr (x, refl, refl)
part_at (x ∷ xs) (suc n) d = part_at xs n d

pub part_is : {X : Type 0} (xs : List X) (n : ℕ) (d x : X) → slice_get xs n ≡ Some x → slice_index_or xs n d ≡ x
part_is [] n d x e = absurd (cc e)
part_is (y ∷ xs) zero d x e = cc e
part_is (y ∷ xs) (suc n) d x e = part_is xs n d x e

named_in : (k : Class) (d : ℕ) → Contains (option_to_list k.above) d ⊎ Contains k.interfaces d → Contains (named_above (Some k)) d
named_in k d (inl h) = Contains-append_left (option_to_list k.above) k.interfaces d h
named_in k d (inr h) = Contains-append_right (option_to_list k.above) k.interfaces d h

module _ (p : Program) where
  abbrev Under : ℕ → ℕ → Type 0
  Under c d = Below p.classes (class_type c) (class_type d)

  direct : (c : ℕ) (k : Class) (d : ℕ) → slice_get p.classes c ≡ Some k → Contains (named_above (Some k)) d → Under c d
  unfolding direct_supertypes
  direct c k d e h = declared (subst (λ x. Contains (named_above x) d) (sym e) h)

  abbrev Rises : (ℕ → Bool) → Class → Type 0
  Rises f k = (is_above f k.above ≡ true) ⊎ (is_one_of f k.interfaces ≡ true)

  nameless : (f : ℕ → Bool) (k : Class) → k.above ≡ Absent → k.interfaces ≡ [] → Rises f k → ⊥
  unfolding is_above is_one_of
  nameless f k a i (inl h) = absurd (cc (subst (λ o. is_above f o ≡ true) a h))
  nameless f k a i (inr h) = absurd (cc (subst (λ ns. is_one_of f ns ≡ true) i h))

  rising : (f : ℕ → Bool) (c d : ℕ) → ((e : ℕ) → f e ≡ true → Under e d) → (k : Class) → slice_get p.classes c ≡ Some k → Rises f k → Under c d
  rising f c d up k g (inl a) = let x = one_above f k.above a in transitive (direct c k x.0 g (named_in k x.0 (inl x.1))) (up x.0 x.2)
  rising f c d up k g (inr a) = let x = one_of f k.interfaces a in transitive (direct c k x.0 g (named_in k x.0 (inr x.1))) (up x.0 x.2)

  rises_from : (f : ℕ → Bool) (c d : ℕ) → ((e : ℕ) → f e ≡ true → Under e d) → Rises f (class p c) → Under c d
  unfolding class
  rises_from f c d up h = ⊎_elim
      (λ g. absurd (nameless f (class p c) (ap (λ (k : Class). k.above) g.1) (ap (λ (k : Class). k.interfaces) g.1) h))
      (λ g. rising f c d up g.0 g.1 (subst (Rises f) g.2 h))
      (part_at p.classes c _)

  class_under : (longest c d : ℕ) → class_below p longest c d ≡ true → Under c d
  unfolding class_below
  class_under zero c d e = absurd (cc e)
  class_under (suc n) c d e = by_interface (λ x. class_under n x d) (or_true _ (is_one_of (λ x. class_below p n x d) (class p c).interfaces) e)
    where
      alike : ((c == d) ≡ true) ⊎ ((d == object_class) ≡ true) → Under c d
      alike (inl h) = subst (Under c) (eqb-true c d h) same
      alike (inr h) = subst (Under c) (sym (eqb-true d object_class h)) (to_object tt)

      by_class : ((x : ℕ) → class_below p n x d ≡ true → Under x d) → ((c == d || d == object_class) ≡ true) ⊎ (is_above (λ x. class_below p n x d) (class p c).above ≡ true) → Under c d
      by_class up (inl h) = alike (or_true (c == d) (d == object_class) h)
      by_class up (inr h) = rises_from (λ x. class_below p n x d) c d up (inl h)

      by_interface : ((x : ℕ) → class_below p n x d ≡ true → Under x d) → ((c == d || d == object_class || is_above (λ x. class_below p n x d) (class p c).above) ≡ true) ⊎ (is_one_of (λ x. class_below p n x d) (class p c).interfaces ≡ true) → Under c d
      by_interface up (inl h) = by_class up (or_true (c == d || d == object_class) (is_above (λ x. class_below p n x d) (class p c).above) h)
      by_interface up (inr h) = rises_from (λ x. class_below p n x d) c d up (inr h)

  -- what a run finds of two classes is so
  pub subclass_under : (c d : ℕ) → is_subclass p c d ≡ true → Under c d
  unfolding is_subclass
  subclass_under c d e = class_under _ c d e

  -- the same type, or both are references
  abbrev pub Under_or_same : Ty → Ty → Type 0
  Under_or_same a b = (a ≡ b) ⊎ (IsReference a × IsReference b × Below p.classes a b)

  -- an array of the elements
  abbrev array_of : Ty → Ty
  array_of (Of b n) = Of b (suc n)
  array_of a = a

  basic_code : (q : Primitive) → base_of (primitive_code q) ≡ Basic q
  unfolding base_of primitive_code
  basic_code prim.Bool = refl
  basic_code prim.Byte = refl
  basic_code prim.Short = refl
  basic_code prim.Char = refl
  basic_code prim.Int = refl
  basic_code prim.Long = refl

  array_reference : (a : Base) (m : ℕ) → IsReference (Of a (suc m))
  array_reference (Basic q) m = tt
  array_reference (Named c) m = tt

  base_under : (a b : Base) → base_below p a b ≡ true → Under_or_same (Of a 0) (Of b 0)
  unfolding base_below same_primitive
  base_under (Named c) (Named d) e = inr (tt, tt, subclass_under c d e)
  base_under (Basic q) (Basic r) e = inl (ap (λ b. Of b 0) (sym (basic_code q) ∙ ap base_of (eqb-true (primitive_code q) (primitive_code r) e) ∙ basic_code r))
  base_under (Named c) (Basic r) e = absurd (cc e)
  base_under (Basic q) (Named d) e = absurd (cc e)

  object_under : (a b : Base) (m : ℕ) → is_object b ≡ true → Under_or_same (Of a (suc m)) (Of b 0)
  unfolding is_object
  object_under a (Named c) m e = inr (array_reference a m, tt, subst (λ k. Below p.classes (Of a (suc m)) (class_type k)) (sym (eqb-true c object_class e)) (to_object (array_reference a m)))
  object_under a (Basic q) m e = absurd (cc e)

  brackets_under : (a : Base) (m : ℕ) (b : Base) (n : ℕ) → brackets_below p a m b n ≡ true → Under_or_same (Of a m) (Of b n)
  unfolding brackets_below
  brackets_under a zero b zero e = base_under a b e
  brackets_under a (suc m) b zero e = object_under a b m e
  brackets_under a zero b (suc n) e = absurd (cc e)
  brackets_under a (suc m) b (suc n) e = ⊎_elim (λ h. inl (ap array_of h)) (λ h. inr (array_reference a m, array_reference b n, of_arrays h.0 h.1 h.2)) (brackets_under a m b n e)

  -- what a run finds of a run-time type is so
  pub found_under : (a b : Ty) → is_below p a b ≡ true → Under_or_same a b
  unfolding is_below
  found_under (Of a m) (Of b n) e = brackets_under a m b n e
  found_under Void b e = absurd (cc e)
  found_under OfNull b e = absurd (cc e)
  found_under (Of a m) Void e = absurd (cc e)
  found_under (Of a m) OfNull e = absurd (cc e)

-- ---- what lies above a type

module _ (classes : List Class) where
  -- a class that is below Object alone
  abbrev pub Top : Type 0
  Top = (d : ℕ) → Contains (direct_supertypes classes object_class) d → ⊥

  class_number : {c d : ℕ} → class_type c ≡ class_type d → c ≡ d
  class_number e = cc e

  pub above_object : Top → (a b : Ty) → Below classes a b → a ≡ object_type → b ≡ object_type
  above_object top a b same e = e
  above_object top a b (transitive {b = c} k l) e = above_object top c b l (above_object top a c k e)
  above_object top a b (declared {c = c} {d = d} h) e = absurd (top d (subst (λ k. Contains (direct_supertypes classes k) d) (class_number e) h))
  above_object top a b byte_short e = absurd (cc e)
  above_object top a b short_int e = absurd (cc e)
  above_object top a b int_long e = absurd (cc e)
  above_object top a b char_int e = absurd (cc e)
  above_object top a b (of_null r) e = absurd (cc e)
  above_object top a b (to_object r) e = refl
  above_object top a b (of_arrays r s h) e = absurd (cc e)

  pub above_class : (a b : Ty) → Below classes a b → (c : ℕ) → a ≡ class_type c → (d : ℕ) × (b ≡ class_type d)
  above_class a b same c e = (c, e)
  above_class a b (transitive {b = x} k l) c e = let h = above_class a x k c e in above_class x b l h.0 h.1
  above_class a b (declared {c = c1} {d = d} h) c e = (d, refl)
  above_class a b byte_short c e = absurd (cc e)
  above_class a b short_int c e = absurd (cc e)
  above_class a b int_long c e = absurd (cc e)
  above_class a b char_int c e = absurd (cc e)
  above_class a b (of_null r) c e = absurd (cc e)
  above_class a b (to_object r) c e = (object_class, refl)
  above_class a b (of_arrays r s h) c e = absurd (cc e)

  -- String is below Object and itself alone
  pub above_text : Top → ((d : ℕ) → Contains (direct_supertypes classes string_class) d → d ≡ object_class) → (a b : Ty) → Below classes a b → a ≡ text_type → (b ≡ object_type) ⊎ (b ≡ text_type)
  above_text top text a b same e = inr e
  above_text top text a b (transitive {b = c} k l) e = ⊎_elim (λ h. inl (above_object top c b l h)) (λ h. above_text top text c b l h) (above_text top text a c k e)
  above_text top text a b (declared {c = c} {d = d} h) e = inl (ap class_type (text d (subst (λ k. Contains (direct_supertypes classes k) d) (class_number e) h)))
  above_text top text a b byte_short e = absurd (cc e)
  above_text top text a b short_int e = absurd (cc e)
  above_text top text a b int_long e = absurd (cc e)
  above_text top text a b char_int e = absurd (cc e)
  above_text top text a b (of_null r) e = absurd (cc e)
  above_text top text a b (to_object r) e = inl refl
  above_text top text a b (of_arrays r s h) e = absurd (cc e)

  -- the elements of two arrays, where one array is below the other
  abbrev pub ElementsUnder : Ty → Ty → Type 0
  ElementsUnder a b = (a ≡ b) ⊎ (IsReference a × IsReference b × Below classes a b)

  elements_under : (a b c : Ty) → ElementsUnder a b → ElementsUnder b c → ElementsUnder a c
  elements_under a b c (inl e) h = subst (λ x. ElementsUnder x c) (sym e) h
  elements_under a b c (inr g) (inl e) = subst (λ x. ElementsUnder a x) e (inr g)
  elements_under a b c (inr g) (inr h) = inr (g.0, h.1, transitive g.2 h.2)

  abbrev AboveArray : Base → ℕ → Ty → Type 0
  AboveArray x m b = (b ≡ object_type) ⊎ ((y : Base) × (n : ℕ) × (b ≡ Of y (suc n)) × ElementsUnder (Of x m) (Of y n))

  elements_same : {a b : Base} {m n : ℕ} → Of a (suc m) ≡ Of b (suc n) → Of a m ≡ Of b n
  elements_same e = cc e

  pub above_array : Top → (a b : Ty) → Below classes a b → (x : Base) (m : ℕ) → a ≡ Of x (suc m) → AboveArray x m b
  above_array top a b same x m e = inr (x, m, e, inl refl)
  above_array top a b (transitive {b = c} k l) x m e = ⊎_elim
      (λ h. inl (above_object top c b l h))
      (λ h. ⊎_elim (λ g. inl g) (λ g. inr (g.0, g.1, g.2, elements_under _ _ _ h.3 g.3)) (above_array top c b l h.0 h.1 h.2))
      (above_array top a c k x m e)
  above_array top a b (declared h) x m e = absurd (cc e)
  above_array top a b byte_short x m e = absurd (cc e)
  above_array top a b short_int x m e = absurd (cc e)
  above_array top a b int_long x m e = absurd (cc e)
  above_array top a b char_int x m e = absurd (cc e)
  above_array top a b (of_null r) x m e = absurd (cc e)
  above_array top a b (to_object r) x m e = inl refl
  above_array top a b (of_arrays {a = y} {b = z} {m = i} {n = j} r s h) x m e = let q : Of y i ≡ Of x m = elements_same e in inr (z, j, refl, subst (λ t. ElementsUnder t (Of z j)) q (inr (r, s, h)))

-- what is above a reference is one
pub reference_above : (classes : List Class) (a b : Ty) → Below classes a b → IsReference a → IsReference b
reference_above classes a b same h = h
reference_above classes a b (transitive {b = c} k l) h = reference_above classes c b l (reference_above classes a c k h)
reference_above classes a b (declared k) h = tt
reference_above classes a b byte_short h = absurd h
reference_above classes a b short_int h = absurd h
reference_above classes a b int_long h = absurd h
reference_above classes a b char_int h = absurd h
reference_above classes a b (of_null r) h = absurd h
reference_above classes a b (to_object r) h = tt
reference_above classes a b (of_arrays {b = c} {n = n} r s k) h = is_reference c n
  where
    is_reference : (c : Base) (n : ℕ) → IsReference (Of c (suc n))
    is_reference (Basic q) n = tt
    is_reference (Named c) n = tt

-- ---- types as numbers

pub named_code : (c : ℕ) → base_of (16 + c) ≡ Named c
unfolding base_of
named_code c = grind (arith, nat_tests)

pub code_back : (b : Base) (n : ℕ) → base_code b < 2 ^ 24 → base_of (base_code b) ≡ b → type_of_code (type_code (Of b n)) ≡ Of b n
unfolding type_of_code type_code
code_back b n lt e =
    let is : 2 ^ 24 * n + base_code b ≡ n * 2 ^ 24 + base_code b = omega arith in
    ap (λ k. Of (base_of (k % 2 ^ 24)) (k / 2 ^ 24)) is ∙ ap (λ k. Of (base_of k) ((n * 2 ^ 24 + base_code b) / 2 ^ 24)) (mod-mul-add n (2 ^ 24) (base_code b) lt) ∙ ap (λ k. Of (base_of (base_code b)) k) (div-mul-add n (2 ^ 24) (base_code b) lt) ∙ ap (λ x. Of x n) e
