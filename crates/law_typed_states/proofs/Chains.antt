-- A run that looks for a class among those above another finds it: no chain of classes is longer than there are classes, since none is
-- above itself.
use Rattle.std.proofs.Common.{◌≡◌, refl, sym, subst, arith, ℕ, zero, suc, ◌+◌, ◌<◌, ◌⊎◌, inl, inr, ⊎_elim, Bool, true, false, ◌||◌, List, [], ◌∷◌, length, nat_eq, Option, Some}
use Rattle.std.specs.Prelude.{None as Absent}
use Rattle.std.specs.Prelude.{slice_get, ◌==◌}
use Rattle.std.specs.Option.{option_to_list}
use Rattle.std.specs.List.{Contains}
use Rattle.std.proofs.lemmas.Bool.{eq-eqb}
use Rattle.std.proofs.lemmas.List.Elements.{Contains-append_cases}
use Rattle.wy_kernel.specs.declared.types.Base.{Base}
use Rattle.wy_kernel.specs.declared.types.Base.TheVariants.{Primitive as Basic, Class as Named}
use Rattle.wy_kernel.specs.declared.types.Ty.{Ty}
use Rattle.wy_kernel.specs.declared.types.Ty.TheVariants.{Void, Null as OfNull, Of}
use Rattle.wy_kernel.specs.Program.{Program, Class, class, class_below, is_above, is_one_of, is_subclass, same_primitive, base_below, is_object, brackets_below, is_below, object_class}
use Rattle.wy_kernel.specs.Subtyping.{IsReference, class_type, object_type, named_above, direct_supertypes, Supertype, itself, further, IsAcyclic, Below, same, transitive, declared, byte_short, short_int, int_long, char_int, of_null, to_object, of_arrays}
use Rattle.wy_kernel.proofs.Climbing.{GoesUp, climb, none_contained, one_way}
use Rattle.law_typed_states.specs.Laws.{TestsAreExact}
use Rattle.law_typed_states.proofs.Subtypes.{part_is, Top, above_object, above_class, above_array, ElementsUnder, found_under, subclass_under}

-- ---- classes

left_true : (a b : Bool) → a ≡ true → (a || b) ≡ true
left_true true b e = refl
left_true false b e = absurd (cc e)

right_true : (a b : Bool) → b ≡ true → (a || b) ≡ true
right_true true b e = refl
right_true false b e = e

one_of_true : (f : ℕ → Bool) (ns : List ℕ) (e : ℕ) → Contains ns e → f e ≡ true → is_one_of f ns ≡ true
unfolding is_one_of
one_of_true f [] e h t = none_contained e h
one_of_true f (n ∷ ns) e (zero, lt, is) t = left_true (f n) _ (subst (λ x. f x ≡ true) (sym is) t)
one_of_true f (n ∷ ns) e (suc k, lt, is) t = right_true (f n) _ (one_of_true f ns e (k, omega (arith, lt), is) t)

above_true : (f : ℕ → Bool) (o : Option ℕ) (e : ℕ) → Contains (option_to_list o) e → f e ≡ true → is_above f o ≡ true
unfolding is_above
above_true f Absent e h t = none_contained e h
above_true f (Some n) e (zero, lt, is) t = subst (λ x. f x ≡ true) (sym is) t
above_true f (Some n) e (suc k, lt, is) t = absurd (omega (arith, lt))

row_of : (classes : List Class) (c e : ℕ) (o : Option Class) → slice_get classes c ≡ o → Contains (direct_supertypes classes c) e → (k : Class) × (slice_get classes c ≡ Some k) × (Contains (option_to_list k.above) e ⊎ Contains k.interfaces e)
unfolding direct_supertypes
row_of classes c e Absent is h = none_contained e (subst (λ o. Contains (named_above o) e) is h)
row_of classes c e (Some k) is h = (k, is, Contains-append_cases (option_to_list k.above) k.interfaces e (subst (λ o. Contains (named_above o) e) is h))

module _ (p : Program) (acyclic : IsAcyclic p.classes) (top : Top p.classes) where
  abbrev Found : ℕ → ℕ → Type 0
  Found f c = (d : ℕ) → Supertype p.classes c d → class_below p f c d ≡ true

  at_once : (f c : ℕ) → class_below p (suc f) c c ≡ true
  unfolding class_below
  at_once f c = left_true _ _ (left_true _ _ (left_true _ _ (eq-eqb c c refl)))

  at_object : (f c : ℕ) → class_below p (suc f) c object_class ≡ true
  unfolding class_below
  at_object f c = left_true _ _ (left_true _ _ (right_true (c == object_class) _ refl))

  by_row : (f c d : ℕ) (k : Class) → slice_get p.classes c ≡ Some k → (is_above (λ e. class_below p f e d) k.above ≡ true) ⊎ (is_one_of (λ e. class_below p f e d) k.interfaces ≡ true) → class_below p (suc f) c d ≡ true
  unfolding class_below class
  by_row f c d k is (inl h) = left_true _ _ (right_true _ _ (subst (λ (x : Class). is_above (λ e. class_below p f e d) x.above ≡ true) (sym (part_is p.classes c _ k is)) h))
  by_row f c d k is (inr h) = right_true _ _ (subst (λ (x : Class). is_one_of (λ e. class_below p f e d) x.interfaces ≡ true) (sym (part_is p.classes c _ k is)) h)

  goes_up : GoesUp p.classes Found
  goes_up f c up d s = ⊎_elim
      (λ e. subst (λ x. class_below p (suc f) c x ≡ true) e (at_once f c))
      (λ h. let r = row_of p.classes c h.0 (slice_get p.classes c) refl h.1 in let t = up h.0 h.1 d h.2 in
      by_row f c d r.0 r.1 (⊎_elim (λ a. inl (above_true _ r.0.above h.0 a t)) (λ b. inr (one_of_true _ r.0.interfaces h.0 b t)) r.2))
      (one_way p.classes s)

  subclass_found : (c d : ℕ) → Supertype p.classes c d → is_subclass p c d ≡ true
  unfolding is_subclass
  subclass_found c d s = climb p.classes acyclic Found goes_up c d s

  -- ---- types

  -- what is above a class is Object, or a class that the class descends from
  abbrev AboveClass : ℕ → Ty → Type 0
  AboveClass c b = (b ≡ object_type) ⊎ ((d : ℕ) × (b ≡ class_type d) × Supertype p.classes c d)

  joined : {c d e : ℕ} → Supertype p.classes c d → Supertype p.classes d e → Supertype p.classes c e
  joined itself t = t
  joined (further h s) t = further h (joined s t)

  class_number : {c d : ℕ} → class_type c ≡ class_type d → c ≡ d
  class_number e = cc e

  chain_above : (a b : Ty) → Below p.classes a b → (c : ℕ) → a ≡ class_type c → AboveClass c b
  chain_above a b same c e = inr (c, e, itself)
  chain_above a b (transitive {b = x} k l) c e = ⊎_elim
      (λ h. inl (above_object p.classes top x b l h))
      (λ h. ⊎_elim (λ g. inl g) (λ g. inr (g.0, g.1, joined h.2 g.2)) (chain_above x b l h.0 h.1))
      (chain_above a x k c e)
  chain_above a b (declared {c = x} {d = d} h) c e = inr (d, refl, further (subst (λ k. Contains (direct_supertypes p.classes k) d) (class_number e) h) itself)
  chain_above a b byte_short c e = absurd (cc e)
  chain_above a b short_int c e = absurd (cc e)
  chain_above a b int_long c e = absurd (cc e)
  chain_above a b char_int c e = absurd (cc e)
  chain_above a b (of_null r) c e = absurd (cc e)
  chain_above a b (to_object r) c e = inl refl
  chain_above a b (of_arrays r s h) c e = absurd (cc e)

  pub class_found : (c d : ℕ) → Below p.classes (class_type c) (class_type d) → is_subclass p c d ≡ true
  unfolding is_subclass
  class_found c d h = ⊎_elim
      (λ e. subst (λ x. class_below p (suc (length p.classes)) c x ≡ true) (sym (class_number e)) (at_object (length p.classes) c))
      (λ s. subst (λ x. is_subclass p c x ≡ true) (sym (class_number s.1)) (subclass_found c s.0 s.2))
      (chain_above _ _ h c refl)

  found_itself : (a : Base) (m : ℕ) → brackets_below p a m a m ≡ true
  unfolding brackets_below base_below same_primitive is_subclass
  found_itself (Named c) zero = at_once (length p.classes) c
  found_itself (Basic q) zero = eq-eqb _ _ refl
  found_itself a (suc m) = found_itself a m

  same_elements : {x y : Base} {j k : ℕ} → Of x (suc j) ≡ Of y (suc k) → Of x j ≡ Of y k
  same_elements e = cc e

  alike : (x : Base) (j : ℕ) (y : Base) (k : ℕ) → Of x j ≡ Of y k → brackets_below p x j y k ≡ true
  alike x j y k e = let e1 : x ≡ y = cc e in let e2 : j ≡ k = cc e in subst (λ z. brackets_below p x j z k ≡ true) e1 (subst (λ z. brackets_below p x j x z ≡ true) e2 (found_itself x j))

  elements_found : (a : Base) (m : ℕ) (b : Base) (n : ℕ) → (IsReference (Of a m) → Below p.classes (Of a m) (Of b n) → brackets_below p a m b n ≡ true) → ElementsUnder p.classes (Of a m) (Of b n) → brackets_below p a m b n ≡ true
  elements_found a m b n again (inl e) = alike a m b n e
  elements_found a m b n again (inr u) = again u.0 u.2

  -- a reference of the first type is found below the second
  found_where : (a : Base) (m : ℕ) (b : Base) (n : ℕ) → IsReference (Of a m) → Below p.classes (Of a m) (Of b n) → brackets_below p a m b n ≡ true
  unfolding brackets_below base_below is_object
  found_where (Basic q) zero b n r h = absurd r
  found_where (Named c) zero (Named d) zero r h = class_found c d h
  found_where (Named c) zero (Basic q) zero r h = let x = above_class p.classes _ _ h c refl in absurd (cc x.1)
  found_where (Named c) zero b (suc n) r h = let x = above_class p.classes _ _ h c refl in absurd (cc x.1)
  found_where a (suc m) (Named d) zero r h = ⊎_elim (λ e. eq-eqb d object_class (class_number e)) (λ x. absurd (cc x.2)) (above_array p.classes top _ _ h a m refl)
  found_where a (suc m) (Basic q) zero r h = ⊎_elim (λ e. absurd (cc e)) (λ x. absurd (cc x.2)) (above_array p.classes top _ _ h a m refl)
  found_where a (suc m) b (suc n) r h = ⊎_elim (λ e. absurd (cc e))
      (λ x. elements_found a m b n (found_where a m b n) (subst (λ t. ElementsUnder p.classes (Of a m) t) (sym (same_elements x.2)) x.3))
      (above_array p.classes top _ _ h a m refl)

  found_below : (a b : Ty) → IsReference a → IsReference b → Below p.classes a b → is_below p a b ≡ true
  unfolding is_below
  found_below (Of x m) (Of y n) r s h = found_where x m y n r h
  found_below Void b r s h = absurd r
  found_below OfNull b r s h = absurd r
  found_below (Of x m) Void r s h = absurd s
  found_below (Of x m) OfNull r s h = absurd s

  -- both ways
  pub exact : TestsAreExact p
  exact = record {
    types = λ a b r. (λ e. ⊎_elim (λ q. (subst IsReference q r, subst (λ t. Below p.classes a t) q same)) (λ h. (h.1, h.2)) (found_under p a b e), λ h. found_below a b r h.0 h.1);
    classes = λ c d. (subclass_under p c d, class_found c d);
  }
