-- The ways of a program that lead on from the parts of its bodies.
use Rattle.std.proofs.Common.{◌≡◌, ◌⊎◌, inl, inr, ⊎_elim, ℕ, zero, suc, Bool, List, [], ◌∷◌, ◌++◌, Some, refl, sym, ap, ◌∙◌, subst}
use Rattle.std.specs.Prelude.{slice_get, slice_index_or}
use Rattle.std.specs.List.{Contains}
use Rattle.std.proofs.lemmas.Option.{slice_get_within}
use Rattle.wy_kernel.specs.declared.types.Base.{Base}
use Rattle.wy_kernel.specs.declared.types.Base.TheVariants.{Primitive as Basic, Class as Named}
use Rattle.wy_kernel.specs.declared.types.Ty.{Ty}
use Rattle.wy_kernel.specs.declared.types.Ty.TheVariants.{Void, Null as OfNull, Of}
use Rattle.wy_kernel.specs.declared.form.CondForm.{CondForm}
use Rattle.wy_kernel.specs.Form.{Expression, Cond, Part}
use Rattle.wy_kernel.specs.Program.{Program, Class, class, class_of_type, dispatch, object_class, string_class}
use Rattle.wy_kernel.specs.Subtyping.{Below, same, transitive, declared, byte_short, short_int, int_long, char_int, of_null, to_object, of_arrays, Supertype, itself, further, class_type}
use Rattle.wy_typing.specs.Types.{text_type}
use Rattle.wy_typing.specs.Expressions.{IsMade}
use Rattle.law_typed_states.specs.Typed.{MayStand}
use Rattle.law_typed_states.proofs.Subtypes.{Top, above_class}
use Rattle.law_typed_states.proofs.Rules.{Ground, p}
use Rattle.law_typed_states.proofs.Facts.{receiver}
use Rattle.law_typed_states.proofs.Library.{object_is_top}
use Rattle.wy_static.specs.declared.point.Point.{Point}
use Rattle.wy_static.specs.declared.point.Point.TheVariants as point
use Rattle.wy_static.specs.declared.point.LinkKind.{LinkKind}
use Rattle.wy_static.specs.declared.point.LinkKind.TheVariants as link_kind
use Rattle.wy_static.specs.declared.point.Link.{Link}
use Rattle.wy_static.specs.declared.way.Owner.{Owner}
use Rattle.wy_static.specs.declared.way.Goal.TheVariants.{Known, Chosen}
use Rattle.wy_static.specs.declared.way.Way.{Way}
use Rattle.wy_static.specs.Ways.{ways_of, call_at, choosing, form_ways}
use Rattle.wy_static.specs.Links.{IsLink, MayReceive}
use Rattle.wy_static.specs.LookUps.{method_of}
use Rattle.law_reached.proofs.Contained.{in_head, in_tail, in_left, in_right}
use Rattle.law_reached.proofs.Seen.{arm_number}

-- ---- ways as links

abbrev pub call_link : Point → ℕ → Point → Link
call_link o site q = record { kind = link_kind.Call; from = o; to = q; site = site }

-- all of these ways are ways of the program
pub record Among (p : Program) (ways : List Way) : Type 0 where
  pub by : (w : Way) → Contains ways w → Contains (ways_of p) w

pub among_left : (p : Program) (xs ys : List Way) → Among p (xs ++ ys) → Among p xs
among_left p xs ys h = record { by = λ w i. h.by w (in_left xs ys w i) }

pub among_right : (p : Program) (xs ys : List Way) → Among p (xs ++ ys) → Among p ys
among_right p xs ys h = record { by = λ w i. h.by w (in_right xs ys w i) }

pub among_head : (p : Program) (x : Way) (xs : List Way) → Among p (x ∷ xs) → Contains (ways_of p) x
among_head p x xs h = h.by x (in_head x xs)

pub among_tail : (p : Program) (x : Way) (xs : List Way) → Among p (x ∷ xs) → Among p xs
among_tail p x xs h = record { by = λ w i. h.by w (in_tail x w xs i) }

pub way_link : (p : Program) (k : LinkKind) (o q : Point) (site : ℕ) → Contains (ways_of p) (record { kind = k; from = o; goal = Known q; site = site }) → IsLink p (record { kind = k; from = o; to = q; site = site })
way_link p k o q site h = record { way = record { kind = k; from = o; goal = Known q; site = site }; among = h; along = record { kind = refl; from = refl; site = refl; to = refl } }

-- ---- the forms that an owner has

-- what a form leads to is a way of the program, and its arms stand in the body
pub record Good (p : Program) (b : ℕ) (x : Owner × Expression) : Type 0 where
  pub ways : Among p (form_ways p x.0 x.1)
  pub arms : (f : CondForm) (test : Expression) (a c : Part) (site : ℕ) → x.1 ≡ Cond f test a c site → (v : Bool) → method_of p (point.Arm site (arm_number v)) ≡ b

pub record Each (p : Program) (b : ℕ) (xs : List (Owner × Expression)) : Type 0 where
  pub by : (x : Owner × Expression) → Contains xs x → Good p b x

pub each_head : (p : Program) (b : ℕ) (x : Owner × Expression) (xs : List (Owner × Expression)) → Each p b (x ∷ xs) → Good p b x
each_head p b x xs h = h.by x (in_head x xs)

pub each_tail : (p : Program) (b : ℕ) (x : Owner × Expression) (xs : List (Owner × Expression)) → Each p b (x ∷ xs) → Each p b xs
each_tail p b x xs h = record { by = λ y i. h.by y (in_tail x y xs i) }

pub each_left : (p : Program) (b : ℕ) (xs ys : List (Owner × Expression)) → Each p b (xs ++ ys) → Each p b xs
each_left p b xs ys h = record { by = λ y i. h.by y (in_left xs ys y i) }

pub each_right : (p : Program) (b : ℕ) (xs ys : List (Owner × Expression)) → Each p b (xs ++ ys) → Each p b ys
each_right p b xs ys h = record { by = λ y i. h.by y (in_right xs ys y i) }

-- ---- the methods that a call may run

module _ (classes : List Class) (top : Top classes) where
  supertypes_join : (a b c : ℕ) → Supertype classes a b → Supertype classes b c → Supertype classes a c
  supertypes_join a b c itself k = k
  supertypes_join a b c (further {d = d} h t) k = further h (supertypes_join d b c t k)

  above_object : (c : ℕ) → Supertype classes object_class c → c ≡ object_class
  above_object c itself = refl
  above_object c (further {d = d} h t) = absurd (top d h)

  abbrev Under : ℕ → Ty → Type 0
  Under k b = (d : ℕ) × (b ≡ class_type d) × ((d ≡ object_class) ⊎ Supertype classes k d)

  same_class : {c d : ℕ} → class_type c ≡ class_type d → c ≡ d
  same_class e = cc e

  onto : (k d : ℕ) (c : Ty) → (d ≡ object_class) ⊎ Supertype classes k d → Under d c → Under k c
  onto k d c (inl e) h = (h.0, h.1, inl (⊎_elim (λ z. z) (λ s. above_object h.0 (subst (λ x. Supertype classes x h.0) e s)) h.2))
  onto k d c (inr s) h = (h.0, h.1, ⊎_elim (λ z. inl z) (λ t. inr (supertypes_join k d h.0 s t)) h.2)

  under : (a b : Ty) → Below classes a b → (k : ℕ) → a ≡ class_type k → Under k b
  under a b same k e = (k, e, inr itself)
  under a b (transitive {b = x} l m) k e = let r = under a x l k e in onto k r.0 b r.2 (under x b m r.0 r.1)
  under a b (declared {c = c} {d = d} h) k e = (d, refl, inr (subst (λ z. Supertype classes z d) (same_class e) (further h itself)))
  under a b byte_short k e = absurd (cc e)
  under a b short_int k e = absurd (cc e)
  under a b int_long k e = absurd (cc e)
  under a b char_int k e = absurd (cc e)
  under a b (of_null r) k e = absurd (cc e)
  under a b (to_object r) k e = (object_class, refl, inl refl)
  under a b (of_arrays r s h) k e = absurd (cc e)

  pub at_or_below : (k c : ℕ) → Below classes (class_type k) (class_type c) → (c ≡ object_class) ⊎ Supertype classes k c
  at_or_below k c h =
      let u = under (class_type k) (class_type c) h k refl in
      let e : u.0 ≡ c = same_class (sym u.1) in
      subst (λ z. (z ≡ object_class) ⊎ Supertype classes k z) e u.2

module _ (G : Ground) where
  some_class : (xs : List Class) (k : ℕ) (c d : Class) → slice_get xs k ≡ Some c → slice_index_or xs k d ≡ c
  some_class [] k c d e = absurd (cc e)
  some_class (x ∷ xs) zero c d e = cc e
  some_class (x ∷ xs) (suc k) c d e = some_class xs k c d e

  receives : (k : ℕ) → IsMade (p G) k → (k ≡ string_class → ⊥) → MayReceive (p G) k
  unfolding class
  receives k m n = record { there = slice_get_within (p G).classes k m.0 m.1; concrete = ap (λ (c : Class). c.is_abstract) (some_class (p G).classes k m.0 _ m.1) ∙ m.3; no_text = n }

  -- what was found isn't String where it isn't of its type
  no_string : (found : Ty) → (found ≡ text_type → ⊥) → class_of_type found ≡ string_class → ⊥
  unfolding class_of_type
  no_string (Of (Named c) zero) n e = n (ap class_type e)
  no_string (Of (Named c) (suc m)) n e = cc e
  no_string (Of (Basic q) zero) n e = cc e
  no_string (Of (Basic q) (suc m)) n e = cc e
  no_string Void n e = cc e
  no_string OfNull n e = cc e

  -- what may stand for an array runs what Object runs
  of_array : (found : Ty) (base : Base) (m : ℕ) → MayStand (p G) found (Of base (suc m)) → class_of_type found ≡ object_class
  unfolding class_of_type
  of_array (Of (Named c) zero) base m s = let h = above_class (p G).classes _ _ s.below c refl in absurd (cc h.1)
  of_array (Of (Named c) (suc k)) base m s = refl
  of_array (Of (Basic q) zero) base m s = refl
  of_array (Of (Basic q) (suc k)) base m s = refl
  of_array Void base m s = refl
  of_array OfNull base m s = refl

  -- where an object of the type was found, a link leads from the call to what it runs
  pub chosen_link : (o : Owner) (k site : ℕ) (ty found : Ty) → Among (p G) (choosing (p G) o k ty site) → MayStand (p G) found ty → (found ≡ text_type → ⊥) → IsLink (p G) (call_link o.point site (point.Entry (dispatch (p G) k (class_of_type found))))
  chosen_link o k site (Of (Named c) zero) found h s n =
      let r = receiver G found c s in
      record {
        way = call_at o site (Chosen k c);
        among = among_head (p G) (call_at o site (Chosen k c)) [] h;
        along = record {
          kind = refl;
          from = refl;
          site = refl;
          to = (dispatch (p G) k (class_of_type found), record { receiver = class_of_type found; may = receives (class_of_type found) r.made (no_string found n); below = at_or_below (p G).classes (object_is_top (p G) G.fits.declarations.library_classes) (class_of_type found) c r.below; runs = refl }, refl);
        };
      }
  chosen_link o k site (Of (Named c) (suc m)) found h s n = subst (λ x. IsLink (p G) (call_link o.point site (point.Entry (dispatch (p G) k x)))) (sym (of_array found (Named c) m s)) (way_link (p G) link_kind.Call o.point (point.Entry (dispatch (p G) k object_class)) site (among_head (p G) _ [] h))
  chosen_link o k site (Of (Basic q) (suc m)) found h s n = subst (λ x. IsLink (p G) (call_link o.point site (point.Entry (dispatch (p G) k x)))) (sym (of_array found (Basic q) m s)) (way_link (p G) link_kind.Call o.point (point.Entry (dispatch (p G) k object_class)) site (among_head (p G) _ [] h))
  chosen_link o k site (Of (Basic q) zero) found h s n = absurd s.reference
  chosen_link o k site Void found h s n = absurd s.reference
  chosen_link o k site OfNull found h s n = absurd s.reference
