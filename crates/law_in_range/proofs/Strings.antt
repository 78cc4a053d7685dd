-- Where no class extends String, no New makes what may stand for one; so what is printed is no object.
use Rattle.std.proofs.Common.{◌≡◌, ◌⊎◌, inl, inr, ⊎_elim, ℕ, zero, suc, List, length, Option, Some, refl, sym, ap, ◌∙◌, subst}
use Rattle.std.specs.Prelude.{None as Absent}
use Rattle.std.specs.List.{Contains}
use Rattle.wy_kernel.specs.declared.types.Base.TheVariants.{Primitive as Basic, Class as Named}
use Rattle.wy_kernel.specs.declared.types.Ty.{Ty}
use Rattle.wy_kernel.specs.declared.types.Ty.TheVariants.{Void, Null as OfNull, Of}
use Rattle.wy_kernel.specs.Program.{Class, string_class, type_code, type_of_code}
use Rattle.wy_kernel.specs.Subtyping.{Below, same, transitive, declared, byte_short, short_int, int_long, char_int, of_null, to_object, of_arrays, direct_supertypes, class_type}
use Rattle.wy_value.specs.declared.value.Value.{Value}
use Rattle.wy_value.specs.declared.value.Value.TheVariants as val
use Rattle.wy_event.specs.declared.record.Kind.TheVariants as kind
use Rattle.wy_event.specs.Record.{Recorded}
use Rattle.wy_steps.specs.Steps.{code_of, event_in}
use Rattle.wy_typing.specs.Types.{text_type}
use Rattle.law_typed_states.specs.Typed.{Is, MayStand, made_type}
use Rattle.law_typed_states.proofs.Library.{code_is}
use Rattle.law_typed_states.proofs.Rules.{Ground, p}
use Rattle.law_in_range.specs.InRange.{Text, IsTypeOfObjects, EntityInRange, IsPrinted, InRange, StringIsFinal}
use Rattle.law_in_range.proofs.Facts.{Moment, AllInRange, found_in_range}

abbrev IsText : Ty → Type 0
IsText a = (a ≡ text_type) ⊎ (a ≡ OfNull)

class_number : {c d : ℕ} → class_type c ≡ class_type d → c ≡ d
class_number e = cc e

module _ (classes : List Class) (final : (c : ℕ) → Contains (direct_supertypes classes c) string_class → ⊥) where
  null_below : (a b : Ty) → Below classes a b → b ≡ OfNull → a ≡ OfNull
  null_below a b same e = e
  null_below a b (transitive {b = c} k l) e = null_below a c k (null_below c b l e)
  null_below a b (declared h) e = absurd (cc e)
  null_below a b byte_short e = absurd (cc e)
  null_below a b short_int e = absurd (cc e)
  null_below a b int_long e = absurd (cc e)
  null_below a b char_int e = absurd (cc e)
  null_below a b (of_null r) e = refl
  null_below a b (to_object r) e = absurd (cc e)
  null_below a b (of_arrays r s h) e = absurd (cc e)

  below_text : (a b : Ty) → Below classes a b → b ≡ text_type → IsText a
  below_text a b same e = inl e
  below_text a b (transitive {b = c} k l) e = ⊎_elim (λ h. below_text a c k h) (λ h. inr (null_below a c k h)) (below_text c b l e)
  below_text a b (declared {c = c} {d = d} h) e = absurd (final c (subst (λ k. Contains (direct_supertypes classes c) k) (class_number e) h))
  below_text a b byte_short e = absurd (cc e)
  below_text a b short_int e = absurd (cc e)
  below_text a b int_long e = absurd (cc e)
  below_text a b char_int e = absurd (cc e)
  below_text a b (of_null r) e = inr refl
  below_text a b (to_object r) e = absurd (cc e)
  below_text a b (of_arrays r s h) e = absurd (cc e)

module _ (G : Ground) (W : Text) (final : StringIsFinal (p G)) where
  stands_as : (found : Ty) → MayStand (p G) found text_type → found ≡ text_type
  stands_as found s = ⊎_elim (λ e. e) (λ e. absurd (not_null found s e)) (below_text (p G).classes final found text_type s.below refl)
    where
      not_null : (found : Ty) → MayStand (p G) found text_type → found ≡ OfNull → ⊥
      not_null OfNull s e = s.concrete
      not_null Void s e = cc e
      not_null (Of b n) s e = cc e

  known_type : (ty : Ty) → IsTypeOfObjects (p G) ty → type_of_code (type_code ty) ≡ ty
  known_type (Of (Named c) zero) h = code_is (length (p G).classes) (Named c) zero G.library.few h.0
  known_type (Of (Named c) (suc n)) h = code_is (length (p G).classes) (Named c) (suc n) G.library.few h
  known_type (Of (Basic q) (suc n)) h = code_is (length (p G).classes) (Basic q) (suc n) G.library.few tt
  known_type (Of (Basic q) zero) h = absurd h
  known_type Void h = absurd h
  known_type OfNull h = absurd h

  no_string : (ty : Ty) → IsTypeOfObjects (p G) ty → ty ≡ text_type → ⊥
  no_string (Of (Named c) zero) h e = h.1 (class_number e)
  no_string (Of (Named c) (suc n)) h e = cc e
  no_string (Of (Basic q) n) h e = cc e
  no_string Void h e = cc e
  no_string OfNull h e = cc e

  made_no_string : (k : Option ℕ) → EntityInRange (p G) kind.New k → type_of_code (code_of k) ≡ text_type → ⊥
  unfolding code_of
  made_no_string Absent h e = h
  made_no_string (Some code) h e = no_string h.0 h.1 (sym (known_type h.0 h.1) ∙ ap type_of_code h.2 ∙ e)

  new_no_string : (n : Moment G W) (r : Recorded) → r.kind ≡ kind.New → InRange W.tokens (p G) (event_in n) r → made_type r ≡ text_type → ⊥
  new_no_string n r k h e = made_no_string r.entity (subst (λ z. EntityInRange (p G) z r.entity) k h.entity) e

  -- what is of type String is printed
  pub text_printed : (n : Moment G W) → AllInRange G W n → (v : Value) → Is (p G) n text_type v → IsPrinted v
  text_printed n h (val.Object k) i = absurd (new_no_string n i.event i.is_new (found_in_range G W n h k i.event i.there) (stands_as (made_type i.event) i.stands))
  text_printed n h (val.Byte z) i = absurd (cc i)
  text_printed n h (val.Short z) i = absurd (cc i)
  text_printed n h (val.Bool z) i = tt
  text_printed n h (val.Char z) i = tt
  text_printed n h (val.Int z) i = tt
  text_printed n h (val.Long z) i = tt
  text_printed n h val.Null i = tt
  text_printed n h (val.Text z) i = tt
  text_printed n h (val.Fixed z) i = tt
  text_printed n h val.None i = tt
  text_printed n h (val.Arm z) i = i
