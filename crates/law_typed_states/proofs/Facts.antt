-- What is known of run-time types, of slots and of calls, at each moment from then on.
use Rattle.std.proofs.Common.{◌≡◌, ◌-◌, arith, ℕ, zero, suc, true, false, List, [], ◌∷◌, ◌++◌, ◌⊎◌, inl, inr, ⊎_elim, Option, Some, refl, sym, ap, ◌∙◌, subst}
use Rattle.std.specs.Prelude.{slice_get}
use Rattle.wy_kernel.specs.declared.operator.Primitive.{Primitive}
use Rattle.wy_kernel.specs.declared.types.Base.{Base}
use Rattle.wy_kernel.specs.declared.types.Base.TheVariants.{Primitive as Basic, Class as Named}
use Rattle.wy_kernel.specs.declared.types.Ty.{Ty}
use Rattle.wy_kernel.specs.declared.types.Ty.TheVariants.{Void, Null as OfNull, Of}
use Rattle.wy_kernel.specs.Program.{Field, Method, field, type_of_code, is_below, is_subclass, element_type, class_of_type, object_class, string_class}
use Rattle.wy_kernel.specs.Subtyping.{IsReference, Below, same, transitive, to_object, class_type, object_type, primitive_type}
use Rattle.wy_kernel.specs.Builtin.{throwable_class}
use Rattle.wy_value.specs.declared.value.Value.{Value}
use Rattle.wy_value.specs.declared.value.Value.TheVariants as val
use Rattle.wy_event.specs.declared.record.Kind.TheVariants as kind
use Rattle.wy_event.specs.declared.record.Slot.{Slot}
use Rattle.wy_event.specs.declared.record.Slot.TheVariants as slot
use Rattle.wy_event.specs.Record.{Recorded}
use Rattle.wy_steps.specs.Sets.{Sets}
use Rattle.wy_steps.specs.State.{Carried, Noted}
use Rattle.wy_steps.specs.Steps.{Made, code_of, event_in}
use Rattle.wy_meaning.specs.World.{about}
use Rattle.wy_meaning.specs.Place.{lacks_value, may_store}
use Rattle.wy_meaning.specs.Call.{bound}
use Rattle.wy_typing.specs.Types.{text_type, Fits}
use Rattle.wy_typing.specs.Expressions.{IsMethod, IsField, IsMade}
use Rattle.wy_typing.specs.Programs.{this_types}
use Rattle.law_induction.specs.Law.{Entails, FrameKind}
use Rattle.law_typed_states.specs.Typed.{Is, Refers, MayStand, IsConcrete, Runs, running, FitsSlot, FitsLocal, made_type, local_types, LacksValue}
use Rattle.law_typed_states.proofs.Subtypes.{found_under, subclass_under, Top, above_class, above_array, ElementsUnder}
use Rattle.law_typed_states.proofs.Values.{fits_is}
use Rattle.law_typed_states.proofs.Moments.{Later, IsObject, Begun, object_up, begun_up, runs_up, is_up}
use Rattle.law_typed_states.proofs.Law as Law
use Rattle.law_typed_states.proofs.Law.{is, place, event, ReadsAs}
use Rattle.law_typed_states.proofs.Library.{object_is_top, object_made, text_made}
use Rattle.law_typed_states.proofs.Rules.{Ground, A, p, Known}

some_same : {X : Type 0} {x y : X} → Some x ≡ Some y → x ≡ y
some_same e = cc e

pub one_event : {A : Sets} (n : List (Noted A)) (k : ℕ) (e r : Recorded) → event_in n k ≡ Some e → event_in n k ≡ Some r → e ≡ r
one_event n k e r h g = some_same (sym h ∙ g)

module _ (G : Ground) where
  abbrev Moment : Type 0
  Moment = List (Noted (A G))

  top : Top (p G).classes
  top = object_is_top (p G) G.fits.declarations.library_classes

  -- ---- objects that were made

  pub new_is : {P : Known G} (e : Made (A G)) (site code : ℕ) (v : Value) (found ty : Ty) → Entails P (event (A G) (p G) (about kind.New site code v) e) → type_of_code code ≡ found → MayStand (p G) found ty → Entails P (is (A G) (p G) ty (val.Object e.number))
  unfolding event is about code_of
  new_is e site code v found ty h same_type s = record { by = λ n q. let m = h.by n q in record { event = m.event; there = m.there; is_new = m.kind; stands = subst (λ t. MayStand (p G) t ty) (sym (ap (λ o. type_of_code (code_of o)) m.entity ∙ same_type)) s } }

  pub object_of_is : (n : Moment) (ty : Ty) (k : ℕ) → Refers (p G) n ty k → IsObject n k
  object_of_is n ty k h = record { event = h.event; there = h.there; is_new = h.is_new }

  -- ---- run-time types

  -- the run-time type of a value
  abbrev pub HasFound : Moment → Value → Ty → Type 0
  HasFound n (val.Object k) found = (e : Recorded) × (event_in n k ≡ Some e) × (e.kind ≡ kind.New) × IsConcrete (p G) (made_type e) × (found ≡ made_type e)
  HasFound n (val.Text k) found = found ≡ text_type
  HasFound n (val.Fixed k) found = found ≡ text_type
  HasFound n _ found = found ≡ OfNull

  pub found_up : (m n : Moment) (v : Value) (found : Ty) → Later m n → HasFound m v found → HasFound n v found
  found_up m n (val.Object k) found le h = (h.0, le k h.0 h.1, h.2, h.3, h.4)
  found_up m n (val.Text k) found le h = h
  found_up m n (val.Fixed k) found le h = h
  found_up m n _ found le h = h

  unfoldable pub found_as : Value → Ty → Known G
  found_as v found = record { holds = λ n. HasFound n v found; up = λ m n. found_up m n v found }

  stands_under : (found ty : Ty) → IsReference ty → IsConcrete (p G) found → (found ≡ ty) ⊎ (IsReference found × IsReference ty × Below (p G).classes found ty) → MayStand (p G) found ty
  stands_under found ty r c (inl e) = record { reference = r; concrete = c; below = subst (λ t. Below (p G).classes found t) e same }
  stands_under found ty r c (inr h) = record { reference = r; concrete = c; below = h.2 }

  text_stands : (found ty : Ty) → IsReference ty → found ≡ text_type → is_below (p G) found ty ≡ true → MayStand (p G) text_type ty
  text_stands found ty r e b = stands_under text_type ty r (text_made (p G) G.fits.declarations.library_classes) (found_under (p G) text_type ty (subst (λ t. is_below (p G) t ty ≡ true) e b))

  none_below : (found ty : Ty) → found ≡ OfNull → is_below (p G) found ty ≡ true → ⊥
  unfolding is_below
  none_below found ty e b = absurd (cc (subst (λ t. is_below (p G) t ty ≡ true) e b))

  -- what was found below a type is of it
  pub below_is : (n : Moment) (v : Value) (found ty : Ty) → IsReference ty → HasFound n v found → is_below (p G) found ty ≡ true → Is (p G) n ty v
  below_is n (val.Object k) found ty r h b = record { event = h.0; there = h.1; is_new = h.2; stands = stands_under (made_type h.0) ty r h.3 (found_under (p G) (made_type h.0) ty (subst (λ t. is_below (p G) t ty ≡ true) h.4 b)) }
  below_is n (val.Text k) found ty r h b = text_stands found ty r h b
  below_is n (val.Fixed k) found ty r h b = text_stands found ty r h b
  below_is n _ found ty r h b = absurd (none_below found ty h b)

  -- a class that objects are made of, or Object for an array, is above what was made
  class_above : (found ty : Ty) → MayStand (p G) found ty → Below (p G).classes found (class_type (class_of_type found))
  unfolding class_of_type
  class_above (Of (Named c) zero) ty s = same
  class_above (Of (Named c) (suc m)) ty s = to_object tt
  class_above (Of (Basic q) (suc m)) ty s = to_object tt
  class_above (Of (Basic q) zero) ty s = absurd s.concrete
  class_above Void ty s = absurd s.concrete
  class_above OfNull ty s = absurd s.concrete

  subclass_stands : (found ty : Ty) (c : ℕ) → MayStand (p G) found ty → is_subclass (p G) (class_of_type found) c ≡ true → MayStand (p G) found (class_type c)
  subclass_stands found ty c s e = record { reference = tt; concrete = s.concrete; below = transitive (class_above found ty s) (subclass_under (p G) (class_of_type found) c e) }

  text_class : (c : ℕ) (found : Ty) → found ≡ text_type → is_subclass (p G) (class_of_type found) c ≡ true → Below (p G).classes text_type (class_type c)
  unfolding class_of_type
  text_class c found e b = subclass_under (p G) string_class c (subst (λ t. is_subclass (p G) (class_of_type t) c ≡ true) e b)

  -- what is thrown is of the class of a clause that takes it
  pub caught_is : (n : Moment) (v : Value) (found : Ty) (c : ℕ) → Is (p G) n (class_type throwable_class) v → HasFound n v found → is_subclass (p G) (class_of_type found) c ≡ true → Is (p G) n (class_type c) v
  caught_is n (val.Object k) found c i h e =
      let r : i.event ≡ h.0 = one_event n k i.event h.0 i.there h.1 in
      record { event = i.event; there = i.there; is_new = i.is_new; stands = subclass_stands (made_type i.event) _ c i.stands (subst (λ t. is_subclass (p G) (class_of_type t) c ≡ true) (h.4 ∙ ap made_type (sym r)) e) }
  caught_is n (val.Text k) found c i h e = record { reference = tt; concrete = i.concrete; below = text_class c found h e }
  caught_is n (val.Fixed k) found c i h e = record { reference = tt; concrete = i.concrete; below = text_class c found h e }
  caught_is n val.Null found c i h e = inr tt
  caught_is n val.None found c i h e = absurd (cc i)
  caught_is n (val.Bool x) found c i h e = absurd (cc i)
  caught_is n (val.Byte x) found c i h e = absurd (cc i)
  caught_is n (val.Short x) found c i h e = absurd (cc i)
  caught_is n (val.Char x) found c i h e = absurd (cc i)
  caught_is n (val.Int x) found c i h e = absurd (cc i)
  caught_is n (val.Long x) found c i h e = absurd (cc i)
  caught_is n (val.Arm k) found c i h e = absurd i

  -- ---- receivers

  -- a class that may decide which method runs: objects are made of it, and it is between what was made and the static class
  pub record Receiver (found : Ty) (k c : ℕ) : Type 0 where
    pub made : IsMade (p G) k
    pub below : Below (p G).classes (class_type k) (class_type c)
    pub stands : MayStand (p G) found (class_type k)

  array_receiver : (x : Base) (m c : ℕ) → MayStand (p G) (Of x (suc m)) (class_type c) → IsReference (Of x (suc m)) → Receiver (Of x (suc m)) object_class c
  array_receiver x m c s r =
      let is : class_type c ≡ object_type = ⊎_elim (λ h. h) (λ h. absurd (cc h.2)) (above_array (p G).classes top _ _ s.below x m refl) in
      record {
        made = object_made (p G) G.fits.declarations.library_classes;
        below = subst (λ t. Below (p G).classes object_type t) (sym is) same;
        stands = record { reference = tt; concrete = s.concrete; below = to_object r };
      }

  pub receiver : (found : Ty) (c : ℕ) → MayStand (p G) found (class_type c) → Receiver found (class_of_type found) c
  unfolding class_of_type
  receiver (Of (Named k) zero) c s = record { made = s.concrete; below = s.below; stands = record { reference = tt; concrete = s.concrete; below = same } }
  receiver (Of (Named k) (suc m)) c s = array_receiver (Named k) m c s tt
  receiver (Of (Basic q) (suc m)) c s = array_receiver (Basic q) m c s tt
  receiver (Of (Basic q) zero) c s = absurd s.concrete
  receiver Void c s = absurd s.concrete
  receiver OfNull c s = absurd s.concrete

  -- ---- elements

  pub record Array (found ty : Ty) : Type 0 where
    pub base : Base
    pub brackets : ℕ
    pub is_array : found ≡ Of base (suc brackets)
    pub under : ElementsUnder (p G).classes (Of base brackets) ty

  same_elements : {x y : Base} {m n : ℕ} → Of x (suc m) ≡ Of y (suc n) → Of y n ≡ Of x m
  same_elements e = cc e

  of_array : (x : Base) (m : ℕ) (base : Base) (b : ℕ) → MayStand (p G) (Of x (suc m)) (Of base (suc b)) → Array (Of x (suc m)) (Of base b)
  of_array x m base b s = ⊎_elim (λ h. absurd (cc h)) (λ h. record { base = x; brackets = m; is_array = refl; under = subst (λ t. ElementsUnder (p G).classes (Of x m) t) (same_elements h.2) h.3 }) (above_array (p G).classes top _ _ s.below x m refl)

  -- what was made where an array is wanted is an array
  array : (found : Ty) (base : Base) (b : ℕ) → MayStand (p G) found (Of base (suc b)) → Array found (Of base b)
  array (Of (Named k) zero) base b s = let h = above_class (p G).classes _ _ s.below k refl in absurd (cc h.1)
  array (Of (Named k) (suc m)) base b s = of_array (Named k) m base b s
  array (Of (Basic q) (suc m)) base b s = of_array (Basic q) m base b s
  array (Of (Basic q) zero) base b s = absurd s.concrete
  array Void base b s = absurd s.concrete
  array OfNull base b s = absurd s.concrete

  pub element_of : (found : Ty) (base : Base) (m : ℕ) → found ≡ Of base (suc m) → element_type found ≡ Of base m
  unfolding element_type
  element_of found base m e = ap element_type e ∙ (let q : suc m - 1 ≡ m = omega arith in ap (λ k. Of base k) q)

  under_fits : (a b : Ty) → ElementsUnder (p G).classes a b → Fits (p G).classes a b
  under_fits a b (inl e) = inl e
  under_fits a b (inr h) = inr (h.1, h.2)

  pub element_is : (n : Moment) (found : Ty) (base : Base) (b : ℕ) (v : Value) → MayStand (p G) found (Of base (suc b)) → Is (p G) n (element_type found) v → Is (p G) n (Of base b) v
  element_is n found base b v s h = let a = array found base b s in fits_is (p G) n _ _ v (under_fits _ _ a.under) (subst (λ t. Is (p G) n t v) (element_of found a.base a.brackets a.is_array) h)

  -- ---- slots

  -- the slot may be read, and is of what is declared of the type
  pub data HoldsType (i : FrameKind) (n : Moment) (ty : Ty) : Slot → Type 0 where
    a_local : {f k : ℕ} → Runs n f i → slice_get (local_types (p G) i) k ≡ Some ty → HoldsType i n ty (slot.Local f k)
    a_static : {k : ℕ} (f : Field) → Begun n (field (p G) k).class → IsField (p G) k f → f.ty ≡ ty → HoldsType i n ty (slot.Static k)
    a_field : {o k : ℕ} (f : Field) → IsObject n o → IsField (p G) k f → f.ty ≡ ty → HoldsType i n ty (slot.Field o k)
    an_element : {a j : ℕ} (base : Base) (b : ℕ) → Of base b ≡ ty → Refers (p G) n (Of base (suc b)) a → HoldsType i n ty (slot.Elem a j)

  pub holds_up : (i : FrameKind) (m n : Moment) (ty : Ty) (x : Slot) → Later m n → HoldsType i m ty x → HoldsType i n ty x
  holds_up i m n ty x le (a_local {f = f} r e) = a_local (runs_up m n f i le r) e
  holds_up i m n ty x le (a_static {k = k} f b e t) = a_static f (begun_up m n (field (p G) k).class le b) e t
  holds_up i m n ty x le (a_field {o = o} f h e t) = a_field f (object_up m n o le h) e t
  holds_up i m n ty x le (an_element {a = a} base b t h) = an_element base b t (is_up (p G) m n (Of base (suc b)) (val.Object a) le h)

  unfoldable pub holds_type : FrameKind → Ty → Slot → Known G
  holds_type i ty x = record { holds = λ n. HoldsType i n ty x; up = λ m n. holds_up i m n ty x }

  readable : (i : FrameKind) (n : Moment) (ty : Ty) (x : Slot) → HoldsType i n ty x → (place (A G) (p G) x).holds n
  unfolding place Law.object Law.begun
  readable i n ty x (a_local r e) = tt
  readable i n ty x (a_static f b e t) = b
  readable i n ty x (a_field f h e t) = h
  readable i n ty x (an_element base b t h) = object_of_is n _ _ h

  pub may_read : {P : Known G} (i : FrameKind) (ty : Ty) (x : Slot) → Entails P (holds_type i ty x) → Entails P (place (A G) (p G) x)
  unfolding holds_type
  may_read i ty x e = record { by = λ n h. readable i n ty x (e.by n h) }

  one_body : (n : Moment) (f : ℕ) (i j : FrameKind) → Runs n f i → Runs n f j → i ≡ j
  one_body n f i j r q = some_same (sym r.runs ∙ ap running (one_event n f r.event q.event r.there q.there) ∙ q.runs)

  of_local : (v : Value) (n : Moment) (ty : Ty) (f k : ℕ) → LacksValue v ⊎ Is (p G) n ty v → lacks_value (slot.Local f k) v ≡ false → Is (p G) n ty v
  unfolding lacks_value
  of_local v n ty f k (inl e) l = absurd (cc (subst (λ u. lacks_value (slot.Local f k) u ≡ false) e l))
  of_local v n ty f k (inr h) l = h

  read_local : (i : FrameKind) (n : Moment) (ty : Ty) (f k : ℕ) (v : Value) → Runs n f i → slice_get (local_types (p G) i) k ≡ Some ty → LacksValue v ⊎ FitsLocal (p G) n f k v → lacks_value (slot.Local f k) v ≡ false → Is (p G) n ty v
  read_local i n ty f k v r e (inl q) l = of_local v n ty f k (inl q) l
  read_local i n ty f k v r e (inr h) l = of_local v n ty f k (h.typed ty (subst (λ j. slice_get (local_types (p G) j) k ≡ Some ty) (one_body n f i h.body r h.runs) e)) l

  -- what is read of it is of the type
  pub read_is : (i : FrameKind) (n : Moment) (ty : Ty) (x : Slot) (v : Value) → HoldsType i n ty x → ReadsAs (A G) (p G) n x v → lacks_value x v ≡ false → Is (p G) n ty v
  read_is i n ty x v (a_local {f = f} {k = k} r e) h l = read_local i n ty f k v r e h l
  read_is i n ty x v (a_static f b e t) h l = subst (λ q. Is (p G) n q v) t (h f e)
  read_is i n ty x v (a_field f o e t) h l = subst (λ q. Is (p G) n q v) t (h f e)
  read_is i n ty x v (an_element {a = a} base b t r) h l = subst (λ q. Is (p G) n q v) t (element_is n (made_type r.event) base b v r.stands (subst (λ e. Is (p G) n (element_type (made_type e)) v) (one_event n a h.array r.event h.there r.there) h.typed))

  -- a value of the type may be stored in it, but that in an array
  abbrev pub IsNoElement : Slot → Type 0
  IsNoElement (slot.Elem a j) = ⊥
  IsNoElement _ = Unit {0}

  one_field : (k : ℕ) (f g : Field) → IsField (p G) k f → IsField (p G) k g → f ≡ g
  one_field k f g e h = some_same (sym e ∙ h)

  pub store_fits : (i : FrameKind) (n : Moment) (ty : Ty) (x : Slot) (v : Value) → IsNoElement x → HoldsType i n ty x → Is (p G) n ty v → FitsSlot (p G) n x v
  store_fits i n ty x v free (a_local r e) h = record { body = i; runs = r; typed = λ t q. inr (subst (λ u. Is (p G) n u v) (some_same (sym e ∙ q)) h) }
  store_fits i n ty x v free (a_static {k = k} f b e t) h = λ g q. subst (λ u. Is (p G) n u v) (sym t ∙ ap (λ (z : Field). z.ty) (one_field k f g e q)) h
  store_fits i n ty x v free (a_field {k = k} f o e t) h = λ g q. subst (λ u. Is (p G) n u v) (sym t ∙ ap (λ (z : Field). z.ty) (one_field k f g e q)) h
  store_fits i n ty x v free (an_element base b t r) h = absurd free

  -- so is an element of the very type
  pub element_fits : (n : Moment) (a j : ℕ) (r : Recorded) (v : Value) → event_in n a ≡ Some r → Is (p G) n (element_type (made_type r)) v → FitsSlot (p G) n (slot.Elem a j) v
  element_fits n a j r v there h = record { array = r; there = there; typed = h }

  -- elements of a primitive type are all of the type that is declared
  primitive_under : (x : Ty) (q : Primitive) → ElementsUnder (p G).classes x (primitive_type q) → x ≡ primitive_type q
  primitive_under x q (inl e) = e
  primitive_under x q (inr h) = absurd h.1

  pub primitive_fits : (i : FrameKind) (n : Moment) (q : Primitive) (x : Slot) (v : Value) → HoldsType i n (primitive_type q) x → Is (p G) n (primitive_type q) v → FitsSlot (p G) n x v
  primitive_fits i n q x v (an_element {a = a} {j = j} base b t r) h =
      let m = array (made_type r.event) base b r.stands in
      element_fits n a j r.event v r.there (subst (λ u. Is (p G) n u v) (sym (element_of (made_type r.event) m.base m.brackets m.is_array ∙ primitive_under _ q (subst (λ u. ElementsUnder (p G).classes (Of m.base m.brackets) u) t m.under))) h)
  primitive_fits i n q (slot.Local f k) v h g = store_fits i n _ (slot.Local f k) v tt h g
  primitive_fits i n q (slot.Static k) v h g = store_fits i n _ (slot.Static k) v tt h g
  primitive_fits i n q (slot.Field o k) v h g = store_fits i n _ (slot.Field o k) v tt h g

  -- what passed the check on the elements of the array
  reference_passes : (n : Moment) (element ty found : Ty) (v : Value) → IsReference element → IsReference ty → Is (p G) n ty v → HasFound n v found → may_store (p G) element found v ≡ true → Is (p G) n element v
  unfolding may_store
  reference_passes n element ty found val.Null r s h f e = inr r
  reference_passes n (Of (Named c) m) ty found (val.Object k) r s h f e = below_is n (val.Object k) found (Of (Named c) m) r f e
  reference_passes n (Of (Basic q) (suc m)) ty found (val.Object k) r s h f e = below_is n (val.Object k) found (Of (Basic q) (suc m)) r f e
  reference_passes n (Of (Named c) m) ty found (val.Text k) r s h f e = below_is n (val.Text k) found (Of (Named c) m) r f e
  reference_passes n (Of (Basic q) (suc m)) ty found (val.Text k) r s h f e = below_is n (val.Text k) found (Of (Basic q) (suc m)) r f e
  reference_passes n (Of (Named c) m) ty found (val.Fixed k) r s h f e = below_is n (val.Fixed k) found (Of (Named c) m) r f e
  reference_passes n (Of (Basic q) (suc m)) ty found (val.Fixed k) r s h f e = below_is n (val.Fixed k) found (Of (Basic q) (suc m)) r f e
  reference_passes n Void ty found (val.Object k) r s h f e = absurd r
  reference_passes n OfNull ty found (val.Object k) r s h f e = absurd r
  reference_passes n (Of (Basic q) zero) ty found (val.Object k) r s h f e = absurd r
  reference_passes n Void ty found (val.Text k) r s h f e = absurd r
  reference_passes n OfNull ty found (val.Text k) r s h f e = absurd r
  reference_passes n (Of (Basic q) zero) ty found (val.Text k) r s h f e = absurd r
  reference_passes n Void ty found (val.Fixed k) r s h f e = absurd r
  reference_passes n OfNull ty found (val.Fixed k) r s h f e = absurd r
  reference_passes n (Of (Basic q) zero) ty found (val.Fixed k) r s h f e = absurd r
  reference_passes n element ty found val.None r s h f e = absurd (subst IsReference h s)
  reference_passes n element ty found (val.Bool x) r s h f e = absurd (subst IsReference h s)
  reference_passes n element ty found (val.Byte x) r s h f e = absurd (subst IsReference h s)
  reference_passes n element ty found (val.Short x) r s h f e = absurd (subst IsReference h s)
  reference_passes n element ty found (val.Char x) r s h f e = absurd (subst IsReference h s)
  reference_passes n element ty found (val.Int x) r s h f e = absurd (subst IsReference h s)
  reference_passes n element ty found (val.Long x) r s h f e = absurd (subst IsReference h s)
  reference_passes n element ty found (val.Arm k) r s h f e = absurd h

  passes_under : (n : Moment) (element ty found : Ty) (v : Value) → ElementsUnder (p G).classes element ty → Is (p G) n ty v → HasFound n v found → may_store (p G) element found v ≡ true → Is (p G) n element v
  passes_under n element ty found v (inl e) h f m = subst (λ t. Is (p G) n t v) (sym e) h
  passes_under n element ty found v (inr u) h f m = reference_passes n element ty found v u.0 u.1 h f m

  pub checked_fits : (i : FrameKind) (n : Moment) (ty : Ty) (a j : ℕ) (v : Value) (whole found : Ty) → HoldsType i n ty (slot.Elem a j) → Is (p G) n ty v → HasFound n (val.Object a) whole → HasFound n v found → may_store (p G) (element_type whole) found v ≡ true → FitsSlot (p G) n (slot.Elem a j) v
  checked_fits i n ty a j v whole found (an_element base b t r) h w f m =
      let same_array : w.0 ≡ r.event = one_event n a w.0 r.event w.1 r.there in
      let e : whole ≡ made_type r.event = w.4 ∙ ap made_type same_array in
      let x = array (made_type r.event) base b r.stands in
      let el : element_type (made_type r.event) ≡ Of x.base x.brackets = element_of (made_type r.event) x.base x.brackets x.is_array in
      element_fits n a j r.event v r.there (subst (λ u. Is (p G) n u v) (sym el) (passes_under n _ ty found v (subst (λ u. ElementsUnder (p G).classes (Of x.base x.brackets) u) t x.under) h f (subst (λ u. may_store (p G) u found v ≡ true) (ap element_type e ∙ el) m)))

  -- ---- lists of values, and calls

  abbrev pub AllAre : Moment → List Ty → List (Carried (A G)) → Type 0
  AllAre n [] [] = Unit {0}
  AllAre n (t ∷ ts) (v ∷ vs) = Is (p G) n t v.value × AllAre n ts vs
  AllAre n [] (v ∷ vs) = ⊥
  AllAre n (t ∷ ts) [] = ⊥

  pub all_up : (m n : Moment) (ts : List Ty) (vs : List (Carried (A G))) → Later m n → AllAre m ts vs → AllAre n ts vs
  all_up m n [] [] le h = tt
  all_up m n (t ∷ ts) (v ∷ vs) le h = (is_up (p G) m n t v.value le h.0, all_up m n ts vs le h.1)
  all_up m n [] (v ∷ vs) le h = absurd h
  all_up m n (t ∷ ts) [] le h = absurd h

  -- each value is of its type
  unfoldable pub all_are : List Ty → List (Carried (A G)) → Known G
  all_are ts vs = record { holds = λ n. AllAre n ts vs; up = λ m n. all_up m n ts vs }

  -- the method may be called so: its receiver and its arguments are what it takes
  pub record Calls (n : Moment) (m : ℕ) (r : Option (Carried (A G))) (args : List (Carried (A G))) : Type 0 where
    pub method : Method
    pub found : IsMethod (p G) m method
    pub given : AllAre n (this_types method.form method.class ++ method.params) (bound r args)

  pub calls_up : (k n : Moment) (m : ℕ) (r : Option (Carried (A G))) (args : List (Carried (A G))) → Later k n → Calls k m r args → Calls n m r args
  calls_up k n m r args le h = record { method = h.method; found = h.found; given = all_up k n _ _ le h.given }

  unfoldable pub called : ℕ → Option (Carried (A G)) → List (Carried (A G)) → Known G
  called m r args = record { holds = λ n. Calls n m r args; up = λ k n. calls_up k n m r args }
