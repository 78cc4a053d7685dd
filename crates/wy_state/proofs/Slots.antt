-- What is read of slots and of what values refer to, and what is put into them.
use Rattle.std.proofs.Common.{◌≡◌, ◌<◌, ◌∙◌, ℕ, List, [], ◌∷◌, length, set, get_or, Bool, true, false, Option, Some, refl, sym, ap, arith, inl, inr, slice_get, eq-eqb, get_or-set_same, get_or-set_other}
use Rattle.std.specs.Prelude.{None as Absent, nat_eq, if◌then◌else◌, ◌&&◌}
use Rattle.std.proofs.lemmas.Bool.Decides.{eqb_tells}
use Rattle.std.proofs.lemmas.List.{length-set}
use Rattle.std.proofs.lemmas.Option.{get_or_from_slice_get, slice_get_within, slice_get-get_or}
use Rattle.wy_kernel.specs.Program.{Program, fixed_text, type_of_code}
use Rattle.wy_kernel.specs.declared.types.Ty.{Ty}
use Rattle.wy_kernel.specs.declared.types.Ty.TheVariants.{Null as OfNull, Of}
use Rattle.wy_kernel.specs.declared.types.Base.TheVariants.{Class as Named}
use Rattle.wy_value.specs.declared.value.Value.TheVariants as value
use Rattle.wy_value.specs.declared.value.Value.{Value}
use Rattle.wy_value.specs.declared.value.Value.TheVariants.{None as Nothing, Object, Text as TextOf, Fixed as FixedOf}
use Rattle.wy_event.specs.Record.{same_slot}
use Rattle.wy_kernel.specs.View.{present}
use Rattle.wy_event.specs.declared.record.Slot.{Slot}
use Rattle.wy_event.specs.declared.record.Slot.TheVariants.{Local, Static, Field, Elem}
use Rattle.wy_event.specs.declared.record.Slot.TheVariants as slot
use Rattle.wy_steps.specs.Sets.{nothing}
use Rattle.wy_steps.specs.State.{State, Store, Held, Done, go_on, ◌>>=◌, return}
use Rattle.wy_steps.specs.Steps.{held_of, frame, code_of, is_begun, event_at, declare, no_value, owner_in, slot_with, with_stored}
use Rattle.wy_meaning.specs.World.{World, length_of, type_of, units_of}
use Rattle.wy_meaning.specs.Statement.{declaration}
use Rattle.wy_calls.specs.Calls.{CallFrame, CallStack, frame_of, event_of, locals_of, with_local, with_newest}
use Rattle.wy_calls.specs.Calls as calls
use Rattle.wy_heap.specs.declared.heap.Heap.{Heap}
use Rattle.wy_heap.specs.Heap.{held, code, size, text, is_made}
use Rattle.wy_heap.specs.Changes.{Writes}
use Rattle.wy_state.proofs.Statics.{static_is_made}
use Rattle.wy_state.specs.Agrees.{Shape, Agrees, Onward, Fall, HasLocals, HasFreshLocals, HasFreshStatics, HasSlots, IsUnmade, value_in, itself}
use Rattle.wy_state.specs.Steps.{local_slot, put, value_of_slot}
use Rattle.wy_state.proofs.Agreement.{with_locals}

module _ (p : Program) (m : Shape) where
  pub local_goes : (i k : ℕ) → code_of (frame_of m.calls) ≡ k → Onward p m (local_slot i) m (return (Local k i))
  unfolding return frame ◌>>=◌ go_on
  local_goes i k is = record { from = λ s a. record { state = s; agrees = a; is = ap (λ j. Done (Local j i) s) (sym is ∙ ap code_of (sym a.frame)) }; same = refl }

  pub read_local : (f i : ℕ) (v : Value) → Some v ≡ calls.held m.calls.frames f i → Onward p m (value_of_slot (Local f i)) m (return (itself v))
  unfolding return
  read_local f i v is = record { from = λ s a. record { state = s; agrees = a; is = ap (λ u. Done u s) (sym (a.locals f i v (sym is))) }; same = refl }

  pub read_made : (x : Slot) (v : Value) → Some v ≡ held m.heap x → Onward p m (value_of_slot x) m (return (itself v))
  unfolding return
  read_made x v is = record { from = λ s a. record { state = s; agrees = a; is = ap (λ u. Done u s) (sym (a.slots x v (sym is))) }; same = refl }

  pub type_goes : (n c : ℕ) (ty : Ty) → Some c ≡ code m.heap n → ty ≡ type_of_code c → Onward p m (type_of (Object n)) m (return (itself ty))
  unfolding return type_of event_at ◌>>=◌ go_on
  type_goes n c ty is typed = record { from = λ s a. record { state = s; agrees = a; is = ap (λ t. Done t s) (typed ∙ sym (a.codes n c (sym is))) }; same = refl }

  pub length_goes : (n k : ℕ) → Some k ≡ size m.heap n → Onward p m (length_of n) m (return (itself k))
  unfolding return length_of event_at ◌>>=◌ go_on
  length_goes n k is = record { from = λ s a. record { state = s; agrees = a; is = ap (λ t. Done t s) (sym (a.sizes n k (sym is))) }; same = refl }

  pub begun_goes : (c : ℕ) (b : Bool) → b ≡ is_made m.heap c → Onward p m (is_begun c) m (return b)
  unfolding return is_begun
  begun_goes c b is = record { from = λ s a. record { state = s; agrees = a; is = ap (λ t. Done t s) (is ∙ sym (a.begun c)) }; same = refl }

-- ---- stores

-- a store in which one slot has another value
pub record Puts (old new : Store nothing) (x : Slot) (v : Value) : Type 0 where
  pub at : value_in new x ≡ v
  pub others : (y : Slot) → same_slot y x ≡ false → new y ≡ old y

same_local : (f i : ℕ) → same_slot (Local f i) (Local f i) ≡ true
unfolding same_slot
same_local f i = rw (eq-eqb f f refl, eq-eqb i i refl) refl

pub other_local : (f i g j : ℕ) → ((g ≡ f) × (j ≡ i) → ⊥) → same_slot (Local g j) (Local f i) ≡ false
unfolding same_slot
other_local f i g j differ = elim (eqb_tells g f) as (λ _. (nat_eq g f && nat_eq j i) ≡ false) [
  | inl one ↦ elim (eqb_tells j i) as (λ _. (nat_eq g f && nat_eq j i) ≡ false) [
    | inl two ↦ absurd (differ (one.1, two.1))
    | inr two ↦ rw one.0 two.0
  ]
  | inr one ↦ rw one.0 refl
]

empty_then : (h : Option (Held nothing)) → (held_of (no_value h)).value ≡ Nothing
unfolding held_of no_value
empty_then Absent = refl
empty_then (Some h) = refl

module _ (store : Store nothing) (f i : ℕ) where
  pub declared : Puts store (λ y. if same_slot y (Local f i) then no_value (store y) else store y) (Local f i) Nothing
  declared = record {
    at = rw (value_in, same_local f i) (empty_then (store (Local f i)));
    others = λ y other. rw other refl;
  }

  pub stored : (v : Value) → Puts store (slot_with (Local f i) (record { value = v; from_data = tt; from_all = tt }) store) (Local f i) v
  unfolding slot_with held_of
  stored v = record {
    at = rw (value_in, same_local f i) refl;
    others = λ y other. rw other refl;
  }

-- ---- locals

module _ (old new : Store nothing) (i : ℕ) (v : Value) where
  put_newest : (bound : ℕ) (g : CallFrame) (fs : List CallFrame) → Fall bound (g ∷ fs) → i < length g.locals → Puts old new (Local g.event i) v → HasLocals old (g ∷ fs) → HasLocals new (with_newest i v (g ∷ fs))
  put_newest bound g fs falls lt puts has f j u is = elim (eqb_tells g.event f) as (λ _. value_in new (Local f j) ≡ u) [
    | inl same ↦ rw (← same.1) (newest j (rw same.0 at is))
    | inr other ↦ ap (λ o. (held_of o).value) (puts.others (Local f j) (other_local g.event i f j (λ both. other.1 (sym both.0)))) ∙ has f j u (rw other.0 (rw other.0 at is))
  ]
    where
      newest : (k : ℕ) → slice_get (set g.locals i v) k ≡ Some u → value_in new (Local g.event k) ≡ u
      newest k there = elim (eqb_tells k i) as (λ _. value_in new (Local g.event k) ≡ u) [
        | inl one ↦ rw one.1 (puts.at ∙ sym (get_or-set_same g.locals i v Nothing lt) ∙ get_or_from_slice_get (set g.locals i v) i u Nothing (rw one.1 at there))
        | inr other ↦
            let within : k < length g.locals = omega (arith, slice_get_within (set g.locals i v) k u there, length-set g.locals i v) in
            let value : get_or g.locals k Nothing ≡ u = sym (get_or-set_other g.locals i k v Nothing other.1) ∙ get_or_from_slice_get (set g.locals i v) k u Nothing there in
            let before : calls.held (g ∷ fs) g.event k ≡ Some u = rw (eq-eqb g.event g.event refl) (slice_get-get_or g.locals k Nothing within ∙ ap Some value) in
            ap (λ o. (held_of o).value) (puts.others (Local g.event k) (other_local g.event i g.event k (λ both. other.1 both.1))) ∙ has g.event k u before
      ]

  pub put_local : (bound : ℕ) (fs : List CallFrame) (f : ℕ) → event_of fs ≡ Some f → i < length (locals_of fs) → Fall bound fs → Puts old new (Local f i) v → HasLocals old fs → HasLocals new (with_newest i v fs)
  put_local bound [] f is lt falls puts has = cc
  put_local bound (g ∷ fs) f is lt falls puts has = let same : g.event ≡ f = cc in put_newest bound g fs falls lt (rw same puts) has

  pub put_fresh : (bound : ℕ) (fs : List CallFrame) (f : ℕ) → event_of fs ≡ Some f → Fall bound fs → Puts old new (Local f i) v → HasFreshLocals old bound → HasFreshLocals new bound
  put_fresh bound [] f is falls puts fresh h j le = cc
  put_fresh bound (g ∷ fs) f is falls puts fresh h j le = let same : g.event ≡ f = cc in puts.others (Local h j) (other_local f i h j (λ both. absurd (omega (arith, falls.0, same, both.0, le)))) ∙ fresh h j le

same_frames : (i : ℕ) (v : Value) (fs : List CallFrame) → event_of (with_newest i v fs) ≡ event_of fs
same_frames i v [] = refl
same_frames i v (g ∷ fs) = refl

still_fall : (bound i : ℕ) (v : Value) (fs : List CallFrame) → Fall bound fs → Fall bound (with_newest i v fs)
still_fall bound i v [] h = tt
still_fall bound i v (g ∷ fs) h = h

-- no local is a slot of the heap
module _ (f i n k : ℕ) where
  not_static : same_slot (Static n) (Local f i) ≡ false
  unfolding same_slot
  not_static = refl

  not_field : same_slot (Field n k) (Local f i) ≡ false
  unfolding same_slot
  not_field = refl

  not_element : same_slot (Elem n k) (Local f i) ≡ false
  unfolding same_slot
  not_element = refl

module _ (p : Program) (m : Shape) (s : State nothing) (f i : ℕ) (v : Value) (store : Store nothing) (newest : event_of m.calls.frames ≡ Some f) (lt : i < length (locals_of m.calls.frames)) (puts : Puts s.store store (Local f i) v) where
  made_stay : HasSlots s.store m.heap → HasSlots store m.heap
  unfolding held
  made_stay has (Local g j) u is = cc
  made_stay has (Static g) u is = ap (λ o. (held_of o).value) (puts.others (Static g) (not_static f i g 0)) ∙ has (Static g) u is
  made_stay has (Field o g) u is = ap (λ o. (held_of o).value) (puts.others (Field o g) (not_field f i o g)) ∙ has (Field o g) u is
  made_stay has (Elem o g) u is = ap (λ o. (held_of o).value) (puts.others (Elem o g) (not_element f i o g)) ∙ has (Elem o g) u is
  made_stay has slot.None u is = cc

  unmade_stay : (n : ℕ) → IsUnmade m.heap s.store n → IsUnmade m.heap store n
  unmade_stay n h = record {
    no_code = h.no_code;
    no_size = h.no_size;
    no_text = h.no_text;
    no_field = h.no_field;
    no_element = h.no_element;
    fresh_field = λ g. puts.others (Field n g) (not_field f i n g) ∙ h.fresh_field g;
    fresh_element = λ k. puts.others (Elem n k) (not_element f i n k) ∙ h.fresh_element k;
  }

  pub local_put : Agrees p m s → Agrees p (record m { calls = with_local i v m.calls }) (record s { store = store })
  local_put a = with_locals p m s (with_newest i v m.calls.frames) store (same_frames i v m.calls.frames) (still_fall m.entered i v m.calls.frames a.fall)
      (put_local s.store store i v m.entered m.calls.frames f newest lt a.fall puts a.locals)
      (put_fresh s.store store i v m.entered m.calls.frames f newest a.fall puts a.fresh_locals)
      (made_stay a.slots)
      (λ g un. puts.others (Static g) (not_static f i g 0) ∙ a.fresh_statics g un)
      (λ n le. unmade_stay n (a.unmade n le)) a

module _ (p : Program) (m : Shape) (i : ℕ) (v : Value) (new : CallStack) (is : new ≡ with_local i v m.calls) (lt : i < length (locals_of m.calls.frames)) where
  pub put_local_goes : (f : ℕ) → present f ≡ frame_of m.calls → present f ≡ Some f → Onward p m (put (Local f i) v) (record m { calls = new }) (return (itself tt))
  unfolding return with_stored
  put_local_goes f framed known = rw is (record {
    from = λ s a. record {
      state = with_stored (Local f i) (record { value = v; from_data = tt; from_all = tt }) s;
      agrees = local_put p m s f i v _ (sym framed ∙ known) lt (stored s.store f i v) a;
      is = refl;
    };
    same = refl;
  })

module _ (p : Program) (m : Shape) (i : ℕ) (new : CallStack) (is : new ≡ with_local i Nothing m.calls) (lt : i < length (locals_of m.calls.frames)) where
  running : (fs : List CallFrame) → i < length (locals_of fs) → (f : ℕ) × (event_of fs ≡ Some f)
  running [] lt = absurd (omega (arith, lt))
  running (g ∷ fs) lt = (g.event, refl)

  pub declare_goes : Onward p m (declaration i) (record m { calls = new }) (return (itself tt))
  unfolding return declaration declare frame code_of ◌>>=◌ go_on
  declare_goes = rw is (record {
    from = λ s a.
        let newest = running m.calls.frames lt in
        let named : code_of s.frame ≡ newest.0 = rw (a.frame, newest.1) refl in
        record {
          state = record s { store = λ y. if same_slot y (Local newest.0 i) then no_value (s.store y) else s.store y };
          agrees = local_put p m s newest.0 i Nothing _ newest.1 lt (declared s.store newest.0 i) a;
          is = rw named refl;
        };
    same = refl;
  })

-- ---- static fields, and the slots of objects and arrays

-- a slot of the heap is no local
unlike_local : (h : Heap) (x : Slot) (u : Value) → Some u ≡ held h x → (f i : ℕ) → same_slot (Local f i) x ≡ false
unfolding held same_slot
unlike_local h (Local g j) u is f i = cc
unlike_local h (Static g) u is f i = refl
unlike_local h (Field o g) u is f i = refl
unlike_local h (Elem o g) u is f i = refl
unlike_local h slot.None u is f i = refl

both_same : (a b c d : ℕ) → (nat_eq a b && nat_eq c d) ≡ true → (a ≡ b) × (c ≡ d)
both_same a b c d is = elim (eqb_tells a b) as (λ _. (a ≡ b) × (c ≡ d)) [
  | inl one ↦ elim (eqb_tells c d) as (λ _. (a ≡ b) × (c ≡ d)) [
    | inl two ↦ (one.1, two.1)
    | inr two ↦ let never : false ≡ true = sym (rw (one.0, two.0) refl) ∙ is in cc
  ]
  | inr one ↦ let never : false ≡ true = sym (rw one.0 refl) ∙ is in cc
]

same_is : (y x : Slot) → same_slot y x ≡ true → y ≡ x
unfolding same_slot
same_is (Local f i) (Local g j) is = let e = both_same f g i j is in rw (e.0, e.1) refl
same_is (Static f) (Static g) is = elim (eqb_tells f g) as (λ _. Static f ≡ Static g) [
  | inl one ↦ ap Static one.1
  | inr one ↦ let never : false ≡ true = sym one.0 ∙ is in cc
]
same_is (Field o f) (Field q g) is = let e = both_same o q f g is in rw (e.0, e.1) refl
same_is (Elem o f) (Elem q g) is = let e = both_same o q f g is in rw (e.0, e.1) refl
same_is slot.None slot.None is = cc
same_is slot.None (Local g j) is = cc
same_is slot.None (Static g) is = cc
same_is slot.None (Field q g) is = cc
same_is slot.None (Elem q g) is = cc
same_is (Local f i) slot.None is = cc
same_is (Local f i) (Static g) is = cc
same_is (Local f i) (Field q g) is = cc
same_is (Local f i) (Elem q g) is = cc
same_is (Static f) slot.None is = cc
same_is (Static f) (Local g j) is = cc
same_is (Static f) (Field q g) is = cc
same_is (Static f) (Elem q g) is = cc
same_is (Field o f) slot.None is = cc
same_is (Field o f) (Local g j) is = cc
same_is (Field o f) (Static g) is = cc
same_is (Field o f) (Elem q g) is = cc
same_is (Elem o f) slot.None is = cc
same_is (Elem o f) (Local g j) is = cc
same_is (Elem o f) (Static g) is = cc
same_is (Elem o f) (Field q g) is = cc

-- a slot of the heap is the same as itself
same_self : (h : Heap) (x : Slot) (u : Value) → Some u ≡ held h x → same_slot x x ≡ true
unfolding held same_slot
same_self h (Local g j) u is = cc
same_self h (Static g) u is = eq-eqb g g refl
same_self h (Field o g) u is = rw (eq-eqb o o refl, eq-eqb g g refl) refl
same_self h (Elem o g) u is = rw (eq-eqb o o refl, eq-eqb g g refl) refl
same_self h slot.None u is = cc

module _ (p : Program) (m : Shape) (s : State nothing) (x : Slot) (v u : Value) (h : Heap) (was : Some u ≡ held m.heap x) (w : Writes x v m.heap h) (a : Agrees p m s) where
  abbrev pub put_store : Store nothing
  put_store = slot_with x (record { value = v; from_data = tt; from_all = tt }) s.store

  other : (y : Slot) → same_slot y x ≡ false → put_store y ≡ s.store y
  unfolding slot_with
  other y differs = rw differs refl

  here : value_in put_store x ≡ v
  unfolding slot_with held_of
  here = rw (value_in, same_self m.heap x u was) refl

  slots_written : HasSlots put_store h
  slots_written y t is = cases (same_slot y x) refl
    where
      cases : (b : Bool) → same_slot y x ≡ b → value_in put_store y ≡ t
      cases true same = let e : y ≡ x = same_is y x same in rw e (here ∙ let got : Some v ≡ Some t = sym w.written ∙ rw (← e) is in cc)
      cases false differs = ap (λ o. (held_of o).value) (other y differs) ∙ a.slots y t (sym (w.others y differs) ∙ is)

  statics_fresh : HasFreshStatics p put_store h
  statics_fresh f un = cases (same_slot (Static f) x) refl
    where
      unmade : is_made m.heap (owner_in p f) ≡ false
      unmade = sym (w.classes (owner_in p f)) ∙ un

      cases : (b : Bool) → same_slot (Static f) x ≡ b → put_store (Static f) ≡ Absent
      cases true same = let e : Static f ≡ x = same_is (Static f) x same in let made : is_made m.heap (owner_in p f) ≡ true = static_is_made p m.heap a.same_plan f u (rw e was) in let never : true ≡ false = sym made ∙ unmade in cc
      cases false differs = other (Static f) differs ∙ a.fresh_statics f unmade

  still_unmade : (n : ℕ) → IsUnmade m.heap s.store n → IsUnmade h put_store n
  still_unmade n g = record {
    no_code = w.codes n ∙ g.no_code;
    no_size = w.sizes n ∙ g.no_size;
    no_text = w.texts n ∙ g.no_text;
    no_field = λ f. w.others (Field n f) (unlike (Field n f) (g.no_field f)) ∙ g.no_field f;
    no_element = λ i. w.others (Elem n i) (unlike (Elem n i) (g.no_element i)) ∙ g.no_element i;
    fresh_field = λ f. other (Field n f) (unlike (Field n f) (g.no_field f)) ∙ g.fresh_field f;
    fresh_element = λ i. other (Elem n i) (unlike (Elem n i) (g.no_element i)) ∙ g.fresh_element i;
  }
    where
      unlike : (y : Slot) → held m.heap y ≡ Absent → same_slot y x ≡ false
      unlike y none = cases (same_slot y x) refl
        where
          cases : (b : Bool) → same_slot y x ≡ b → same_slot y x ≡ false
          cases true same = let e : y ≡ x = same_is y x same in let never : Some u ≡ Absent = was ∙ rw (← e) none in cc
          cases false differs = differs

  pub heap_put : Agrees p (record m { heap = h }) (record s { store = put_store })
  heap_put = record {
    events = a.events;
    kept = a.kept;
    uses = a.uses;
    left = a.left;
    elements = a.elements;
    units = a.units;
    output = a.output;
    input = a.input;
    active = a.active;
    frame = a.frame;
    covers = a.covers;
    throws = a.throws;
    fall = a.fall;
    locals = λ f i t is. ap (λ o. (held_of o).value) (other (Local f i) (unlike_local m.heap x u was f i)) ∙ a.locals f i t is;
    fresh_locals = λ f i le. other (Local f i) (unlike_local m.heap x u was f i) ∙ a.fresh_locals f i le;
    same_plan = w.same_plan ∙ a.same_plan;
    slots = slots_written;
    fresh_statics = statics_fresh;
    unmade = λ n le. still_unmade n (a.unmade n le);
    codes = λ n c is. a.codes n c (sym (w.codes n) ∙ is);
    sizes = λ n k is. a.sizes n k (sym (w.sizes n) ∙ is);
    texts = λ n us is. a.texts n us (sym (w.texts n) ∙ is);
    begun = λ c. a.begun c ∙ sym (w.classes c);
  }

pub put_made_goes : (p : Program) (m : Shape) (x : Slot) (v u : Value) (h : Heap) → Some u ≡ held m.heap x → Writes x v m.heap h → Onward p m (put x v) (record m { heap = h }) (return (itself tt))
unfolding return with_stored
put_made_goes p m x v u h was w = record { from = λ s a. record { state = with_stored x (record { value = v; from_data = tt; from_all = tt }) s; agrees = heap_put p m s x v u h was w a; is = refl }; same = refl }

-- ---- texts

module _ (p : Program) (m : Shape) (w : World nothing) where
  pub text_goes : (n : ℕ) (us : List ℕ) → Some us ≡ text m.heap n → Onward p m (units_of w (TextOf n)) m (return us)
  unfolding return units_of event_at ◌>>=◌ go_on
  text_goes n us is = record { from = λ s a. record { state = s; agrees = a; is = ap (λ t. Done t s) (sym (a.texts n us (sym is))) }; same = refl }

  pub fixed_goes : (n : ℕ) (us : List ℕ) → us ≡ fixed_text w.program n → Onward p m (units_of w (FixedOf n)) m (return us)
  unfolding return units_of
  fixed_goes n us is = record { from = λ s a. record { state = s; agrees = a; is = ap (λ t. Done t s) is }; same = refl }

  nothing_in : (v : Value) → ((n : ℕ) → v ≡ TextOf n → ⊥) → ((n : ℕ) → v ≡ FixedOf n → ⊥) → (s : State nothing) → units_of w v s ≡ Done [] s
  unfolding units_of return
  nothing_in (TextOf n) one two s = absurd (one n refl)
  nothing_in (FixedOf n) one two s = absurd (two n refl)
  nothing_in Nothing one two s = refl
  nothing_in (value.Bool b) one two s = refl
  nothing_in (value.Byte b) one two s = refl
  nothing_in (value.Short b) one two s = refl
  nothing_in (value.Char b) one two s = refl
  nothing_in (value.Int b) one two s = refl
  nothing_in (value.Long b) one two s = refl
  nothing_in value.Null one two s = refl
  nothing_in (Object b) one two s = refl
  nothing_in (value.Arm b) one two s = refl

  pub nothing_goes : (v : Value) → ((n : ℕ) → v ≡ TextOf n → ⊥) → ((n : ℕ) → v ≡ FixedOf n → ⊥) → Onward p m (units_of w v) m (return [])
  unfolding return
  nothing_goes v one two = record { from = λ s a. record { state = s; agrees = a; is = sym (nothing_in v one two s) }; same = refl }

module _ (p : Program) (m : Shape) where
  pub text_type_goes : (n : ℕ) → Onward p m (type_of (TextOf n)) m (return (Of (Named 1) 0))
  unfolding return type_of
  text_type_goes n = record { from = λ s a. record { state = s; agrees = a; is = refl }; same = refl }

  pub fixed_type_goes : (n : ℕ) → Onward p m (type_of (FixedOf n)) m (return (Of (Named 1) 0))
  unfolding return type_of
  fixed_type_goes n = record { from = λ s a. record { state = s; agrees = a; is = refl }; same = refl }

  no_type : (v : Value) → ((n : ℕ) → v ≡ Object n → ⊥) → ((n : ℕ) → v ≡ TextOf n → ⊥) → ((n : ℕ) → v ≡ FixedOf n → ⊥) → (s : State nothing) → type_of v s ≡ Done OfNull s
  unfolding type_of return
  no_type (Object n) none one two s = absurd (none n refl)
  no_type (TextOf n) none one two s = absurd (one n refl)
  no_type (FixedOf n) none one two s = absurd (two n refl)
  no_type Nothing none one two s = refl
  no_type (value.Bool b) none one two s = refl
  no_type (value.Byte b) none one two s = refl
  no_type (value.Short b) none one two s = refl
  no_type (value.Char b) none one two s = refl
  no_type (value.Int b) none one two s = refl
  no_type (value.Long b) none one two s = refl
  no_type value.Null none one two s = refl
  no_type (value.Arm b) none one two s = refl

  pub other_type_goes : (v : Value) → ((n : ℕ) → v ≡ Object n → ⊥) → ((n : ℕ) → v ≡ TextOf n → ⊥) → ((n : ℕ) → v ≡ FixedOf n → ⊥) → Onward p m (type_of v) m (return OfNull)
  unfolding return
  other_type_goes v none one two = record { from = λ s a. record { state = s; agrees = a; is = sym (no_type v none one two s) }; same = refl }
