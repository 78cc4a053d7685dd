-- What is made: a New with its object or array, and an Init with its class.
use Rattle.std.proofs.Common.{◌≡◌, ◌≢◌, ◌≤◌, ◌<◌, ◌∙◌, ℕ, ◌+◌, List, [], ◌∷◌, length, Bool, true, false, Option, Some, Err, refl, sym, ap, subst, arith, inl, inr, eq-eqb}
use Rattle.std.specs.Prelude.{None as Absent, ℤ, nat_eq, nat_lt, nat_le, pos, if◌then◌else◌}
use Rattle.std.proofs.lemmas.Bool.Decides.{eqb_tells}
use Rattle.wy_kernel.specs.Program.{Program, type_of_code}
use Rattle.wy_value.specs.declared.value.Value.{Value}
use Rattle.wy_value.specs.declared.value.Value.TheVariants.{None as Nothing, Int}
use Rattle.wy_event.specs.declared.record.Slot.{Slot}
use Rattle.wy_event.specs.declared.record.Slot.TheVariants.{Local, Static, Field, Elem}
use Rattle.wy_event.specs.declared.record.Slot.TheVariants as slot
use Rattle.wy_event.specs.declared.record.Kind.TheVariants as kinds
use Rattle.wy_event.specs.declared.record.Use.{Use}
use Rattle.wy_event.specs.Sources.{creates, creates_as}
use Rattle.wy_steps.specs.Sets.{nothing}
use Rattle.wy_steps.specs.State.{Noted, State, Store, Held, ElementLimit, choose, go_on, ◌>>=◌, ◌>>◌, return, stop}
use Rattle.wy_kernel.specs.Limits.{element_limit, event_limit, use_limit}
use Rattle.wy_steps.specs.Steps.{Draft, Made, code_of, creating, default_in, event_in, has_init, held_by, held_of, if_empty, is_init_of, made, next_event, note_new, owner_in, take_elements, with_created, with_elements, with_event}
use Rattle.wy_meaning.specs.World.{about, natural_of, type_in, length_in, units_in, class_code}
use Rattle.wy_heap.specs.declared.heap.Heap.{Heap}
use Rattle.wy_heap.specs.Heap.{held, code, size, text, is_made, plan}
use Rattle.wy_heap.specs.Plan.{first_of}
use Rattle.wy_heap.proofs.Plans.{first-is_default}
use Rattle.wy_heap.specs.Changes.{KeepsOthers, MakesArray, MakesObject, is_field_of, is_part}
use Rattle.wy_state.specs.Agrees.{Shape, Agrees, StepGives, Onward, Refusing, HasSlots, HasCodes, HasSizes, HasTexts, IsUnmade, value_in, with_record}
use Rattle.wy_state.specs.declared.parts.Draft.{Draft as Drafted}
use Rattle.wy_state.specs.declared.parts.Halt.{Halt}
use Rattle.wy_state.specs.Seen.{draft_of, given, made_of}
use Rattle.wy_state.specs.Steps.{make_array}
use Rattle.std.proofs.lemmas.Bool.{le-leb, lt-leb}
use Rattle.wy_state.proofs.Agreement.{with_elements as with_more_elements}
use Rattle.wy_state.proofs.Onward.{answers_then, onward_then}
use Rattle.wy_state.proofs.Numbers.{present_some}
use Rattle.wy_state.proofs.Records.{in_room, newest_event, no_init, older_event, one_more, refused}

pub not_same : (n k : ℕ) → n ≢ k → nat_eq n k ≡ false
not_same n k differs = elim (eqb_tells n k) as (λ _. nat_eq n k ≡ false) [
  | inl same ↦ absurd (differs same.1)
  | inr other ↦ other.0
]

-- a New of a block, which nothing was made of before
module _ (p : Program) (m : Shape) (s : State nothing) (a : Agrees p m s) (site entity : ℕ) (v : Value) (us : List Use) where
  abbrev pub the_event : Noted nothing
  the_event = next_event (about kinds.New site entity v) (given Nothing us) s

  abbrev pub new_store : Store nothing
  new_store = λ y. if_empty (s.store y) (if creates (owner_in p) (length s.noted) y the_event.event then Some (held_by (default_in p the_event.event y) the_event) else Absent)

  kept : (y : Slot) → creates (owner_in p) (length s.noted) y the_event.event ≡ false → new_store y ≡ s.store y
  unfolding if_empty
  kept y un = cases (s.store y) refl
    where
      cases : (h : Option (Held nothing)) → s.store y ≡ h → new_store y ≡ s.store y
      cases (Some h) is = rw is refl
      cases Absent is = rw (is, un) refl

  here : (y : Slot) → creates (owner_in p) (length s.noted) y the_event.event ≡ true → s.store y ≡ Absent → value_in new_store y ≡ default_in p the_event.event y
  unfolding if_empty held_of held_by
  here y true_of none = rw (value_in, none, true_of) refl

  -- which slots a New creates
  of_field : (o f : ℕ) → creates (owner_in p) (length s.noted) (Field o f) the_event.event ≡ nat_eq o (length s.noted)
  unfolding creates creates_as next_event about
  of_field o f = refl

  of_element : (o i : ℕ) → creates (owner_in p) (length s.noted) (Elem o i) the_event.event ≡ nat_eq o (length s.noted)
  unfolding creates creates_as next_event about
  of_element o i = refl

  of_local : (f i : ℕ) → creates (owner_in p) (length s.noted) (Local f i) the_event.event ≡ false
  unfolding creates creates_as next_event about
  of_local f i = refl

  of_static : (f : ℕ) → creates (owner_in p) (length s.noted) (Static f) the_event.event ≡ false
  unfolding creates creates_as next_event about
  of_static f = refl

  module _ (k : ℕ) (number : k ≡ m.events) (h : Heap) (others : KeepsOthers k m.heap h)
      (fields : (f : ℕ) (u : Value) → held h (Field k f) ≡ Some u → u ≡ default_in p the_event.event (Field k f))
      (elements : (i : ℕ) (u : Value) → held h (Elem k i) ≡ Some u → u ≡ default_in p the_event.event (Elem k i)) where
    first_unmade : IsUnmade m.heap s.store k
    first_unmade = a.unmade k (omega (arith, number))

    same_number : k ≡ length s.noted
    same_number = number ∙ sym a.events

    is_it : (o : ℕ) → nat_eq o k ≡ true → nat_eq o (length s.noted) ≡ true
    is_it o is = rw (← same_number) is

    is_other : (o : ℕ) → nat_eq o k ≡ false → nat_eq o (length s.noted) ≡ false
    is_other o is = rw (← same_number) is

    field_here : (f : ℕ) (u : Value) → held h (Field k f) ≡ Some u → value_in new_store (Field k f) ≡ u
    field_here f u is = here (Field k f) (of_field k f ∙ is_it k (eq-eqb k k refl)) (first_unmade.fresh_field f) ∙ sym (fields f u is)

    element_here : (i : ℕ) (u : Value) → held h (Elem k i) ≡ Some u → value_in new_store (Elem k i) ≡ u
    element_here i u is = here (Elem k i) (of_element k i ∙ is_it k (eq-eqb k k refl)) (first_unmade.fresh_element i) ∙ sym (elements i u is)

    slots_now : HasSlots new_store h
    unfolding held is_part
    slots_now (Local f i) u is = cc
    slots_now slot.None u is = cc
    slots_now (Static f) u is = ap (λ o. (held_of o).value) (kept (Static f) (of_static f)) ∙ a.slots (Static f) u (sym (others.slots (Static f) refl) ∙ is)
    slots_now (Field o f) u is = elim (eqb_tells o k) as (λ _. value_in new_store (Field o f) ≡ u) [
      | inl same ↦ rw same.1 (field_here f u (rw same.1 at is))
      | inr other ↦ ap (λ x. (held_of x).value) (kept (Field o f) (of_field o f ∙ is_other o other.0)) ∙ a.slots (Field o f) u (sym (others.slots (Field o f) other.0) ∙ is)
    ]
    slots_now (Elem o i) u is = elim (eqb_tells o k) as (λ _. value_in new_store (Elem o i) ≡ u) [
      | inl same ↦ rw same.1 (element_here i u (rw same.1 at is))
      | inr other ↦ ap (λ x. (held_of x).value) (kept (Elem o i) (of_element o i ∙ is_other o other.0)) ∙ a.slots (Elem o i) u (sym (others.slots (Elem o i) other.0) ∙ is)
    ]

    unmade_now : (n : ℕ) → m.events + 1 ≤ n → IsUnmade h new_store n
    unfolding is_part
    unmade_now n le =
        let before = a.unmade n (omega (arith, le)) in
        let differs : n ≢ k = λ same. absurd (omega (arith, same, number, le)) in
        let apart : nat_eq n k ≡ false = not_same n k differs in
        record {
          no_code = others.codes n differs ∙ before.no_code;
          no_size = others.sizes n differs ∙ before.no_size;
          no_text = others.texts n differs ∙ before.no_text;
          no_field = λ f. others.slots (Field n f) apart ∙ before.no_field f;
          no_element = λ i. others.slots (Elem n i) apart ∙ before.no_element i;
          fresh_field = λ f. kept (Field n f) (of_field n f ∙ is_other n apart) ∙ before.fresh_field f;
          fresh_element = λ i. kept (Elem n i) (of_element n i ∙ is_other n apart) ∙ before.fresh_element i;
        }

    module _ (coded : (c : ℕ) → code h k ≡ Some c → type_in (Some the_event.event) ≡ type_of_code c)
        (sized : (z : ℕ) → size h k ≡ Some z → length_in (Some the_event.event) ≡ z)
        (spelled : (xs : List ℕ) → text h k ≡ Some xs → units_in (Some the_event.event) ≡ xs) where
      newest_is : event_in (the_event ∷ s.noted) k ≡ Some the_event.event
      newest_is = rw same_number (newest_event the_event s.noted)

      other_is : (n : ℕ) → n ≢ k → event_in (the_event ∷ s.noted) n ≡ event_in s.noted n
      other_is n differs = older_event the_event s.noted n (λ same. differs (same ∙ sym same_number))

      codes_now : HasCodes (the_event ∷ s.noted) h
      codes_now n c is = elim (eqb_tells n k) as (λ _. type_in (event_in (the_event ∷ s.noted) n) ≡ type_of_code c) [
        | inl same ↦ rw same.1 (ap type_in newest_is ∙ coded c (rw same.1 at is))
        | inr other ↦ ap type_in (other_is n other.1) ∙ a.codes n c (sym (others.codes n other.1) ∙ is)
      ]

      sizes_now : HasSizes (the_event ∷ s.noted) h
      sizes_now n z is = elim (eqb_tells n k) as (λ _. length_in (event_in (the_event ∷ s.noted) n) ≡ z) [
        | inl same ↦ rw same.1 (ap length_in newest_is ∙ sized z (rw same.1 at is))
        | inr other ↦ ap length_in (other_is n other.1) ∙ a.sizes n z (sym (others.sizes n other.1) ∙ is)
      ]

      texts_now : HasTexts (the_event ∷ s.noted) h
      texts_now n xs is = elim (eqb_tells n k) as (λ _. units_in (event_in (the_event ∷ s.noted) n) ≡ xs) [
        | inl same ↦ rw same.1 (ap units_in newest_is ∙ spelled xs (rw same.1 at is))
        | inr other ↦ ap units_in (other_is n other.1) ∙ a.texts n xs (sym (others.texts n other.1) ∙ is)
      ]

      begun_now : (c : ℕ) → has_init c (the_event ∷ s.noted) ≡ is_made h c
      unfolding is_init_of next_event about
      begun_now c = no_init the_event s.noted c refl ∙ a.begun c ∙ sym (others.classes c)

      pub block_made : Agrees p (record (with_record (about kinds.New site entity v) us m) { heap = h }) (with_created p (length s.noted) the_event (with_event the_event s))
      unfolding with_created with_event
      block_made = one_more p m s a (about kinds.New site entity v) (given Nothing us) h new_store
          (λ f i u is. ap (λ o. (held_of o).value) (kept (Local f i) (of_local f i)) ∙ a.locals f i u is)
          (λ f i le. kept (Local f i) (of_local f i) ∙ a.fresh_locals f i le)
          (others.same_plan ∙ a.same_plan) slots_now
          (λ f un. kept (Static f) (of_static f) ∙ a.fresh_statics f (sym (others.classes (owner_in p f)) ∙ un))
          unmade_now codes_now sizes_now texts_now begun_now

-- ---- objects and arrays

from_choice : (b : Bool) (x u : Value) → (if b then Some x else Absent) ≡ Some u → u ≡ x
from_choice true x u is = cc
from_choice false x u is = cc

module _ (p : Program) (m : Shape) (site : ℕ) (us : List Use) (k : ℕ) (number : k ≡ m.events) (few : m.events < event_limit) (fits : m.uses + length us ≤ use_limit) (h : Heap) where
  made_goes : (entity : ℕ) (v w : Value) (n : Shape) → n ≡ record (with_record (about kinds.New site entity v) us m) { heap = h } →
      ((s : State nothing) (a : Agrees p m s) → Agrees p (record (with_record (about kinds.New site entity v) us m) { heap = h }) (with_created p (length s.noted) (the_event p m s a site entity v us) (with_event (the_event p m s a site entity v us) s))) →
      Onward p m (note_new p (about kinds.New site entity v) (given w us)) n (return (made_of k))
  unfolding note_new creating made return next_event about
  made_goes entity v w n is agreed = rw is (record {
    from = λ s a. record {
      state = with_created p (length s.noted) (the_event p m s a site entity v us) (with_event (the_event p m s a site entity v us) s);
      agrees = agreed s a;
      is = rw (in_room p m (about kinds.New site entity v) w us s a (creating p (about kinds.New site entity v) (given w us)) few fits, number, ← a.events) refl;
    };
    same = refl;
  })

  pub object_goes : (c : ℕ) (n : Shape) → MakesObject k c m.heap h → n ≡ record (with_record (about kinds.New site (class_code c) Nothing) us m) { heap = h } →
      Onward p m (note_new p (about kinds.New site (class_code c) Nothing) (given Nothing us)) n (return (made_of k))
  unfolding default_in class_code type_in code_of next_event about
  object_goes c n w is = made_goes (class_code c) Nothing Nothing n is (λ s a.
      block_made p m s a site (class_code c) Nothing us k number h w.others
      (λ f u held. from_choice (is_field_of (plan m.heap) c f) _ u (sym (w.fields f) ∙ held) ∙ ap (λ pl. first_of pl f) a.same_plan ∙ first-is_default p f)
      (λ i u held. let none = w.no_elements i in cc)
      (λ d coded. let is = w.code in let same : d ≡ 16 + c = cc in rw same refl)
      (λ z sized. let none = w.size in cc)
      (λ xs spelled. let none = w.text in cc))

  pub array_goes : (code many : ℕ) (n : Shape) → MakesArray k code many m.heap h → n ≡ record (with_record (about kinds.New site code (Int (pos many))) us m) { heap = h } →
      Onward p m (note_new p (about kinds.New site code (Int (pos many))) (given Nothing us)) n (return (made_of k))
  unfolding default_in type_in length_in natural_of code_of next_event about
  array_goes code many n w is = made_goes code (Int (pos many)) Nothing n is (λ s a.
      block_made p m s a site code (Int (pos many)) us k number h w.others
      (λ f u held. let none = w.no_fields f in cc)
      (λ i u held. from_choice (nat_lt i many) _ u (sym (w.each i) ∙ held))
      (λ d coded. let is = w.code in let same : d ≡ code = cc in rw same refl)
      (λ z sized. let is = w.size in let same : z ≡ many = cc in rw same refl)
      (λ xs spelled. let none = w.text in cc))

-- what a method that records and then makes gives

pub new_refused : {X : Type 0} (p : Program) (m : Shape) (d : Draft) (v : Value) (us : List Use) (view : X → Made nothing) (n : Shape) (e : Halt) → Refusing us e m n → StepGives p view (Err e) m (note_new p d (given v us)) n
unfolding note_new
new_refused p m d v us view n e h = refused p m d v us (creating p d (given v us)) view n e h

module _ (p : Program) (m n : Shape) (us : List Use) (k : ℕ) (d : Drafted) (units : List ℕ) (empty : units ≡ [])
    (r : (k ≡ m.events) × (m.events < event_limit) × (m.uses + length us ≤ use_limit) × (n ≡ with_record (draft_of d units) us m)) (h : Heap) where
  pub as_drafted : (e : Draft) → draft_of d [] ≡ e → record n { heap = h } ≡ record (with_record e us m) { heap = h }
  as_drafted e same = ap (λ (x : Shape). record x { heap = h }) (r.3 ∙ ap (λ xs. with_record (draft_of d xs) us m) empty ∙ ap (λ x. with_record x us m) same)

  same_heap : n.heap ≡ m.heap
  same_heap = ap (λ (x : Shape). x.heap) r.3

  pub object_noted : (site c : ℕ) → draft_of d [] ≡ about kinds.New site (class_code c) Nothing → MakesObject k c n.heap h →
      Onward p m (note_new p (about kinds.New site (class_code c) Nothing) (given Nothing us)) (record n { heap = h }) (return (made_of k))
  object_noted site c same w = object_goes p m site us k r.0 r.1 r.2 h c (record n { heap = h }) (subst (λ g. MakesObject k c g h) same_heap w) (as_drafted _ same)

-- the draft of a New of a class
pub drafted_object : (site c : ℕ) → 16 + c ≢ 4294967295 → draft_of (record { kind = kinds.New; site = site; entity = 16 + c; slot = slot.None; value = Nothing }) [] ≡ about kinds.New site (class_code c) Nothing
unfolding about class_code
drafted_object site c low = rw (present_some (16 + c) low) refl

-- ---- elements

module _ (p : Program) (m : Shape) (site code many : ℕ) (us : List Use) where
  pub no_elements_left : element_limit < m.elements + many → Onward p m (make_array p site code many us) m (stop ElementLimit)
  unfolding take_elements choose stop ◌>>=◌ ◌>>◌ go_on
  no_elements_left full = record {
    from = λ s a.
        let above : nat_le (s.elements + many) element_limit ≡ false = rw a.elements (lt-leb (m.elements + many) element_limit full) in
        record { state = s; agrees = a; is = rw above refl };
    same = refl;
  }

  pub elements_taken : m.elements + many ≤ element_limit → (x : ℕ) → x ≡ m.elements + many → Onward p m (make_array p site code many us) (record m { elements = x }) (note_new p (about kinds.New site code (Int (pos many))) (given Nothing us))
  unfolding take_elements with_elements choose ◌>>=◌ ◌>>◌ go_on
  elements_taken fits x is = record {
    from = λ s a.
        let has : nat_le (s.elements + many) element_limit ≡ true = rw a.elements (le-leb (m.elements + many) element_limit fits) in
        record { state = record s { elements = s.elements + many }; agrees = with_more_elements p m s x (s.elements + many) (ap (λ k. k + many) a.elements ∙ sym is) a; is = rw has refl };
    same = refl;
  }

-- the draft of a New of an array
pub drafted_array : (site code : ℕ) (z : ℤ) (many : ℕ) → code ≢ 4294967295 → z ≡ pos many → draft_of (record { kind = kinds.New; site = site; entity = code; slot = slot.None; value = Int z }) [] ≡ about kinds.New site code (Int (pos many))
unfolding about
drafted_array site code z many low is = rw (present_some code low, is) refl

module _ (p : Program) (m n : Shape) (site code many : ℕ) (us : List Use) (fits : m.elements + many ≤ element_limit) (x : ℕ) (taken : x ≡ m.elements + many) where
  pub array_refused : (e : Halt) → Refusing us e (record m { elements = x }) n → StepGives p made_of (Err e) m (make_array p site code many us) n
  array_refused e h = answers_then made_of p e m (record m { elements = x }) n _ _ (elements_taken p m site code many us fits x taken) (new_refused p (record m { elements = x }) (about kinds.New site code (Int (pos many))) Nothing us made_of n e h)

  pub array_noted : (k : ℕ) (d : Drafted) (units : List ℕ) (empty : units ≡ []) → (k ≡ m.events) × (m.events < event_limit) × (m.uses + length us ≤ use_limit) × (n ≡ with_record (draft_of d units) us (record m { elements = x })) → (h : Heap) →
      draft_of d [] ≡ about kinds.New site code (Int (pos many)) → MakesArray k code many n.heap h → Onward p m (make_array p site code many us) (record n { heap = h }) (return (made_of k))
  array_noted k d units empty r h same w =
      onward_then (elements_taken p m site code many us fits x taken)
      (array_goes p (record m { elements = x }) site us k r.0 r.1 r.2 h code many (record n { heap = h }) (subst (λ g. MakesArray k code many g h) (ap (λ (y : Shape). y.heap) r.3) w)
      (as_drafted p (record m { elements = x }) n us k d units empty r h _ same))
