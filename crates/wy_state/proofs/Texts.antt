-- What a run makes besides objects and arrays: a Text with its units, and an Init with its class.
use Rattle.std.proofs.Common.{◌≡◌, ◌≢◌, ◌≤◌, ◌<◌, ◌∙◌, ℕ, ◌+◌, List, ◌∷◌, length, true, false, Some, Err, refl, sym, ap, subst, arith, inl, inr}
use Rattle.std.specs.Prelude.{None as Absent, nat_eq, nat_le}
use Rattle.std.proofs.lemmas.Bool.Decides.{eqb_tells}
use Rattle.std.proofs.lemmas.Bool.{le-leb, lt-leb}
use Rattle.wy_kernel.specs.Program.{Program, type_of_code}
use Rattle.wy_value.specs.declared.value.Value.TheVariants.{None as Nothing}
use Rattle.wy_event.specs.declared.record.Slot.TheVariants.{Local, Static, Field, Elem}
use Rattle.wy_event.specs.declared.record.Slot.TheVariants as slot
use Rattle.wy_event.specs.declared.record.Kind.TheVariants as kinds
use Rattle.wy_event.specs.declared.record.Use.{Use}
use Rattle.wy_steps.specs.Sets.{nothing}
use Rattle.wy_steps.specs.State.{Noted, State, UnitLimit, choose, go_on, ◌>>=◌, ◌>>◌, return, stop}
use Rattle.wy_kernel.specs.Limits.{event_limit, unit_limit, use_limit}
use Rattle.wy_steps.specs.Steps.{event_in, is_init_of, made, next_event, note, noting, take_units, with_event, with_units}
use Rattle.wy_meaning.specs.World.{spelling, type_in, length_in, units_in}
use Rattle.wy_heap.specs.declared.heap.Heap.{Heap}
use Rattle.wy_heap.specs.Heap.{held}
use Rattle.wy_heap.specs.Changes.{MakesText, is_part}
use Rattle.wy_state.specs.Agrees.{Shape, Agrees, StepGives, Onward, Refusing, HasSlots, HasCodes, HasSizes, HasTexts, IsUnmade, value_in, with_record}
use Rattle.wy_state.specs.declared.parts.Draft.{Draft as Drafted}
use Rattle.wy_state.specs.declared.parts.Halt.{Halt}
use Rattle.wy_state.specs.Seen.{draft_of, given, made_of}
use Rattle.wy_state.specs.Steps.{make_text}
use Rattle.wy_state.proofs.Agreement.{with_units as with_more_units}
use Rattle.wy_state.proofs.Numbers.{present_none}
use Rattle.wy_state.proofs.Onward.{answers_then, onward_then}
use Rattle.wy_state.proofs.Records.{in_room, newest_event, no_init, note_refused, older_event, one_more}
use Rattle.wy_state.proofs.Makers.{not_same}

module _ (p : Program) (m : Shape) (s : State nothing) (a : Agrees p m s) (site : ℕ) (xs : List ℕ) (us : List Use)
    (k : ℕ) (number : k ≡ m.events) (h : Heap) (w : MakesText k xs m.heap h) where
  abbrev pub the_text : Noted nothing
  the_text = next_event (spelling site xs) (given Nothing us) s

  same_number : k ≡ length s.noted
  same_number = number ∙ sym a.events

  slots_now : HasSlots s.store h
  unfolding held is_part
  slots_now (Local f i) u is = cc
  slots_now slot.None u is = cc
  slots_now (Static f) u is = a.slots (Static f) u (sym (w.others.slots (Static f) refl) ∙ is)
  slots_now (Field o f) u is = elim (eqb_tells o k) as (λ _. value_in s.store (Field o f) ≡ u) [
    | inl same ↦ let none = w.no_fields f in let there = rw same.1 at is in let never : Absent ≡ Some u = sym none ∙ there in cc
    | inr other ↦ a.slots (Field o f) u (sym (w.others.slots (Field o f) other.0) ∙ is)
  ]
  slots_now (Elem o i) u is = elim (eqb_tells o k) as (λ _. value_in s.store (Elem o i) ≡ u) [
    | inl same ↦ let none = w.no_elements i in let there = rw same.1 at is in let never : Absent ≡ Some u = sym none ∙ there in cc
    | inr other ↦ a.slots (Elem o i) u (sym (w.others.slots (Elem o i) other.0) ∙ is)
  ]

  unmade_now : (n : ℕ) → m.events + 1 ≤ n → IsUnmade h s.store n
  unfolding is_part
  unmade_now n le =
      let before = a.unmade n (omega (arith, le)) in
      let differs : n ≢ k = λ same. absurd (omega (arith, same, number, le)) in
      let apart : nat_eq n k ≡ false = not_same n k differs in
      record {
        no_code = w.others.codes n differs ∙ before.no_code;
        no_size = w.others.sizes n differs ∙ before.no_size;
        no_text = w.others.texts n differs ∙ before.no_text;
        no_field = λ f. w.others.slots (Field n f) apart ∙ before.no_field f;
        no_element = λ i. w.others.slots (Elem n i) apart ∙ before.no_element i;
        fresh_field = before.fresh_field;
        fresh_element = before.fresh_element;
      }

  newest_is : event_in (the_text ∷ s.noted) k ≡ Some the_text.event
  newest_is = rw same_number (newest_event the_text s.noted)

  other_is : (n : ℕ) → n ≢ k → event_in (the_text ∷ s.noted) n ≡ event_in s.noted n
  other_is n differs = older_event the_text s.noted n (λ same. differs (same ∙ sym same_number))

  codes_now : HasCodes (the_text ∷ s.noted) h
  codes_now n c is = elim (eqb_tells n k) as (λ _. type_in (event_in (the_text ∷ s.noted) n) ≡ type_of_code c) [
    | inl same ↦ let none = w.code in let there = rw same.1 at is in let never : Absent ≡ Some c = sym none ∙ there in cc
    | inr other ↦ ap type_in (other_is n other.1) ∙ a.codes n c (sym (w.others.codes n other.1) ∙ is)
  ]

  sizes_now : HasSizes (the_text ∷ s.noted) h
  sizes_now n z is = elim (eqb_tells n k) as (λ _. length_in (event_in (the_text ∷ s.noted) n) ≡ z) [
    | inl same ↦ let none = w.size in let there = rw same.1 at is in let never : Absent ≡ Some z = sym none ∙ there in cc
    | inr other ↦ ap length_in (other_is n other.1) ∙ a.sizes n z (sym (w.others.sizes n other.1) ∙ is)
  ]

  texts_now : HasTexts (the_text ∷ s.noted) h
  unfolding units_in next_event spelling
  texts_now n ys is = elim (eqb_tells n k) as (λ _. units_in (event_in (the_text ∷ s.noted) n) ≡ ys) [
    | inl same ↦ let there = rw same.1 at is in let these : Some xs ≡ Some ys = sym w.text ∙ there in rw same.1 (ap units_in newest_is ∙ let got : xs ≡ ys = cc in got)
    | inr other ↦ ap units_in (other_is n other.1) ∙ a.texts n ys (sym (w.others.texts n other.1) ∙ is)
  ]

  pub text_made : Agrees p (record (with_record (spelling site xs) us m) { heap = h }) (with_event the_text s)
  unfolding with_event is_init_of next_event spelling
  text_made = one_more p m s a (spelling site xs) (given Nothing us) h s.store a.locals a.fresh_locals (w.others.same_plan ∙ a.same_plan) slots_now
      (λ f un. a.fresh_statics f (sym (w.others.classes _) ∙ un)) unmade_now codes_now sizes_now texts_now
      (λ c. no_init the_text s.noted c refl ∙ a.begun c ∙ sym (w.others.classes c))

module _ (p : Program) (m : Shape) (site : ℕ) (xs : List ℕ) (us : List Use) where
  pub no_units_left : unit_limit < m.units + length xs → Onward p m (make_text site xs us) m (stop UnitLimit)
  unfolding take_units choose stop ◌>>=◌ ◌>>◌ go_on
  no_units_left full = record {
    from = λ s a.
        let above : nat_le (s.units + length xs) unit_limit ≡ false = rw a.units (lt-leb (m.units + length xs) unit_limit full) in
        record { state = s; agrees = a; is = rw above refl };
    same = refl;
  }

  module _ (fits : m.units + length xs ≤ unit_limit) (x : ℕ) (taken : x ≡ m.units + length xs) where
    units_taken : Onward p m (make_text site xs us) (record m { units = x }) (note (spelling site xs) (given Nothing us))
    unfolding take_units with_units choose ◌>>=◌ ◌>>◌ go_on
    units_taken = record {
      from = λ s a.
          let has : nat_le (s.units + length xs) unit_limit ≡ true = rw a.units (le-leb (m.units + length xs) unit_limit fits) in
          record { state = record s { units = s.units + length xs }; agrees = with_more_units p m s x (s.units + length xs) (ap (λ k. k + length xs) a.units ∙ sym taken) a; is = rw has refl };
      same = refl;
    }

    pub text_refused : (n : Shape) (e : Halt) → Refusing us e (record m { units = x }) n → StepGives p made_of (Err e) m (make_text site xs us) n
    text_refused n e h = answers_then made_of p e m (record m { units = x }) n _ _ units_taken (note_refused p (record m { units = x }) (spelling site xs) Nothing us made_of n e h)

    text_goes : (n : Shape) (k : ℕ) (h : Heap) → k ≡ m.events → m.events < event_limit → m.uses + length us ≤ use_limit → MakesText k xs m.heap h →
        n ≡ record (with_record (spelling site xs) us (record m { units = x })) { heap = h } → Onward p (record m { units = x }) (note (spelling site xs) (given Nothing us)) n (return (made_of k))
    unfolding note noting made return
    text_goes n k h number few room w is = rw is (record {
      from = λ s a. record {
        state = with_event (the_text p (record m { units = x }) s a site xs us k number h w) s;
        agrees = text_made p (record m { units = x }) s a site xs us k number h w;
        is = rw (in_room p (record m { units = x }) (spelling site xs) Nothing us s a (noting (spelling site xs) (given Nothing us)) few room, number, ← a.events) refl;
      };
      same = refl;
    })

    pub text_noted : (n : Shape) (k : ℕ) (h : Heap) (d : Drafted) → draft_of d xs ≡ spelling site xs → (k ≡ m.events) × (m.events < event_limit) × (m.uses + length us ≤ use_limit) × (n ≡ with_record (draft_of d xs) us (record m { units = x })) →
        (ys : List ℕ) → ys ≡ xs → MakesText k ys n.heap h → Onward p m (make_text site xs us) (record n { heap = h }) (return (made_of k))
    text_noted n k h d same r ys are w =
        let made_here : MakesText k xs m.heap h = subst (λ g. MakesText k xs g h) (ap (λ (y : Shape). y.heap) r.3) (subst (λ zs. MakesText k zs n.heap h) are w) in
        let shaped : record n { heap = h } ≡ record (with_record (spelling site xs) us (record m { units = x })) { heap = h } = ap (λ (y : Shape). record y { heap = h }) (r.3 ∙ ap (λ e. with_record e us (record m { units = x })) same) in
        onward_then units_taken (text_goes (record n { heap = h }) k h r.0 r.1 r.2 made_here shaped)

-- the draft of a Text
pub drafted_text : (site : ℕ) (xs : List ℕ) → draft_of (record { kind = kinds.Text; site = site; entity = 4294967295; slot = slot.None; value = Nothing }) xs ≡ spelling site xs
unfolding spelling
drafted_text site xs = rw present_none refl
