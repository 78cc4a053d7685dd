-- An Init makes its class: its static fields hold their defaults.
use Rattle.std.proofs.Common.{◌≡◌, ◌≢◌, ◌≤◌, ◌<◌, ◌∙◌, ℕ, ◌+◌, List, [], ◌∷◌, length, Bool, true, false, Option, Some, refl, sym, ap, subst, arith, inl, inr, eq-eqb}
use Rattle.std.specs.Prelude.{None as Absent, ◌&&◌, nat_eq, if◌then◌else◌}
use Rattle.std.proofs.lemmas.Bool.Decides.{eqb_tells}
use Rattle.wy_kernel.specs.Program.{Program}
use Rattle.wy_value.specs.declared.value.Value.{Value}
use Rattle.wy_value.specs.declared.value.Value.TheVariants.{None as Nothing}
use Rattle.wy_event.specs.declared.record.Slot.{Slot}
use Rattle.wy_event.specs.declared.record.Slot.TheVariants.{Local, Static, Field, Elem}
use Rattle.wy_event.specs.declared.record.Slot.TheVariants as slot
use Rattle.wy_event.specs.declared.record.Kind.TheVariants as kinds
use Rattle.wy_event.specs.declared.record.Use.{Use}
use Rattle.wy_event.specs.Sources.{creates, creates_as, is_entity}
use Rattle.wy_steps.specs.Sets.{nothing}
use Rattle.wy_steps.specs.State.{Noted, State, Store, Held, return}
use Rattle.wy_kernel.specs.Limits.{event_limit, use_limit}
use Rattle.wy_steps.specs.Steps.{creating, default_in, has_init, held_by, held_of, if_empty, is_init_of, made, next_event, note_new, owner_in, with_created, with_event}
use Rattle.wy_meaning.specs.World.{about}
use Rattle.wy_heap.specs.declared.heap.Heap.{Heap}
use Rattle.wy_heap.specs.Heap.{held, is_made, plan}
use Rattle.wy_heap.specs.Plan.{Plan, first_of, field_at, is_static_of}
use Rattle.wy_heap.specs.Changes.{MakesClass, is_static_slot}
use Rattle.wy_heap.proofs.Plans.{class-is_owner, first-is_default}
use Rattle.wy_state.specs.Agrees.{Shape, Agrees, Onward, HasSlots, HasFreshStatics, IsUnmade, value_in, with_record}
use Rattle.wy_state.specs.declared.parts.Draft.{Draft as Drafted}
use Rattle.wy_state.specs.Seen.{draft_of, given, made_of}
use Rattle.wy_state.proofs.Makers.{not_same}
use Rattle.wy_state.proofs.Numbers.{present_some}
use Rattle.wy_state.proofs.Records.{codes_stay, in_room, no_init, one_more, sizes_stay, texts_stay}
use Rattle.wy_state.proofs.Statics.{static_is_made}

and_right : (b c : Bool) → b && c ≡ true → c ≡ true
and_right true c is = is
and_right false c is = cc

true_false : true ≡ false → ⊥
true_false is = cc

same_number : (a b : ℕ) → nat_eq a b ≡ true → a ≡ b
same_number a b is = elim (eqb_tells a b) as (λ _. a ≡ b) [
  | inl same ↦ same.1
  | inr other ↦ absurd (true_false (sym is ∙ other.0))
]

its_class : (pl : Plan) (c f : ℕ) → is_static_of pl c f ≡ true → (field_at pl.fields f).class ≡ c
unfolding is_static_of
its_class pl c f is = same_number _ c (and_right (field_at pl.fields f).is_static _ is)

some_same : {u v : Value} → Some u ≡ Some v → u ≡ v
some_same is = cc

module _ (p : Program) (m : Shape) (s : State nothing) (a : Agrees p m s) (site c : ℕ) (h : Heap) (new : is_made m.heap c ≡ false) (w : MakesClass c m.heap h) where
  abbrev pub the_init : Noted nothing
  the_init = next_event (about kinds.Init site c Nothing) (given Nothing []) s

  abbrev pub init_store : Store nothing
  init_store = λ y. if_empty (s.store y) (if creates (owner_in p) (length s.noted) y the_init.event then Some (held_by (default_in p the_init.event y) the_init) else Absent)

  kept : (y : Slot) → creates (owner_in p) (length s.noted) y the_init.event ≡ false → init_store y ≡ s.store y
  unfolding if_empty
  kept y un = cases (s.store y) refl
    where
      cases : (o : Option (Held nothing)) → s.store y ≡ o → init_store y ≡ s.store y
      cases (Some x) is = rw is refl
      cases Absent is = rw (is, un) refl

  of_static : (f : ℕ) → creates (owner_in p) (length s.noted) (Static f) the_init.event ≡ nat_eq c (owner_in p f)
  unfolding creates creates_as is_entity next_event about
  of_static f = refl

  of_local : (f i : ℕ) → creates (owner_in p) (length s.noted) (Local f i) the_init.event ≡ false
  unfolding creates creates_as next_event about
  of_local f i = refl

  of_field : (o f : ℕ) → creates (owner_in p) (length s.noted) (Field o f) the_init.event ≡ false
  unfolding creates creates_as next_event about
  of_field o f = refl

  of_element : (o i : ℕ) → creates (owner_in p) (length s.noted) (Elem o i) the_init.event ≡ false
  unfolding creates creates_as next_event about
  of_element o i = refl

  -- a static field of the class has its first value now
  static_here : (f : ℕ) → c ≡ owner_in p f → value_in init_store (Static f) ≡ first_of (plan m.heap) f
  unfolding if_empty held_of held_by default_in
  static_here f own =
      let none : s.store (Static f) ≡ Absent = a.fresh_statics f (rw (← own) new) in
      let made_by : creates (owner_in p) (length s.noted) (Static f) the_init.event ≡ true = of_static f ∙ rw (← own) (eq-eqb c c refl) in
      rw (value_in, none, made_by) (sym (ap (λ pl. first_of pl f) a.same_plan ∙ first-is_default p f))

  own_of_plan : (f : ℕ) → (field_at (plan m.heap).fields f).class ≡ owner_in p f
  own_of_plan f = ap (λ pl. (field_at pl.fields f).class) a.same_plan ∙ class-is_owner p f

  slots_now : HasSlots init_store h
  unfolding held is_static_slot
  slots_now (Local f i) u is = cc
  slots_now slot.None u is = cc
  slots_now (Field o f) u is = ap (λ x. (held_of x).value) (kept (Field o f) (of_field o f)) ∙ a.slots (Field o f) u (sym (w.slots (Field o f) refl) ∙ is)
  slots_now (Elem o i) u is = ap (λ x. (held_of x).value) (kept (Elem o i) (of_element o i)) ∙ a.slots (Elem o i) u (sym (w.slots (Elem o i) refl) ∙ is)
  slots_now (Static f) u is = cases (is_static_of (plan m.heap) c f) refl
    where
      -- a slot that isn't one of the class holds what it held, and one of the class held nothing
      before : is_static_of (plan m.heap) c f ≡ false → (b : Bool) → nat_eq c (owner_in p f) ≡ b → value_in init_store (Static f) ≡ u
      before unowned true same =
          let own : c ≡ owner_in p f = same_number c (owner_in p f) same in
          let begun : is_made m.heap (owner_in p f) ≡ true = static_is_made p m.heap a.same_plan f u (sym (sym (w.slots (Static f) unowned) ∙ is)) in
          absurd (true_false (sym begun ∙ rw (← own) new))
      before unowned false other = ap (λ x. (held_of x).value) (kept (Static f) (of_static f ∙ other)) ∙ a.slots (Static f) u (sym (w.slots (Static f) unowned) ∙ is)

      cases : (b : Bool) → is_static_of (plan m.heap) c f ≡ b → value_in init_store (Static f) ≡ u
      cases true owned =
          let own : c ≡ owner_in p f = sym (its_class (plan m.heap) c f owned) ∙ own_of_plan f in
          static_here f own ∙ some_same (sym (w.statics f owned new) ∙ is)
      cases false unowned = before unowned (nat_eq c (owner_in p f)) refl

  fresh_now : HasFreshStatics p init_store h
  fresh_now f un =
      let differs : owner_in p f ≢ c = λ same. true_false (sym w.made ∙ rw (← same) un) in
      kept (Static f) (of_static f ∙ not_same c (owner_in p f) (λ same. differs (sym same))) ∙ a.fresh_statics f (sym (w.classes (owner_in p f) differs) ∙ un)

  unmade_now : (n : ℕ) → m.events + 1 ≤ n → IsUnmade h init_store n
  unfolding is_static_slot
  unmade_now n le =
      let before = a.unmade n (omega (arith, le)) in
      record {
        no_code = w.codes n ∙ before.no_code;
        no_size = w.sizes n ∙ before.no_size;
        no_text = w.texts n ∙ before.no_text;
        no_field = λ f. w.slots (Field n f) refl ∙ before.no_field f;
        no_element = λ i. w.slots (Elem n i) refl ∙ before.no_element i;
        fresh_field = λ f. kept (Field n f) (of_field n f) ∙ before.fresh_field f;
        fresh_element = λ i. kept (Elem n i) (of_element n i) ∙ before.fresh_element i;
      }

  begun_now : (k : ℕ) → has_init k (the_init ∷ s.noted) ≡ is_made h k
  unfolding has_init is_init_of is_entity next_event about
  begun_now k = elim (eqb_tells k c) as (λ _. has_init k (the_init ∷ s.noted) ≡ is_made h k) [
    | inl same ↦ rw same.1 (rw (eq-eqb c c refl) (sym w.made))
    | inr other ↦ no_init the_init s.noted k (not_same c k (λ same. other.1 (sym same))) ∙ a.begun k ∙ sym (w.classes k other.1)
  ]

  pub class_made : Agrees p (record (with_record (about kinds.Init site c Nothing) [] m) { heap = h }) (with_created p (length s.noted) the_init (with_event the_init s))
  unfolding with_created with_event
  class_made = one_more p m s a (about kinds.Init site c Nothing) (given Nothing []) h init_store
      (λ f i u is. ap (λ o. (held_of o).value) (kept (Local f i) (of_local f i)) ∙ a.locals f i u is)
      (λ f i le. kept (Local f i) (of_local f i) ∙ a.fresh_locals f i le)
      (w.same_plan ∙ a.same_plan) slots_now fresh_now unmade_now
      (λ n k is. codes_stay p m s a (about kinds.Init site c Nothing) (given Nothing []) n k (sym (w.codes n) ∙ is))
      (λ n k is. sizes_stay p m s a (about kinds.Init site c Nothing) (given Nothing []) n k (sym (w.sizes n) ∙ is))
      (λ n k is. texts_stay p m s a (about kinds.Init site c Nothing) (given Nothing []) n k (sym (w.texts n) ∙ is))
      begun_now

module _ (p : Program) (m n : Shape) (site c k : ℕ) (d : Drafted) (units : List ℕ) (empty : units ≡ [])
    (r : (k ≡ m.events) × (m.events < event_limit) × (m.uses + length {A = Use} [] ≤ use_limit) × (n ≡ with_record (draft_of d units) [] m)) (h : Heap) where
  same_heap : n.heap ≡ m.heap
  same_heap = ap (λ (x : Shape). x.heap) r.3

  as_drafted : draft_of d [] ≡ about kinds.Init site c Nothing → record n { heap = h } ≡ record (with_record (about kinds.Init site c Nothing) [] m) { heap = h }
  as_drafted same = ap (λ (x : Shape). record x { heap = h }) (r.3 ∙ ap (λ xs. with_record (draft_of d xs) [] m) empty ∙ ap (λ x. with_record x [] m) same)

  pub init_noted : draft_of d [] ≡ about kinds.Init site c Nothing → is_made m.heap c ≡ false → MakesClass c n.heap h →
      Onward p m (note_new p (about kinds.Init site c Nothing) (given Nothing [])) (record n { heap = h }) (return (made_of k))
  unfolding note_new creating made return next_event about
  init_noted same new w = rw (as_drafted same) (record {
    from = λ s a. record {
      state = with_created p (length s.noted) (the_init p m s a site c h new (subst (λ g. MakesClass c g h) same_heap w)) (with_event (the_init p m s a site c h new (subst (λ g. MakesClass c g h) same_heap w)) s);
      agrees = class_made p m s a site c h new (subst (λ g. MakesClass c g h) same_heap w);
      is = rw (in_room p m (about kinds.Init site c Nothing) Nothing [] s a (creating p (about kinds.Init site c Nothing) (given Nothing [])) r.1 r.2, r.0, ← a.events) refl;
    };
    same = refl;
  })

-- the draft of an Init of a class
pub drafted_init : (site c : ℕ) → c ≢ 4294967295 → draft_of (record { kind = kinds.Init; site = site; entity = c; slot = slot.None; value = Nothing }) [] ≡ about kinds.Init site c Nothing
unfolding about
drafted_init site c low = rw (present_some c low) refl
