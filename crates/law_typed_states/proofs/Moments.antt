-- What is known at a moment of a run, by its events, is known from then on.
use Rattle.std.proofs.Common.{◌≡◌, ◌<◌, arith, ℕ, suc, Bool, true, false, List, [], ◌∷◌, length, ◌⊎◌, inl, inr, Option, Some, refl, ap}
use Rattle.std.specs.Prelude.{None as Absent}
use Rattle.std.specs.Prelude.{nat_eq, ◌&&◌, if◌then◌else◌}
use Rattle.std.proofs.lemmas.Bool.{eqb-true, eq-eqb}
use Rattle.wy_kernel.specs.declared.types.Ty.{Ty}
use Rattle.wy_kernel.specs.Program.{Program}
use Rattle.wy_value.specs.declared.value.Value.{Value}
use Rattle.wy_value.specs.declared.value.Value.TheVariants as val
use Rattle.wy_event.specs.declared.record.Kind.{Kind}
use Rattle.wy_event.specs.declared.record.Kind.TheVariants as kind
use Rattle.wy_event.specs.declared.record.Slot.{Slot}
use Rattle.wy_event.specs.declared.record.Slot.TheVariants as slot
use Rattle.wy_event.specs.Record.{Recorded, same_slot}
use Rattle.wy_event.specs.Sources.{is_entity}
use Rattle.wy_steps.specs.Sets.{Sets}
use Rattle.wy_steps.specs.State.{Noted}
use Rattle.wy_steps.specs.Steps.{Draft, Made, event_in, is_init_of, has_init}
use Rattle.law_induction.specs.Law.{FrameKind, Moments}
use Rattle.law_typed_states.specs.Typed.{Is, Runs, LacksValue, FitsSlot}

some_same : {X : Type 0} {x y : X} → Some x ≡ Some y → x ≡ y
some_same e = cc e

init_is : (c : ℕ) (k : Kind) (entity : Option ℕ) → is_init_of c k entity ≡ true → (k ≡ kind.Init) × (entity ≡ Some c)
unfolding is_init_of is_entity
init_is c kind.Init (Some n) e = (refl, ap Some (eqb-true n c e))
init_is c kind.Init Absent e = absurd (cc e)
init_is c _ entity e = absurd (cc e)

module _ {A : Sets} where
  -- the events of the first are among those of the second, at their numbers
  abbrev pub Later : List (Noted A) → List (Noted A) → Type 0
  Later m n = (k : ℕ) (e : Recorded) → event_in m k ≡ Some e → event_in n k ≡ Some e

  below_length : (noted : List (Noted A)) (k : ℕ) (e : Recorded) → event_in noted k ≡ Some e → k < length noted
  unfolding event_in
  below_length [] k e h = absurd (cc h)
  below_length (x ∷ rest) k e h = go (nat_eq k (length rest)) refl (below_length rest k e) h
    where
      go : (b : Bool) → nat_eq k (length rest) ≡ b → (event_in rest k ≡ Some e → k < length rest) → (if b then Some x.event else event_in rest k) ≡ Some e → k < suc (length rest)
      go true q f h = let l : k ≡ length rest = eqb-true k (length rest) q in omega (arith, l)
      go false q f h = let l = f h in omega (arith, l)

  -- with one event more
  pub later_one : (x : Noted A) (rest : List (Noted A)) → Later rest (x ∷ rest)
  unfolding event_in
  later_one x rest k e h = go (nat_eq k (length rest)) refl
    where
      go : (b : Bool) → nat_eq k (length rest) ≡ b → (if b then Some x.event else event_in rest k) ≡ Some e
      go true q = let l = below_length rest k e h in let m : k ≡ length rest = eqb-true k (length rest) q in absurd (omega (arith, l, m))
      go false q = h

  pub newest_there : (x : Noted A) (rest : List (Noted A)) → event_in (x ∷ rest) (length rest) ≡ Some x.event
  unfolding event_in
  newest_there x rest = ap (λ b. if b then Some x.event else event_in rest (length rest)) (eq-eqb (length rest) (length rest) refl)

  -- an event of the longer list is the newest, or one that was there
  pub one_of_longer : (x : Noted A) (rest : List (Noted A)) (k : ℕ) (e : Recorded) → event_in (x ∷ rest) k ≡ Some e → ((k ≡ length rest) × (x.event ≡ e)) ⊎ (event_in rest k ≡ Some e)
  unfolding event_in
  one_of_longer x rest k e h = go (nat_eq k (length rest)) refl h
    where
      go : (b : Bool) → nat_eq k (length rest) ≡ b → (if b then Some x.event else event_in rest k) ≡ Some e → ((k ≡ length rest) × (x.event ≡ e)) ⊎ (event_in rest k ≡ Some e)
      go true q h = inl (eqb-true k (length rest) q, some_same h)
      go false q h = inr h

  -- ---- what is known of events

  pub record IsObject (n : List (Noted A)) (k : ℕ) : Type 0 where
    pub event : Recorded
    pub there : event_in n k ≡ Some event
    pub is_new : event.kind ≡ kind.New

  pub record Begun (n : List (Noted A)) (c : ℕ) : Type 0 where
    pub number : ℕ
    pub event : Recorded
    pub there : event_in n number ≡ Some event
    pub is_init : event.kind ≡ kind.Init
    pub of_class : event.entity ≡ Some c

  -- the event of a draft
  pub record MadeAs (n : List (Noted A)) (d : Draft) (e : Made A) : Type 0 where
    pub event : Recorded
    pub there : event_in n e.number ≡ Some event
    pub kind : event.kind ≡ d.kind
    pub entity : event.entity ≡ d.entity

  pub begun_where : (c : ℕ) (n : List (Noted A)) → has_init c n ≡ true → Begun n c
  unfolding has_init
  begun_where c [] e = absurd (cc e)
  begun_where c (x ∷ rest) e = go (is_init_of c x.event.kind x.event.entity) refl e (begun_where c rest)
    where
      go : (b : Bool) → is_init_of c x.event.kind x.event.entity ≡ b → (if b then true else has_init c rest) ≡ true → (has_init c rest ≡ true → Begun rest c) → Begun (x ∷ rest) c
      go true q e f = let h = init_is c _ _ q in record { number = length rest; event = x.event; there = newest_there x rest; is_init = h.0; of_class = h.1 }
      go false q e f = let h = f e in record { number = h.number; event = h.event; there = later_one x rest h.number h.event h.there; is_init = h.is_init; of_class = h.of_class }

  pub object_up : (m n : List (Noted A)) (k : ℕ) → Later m n → IsObject m k → IsObject n k
  object_up m n k le h = record { event = h.event; there = le k h.event h.there; is_new = h.is_new }

  pub begun_up : (m n : List (Noted A)) (c : ℕ) → Later m n → Begun m c → Begun n c
  begun_up m n c le h = record { number = h.number; event = h.event; there = le h.number h.event h.there; is_init = h.is_init; of_class = h.of_class }

  pub made_up : (m n : List (Noted A)) (d : Draft) (e : Made A) → Later m n → MadeAs m d e → MadeAs n d e
  made_up m n d e le h = record { event = h.event; there = le e.number h.event h.there; kind = h.kind; entity = h.entity }

  pub runs_up : (m n : List (Noted A)) (f : ℕ) (i : FrameKind) → Later m n → Runs m f i → Runs n f i
  runs_up m n f i le h = record { event = h.event; there = le f h.event h.there; runs = h.runs }

  module _ (p : Program) where
    pub is_up : (m n : List (Noted A)) (ty : Ty) (v : Value) → Later m n → Is p m ty v → Is p n ty v
    is_up m n ty (val.Object k) le h = record { event = h.event; there = le k h.event h.there; is_new = h.is_new; stands = h.stands }
    is_up m n ty _ le h = h

    or_up : (m n : List (Noted A)) (ty : Ty) (v : Value) → Later m n → LacksValue v ⊎ Is p m ty v → LacksValue v ⊎ Is p n ty v
    or_up m n ty v le (inl e) = inl e
    or_up m n ty v le (inr h) = inr (is_up m n ty v le h)

    pub fits_up : (m n : List (Noted A)) (x : Slot) (v : Value) → Later m n → FitsSlot p m x v → FitsSlot p n x v
    fits_up m n slot.None v le h = tt
    fits_up m n (slot.Local f k) v le h = record { body = h.body; runs = runs_up m n f h.body le h.runs; typed = λ ty e. or_up m n ty v le (h.typed ty e) }
    fits_up m n (slot.Static k) v le h = λ f e. is_up m n f.ty v le (h f e)
    fits_up m n (slot.Field o k) v le h = λ f e. is_up m n f.ty v le (h f e)
    fits_up m n (slot.Elem a i) v le h = record { array = h.array; there = le a h.array h.there; typed = is_up m n _ v le h.typed }

abbrev pub by_events : Sets → Moments
by_events A = record { moment = List (Noted A); later = Later }

-- ---- slots

both_true : (a b : Bool) → (a && b) ≡ true → (a ≡ true) × (b ≡ true)
both_true true b e = (refl, e)
both_true false b e = absurd (cc e)

pub slot_is : (x y : Slot) → same_slot x y ≡ true → x ≡ y
unfolding same_slot
slot_is (slot.Local f i) (slot.Local g j) e = let h = both_true _ _ e in let a : f ≡ g = eqb-true f g h.0 in let b : i ≡ j = eqb-true i j h.1 in cc (a, b)
slot_is (slot.Static f) (slot.Static g) e = ap (λ k. slot.Static k) (eqb-true f g e)
slot_is (slot.Field o f) (slot.Field q g) e = let h = both_true _ _ e in let a : o ≡ q = eqb-true o q h.0 in let b : f ≡ g = eqb-true f g h.1 in cc (a, b)
slot_is (slot.Elem a i) (slot.Elem b j) e = let h = both_true _ _ e in let c : a ≡ b = eqb-true a b h.0 in let d : i ≡ j = eqb-true i j h.1 in cc (c, d)
slot_is _ _ e = absurd (cc e)
