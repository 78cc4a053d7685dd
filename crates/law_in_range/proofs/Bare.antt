-- What parts of a run that evaluate nothing do to what is in range, as rules that a goal determines.
use Rattle.std.proofs.Common.{◌≡◌, ◌<◌, ◌≤◌, arith, ℕ, zero, suc, Bool, true, false, List, [], ◌∷◌, ◌++◌, length, Option, Some, refl, sym, ap, ◌∙◌, subst, append-nil}
use Rattle.std.specs.Prelude.{None as Absent}
use Rattle.std.specs.Prelude.{◌+◌, nat_lt, nat_le, if◌then◌else◌}
use Rattle.std.specs.List.{AllByRecursion}
use Rattle.std.proofs.lemmas.Bool.{leb-true}
use Rattle.wy_kernel.specs.declared.operator.Primitive.{Primitive}
use Rattle.wy_kernel.specs.declared.operator.Primitive.TheVariants as prim
use Rattle.wy_kernel.specs.declared.types.Base.TheVariants.{Primitive as Basic, Class as Named}
use Rattle.wy_kernel.specs.declared.types.Ty.{Ty}
use Rattle.wy_kernel.specs.declared.types.Ty.TheVariants.{Void, Null as OfNull, Of}
use Rattle.wy_kernel.specs.Program.{Program, field, fixed_text, element_type, type_of_code}
use Rattle.wy_value.specs.declared.value.Value.{Value}
use Rattle.wy_value.specs.declared.value.Value.TheVariants as val
use Rattle.wy_value.specs.Encoding.{utf8_of}
use Rattle.wy_event.specs.declared.record.Kind.{Kind}
use Rattle.wy_event.specs.declared.record.Kind.TheVariants as kind
use Rattle.wy_event.specs.declared.record.Slot.{Slot}
use Rattle.wy_event.specs.declared.record.Slot.TheVariants as slot
use Rattle.wy_event.specs.Record.{Recorded, same_slot}
use Rattle.wy_event.specs.Sources.{creates}
use Rattle.wy_steps.specs.State.{Held, Store, Noted, Reach, Stop, EventLimit, UseLimit, UnitLimit, OutputLimit, Reason, Outcome, Done, Left, Stopped, Run, go_on, ◌>>=◌, ◌>>◌, return, leave, stop, choose}
use Rattle.wy_kernel.specs.Limits.{event_limit, use_limit, element_limit, unit_limit, output_limit}
use Rattle.wy_steps.specs.Steps.{Draft, Made, made, pay, tick, steps_left, frame, event_at, is_begun, held_of, no_value, read, declare, code_of, event_in, next_event, with_event, held_by, slot_with, with_stored, default_primitive, default_value, default_in, owner_in, if_empty, with_created, room_for, noting, note, writing, note_write, creating, note_new, with_active, entered, go_in, activating, with_elements, take_elements, with_units, take_units, room_for_output, write_out, take_byte, next_byte}
use Rattle.wy_meaning.specs.World.{World, plain, spelling, units_of}
use Rattle.wy_meaning.specs.Text.{spelled_as, line_end, print}
use Rattle.wy_meaning.specs.Run.{end}
use Rattle.law_induction.specs.Law.{nothing, both, Entails, FrameKind, Region, In}
use Rattle.law_induction.proofs.Rules.{before, same}
use Rattle.law_typed_states.proofs.Moments.{Later, later_one, newest_there, MadeAs}
use Rattle.law_typed_states.proofs.Law.{current, event, Standing, standing_up}
use Rattle.law_typed_states.proofs.Rules.{Ground, A, p, Known}
use Rattle.law_in_range.specs.InRange.{Text, Events, IsSite, FixedInRange, IsPrinted, InRange, IsByteOf, IsQuiet, units_seen, written_as, written_by, made_as}
use Rattle.law_in_range.proofs.Facts.{S, C, Moment, always, Fine, fine, spotted, fair, Drafted, drafted, AllInRange, StoreInRange, written_before, written_one, Taken, Inv}

module _ (G : Ground) (W : Text) (J : ℕ → Type 0) where
  abbrev Ok : S G W → Type 0
  Ok s = Inv G W s

  abbrev pub Given : {X : Type 0} → (X → Known G) → Outcome (A G) X → Type 0
  Given Q (Done x t) = (Q x).holds t.noted
  Given Q (Left why t) = (fair G W J why).holds t.noted
  Given Q (Stopped why t) = Unit {0}

  -- from the state to an outcome in the same body, with all that is known in range
  pub record Comes {X : Type 0} (s : S G W) (Q : X → Known G) (o : Outcome (A G) X) : Type 0 where
    pub later : Later s.noted (end o).noted
    pub frame : (end o).frame ≡ s.frame
    pub inv : Inv G W (end o)
    pub given : Given Q o

  -- where P is known the run keeps what is in range, whatever types say, and Q is known of what it gives
  pub record Bare (r : Region) {X : Type 0} (P : Known G) (m : Run (A G) X) (Q : X → Known G) : Type 0 where
    pub by : (s : S G W) → Standing (A G) (p G) r s → P.holds s.noted → Ok s → Comes s Q (m s)

  -- ---- putting together

  pub onward : {Y : Type 0} (s t : S G W) (Q : Y → Known G) (o : Outcome (A G) Y) → Later s.noted t.noted → t.frame ≡ s.frame → Comes t Q o → Comes s Q o
  onward s t Q o le f c = record { later = λ k e h. c.later k e (le k e h); frame = c.frame ∙ f; inv = c.inv; given = c.given }

  gone_on : {r : Region} {X Y : Type 0} (P : Known G) (Q : X → Known G) (R : Y → Known G) (s : S G W) (o : Outcome (A G) X) (f : X → Run (A G) Y) → Standing (A G) (p G) r s → P.holds s.noted → Comes s Q o → ((x : X) → Bare r (both P (Q x)) (f x) R) → Comes s R (go_on o f)
  unfolding go_on both end
  gone_on {r = r} P Q R s (Done x t) f st k c l = onward s t R (f x t) c.later c.frame ((l x).by t (standing_up (A G) (p G) r s t c.later c.frame st) (P.up _ _ c.later k, c.given) c.inv)
  gone_on P Q R s (Left why t) f st k c l = record { later = c.later; frame = c.frame; inv = c.inv; given = c.given }
  gone_on P Q R s (Stopped why t) f st k c l = record { later = c.later; frame = c.frame; inv = c.inv; given = tt }

  pub bind : {r : Region} {X Y : Type 0} {P : Known G} {Q : X → Known G} {R : Y → Known G} {m : Run (A G) X} {f : X → Run (A G) Y} → Bare r P m Q → ((x : X) → Bare r (both P (Q x)) (f x) R) → Bare r P (m >>= f) R
  unfolding ◌>>=◌
  bind {P = P} {Q = Q} {R = R} {m = m} {f = f} h l = record { by = λ s st k i. gone_on P Q R s (m s) f st k (h.by s st k i) l }

  pub weaker : {r : Region} {X : Type 0} {P P' : Known G} {Q : X → Known G} {m : Run (A G) X} → Bare r P m Q → Entails P' P → Bare r P' m Q
  weaker h e = record { by = λ s st k i. h.by s st (e.by _ k) i }

  pub next : {r : Region} {X Y : Type 0} {P : Known G} {R : Y → Known G} {m : Run (A G) X} {f : X → Run (A G) Y} → Bare r P m (λ x. nothing) → ((x : X) → Bare r P (f x) R) → Bare r P (m >>= f) R
  next h l = bind h (λ x. weaker (l x) (before _ _ same))

  pub after : {r : Region} {Y : Type 0} {P : Known G} {Q : Unit {0} → Known G} {R : Y → Known G} {m : Run (A G) Unit} {k : Run (A G) Y} → Bare r P m Q → Bare r (both P (Q tt)) k R → Bare r P (m >> k) R
  unfolding ◌>>◌
  after h l = bind h (λ t. l)

  lesser : {X : Type 0} (P : Known G) (Q R : X → Known G) (s : S G W) (o : Outcome (A G) X) → P.holds s.noted → Comes s Q o → ((x : X) → Entails (both P (Q x)) (R x)) → Comes s R o
  unfolding both end
  lesser P Q R s (Done x t) k c e = record { later = c.later; frame = c.frame; inv = c.inv; given = (e x).by t.noted (P.up _ _ c.later k, c.given) }
  lesser P Q R s (Left why t) k c e = record { later = c.later; frame = c.frame; inv = c.inv; given = c.given }
  lesser P Q R s (Stopped why t) k c e = record { later = c.later; frame = c.frame; inv = c.inv; given = tt }

  pub gives_less : {r : Region} {X : Type 0} {P : Known G} {Q R : X → Known G} {m : Run (A G) X} → Bare r P m Q → ((x : X) → Entails (both P (Q x)) (R x)) → Bare r P m R
  gives_less {P = P} {Q = Q} {R = R} {m = m} h e = record { by = λ s st k i. lesser P Q R s (m s) k (h.by s st k i) e }

  here : {X : Type 0} (s : S G W) (Q : X → Known G) (o : Outcome (A G) X) → end o ≡ s → Ok s → Given Q o → Comes s Q o
  here s Q o e i g = record { later = subst (λ (u : S G W). Later s.noted u.noted) (sym e) (λ k r h. h); frame = ap (λ (u : S G W). u.frame) e; inv = subst (λ (u : S G W). Inv G W u) (sym e) i; given = g }

  pub gives : {r : Region} {X : Type 0} {P : Known G} {Q : X → Known G} (x : X) → Entails P (Q x) → Bare r P (return x) Q
  unfolding return end
  gives x e = record { by = λ s st k i. here s _ _ refl i (e.by _ k) }

  pub leaves : {r : Region} {X : Type 0} {P : Known G} {Q : X → Known G} (why : Reason (A G)) → Entails P (fair G W J why) → Bare r P (leave why) Q
  unfolding leave end
  leaves why e = record { by = λ s st k i. here s _ _ refl i (e.by _ k) }

  pub stops : {r : Region} {X : Type 0} {P : Known G} {Q : X → Known G} (why : Stop) → Bare r P (stop why) Q
  unfolding stop end
  stops why = record { by = λ s st k i. here s _ _ refl i tt }

  pub either : {r : Region} {X : Type 0} {P : Known G} {Q : X → Known G} {m k : Run (A G) X} (c : Bool) → (c ≡ true → Bare r P m Q) → (c ≡ false → Bare r P k Q) → Bare r P (choose c m k) Q
  unfolding choose
  either true h l = h refl
  either false h l = l refl

  pub chooses : {r : Region} {X : Type 0} {P : Known G} {Q : X → Known G} {m k : Run (A G) X} (c : Bool) → Bare r P m Q → Bare r P k Q → Bare r P (choose c m k) Q
  chooses c h l = either c (λ e. h) (λ e. l)

  -- what is known at its beginning may be used
  pub where_at : {r : Region} {X : Type 0} {P : Known G} {Q : X → Known G} {m : Run (A G) X} → ((s : S G W) → P.holds s.noted → Bare r P m Q) → Bare r P m Q
  where_at f = record { by = λ s st k i. (f s k).by s st k i }

  -- ---- steps

  -- a state with the same events and output, in the same body
  quietly : {X : Type 0} (s t : S G W) (Q : X → Known G) (o : Outcome (A G) X) → end o ≡ t → t.noted ≡ s.noted → t.frame ≡ s.frame → t.output ≡ s.output → StoreInRange G W t.store → AllByRecursion IsByteOf t.input → Taken G W 0 s.noted t.units → Ok s → Given Q o → Comes s Q o
  quietly s t Q o e n f out st inp taken i g = record {
    later = subst (λ (u : S G W). Later s.noted u.noted) (sym e) (subst (λ (u : Moment G W). Later s.noted u) (sym n) (λ k r h. h));
    frame = ap (λ (u : S G W). u.frame) e ∙ f;
    inv = subst (λ (u : S G W). Inv G W u) (sym e) (record { noted = subst (λ (u : Moment G W). AllInRange G W u) (sym n) i.noted; store = st; input = inp; output = out ∙ i.output ∙ ap (λ (u : Moment G W). written_before G W u) (sym n); texts = subst (λ (u : Moment G W). Taken G W 0 u t.units) (sym n) taken });
    given = g;
  }

  paid : (n : ℕ) (s : S G W) → Ok s → Comes s (λ (t : Unit {0}). nothing) (pay n s)
  unfolding pay end
  paid zero s i = here s _ _ refl i tt
  paid (suc n) s i = quietly s (record s { left = n }) _ _ refl refl refl refl i.store i.input i.texts i tt

  pub ticks : {r : Region} {P : Known G} → Bare r P tick (λ t. nothing)
  unfolding tick
  ticks = record { by = λ s st k i. paid s.left s i }

  pub counts : {r : Region} {P : Known G} → Bare r P steps_left (λ n. nothing)
  unfolding steps_left end
  counts = record { by = λ s st k i. here s _ _ refl i tt }

  pub frames : {i : FrameKind} {P : Known G} → Bare (In i) P frame (current (A G) (p G) i)
  unfolding frame end current
  frames = record { by = λ s st k i. here s _ _ refl i st }

  pub looks : {r : Region} {P : Known G} (n : ℕ) (Q : Option Recorded → Known G) → ((s : S G W) (o : Option Recorded) → P.holds s.noted → Ok s → o ≡ event_in s.noted n → (Q o).holds s.noted) → Bare r P (event_at n) Q
  unfolding event_at end
  looks n Q h = record { by = λ s st k i. here s _ _ refl i (h s _ k i refl) }

  pub asks : {r : Region} {P : Known G} (c : ℕ) → Bare r P (is_begun c) (λ b. nothing)
  unfolding is_begun end
  asks c = record { by = λ s st k i. here s _ _ refl i tt }

  held_fixed : (store : Store (A G)) (x : Slot) → StoreInRange G W store → (o : Option (Held (A G))) → store x ≡ o → FixedInRange (p G) (held_of o).value
  unfolding held_of
  held_fixed store x h Absent e = tt
  held_fixed store x h (Some y) e = h x y e

  pub reads : {r : Region} {P : Known G} (x : Slot) → Entails P (spotted G W x) → Bare r P (read x) (fine G W)
  unfolding read end fine spotted
  reads x e = record { by = λ s st k i. here s _ _ refl i (held_fixed s.store x i.store (s.store x) refl, (e.by _ k, tt)) }

  emptied : (b : Bool) (o : Option (Held (A G))) (h : Held (A G)) → ((g : Held (A G)) → o ≡ Some g → FixedInRange (p G) g.value) → (if b then no_value o else o) ≡ Some h → FixedInRange (p G) h.value
  unfolding no_value
  emptied false o h i e = i h e
  emptied true Absent h i e = absurd (cc e)
  emptied true (Some g) h i e = subst (λ (z : Held (A G)). FixedInRange (p G) z.value) (let q : record g { value = val.None } ≡ h = cc e in q) tt

  pub declares : {r : Region} {P : Known G} (x : Slot) → Bare r P (declare x) (λ t. nothing)
  unfolding declare end
  declares x = record { by = λ s st k i. quietly s _ _ _ refl refl refl refl (λ y h e. emptied (same_slot y x) (s.store y) h (i.store y) e) i.input i.texts i tt }

  limited : {X : Type 0} (s : S G W) (Q : X → Known G) (b : Bool) (m k : Run (A G) X) → (b ≡ true → Comes s Q (m s)) → Comes s Q (k s) → Comes s Q (choose b m k s)
  unfolding choose
  limited s Q true m k h l = h refl
  limited s Q false m k h l = l

  few : (a n limit : ℕ) → nat_le (a + n) limit ≡ true → n ≤ limit
  few a n limit e = let h : a + n ≤ limit = leb-true (a + n) limit e in omega (arith, h)

  pub takes_elements : {r : Region} {P : Known G} (n : ℕ) → Bare r P (take_elements n) (λ t. always G W (n ≤ element_limit))
  unfolding take_elements with_elements stop end
  takes_elements n = record { by = λ s st k i. limited s _ (nat_le (s.elements + n) element_limit) (with_elements n) _ (λ e. quietly s _ _ _ refl refl refl refl i.store i.input i.texts i (few s.elements n element_limit e)) (here s _ _ refl i tt) }

  abbrev pub IsByteIn : Option ℕ → Type 0
  IsByteIn Absent = Unit {0}
  IsByteIn (Some b) = b < 256

  byte_taken : (bytes : List ℕ) (s : S G W) → AllByRecursion (IsByteOf) bytes → Ok s → Comes s (λ o. always G W (IsByteIn o)) (take_byte bytes s)
  unfolding take_byte end
  byte_taken [] s h i = here s _ _ refl i tt
  byte_taken (b ∷ rest) s h i = quietly s (record s { input = rest }) _ _ refl refl refl refl i.store h.1 i.texts i h.0

  pub takes_byte : {r : Region} {P : Known G} → Bare r P next_byte (λ o. always G W (IsByteIn o))
  unfolding next_byte
  takes_byte = record { by = λ s st k i. byte_taken s.input s i.input i }

  -- ---- events

  -- the state after an event of the draft
  pub record Added (d : Draft) (c : C G W) (s : S G W) (e : Made (A G)) (t : S G W) : Type 0 where
    pub noted : t.noted ≡ next_event d c s ∷ s.noted
    pub frame : t.frame ≡ s.frame
    pub input : t.input ≡ s.input
    pub output : t.output ≡ s.output
    pub units : t.units ≡ s.units
    pub number : e.number ≡ length s.noted
    pub store : StoreInRange G W s.store → FixedInRange (p G) d.value → StoreInRange G W t.store

  abbrev pub Adds : Draft → C G W → S G W → Outcome (A G) (Made (A G)) → Type 0
  Adds d c s (Done e t) = Added d c s e t
  Adds d c s (Left why t) = ⊥
  Adds d c s (Stopped why t) = t ≡ s

  chosen_adds : (d : Draft) (c : C G W) (s : S G W) (m k : Run (A G) (Made (A G))) (b : Bool) → Adds d c s (m s) → Adds d c s (k s) → Adds d c s (choose b m k s)
  unfolding choose
  chosen_adds d c s m k true h l = h
  chosen_adds d c s m k false h l = l

  room_adds : (d : Draft) (c : C G W) (s : S G W) (m : Run (A G) (Made (A G))) → Adds d c s (m s) → Adds d c s (room_for c m s)
  unfolding room_for stop
  room_adds d c s m h = chosen_adds d c s _ _ (nat_lt (length s.noted) event_limit) (chosen_adds d c s m _ (nat_le (s.uses + length c.uses) use_limit) h refl) refl

  pub note_adds : (d : Draft) (c : C G W) (s : S G W) → Adds d c s (note d c s)
  unfolding note noting with_event made
  note_adds d c s = room_adds d c s (noting d c) (record { noted = refl; frame = refl; input = refl; output = refl; units = refl; number = refl; store = λ h f. h })

  stored : (x : Slot) (new : Held (A G)) (old : Store (A G)) → StoreInRange G W old → FixedInRange (p G) new.value → StoreInRange G W (slot_with x new old)
  unfolding slot_with
  stored x new old h f y g e = go (same_slot y x) e
    where
      go : (b : Bool) → (if b then Some new else old y) ≡ Some g → FixedInRange (p G) g.value
      go true q = subst (λ (z : Held (A G)). FixedInRange (p G) z.value) (let w : new ≡ g = cc q in w) f
      go false q = h y g q

  pub write_adds : (d : Draft) (c : C G W) (s : S G W) → Adds d c s (note_write d c s)
  unfolding note_write writing with_event with_stored held_by made
  write_adds d c s = room_adds d c s (writing d c) (record { noted = refl; frame = refl; input = refl; output = refl; units = refl; number = refl; store = λ h f. stored d.slot _ s.store h f })

  default_of : (q : Primitive) → FixedInRange (p G) (default_primitive q)
  unfolding default_primitive
  default_of prim.Bool = tt
  default_of prim.Byte = tt
  default_of prim.Short = tt
  default_of prim.Char = tt
  default_of prim.Int = tt
  default_of prim.Long = tt

  default_of_type : (ty : Ty) → FixedInRange (p G) (default_value ty)
  unfolding default_value
  default_of_type (Of (Basic q) zero) = default_of q
  default_of_type (Of (Basic q) (suc n)) = tt
  default_of_type (Of (Named c) n) = tt
  default_of_type Void = tt
  default_of_type OfNull = tt

  default_of_slot : (e : Recorded) (y : Slot) → FixedInRange (p G) (default_in (p G) e y)
  unfolding default_in
  default_of_slot e (slot.Static f) = default_of_type (field (p G) f).ty
  default_of_slot e (slot.Field o f) = default_of_type (field (p G) f).ty
  default_of_slot e (slot.Elem a i) = default_of_type (element_type (type_of_code (code_of e.entity)))
  default_of_slot e slot.None = tt
  default_of_slot e (slot.Local f i) = tt

  made_fixed : (x : Noted (A G)) (y : Slot) (b : Bool) (o : Option (Held (A G))) (h : Held (A G)) → ((g : Held (A G)) → o ≡ Some g → FixedInRange (p G) g.value) → if_empty o (if b then Some (held_by (default_in (p G) x.event y) x) else Absent) ≡ Some h → FixedInRange (p G) h.value
  unfolding if_empty held_by
  made_fixed x y b (Some g) h i e = i h e
  made_fixed x y false Absent h i e = absurd (cc e)
  made_fixed x y true Absent h i e = subst (λ (z : Held (A G)). FixedInRange (p G) z.value) (let q : held_by (default_in (p G) x.event y) x ≡ h = cc e in q) (default_of_slot x.event y)

  pub new_adds : (d : Draft) (c : C G W) (s : S G W) → Adds d c s (note_new (p G) d c s)
  unfolding note_new creating with_event with_created made
  new_adds d c s = room_adds d c s (creating (p G) d c) (record { noted = refl; frame = refl; input = refl; output = refl; units = refl; number = refl; store = λ h f y g e. made_fixed (next_event d c s) y (creates (owner_in (p G)) (length s.noted) y (next_event d c s).event) (s.store y) g (h y) e })

  go_in_adds : (reach : Reach) (d : Draft) (c : C G W) (s : S G W) (o : Outcome (A G) (Made (A G))) → Adds d c s o → Adds d c s (go_in reach o)
  unfolding go_in entered with_active
  go_in_adds reach d c s (Done e t) h = record { noted = h.noted; frame = h.frame; input = h.input; output = h.output; units = h.units; number = h.number; store = h.store }
  go_in_adds reach d c s (Left why t) h = h
  go_in_adds reach d c s (Stopped why t) h = h

  pub activating_adds : (reach : Reach) (d : Draft) (c : C G W) (s : S G W) (m : Run (A G) (Made (A G))) → Adds d c s (m s) → Adds d c s (activating reach m s)
  unfolding activating
  activating_adds reach d c s m h = go_in_adds reach d c s (m s) h

  event_in_range : (d : Draft) (c : C G W) (s : S G W) → Drafted G W s.noted d → Fine G W s.noted c → InRange W.tokens (p G) (event_in s.noted) (next_event d c s).event
  unfolding next_event
  event_in_range d c s h f = record { site = h.site; entity = h.entity; slot = h.slot; value = h.value; fixed = h.fixed; uses = f.1 }

  text_in_range : (site : ℕ) (units : List ℕ) (c : C G W) (s : S G W) → IsSite W.tokens site → Fine G W s.noted c → InRange W.tokens (p G) (event_in s.noted) (next_event (spelling site units) c s).event
  unfolding next_event spelling
  text_in_range site units c s h f = record { site = h; entity = tt; slot = tt; value = tt; fixed = tt; uses = f.1 }

  made_here : (d : Draft) (c : C G W) (s : S G W) (e : Made (A G)) → e.number ≡ length s.noted → MadeAs (next_event d c s ∷ s.noted) d e
  unfolding next_event
  made_here d c s e q = record { event = (next_event d c s).event; there = subst (λ k. event_in (next_event d c s ∷ s.noted) k ≡ Some (next_event d c s).event) (sym q) (newest_there (next_event d c s) s.noted); kind = refl; entity = refl }

  -- what an event of the draft leaves in range: it writes nothing, and its text is among those that the units are taken for
  record Leaves (d : Draft) (c : C G W) (s : S G W) : Type 0 where
    pub event : InRange W.tokens (p G) (event_in s.noted) (next_event d c s).event
    pub fixed : FixedInRange (p G) d.value
    pub written : written_by (p G) W.ends_line (event_in s.noted) (next_event d c s).event ≡ []
    pub taken : Taken G W (made_as d.kind d.units) s.noted s.units

  quiet_kind : (k : Kind) (at : Events) (site : ℕ) (v : Value) → IsQuiet k → written_as (p G) W.ends_line at k site v ≡ []
  quiet_kind kind.Print at site v h = absurd h
  quiet_kind _ at site v h = refl

  quiet_made : (k : Kind) (units : List ℕ) → IsQuiet k → made_as k units ≡ 0
  quiet_made kind.Text units h = absurd h
  quiet_made _ units h = refl

  quiet_leaves : (d : Draft) (c : C G W) (s : S G W) → Drafted G W s.noted d → Fine G W s.noted c → Ok s → Leaves d c s
  unfolding next_event
  quiet_leaves d c s h f i = record {
    event = event_in_range d c s h f;
    fixed = h.fixed;
    written = quiet_kind d.kind (event_in s.noted) d.site d.value h.quiet;
    taken = subst (λ n. Taken G W n s.noted s.units) (sym (quiet_made d.kind d.units h.quiet)) i.texts;
  }

  still_written : (d : Draft) (c : C G W) (s : S G W) → Leaves d c s → s.output ≡ written_before G W s.noted → s.output ≡ written_before G W (next_event d c s ∷ s.noted)
  still_written d c s h e = e ∙ sym (append-nil (written_before G W s.noted)) ∙ ap (λ (l : List ℕ). written_before G W s.noted ++ l) (sym h.written) ∙ sym (written_one G W (next_event d c s) s.noted)

  taken_on : (d : Draft) (c : C G W) (s : S G W) → Taken G W (made_as d.kind d.units) s.noted s.units → Taken G W 0 (next_event d c s ∷ s.noted) s.units
  unfolding next_event
  taken_on d c s h = let m = h.made in record { made = omega (arith, m); few = h.few }

  added : (d : Draft) (c : C G W) (s : S G W) (o : Outcome (A G) (Made (A G))) → Leaves d c s → Ok s → Adds d c s o → Comes s (event (A G) (p G) d) o
  unfolding end event
  added d c s (Done e t) h i a = record {
    later = subst (λ (n : Moment G W). Later s.noted n) (sym a.noted) (later_one (next_event d c s) s.noted);
    frame = a.frame;
    inv = record {
      noted = subst (λ (n : Moment G W). AllInRange G W n) (sym a.noted) (h.event, i.noted);
      store = a.store i.store h.fixed;
      input = subst (λ (l : List ℕ). AllByRecursion (IsByteOf) l) (sym a.input) i.input;
      output = a.output ∙ still_written d c s h i.output ∙ ap (λ (n : Moment G W). written_before G W n) (sym a.noted);
      texts = subst (λ (n : Moment G W). Taken G W 0 n t.units) (sym a.noted) (subst (λ n. Taken G W 0 (next_event d c s ∷ s.noted) n) (sym a.units) (taken_on d c s h.taken));
    };
    given = subst (λ (n : Moment G W). MadeAs n d e) (sym a.noted) (made_here d c s e a.number);
  }
  added d c s (Left why t) h i a = absurd a
  added d c s (Stopped why t) h i a = here s _ _ a i tt

  pub records : {r : Region} {P : Known G} {m : Run (A G) (Made (A G))} (d : Draft) (c : C G W) → ((s : S G W) → Adds d c s (m s)) → Entails P (drafted G W d) → Entails P (fine G W c) → Bare r P m (event (A G) (p G) d)
  unfolding drafted fine
  records {m = m} d c a e f = record { by = λ s st k i. added d c s (m s) (quiet_leaves d c s (e.by _ k) (f.by _ k) i) i (a s) }

  pub notes : {r : Region} {P : Known G} (d : Draft) (c : C G W) → Entails P (drafted G W d) → Entails P (fine G W c) → Bare r P (note d c) (event (A G) (p G) d)
  notes d c e f = records d c (note_adds d c) e f

  pub writes : {r : Region} {P : Known G} (d : Draft) (c : C G W) → Entails P (drafted G W d) → Entails P (fine G W c) → Bare r P (note_write d c) (event (A G) (p G) d)
  writes d c e f = records d c (write_adds d c) e f

  pub creates_new : {r : Region} {P : Known G} (d : Draft) (c : C G W) → Entails P (drafted G W d) → Entails P (fine G W c) → Bare r P (note_new (p G) d c) (event (A G) (p G) d)
  creates_new d c e f = records d c (new_adds d c) e f

  pub enters : {r : Region} {P : Known G} (m : Run (A G) (Made (A G))) (reach : Reach) (d : Draft) (c : C G W) → ((s : S G W) → Adds d c s (m s)) → Entails P (drafted G W d) → Entails P (fine G W c) → Bare r P (activating reach m) (event (A G) (p G) d)
  enters m reach d c a e f = records d c (λ s. activating_adds reach d c s m (a s)) e f

  -- ---- texts

  abbrev with_room : ℕ → S G W → S G W
  with_room n s = record s { units = s.units + n }

  room_taken : (n : ℕ) (s : S G W) → s.units + n ≤ unit_limit → Ok s → Taken G W n s.noted (s.units + n)
  room_taken n s le i = let m = i.texts.made in record { made = omega (arith, m); few = le }

  room_kept : (n : ℕ) (s : S G W) → s.units + n ≤ unit_limit → Ok s → Ok (with_room n s)
  room_kept n s le i = let m = i.texts.made in record { noted = i.noted; store = i.store; input = i.input; output = i.output; texts = record { made = omega (arith, m); few = le } }

  text_leaves : (site : ℕ) (units : List ℕ) (c : C G W) (s : S G W) → IsSite W.tokens site → Fine G W s.noted c → s.units + length units ≤ unit_limit → Ok s → Leaves (spelling site units) c (with_room (length units) s)
  unfolding next_event spelling
  text_leaves site units c s h f le i = record { event = text_in_range site units c (with_room (length units) s) h f; fixed = tt; written = refl; taken = room_taken (length units) s le i }

  noted_in_room : (site : ℕ) (units : List ℕ) (c : C G W) (s : S G W) (b : Bool) → nat_le (s.units + length units) unit_limit ≡ b → IsSite W.tokens site → Fine G W s.noted c → Ok s
      → Comes s (event (A G) (p G) (spelling site units)) (go_on (choose b (with_units (length units)) (stop UnitLimit) s) (λ t. note (spelling site units) c))
  unfolding go_on choose with_units stop end
  noted_in_room site units c s true e h f i =
      let le : s.units + length units ≤ unit_limit = leb-true (s.units + length units) unit_limit e in
      let t = with_room (length units) s in
      onward s t _ (note (spelling site units) c t) (λ k r there. there) refl (added (spelling site units) c t (note (spelling site units) c t) (text_leaves site units c s h f le i) (room_kept (length units) s le i) (note_adds (spelling site units) c t))
  noted_in_room site units c s false e h f i = here s _ _ refl i tt

  -- the units of a text are taken, and then its event is recorded
  notes_text : {r : Region} {P : Known G} (site : ℕ) (units : List ℕ) (c : C G W) → IsSite W.tokens site → Entails P (fine G W c) → Bare r P (take_units (length units) >> note (spelling site units) c) (event (A G) (p G) (spelling site units))
  unfolding ◌>>◌ ◌>>=◌ take_units fine
  notes_text site units c h f = record { by = λ s st k i. noted_in_room site units c s (nat_le (s.units + length units) unit_limit) refl h (f.by _ k) i }

  regrouped : {X Y : Type 0} (o : Outcome (A G) Unit) (m : Run (A G) X) (f : X → Run (A G) Y) → go_on (go_on o (λ t. m)) f ≡ go_on o (λ t. m >>= f)
  unfolding go_on ◌>>=◌
  regrouped (Done t s) m f = refl
  regrouped (Left why s) m f = refl
  regrouped (Stopped why s) m f = refl

  pub spells_text : {r : Region} {Y : Type 0} {P : Known G} {R : Y → Known G} {f : Made (A G) → Run (A G) Y} (site : ℕ) (units : List ℕ) (c : C G W) → IsSite W.tokens site → Entails P (fine G W c)
      → ((x : Made (A G)) → Bare r (both P (event (A G) (p G) (spelling site units) x)) (f x) R) → Bare r P (take_units (length units) >> (note (spelling site units) c >>= f)) R
  unfolding ◌>>◌ ◌>>=◌
  spells_text {Y = Y} {R = R} {f = f} site units c h e l = record {
    by = λ s st k i. subst (λ (o : Outcome (A G) Y). Comes s R o) (regrouped (take_units (length units) s) (note (spelling site units) c) f) ((bind (notes_text site units c h e) l).by s st k i);
  }

  -- ---- prints

  -- the state after a print of so many bytes
  abbrev after_print : Draft → C G W → List ℕ → S G W → S G W
  after_print d c bytes s = record (with_event (next_event d c s) s) { output = s.output ++ bytes }

  abbrev PrintsTo : Draft → C G W → List ℕ → S G W → Outcome (A G) Unit → Type 0
  PrintsTo d c bytes s (Done x t) = t ≡ after_print d c bytes s
  PrintsTo d c bytes s (Left why t) = ⊥
  PrintsTo d c bytes s (Stopped why t) = t ≡ s

  noted_prints : (d : Draft) (c : C G W) (bytes : List ℕ) (s : S G W) (x y : Bool) → PrintsTo d c bytes s (go_on (choose x (choose y (noting d c) (stop UseLimit)) (stop EventLimit) s) (λ e. write_out bytes))
  unfolding go_on choose noting write_out with_event stop
  noted_prints d c bytes s true true = refl
  noted_prints d c bytes s true false = refl
  noted_prints d c bytes s false y = refl

  abbrev no_value_left : Unit {0}
  no_value_left = tt

  room_prints : (d : Draft) (c : C G W) (bytes : List ℕ) (s : S G W) (x : Bool) → PrintsTo d c bytes s (go_on (choose x (return no_value_left) (stop OutputLimit) s) (λ t. note d c >>= (λ e. write_out bytes)))
  unfolding go_on choose return stop ◌>>=◌ note room_for
  room_prints d c bytes s true = noted_prints d c bytes s (nat_lt (length s.noted) event_limit) (nat_le (s.uses + length c.uses) use_limit)
  room_prints d c bytes s false = refl

  prints_to : (site : ℕ) (bytes : List ℕ) (c : C G W) (s : S G W) → PrintsTo (plain kind.Print site c.value) c bytes s (print site bytes c s)
  unfolding print ◌>>◌ ◌>>=◌ room_for_output
  prints_to site bytes c s = room_prints (plain kind.Print site c.value) c bytes s (nat_le (length s.output + length bytes) output_limit)

  -- the bytes are those of the value and of the end of the line
  abbrev pub BytesAre : List ℕ → ℕ → Value → S G W → Type 0
  BytesAre bytes site v s = bytes ≡ written_as (p G) W.ends_line (event_in s.noted) kind.Print site v

  print_in_range : (site : ℕ) (c : C G W) (s : S G W) → IsSite W.tokens site → IsPrinted c.value → Fine G W s.noted c → InRange W.tokens (p G) (event_in s.noted) (next_event (plain kind.Print site c.value) c s).event
  unfolding next_event plain
  print_in_range site c s h v f = record { site = h; entity = tt; slot = tt; value = v; fixed = f.0; uses = f.1 }

  print_written : (site : ℕ) (c : C G W) (s : S G W) → written_by (p G) W.ends_line (event_in s.noted) (next_event (plain kind.Print site c.value) c s).event ≡ written_as (p G) W.ends_line (event_in s.noted) kind.Print site c.value
  unfolding next_event plain
  print_written site c s = refl

  printed_bytes : (site : ℕ) (bytes : List ℕ) (c : C G W) (s : S G W) → BytesAre bytes site c.value s → s.output ≡ written_before G W s.noted → s.output ++ bytes ≡ written_before G W (next_event (plain kind.Print site c.value) c s ∷ s.noted)
  printed_bytes site bytes c s b o =
      ap (λ (l : List ℕ). l ++ bytes) o ∙ ap (λ (l : List ℕ). written_before G W s.noted ++ l) (b ∙ sym (print_written site c s)) ∙ sym (written_one G W (next_event (plain kind.Print site c.value) c s) s.noted)

  print_taken : (site : ℕ) (c : C G W) (s : S G W) → Taken G W 0 s.noted s.units → Taken G W 0 (next_event (plain kind.Print site c.value) c s ∷ s.noted) s.units
  unfolding next_event plain
  print_taken site c s h = let m = h.made in record { made = omega (arith, m); few = h.few }

  printed_inv : (site : ℕ) (bytes : List ℕ) (c : C G W) (s : S G W) → IsSite W.tokens site → IsPrinted c.value → Fine G W s.noted c → BytesAre bytes site c.value s → Ok s → Inv G W (after_print (plain kind.Print site c.value) c bytes s)
  unfolding with_event
  printed_inv site bytes c s h v f b i = record {
    noted = (print_in_range site c s h v f, i.noted);
    store = i.store;
    input = i.input;
    output = printed_bytes site bytes c s b i.output;
    texts = print_taken site c s i.texts;
  }

  printed_later : (d : Draft) (c : C G W) (bytes : List ℕ) (s : S G W) → Later s.noted (after_print d c bytes s).noted
  unfolding with_event
  printed_later d c bytes s = later_one (next_event d c s) s.noted

  printed_frame : (d : Draft) (c : C G W) (bytes : List ℕ) (s : S G W) → (after_print d c bytes s).frame ≡ s.frame
  unfolding with_event
  printed_frame d c bytes s = refl

  print_comes : (site : ℕ) (bytes : List ℕ) (c : C G W) (s : S G W) (o : Outcome (A G) Unit) → IsSite W.tokens site → IsPrinted c.value → Fine G W s.noted c → BytesAre bytes site c.value s → Ok s → PrintsTo (plain kind.Print site c.value) c bytes s o → Comes s (λ (t : Unit {0}). nothing) o
  unfolding end
  print_comes site bytes c s (Done x t) h v f b i e = record {
    later = subst (λ (u : S G W). Later s.noted u.noted) (sym e) (printed_later (plain kind.Print site c.value) c bytes s);
    frame = ap (λ (u : S G W). u.frame) e ∙ printed_frame (plain kind.Print site c.value) c bytes s;
    inv = subst (λ (u : S G W). Inv G W u) (sym e) (printed_inv site bytes c s h v f b i);
    given = tt;
  }
  print_comes site bytes c s (Left why t) h v f b i e = absurd e
  print_comes site bytes c s (Stopped why t) h v f b i e = here s _ _ e i tt

  pub prints : {r : Region} {P : Known G} (site : ℕ) (bytes : List ℕ) (c : C G W) → IsSite W.tokens site → Entails P (fine G W c) → Entails P (always G W (IsPrinted c.value)) → ((s : S G W) → BytesAre bytes site c.value s) → Bare r P (print site bytes c) (λ t. nothing)
  unfolding fine
  prints site bytes c h f v b = record { by = λ s st k i. print_comes site bytes c s (print site bytes c s) h (v.by _ k) (f.by _ k) (b s) i (prints_to site bytes c s) }

  -- ---- a value that is spelled and printed

  spelled_now : (w : World (A G)) (s : S G W) (v : Value) → w.program ≡ p G → spelled_as w v s ≡ Done (units_seen (p G) (event_in s.noted) v) s
  unfolding spelled_as units_of event_at return ◌>>=◌ go_on
  spelled_now w s (val.Text n) e = refl
  spelled_now w s (val.Fixed n) e = ap (λ (q : Program). Done (fixed_text q n) s) e
  spelled_now w s val.None e = refl
  spelled_now w s (val.Bool x) e = refl
  spelled_now w s (val.Byte x) e = refl
  spelled_now w s (val.Short x) e = refl
  spelled_now w s (val.Char x) e = refl
  spelled_now w s (val.Int x) e = refl
  spelled_now w s (val.Long x) e = refl
  spelled_now w s val.Null e = refl
  spelled_now w s (val.Object x) e = refl
  spelled_now w s (val.Arm n) e = refl

  pub spells_and_prints : {r : Region} {P : Known G} (w : World (A G)) (site : ℕ) (b : Bool) (c : C G W) → w.program ≡ p G → IsSite W.tokens site → W.ends_line site ≡ b → Entails P (fine G W c) → Entails P (always G W (IsPrinted c.value)) → Bare r P (spelled_as w c.value >>= (λ units. print site (utf8_of units ++ line_end b) c)) (λ t. nothing)
  unfolding ◌>>=◌ fine go_on
  spells_and_prints w site b c q h e f v = record {
    by = λ s st k i.
        let units = units_seen (p G) (event_in s.noted) c.value in
        let bytes = utf8_of units ++ line_end b in
        let written : BytesAre bytes site c.value s = ap (λ x. utf8_of units ++ line_end x) (sym e) in
        subst (λ (o : Outcome (A G) (List ℕ)). Comes s (λ (t : Unit {0}). nothing) (go_on o (λ us. print site (utf8_of us ++ line_end b) c))) (sym (spelled_now w s c.value q))
        (print_comes site bytes c s (print site bytes c s) h (v.by _ k) (f.by _ k) written i (prints_to site bytes c s));
  }
