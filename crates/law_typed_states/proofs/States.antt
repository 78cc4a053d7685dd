-- Every change of a state leaves it typed.
use Rattle.std.proofs.Common.{◌≡◌, ℕ, zero, suc, Bool, true, false, List, [], ◌∷◌, length, ◌⊎◌, ⊎_elim, Option, Some, refl, sym, subst}
use Rattle.std.specs.Prelude.{None as Absent}
use Rattle.std.specs.Prelude.{if◌then◌else◌, slice_get, slice_index_or}
use Rattle.std.specs.List.{All}
use Rattle.std.proofs.lemmas.Bool.{eqb-true}
use Rattle.std.proofs.lemmas.List.Elements.{All-get_or}
use Rattle.std.proofs.lemmas.Option.{slice_get_within, get_or_from_slice_get}
use Rattle.wy_kernel.specs.Program.{Program, Field, field, type_of_code, element_type}
use Rattle.wy_event.specs.declared.record.Kind.{Kind}
use Rattle.wy_event.specs.declared.record.Kind.TheVariants as kind
use Rattle.wy_event.specs.declared.record.Slot.{Slot}
use Rattle.wy_event.specs.declared.record.Slot.TheVariants as slot
use Rattle.wy_event.specs.Record.{Recorded, same_slot}
use Rattle.wy_event.specs.Sources.{creates, creates_as}
use Rattle.wy_steps.specs.Sets.{Sets}
use Rattle.wy_steps.specs.State.{Carried, Held, Store, Noted, State}
use Rattle.wy_steps.specs.Steps.{Draft, code_of, event_in, held_by, owner_in, default_in, default_value, next_event, with_event, with_stored, slot_with, with_created, if_empty}
use Rattle.wy_meaning.specs.World.{plain, about, into, spelling}
use Rattle.wy_typing.specs.Types.{IsVariableType}
use Rattle.wy_typing.specs.Expressions.{IsField}
use Rattle.wy_typing.specs.Programs.{IsProgram}
use Rattle.law_induction.specs.Law.{Fact, IsNoted, a_throw, a_print, a_return, a_test, a_read, a_jump, a_text, a_call, IsWrite, a_set, a_bind, a_catch}
use Rattle.law_typed_states.specs.Typed.{Is, FitsSlot, StoreIsTyped, IsThere, AreTyped, IsTypedState}
use Rattle.law_typed_states.proofs.Values.{default_is}
use Rattle.law_typed_states.proofs.Moments.{by_events, Later, later_one, newest_there, one_of_longer, fits_up, slot_is}
use Rattle.wy_typing.proofs.Ranges.{all_at}

some_same : {X : Type 0} {x y : X} → Some x ≡ Some y → x ≡ y
some_same e = cc e

-- ---- what an event creates

noted_creates_nothing : {A : Sets} (d : Draft) (c : Carried A) → IsNoted d c → (owner : ℕ → ℕ) (n : ℕ) (x : Slot) → creates_as owner d.kind n d.entity x ≡ true → ⊥
unfolding creates_as plain about spelling
noted_creates_nothing d c (a_throw site v k) owner n x e = absurd (cc e)
noted_creates_nothing d c (a_print site v k) owner n x e = absurd (cc e)
noted_creates_nothing d c (a_return site v k) owner n x e = absurd (cc e)
noted_creates_nothing d c (a_test site v k) owner n x e = absurd (cc e)
noted_creates_nothing d c (a_read site v k) owner n x e = absurd (cc e)
noted_creates_nothing d c (a_jump site) owner n x e = absurd (cc e)
noted_creates_nothing d c (a_text site units k) owner n x e = absurd (cc e)
noted_creates_nothing d c (a_call site m k) owner n x e = absurd (cc e)

written_creates_nothing : {A : Sets} (d : Draft) (c : Carried A) → IsWrite d c → (owner : ℕ → ℕ) (n : ℕ) (x : Slot) → creates_as owner d.kind n d.entity x ≡ true → ⊥
unfolding creates_as into
written_creates_nothing d c (a_set site y v k) owner n x e = absurd (cc e)
written_creates_nothing d c (a_bind site f i v k) owner n x e = absurd (cc e)
written_creates_nothing d c (a_catch site f i v k) owner n x e = absurd (cc e)

module _ (A : Sets) (p : Program) (fits : IsProgram p) where
  abbrev pub Known : Type 1
  Known = Fact (by_events A)

  variable : (k : ℕ) (f : Field) → IsField p k f → IsVariableType f.ty
  variable k f e = all_at (λ (f : Field). IsVariableType f.ty) p.fields k f fits.declarations.variables e

  field_is : (xs : List Field) (k : ℕ) (f d : Field) → slice_get xs k ≡ Some f → slice_index_or xs k d ≡ f
  field_is [] k f d e = absurd (cc e)
  field_is (x ∷ xs) zero f d e = some_same e
  field_is (x ∷ xs) (suc k) f d e = field_is xs k f d e

  -- ---- one event more

  next_typed : (s : State A) (e : Noted A) (store : Store A) → e.before ≡ s.store → AreTyped p s.noted s.store
      → ((x : Slot) → IsThere (s.store x) → IsThere (store x)) → ((x : Slot) → creates (owner_in p) (length s.noted) x e.event ≡ true → IsThere (store x)) → StoreIsTyped p (e ∷ s.noted) store
      → AreTyped p (e ∷ s.noted) store
  next_typed s e store was i kept new typed = record {
    store = typed;
    created = λ n r x there c. ⊎_elim
        (λ h. new x (subst (λ k. creates (owner_in p) k x e.event ≡ true) h.0 (subst (λ q. creates (owner_in p) n x q ≡ true) (sym h.1) c)))
        (λ h. kept x (i.created n r x h c))
        (one_of_longer e s.noted n r there);
    past = (subst (λ q. StoreIsTyped p s.noted q) (sym was) i.store, i.past);
  }

  store_up : (m n : List (Noted A)) (store : Store A) → Later m n → StoreIsTyped p m store → StoreIsTyped p n store
  store_up m n store le i x h e = fits_up p m n x h.value le (i x h e)

  pub recorded_typed : (s : State A) (d : Draft) (c : Carried A) → IsNoted d c → IsTypedState p s → IsTypedState p (with_event (next_event d c s) s)
  unfolding with_event next_event creates
  recorded_typed s d c g i = next_typed s (next_event d c s) s.store refl i (λ x h. h) (λ x e. absurd (noted_creates_nothing d c g (owner_in p) (length s.noted) x e)) (store_up s.noted _ s.store (later_one _ s.noted) i.store)

  -- ---- a value that is stored

  stored_there : (b : Bool) (new : Held A) (o : Option (Held A)) → IsThere o → IsThere (if b then Some new else o)
  stored_there true new o h = tt
  stored_there false new o h = h

  stored_fits : (n : List (Noted A)) (x y : Slot) (new : Held A) (store : Store A) (b : Bool) (h : Held A) → same_slot y x ≡ b → FitsSlot p n x new.value → StoreIsTyped p n store → (if b then Some new else store y) ≡ Some h → FitsSlot p n y h.value
  stored_fits n x y new store true h is f i e = subst (λ z. FitsSlot p n z h.value) (sym (slot_is y x is)) (subst (λ (z : Held A). FitsSlot p n x z.value) (some_same e) f)
  stored_fits n x y new store false h is f i e = i y h e

  pub written_typed : (s : State A) (d : Draft) (c : Carried A) → IsWrite d c → IsTypedState p s → FitsSlot p s.noted d.slot d.value → IsTypedState p (with_stored d.slot (held_by d.value (next_event d c s)) (with_event (next_event d c s) s))
  unfolding with_stored slot_with with_event held_by next_event creates
  written_typed s d c g i f =
      let more = later_one (next_event d c s) s.noted in
      next_typed s (next_event d c s) _ refl i (λ x h. stored_there (same_slot x d.slot) _ (s.store x) h) (λ x e. absurd (written_creates_nothing d c g (owner_in p) (length s.noted) x e))
      (λ x h e. stored_fits _ d.slot x (held_by d.value (next_event d c s)) s.store (same_slot x d.slot) h refl (fits_up p s.noted _ d.slot d.value more f) (store_up s.noted _ s.store more i.store) e)

  -- ---- what is created

  element_default : (n : ℕ) → IsVariableType (element_type (type_of_code n))
  unfolding element_type type_of_code
  element_default n = tt

  -- the default of each slot that the event creates is of the slot's type
  default_fits : (k : Kind) (entity : Option ℕ) (noted : List (Noted A)) (n : ℕ) (e : Recorded) (x : Slot) → event_in noted n ≡ Some e → creates_as (owner_in p) k n entity x ≡ true → FitsSlot p noted x (default_in p e x)
  unfolding creates_as default_in field
  default_fits kind.New entity noted n e (slot.Field o f) there c = λ fd is. subst (λ (q : Field). Is p noted fd.ty (default_value q.ty)) (sym (field_is p.fields f fd _ is)) (default_is p noted fd.ty (variable f fd is))
  default_fits kind.New entity noted n e (slot.Elem a i) there c = let at : a ≡ n = eqb-true a n c in record { array = e; there = subst (λ q. event_in noted q ≡ Some e) (sym at) there; typed = default_is p noted _ (element_default (code_of e.entity)) }
  default_fits kind.Init entity noted n e (slot.Static f) there c = λ fd is. subst (λ (q : Field). Is p noted fd.ty (default_value q.ty)) (sym (field_is p.fields f fd _ is)) (default_is p noted fd.ty (variable f fd is))
  default_fits kind.New entity noted n e slot.None there c = absurd (cc c)
  default_fits kind.New entity noted n e (slot.Local f i) there c = absurd (cc c)
  default_fits kind.New entity noted n e (slot.Static f) there c = absurd (cc c)
  default_fits kind.Init entity noted n e slot.None there c = absurd (cc c)
  default_fits kind.Init entity noted n e (slot.Local f i) there c = absurd (cc c)
  default_fits kind.Init entity noted n e (slot.Field o f) there c = absurd (cc c)
  default_fits kind.Init entity noted n e (slot.Elem a i) there c = absurd (cc c)
  default_fits _ entity noted n e x there c = absurd (cc c)

  created_there : (o new : Option (Held A)) → IsThere o → IsThere (if_empty o new)
  unfolding if_empty
  created_there (Some h) new t = tt
  created_there Absent new t = absurd t

  new_there : (o : Option (Held A)) (b : Bool) (h : Held A) → b ≡ true → IsThere (if_empty o (if b then Some h else Absent))
  unfolding if_empty
  new_there (Some x) b h e = tt
  new_there Absent true h e = tt
  new_there Absent false h e = absurd (cc e)

  created_fits : (n : List (Noted A)) (x : Slot) (o : Option (Held A)) (b : Bool) (new h : Held A) → ((h : Held A) → o ≡ Some h → FitsSlot p n x h.value) → (b ≡ true → FitsSlot p n x new.value) → if_empty o (if b then Some new else Absent) ≡ Some h → FitsSlot p n x h.value
  unfolding if_empty
  created_fits n x (Some k) b new h old f e = old h e
  created_fits n x Absent true new h old f e = subst (λ (z : Held A). FitsSlot p n x z.value) (some_same e) (f refl)
  created_fits n x Absent false new h old f e = absurd (cc e)

  pub created_typed : (s : State A) (d : Draft) (c : Carried A) → IsTypedState p s → IsTypedState p (with_created p (length s.noted) (next_event d c s) (with_event (next_event d c s) s))
  unfolding with_created with_event held_by creates next_event
  created_typed s d c i =
      let e = next_event d c s in
      let more = later_one e s.noted in
      next_typed s e _ (before_is d c s) i (λ x h. created_there (s.store x) _ h) (λ x q. new_there (s.store x) _ _ q)
      (λ x h q. created_fits (e ∷ s.noted) x (s.store x) (creates (owner_in p) (length s.noted) x e.event) (held_by (default_in p e.event x) e) h (store_up s.noted (e ∷ s.noted) s.store more i.store x)
      (λ t. default_fits e.event.kind e.event.entity (e ∷ s.noted) (length s.noted) e.event x (newest_there e s.noted) t) q)
    where
      before_is : (d : Draft) (c : Carried A) (s : State A) → (next_event d c s).before ≡ s.store
      before_is d c s = refl
