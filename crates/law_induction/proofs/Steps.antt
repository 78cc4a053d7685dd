-- What a law that knows the same of all values says of each step, as rules for a search.
use Rattle.std.proofs.Common.{◌≡◌, ℕ, Bool, List, [], ◌∷◌, Option, Some, sym, subst}
use Rattle.std.specs.Prelude.{None as Absent}
use Rattle.std.specs.Prelude.{pos}
use Rattle.wy_kernel.specs.declared.types.Ty.{Ty}
use Rattle.wy_kernel.specs.Program.{Program}
use Rattle.wy_value.specs.declared.value.Value.{Value}
use Rattle.wy_value.specs.declared.value.Value.TheVariants as val
use Rattle.wy_event.specs.declared.record.Kind.{Kind}
use Rattle.wy_event.specs.declared.record.Kind.TheVariants as kind
use Rattle.wy_event.specs.declared.record.Slot.{Slot}
use Rattle.wy_event.specs.declared.record.Slot.TheVariants as slot
use Rattle.wy_event.specs.Record.{Recorded}
use Rattle.wy_steps.specs.Sets.{Sets}
use Rattle.wy_steps.specs.State.{Carried, Reach, Stop, InitFailed, Unassigned, Reason, Jumped, Returned, Threw, Run, ◌>>=◌, ◌>>◌, return, leave, stop, catching, choose}
use Rattle.wy_steps.specs.Steps.{Made, Draft, constant, with_value, joined, joined_all, value_of, chosen, tick, frame, event_at, is_begun, read, declare, note, note_write, note_new, activating, scoped, reaching, in_frame, take_elements, take_units, room_for_output, write_out, next_byte, covered, code_of}
use Rattle.wy_meaning.specs.World.{plain, about, into, spelling}
use Rattle.wy_meaning.specs.Place.{Spot}
use Rattle.wy_meaning.specs.Statement.{while_form, do_form}
use Rattle.law_induction.specs.Law.{Fact, nothing, both, Entails, FrameKind, OfCall, OfInit, Region, In, Ends, IsInt, IsControl, IsPlain, a_throw, a_print, a_return, a_test, a_read, a_jump, a_text, a_call, IsWrite, a_set, a_bind, a_catch, an_object, an_array, an_init, Recording, noted, created}
use Rattle.law_induction.specs.Uniform.{IsNoReference, IsValued, Uniform}
use Rattle.law_induction.proofs.Rules.{before, trivially, same}

module _ (A : Sets) (L : Uniform A) where
  abbrev pub Known : Type 1
  Known = Fact L.moments

  unfoldable pub fits : Carried A → Known
  fits v = L.fit v

  unfoldable pub value_fact : Value → Known
  value_fact v = L.value v

  unfoldable pub slot_fact : Slot → Known
  slot_fact x = L.place x

  -- the value may be stored there
  unfoldable pub stores_fact : Slot → Value → Known
  stores_fact x v = L.stores x v

  unfoldable pub made_fit : Kind → Made A → Known
  made_fit k e = L.made_as k e

  unfoldable pub object_fact : ℕ → Known
  object_fact n = L.object n

  unfoldable pub body_fact : FrameKind → ℕ → Known
  body_fact i n = L.body i n

  unfoldable pub frame_fact : FrameKind → Option ℕ → Known
  frame_fact i o = L.current i o

  unfoldable pub threw_fact : ℕ → Known
  threw_fact e = L.threw e

  unfoldable pub left_fact : ℕ → Known
  left_fact e = L.left e

  unfoldable pub reason_fits : Region → Reason A → Known
  reason_fits r why = L.reason r why

  pub record Keeps (r : Region) {X : Type 0} (P : Fact L.moments) (m : Run A X) (Q : X → Fact L.moments) : Type 0 where
    pub by : L.keeps r P m Q

  -- ---- putting together

  pub keeps_bind : {r : Region} {X Y : Type 0} {P : Known} {Q : X → Known} {S : Y → Known} {m : Run A X} {f : X → Run A Y} → Keeps r P m Q → ((x : X) → Keeps r (both P (Q x)) (f x) S) → Keeps r P (m >>= f) S
  keeps_bind {r = r} {P = P} {Q = Q} {S = S} {m = m} {f = f} k l = record { by = L.binds r P m Q f S k.by (λ x. (l x).by) }

  pub weaker : {r : Region} {X : Type 0} {P P' : Known} {Q : X → Known} {m : Run A X} → Keeps r P m Q → Entails P' P → Keeps r P' m Q
  weaker {r = r} {P = P} {P' = P'} {Q = Q} {m = m} k e = record { by = L.weakens r P P' m Q k.by e }

  pub keeps_return : {r : Region} {X : Type 0} {P : Known} {Q : X → Known} (x : X) → Entails P (Q x) → Keeps r P (return x) Q
  keeps_return {r = r} {P = P} {Q = Q} x e = record { by = L.returns r P x Q e }

  pub keeps_leave : {r : Region} {X : Type 0} {P : Known} {Q : X → Known} (why : Reason A) → Entails P (reason_fits r why) → Keeps r P (leave why) Q
  unfolding reason_fits
  keeps_leave {r = r} {P = P} {Q = Q} why e = record { by = L.leaves r P why Q e }

  pub keeps_stop : {r : Region} {X : Type 0} {P : Known} {Q : X → Known} (why : Stop) → IsPlain why → Keeps r P (stop why) Q
  keeps_stop {r = r} {P = P} {Q = Q} why h = record { by = L.stops r P why Q h }

  pub keeps_unassigned : {r : Region} {X : Type 0} {P : Known} {Q : X → Known} → Keeps r P (stop Unassigned) Q
  keeps_unassigned = keeps_stop Unassigned tt

  pub keeps_failed : {r : Region} {X : Type 0} {P : Known} {Q : X → Known} (e : ℕ) → Entails P (threw_fact e) → Keeps r P (stop (InitFailed e)) Q
  unfolding threw_fact
  keeps_failed {r = r} {P = P} {Q = Q} e h = record { by = L.fails r P e Q h }

  pub keeps_catching : {r : Region} {X : Type 0} {P : Known} {Q : X → Known} {m : Run A X} {f : Reason A → Run A X} → Keeps r P m Q → ((why : Reason A) → Keeps r (both P (reason_fits r why)) (f why) Q) → Keeps r P (catching m f) Q
  unfolding reason_fits
  keeps_catching {r = r} {P = P} {Q = Q} {m = m} {f = f} k l = record { by = L.catches r P m f Q k.by (λ why. (l why).by) }

  pub keeps_last : {i : FrameKind} {X : Type 0} {P : Known} {Q : X → Known} {m : Run A X} {f : Reason A → Run A X} → Keeps (In i) P m Q → ((why : Reason A) → Keeps (Ends i) (both P (reason_fits (In i) why)) (f why) Q) → Keeps (Ends i) P (catching m f) Q
  unfolding reason_fits
  keeps_last {i = i} {P = P} {Q = Q} {m = m} {f = f} k l = record { by = L.catches_last i P m f Q k.by (λ why. (l why).by) }

  pub keeps_choose : {r : Region} {X : Type 0} {P : Known} {Q : X → Known} {m k : Run A X} (c : Bool) → Keeps r P m Q → Keeps r P k Q → Keeps r P (choose c m k) Q
  keeps_choose {r = r} {P = P} {Q = Q} {m = m} {k = k} c hm hk = record { by = L.chooses r P c m k Q (λ e. hm.by) (λ e. hk.by) }

  pub keeps_whiles : {r : Region} {P : Known} (test : Run A Bool) (m : Run A Unit) → ((P : Known) → Keeps r P test (λ b. nothing)) → ((P : Known) → Keeps r P m (λ t. nothing)) → Keeps r P (while_form test m) (λ t. nothing)
  keeps_whiles {r = r} {P = P} test m ht hm = record { by = L.whiles r P test m (λ R. (ht R).by) (λ R. (hm R).by) }

  pub keeps_dos : {r : Region} {P : Known} (test : Run A Bool) (m : Run A Unit) → ((P : Known) → Keeps r P test (λ b. nothing)) → ((P : Known) → Keeps r P m (λ t. nothing)) → Keeps r P (do_form m test) (λ t. nothing)
  keeps_dos {r = r} {P = P} test m ht hm = record { by = L.dos r P test m (λ R. (ht R).by) (λ R. (hm R).by) }

  -- ---- bind by what is given

  pub after : {r : Region} {Y : Type 0} {P : Known} {S : Y → Known} {m : Run A Unit} {f : Run A Y} → Keeps r P m (λ t. nothing) → Keeps r P f S → Keeps r P (m >> f) S
  unfolding ◌>>◌
  after k l = keeps_bind k (λ t. weaker l (before _ _ same))

  pub then_unit : {r : Region} {Y : Type 0} {P : Known} {S : Y → Known} {m : Run A Unit} {f : Unit → Run A Y} → Keeps r P m (λ t. nothing) → ((t : Unit) → Keeps r P (f t) S) → Keeps r P (m >>= f) S
  then_unit k l = keeps_bind k (λ t. weaker (l t) (before _ _ same))

  pub with_number : {r : Region} {Y : Type 0} {P : Known} {S : Y → Known} {m : Run A ℕ} {f : ℕ → Run A Y} → Keeps r P m (λ n. nothing) → ((n : ℕ) → Keeps r P (f n) S) → Keeps r P (m >>= f) S
  with_number k l = keeps_bind k (λ n. weaker (l n) (before _ _ same))

  pub with_option : {r : Region} {Y : Type 0} {P : Known} {S : Y → Known} {m : Run A (Option ℕ)} {f : Option ℕ → Run A Y} → Keeps r P m (λ n. nothing) → ((n : Option ℕ) → Keeps r P (f n) S) → Keeps r P (m >>= f) S
  with_option k l = keeps_bind k (λ n. weaker (l n) (before _ _ same))

  pub with_flag : {r : Region} {Y : Type 0} {P : Known} {S : Y → Known} {m : Run A Bool} {f : Bool → Run A Y} → Keeps r P m (λ n. nothing) → ((c : Bool) → Keeps r P (f c) S) → Keeps r P (m >>= f) S
  with_flag k l = keeps_bind k (λ n. weaker (l n) (before _ _ same))

  pub with_type : {r : Region} {Y : Type 0} {P : Known} {S : Y → Known} {m : Run A Ty} {f : Ty → Run A Y} → Keeps r P m (λ n. nothing) → ((ty : Ty) → Keeps r P (f ty) S) → Keeps r P (m >>= f) S
  with_type k l = keeps_bind k (λ n. weaker (l n) (before _ _ same))

  pub with_codes : {r : Region} {Y : Type 0} {P : Known} {S : Y → Known} {m : Run A (List ℕ)} {f : List ℕ → Run A Y} → Keeps r P m (λ n. nothing) → ((us : List ℕ) → Keeps r P (f us) S) → Keeps r P (m >>= f) S
  with_codes k l = keeps_bind k (λ n. weaker (l n) (before _ _ same))

  pub with_carried : {r : Region} {Y : Type 0} {P : Known} {S : Y → Known} {m : Run A (Carried A)} {f : Carried A → Run A Y} → Keeps r P m fits → ((v : Carried A) → Keeps r (both P (fits v)) (f v) S) → Keeps r P (m >>= f) S
  with_carried k l = keeps_bind k l

  pub with_made : {r : Region} {Y : Type 0} {P : Known} {S : Y → Known} (k : Kind) {m : Run A (Made A)} {f : Made A → Run A Y} → Keeps r P m (made_fit k) → ((e : Made A) → Keeps r (both P (made_fit k e)) (f e) S) → Keeps r P (m >>= f) S
  with_made j k l = keeps_bind k l

  -- a slot that was found, and what its parts carry
  unfoldable pub spot_fits : Spot A → Known
  spot_fits x = both (slot_fact x.slot) (fits x.parts)

  pub with_spot : {r : Region} {Y : Type 0} {P : Known} {S : Y → Known} {m : Run A (Spot A)} {f : Spot A → Run A Y} → Keeps r P m spot_fits → ((x : Spot A) → Keeps r (both P (spot_fits x)) (f x) S) → Keeps r P (m >>= f) S
  with_spot k l = keeps_bind k l

  pub with_object : {r : Region} {Y : Type 0} {P : Known} {S : Y → Known} {m : Run A ℕ} {f : ℕ → Run A Y} → Keeps r P m object_fact → ((n : ℕ) → Keeps r (both P (object_fact n)) (f n) S) → Keeps r P (m >>= f) S
  with_object k l = keeps_bind k l

  pub with_frame : {i : FrameKind} {Y : Type 0} {P : Known} {S : Y → Known} {m : Run A (Option ℕ)} {f : Option ℕ → Run A Y} → Keeps (In i) P m (frame_fact i) → ((o : Option ℕ) → Keeps (In i) (both P (frame_fact i o)) (f o) S) → Keeps (In i) P (m >>= f) S
  with_frame k l = keeps_bind k l

  -- each value of a list fits
  unfoldable pub all_fit : List (Carried A) → Known
  all_fit [] = nothing
  all_fit (v ∷ vs) = both (fits v) (all_fit vs)

  pub with_all : {r : Region} {Y : Type 0} {P : Known} {S : Y → Known} {m : Run A (List (Carried A))} {f : List (Carried A) → Run A Y} → Keeps r P m all_fit → ((vs : List (Carried A)) → Keeps r (both P (all_fit vs)) (f vs) S) → Keeps r P (m >>= f) S
  with_all k l = keeps_bind k l

  unfoldable pub option_fits : Option (Carried A) → Known
  option_fits Absent = nothing
  option_fits (Some v) = fits v

  pub absent_fits : {P : Known} → Entails P (option_fits Absent)
  unfolding option_fits
  absent_fits = trivially

  pub some_fits : {P : Known} (v : Carried A) → Entails P (fits v) → Entails P (option_fits (Some v))
  unfolding option_fits
  some_fits v e = e

  pub no_values_fit : {P : Known} → Entails P (all_fit [])
  unfolding all_fit
  no_values_fit = record { by = λ n h. tt }

  pub more_fit : {P : Known} (v : Carried A) (vs : List (Carried A)) → Entails P (fits v) → Entails P (all_fit vs) → Entails P (all_fit (v ∷ vs))
  unfolding all_fit both
  more_fit v vs e es = record { by = λ n h. (e.by n h, es.by n h) }

  pub first_fits : {P : Known} (v : Carried A) (vs : List (Carried A)) → Entails P (all_fit (v ∷ vs)) → Entails P (fits v)
  unfolding all_fit both
  first_fits v vs e = record { by = λ n h. (e.by n h).0 }

  pub rest_fit : {P : Known} (v : Carried A) (vs : List (Carried A)) → Entails P (all_fit (v ∷ vs)) → Entails P (all_fit vs)
  unfolding all_fit both
  rest_fit v vs e = record { by = λ n h. (e.by n h).1 }

  pub jumped_fits : {P : Known} (r : Region) (target e : ℕ) → Entails P (left_fact e) → Entails P (reason_fits r (Jumped target e))
  unfolding reason_fits left_fact
  jumped_fits r target e h = record { by = λ n p. L.jump_reason r target e n (h.by n p) }

  pub returned_fits : {P : Known} (r : Region) (e : ℕ) (v : Carried A) → Entails P (left_fact e) → Entails P (fits v) → Entails P (reason_fits r (Returned e v))
  unfolding reason_fits left_fact fits
  returned_fits r e v h k = record { by = λ n p. L.return_reason r e v n (h.by n p) (k.by n p) }

  pub threw_fits : {P : Known} (r : Region) (e : ℕ) (v : Carried A) → Entails P (threw_fact e) → Entails P (fits v) → Entails P (reason_fits r (Threw e v))
  unfolding reason_fits threw_fact fits
  threw_fits r e v h k = record { by = λ n p. L.throw_reason r e v n (h.by n p) (k.by n p) }

  pub of_returned : {P : Known} (r : Region) (e : ℕ) (v : Carried A) → Entails P (reason_fits r (Returned e v)) → Entails P (fits v)
  unfolding reason_fits fits
  of_returned r e v h = record { by = λ n p. (L.of_return r e v n (h.by n p)).1 }

  pub left_at : {P : Known} (r : Region) (e : ℕ) (v : Carried A) → Entails P (reason_fits r (Returned e v)) → Entails P (left_fact e)
  unfolding reason_fits left_fact
  left_at r e v h = record { by = λ n p. (L.of_return r e v n (h.by n p)).0 }

  pub of_jumped : {P : Known} (r q : Region) (target e : ℕ) → Entails P (reason_fits r (Jumped target e)) → Entails P (reason_fits q (Jumped target e))
  unfolding reason_fits
  of_jumped r q target e h = record { by = λ n p. L.jump_reason q target e n (L.of_jump r target e n (h.by n p)) }

  pub of_threw : {P : Known} (r : Region) (e : ℕ) (v : Carried A) → Entails P (reason_fits r (Threw e v)) → Entails P (fits v)
  unfolding reason_fits fits
  of_threw r e v h = record { by = λ n p. (L.of_throw r e v n (h.by n p)).1 }

  pub threw_at : {P : Known} (r : Region) (e : ℕ) (v : Carried A) → Entails P (reason_fits r (Threw e v)) → Entails P (threw_fact e)
  unfolding reason_fits threw_fact
  threw_at r e v h = record { by = λ n p. (L.of_throw r e v n (h.by n p)).0 }

  -- ---- values

  pub plain_value : {P : Known} (v : Value) → IsNoReference v → Entails P (value_fact v)
  unfolding value_fact
  plain_value v h = record { by = λ n p. L.plain_value v h n }

  pub carried_value : {P : Known} (c : Carried A) → Entails P (fits c) → Entails P (value_fact c.value)
  unfolding value_fact fits
  carried_value c e = record { by = λ n p. L.carried_value c n (e.by n p) }

  pub object_value : {P : Known} (e : Made A) → Entails P (made_fit kind.New e) → Entails P (value_fact (val.Object e.number))
  unfolding value_fact made_fit
  object_value e h = record { by = λ n p. L.object_value e n (h.by n p) }

  pub text_value : {P : Known} (e : Made A) → Entails P (made_fit kind.Text e) → Entails P (value_fact (val.Text e.number))
  unfolding value_fact made_fit
  text_value e h = record { by = λ n p. L.text_value e n (h.by n p) }

  pub object_at : {P : Known} (k : ℕ) → Entails P (value_fact (val.Object k)) → Entails P (object_fact k)
  unfolding value_fact object_fact
  object_at k e = record { by = λ n p. L.object_at k n (e.by n p) }

  pub at_new : {P : Known} (e : Made A) → Entails P (made_fit kind.New e) → Entails P (object_fact e.number)
  at_new e h = object_at e.number (object_value e h)

  pub at_call : {P : Known} (m : ℕ) (e : Made A) → Entails P (made_fit kind.Call e) → Entails P (body_fact (OfCall m) e.number)
  unfolding made_fit body_fact
  at_call m e h = record { by = λ n p. L.call_made m e n (h.by n p) }

  pub at_init : {P : Known} (c : ℕ) (e : Made A) → Entails P (made_fit kind.Init e) → Entails P (body_fact (OfInit c) e.number)
  unfolding made_fit body_fact
  at_init c e h = record { by = λ n p. L.init_made c e n (h.by n p) }

  pub at_throw : {P : Known} (e : Made A) → Entails P (made_fit kind.Throw e) → Entails P (threw_fact e.number)
  unfolding made_fit threw_fact
  at_throw e h = record { by = λ n p. L.throw_made e n (h.by n p) }

  pub at_jump : {P : Known} (e : Made A) → Entails P (made_fit kind.Jump e) → Entails P (left_fact e.number)
  unfolding made_fit left_fact
  at_jump e h = record { by = λ n p. L.jump_made e n (h.by n p) }

  pub at_return : {P : Known} (e : Made A) → Entails P (made_fit kind.Return e) → Entails P (left_fact e.number)
  unfolding made_fit left_fact
  at_return e h = record { by = λ n p. L.return_made e n (h.by n p) }

  -- ---- slots

  pub spot_made : {P : Known} (x : Slot) (c : Carried A) → Entails P (slot_fact x) → Entails P (fits c) → Entails P (spot_fits (record { slot = x; parts = c }))
  unfolding spot_fits both
  spot_made x c e f = record { by = λ n h. (e.by n h, f.by n h) }

  pub local_slot : {P : Known} (i : FrameKind) (f k : ℕ) → Entails P (body_fact i f) → Entails P (slot_fact (slot.Local f k))
  unfolding slot_fact body_fact
  local_slot i f k e = record { by = λ n p. L.local_place i f k n (e.by n p) }

  pub frame_slot : {P : Known} (i : FrameKind) (o : Option ℕ) (k : ℕ) → Entails P (frame_fact i o) → Entails P (slot_fact (slot.Local (code_of o) k))
  unfolding slot_fact frame_fact
  frame_slot i o k e = record { by = λ n p. L.current_place i o k n (e.by n p) }

  pub elem_slot : {P : Known} (a k : ℕ) → Entails P (object_fact a) → Entails P (slot_fact (slot.Elem a k))
  unfolding slot_fact object_fact
  elem_slot a k e = record { by = λ n p. L.element_place a k n (e.by n p) }

  pub stored : {P : Known} (x : Slot) (v : Value) → Entails P (slot_fact x) → Entails P (value_fact v) → Entails P (stores_fact x v)
  unfolding slot_fact value_fact stores_fact
  stored x v e f = record { by = λ n p. L.storable x v n (e.by n p) (f.by n p) }

  pub static_slot : {P : Known} (f : ℕ) → Entails P (slot_fact (slot.Static f))
  unfolding slot_fact
  static_slot f = record { by = λ n p. L.static_place f n }

  pub field_slot : {P : Known} (o f : ℕ) → Entails P (object_fact o) → Entails P (slot_fact (slot.Field o f))
  unfolding slot_fact object_fact
  field_slot o f e = record { by = λ n p. L.field_place o f n (e.by n p) }

  pub spot_local : {P : Known} (i : FrameKind) (o : Option ℕ) (k : ℕ) (c : Carried A) → Entails P (frame_fact i o) → Entails P (fits c) → Entails P (spot_fits (record { slot = slot.Local (code_of o) k; parts = c }))
  spot_local i o k c e g = spot_made (slot.Local (code_of o) k) c (frame_slot i o k e) g

  pub spot_static : {P : Known} (f : ℕ) (c : Carried A) → Entails P (fits c) → Entails P (spot_fits (record { slot = slot.Static f; parts = c }))
  spot_static f c g = spot_made (slot.Static f) c (static_slot f) g

  pub spot_field : {P : Known} (o f : ℕ) (c : Carried A) → Entails P (object_fact o) → Entails P (fits c) → Entails P (spot_fits (record { slot = slot.Field o f; parts = c }))
  spot_field o f c e g = spot_made (slot.Field o f) c (field_slot o f e) g

  pub spot_elem : {P : Known} (a k : ℕ) (c : Carried A) → Entails P (object_fact a) → Entails P (fits c) → Entails P (spot_fits (record { slot = slot.Elem a k; parts = c }))
  spot_elem a k c e g = spot_made (slot.Elem a k) c (elem_slot a k e) g

  pub spot_slot : {P : Known} (x : Spot A) → Entails P (spot_fits x) → Entails P (slot_fact x.slot)
  unfolding spot_fits both
  spot_slot x e = record { by = λ n h. (e.by n h).0 }

  pub spot_parts : {P : Known} (x : Spot A) → Entails P (spot_fits x) → Entails P (fits x.parts)
  unfolding spot_fits both
  spot_parts x e = record { by = λ n h. (e.by n h).1 }

  -- ---- carried values

  pub constant_fits : {P : Known} (v : Value) → Entails P (value_fact v) → Entails P (fits (constant v))
  unfolding value_fact fits
  constant_fits v e = record { by = λ n p. L.constant_fits v n (e.by n p) }

  pub with_value_fits : {P : Known} (v : Value) (c : Carried A) → Entails P (value_fact v) → Entails P (fits c) → Entails P (fits (with_value v c))
  unfolding value_fact fits
  with_value_fits v c e f = record { by = λ n p. L.with_value_fits v c n (e.by n p) (f.by n p) }

  pub joined_fits : {P : Known} (v : Value) (x y : Carried A) → Entails P (value_fact v) → Entails P (fits x) → Entails P (fits y) → Entails P (fits (joined v x y))
  unfolding value_fact fits
  joined_fits v x y e f g = record { by = λ n p. L.joined_fits v x y n (e.by n p) (f.by n p) (g.by n p) }

  pub joined_all_fit : {P : Known} (vs : List (Carried A)) → Entails P (all_fit vs) → Entails P (fits (joined_all vs))
  unfolding joined_all
  joined_all_fit [] e = constant_fits val.None (plain_value val.None tt)
  joined_all_fit (v ∷ vs) e = joined_fits val.None v (joined_all vs) (plain_value val.None tt) (first_fits v vs e) (joined_all_fit vs (rest_fit v vs e))

  pub value_of_fits : {P : Known} (k : Kind) (e : Made A) (v : Value) → Entails P (made_fit k e) → IsValued k → Entails P (value_fact v) → Entails P (fits (value_of e v))
  unfolding value_fact made_fit fits
  value_of_fits k e v h t f = record { by = λ n p. L.value_of_fits k e v t n (h.by n p) (f.by n p) }

  pub chosen_fits : {P : Known} (e : Made A) (c : Carried A) → Entails P (made_fit kind.Test e) → Entails P (fits c) → Entails P (fits (chosen e c))
  unfolding made_fit fits
  chosen_fits e c h f = record { by = λ n p. L.chosen_fits e c n (h.by n p) (f.by n p) }

  -- ---- steps

  pub keeps_tick : {r : Region} {P : Known} → Keeps r P tick (λ t. nothing)
  keeps_tick {r = r} {P = P} = record { by = L.ticks r P }

  pub keeps_frame : {i : FrameKind} {P : Known} → Keeps (In i) P frame (frame_fact i)
  unfolding frame_fact
  keeps_frame {i = i} {P = P} = record { by = L.frames i P }

  pub with_event : {r : Region} {Y : Type 0} {P : Known} {S : Y → Known} (n : ℕ) {f : Option Recorded → Run A Y} → ((o : Option Recorded) → Keeps r P (f o) S) → Keeps r P (event_at n >>= f) S
  with_event {r = r} {P = P} n l = keeps_bind (record { by = L.looks r P n (λ o. nothing) (λ o m h e. tt) }) (λ o. weaker (l o) (before _ _ same))

  pub keeps_is_begun : {r : Region} {P : Known} (c : ℕ) → Keeps r P (is_begun c) (λ b. nothing)
  keeps_is_begun {r = r} {P = P} c = record { by = L.gives_less r P (is_begun c) (L.told c) (λ b. nothing) (L.asks r P c) (λ b. trivially) }

  pub keeps_take_elements : {r : Region} {P : Known} (n : ℕ) → Keeps r P (take_elements n) (λ t. nothing)
  keeps_take_elements {r = r} {P = P} n = record { by = L.takes_elements r P n }

  pub keeps_take_units : {r : Region} {P : Known} (n : ℕ) → Keeps r P (take_units n) (λ t. nothing)
  keeps_take_units {r = r} {P = P} n = record { by = L.takes_units r P n }

  pub keeps_next_byte : {r : Region} {P : Known} → Keeps r P next_byte (λ b. nothing)
  keeps_next_byte {r = r} {P = P} = record { by = L.takes_byte r P }

  unfoldable pub read_fact : Slot → Carried A → Known
  read_fact x v = L.read_from x v

  pub of_read : {P : Known} (x : Slot) (v : Carried A) → Entails P (read_fact x v) → Entails P (fits v)
  unfolding read_fact fits
  of_read x v e = record { by = λ n p. L.read_fits x v n (e.by n p) }

  pub with_read_of : {r : Region} {Y : Type 0} {P : Known} {S : Y → Known} (x : Slot) {f : Carried A → Run A Y} → Entails P (slot_fact x) → ((v : Carried A) → Keeps r (both P (read_fact x v)) (f v) S) → Keeps r P (read x >>= f) S
  unfolding slot_fact read_fact
  with_read_of {r = r} {P = P} x e l = keeps_bind (record { by = L.reads r P x e }) l

  pub keeps_declare : {r : Region} {P : Known} (f k : ℕ) → Entails P (slot_fact (slot.Local f k)) → Keeps r P (declare (slot.Local f k)) (λ t. nothing)
  unfolding slot_fact
  keeps_declare {r = r} {P = P} f k e = record { by = L.declares r P f k e }

  pub keeps_scoped : {r : Region} {X : Type 0} {P : Known} {Q : X → Known} {m : Run A X} → Keeps r P m Q → Keeps r P (scoped m) Q
  keeps_scoped {r = r} {P = P} {Q = Q} {m = m} k = record { by = L.scopes r P m Q k.by }

  pub keeps_reaching : {r : Region} {X : Type 0} {P : Known} {Q : X → Known} {m : Run A X} (n : ℕ) → Keeps r P m Q → Keeps r P (reaching n m) Q
  keeps_reaching {r = r} {P = P} {Q = Q} {m = m} n k = record { by = L.reaches r P n m Q k.by }

  pub keeps_in_frame : {r : Region} {i : FrameKind} {X : Type 0} {P : Known} {Q : X → Known} {m : Run A X} (n : ℕ) → Entails P (body_fact i n) → Keeps (Ends i) P m Q → Keeps r P (in_frame n m) Q
  unfolding body_fact
  keeps_in_frame {r = r} {i = i} {P = P} {Q = Q} {m = m} n e k = record { by = L.runs_in r P i n m Q e k.by }

  pub keeps_covered : {r : Region} {P : Known} {m : Run A Unit} (n : ℕ) → Keeps r P m (λ t. nothing) → Keeps r P (covered n m) (λ t. nothing)
  keeps_covered {r = r} {P = P} {m = m} n k = record { by = L.covers r P n m k.by }

  -- ---- events

  kind_made : {r : Region} {P : Known} (d : Draft) (m : Run A (Made A)) → L.keeps r P m (L.made d) → Keeps r P m (made_fit d.kind)
  unfolding made_fit both
  kind_made {r = r} {P = P} d m h = record { by = L.gives_less r P m (L.made d) (L.made_as d.kind) h (λ e. record { by = λ n p. L.made_is d e n p.1 }) }

  records : {r : Region} {P : Known} (d : Draft) (c : Carried A) (m : Run A (Made A)) → Recording L.program d c m → Entails P (value_fact d.value) → Entails P (fits c) → Keeps r P m (made_fit d.kind)
  unfolding value_fact fits made_fit
  records {r = r} {P = P} d c m g v e = kind_made d m (L.records r P d c m g v e)

  enters : {r : Region} {P : Known} (reach : Reach) (d : Draft) (c : Carried A) (m : Run A (Made A)) → Recording L.program d c m → IsControl d.kind → Entails P (value_fact d.value) → Entails P (fits c) → Keeps r P (activating reach m) (made_fit d.kind)
  unfolding value_fact fits made_fit
  enters {r = r} {P = P} reach d c m g t v e = kind_made d _ (L.enters r P reach d c m g t v e)

  writes : {r : Region} {P : Known} (d : Draft) (c : Carried A) → IsWrite d c → Entails P (slot_fact d.slot) → Entails P (stores_fact d.slot d.value) → Entails P (value_fact d.value) → Entails P (fits c) → Keeps r P (note_write d c) (made_fit d.kind)
  unfolding slot_fact stores_fact value_fact fits made_fit
  writes {r = r} {P = P} d c g x y v e = kind_made d _ (L.writes r P d c g x y v e)

  enters_writing : {r : Region} {P : Known} (reach : Reach) (d : Draft) (c : Carried A) → IsWrite d c → IsControl d.kind → Entails P (slot_fact d.slot) → Entails P (stores_fact d.slot d.value) → Entails P (value_fact d.value) → Entails P (fits c) → Keeps r P (activating reach (note_write d c)) (made_fit d.kind)
  unfolding slot_fact stores_fact value_fact fits made_fit
  enters_writing {r = r} {P = P} reach d c g t x y v e = kind_made d _ (L.enters_writing r P reach d c g t x y v e)

  none : {P : Known} → Entails P (value_fact val.None)
  none = plain_value val.None tt

  pub note_throw : {r : Region} {P : Known} (site : ℕ) (v : Value) (c : Carried A) → Entails P (value_fact v) → Entails P (fits c) → Keeps r P (note (plain kind.Throw site v) c) (made_fit kind.Throw)
  unfolding plain
  note_throw site v c ev e = records (plain kind.Throw site v) c _ (noted _ c (a_throw site v c)) ev e

  pub note_return : {r : Region} {P : Known} (site : ℕ) (v : Value) (c : Carried A) → Entails P (value_fact v) → Entails P (fits c) → Keeps r P (note (plain kind.Return site v) c) (made_fit kind.Return)
  unfolding plain
  note_return site v c ev e = records (plain kind.Return site v) c _ (noted _ c (a_return site v c)) ev e

  pub int_value : {P : Known} (v : Value) → IsInt v → Entails P (value_fact v)
  int_value (val.Int z) h = plain_value (val.Int z) tt
  int_value _ h = absurd h

  pub note_byte : {r : Region} {P : Known} (site : ℕ) (v : Value) → IsInt v → Keeps r P (note (plain kind.Read site v) (constant val.None)) (made_fit kind.Read)
  unfolding plain
  note_byte site v h = records (plain kind.Read site v) (constant val.None) _ (noted _ _ (a_read site v h)) (int_value v h) (constant_fits val.None none)

  pub note_jump : {r : Region} {P : Known} (site : ℕ) → Keeps r P (note (plain kind.Jump site val.None) (constant val.None)) (made_fit kind.Jump)
  unfolding plain
  note_jump site = records (plain kind.Jump site val.None) (constant val.None) _ (noted _ _ (a_jump site)) none (constant_fits val.None none)

  pub note_text : {r : Region} {P : Known} (site : ℕ) (units : List ℕ) (c : Carried A) → Entails P (fits c) → Keeps r P (note (spelling site units) c) (made_fit kind.Text)
  unfolding spelling
  note_text site units c e = records (spelling site units) c _ (noted _ c (a_text site units c)) none e

  pub note_test : {r : Region} {P : Known} (reach : Reach) (site n : ℕ) (c : Carried A) → Entails P (fits c) → Keeps r P (activating reach (note (plain kind.Test site (val.Arm n)) c)) (made_fit kind.Test)
  unfolding plain
  note_test reach site n c e = enters reach (plain kind.Test site (val.Arm n)) c _ (noted _ c (a_test site n c)) tt (plain_value (val.Arm n) tt) e

  pub note_call : {r : Region} {P : Known} (reach : Reach) (site entity : ℕ) (c : Carried A) → Entails P (fits c) → Keeps r P (activating reach (note (about kind.Call site entity val.None) c)) (made_fit kind.Call)
  unfolding about
  note_call reach site entity c e = enters reach (about kind.Call site entity val.None) c _ (noted _ c (a_call site entity c)) tt none e

  pub note_set : {r : Region} {P : Known} (site : ℕ) (x : Slot) (v : Value) (c : Carried A) → Entails P (slot_fact x) → Entails P (stores_fact x v) → Entails P (value_fact v) → Entails P (fits c) → Keeps r P (note_write (into kind.Set site x v) c) (made_fit kind.Set)
  unfolding into
  note_set site x v c es et ev e = writes (into kind.Set site x v) c (a_set site x v c) es et ev e

  pub note_bind : {r : Region} {P : Known} (site f k : ℕ) (v : Value) (c : Carried A) → Entails P (slot_fact (slot.Local f k)) → Entails P (stores_fact (slot.Local f k) v) → Entails P (value_fact v) → Entails P (fits c) → Keeps r P (note_write (into kind.Bind site (slot.Local f k) v) c) (made_fit kind.Bind)
  unfolding into
  note_bind site f k v c es et ev e = writes (into kind.Bind site (slot.Local f k) v) c (a_bind site f k v c) es et ev e

  pub note_catch : {r : Region} {P : Known} (reach : Reach) (site f k : ℕ) (v : Value) (c : Carried A) → Entails P (slot_fact (slot.Local f k)) → Entails P (stores_fact (slot.Local f k) v) → Entails P (value_fact v) → Entails P (fits c) → Keeps r P (activating reach (note_write (into kind.Catch site (slot.Local f k) v) c)) (made_fit kind.Catch)
  unfolding into
  note_catch reach site f k v c es et ev e = enters_writing reach (into kind.Catch site (slot.Local f k) v) c (a_catch site f k v c) tt es et ev e

  pub keeps_printed : {r : Region} {P : Known} (site : ℕ) (v : Value) (c : Carried A) (bytes : List ℕ) → Entails P (value_fact v) → Entails P (fits c) → Keeps r P (room_for_output bytes >> (note (plain kind.Print site v) c >>= (λ e. write_out bytes))) (λ t. nothing)
  unfolding value_fact fits plain
  keeps_printed {r = r} {P = P} site v c bytes ev e = record { by = L.prints r P (plain kind.Print site v) c bytes (a_print site v c) ev e }

  -- in the program of the law
  pub note_object : {r : Region} {P : Known} (p : Program) → p ≡ L.program → (site code : ℕ) (c : Carried A) → Entails P (fits c) → Keeps r P (note_new p (about kind.New site code val.None) c) (made_fit kind.New)
  unfolding about
  note_object {r = r} {P = P} p is site code c e = subst (λ q. Keeps r P (note_new q (about kind.New site code val.None) c) (made_fit kind.New)) (sym is) (records (about kind.New site code val.None) c _ (created _ c (an_object site code c)) none e)

  pub note_array : {r : Region} {P : Known} (p : Program) → p ≡ L.program → (site code n : ℕ) (c : Carried A) → Entails P (fits c) → Keeps r P (note_new p (about kind.New site code (val.Int (pos n))) c) (made_fit kind.New)
  unfolding about
  note_array {r = r} {P = P} p is site code n c e = subst (λ q. Keeps r P (note_new q (about kind.New site code (val.Int (pos n))) c) (made_fit kind.New)) (sym is) (records (about kind.New site code (val.Int (pos n))) c _ (created _ c (an_array site code n c)) (plain_value (val.Int (pos n)) tt) e)

  pub note_init : {r : Region} {P : Known} (p : Program) → p ≡ L.program → (reach : Reach) (site class : ℕ) → Keeps r P (activating reach (note_new p (about kind.Init site class val.None) (constant val.None))) (made_fit kind.Init)
  unfolding about
  note_init {r = r} {P = P} p is reach site class = subst (λ q. Keeps r P (activating reach (note_new q (about kind.Init site class val.None) (constant val.None))) (made_fit kind.Init)) (sym is) (enters reach (about kind.Init site class val.None) (constant val.None) _ (created _ _ (an_init site class)) tt none (constant_fits val.None none))
