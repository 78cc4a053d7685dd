-- A run that carries sets, with the sets taken away, is the run that carries nothing: step by step.
use Rattle.std.proofs.Common.{◌≡◌, ℕ, zero, suc, ◌+◌, Bool, true, false, nat_eq, nat_le, nat_lt, List, [], ◌∷◌, ◌++◌, length, Option, Some, refl, sym, ap, ap₂, ◌∙◌, subst}
use Rattle.std.specs.Prelude.{None as Absent}
use Rattle.std.specs.Prelude.{map, if◌then◌else◌}
use Rattle.std.proofs.lemmas.List.{length-map}
use mathlib.Core.Path.{fun_ext}
use Rattle.wy_kernel.specs.declared.types.Ty.{Ty}
use Rattle.wy_kernel.specs.Program.{Program}
use Rattle.wy_value.specs.declared.value.Value.{Value}
use Rattle.wy_value.specs.declared.value.Value.TheVariants.{None as Nothing}
use Rattle.wy_event.specs.declared.record.Slot.{Slot}
use Rattle.wy_event.specs.declared.record.Use.TheVariants.{Place}
use Rattle.wy_event.specs.Record.{Recorded, same_slot}
use Rattle.wy_event.specs.Sources.{creates}
use Rattle.wy_steps.specs.Sets.{Sets, nothing}
use Rattle.wy_steps.specs.State.{Carried, Held, Store, Noted, Active, Reach, State, Stop, Reason, Jumped, Returned, Threw, Outcome, Done, Left, Stopped, Run, go_on, ◌>>=◌, ◌>>◌, return, leave, stop, go_on_left, catching, choose}
use Rattle.wy_kernel.specs.Limits.{event_limit, use_limit, element_limit, unit_limit, output_limit}
use Rattle.wy_steps.specs.Steps.{constant, joined, joined_all, Made, pay, tick, steps_left, frame, event_in, event_at, is_init_of, has_init, is_begun, held_of, read, slot_with, declare, no_value, Draft, parent, next_event, made, with_event, room_for, noting, note, held_by, with_stored, writing, note_write, default_in, owner_in, if_empty, with_created, creating, note_new, with_active, entered, go_in, activating, active_again, scoped, ends_with, outlasting, without, end_reaches, reaching, frame_again, in_frame, with_elements, take_elements, with_units, take_units, room_for_output, write_out, take_byte, next_byte, covering, begun, left_by, event_of, arrives, end_normally, be_left, cover_end, covered}
use Rattle.wy_meaning.specs.Place.{Spot}

module _ (A : Sets) where
  abbrev pub value_erased : Carried A → Carried nothing
  value_erased v = record { value = v.value; uses = v.uses; from_data = tt; from_all = tt }

  abbrev pub made_erased : Made A → Made nothing
  made_erased e = record { number = e.number; from_data = tt; from_all = tt }

  abbrev pub spot_erased : Spot A → Spot nothing
  spot_erased x = record { slot = x.slot; parts = value_erased x.parts }

  abbrev pub held_erased : Option (Held A) → Option (Held nothing)
  held_erased Absent = Absent
  held_erased (Some h) = Some (record { value = h.value; from_data = tt; from_all = tt })

  abbrev pub store_erased : Store A → Store nothing
  store_erased store x = held_erased (store x)

  abbrev pub noted_erased : Noted A → Noted nothing
  noted_erased e = record { event = e.event; from_data = tt; from_all = tt; before = store_erased e.before }

  abbrev pub active_erased : Active A → Active nothing
  active_erased a = record { number = a.number; from_all = tt; reach = a.reach }

  abbrev pub all_erased : List (Carried A) → List (Carried nothing)
  all_erased [] = []
  all_erased (v ∷ vs) = value_erased v ∷ all_erased vs

  abbrev pub option_erased : Option (Carried A) → Option (Carried nothing)
  option_erased Absent = Absent
  option_erased (Some v) = Some (value_erased v)

  abbrev pub reason_erased : Reason A → Reason nothing
  reason_erased (Jumped target e) = Jumped target e
  reason_erased (Returned e v) = Returned e (value_erased v)
  reason_erased (Threw e v) = Threw e (value_erased v)

  abbrev pub state_erased : State A → State nothing
  state_erased s = record {
    store = store_erased s.store;
    noted = map noted_erased s.noted;
    active = map active_erased s.active;
    frame = s.frame;
    left = s.left;
    uses = s.uses;
    elements = s.elements;
    units = s.units;
    output = s.output;
    input = s.input;
    coverage = s.coverage;
  }

  abbrev pub erased : {X Y : Type 0} → (X → Y) → Outcome A X → Outcome nothing Y
  erased f (Done x s) = Done (f x) (state_erased s)
  erased f (Left why s) = Left (reason_erased why) (state_erased s)
  erased f (Stopped why s) = Stopped why (state_erased s)

  abbrev pub plain : {X : Type 0} → X → X
  plain x = x

  -- the second is the first with the sets taken away
  pub record Erases {X Y : Type 0} (f : X → Y) (m : Run A X) (k : Run nothing Y) : Type 0 where
    pub by : (s : State A) → k (state_erased s) ≡ erased f (m s)

  go_on_erases : {X X' Y Y' : Type 0} (e : X → X') (d : Y → Y') (o : Outcome A X) (f : X → Run A Y) (g : X' → Run nothing Y') → ((x : X) → Erases d (f x) (g (e x))) → go_on (erased e o) g ≡ erased d (go_on o f)
  unfolding go_on
  go_on_erases e d (Done x s) f g h = (h x).by s
  go_on_erases e d (Left why s) f g h = refl
  go_on_erases e d (Stopped why s) f g h = refl

  pub erases_bind : {X X' Y Y' : Type 0} {e : X → X'} {d : Y → Y'} {m : Run A X} {k : Run nothing X'} {f : X → Run A Y} (g : X' → Run nothing Y') → Erases e m k → ((x : X) → Erases d (f x) (g (e x))) → Erases d (m >>= f) (k >>= g)
  unfolding ◌>>=◌
  erases_bind {e = e} {d = d} {m = m} {k = k} {f = f} g h l = record { by = λ s. ap (λ o. go_on o g) (h.by s) ∙ go_on_erases e d (m s) f g l }

  pub after : {Y Y' : Type 0} {d : Y → Y'} {m : Run A Unit} {k : Run nothing Unit} {f : Run A Y} {g : Run nothing Y'} → Erases plain m k → Erases d f g → Erases d (m >> f) (k >> g)
  unfolding ◌>>◌
  after h l = erases_bind _ h (λ x. l)

  pub then_unit : {Y Y' : Type 0} {d : Y → Y'} {m : Run A Unit} {k : Run nothing Unit} {f : Unit → Run A Y} {g : Unit → Run nothing Y'} → Erases plain m k → ((t : Unit) → Erases d (f t) (g t)) → Erases d (m >>= f) (k >>= g)
  then_unit h l = erases_bind _ h l

  pub with_number : {Y Y' : Type 0} {d : Y → Y'} {m : Run A ℕ} {k : Run nothing ℕ} {f : ℕ → Run A Y} {g : ℕ → Run nothing Y'} → Erases plain m k → ((n : ℕ) → Erases d (f n) (g n)) → Erases d (m >>= f) (k >>= g)
  with_number h l = erases_bind _ h l

  pub with_option : {Y Y' : Type 0} {d : Y → Y'} {m : Run A (Option ℕ)} {k : Run nothing (Option ℕ)} {f : Option ℕ → Run A Y} {g : Option ℕ → Run nothing Y'} → Erases plain m k → ((n : Option ℕ) → Erases d (f n) (g n)) → Erases d (m >>= f) (k >>= g)
  with_option h l = erases_bind _ h l

  pub with_record : {Y Y' : Type 0} {d : Y → Y'} {m : Run A (Option Recorded)} {k : Run nothing (Option Recorded)} {f : Option Recorded → Run A Y} {g : Option Recorded → Run nothing Y'} → Erases plain m k → ((n : Option Recorded) → Erases d (f n) (g n)) → Erases d (m >>= f) (k >>= g)
  with_record h l = erases_bind _ h l

  pub with_flag : {Y Y' : Type 0} {d : Y → Y'} {m : Run A Bool} {k : Run nothing Bool} {f : Bool → Run A Y} {g : Bool → Run nothing Y'} → Erases plain m k → ((n : Bool) → Erases d (f n) (g n)) → Erases d (m >>= f) (k >>= g)
  with_flag h l = erases_bind _ h l

  pub with_type : {Y Y' : Type 0} {d : Y → Y'} {m : Run A Ty} {k : Run nothing Ty} {f : Ty → Run A Y} {g : Ty → Run nothing Y'} → Erases plain m k → ((n : Ty) → Erases d (f n) (g n)) → Erases d (m >>= f) (k >>= g)
  with_type h l = erases_bind _ h l

  pub with_codes : {Y Y' : Type 0} {d : Y → Y'} {m : Run A (List ℕ)} {k : Run nothing (List ℕ)} {f : List ℕ → Run A Y} {g : List ℕ → Run nothing Y'} → Erases plain m k → ((n : List ℕ) → Erases d (f n) (g n)) → Erases d (m >>= f) (k >>= g)
  with_codes h l = erases_bind _ h l

  pub with_carried : {Y Y' : Type 0} {d : Y → Y'} {m : Run A (Carried A)} {k : Run nothing (Carried nothing)} {f : Carried A → Run A Y} (g : Carried nothing → Run nothing Y') → Erases value_erased m k → ((v : Carried A) → Erases d (f v) (g (value_erased v))) → Erases d (m >>= f) (k >>= g)
  with_carried g h l = erases_bind g h l

  pub with_made : {Y Y' : Type 0} {d : Y → Y'} {m : Run A (Made A)} {k : Run nothing (Made nothing)} {f : Made A → Run A Y} (g : Made nothing → Run nothing Y') → Erases made_erased m k → ((e : Made A) → Erases d (f e) (g (made_erased e))) → Erases d (m >>= f) (k >>= g)
  with_made g h l = erases_bind g h l

  pub with_spot : {Y Y' : Type 0} {d : Y → Y'} {m : Run A (Spot A)} {k : Run nothing (Spot nothing)} {f : Spot A → Run A Y} (g : Spot nothing → Run nothing Y') → Erases spot_erased m k → ((x : Spot A) → Erases d (f x) (g (spot_erased x))) → Erases d (m >>= f) (k >>= g)
  with_spot g h l = erases_bind g h l

  pub with_all : {Y Y' : Type 0} {d : Y → Y'} {m : Run A (List (Carried A))} {k : Run nothing (List (Carried nothing))} {f : List (Carried A) → Run A Y} (g : List (Carried nothing) → Run nothing Y') → Erases all_erased m k → ((vs : List (Carried A)) → Erases d (f vs) (g (all_erased vs))) → Erases d (m >>= f) (k >>= g)
  with_all g h l = erases_bind g h l

  pub erases_return : {X Y : Type 0} {e : X → Y} (x : X) (y : Y) → y ≡ e x → Erases e (return x) (return y)
  unfolding return
  erases_return x y h = record { by = λ s. ap (λ z. Done z (state_erased s)) h }

  pub erases_leave : {X Y : Type 0} {e : X → Y} (why : Reason A) (why' : Reason nothing) → why' ≡ reason_erased why → Erases e (leave why) (leave why')
  unfolding leave
  erases_leave why why' h = record { by = λ s. ap (λ z. Left z (state_erased s)) h }

  pub erases_stop : {X Y : Type 0} {e : X → Y} (why : Stop) → Erases e (stop why) (stop why)
  unfolding stop
  erases_stop why = record { by = λ s. refl }

  left_erases : {X Y : Type 0} (e : X → Y) (o : Outcome A X) (f : Reason A → Run A X) (g : Reason nothing → Run nothing Y) → ((why : Reason A) → Erases e (f why) (g (reason_erased why))) → go_on_left (erased e o) g ≡ erased e (go_on_left o f)
  unfolding go_on_left
  left_erases e (Done x s) f g h = refl
  left_erases e (Left why s) f g h = (h why).by s
  left_erases e (Stopped why s) f g h = refl

  pub erases_catching : {X Y : Type 0} {e : X → Y} {m : Run A X} {k : Run nothing Y} {f : Reason A → Run A X} (g : Reason nothing → Run nothing Y) → Erases e m k → ((why : Reason A) → Erases e (f why) (g (reason_erased why))) → Erases e (catching m f) (catching k g)
  unfolding catching
  erases_catching {e = e} {m = m} {f = f} g h l = record { by = λ s. ap (λ o. go_on_left o g) (h.by s) ∙ left_erases e (m s) f g l }

  pub erases_choose : {X Y : Type 0} {e : X → Y} {m n : Run A X} {k l : Run nothing Y} (b : Bool) → Erases e m k → Erases e n l → Erases e (choose b m n) (choose b k l)
  unfolding choose
  erases_choose true h i = h
  erases_choose false h i = i

  chosen_either : {X Y : Type 0} (e : X → Y) (m n : Run A X) (k l : Run nothing Y) (d : Bool) (s : State A) → k (state_erased s) ≡ erased e (m s) → l (state_erased s) ≡ erased e (n s) → choose d k l (state_erased s) ≡ erased e (choose d m n s)
  unfolding choose
  chosen_either e m n k l true s h i = h
  chosen_either e m n k l false s h i = i

  choose_at : {X Y : Type 0} (e : X → Y) (m n : Run A X) (k l : Run nothing Y) (b c : Bool) (s : State A) → c ≡ b → k (state_erased s) ≡ erased e (m s) → l (state_erased s) ≡ erased e (n s) → choose c k l (state_erased s) ≡ erased e (choose b m n s)
  choose_at e m n k l b c s is h i = ap (λ d. choose d k l (state_erased s)) is ∙ chosen_either e m n k l b s h i

  pub pay_erases : (n : ℕ) (s : State A) → pay n (state_erased s) ≡ erased plain (pay n s)
  unfolding pay
  pay_erases zero s = refl
  pay_erases (suc n) s = refl

  pub erases_tick : Erases plain tick tick
  unfolding tick
  erases_tick = record { by = λ s. pay_erases s.left s }

  pub erases_steps_left : Erases plain steps_left steps_left
  unfolding steps_left
  erases_steps_left = record { by = λ s. refl }

  pub erases_frame : Erases plain frame frame
  unfolding frame
  erases_frame = record { by = λ s. refl }

  length_same : (noted : List (Noted A)) → length (map noted_erased noted) ≡ length noted
  length_same noted = length-map noted noted_erased

  event_in_same : (noted : List (Noted A)) (n : ℕ) → event_in (map noted_erased noted) n ≡ event_in noted n
  unfolding event_in
  event_in_same [] n = refl
  event_in_same (e ∷ rest) n = ap₂ (λ k o. if nat_eq n k then Some e.event else o) (length_same rest) (event_in_same rest n)

  pub erases_event_at : (n : ℕ) → Erases plain (event_at n) (event_at n)
  unfolding event_at
  erases_event_at n = record { by = λ s. ap (λ o. Done o (state_erased s)) (event_in_same s.noted n) }

  has_init_same : (c : ℕ) (noted : List (Noted A)) → has_init c (map noted_erased noted) ≡ has_init c noted
  unfolding has_init
  has_init_same c [] = refl
  has_init_same c (e ∷ rest) = ap (λ o. if is_init_of c e.event.kind e.event.entity then true else o) (has_init_same c rest)

  pub erases_is_begun : (c : ℕ) → Erases plain (is_begun c) (is_begun c)
  unfolding is_begun
  erases_is_begun c = record { by = λ s. ap (λ o. Done o (state_erased s)) (has_init_same c s.noted) }

  held_value : (o : Option (Held A)) → (held_of (held_erased o)).value ≡ (held_of o).value
  unfolding held_of
  held_value Absent = refl
  held_value (Some h) = refl

  value_read : Slot → Value → ℕ → Carried nothing
  value_read x v n = record { value = v; uses = Place x n ∷ []; from_data = tt; from_all = tt }

  pub erases_read : (x : Slot) → Erases value_erased (read x) (read x)
  unfolding read value_read
  erases_read x = record { by = λ s. ap₂ (λ v n. Done (value_read x v n) (state_erased s)) (held_value (s.store x)) (length_same s.noted) }

  no_value_same : (b : Bool) (o : Option (Held A)) → (if b then no_value (held_erased o) else held_erased o) ≡ held_erased (if b then no_value o else o)
  unfolding no_value
  no_value_same true Absent = refl
  no_value_same true (Some h) = refl
  no_value_same false o = refl

  pub erases_declare : (x : Slot) → Erases plain (declare x) (declare x)
  unfolding declare
  erases_declare x = record { by = λ s. ap (λ st. Done tt (record (state_erased s) { store = st })) (fun_ext (λ y. no_value_same (same_slot y x) (s.store y))) }

  -- ---- events

  parent_same : (entries : List (Active A)) → parent (map active_erased entries) ≡ parent entries
  unfolding parent
  parent_same [] = refl
  parent_same (a ∷ rest) = refl

  event_same : (d : Draft) (c : Carried A) (s : State A) → next_event d (value_erased c) (state_erased s) ≡ noted_erased (next_event d c s)
  unfolding next_event
  event_same d c s = ap (λ q. record {
    event = record { kind = d.kind; site = d.site; frame = s.frame; control = q; entity = d.entity; slot = d.slot; value = d.value; units = d.units; uses = c.uses };
    from_data = tt;
    from_all = tt;
    before = store_erased s.store;
  }) (parent_same s.active)

  made_same : (e : Noted A) (s : State A) → made (noted_erased e) (state_erased s) ≡ made_erased (made e s)
  unfolding made
  made_same e s = ap (λ n. record { number = n; from_data = tt; from_all = tt }) (length_same s.noted)

  room_erases : {X Y : Type 0} (e : X → Y) (c : Carried A) (m : Run A X) (k : Run nothing Y) (s : State A) → k (state_erased s) ≡ erased e (m s) → room_for (value_erased c) k (state_erased s) ≡ erased e (room_for c m s)
  unfolding room_for stop
  room_erases e c m k s h = choose_at e _ _ _ _ (nat_lt (length s.noted) event_limit) _ s (ap (λ n. nat_lt n event_limit) (length_same s.noted))
      (chosen_either e m _ k _ (nat_le (s.uses + length c.uses) use_limit) s h refl) refl

  noting_same : (d : Draft) (c : Carried A) (s : State A) → noting d (value_erased c) (state_erased s) ≡ erased made_erased (noting d c s)
  unfolding noting with_event
  noting_same d c s =
      ap (λ e. Done (made e (state_erased s)) (with_event e (state_erased s))) (event_same d c s)
      ∙ ap (λ m. Done m (state_erased (with_event (next_event d c s) s))) (made_same (next_event d c s) s)

  pub erases_note : (d : Draft) (c : Carried A) → Erases made_erased (note d c) (note d (value_erased c))
  unfolding note
  erases_note d c = record { by = λ s. room_erases made_erased c (noting d c) (noting d (value_erased c)) s (noting_same d c s) }

  stored_same : (b : Bool) (h : Held A) (o : Option (Held A)) → (if b then held_erased (Some h) else held_erased o) ≡ held_erased (if b then Some h else o)
  stored_same true h o = refl
  stored_same false h o = refl

  written_same : (x : Slot) (h : Held A) (store : Store A) → slot_with x (record { value = h.value; from_data = tt; from_all = tt }) (store_erased store) ≡ store_erased (slot_with x h store)
  unfolding slot_with
  written_same x h store = fun_ext (λ y. stored_same (same_slot y x) h (store y))

  writing_same : (d : Draft) (c : Carried A) (s : State A) → writing d (value_erased c) (state_erased s) ≡ erased made_erased (writing d c s)
  unfolding writing with_event with_stored held_by
  writing_same d c s =
      ap (λ e. Done (made e (state_erased s)) (with_stored d.slot (held_by d.value e) (with_event e (state_erased s)))) (event_same d c s)
      ∙ ap (λ m. Done m (with_stored d.slot (held_by d.value (noted_erased (next_event d c s))) (with_event (noted_erased (next_event d c s)) (state_erased s)))) (made_same (next_event d c s) s)
      ∙ ap (λ st. Done (made_erased (made (next_event d c s) s)) (record (with_event (noted_erased (next_event d c s)) (state_erased s)) { store = st })) (written_same d.slot (held_by d.value (next_event d c s)) s.store)

  pub erases_note_write : (d : Draft) (c : Carried A) → Erases made_erased (note_write d c) (note_write d (value_erased c))
  unfolding note_write
  erases_note_write d c = record { by = λ s. room_erases made_erased c (writing d c) (writing d (value_erased c)) s (writing_same d c s) }

  created_same : (b : Bool) (v : Value) (e : Noted A) (o : Option (Held A)) → if_empty (held_erased o) (if b then Some (held_by v (noted_erased e)) else Absent) ≡ held_erased (if_empty o (if b then Some (held_by v e) else Absent))
  unfolding if_empty held_by
  created_same b v e (Some h) = refl
  created_same true v e Absent = refl
  created_same false v e Absent = refl

  creating_same : (p : Program) (d : Draft) (c : Carried A) (s : State A) → creating p d (value_erased c) (state_erased s) ≡ erased made_erased (creating p d c s)
  unfolding creating with_event with_created
  creating_same p d c s =
      ap (λ e. Done (made e (state_erased s)) (with_created p (length (map noted_erased s.noted)) e (with_event e (state_erased s)))) (event_same d c s)
      ∙ ap (λ m. Done m (with_created p (length (map noted_erased s.noted)) (noted_erased (next_event d c s)) (with_event (noted_erased (next_event d c s)) (state_erased s)))) (made_same (next_event d c s) s)
      ∙ ap (λ n. Done (made_erased (made (next_event d c s) s)) (with_created p n (noted_erased (next_event d c s)) (with_event (noted_erased (next_event d c s)) (state_erased s)))) (length_same s.noted)
      ∙ ap (λ st. Done (made_erased (made (next_event d c s) s)) (record (with_event (noted_erased (next_event d c s)) (state_erased s)) { store = st }))
      (fun_ext (λ y. created_same (creates (owner_in p) (length s.noted) y (next_event d c s).event) (default_in p (next_event d c s).event y) (next_event d c s) (s.store y)))

  pub erases_note_new : (p : Program) (d : Draft) (c : Carried A) → Erases made_erased (note_new p d c) (note_new p d (value_erased c))
  unfolding note_new
  erases_note_new p d c = record { by = λ s. room_erases made_erased c (creating p d c) (creating p d (value_erased c)) s (creating_same p d c s) }

  -- ---- active entries, frames and coverage

  go_in_erases : (reach : Reach) (o : Outcome A (Made A)) → go_in reach (erased made_erased o) ≡ erased made_erased (go_in reach o)
  unfolding go_in entered with_active
  go_in_erases reach (Done e s) = refl
  go_in_erases reach (Left why s) = refl
  go_in_erases reach (Stopped why s) = refl

  pub erases_activating : {m : Run A (Made A)} {k : Run nothing (Made nothing)} (reach : Reach) → Erases made_erased m k → Erases made_erased (activating reach m) (activating reach k)
  unfolding activating
  erases_activating {m = m} reach h = record { by = λ s. ap (go_in reach) (h.by s) ∙ go_in_erases reach (m s) }

  again_erases : {X Y : Type 0} (e : X → Y) (entries : List (Active A)) (o : Outcome A X) → active_again (map active_erased entries) (erased e o) ≡ erased e (active_again entries o)
  unfolding active_again
  again_erases e entries (Done x s) = refl
  again_erases e entries (Left why s) = refl
  again_erases e entries (Stopped why s) = refl

  pub erases_scoped : {X Y : Type 0} {e : X → Y} {m : Run A X} {k : Run nothing Y} → Erases e m k → Erases e (scoped m) (scoped k)
  unfolding scoped
  erases_scoped {e = e} {m = m} h = record { by = λ s. ap (active_again (map active_erased s.active)) (h.by s) ∙ again_erases e s.active (m s) }

  outlasting_same : (f : Option ℕ) (n : ℕ) (entries : List (Active A)) → outlasting f n (map active_erased entries) ≡ map active_erased (outlasting f n entries)
  unfolding outlasting
  outlasting_same f n [] = refl
  outlasting_same f n (a ∷ rest) = go (ends_with f n a.reach) (outlasting_same f n rest)
    where
      go : (b : Bool) → outlasting f n (map active_erased rest) ≡ map active_erased (outlasting f n rest) → (if b then outlasting f n (map active_erased rest) else active_erased a ∷ outlasting f n (map active_erased rest)) ≡ map active_erased (if b then outlasting f n rest else a ∷ outlasting f n rest)
      go true r = r
      go false r = ap (λ l. active_erased a ∷ l) r

  reaches_erase : {X Y : Type 0} (e : X → Y) (f : Option ℕ) (n : ℕ) (o : Outcome A X) → end_reaches f n (erased e o) ≡ erased e (end_reaches f n o)
  unfolding end_reaches without
  reaches_erase e f n (Done x s) = ap (λ l. Done (e x) (record (state_erased s) { active = l })) (outlasting_same f n s.active)
  reaches_erase e f n (Left why s) = ap (λ l. Left (reason_erased why) (record (state_erased s) { active = l })) (outlasting_same f n s.active)
  reaches_erase e f n (Stopped why s) = ap (λ l. Stopped why (record (state_erased s) { active = l })) (outlasting_same f n s.active)

  pub erases_reaching : {X Y : Type 0} {e : X → Y} {m : Run A X} {k : Run nothing Y} (n : ℕ) → Erases e m k → Erases e (reaching n m) (reaching n k)
  unfolding reaching
  erases_reaching {e = e} {m = m} n h = record { by = λ s. ap (end_reaches s.frame n) (h.by s) ∙ reaches_erase e s.frame n (m s) }

  frame_erases : {X Y : Type 0} (e : X → Y) (f : Option ℕ) (o : Outcome A X) → frame_again f (erased e o) ≡ erased e (frame_again f o)
  unfolding frame_again
  frame_erases e f (Done x s) = refl
  frame_erases e f (Left why s) = refl
  frame_erases e f (Stopped why s) = refl

  pub erases_in_frame : {X Y : Type 0} {e : X → Y} {m : Run A X} {k : Run nothing Y} (n : ℕ) → Erases e m k → Erases e (in_frame n m) (in_frame n k)
  unfolding in_frame
  erases_in_frame {e = e} {m = m} n h = record { by = λ s. ap (frame_again s.frame) (h.by (record s { frame = Some n })) ∙ frame_erases e s.frame (m (record s { frame = Some n })) }

  pub erases_take_elements : (n : ℕ) → Erases plain (take_elements n) (take_elements n)
  unfolding take_elements with_elements stop
  erases_take_elements n = record { by = λ s. chosen_either plain _ _ _ _ (nat_le (s.elements + n) element_limit) s refl refl }

  pub erases_take_units : (n : ℕ) → Erases plain (take_units n) (take_units n)
  unfolding take_units with_units stop
  erases_take_units n = record { by = λ s. chosen_either plain _ _ _ _ (nat_le (s.units + n) unit_limit) s refl refl }

  pub erases_room_for_output : (bytes : List ℕ) → Erases plain (room_for_output bytes) (room_for_output bytes)
  unfolding room_for_output return stop
  erases_room_for_output bytes = record { by = λ s. chosen_either plain _ _ _ _ (nat_le (length s.output + length bytes) output_limit) s refl refl }

  pub erases_write_out : (bytes : List ℕ) → Erases plain (write_out bytes) (write_out bytes)
  unfolding write_out
  erases_write_out bytes = record { by = λ s. refl }

  take_byte_same : (bytes : List ℕ) (s : State A) → take_byte bytes (state_erased s) ≡ erased plain (take_byte bytes s)
  unfolding take_byte
  take_byte_same [] s = refl
  take_byte_same (b ∷ rest) s = refl

  pub erases_next_byte : Erases plain next_byte next_byte
  unfolding next_byte
  erases_next_byte = record { by = λ s. take_byte_same s.input s }

  event_of_same : (why : Reason A) → event_of (reason_erased why) ≡ event_of why
  unfolding event_of
  event_of_same (Jumped target e) = refl
  event_of_same (Returned e v) = refl
  event_of_same (Threw e v) = refl

  arrives_same : (n : ℕ) (why : Reason A) → arrives n (reason_erased why) ≡ arrives n why
  unfolding arrives
  arrives_same n (Jumped target e) = refl
  arrives_same n (Returned e v) = refl
  arrives_same n (Threw e v) = refl

  left_same : (n : ℕ) (why : Reason A) (s : State A) → be_left n (reason_erased why) (state_erased s) ≡ erased plain (be_left n why s)
  unfolding be_left covering
  left_same n why s = ap (λ e. Left (reason_erased why) (covering n (left_by e) (state_erased s))) (event_of_same why)

  cover_end_same : (n : ℕ) (o : Outcome A Unit) → cover_end n (erased plain o) ≡ erased plain (cover_end n o)
  unfolding cover_end end_normally covering
  cover_end_same n (Done t s) = refl
  cover_end_same n (Left why s) = choose_at plain (end_normally n) (be_left n why) (end_normally n) (be_left n (reason_erased why)) (arrives n why) (arrives n (reason_erased why)) s (arrives_same n why) refl (left_same n why s)
  cover_end_same n (Stopped why s) = refl

  pub erases_covered : {m : Run A Unit} {k : Run nothing Unit} (n : ℕ) → Erases plain m k → Erases plain (covered n m) (covered n k)
  unfolding covered covering
  erases_covered {m = m} {k = k} n h = record {
    by = λ s.
        ap (λ j. cover_end n (k (covering n (begun j) (state_erased s)))) (length_same s.noted)
        ∙ ap (cover_end n) (h.by (covering n (begun (length s.noted)) s)) ∙ cover_end_same n (m (covering n (begun (length s.noted)) s));
  }

  pub joined_all_same : (vs : List (Carried A)) → joined_all (all_erased vs) ≡ value_erased (joined_all vs)
  unfolding joined_all joined constant
  joined_all_same [] = refl
  joined_all_same (v ∷ vs) = ap (joined Nothing (value_erased v)) (joined_all_same vs)

pub ruleset steps = (refl, after, then_unit, with_number, with_option, with_record, with_flag, with_type, with_codes, with_carried, with_made, with_spot, with_all, erases_return, erases_leave, erases_stop, erases_catching, erases_choose, erases_tick, erases_steps_left, erases_frame, erases_event_at, erases_is_begun, erases_read, erases_declare, erases_note, erases_note_write, erases_note_new, erases_activating, erases_scoped, erases_reaching, erases_in_frame, erases_take_elements, erases_take_units, erases_room_for_output, erases_write_out, erases_next_byte, erases_covered)
