-- What each step of a run, and what is put together of such steps, takes of the steps that are left.
use Rattle.std.proofs.Common.{◌≡◌, ℕ, zero, suc, ◌+◌, Bool, true, false, ◌≤◌, List, [], ◌∷◌, length, Option, Some, refl, sym, le_refl, arith}
use Rattle.std.specs.Prelude.{nat_le, nat_lt}
use Rattle.wy_kernel.specs.Program.{Program}
use Rattle.wy_event.specs.declared.record.Slot.{Slot}
use Rattle.wy_steps.specs.Sets.{Sets}
use Rattle.wy_steps.specs.State.{Carried, Active, Reach, State, Stop, StepLimit, EventLimit, UseLimit, ElementLimit, UnitLimit, OutputLimit, DepthLimit, Unassigned, FellOff, InitFailed, Reason, Outcome, Done, Left, Stopped, Run, go_on, ◌>>=◌, ◌>>◌, return, leave, stop, go_on_left, catching, choose}
use Rattle.wy_kernel.specs.Limits.{event_limit, use_limit, element_limit, unit_limit, output_limit}
use Rattle.wy_steps.specs.Steps.{Made, pay, tick, steps_left, frame, event_at, is_begun, read, declare, Draft, with_event, room_for, noting, note, with_stored, writing, note_write, with_created, creating, note_new, with_active, entered, go_in, activating, active_again, scoped, without, end_reaches, reaching, frame_again, in_frame, with_elements, take_elements, with_units, take_units, room_for_output, write_out, take_byte, next_byte, covering, begun, arrives, end_normally, be_left, cover_end, covered}

-- the step limit stops a run only when no step is left
abbrev pub IsDue : Stop → (left : ℕ) → Type 0
IsDue StepLimit left = left ≡ 0
IsDue _ left = Unit {0}

module _ (A : Sets) where
  -- at most n steps are left, and none where the step limit stopped
  abbrev pub Within : {X : Type 0} → ℕ → Outcome A X → Type 0
  Within n (Done x s) = s.left ≤ n
  Within n (Left why s) = s.left ≤ n
  Within n (Stopped why s) = (s.left ≤ n) × IsDue why s.left

  -- where it goes through, fewer than n steps are left
  abbrev pub Fewer : {X : Type 0} → ℕ → Outcome A X → Type 0
  Fewer n (Done x s) = suc s.left ≤ n
  Fewer n (Left why s) = Unit {0}
  Fewer n (Stopped why s) = Unit {0}

  -- what a run needs is taken of the steps that are left
  pub record Paid {X : Type 0} (m : Run A X) : Type 0 where
    pub within : (s : State A) → Within s.left (m s)

  -- and it needs at least one step
  pub record Taking {X : Type 0} (m : Run A X) : Type 0 where
    pub paid : Paid m
    pub fewer : (s : State A) → Fewer s.left (m s)

  -- ---- putting together

  widen : {X : Type 0} (n k : ℕ) (o : Outcome A X) → n ≤ k → Within n o → Within k o
  widen n k (Done x s) le h = omega (arith, le, h)
  widen n k (Left why s) le h = omega (arith, le, h)
  widen n k (Stopped why s) le h = let h0 = h.0 in (omega (arith, le, h0), h.1)

  fewer_of : {X : Type 0} (n k : ℕ) (o : Outcome A X) → suc n ≤ k → Within n o → Fewer k o
  fewer_of n k (Done x s) le h = omega (arith, le, h)
  fewer_of n k (Left why s) le h = tt
  fewer_of n k (Stopped why s) le h = tt

  go_on_within : {X Y : Type 0} (n : ℕ) (o : Outcome A X) (f : X → Run A Y) → Within n o → ((x : X) (s : State A) → s.left ≤ n → Within s.left (f x s)) → Within n (go_on o f)
  unfolding go_on
  go_on_within n (Done x s) f h k = widen s.left n (f x s) h (k x s h)
  go_on_within n (Left why s) f h k = h
  go_on_within n (Stopped why s) f h k = h

  go_on_fewer : {X Y : Type 0} (n : ℕ) (o : Outcome A X) (f : X → Run A Y) → Within n o → Fewer n o → ((x : X) (s : State A) → suc s.left ≤ n → Within s.left (f x s)) → Within n (go_on o f)
  unfolding go_on
  go_on_fewer n (Done x s) f h j k = widen s.left n (f x s) h (k x s j)
  go_on_fewer n (Left why s) f h j k = h
  go_on_fewer n (Stopped why s) f h j k = h

  go_on_taking : {X Y : Type 0} (n : ℕ) (o : Outcome A X) (f : X → Run A Y) → Fewer n o → ((x : X) → Paid (f x)) → Fewer n (go_on o f)
  unfolding go_on
  go_on_taking n (Done x s) f j k = fewer_of s.left n (f x s) j ((k x).within s)
  go_on_taking n (Left why s) f j k = tt
  go_on_taking n (Stopped why s) f j k = tt

  pub bind : {X Y : Type 0} {m : Run A X} {f : X → Run A Y} → Paid m → ((x : X) → Paid (f x)) → Paid (m >>= f)
  unfolding ◌>>=◌
  bind {m = m} {f = f} h k = record { within = λ s. go_on_within s.left (m s) f (h.within s) (λ x t le. (k x).within t) }

  pub after : {X Y : Type 0} {m : Run A X} {f : Run A Y} → Paid m → Paid f → Paid (m >> f)
  unfolding ◌>>◌
  after h k = bind h (λ x. k)

  pub taking_after : {X Y : Type 0} {m : Run A X} {f : Run A Y} → Taking m → Paid f → Taking (m >> f)
  unfolding ◌>>◌ ◌>>=◌
  taking_after {m = m} {f = f} h k = record {
    paid = after h.paid k;
    fewer = λ s. go_on_taking s.left (m s) (λ x. f) (h.fewer s) (λ x. k);
  }

  left_within : {X : Type 0} (n : ℕ) (o : Outcome A X) (g : Reason A → Run A X) → Within n o → ((why : Reason A) → Paid (g why)) → Within n (go_on_left o g)
  unfolding go_on_left
  left_within n (Done x s) g h k = h
  left_within n (Left why s) g h k = widen s.left n (g why s) h ((k why).within s)
  left_within n (Stopped why s) g h k = h

  pub paid_catching : {X : Type 0} {m : Run A X} {f : Reason A → Run A X} → Paid m → ((why : Reason A) → Paid (f why)) → Paid (catching m f)
  unfolding catching
  paid_catching {m = m} {f = f} h k = record { within = λ s. left_within s.left (m s) f (h.within s) k }

  pub paid_choose : {X : Type 0} {m k : Run A X} (b : Bool) → Paid m → Paid k → Paid (choose b m k)
  unfolding choose
  paid_choose true hm hk = hm
  paid_choose false hm hk = hk

  pub paid_return : {X : Type 0} (x : X) → Paid (return x)
  unfolding return
  paid_return x = record { within = λ s. le_refl _ }

  pub paid_leave : {X : Type 0} (why : Reason A) → Paid {X = X} (leave why)
  unfolding leave
  paid_leave why = record { within = λ s. le_refl _ }

  paid_stop : {X : Type 0} (why : Stop) → ((left : ℕ) → IsDue why left) → Paid {X = X} (stop why)
  unfolding stop
  paid_stop why h = record { within = λ s. (le_refl _, h s.left) }

  pub paid_depth_limit : {X : Type 0} → Paid {X = X} (stop DepthLimit)
  paid_depth_limit = paid_stop DepthLimit (λ n. tt)

  pub paid_unassigned : {X : Type 0} → Paid {X = X} (stop Unassigned)
  paid_unassigned = paid_stop Unassigned (λ n. tt)

  pub paid_fell_off : {X : Type 0} → Paid {X = X} (stop FellOff)
  paid_fell_off = paid_stop FellOff (λ n. tt)

  pub paid_init_failed : {X : Type 0} (last : ℕ) → Paid {X = X} (stop (InitFailed last))
  paid_init_failed last = paid_stop (InitFailed last) (λ n. tt)

  -- ---- steps

  pay_within : (n : ℕ) (s : State A) → n ≡ s.left → Within s.left (pay n s)
  unfolding pay
  pay_within zero s e = (le_refl _, sym e)
  pay_within (suc n) s e = omega (arith, e)

  pay_fewer : (n : ℕ) (s : State A) → n ≡ s.left → Fewer s.left (pay n s)
  unfolding pay
  pay_fewer zero s e = tt
  pay_fewer (suc n) s e = omega (arith, e)

  pub paid_tick : Paid tick
  unfolding tick
  paid_tick = record { within = λ s. pay_within s.left s refl }

  pub taking_tick : Taking tick
  unfolding tick
  taking_tick = record { paid = paid_tick; fewer = λ s. pay_fewer s.left s refl }

  -- the number of steps that are left is used by a part that needs no more
  pub with_steps : {Y : Type 0} (f : ℕ → Run A Y) → ((s : State A) → Within s.left (f s.left s)) → Paid (steps_left >>= f)
  unfolding steps_left ◌>>=◌ go_on
  with_steps f h = record { within = h }

  pub paid_frame : Paid frame
  unfolding frame
  paid_frame = record { within = λ s. le_refl _ }

  pub paid_event_at : (n : ℕ) → Paid (event_at n)
  unfolding event_at
  paid_event_at n = record { within = λ s. le_refl _ }

  pub paid_is_begun : (c : ℕ) → Paid (is_begun c)
  unfolding is_begun
  paid_is_begun c = record { within = λ s. le_refl _ }

  pub paid_read : (x : Slot) → Paid (read x)
  unfolding read
  paid_read x = record { within = λ s. le_refl _ }

  pub paid_declare : (x : Slot) → Paid (declare x)
  unfolding declare
  paid_declare x = record { within = λ s. le_refl _ }

  -- where another limit is reached
  limited : {X : Type 0} (b : Bool) (why : Stop) (m : Run A X) (s : State A) → IsDue why s.left → Within s.left (m s) → Within s.left (choose b m (stop why) s)
  unfolding choose stop
  limited true why m s d h = h
  limited false why m s d h = (le_refl _, d)

  pub paid_take_elements : (n : ℕ) → Paid (take_elements n)
  unfolding take_elements with_elements
  paid_take_elements n = record { within = λ s. limited (nat_le (s.elements + n) element_limit) ElementLimit (with_elements n) s tt (le_refl _) }

  pub paid_take_units : (n : ℕ) → Paid (take_units n)
  unfolding take_units with_units
  paid_take_units n = record { within = λ s. limited (nat_le (s.units + n) unit_limit) UnitLimit (with_units n) s tt (le_refl _) }

  pub paid_room_for_output : (bytes : List ℕ) → Paid (room_for_output bytes)
  unfolding room_for_output return
  paid_room_for_output bytes = record { within = λ s. limited (nat_le (length s.output + length bytes) output_limit) OutputLimit (return tt) s tt (le_refl _) }

  pub paid_write_out : (bytes : List ℕ) → Paid (write_out bytes)
  unfolding write_out
  paid_write_out bytes = record { within = λ s. le_refl _ }

  byte_within : (bytes : List ℕ) (s : State A) → Within s.left (take_byte bytes s)
  unfolding take_byte
  byte_within [] s = le_refl _
  byte_within (b ∷ rest) s = le_refl _

  pub paid_next_byte : Paid next_byte
  unfolding next_byte
  paid_next_byte = record { within = λ s. byte_within s.input s }

  -- ---- events

  paid_room : {X : Type 0} (c : Carried A) (m : Run A X) → Paid m → Paid (room_for c m)
  unfolding room_for
  paid_room c m h = record {
    within = λ s. limited (nat_lt (length s.noted) event_limit) EventLimit _ s tt (limited (nat_le (s.uses + length c.uses) use_limit) UseLimit m s tt (h.within s));
  }

  pub paid_note : (x : Draft) (c : Carried A) → Paid (note x c)
  unfolding note noting with_event
  paid_note x c = paid_room c (noting x c) (record { within = λ s. le_refl _ })

  pub paid_note_write : (x : Draft) (c : Carried A) → Paid (note_write x c)
  unfolding note_write writing with_event with_stored
  paid_note_write x c = paid_room c (writing x c) (record { within = λ s. le_refl _ })

  pub paid_note_new : (p : Program) (x : Draft) (c : Carried A) → Paid (note_new p x c)
  unfolding note_new creating with_event with_created
  paid_note_new p x c = paid_room c (creating p x c) (record { within = λ s. le_refl _ })

  -- ---- what is done with an outcome, and neither takes nor gives a step

  again_within : {X : Type 0} (entries : List (Active A)) (n : ℕ) (o : Outcome A X) → Within n o → Within n (active_again entries o)
  unfolding active_again
  again_within entries n (Done x s) h = h
  again_within entries n (Left why s) h = h
  again_within entries n (Stopped why s) h = h

  pub paid_scoped : {X : Type 0} {m : Run A X} → Paid m → Paid (scoped m)
  unfolding scoped
  paid_scoped {m = m} h = record { within = λ s. again_within s.active s.left (m s) (h.within s) }

  reaches_within : {X : Type 0} (f : Option ℕ) (j n : ℕ) (o : Outcome A X) → Within n o → Within n (end_reaches f j o)
  unfolding end_reaches without
  reaches_within f j n (Done x s) h = h
  reaches_within f j n (Left why s) h = h
  reaches_within f j n (Stopped why s) h = h

  pub paid_reaching : {X : Type 0} {m : Run A X} (n : ℕ) → Paid m → Paid (reaching n m)
  unfolding reaching
  paid_reaching {m = m} n h = record { within = λ s. reaches_within s.frame n s.left (m s) (h.within s) }

  frame_within : {X : Type 0} (f : Option ℕ) (n : ℕ) (o : Outcome A X) → Within n o → Within n (frame_again f o)
  unfolding frame_again
  frame_within f n (Done x s) h = h
  frame_within f n (Left why s) h = h
  frame_within f n (Stopped why s) h = h

  pub paid_in_frame : {X : Type 0} {m : Run A X} (n : ℕ) → Paid m → Paid (in_frame n m)
  unfolding in_frame
  paid_in_frame {m = m} n h = record {
    within = λ s. frame_within s.frame s.left (m (record s { frame = Some n })) (h.within (record s { frame = Some n }));
  }

  go_in_within : (reach : Reach) (n : ℕ) (o : Outcome A (Made A)) → Within n o → Within n (go_in reach o)
  unfolding go_in entered with_active
  go_in_within reach n (Done x s) h = h
  go_in_within reach n (Left why s) h = h
  go_in_within reach n (Stopped why s) h = h

  pub paid_activating : {m : Run A (Made A)} (reach : Reach) → Paid m → Paid (activating reach m)
  unfolding activating
  paid_activating {m = m} reach h = record { within = λ s. go_in_within reach s.left (m s) (h.within s) }

  -- ---- coverage

  arrival : (n : ℕ) (why : Reason A) (j : ℕ) (s : State A) → s.left ≤ j → (b : Bool) → Within j (choose b (end_normally n) (be_left n why) s)
  unfolding choose end_normally be_left covering
  arrival n why j s h true = h
  arrival n why j s h false = h

  cover_within : (n j : ℕ) (o : Outcome A Unit) → Within j o → Within j (cover_end n o)
  unfolding cover_end end_normally covering
  cover_within n j (Done x s) h = h
  cover_within n j (Left why s) h = arrival n why j s h (arrives n why)
  cover_within n j (Stopped why s) h = h

  pub paid_covered : {m : Run A Unit} (n : ℕ) → Paid m → Paid (covered n m)
  unfolding covered covering
  paid_covered {m = m} n h = record {
    within = λ s. cover_within n s.left (m (covering n (begun (length s.noted)) s)) (h.within (covering n (begun (length s.noted)) s));
  }

  -- ---- a turn of a loop that takes a step

  pub within_bind : {X Y : Type 0} (m : Run A X) (f : X → Run A Y) (s : State A) → Paid m → ((x : X) (t : State A) → t.left ≤ s.left → Within t.left (f x t)) → Within s.left ((m >>= f) s)
  unfolding ◌>>=◌
  within_bind m f s h k = go_on_within s.left (m s) f (h.within s) k

  pub within_after : {X Y : Type 0} (m : Run A X) (f : Run A Y) (s : State A) → Taking m → ((t : State A) → suc t.left ≤ s.left → Within t.left (f t)) → Within s.left ((m >> f) s)
  unfolding ◌>>◌ ◌>>=◌
  within_after m f s h k = go_on_fewer s.left (m s) (λ x. f) (h.paid.within s) (h.fewer s) (λ x t le. k t le)
