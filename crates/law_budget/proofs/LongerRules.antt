-- How each step of a run, and what is put together of such steps, does with more steps left.
use Rattle.std.proofs.Common.{◌≡◌, ℕ, zero, suc, ◌+◌, Bool, true, false, ◌≤◌, List, [], ◌∷◌, ◌++◌, length, Option, Some, refl, sym, ap, ◌∙◌, subst, le_refl, append-nil, append_assoc, arith}
use Rattle.std.specs.Prelude.{nat_le, nat_lt}
use Rattle.wy_kernel.specs.Program.{Program}
use Rattle.wy_event.specs.declared.record.Slot.{Slot}
use Rattle.wy_steps.specs.Sets.{Sets}
use Rattle.wy_steps.specs.State.{Carried, Noted, Active, Reach, State, Stop, StepLimit, Reason, Outcome, Done, Left, Stopped, Run, go_on, ◌>>=◌, ◌>>◌, return, leave, stop, go_on_left, catching, choose}
use Rattle.wy_kernel.specs.Limits.{event_limit, use_limit, element_limit, unit_limit, output_limit}
use Rattle.wy_steps.specs.Steps.{Made, pay, tick, steps_left, frame, event_at, is_begun, read, declare, Draft, next_event, made, with_event, room_for, noting, note, with_stored, writing, note_write, with_created, creating, note_new, with_active, entered, go_in, activating, active_again, scoped, without, end_reaches, reaching, frame_again, in_frame, with_elements, take_elements, with_units, take_units, room_for_output, write_out, take_byte, next_byte, covering, begun, arrives, end_normally, be_left, cover_end, covered}
use Rattle.wy_meaning.specs.Run.{end}

-- the step limit is what stops
unfoldable pub is_at_limit : Stop → Bool
is_at_limit StepLimit = true
is_at_limit _ = false

module _ (A : Sets) (d : ℕ) where
  -- the same with d more steps left
  unfoldable pub longer : State A → State A
  longer s = record s { left = s.left + d }

  unfoldable pub longer_outcome : {X : Type 0} → Outcome A X → Outcome A X
  longer_outcome (Done x s) = Done x (longer s)
  longer_outcome (Left why s) = Left why (longer s)
  longer_outcome (Stopped why s) = Stopped why (longer s)

  unfoldable pub at_limit : {X : Type 0} → Outcome A X → Bool
  at_limit (Done x s) = false
  at_limit (Left why s) = false
  at_limit (Stopped why s) = is_at_limit why

  -- the second state has all that the first has recorded and written out
  pub record Grown (s t : State A) : Type 0 where
    pub later : List (Noted A)
    pub noted : t.noted ≡ later ++ s.noted
    pub written : List ℕ
    pub output : t.output ≡ s.output ++ written

  pub grown_refl : (s : State A) → Grown s s
  grown_refl s = record { later = []; noted = refl; written = []; output = sym (append-nil s.output) }

  pub grown_trans : (s t u : State A) → Grown s t → Grown t u → Grown s u
  grown_trans s t u h k = record {
    later = k.later ++ h.later;
    noted = k.noted ∙ ap (λ l. k.later ++ l) h.noted ∙ sym (append_assoc k.later h.later s.noted);
    written = h.written ++ k.written;
    output = k.output ∙ ap (λ l. l ++ k.written) h.output ∙ append_assoc s.output h.written k.written;
  }

  pub grown_same : (s t : State A) → t.noted ≡ s.noted → t.output ≡ s.output → Grown s t
  grown_same s t n o = record { later = []; noted = n; written = []; output = o ∙ sym (append-nil s.output) }

  pub to_longer : {X : Type 0} (o : Outcome A X) → Grown (end o) (end (longer_outcome o))
  unfolding end longer longer_outcome
  to_longer (Done x s) = grown_same _ _ refl refl
  to_longer (Left why s) = grown_same _ _ refl refl
  to_longer (Stopped why s) = grown_same _ _ refl refl

  -- the second outcome is the first with more steps left, or goes on where the step limit stopped the first
  pub record Ahead {X : Type 0} (o o' : Outcome A X) : Type 0 where
    pub same : at_limit o ≡ false → o' ≡ longer_outcome o
    pub front : Grown (end o) (end o')

  -- with more steps left the second goes at least as far as the first
  pub record Further {X : Type 0} (m k : Run A X) : Type 0 where
    pub ahead : (s : State A) → Ahead (m s) (k (longer s))
    pub grows : (s : State A) → Grown s (end (k s))

  pub record Longer {X : Type 0} (m : Run A X) : Type 0 where
    pub by : Further m m

  -- ---- putting together

  go_on_grows : {X Y : Type 0} (o : Outcome A X) (g : X → Run A Y) → ((x : X) (s : State A) → Grown s (end (g x s))) → Grown (end o) (end (go_on o g))
  unfolding end go_on
  go_on_grows (Done x s) g h = h x s
  go_on_grows (Left why s) g h = grown_refl s
  go_on_grows (Stopped why s) g h = grown_refl s

  go_on_ahead : {X Y : Type 0} (o o' : Outcome A X) (f g : X → Run A Y) → Ahead o o' → ((x : X) → Further (f x) (g x)) → Ahead (go_on o f) (go_on o' g)
  unfolding end go_on at_limit longer longer_outcome
  go_on_ahead (Done x s) o' f g a h =
      let e = a.same refl in
      subst (λ q. Ahead (f x s) (go_on q g)) (sym e) ((h x).ahead s)
  go_on_ahead (Left why s) o' f g a h =
      let e = a.same refl in
      subst (λ q. Ahead (Left why s) (go_on q g)) (sym e) (record { same = λ _. refl; front = grown_same s (longer s) refl refl })
  go_on_ahead (Stopped why s) o' f g a h = record {
    same = λ e. ap (λ q. go_on q g) (a.same e);
    front = grown_trans _ _ _ a.front (go_on_grows o' g (λ x t. (h x).grows t));
  }

  pub further_bind : {X Y : Type 0} {m k : Run A X} {f g : X → Run A Y} → Further m k → ((x : X) → Further (f x) (g x)) → Further (m >>= f) (k >>= g)
  unfolding ◌>>=◌
  further_bind {m = m} {k = k} {f = f} {g = g} h l = record {
    ahead = λ s. go_on_ahead (m s) (k (longer s)) f g (h.ahead s) l;
    grows = λ s. grown_trans _ _ _ (h.grows s) (go_on_grows (k s) g (λ x t. (l x).grows t));
  }

  pub bind : {X Y : Type 0} {m : Run A X} {f : X → Run A Y} → Longer m → ((x : X) → Longer (f x)) → Longer (m >>= f)
  bind h l = record { by = further_bind h.by (λ x. (l x).by) }

  pub further_after : {X Y : Type 0} {m k : Run A X} {f g : Run A Y} → Further m k → Further f g → Further (m >> f) (k >> g)
  unfolding ◌>>◌
  further_after h l = further_bind h (λ x. l)

  pub after : {X Y : Type 0} {m : Run A X} {f : Run A Y} → Longer m → Longer f → Longer (m >> f)
  after h l = record { by = further_after h.by l.by }

  left_grows : {X : Type 0} (o : Outcome A X) (g : Reason A → Run A X) → ((why : Reason A) (s : State A) → Grown s (end (g why s))) → Grown (end o) (end (go_on_left o g))
  unfolding end go_on_left
  left_grows (Done x s) g h = grown_refl s
  left_grows (Left why s) g h = h why s
  left_grows (Stopped why s) g h = grown_refl s

  left_ahead : {X : Type 0} (o o' : Outcome A X) (g : Reason A → Run A X) → Ahead o o' → ((why : Reason A) → Longer (g why)) → Ahead (go_on_left o g) (go_on_left o' g)
  unfolding end go_on_left at_limit longer longer_outcome
  left_ahead (Done x s) o' g a h =
      let e = a.same refl in
      subst (λ q. Ahead (Done x s) (go_on_left q g)) (sym e) (record { same = λ _. refl; front = grown_same s (longer s) refl refl })
  left_ahead (Left why s) o' g a h =
      let e = a.same refl in
      subst (λ q. Ahead (g why s) (go_on_left q g)) (sym e) ((h why).by.ahead s)
  left_ahead (Stopped why s) o' g a h = record {
    same = λ e. ap (λ q. go_on_left q g) (a.same e);
    front = grown_trans _ _ _ a.front (left_grows o' g (λ x t. (h x).by.grows t));
  }

  pub longer_catching : {X : Type 0} {m : Run A X} {f : Reason A → Run A X} → Longer m → ((why : Reason A) → Longer (f why)) → Longer (catching m f)
  unfolding catching
  longer_catching {m = m} {f = f} h l = record {
    by = record {
      ahead = λ s. left_ahead (m s) (m (longer s)) f (h.by.ahead s) l;
      grows = λ s. grown_trans _ _ _ (h.by.grows s) (left_grows (m s) f (λ x t. (l x).by.grows t));
    };
  }

  pub longer_choose : {X : Type 0} {m k : Run A X} (b : Bool) → Longer m → Longer k → Longer (choose b m k)
  unfolding choose
  longer_choose true hm hk = hm
  longer_choose false hm hk = hk

  -- what does the same however many steps are left
  pub steady : {X : Type 0} {m : Run A X} → ((s : State A) → m (longer s) ≡ longer_outcome (m s)) → ((s : State A) → Grown s (end (m s))) → Longer m
  steady {m = m} e g = record {
    by = record {
      ahead = λ s. record { same = λ _. e s; front = subst (λ q. Grown (end (m s)) (end q)) (sym (e s)) (to_longer (m s)) };
      grows = g;
    };
  }

  pub longer_return : {X : Type 0} (x : X) → Longer (return x)
  unfolding return end longer longer_outcome
  longer_return x = steady (λ s. refl) (λ s. grown_refl s)

  pub longer_leave : {X : Type 0} (why : Reason A) → Longer {X = X} (leave why)
  unfolding leave end longer longer_outcome
  longer_leave why = steady (λ s. refl) (λ s. grown_refl s)

  pub longer_stop : {X : Type 0} (why : Stop) → Longer {X = X} (stop why)
  unfolding stop end longer longer_outcome
  longer_stop why = steady (λ s. refl) (λ s. grown_refl s)

  -- what the step limit stops may go on in any way
  pub further_stop : {X : Type 0} {k : Run A X} → ((s : State A) → Grown s (end (k s))) → Further (stop StepLimit) k
  unfolding stop end longer at_limit is_at_limit
  further_stop g = record {
    ahead = λ s. record { same = λ e. absurd (cc); front = grown_trans s (longer s) _ (grown_same s (longer s) refl refl) (g (longer s)) };
    grows = g;
  }

  -- ---- steps

  pay_more : (n : ℕ) (s : State A) → pay (suc n + d) (longer s) ≡ Done tt (record (longer s) { left = n + d })
  unfolding pay longer
  pay_more n s = let e : suc n + d ≡ suc (n + d) = omega arith in ap (λ j. pay j (longer s)) e

  pay_grows : (n : ℕ) (s : State A) → Grown s (end (pay n s))
  unfolding pay end
  pay_grows zero s = grown_refl s
  pay_grows (suc n) s = grown_same _ _ refl refl

  pay_ahead : (n : ℕ) (s : State A) → Ahead (pay n s) (pay (n + d) (longer s))
  unfolding pay end longer longer_outcome at_limit is_at_limit
  pay_ahead zero s = record { same = λ e. absurd (cc); front = grown_trans s (longer s) _ (grown_same s (longer s) refl refl) (pay_grows (zero + d) (longer s)) }
  pay_ahead (suc n) s = record {
    same = λ _. pay_more n s;
    front = subst (λ q. Grown (record s { left = n }) (end q)) (sym (pay_more n s)) (grown_same _ _ refl refl);
  }

  pub longer_tick : Longer tick
  unfolding tick longer
  longer_tick = record { by = record { ahead = λ s. pay_ahead s.left s; grows = λ s. pay_grows s.left s } }

  -- the number of steps that are left is used by a part that goes further with more of them
  pub with_steps : {Y : Type 0} {f : ℕ → Run A Y} → ((n m : ℕ) → n ≤ m → Further (f n) (f m)) → Longer (steps_left >>= f)
  unfolding steps_left ◌>>=◌ go_on longer
  with_steps {f = f} h = record {
    by = record {
      ahead = λ s. (h s.left (s.left + d) (omega arith)).ahead s;
      grows = λ s. (h s.left s.left (le_refl _)).grows s;
    };
  }

  pub longer_frame : Longer frame
  unfolding frame end longer longer_outcome
  longer_frame = steady (λ s. refl) (λ s. grown_refl s)

  pub longer_event_at : (n : ℕ) → Longer (event_at n)
  unfolding event_at end longer longer_outcome
  longer_event_at n = steady (λ s. refl) (λ s. grown_refl s)

  pub longer_is_begun : (c : ℕ) → Longer (is_begun c)
  unfolding is_begun end longer longer_outcome
  longer_is_begun c = steady (λ s. refl) (λ s. grown_refl s)

  pub longer_read : (x : Slot) → Longer (read x)
  unfolding read end longer longer_outcome
  longer_read x = steady (λ s. refl) (λ s. grown_refl s)

  pub longer_declare : (x : Slot) → Longer (declare x)
  unfolding declare end longer longer_outcome
  longer_declare x = steady (λ s. refl) (λ s. grown_same _ _ refl refl)

  -- where a limit is reached
  limited : {X : Type 0} (b : Bool) (why : Stop) (m : Run A X) (s : State A) → Ahead (m s) (m (longer s)) → Ahead (choose b m (stop why) s) (choose b m (stop why) (longer s))
  unfolding choose
  limited true why m s h = h
  limited false why m s h = (longer_stop why).by.ahead s

  limited_grows : {X : Type 0} (b : Bool) (why : Stop) (m : Run A X) (s : State A) → Grown s (end (m s)) → Grown s (end (choose b m (stop why) s))
  unfolding choose
  limited_grows true why m s h = h
  limited_grows false why m s h = (longer_stop why).by.grows s

  longer_with_elements : (n : ℕ) → Longer (with_elements n)
  unfolding with_elements end longer longer_outcome
  longer_with_elements n = steady (λ s. refl) (λ s. grown_same _ _ refl refl)

  pub longer_take_elements : (n : ℕ) → Longer (take_elements n)
  unfolding take_elements longer
  longer_take_elements n = record {
    by = record {
      ahead = λ s. limited (nat_le (s.elements + n) element_limit) _ (with_elements n) s ((longer_with_elements n).by.ahead s);
      grows = λ s. limited_grows (nat_le (s.elements + n) element_limit) _ (with_elements n) s ((longer_with_elements n).by.grows s);
    };
  }

  longer_with_units : (n : ℕ) → Longer (with_units n)
  unfolding with_units end longer longer_outcome
  longer_with_units n = steady (λ s. refl) (λ s. grown_same _ _ refl refl)

  pub longer_take_units : (n : ℕ) → Longer (take_units n)
  unfolding take_units longer
  longer_take_units n = record {
    by = record {
      ahead = λ s. limited (nat_le (s.units + n) unit_limit) _ (with_units n) s ((longer_with_units n).by.ahead s);
      grows = λ s. limited_grows (nat_le (s.units + n) unit_limit) _ (with_units n) s ((longer_with_units n).by.grows s);
    };
  }

  pub longer_room_for_output : (bytes : List ℕ) → Longer (room_for_output bytes)
  unfolding room_for_output longer
  longer_room_for_output bytes = record {
    by = record {
      ahead = λ s. limited (nat_le (length s.output + length bytes) output_limit) _ (return tt) s ((longer_return tt).by.ahead s);
      grows = λ s. limited_grows (nat_le (length s.output + length bytes) output_limit) _ (return tt) s ((longer_return tt).by.grows s);
    };
  }

  pub longer_write_out : (bytes : List ℕ) → Longer (write_out bytes)
  unfolding write_out end longer longer_outcome
  longer_write_out bytes = steady (λ s. refl) (λ s. record { later = []; noted = refl; written = bytes; output = refl })

  byte_same : (bytes : List ℕ) (s : State A) → take_byte bytes (longer s) ≡ longer_outcome (take_byte bytes s)
  unfolding take_byte longer longer_outcome
  byte_same [] s = refl
  byte_same (b ∷ rest) s = refl

  byte_grows : (bytes : List ℕ) (s : State A) → Grown s (end (take_byte bytes s))
  unfolding take_byte end
  byte_grows [] s = grown_refl s
  byte_grows (b ∷ rest) s = grown_same _ _ refl refl

  pub longer_next_byte : Longer next_byte
  unfolding next_byte longer
  longer_next_byte = steady (λ s. byte_same s.input s) (λ s. byte_grows s.input s)

  -- ---- events

  longer_room : {X : Type 0} (c : Carried A) (m : Run A X) → Longer m → Longer (room_for c m)
  unfolding room_for longer
  longer_room c m h = record {
    by = record {
      ahead = λ s. limited (nat_lt (length s.noted) event_limit) _ _ s (limited (nat_le (s.uses + length c.uses) use_limit) _ m s (h.by.ahead s));
      grows = λ s. limited_grows (nat_lt (length s.noted) event_limit) _ _ s (limited_grows (nat_le (s.uses + length c.uses) use_limit) _ m s (h.by.grows s));
    };
  }

  longer_noting : (x : Draft) (c : Carried A) → Longer (noting x c)
  unfolding noting made next_event with_event end longer longer_outcome
  longer_noting x c = steady (λ s. refl) (λ s. record { later = next_event x c s ∷ []; noted = refl; written = []; output = sym (append-nil s.output) })

  pub longer_note : (x : Draft) (c : Carried A) → Longer (note x c)
  unfolding note
  longer_note x c = longer_room c (noting x c) (longer_noting x c)

  longer_writing : (x : Draft) (c : Carried A) → Longer (writing x c)
  unfolding writing made next_event with_event with_stored end longer longer_outcome
  longer_writing x c = steady (λ s. refl) (λ s. record { later = next_event x c s ∷ []; noted = refl; written = []; output = sym (append-nil s.output) })

  pub longer_note_write : (x : Draft) (c : Carried A) → Longer (note_write x c)
  unfolding note_write
  longer_note_write x c = longer_room c (writing x c) (longer_writing x c)

  longer_creating : (p : Program) (x : Draft) (c : Carried A) → Longer (creating p x c)
  unfolding creating made next_event with_event with_created end longer longer_outcome
  longer_creating p x c = steady (λ s. refl) (λ s. record { later = next_event x c s ∷ []; noted = refl; written = []; output = sym (append-nil s.output) })

  pub longer_note_new : (p : Program) (x : Draft) (c : Carried A) → Longer (note_new p x c)
  unfolding note_new
  longer_note_new p x c = longer_room c (creating p x c) (longer_creating p x c)

  -- ---- what is done with an outcome, and neither records nor writes

  record Ending {X : Type 0} (g : Outcome A X → Outcome A X) : Type 0 where
    with_more : (o : Outcome A X) → g (longer_outcome o) ≡ longer_outcome (g o)
    limit : (o : Outcome A X) → at_limit (g o) ≡ at_limit o
    noted : (o : Outcome A X) → (end (g o)).noted ≡ (end o).noted
    output : (o : Outcome A X) → (end (g o)).output ≡ (end o).output

  ending_grows : {X : Type 0} (g : Outcome A X → Outcome A X) → Ending g → (s : State A) (o : Outcome A X) → Grown s (end o) → Grown s (end (g o))
  ending_grows g e s o h = grown_trans _ _ _ h (grown_same _ _ (e.noted o) (e.output o))

  ending_ahead : {X : Type 0} (g : Outcome A X → Outcome A X) → Ending g → (o o' : Outcome A X) → Ahead o o' → Ahead (g o) (g o')
  ending_ahead g e o o' a = record {
    same = λ h. ap g (a.same (sym (e.limit o) ∙ h)) ∙ e.with_more o;
    front = ending_grows g e _ o' (grown_trans _ _ _ (grown_same (end (g o)) (end o) (sym (e.noted o)) (sym (e.output o))) a.front);
  }

  again_ends : {X : Type 0} (entries : List (Active A)) → Ending {X = X} (active_again entries)
  unfolding active_again at_limit longer longer_outcome end
  again_ends entries = record { with_more = more; limit = limit; noted = same_noted; output = same_output }
    where
      more : {X : Type 0} (o : Outcome A X) → active_again entries (longer_outcome o) ≡ longer_outcome (active_again entries o)
      more (Done x s) = refl
      more (Left why s) = refl
      more (Stopped why s) = refl

      limit : {X : Type 0} (o : Outcome A X) → at_limit (active_again entries o) ≡ at_limit o
      limit (Done x s) = refl
      limit (Left why s) = refl
      limit (Stopped why s) = refl

      same_noted : {X : Type 0} (o : Outcome A X) → (end (active_again entries o)).noted ≡ (end o).noted
      same_noted (Done x s) = refl
      same_noted (Left why s) = refl
      same_noted (Stopped why s) = refl

      same_output : {X : Type 0} (o : Outcome A X) → (end (active_again entries o)).output ≡ (end o).output
      same_output (Done x s) = refl
      same_output (Left why s) = refl
      same_output (Stopped why s) = refl

  pub longer_scoped : {X : Type 0} {m : Run A X} → Longer m → Longer (scoped m)
  unfolding scoped longer
  longer_scoped {m = m} h = record {
    by = record {
      ahead = λ s. ending_ahead (active_again s.active) (again_ends s.active) (m s) (m (longer s)) (h.by.ahead s);
      grows = λ s. ending_grows (active_again s.active) (again_ends s.active) s (m s) (h.by.grows s);
    };
  }

  reaches_end : {X : Type 0} (f : Option ℕ) (n : ℕ) → Ending {X = X} (end_reaches f n)
  unfolding end_reaches without at_limit longer longer_outcome end
  reaches_end f n = record { with_more = more; limit = limit; noted = same_noted; output = same_output }
    where
      more : {X : Type 0} (o : Outcome A X) → end_reaches f n (longer_outcome o) ≡ longer_outcome (end_reaches f n o)
      more (Done x s) = refl
      more (Left why s) = refl
      more (Stopped why s) = refl

      limit : {X : Type 0} (o : Outcome A X) → at_limit (end_reaches f n o) ≡ at_limit o
      limit (Done x s) = refl
      limit (Left why s) = refl
      limit (Stopped why s) = refl

      same_noted : {X : Type 0} (o : Outcome A X) → (end (end_reaches f n o)).noted ≡ (end o).noted
      same_noted (Done x s) = refl
      same_noted (Left why s) = refl
      same_noted (Stopped why s) = refl

      same_output : {X : Type 0} (o : Outcome A X) → (end (end_reaches f n o)).output ≡ (end o).output
      same_output (Done x s) = refl
      same_output (Left why s) = refl
      same_output (Stopped why s) = refl

  pub longer_reaching : {X : Type 0} {m : Run A X} (n : ℕ) → Longer m → Longer (reaching n m)
  unfolding reaching longer
  longer_reaching {m = m} n h = record {
    by = record {
      ahead = λ s. ending_ahead (end_reaches s.frame n) (reaches_end s.frame n) (m s) (m (longer s)) (h.by.ahead s);
      grows = λ s. ending_grows (end_reaches s.frame n) (reaches_end s.frame n) s (m s) (h.by.grows s);
    };
  }

  frame_ends : {X : Type 0} (f : Option ℕ) → Ending {X = X} (frame_again f)
  unfolding frame_again at_limit longer longer_outcome end
  frame_ends f = record { with_more = more; limit = limit; noted = same_noted; output = same_output }
    where
      more : {X : Type 0} (o : Outcome A X) → frame_again f (longer_outcome o) ≡ longer_outcome (frame_again f o)
      more (Done x s) = refl
      more (Left why s) = refl
      more (Stopped why s) = refl

      limit : {X : Type 0} (o : Outcome A X) → at_limit (frame_again f o) ≡ at_limit o
      limit (Done x s) = refl
      limit (Left why s) = refl
      limit (Stopped why s) = refl

      same_noted : {X : Type 0} (o : Outcome A X) → (end (frame_again f o)).noted ≡ (end o).noted
      same_noted (Done x s) = refl
      same_noted (Left why s) = refl
      same_noted (Stopped why s) = refl

      same_output : {X : Type 0} (o : Outcome A X) → (end (frame_again f o)).output ≡ (end o).output
      same_output (Done x s) = refl
      same_output (Left why s) = refl
      same_output (Stopped why s) = refl

  pub longer_in_frame : {X : Type 0} {m : Run A X} (n : ℕ) → Longer m → Longer (in_frame n m)
  unfolding in_frame longer
  longer_in_frame {m = m} n h = record {
    by = record {
      ahead = λ s. ending_ahead (frame_again s.frame) (frame_ends s.frame) (m (record s { frame = Some n })) (m (longer (record s { frame = Some n }))) (h.by.ahead (record s { frame = Some n }));
      grows = λ s. ending_grows (frame_again s.frame) (frame_ends s.frame) s (m (record s { frame = Some n })) (grown_trans s (record s { frame = Some n }) _ (grown_same _ _ refl refl) (h.by.grows (record s { frame = Some n })));
    };
  }

  go_in_ends : (reach : Reach) → Ending (go_in reach)
  unfolding go_in entered with_active at_limit longer longer_outcome end
  go_in_ends reach = record { with_more = more; limit = limit; noted = same_noted; output = same_output }
    where
      more : (o : Outcome A (Made A)) → go_in reach (longer_outcome o) ≡ longer_outcome (go_in reach o)
      more (Done x s) = refl
      more (Left why s) = refl
      more (Stopped why s) = refl

      limit : (o : Outcome A (Made A)) → at_limit (go_in reach o) ≡ at_limit o
      limit (Done x s) = refl
      limit (Left why s) = refl
      limit (Stopped why s) = refl

      same_noted : (o : Outcome A (Made A)) → (end (go_in reach o)).noted ≡ (end o).noted
      same_noted (Done x s) = refl
      same_noted (Left why s) = refl
      same_noted (Stopped why s) = refl

      same_output : (o : Outcome A (Made A)) → (end (go_in reach o)).output ≡ (end o).output
      same_output (Done x s) = refl
      same_output (Left why s) = refl
      same_output (Stopped why s) = refl

  pub longer_activating : {m : Run A (Made A)} (reach : Reach) → Longer m → Longer (activating reach m)
  unfolding activating
  longer_activating {m = m} reach h = record {
    by = record {
      ahead = λ s. ending_ahead (go_in reach) (go_in_ends reach) (m s) (m (longer s)) (h.by.ahead s);
      grows = λ s. ending_grows (go_in reach) (go_in_ends reach) s (m s) (h.by.grows s);
    };
  }

  -- ---- coverage

  arrival : (Q : Run A Unit → Type 0) (n : ℕ) (why : Reason A) → Q (end_normally n) → Q (be_left n why) → (b : Bool) → Q (choose b (end_normally n) (be_left n why))
  unfolding choose
  arrival Q n why h k true = h
  arrival Q n why h k false = k

  cover_ends : (n : ℕ) → Ending (cover_end n)
  unfolding cover_end end_normally be_left covering at_limit longer longer_outcome end
  cover_ends n = record { with_more = more; limit = limit; noted = same_noted; output = same_output }
    where
      more : (o : Outcome A Unit) → cover_end n (longer_outcome o) ≡ longer_outcome (cover_end n o)
      more (Done x s) = refl
      more (Left why s) = arrival (λ m. m (longer s) ≡ longer_outcome (m s)) n why refl refl (arrives n why)
      more (Stopped why s) = refl

      limit : (o : Outcome A Unit) → at_limit (cover_end n o) ≡ at_limit o
      limit (Done x s) = refl
      limit (Left why s) = arrival (λ m. at_limit (m s) ≡ false) n why refl refl (arrives n why)
      limit (Stopped why s) = refl

      same_noted : (o : Outcome A Unit) → (end (cover_end n o)).noted ≡ (end o).noted
      same_noted (Done x s) = refl
      same_noted (Left why s) = arrival (λ m. (end (m s)).noted ≡ s.noted) n why refl refl (arrives n why)
      same_noted (Stopped why s) = refl

      same_output : (o : Outcome A Unit) → (end (cover_end n o)).output ≡ (end o).output
      same_output (Done x s) = refl
      same_output (Left why s) = arrival (λ m. (end (m s)).output ≡ s.output) n why refl refl (arrives n why)
      same_output (Stopped why s) = refl

  pub longer_covered : {m : Run A Unit} (n : ℕ) → Longer m → Longer (covered n m)
  unfolding covered covering longer
  longer_covered {m = m} n h = record {
    by = record {
      ahead = λ s. ending_ahead (cover_end n) (cover_ends n) (m (covering n (begun (length s.noted)) s)) (m (longer (covering n (begun (length s.noted)) s))) (h.by.ahead (covering n (begun (length s.noted)) s));
      grows = λ s. ending_grows (cover_end n) (cover_ends n) s (m (covering n (begun (length s.noted)) s)) (grown_trans s (covering n (begun (length s.noted)) s) _ (grown_same _ _ refl refl) (h.by.grows (covering n (begun (length s.noted)) s)));
    };
  }
