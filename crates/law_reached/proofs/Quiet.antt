-- Parts of a run that execute no point: they record neither a test nor a call, an initialization or a catch, begin no statement and make no
-- String.
use Rattle.std.proofs.Common.{◌≡◌, ℕ, zero, suc, Bool, true, false, List, [], ◌∷◌, length, ◌⊎◌, inl, inr, ⊎_elim, Some, refl, sym, ◌∙◌, subst}
use Rattle.std.specs.Prelude.{nat_lt, nat_le, ◌+◌}
use Rattle.wy_kernel.specs.Program.{Program, type_of_code}
use Rattle.wy_event.specs.declared.record.Kind.TheVariants as kind
use Rattle.wy_event.specs.declared.record.Slot.{Slot}
use Rattle.wy_event.specs.Record.{Recorded}
use Rattle.wy_steps.specs.Sets.{Sets}
use Rattle.wy_steps.specs.State.{Carried, Reach, State, Stop, Reason, Outcome, Done, Left, Stopped, Run, go_on, ◌>>=◌, ◌>>◌, return, leave, stop, choose}
use Rattle.wy_kernel.specs.Limits.{event_limit, use_limit, element_limit, unit_limit, output_limit}
use Rattle.wy_steps.specs.Steps.{Draft, Made, pay, tick, steps_left, frame, event_at, is_begun, read, declare, code_of, event_in, next_event, with_event, with_stored, with_created, room_for, noting, note, writing, note_write, creating, note_new, with_active, entered, go_in, activating, with_elements, take_elements, with_units, take_units, room_for_output, write_out, take_byte, next_byte}
use Rattle.wy_meaning.specs.Run.{end}
use Rattle.wy_typing.specs.Types.{text_type}
use Rattle.law_induction.specs.Law.{IsControl}
use Rattle.law_typed_states.proofs.Moments.{Later, later_one, one_of_longer}
use Rattle.law_reached.proofs.Seen.{MakesText}

pub record IsQuiet (e : Recorded) : Type 0 where
  pub plain : IsControl e.kind → ⊥
  pub no_text : MakesText e → ⊥

-- the event of the draft executes no point
pub record IsQuietDraft (d : Draft) : Type 0 where
  pub plain : IsControl d.kind → ⊥
  pub no_text : d.kind ≡ kind.New → type_of_code (code_of d.entity) ≡ text_type → ⊥

module _ {A : Sets} where
  pub record Quietly (s t : State A) : Type 0 where
    pub later : Later s.noted t.noted
    pub coverage : t.coverage ≡ s.coverage
    pub frame : t.frame ≡ s.frame
    pub news : (k : ℕ) (e : Recorded) → event_in t.noted k ≡ Some e → (event_in s.noted k ≡ Some e) ⊎ IsQuiet e

  pub record Quiet {X : Type 0} (m : Run A X) : Type 0 where
    pub by : (s : State A) → Quietly s (end (m s))

  pub quietly_nowhere : (s : State A) → Quietly s s
  quietly_nowhere s = record { later = λ k e h. h; coverage = refl; frame = refl; news = λ k e h. inl h }

  pub quietly_on : (s t u : State A) → Quietly s t → Quietly t u → Quietly s u
  quietly_on s t u g h = record {
    later = λ k e i. h.later k e (g.later k e i);
    coverage = h.coverage ∙ g.coverage;
    frame = h.frame ∙ g.frame;
    news = λ k e i. ⊎_elim (λ (j : event_in t.noted k ≡ Some e). g.news k e j) (λ (q : IsQuiet e). inr q) (h.news k e i);
  }

  -- ---- what a recording adds

  abbrev pub Adds : Draft → Carried A → State A → Outcome A (Made A) → Type 0
  Adds d c s (Done e t) = (t.noted ≡ next_event d c s ∷ s.noted) × (t.coverage ≡ s.coverage) × (t.frame ≡ s.frame)
  Adds d c s (Left why t) = t ≡ s
  Adds d c s (Stopped why t) = t ≡ s

  chosen_adds : (d : Draft) (c : Carried A) (s : State A) (m k : Run A (Made A)) (b : Bool) → Adds d c s (m s) → Adds d c s (k s) → Adds d c s (choose b m k s)
  unfolding choose
  chosen_adds d c s m k true h l = h
  chosen_adds d c s m k false h l = l

  room_adds : (d : Draft) (c : Carried A) (s : State A) (m : Run A (Made A)) → Adds d c s (m s) → Adds d c s (room_for c m s)
  unfolding room_for stop
  room_adds d c s m h = chosen_adds d c s _ _ (nat_lt (length s.noted) event_limit) (chosen_adds d c s m _ (nat_le (s.uses + length c.uses) use_limit) h refl) refl

  pub note_adds : (d : Draft) (c : Carried A) (s : State A) → Adds d c s (note d c s)
  unfolding note noting with_event
  note_adds d c s = room_adds d c s (noting d c) (refl, refl, refl)

  pub write_adds : (d : Draft) (c : Carried A) (s : State A) → Adds d c s (note_write d c s)
  unfolding note_write writing with_event with_stored
  write_adds d c s = room_adds d c s (writing d c) (refl, refl, refl)

  pub new_adds : (p : Program) (d : Draft) (c : Carried A) (s : State A) → Adds d c s (note_new p d c s)
  unfolding note_new creating with_event with_created
  new_adds p d c s = room_adds d c s (creating p d c) (refl, refl, refl)

  go_in_adds : (reach : Reach) (d : Draft) (c : Carried A) (s : State A) (o : Outcome A (Made A)) → Adds d c s o → Adds d c s (go_in reach o)
  unfolding go_in entered with_active
  go_in_adds reach d c s (Done e t) h = h
  go_in_adds reach d c s (Left why t) h = h
  go_in_adds reach d c s (Stopped why t) h = h

  pub activating_adds : (reach : Reach) (d : Draft) (c : Carried A) (s : State A) (m : Run A (Made A)) → Adds d c s (m s) → Adds d c s (activating reach m s)
  unfolding activating
  activating_adds reach d c s m h = go_in_adds reach d c s (m s) h

  quiet_event : (d : Draft) (c : Carried A) (s : State A) → IsQuietDraft d → IsQuiet (next_event d c s).event
  unfolding next_event
  quiet_event d c s q = record { plain = q.plain; no_text = λ h. q.no_text h.0 h.1 }

  adds_quietly : (d : Draft) (c : Carried A) (s : State A) (o : Outcome A (Made A)) → IsQuietDraft d → Adds d c s o → Quietly s (end o)
  unfolding end
  adds_quietly d c s (Done e t) q h = record {
    later = subst (λ n. Later s.noted n) (sym h.0) (later_one (next_event d c s) s.noted);
    coverage = h.1;
    frame = h.2;
    news = λ k r i. ⊎_elim (λ x. inr (subst IsQuiet x.1 (quiet_event d c s q))) (λ x. inl x) (one_of_longer (next_event d c s) s.noted k r (subst (λ n. event_in n k ≡ Some r) h.0 i));
  }
  adds_quietly d c s (Left why t) q h = subst (λ u. Quietly s u) (sym h) (quietly_nowhere s)
  adds_quietly d c s (Stopped why t) q h = subst (λ u. Quietly s u) (sym h) (quietly_nowhere s)

  -- ---- putting together

  go_on_quietly : {X Y : Type 0} (s : State A) (o : Outcome A X) (f : X → Run A Y) → Quietly s (end o) → ((x : X) → Quiet (f x)) → Quietly s (end (go_on o f))
  unfolding go_on end
  go_on_quietly s (Done x t) f h l = quietly_on s t _ h ((l x).by t)
  go_on_quietly s (Left why t) f h l = h
  go_on_quietly s (Stopped why t) f h l = h

  pub q_bind : {X Y : Type 0} {m : Run A X} {f : X → Run A Y} → Quiet m → ((x : X) → Quiet (f x)) → Quiet (m >>= f)
  unfolding ◌>>=◌
  q_bind {m = m} {f = f} h l = record { by = λ s. go_on_quietly s (m s) f (h.by s) l }

  pub q_after : {Y : Type 0} {m : Run A Unit} {k : Run A Y} → Quiet m → Quiet k → Quiet (m >> k)
  unfolding ◌>>◌
  q_after h l = q_bind h (λ t. l)

  pub q_return : {X : Type 0} (x : X) → Quiet (return x)
  unfolding return end
  q_return x = record { by = λ s. quietly_nowhere s }

  pub q_leave : {X : Type 0} (why : Reason A) → Quiet {X = X} (leave why)
  unfolding leave end
  q_leave why = record { by = λ s. quietly_nowhere s }

  pub q_stop : {X : Type 0} (why : Stop) → Quiet {X = X} (stop why)
  unfolding stop end
  q_stop why = record { by = λ s. quietly_nowhere s }

  pub q_choose : {X : Type 0} {m k : Run A X} (b : Bool) → Quiet m → Quiet k → Quiet (choose b m k)
  unfolding choose
  q_choose true h l = h
  q_choose false h l = l

  -- ---- steps

  pay_quietly : (n : ℕ) (s : State A) → Quietly s (end (pay n s))
  unfolding pay end
  pay_quietly zero s = quietly_nowhere s
  pay_quietly (suc n) s = record { later = λ k e h. h; coverage = refl; frame = refl; news = λ k e h. inl h }

  pub q_tick : Quiet tick
  unfolding tick
  q_tick = record { by = λ s. pay_quietly s.left s }

  pub q_steps_left : Quiet steps_left
  unfolding steps_left end
  q_steps_left = record { by = λ s. quietly_nowhere s }

  pub q_frame : Quiet frame
  unfolding frame end
  q_frame = record { by = λ s. quietly_nowhere s }

  pub q_event_at : (n : ℕ) → Quiet (event_at n)
  unfolding event_at end
  q_event_at n = record { by = λ s. quietly_nowhere s }

  pub q_is_begun : (c : ℕ) → Quiet (is_begun c)
  unfolding is_begun end
  q_is_begun c = record { by = λ s. quietly_nowhere s }

  pub q_read : (x : Slot) → Quiet (read x)
  unfolding read end
  q_read x = record { by = λ s. quietly_nowhere s }

  pub q_declare : (x : Slot) → Quiet (declare x)
  unfolding declare end
  q_declare x = record { by = λ s. record { later = λ k e h. h; coverage = refl; frame = refl; news = λ k e h. inl h } }

  limited : {X : Type 0} (b : Bool) (m k : Run A X) (s : State A) → Quietly s (end (m s)) → Quietly s (end (k s)) → Quietly s (end (choose b m k s))
  unfolding choose
  limited true m k s h l = h
  limited false m k s h l = l

  pub q_take_elements : (n : ℕ) → Quiet (take_elements n)
  unfolding take_elements with_elements stop end
  q_take_elements n = record { by = λ s. limited (nat_le (s.elements + n) element_limit) (with_elements n) _ s (record { later = λ k e h. h; coverage = refl; frame = refl; news = λ k e h. inl h }) (quietly_nowhere s) }

  pub q_take_units : (n : ℕ) → Quiet (take_units n)
  unfolding take_units with_units stop end
  q_take_units n = record { by = λ s. limited (nat_le (s.units + n) unit_limit) (with_units n) _ s (record { later = λ k e h. h; coverage = refl; frame = refl; news = λ k e h. inl h }) (quietly_nowhere s) }

  pub q_room : (bytes : List ℕ) → Quiet (room_for_output bytes)
  unfolding room_for_output return stop end
  q_room bytes = record { by = λ s. limited (nat_le (length s.output + length bytes) output_limit) (return tt) _ s (quietly_nowhere s) (quietly_nowhere s) }

  pub q_write_out : (bytes : List ℕ) → Quiet (write_out bytes)
  unfolding write_out end
  q_write_out bytes = record { by = λ s. record { later = λ k e h. h; coverage = refl; frame = refl; news = λ k e h. inl h } }

  byte_quietly : (bytes : List ℕ) (s : State A) → Quietly s (end (take_byte bytes s))
  unfolding take_byte end
  byte_quietly [] s = quietly_nowhere s
  byte_quietly (b ∷ rest) s = record { later = λ k e h. h; coverage = refl; frame = refl; news = λ k e h. inl h }

  pub q_next_byte : Quiet next_byte
  unfolding next_byte
  q_next_byte = record { by = λ s. byte_quietly s.input s }

  pub q_note : (d : Draft) (c : Carried A) → IsQuietDraft d → Quiet (note d c)
  q_note d c q = record { by = λ s. adds_quietly d c s (note d c s) q (note_adds d c s) }

  pub q_write : (d : Draft) (c : Carried A) → IsQuietDraft d → Quiet (note_write d c)
  q_write d c q = record { by = λ s. adds_quietly d c s (note_write d c s) q (write_adds d c s) }

  pub q_new : (p : Program) (d : Draft) (c : Carried A) → IsQuietDraft d → Quiet (note_new p d c)
  q_new p d c q = record { by = λ s. adds_quietly d c s (note_new p d c s) q (new_adds p d c s) }
