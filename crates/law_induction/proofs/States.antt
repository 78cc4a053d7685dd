-- A property of states that each change keeps is one that each step keeps.
use Rattle.std.proofs.Common.{◌≡◌, ◌+◌, ◌≤◌, ℕ, zero, suc, Bool, true, false, List, [], ◌∷◌, ◌++◌, length, Option, Some, refl, sym, subst}
use Rattle.std.proofs.lemmas.List.{length-append}
use Rattle.std.proofs.lemmas.Bool.{ltb-true, leb-true}
use Rattle.std.specs.Prelude.{nat_le, nat_lt}
use Rattle.wy_kernel.specs.Program.{Program}
use Rattle.wy_event.specs.declared.record.Slot.{Slot}
use Rattle.wy_event.specs.declared.record.Slot.TheVariants as slot
use Rattle.wy_steps.specs.Sets.{Sets}
use Rattle.wy_steps.specs.State.{OutputLimit, Carried, Reach, State, Stop, InitFailed, Reason, Outcome, Done, Left, Stopped, Run, go_on, ◌>>=◌, ◌>>◌, return, leave, stop, go_on_left, catching, choose}
use Rattle.wy_kernel.specs.Limits.{event_limit, use_limit, element_limit, unit_limit, output_limit}
use Rattle.wy_steps.specs.Steps.{Made, made, pay, tick, steps_left, frame, event_at, is_begun, read, declare, Draft, next_event, with_event, held_by, with_stored, with_created, room_for, noting as note_it, note, writing as write_it, note_write, creating as create_it, note_new, with_active, entered, go_in, activating, active_again, scoped, without, end_reaches, reaching, frame_again, in_frame, with_elements, take_elements, with_units, take_units, room_for_output, write_out, take_byte, next_byte, covering, begun, arrives, end_normally, be_left, cover_end, covered}
use Rattle.wy_event.specs.Record.{Recorded}
use Rattle.wy_meaning.specs.Run.{end}
use Rattle.law_induction.specs.Law.{Fact, nothing, both, Entails, Region, In, Ends, FrameKind, IsControl, IsPlain, IsNoted, IsWrite, Recording, noted, created, StepLaw, Law}
use Rattle.law_induction.specs.States.{quietly, carried_in, Room, StateLaw}
use Rattle.law_induction.proofs.Loops.{counted}

module _ (A : Sets) (S : StateLaw A) where
  abbrev pub Known : Type 1
  Known = Fact S.moments

  abbrev pub Reasons : Region → Reason A → Known
  Reasons = S.reason

  -- what is known of what was given back
  abbrev pub Given : {X : Type 0} → Region → (X → Known) → Outcome A X → Type 0
  Given r Q (Done x s) = (Q x).holds (S.now s)
  Given r Q (Left why s) = (Reasons r why).holds (S.now s)
  Given r Q (Stopped why s) = S.stopped why (S.now s)

  -- an outcome that a run may come to from a state in which something is known
  pub record Kept (r : Region) {X : Type 0} (known : Type 0) (Q : X → Fact S.moments) (s : State A) (o : Outcome A X) : Type 0 where
    pub goes : S.goes s (end o)
    pub kept : S.part (end o) → S.inv r s → known → S.inv r (end o) × Given r Q o

  pub record Keeps (r : Region) {X : Type 0} (P : Fact S.moments) (m : Run A X) (Q : X → Fact S.moments) : Type 0 where
    pub by : (s : State A) → Kept r (P.holds (S.now s)) Q s (m s)

  -- ---- putting together

  go_on_kept : (r : Region) {X Y : Type 0} (P : Known) (Q : X → Known) (R : Y → Known) (s : State A) (o : Outcome A X) (f : X → Run A Y) → Kept r (P.holds (S.now s)) Q s o → ((x : X) → Keeps r (both P (Q x)) (f x) R) → Kept r (P.holds (S.now s)) R s (go_on o f)
  unfolding go_on both end
  go_on_kept r P Q R s (Done x t) f k l =
      let next = (l x).by t in
      record {
        goes = S.goes_on _ _ _ k.goes next.goes;
        kept = λ h i p. let j = k.kept (S.part_before _ _ next.goes h) i p in next.kept h j.0 (P.up _ _ (S.goes_later _ _ k.goes) p, j.1);
      }
  go_on_kept r P Q R s (Left why t) f k l = record { goes = k.goes; kept = k.kept }
  go_on_kept r P Q R s (Stopped why t) f k l = record { goes = k.goes; kept = k.kept }

  left_kept : (r : Region) {X : Type 0} (P : Known) (Q : X → Known) (s : State A) (o : Outcome A X) (f : Reason A → Run A X) → Kept r (P.holds (S.now s)) Q s o → ((why : Reason A) → Keeps r (both P (Reasons r why)) (f why) Q) → Kept r (P.holds (S.now s)) Q s (go_on_left o f)
  unfolding go_on_left both end
  left_kept r P Q s (Done x t) f k l = k
  left_kept r P Q s (Left why t) f k l =
      let next = (l why).by t in
      record {
        goes = S.goes_on _ _ _ k.goes next.goes;
        kept = λ h i p. let j = k.kept (S.part_before _ _ next.goes h) i p in next.kept h j.0 (P.up _ _ (S.goes_later _ _ k.goes) p, j.1);
      }
  left_kept r P Q s (Stopped why t) f k l = k

  -- a run that ends at once in the state where it began
  still : {r : Region} {X : Type 0} {P : Known} {m : Run A X} {Q : X → Known} (x : State A → X) → ((s : State A) → m s ≡ Done (x s) s) → ((s : State A) → S.inv r s → P.holds (S.now s) → (Q (x s)).holds (S.now s)) → Keeps r P m Q
  unfolding end
  still {r = r} {P = P} {m = m} {Q = Q} x e h = record { by = λ s. subst (λ o. Kept r (P.holds (S.now s)) Q s o) (sym (e s)) (record { goes = S.goes_nowhere s; kept = λ f i p. (i, h s i p) }) }

  pub choose_keeps : {r : Region} {X : Type 0} {P : Known} {m k : Run A X} {Q : X → Known} (b : Bool) → (b ≡ true → Keeps r P m Q) → (b ≡ false → Keeps r P k Q) → Keeps r P (choose b m k) Q
  unfolding choose
  choose_keeps true h l = h refl
  choose_keeps false h l = l refl

  pub stopped_kept : (r : Region) {X : Type 0} (known : Type 0) (Q : X → Known) (why : Stop) (s : State A) → (known → S.stopped why (S.now s)) → Kept r {X = X} known Q s (stop why s)
  unfolding stop end
  stopped_kept r known Q why s h = record { goes = S.goes_nowhere s; kept = λ f i p. (i, h p) }

  limited : (r : Region) {X : Type 0} (known : Type 0) (Q : X → Known) (why : Stop) (s : State A) (m : Run A X) (b : Bool) → IsPlain why → (b ≡ true → Kept r known Q s (m s)) → Kept r known Q s (choose b m (stop why) s)
  unfolding choose
  limited r known Q why s m true p h = h refl
  limited r known Q why s m false p h = stopped_kept r known Q why s (λ k. S.stopped_plainly why p _)

  -- ---- steps that change nothing of interest

  quiet_kept : (r : Region) {X : Type 0} (known : Type 0) (Q : X → Known) (x : X) (s : State A) (a b c : ℕ) (i : List ℕ) → (known → (Q x).holds (S.now s)) → Kept r known Q s (Done x (quietly s a b c i))
  unfolding end
  quiet_kept r known Q x s a b c i h = record { goes = S.goes_quietly s a b c i; kept = λ f j p. (S.inv_quietly r s a b c i j, (Q x).up _ _ (S.goes_later _ _ (S.goes_quietly s a b c i)) (h p)) }

  pay_kept : (r : Region) (known : Type 0) (n : ℕ) (s : State A) → Kept r known (λ t. nothing) s (pay n s)
  unfolding pay stop
  pay_kept r known zero s = stopped_kept r known (λ t. nothing) _ s (λ k. S.stopped_plainly _ tt _)
  pay_kept r known (suc n) s = quiet_kept r known (λ t. nothing) tt s n s.elements s.units s.input (λ k. tt)

  byte_kept : (r : Region) (known : Type 0) (bytes : List ℕ) (s : State A) → Kept r known (λ t. nothing) s (take_byte bytes s)
  unfolding take_byte end
  byte_kept r known [] s = record { goes = S.goes_nowhere s; kept = λ f i p. (i, tt) }
  byte_kept r known (b ∷ rest) s = quiet_kept r known (λ t. nothing) _ s s.left s.elements s.units rest (λ k. tt)

  -- ---- events

  room_kept : (r : Region) {X : Type 0} (known : Type 0) (Q : X → Known) (c : Carried A) (m : Run A X) (s : State A) → (Room c s → Kept r known Q s (m s)) → Kept r known Q s (room_for c m s)
  unfolding room_for
  room_kept r known Q c m s k =
      limited r known Q _ s _ (nat_lt (length s.noted) event_limit) tt (λ below. limited r known Q _ s m (nat_le (s.uses + length c.uses) use_limit) tt (λ fits_in.
      k (record { events = ltb-true (length s.noted) event_limit below; uses = leb-true (s.uses + length c.uses) use_limit fits_in })))

  pub recorded_kept : (r : Region) (known : Type 0) (d : Draft) (c : Carried A) (m : Run A (Made A)) (s : State A) → Recording S.program d c m → (known → (S.value d.value).holds (S.now s)) → (known → (S.fit c).holds (S.now s)) → Kept r known (S.made d) s (m s)
  unfolding note note_it note_new create_it end
  recorded_kept r known d c m s (noted d1 c1 g) v e = room_kept r _ (S.made d1) c1 (note_it d1 c1) s (λ room. record {
    goes = S.goes_recorded s d1 c1;
    kept = λ h i p. (S.inv_recorded r s d1 c1 g room h i (v p) (e p), S.made_recorded s d1 c1 h (e p));
  })
  recorded_kept r known d c m s (created d1 c1 g) v e = room_kept r _ (S.made d1) c1 (create_it S.program d1 c1) s (λ room. let on = S.goes_created s d1 c1 in record {
    goes = S.goes_on _ _ _ (S.goes_recorded s d1 c1) on;
    kept = λ h i p. let h1 = S.part_before _ _ on h in (S.inv_created r s d1 c1 g room h1 i (v p) (e p), (S.made d1 _).up _ _ (S.goes_later _ _ on) (S.made_recorded s d1 c1 h1 (e p)));
  })

  pub written_kept : (r : Region) (known : Type 0) (d : Draft) (c : Carried A) (s : State A) → IsWrite d c → (known → (S.place d.slot).holds (S.now s)) → (known → (S.stores d.slot d.value).holds (S.now s)) → (known → (S.value d.value).holds (S.now s)) → (known → (S.fit c).holds (S.now s)) → Kept r known (S.made d) s (note_write d c s)
  unfolding note_write write_it end
  written_kept r known d c s g x y v e = room_kept r _ (S.made d) c (write_it d c) s (λ room. let on = S.goes_stored (with_event (next_event d c s) s) d.slot (held_by d.value (next_event d c s)) in record {
    goes = S.goes_on _ _ _ (S.goes_recorded s d c) on;
    kept = λ h i p. let h1 = S.part_before _ _ on h in (S.inv_stored r s d c g room h1 i (x p) (y p) (v p) (e p), (S.made d _).up _ _ (S.goes_later _ _ on) (S.made_recorded s d c h1 (e p)));
  })

  -- what it leaves: the event before the others, and what is active and written out as it was
  abbrev Leaves : Draft → Carried A → State A → Outcome A (Made A) → Type 0
  Leaves d c s (Done e t) = (e ≡ made (next_event d c s) s) × (t.active ≡ s.active) × (t.noted ≡ next_event d c s ∷ s.noted) × (t.output ≡ s.output)
  Leaves d c s (Left why t) = Unit {0}
  Leaves d c s (Stopped why t) = Unit {0}

  chosen_records : (d : Draft) (c : Carried A) (s : State A) (m k : Run A (Made A)) (b : Bool) → Leaves d c s (m s) → Leaves d c s (k s) → Leaves d c s (choose b m k s)
  unfolding choose
  chosen_records d c s m k true h l = h
  chosen_records d c s m k false h l = l

  room_records : (d : Draft) (c : Carried A) (s : State A) (m : Run A (Made A)) → Leaves d c s (m s) → Leaves d c s (room_for c m s)
  unfolding room_for stop
  room_records d c s m h = chosen_records d c s _ _ (nat_lt (length s.noted) event_limit) (chosen_records d c s m _ (nat_le (s.uses + length c.uses) use_limit) h tt) tt

  recording_records : (p : Program) (d : Draft) (c : Carried A) (m : Run A (Made A)) (s : State A) → Recording p d c m → Leaves d c s (m s)
  unfolding note note_it note_new create_it with_event with_created
  recording_records p d c m s (noted d1 c1 g) = room_records d1 c1 s (note_it d1 c1) (refl, refl, refl, refl)
  recording_records p d c m s (created d1 c1 g) = room_records d1 c1 s (create_it p d1 c1) (refl, refl, refl, refl)

  writing_records : (d : Draft) (c : Carried A) (s : State A) → Leaves d c s (note_write d c s)
  unfolding note_write write_it with_event with_stored
  writing_records d c s = room_records d c s (write_it d c) (refl, refl, refl, refl)

  go_in_kept : (r : Region) (known : Type 0) (reach : Reach) (d : Draft) (c : Carried A) (s : State A) (o : Outcome A (Made A)) → IsControl d.kind → Leaves d c s o → Kept r known (S.made d) s o → Kept r known (S.made d) s (go_in reach o)
  unfolding go_in entered with_active made end
  go_in_kept r known reach d c s (Done e t) k q h = subst (λ u. Kept r known (S.made d) s (entered reach u t)) (sym q.0) (record {
    goes = S.goes_on _ _ _ h.goes (S.goes_active t _);
    kept = λ f i p.
        let f1 = S.part_before _ _ (S.goes_active t _) f in
        let j = h.kept f1 i p in
        let g = subst (λ u. (S.made d u).holds (S.now t)) q.0 j.1 in
        (S.inv_entered r reach s t d c k q.1 q.2 i j.0 g, (S.made d _).up _ _ (S.goes_later _ _ (S.goes_active t _)) g);
  })
  go_in_kept r known reach d c s (Left why t) k q h = record { goes = h.goes; kept = h.kept }
  go_in_kept r known reach d c s (Stopped why t) k q h = record { goes = h.goes; kept = h.kept }

  -- ---- what is printed

  printed : (r : Region) (known : Type 0) (Q : Made A → Known) (d : Draft) (c : Carried A) (bytes : List ℕ) (s : State A) (o : Outcome A (Made A)) → length s.output + length bytes ≤ output_limit → Leaves d c s o → Kept r known Q s o → Kept r {X = Unit {0}} known (λ t. nothing) s (go_on o (λ e. write_out bytes))
  unfolding go_on write_out end
  printed r known Q d c bytes s (Done e t) fits_in q h = record {
    goes = S.goes_on _ _ _ h.goes (S.goes_printed t bytes);
    kept = λ f i p. (S.inv_printed r t bytes (subst (λ (l : List ℕ). length (l ++ bytes) ≤ output_limit) (sym q.3) (subst (λ n. n ≤ output_limit) (sym (length-append s.output bytes)) fits_in)) (h.kept (S.part_before _ _ (S.goes_printed t bytes) f) i p).0, tt);
  }
  printed r known Q d c bytes s (Left why t) fits_in q h = record { goes = h.goes; kept = h.kept }
  printed r known Q d c bytes s (Stopped why t) fits_in q h = record { goes = h.goes; kept = h.kept }

  printed_where : (r : Region) (known : Type 0) (d : Draft) (c : Carried A) (bytes : List ℕ) (s : State A) (b : Bool) → (b ≡ true → Kept r {X = Unit {0}} known (λ t. nothing) s (go_on (note d c s) (λ e. write_out bytes))) → Kept r {X = Unit {0}} known (λ t. nothing) s (go_on {X = Unit {0}} (choose {X = Unit {0}} b (return tt) (stop OutputLimit) s) (λ u. note d c >>= (λ e. write_out bytes)))
  unfolding choose return stop go_on ◌>>=◌ end
  printed_where r known d c bytes s true h = h refl
  printed_where r known d c bytes s false h = record { goes = S.goes_nowhere s; kept = λ f i p. (i, S.stopped_plainly OutputLimit tt _) }

  -- ---- what is done with an outcome

  again_kept : (r : Region) {X : Type 0} (known : Type 0) (Q : X → Known) (s : State A) (o : Outcome A X) → Kept r known Q s o → Kept r known Q s (active_again s.active o)
  unfolding active_again end
  again_kept r known Q s (Done x t) k = record { goes = S.goes_on _ _ _ k.goes (S.goes_active t s.active); kept = λ f i p. let j = k.kept (S.part_before _ _ (S.goes_active t s.active) f) i p in (S.inv_again r s t k.goes i j.0, (Q x).up _ _ (S.goes_later _ _ (S.goes_active t s.active)) j.1) }
  again_kept r known Q s (Left why t) k = record { goes = S.goes_on _ _ _ k.goes (S.goes_active t s.active); kept = λ f i p. let j = k.kept (S.part_before _ _ (S.goes_active t s.active) f) i p in (S.inv_again r s t k.goes i j.0, (Reasons r why).up _ _ (S.goes_later _ _ (S.goes_active t s.active)) j.1) }
  again_kept r known Q s (Stopped why t) k = record { goes = S.goes_on _ _ _ k.goes (S.goes_active t s.active); kept = λ f i p. let j = k.kept (S.part_before _ _ (S.goes_active t s.active) f) i p in (S.inv_again r s t k.goes i j.0, S.stopped_later why _ _ (S.goes_later _ _ (S.goes_active t s.active)) j.1) }

  reaches_kept : (r : Region) {X : Type 0} (known : Type 0) (Q : X → Known) (f : Option ℕ) (n : ℕ) (s : State A) (o : Outcome A X) → Kept r known Q s o → Kept r known Q s (end_reaches f n o)
  unfolding end_reaches without end
  reaches_kept r known Q f n s (Done x t) k = record { goes = S.goes_on _ _ _ k.goes (S.goes_active t _); kept = λ h i p. let j = k.kept (S.part_before _ _ (S.goes_active t _) h) i p in (S.inv_without r f n t j.0, (Q x).up _ _ (S.goes_later _ _ (S.goes_active t _)) j.1) }
  reaches_kept r known Q f n s (Left why t) k = record { goes = S.goes_on _ _ _ k.goes (S.goes_active t _); kept = λ h i p. let j = k.kept (S.part_before _ _ (S.goes_active t _) h) i p in (S.inv_without r f n t j.0, (Reasons r why).up _ _ (S.goes_later _ _ (S.goes_active t _)) j.1) }
  reaches_kept r known Q f n s (Stopped why t) k = record { goes = S.goes_on _ _ _ k.goes (S.goes_active t _); kept = λ h i p. let j = k.kept (S.part_before _ _ (S.goes_active t _) h) i p in (S.inv_without r f n t j.0, S.stopped_later why _ _ (S.goes_later _ _ (S.goes_active t _)) j.1) }

  frame_kept : (r : Region) (i : FrameKind) (n : ℕ) {X : Type 0} (P : Known) (Q : X → Known) (s : State A) (o : Outcome A X) → Entails P (S.body i n) → Kept (Ends i) (P.holds (S.now (record s { frame = Some n }))) Q (record s { frame = Some n }) o → Kept r (P.holds (S.now s)) Q s (frame_again s.frame o)
  unfolding frame_again end
  frame_kept r i n P Q s (Done x t) e k = let in_ = S.goes_framed s (Some n) in let out = S.goes_framed t s.frame in record { goes = S.goes_on _ _ _ in_ (S.goes_on _ _ _ k.goes out); kept = λ h j p. let l = k.kept (S.part_before _ _ out h) (S.inv_within r i n s j (e.by _ p)) (P.up _ _ (S.goes_later _ _ in_) p) in (S.inv_outside r i n s t k.goes j l.0, (Q x).up _ _ (S.goes_later _ _ out) l.1) }
  frame_kept r i n P Q s (Left why t) e k = let in_ = S.goes_framed s (Some n) in let out = S.goes_framed t s.frame in record { goes = S.goes_on _ _ _ in_ (S.goes_on _ _ _ k.goes out); kept = λ h j p. let l = k.kept (S.part_before _ _ out h) (S.inv_within r i n s j (e.by _ p)) (P.up _ _ (S.goes_later _ _ in_) p) in (S.inv_outside r i n s t k.goes j l.0, (Reasons r why).up _ _ (S.goes_later _ _ out) (S.out r i why _ l.1)) }
  frame_kept r i n P Q s (Stopped why t) e k = let in_ = S.goes_framed s (Some n) in let out = S.goes_framed t s.frame in record { goes = S.goes_on _ _ _ in_ (S.goes_on _ _ _ k.goes out); kept = λ h j p. let l = k.kept (S.part_before _ _ out h) (S.inv_within r i n s j (e.by _ p)) (P.up _ _ (S.goes_later _ _ in_) p) in (S.inv_outside r i n s t k.goes j l.0, S.stopped_later why _ _ (S.goes_later _ _ out) l.1) }

  -- ---- coverage

  ended_kept : (r : Region) (known : Type 0) (k : ℕ) (s t : State A) (given : Type 0) → S.goes (covering k (begun (length s.noted)) s) t → (S.part t → S.inv r (covering k (begun (length s.noted)) s) → known → S.inv r t × given) → Kept r {X = Unit {0}} known (λ t. nothing) s (end_normally k t)
  unfolding end_normally end
  ended_kept r known k s t given g h = record { goes = S.goes_ended s t k g; kept = λ f i p. (S.inv_ended r t k (h (S.part_covered t k _ f) (S.inv_begun r s k i) p).0, tt) }

  be_left_kept : (r : Region) (known : Type 0) (k : ℕ) (s t : State A) (why : Reason A) → S.goes (covering k (begun (length s.noted)) s) t → (S.part t → S.inv r (covering k (begun (length s.noted)) s) → known → S.inv r t × (Reasons r why).holds (S.now t)) → Kept r {X = Unit {0}} known (λ t. nothing) s (be_left k why t)
  unfolding be_left end
  be_left_kept r known k s t why g h = record { goes = S.goes_left s t k _ g; kept = λ f i p. let j = h (S.part_covered t k _ f) (S.inv_begun r s k i) p in (S.inv_left r t k why j.1 j.0, (Reasons r why).up _ _ (S.now_covered t k _) j.1) }

  chosen_at : (r : Region) (known : Type 0) (s t : State A) (m l : Run A Unit) (b : Bool) → Kept r {X = Unit {0}} known (λ t. nothing) s (m t) → Kept r {X = Unit {0}} known (λ t. nothing) s (l t) → Kept r {X = Unit {0}} known (λ t. nothing) s (choose b m l t)
  unfolding choose
  chosen_at r known s t m l true h k = h
  chosen_at r known s t m l false h k = k

  cover_kept : (r : Region) (known : Type 0) (k : ℕ) (s : State A) (o : Outcome A Unit) → Kept r {X = Unit {0}} known (λ t. nothing) (covering k (begun (length s.noted)) s) o → Kept r {X = Unit {0}} known (λ t. nothing) s (cover_end k o)
  unfolding cover_end end
  cover_kept r known k s (Done x t) h = ended_kept r known k s t _ h.goes h.kept
  cover_kept r known k s (Left why t) h = chosen_at r known s t (end_normally k) (be_left k why) (arrives k why) (ended_kept r known k s t _ h.goes h.kept) (be_left_kept r known k s t why h.goes h.kept)
  cover_kept r known k s (Stopped why t) h = record { goes = S.goes_left s t k _ h.goes; kept = λ f i p. let j = h.kept (S.part_covered t k _ f) (S.inv_begun r s k i) p in (S.inv_stopped r t k why j.1 j.0, S.stopped_later why _ _ (S.now_covered t k _) j.1) }

  pub known_as : (r : Region) {X : Type 0} (known known' : Type 0) (Q : X → Known) (s : State A) (o : Outcome A X) → (known' → known) → Kept r known Q s o → Kept r known' Q s o
  known_as r known known' Q s o f k = record { goes = k.goes; kept = λ h i p. k.kept h i (f p) }

  less_given : (r : Region) {X : Type 0} (P : Known) (Q R : X → Known) (o : Outcome A X) → ((x : X) → Entails (both P (Q x)) (R x)) → P.holds (S.now (end o)) → Given r Q o → Given r R o
  unfolding both end
  less_given r P Q R (Done x t) f p h = (f x).by _ (p, h)
  less_given r P Q R (Left why t) f p h = h
  less_given r P Q R (Stopped why t) f p h = h

  -- ---- the rules

  pub gives_less : (r : Region) {X : Type 0} (P : Known) (m : Run A X) (Q R : X → Known) → Keeps r P m Q → ((x : X) → Entails (both P (Q x)) (R x)) → Keeps r P m R
  gives_less r P m Q R k f = record { by = λ s. let h = k.by s in record { goes = h.goes; kept = λ g i p. let j = h.kept g i p in (j.0, less_given r P Q R (m s) f (P.up _ _ (S.goes_later _ _ h.goes) p) j.1) } }

  pub binds : (r : Region) {X Y : Type 0} (P : Known) (m : Run A X) (Q : X → Known) (f : X → Run A Y) (R : Y → Known) → Keeps r P m Q → ((x : X) → Keeps r (both P (Q x)) (f x) R) → Keeps r P (m >>= f) R
  unfolding ◌>>=◌
  binds r P m Q f R k l = record { by = λ s. go_on_kept r P Q R s (m s) f (k.by s) l }

  pub returns : (r : Region) {X : Type 0} (P : Known) (x : X) (Q : X → Known) → Entails P (Q x) → Keeps r P (return x) Q
  unfolding return
  returns r P x Q e = still (λ s. x) (λ s. refl) (λ s i p. e.by _ p)

  pub leaves : (r : Region) {X : Type 0} (P : Known) (why : Reason A) (Q : X → Known) → Entails P (Reasons r why) → Keeps r P (leave why) Q
  unfolding leave end
  leaves r P why Q e = record { by = λ s. record { goes = S.goes_nowhere s; kept = λ f i p. (i, e.by _ p) } }

  pub catches : (r : Region) {X : Type 0} (P : Known) (m : Run A X) (f : Reason A → Run A X) (Q : X → Known) → Keeps r P m Q → ((why : Reason A) → Keeps r (both P (Reasons r why)) (f why) Q) → Keeps r P (catching m f) Q
  unfolding catching
  catches r P m f Q k l = record { by = λ s. left_kept r P Q s (m s) f (k.by s) l }

  pub ticks : (r : Region) (P : Known) → Keeps r P tick (λ t. nothing)
  unfolding tick
  ticks r P = record { by = λ s. pay_kept r _ s.left s }

  last_kept : (i : FrameKind) {X : Type 0} (P : Known) (Q : X → Known) (s : State A) (o : Outcome A X) (f : Reason A → Run A X) → Kept (In i) (P.holds (S.now s)) Q s o → ((why : Reason A) → Keeps (Ends i) (both P (Reasons (In i) why)) (f why) Q) → Kept (Ends i) (P.holds (S.now s)) Q s (go_on_left o f)
  unfolding go_on_left both end
  last_kept i P Q s (Done x t) f k l = record { goes = k.goes; kept = λ h j p. let m = k.kept h ((S.inv_body i s).0 j) p in ((S.inv_body i t).1 m.0, m.1) }
  last_kept i P Q s (Left why t) f k l =
      let next = (l why).by t in
      record {
        goes = S.goes_on _ _ _ k.goes next.goes;
        kept = λ h j p. let m = k.kept (S.part_before _ _ next.goes h) ((S.inv_body i s).0 j) p in next.kept h ((S.inv_body i t).1 m.0) (P.up _ _ (S.goes_later _ _ k.goes) p, m.1);
      }
  last_kept i P Q s (Stopped why t) f k l = record { goes = k.goes; kept = λ h j p. let m = k.kept h ((S.inv_body i s).0 j) p in ((S.inv_body i t).1 m.0, m.1) }

  pub catches_last : (i : FrameKind) {X : Type 0} (P : Known) (m : Run A X) (f : Reason A → Run A X) (Q : X → Known) → Keeps (In i) P m Q → ((why : Reason A) → Keeps (Ends i) (both P (Reasons (In i) why)) (f why) Q) → Keeps (Ends i) P (catching m f) Q
  unfolding catching
  catches_last i P m f Q k l = record { by = λ s. last_kept i P Q s (m s) f (k.by s) l }

  pub counts : (r : Region) (P : Known) → Keeps r P steps_left (λ n. nothing)
  unfolding steps_left
  counts r P = still (λ s. s.left) (λ s. refl) (λ s i p. tt)

  pub frames : (i : FrameKind) (P : Known) → Keeps (In i) P frame (S.current i)
  unfolding frame
  frames i P = still (λ s. s.frame) (λ s. refl) (λ s j p. S.frame_known i s j)

  pub looks : (r : Region) (P : Known) (n : ℕ) (Q : Option Recorded → Known) → ((o : Option Recorded) (m : S.moments.moment) → P.holds m → S.sees n o m → (Q o).holds m) → Keeps r P (event_at n) Q
  unfolding event_at
  looks r P n Q h = still _ (λ s. refl) (λ s i p. h _ _ p (S.event_seen r s n i))

  pub asks : (r : Region) (P : Known) (c : ℕ) → Keeps r P (is_begun c) (S.told c)
  unfolding is_begun
  asks r P c = still _ (λ s. refl) (λ s i p. S.begun_told r s c i)

  pub takes_elements : (r : Region) (P : Known) (n : ℕ) → Keeps r P (take_elements n) (λ t. nothing)
  unfolding take_elements with_elements
  takes_elements r P n = record { by = λ s. limited r _ _ _ s (with_elements n) (nat_le (s.elements + n) element_limit) tt (λ e. quiet_kept r _ (λ t. nothing) tt s s.left (s.elements + n) s.units s.input (λ k. tt)) }

  pub takes_units : (r : Region) (P : Known) (n : ℕ) → Keeps r P (take_units n) (λ t. nothing)
  unfolding take_units with_units
  takes_units r P n = record { by = λ s. limited r _ _ _ s (with_units n) (nat_le (s.units + n) unit_limit) tt (λ e. quiet_kept r _ (λ t. nothing) tt s s.left s.elements (s.units + n) s.input (λ k. tt)) }

  pub takes_byte : (r : Region) (P : Known) → Keeps r P next_byte (λ o. nothing)
  unfolding next_byte
  takes_byte r P = record { by = λ s. byte_kept r _ s.input s }

  pub reads : (r : Region) (P : Known) (x : Slot) → Entails P (S.place x) → Keeps r P (read x) (S.read_from x)
  unfolding read
  reads r P x e = still (λ s. carried_in x s) (λ s. refl) (λ s i p. S.slot_known r s x i (e.by _ p))

  pub declares : (r : Region) (P : Known) (f k : ℕ) → Entails P (S.place (slot.Local f k)) → Keeps r P (declare (slot.Local f k)) (λ t. nothing)
  unfolding declare end
  declares r P f k e = record { by = λ s. record { goes = S.goes_declared s f k; kept = λ g i p. (S.inv_declared r s f k i (e.by _ p), tt) } }

  pub enters : (r : Region) (P : Known) (reach : Reach) (d : Draft) (c : Carried A) (m : Run A (Made A)) → Recording S.program d c m → IsControl d.kind → Entails P (S.value d.value) → Entails P (S.fit c) → Keeps r P (activating reach m) (S.made d)
  unfolding activating
  enters r P reach d c m g t v e = record { by = λ s. go_in_kept r _ reach d c s (m s) t (recording_records S.program d c m s g) (recorded_kept r _ d c m s g (v.by _) (e.by _)) }

  pub enters_writing : (r : Region) (P : Known) (reach : Reach) (d : Draft) (c : Carried A) → IsWrite d c → IsControl d.kind → Entails P (S.place d.slot) → Entails P (S.stores d.slot d.value) → Entails P (S.value d.value) → Entails P (S.fit c) → Keeps r P (activating reach (note_write d c)) (S.made d)
  unfolding activating
  enters_writing r P reach d c g t x y v e = record { by = λ s. go_in_kept r _ reach d c s (note_write d c s) t (writing_records d c s) (written_kept r _ d c s g (x.by _) (y.by _) (v.by _) (e.by _)) }

  pub prints : (r : Region) (P : Known) (d : Draft) (c : Carried A) (bytes : List ℕ) → IsNoted d c → Entails P (S.value d.value) → Entails P (S.fit c) → Keeps r P (room_for_output bytes >> (note d c >>= (λ e. write_out bytes))) (λ t. nothing)
  unfolding ◌>>◌ ◌>>=◌ room_for_output
  prints r P d c bytes g v e = record {
    by = λ s. printed_where r _ d c bytes s (nat_le (length s.output + length bytes) output_limit) (λ fits_in.
        printed r _ (S.made d) d c bytes s (note d c s) (leb-true (length s.output + length bytes) output_limit fits_in) (recording_records S.program d c (note d c) s (noted d c g)) (recorded_kept r _ d c (note d c) s (noted d c g) (v.by _) (e.by _)));
  }

  pub scopes : (r : Region) {X : Type 0} (P : Known) (m : Run A X) (Q : X → Known) → Keeps r P m Q → Keeps r P (scoped m) Q
  unfolding scoped
  scopes r P m Q k = record { by = λ s. again_kept r _ Q s (m s) (k.by s) }

  pub reaches : (r : Region) {X : Type 0} (P : Known) (n : ℕ) (m : Run A X) (Q : X → Known) → Keeps r P m Q → Keeps r P (reaching n m) Q
  unfolding reaching
  reaches r P n m Q k = record { by = λ s. reaches_kept r _ Q s.frame n s (m s) (k.by s) }

  pub runs_in : (r : Region) {X : Type 0} (P : Known) (i : FrameKind) (n : ℕ) (m : Run A X) (Q : X → Known) → Entails P (S.body i n) → Keeps (Ends i) P m Q → Keeps r P (in_frame n m) Q
  unfolding in_frame
  runs_in r P i n m Q e k = record { by = λ s. frame_kept r i n P Q s (m (record s { frame = Some n })) e (k.by (record s { frame = Some n })) }

  pub covers : (r : Region) (P : Known) (n : ℕ) (m : Run A Unit) → Keeps r P m (λ t. nothing) → Keeps r P (covered n m) (λ t. nothing)
  unfolding covered
  covers r P n m k = record { by = λ s. cover_kept r _ n s _ (known_as r _ _ _ _ _ (P.up _ _ (S.now_covered s n _)) (k.by (covering n (begun (length s.noted)) s))) }

  unfoldable pub steps_of : StepLaw A
  steps_of = record {
    facts = S.facts;
    keeps = λ r {X} P m Q. Keeps r P m Q;
    weakens = λ r {X} P P' m Q k e. record { by = λ s. known_as r _ _ Q s _ (e.by _) (k.by s) };
    gives_less = gives_less;
    binds = binds;
    returns = returns;
    leaves = leaves;
    stops = λ r {X} P why Q h. record { by = λ s. stopped_kept r _ Q why s (λ p. S.stopped_plainly why h _) };
    fails = λ r {X} P e Q h. record { by = λ s. stopped_kept r _ Q (InitFailed e) s (λ p. S.stopped_failed e _ (h.by _ p)) };
    catches = catches;
    catches_last = catches_last;
    chooses = λ r {X} P b m k Q h l. choose_keeps b h l;
    ticks = ticks;
    frames = frames;
    looks = looks;
    asks = asks;
    takes_elements = takes_elements;
    takes_units = takes_units;
    takes_byte = takes_byte;
    reads = reads;
    declares = declares;
    records = λ r P d c m g v e. record { by = λ s. recorded_kept r _ d c m s g (v.by _) (e.by _) };
    enters = enters;
    writes = λ r P d c g x y v e. record { by = λ s. written_kept r _ d c s g (x.by _) (y.by _) (v.by _) (e.by _) };
    enters_writing = enters_writing;
    prints = prints;
    scopes = scopes;
    reaches = reaches;
    runs_in = runs_in;
    covers = covers;
  }

  -- the law of steps, with its loops
  unfoldable pub law_of : Law A
  unfolding steps_of
  law_of = counted A steps_of counts
