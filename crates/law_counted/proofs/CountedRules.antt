-- What each step of a run, and what is put together of such steps, does to the covers; and that it does it whatever was counted before.
use Rattle.std.proofs.Common.{◌≡◌, ℕ, zero, suc, ◌+◌, Bool, true, false, ◌<◌, ◌≤◌, List, [], ◌∷◌, length, Option, Some, refl, ap, ap₂, ◌∙◌, subst, le_refl, arith, eqb-true, ne_eqb}
use Rattle.std.proofs.lemmas.Bool.{ltb-true}
use Rattle.std.proofs.Math.Path.{fun_ext}
use Rattle.std.specs.Prelude.{None as Absent}
use Rattle.std.specs.Prelude.{nat_eq, nat_le, nat_lt, if◌then◌else◌}
use Rattle.wy_kernel.specs.Program.{Program}
use Rattle.wy_event.specs.declared.record.Slot.{Slot}
use Rattle.wy_steps.specs.Sets.{Sets}
use Rattle.wy_steps.specs.State.{Carried, Active, Reach, Covered, State, Stop, StepLimit, EventLimit, UseLimit, ElementLimit, UnitLimit, OutputLimit, DepthLimit, Unassigned, FellOff, InitFailed, Reason, Jumped, Returned, Threw, Outcome, Done, Left, Stopped, Run, go_on, ◌>>=◌, ◌>>◌, return, leave, stop, go_on_left, catching, choose}
use Rattle.wy_kernel.specs.Limits.{event_limit, use_limit, element_limit, unit_limit, output_limit}
use Rattle.wy_steps.specs.Steps.{never_left, Made, pay, tick, steps_left, frame, event_at, is_begun, read, declare, Draft, next_event, made, with_event, room_for, noting, note, with_stored, writing, note_write, with_created, creating, note_new, with_active, entered, go_in, activating, active_again, scoped, without, end_reaches, reaching, frame_again, in_frame, with_elements, take_elements, with_units, take_units, room_for_output, write_out, take_byte, next_byte, cover_with, covering, first_moment, begun, ended, left_by, stop_cause, event_of, arrives, end_normally, be_left, cover_end, covered}
use Rattle.wy_meaning.specs.Statement.{statement}
use Rattle.wy_meaning.specs.Run.{covers}
use Rattle.law_counted.specs.Counted.{begins_in, earlier, added}

-- ---- one cover

-- from one moment to a later one a statement ended, and was left, so often; what left it has a number below the bound
pub record Between (bound : ℕ) (a b : Covered) : Type 0 where
  pub ended : ℕ
  pub left : ℕ
  pub begins : b.begins ≡ a.begins + (ended + left)
  pub ends : b.ends ≡ a.ends + ended
  pub same : left ≡ 0 → b.cause ≡ a.cause
  pub told : 0 < left → b.cause < bound

between_same : (bound : ℕ) (a : Covered) → Between bound a a
between_same bound a = record { ended = 0; left = 0; begins = omega arith; ends = omega arith; same = λ e. refl; told = λ h. absurd (omega (arith, h)) }

told_through : (m n : ℕ) (l k : ℕ) (b c : ℕ) → (0 < l → b < m) → (k ≡ 0 → c ≡ b) → (0 < k → c < n) → m ≤ n → 0 < l + k → c < n
told_through m n l zero b c first same second le h =
    let h1 : b < m = first (omega (arith, h)) in
    let h2 : c ≡ b = same refl in
    omega (arith, h1, h2, le)
told_through m n l (suc k) b c first same second le h = second (omega arith)

between_trans : (m n : ℕ) (a b c : Covered) → m ≤ n → Between m a b → Between n b c → Between n a c
between_trans m n a b c le h k =
    let h1 = h.begins in
    let h2 = h.ends in
    let k1 = k.begins in
    let k2 = k.ends in
    record {
      ended = h.ended + k.ended;
      left = h.left + k.left;
      begins = omega (arith, h1, k1);
      ends = omega (arith, h2, k2);
      same = λ e. k.same (omega (arith, e)) ∙ h.same (omega (arith, e));
      told = λ e. told_through m n h.left k.left b.cause c.cause h.told k.same k.told le e;
    }

between_ended : (bound moment : ℕ) (a b : Covered) → Between bound (begun moment a) b → Between bound a (ended b)
unfolding begun ended
between_ended bound moment a b h =
    let h1 = h.begins in
    let h2 = h.ends in
    record { ended = suc h.ended; left = h.left; begins = omega (arith, h1); ends = omega (arith, h2); same = h.same; told = h.told }

between_left : (bound moment e : ℕ) (a b : Covered) → e < bound → Between bound (begun moment a) b → Between bound a (left_by e b)
unfolding begun left_by
between_left bound moment e a b lt h =
    let h1 = h.begins in
    let h2 = h.ends in
    record { ended = h.ended; left = suc h.left; begins = omega (arith, h1); ends = h2; same = λ z. absurd (omega (arith, z)); told = λ z. lt }

-- ---- all covers

-- how often k statements from i on began
abbrev pub total : (ℕ → Covered) → ℕ → ℕ → ℕ
total f i k = begins_in (covers f i k)

total_same : (f g : ℕ → Covered) → ((j : ℕ) → (g j).begins ≡ (f j).begins) → (i k : ℕ) → total g i k ≡ total f i k
unfolding covers
total_same f g h i zero = refl
total_same f g h i (suc k) = let h1 = h i in let h2 = total_same f g h (suc i) k in omega (arith, h1, h2)

pub cover_other : (n j : ℕ) (F : Covered → Covered) (f : ℕ → Covered) → nat_eq j n ≡ false → cover_with n F f j ≡ f j
unfolding cover_with
cover_other n j F f e = ap (λ b. if b then F (f j) else f j) e

total_past : (n : ℕ) (F : Covered → Covered) (f : ℕ → Covered) (i k : ℕ) → n < i → total (cover_with n F f) i k ≡ total f i k
unfolding covers
total_past n F f i zero lt = refl
total_past n F f i (suc k) lt =
    let h1 : (cover_with n F f i).begins ≡ (f i).begins = ap (λ c. c.begins) (cover_other n i F f (ne_eqb i n (λ e. omega (arith, e, lt)))) in
    let h2 = total_past n F f (suc i) k (omega (arith, lt)) in
    omega (arith, h1, h2)

begins_here : (moment : ℕ) (b : Bool) (c : Covered) → (if b then begun moment c else c).begins ≤ suc c.begins
unfolding begun
begins_here moment true c = omega arith
begins_here moment false c = omega arith

total_begun : (n moment : ℕ) (f : ℕ → Covered) (i k : ℕ) → total (cover_with n (begun moment) f) i k ≤ suc (total f i k)
unfolding covers cover_with
total_begun n moment f i zero = omega arith
total_begun n moment f i (suc k) = here (nat_eq i n) refl (total_begun n moment f (suc i) k)
  where
    here : (b : Bool) → nat_eq i n ≡ b → total (cover_with n (begun moment) f) (suc i) k ≤ suc (total f (suc i) k) → total (cover_with n (begun moment) f) i (suc k) ≤ suc (total f i (suc k))
    here true e rest =
        let h1 = begins_here moment (nat_eq i n) (f i) in
        let h2 = total_past n (begun moment) f (suc i) k (let z = eqb-true i n e in omega (arith, z)) in
        omega (arith, h1, h2)
    here false e rest =
        let h1 : (cover_with n (begun moment) f i).begins ≡ (f i).begins = ap (λ c. c.begins) (cover_other n i (begun moment) f e) in
        omega (arith, h1, rest)

-- from one moment to a later one: the covers, and that each begin took one of the steps that were left
pub record Account (bound : ℕ) (f : ℕ → Covered) (n : ℕ) (g : ℕ → Covered) (m : ℕ) : Type 0 where
  pub covers : (k : ℕ) → Between bound (f k) (g k)
  pub paid : (i k : ℕ) → total g i k + m ≤ total f i k + n

account_same : (bound : ℕ) (f : ℕ → Covered) (n : ℕ) → Account bound f n f n
account_same bound f n = record { covers = λ k. between_same bound (f k); paid = λ i k. le_refl _ }

account_less : (bound : ℕ) (f : ℕ → Covered) (n m : ℕ) → m ≤ n → Account bound f n f m
account_less bound f n m le = record { covers = λ k. between_same bound (f k); paid = λ i k. omega (arith, le) }

account_trans : (b c : ℕ) (f g h : ℕ → Covered) (n m l : ℕ) → b ≤ c → Account b f n g m → Account c g m h l → Account c f n h l
account_trans b c f g h n m l le x y = record {
  covers = λ k. between_trans b c (f k) (g k) (h k) le (x.covers k) (y.covers k);
  paid = λ i k. let p = x.paid i k in let q = y.paid i k in omega (arith, p, q);
}

-- a statement between its begin, which took a step, and its end
closed : (bound n moment : ℕ) (F : Covered → Covered) (f g : ℕ → Covered) (k m : ℕ) →
    ((a b : Covered) → Between bound (begun moment a) b → Between bound a (F b)) →
    ((c : Covered) → (F c).begins ≡ c.begins) →
    Account bound (cover_with n (begun moment) f) k g m → Account bound f (suc k) (cover_with n F g) m
unfolding cover_with
closed bound n moment F f g k m whole same h = record {
  covers = λ j. each j (nat_eq j n) (h.covers j);
  paid = λ i l.
      let h1 = h.paid i l in
      let h2 = total_begun n moment f i l in
      let h3 = total_same g (cover_with n F g) (λ j. kept (nat_eq j n) (g j)) i l in
      omega (arith, h1, h2, h3);
}
  where
    kept : (b : Bool) (c : Covered) → (if b then F c else c).begins ≡ c.begins
    kept true c = same c
    kept false c = refl

    each : (j : ℕ) (b : Bool) → Between bound (if b then begun moment (f j) else f j) (g j) → Between bound (f j) (if b then F (g j) else g j)
    each j true x = whole (f j) (g j) x
    each j false x = x

-- ---- runs

-- what a stop may say, and the bound of what it leaves statements by
abbrev pub IsKnown : Stop → Type 0
IsKnown (InitFailed last) = last < event_limit
IsKnown _ = Unit {0}

abbrev pub bound : Stop → ℕ
bound (InitFailed last) = event_limit
bound _ = never_left

bound_above : (why : Stop) → event_limit ≤ bound why
bound_above (InitFailed last) = le_refl _
bound_above StepLimit = omega arith
bound_above EventLimit = omega arith
bound_above UseLimit = omega arith
bound_above ElementLimit = omega arith
bound_above UnitLimit = omega arith
bound_above OutputLimit = omega arith
bound_above DepthLimit = omega arith
bound_above Unassigned = omega arith
bound_above FellOff = omega arith

cause_below : (why : Stop) → IsKnown why → stop_cause why < bound why
unfolding stop_cause
cause_below (InitFailed last) h = h
cause_below StepLimit h = omega arith
cause_below EventLimit h = omega arith
cause_below UseLimit h = omega arith
cause_below ElementLimit h = omega arith
cause_below UnitLimit h = omega arith
cause_below OutputLimit h = omega arith
cause_below DepthLimit h = omega arith
cause_below Unassigned h = omega arith
cause_below FellOff h = omega arith

earlier_begun : (b c : Option ℕ) (moment : ℕ) → first_moment (earlier b c) moment ≡ earlier b (first_moment c moment)
unfolding first_moment
earlier_begun (Some m) c moment = refl
earlier_begun Absent c moment = refl

module _ (A : Sets) where
  -- the event of a reason is one
  abbrev pub IsRecorded : Reason A → Type 0
  IsRecorded (Jumped target e) = e < event_limit
  IsRecorded (Returned e v) = e < event_limit
  IsRecorded (Threw e v) = e < event_limit

  event_below : (why : Reason A) → IsRecorded why → event_of why < event_limit
  unfolding event_of
  event_below (Jumped target e) h = h
  event_below (Returned e v) h = h
  event_below (Threw e v) h = h

  -- the account of a part of a run, from its beginning to wherever it ended
  abbrev pub Within : {X : Type 0} → (ℕ → Covered) → ℕ → Outcome A X → Type 0
  Within f n (Done x s) = Account event_limit f n s.coverage s.left
  Within f n (Left why s) = Account event_limit f n s.coverage s.left × IsRecorded why
  Within f n (Stopped why s) = Account (bound why) f n s.coverage s.left × IsKnown why

  -- the same state with more counted before it
  abbrev pub over : (ℕ → Covered) → State A → State A
  over b s = record s { coverage = λ n. added (b n) (s.coverage n) }

  abbrev pub over_all : {X : Type 0} → (ℕ → Covered) → Outcome A X → Outcome A X
  over_all b (Done x s) = Done x (over b s)
  over_all b (Left why s) = Left why (over b s)
  over_all b (Stopped why s) = Stopped why (over b s)

  -- the account of a part of a run is kept, and what was counted before it makes no difference to it
  pub record Counts {X : Type 0} (m : Run A X) : Type 0 where
    pub within : (s : State A) → Within s.coverage s.left (m s)
    pub blind : (b : ℕ → Covered) (s : State A) → m (over b s) ≡ over_all b (m s)

  -- ---- putting together

  since : {X : Type 0} (f g : ℕ → Covered) (n m : ℕ) (o : Outcome A X) → Account event_limit f n g m → Within g m o → Within f n o
  since f g n m (Done x s) h k = account_trans _ _ f g s.coverage n m s.left (le_refl _) h k
  since f g n m (Left why s) h k = (account_trans _ _ f g s.coverage n m s.left (le_refl _) h k.0, k.1)
  since f g n m (Stopped why s) h k = (account_trans _ _ f g s.coverage n m s.left (bound_above why) h k.0, k.1)

  go_on_within : {X Y : Type 0} (f : ℕ → Covered) (n : ℕ) (o : Outcome A X) (k : X → Run A Y) → Within f n o → ((x : X) (s : State A) → Within s.coverage s.left (k x s)) → Within f n (go_on o k)
  unfolding go_on
  go_on_within f n (Done x s) k h j = since f s.coverage n s.left (k x s) h (j x s)
  go_on_within f n (Left why s) k h j = h
  go_on_within f n (Stopped why s) k h j = h

  go_on_blind : {X Y : Type 0} (b : ℕ → Covered) (o : Outcome A X) (k : X → Run A Y) → ((x : X) (s : State A) → k x (over b s) ≡ over_all b (k x s)) → go_on (over_all b o) k ≡ over_all b (go_on o k)
  unfolding go_on
  go_on_blind b (Done x s) k h = h x s
  go_on_blind b (Left why s) k h = refl
  go_on_blind b (Stopped why s) k h = refl

  pub bind : {X Y : Type 0} {m : Run A X} {f : X → Run A Y} → Counts m → ((x : X) → Counts (f x)) → Counts (m >>= f)
  unfolding ◌>>=◌
  bind {m = m} {f = f} h k = record {
    within = λ s. go_on_within s.coverage s.left (m s) f (h.within s) (λ x t. (k x).within t);
    blind = λ b s. ap (λ o. go_on o f) (h.blind b s) ∙ go_on_blind b (m s) f (λ x t. (k x).blind b t);
  }

  pub after : {X Y : Type 0} {m : Run A X} {f : Run A Y} → Counts m → Counts f → Counts (m >> f)
  unfolding ◌>>◌
  after h k = bind h (λ x. k)

  left_within : {X : Type 0} (f : ℕ → Covered) (n : ℕ) (o : Outcome A X) (k : Reason A → Run A X) → Within f n o → ((why : Reason A) → IsRecorded why → Counts (k why)) → Within f n (go_on_left o k)
  unfolding go_on_left
  left_within f n (Done x s) k h j = h
  left_within f n (Left why s) k h j = since f s.coverage n s.left (k why s) h.0 ((j why h.1).within s)
  left_within f n (Stopped why s) k h j = h

  left_blind : {X : Type 0} (b f : ℕ → Covered) (n : ℕ) (o : Outcome A X) (k : Reason A → Run A X) → Within f n o → ((why : Reason A) → IsRecorded why → Counts (k why)) → go_on_left (over_all b o) k ≡ over_all b (go_on_left o k)
  unfolding go_on_left
  left_blind b f n (Done x s) k h j = refl
  left_blind b f n (Left why s) k h j = (j why h.1).blind b s
  left_blind b f n (Stopped why s) k h j = refl

  pub counts_catching : {X : Type 0} {m : Run A X} {f : Reason A → Run A X} → Counts m → ((why : Reason A) → IsRecorded why → Counts (f why)) → Counts (catching m f)
  unfolding catching
  counts_catching {m = m} {f = f} h k = record {
    within = λ s. left_within s.coverage s.left (m s) f (h.within s) k;
    blind = λ b s. ap (λ o. go_on_left o f) (h.blind b s) ∙ left_blind b s.coverage s.left (m s) f (h.within s) k;
  }

  pub counts_choose : {X : Type 0} {m k : Run A X} (b : Bool) → Counts m → Counts k → Counts (choose b m k)
  unfolding choose
  counts_choose true hm hk = hm
  counts_choose false hm hk = hk

  pub counts_return : {X : Type 0} (x : X) → Counts (return x)
  unfolding return
  counts_return x = record { within = λ s. account_same _ _ _; blind = λ b s. refl }

  pub counts_leave : {X : Type 0} (why : Reason A) → IsRecorded why → Counts {X = X} (leave why)
  unfolding leave
  counts_leave why h = record { within = λ s. (account_same _ _ _, h); blind = λ b s. refl }

  pub counts_stop : {X : Type 0} (why : Stop) → IsKnown why → Counts {X = X} (stop why)
  unfolding stop
  counts_stop why h = record { within = λ s. (account_same _ _ _, h); blind = λ b s. refl }

  pub counts_unassigned : {X : Type 0} → Counts {X = X} (stop Unassigned)
  counts_unassigned = counts_stop Unassigned tt

  -- ---- steps

  pay_within : (n : ℕ) (s : State A) → n ≡ s.left → Within s.coverage s.left (pay n s)
  unfolding pay
  pay_within zero s e = (account_same _ _ _, tt)
  pay_within (suc n) s e = account_less _ _ _ _ (omega (arith, e))

  pay_blind : (b : ℕ → Covered) (n : ℕ) (s : State A) → pay n (over b s) ≡ over_all b (pay n s)
  unfolding pay
  pay_blind b zero s = refl
  pay_blind b (suc n) s = refl

  pub counts_tick : Counts tick
  unfolding tick
  counts_tick = record { within = λ s. pay_within s.left s refl; blind = λ b s. pay_blind b s.left s }

  pub counts_steps_left : Counts steps_left
  unfolding steps_left
  counts_steps_left = record { within = λ s. account_same _ _ _; blind = λ b s. refl }

  pub counts_frame : Counts frame
  unfolding frame
  counts_frame = record { within = λ s. account_same _ _ _; blind = λ b s. refl }

  pub counts_event_at : (n : ℕ) → Counts (event_at n)
  unfolding event_at
  counts_event_at n = record { within = λ s. account_same _ _ _; blind = λ b s. refl }

  pub counts_is_begun : (c : ℕ) → Counts (is_begun c)
  unfolding is_begun
  counts_is_begun c = record { within = λ s. account_same _ _ _; blind = λ b s. refl }

  pub counts_read : (x : Slot) → Counts (read x)
  unfolding read
  counts_read x = record { within = λ s. account_same _ _ _; blind = λ b s. refl }

  pub counts_declare : (x : Slot) → Counts (declare x)
  unfolding declare
  counts_declare x = record { within = λ s. account_same _ _ _; blind = λ b s. refl }

  -- where a limit of what is made or recorded is reached
  limited : {X : Type 0} (b : Bool) (why : Stop) (m : Run A X) (s : State A) → IsKnown why → (b ≡ true → Within s.coverage s.left (m s)) → Within s.coverage s.left (choose b m (stop why) s)
  unfolding choose stop
  limited true why m s d h = h refl
  limited false why m s d h = (account_same _ _ _, d)

  limited_blind : {X : Type 0} (c : Bool) (why : Stop) (m : Run A X) (b : ℕ → Covered) (s : State A) → m (over b s) ≡ over_all b (m s) → choose c m (stop why) (over b s) ≡ over_all b (choose c m (stop why) s)
  unfolding choose stop
  limited_blind true why m b s h = h
  limited_blind false why m b s h = refl

  pub counts_take_elements : (n : ℕ) → Counts (take_elements n)
  unfolding take_elements with_elements
  counts_take_elements n = record {
    within = λ s. limited (nat_le (s.elements + n) element_limit) ElementLimit (with_elements n) s tt (λ e. account_same _ _ _);
    blind = λ b s. limited_blind (nat_le (s.elements + n) element_limit) ElementLimit (with_elements n) b s refl;
  }

  pub counts_take_units : (n : ℕ) → Counts (take_units n)
  unfolding take_units with_units
  counts_take_units n = record {
    within = λ s. limited (nat_le (s.units + n) unit_limit) UnitLimit (with_units n) s tt (λ e. account_same _ _ _);
    blind = λ b s. limited_blind (nat_le (s.units + n) unit_limit) UnitLimit (with_units n) b s refl;
  }

  pub counts_room_for_output : (bytes : List ℕ) → Counts (room_for_output bytes)
  unfolding room_for_output return
  counts_room_for_output bytes = record {
    within = λ s. limited (nat_le (length s.output + length bytes) output_limit) OutputLimit (return tt) s tt (λ e. account_same _ _ _);
    blind = λ b s. limited_blind (nat_le (length s.output + length bytes) output_limit) OutputLimit (return tt) b s refl;
  }

  pub counts_write_out : (bytes : List ℕ) → Counts (write_out bytes)
  unfolding write_out
  counts_write_out bytes = record { within = λ s. account_same _ _ _; blind = λ b s. refl }

  byte_within : (bytes : List ℕ) (s : State A) → Within s.coverage s.left (take_byte bytes s)
  unfolding take_byte
  byte_within [] s = account_same _ _ _
  byte_within (b ∷ rest) s = account_same _ _ _

  byte_blind : (b : ℕ → Covered) (bytes : List ℕ) (s : State A) → take_byte bytes (over b s) ≡ over_all b (take_byte bytes s)
  unfolding take_byte
  byte_blind b [] s = refl
  byte_blind b (x ∷ rest) s = refl

  pub counts_next_byte : Counts next_byte
  unfolding next_byte
  counts_next_byte = record { within = λ s. byte_within s.input s; blind = λ b s. byte_blind b s.input s }

  -- ---- events, whose numbers are below their limit

  abbrev Recording : Run A (Made A) → State A → Type 0
  Recording m s = Within s.coverage s.left (m s) × ((b : ℕ → Covered) → m (over b s) ≡ over_all b (m s))

  -- what is done with an event that was recorded
  room : {X : Type 0} (c : Carried A) (m : Run A (Made A)) (f : Made A → Run A X) →
      ((s : State A) → length s.noted < event_limit → Within s.coverage s.left ((m >>= f) s)) →
      ((b : ℕ → Covered) (s : State A) → length s.noted < event_limit → (m >>= f) (over b s) ≡ over_all b ((m >>= f) s)) →
      Counts (room_for c m >>= f)
  unfolding room_for ◌>>=◌ choose stop go_on
  room c m f h k = record {
    within = λ s. inside (nat_lt (length s.noted) event_limit) (nat_le (s.uses + length c.uses) use_limit) s refl;
    blind = λ b s. around b (nat_lt (length s.noted) event_limit) (nat_le (s.uses + length c.uses) use_limit) s refl;
  }
    where
      inside : (x y : Bool) (s : State A) → nat_lt (length s.noted) event_limit ≡ x → Within s.coverage s.left (go_on (choose x (choose y m (stop UseLimit)) (stop EventLimit) s) f)
      inside true true s e = h s (ltb-true (length s.noted) event_limit e)
      inside true false s e = (account_same _ _ _, tt)
      inside false y s e = (account_same _ _ _, tt)

      around : (b : ℕ → Covered) (x y : Bool) (s : State A) → nat_lt (length s.noted) event_limit ≡ x → go_on (choose x (choose y m (stop UseLimit)) (stop EventLimit) (over b s)) f ≡ over_all b (go_on (choose x (choose y m (stop UseLimit)) (stop EventLimit) s) f)
      around b true true s e = k b s (ltb-true (length s.noted) event_limit e)
      around b true false s e = refl
      around b false y s e = refl

  pub bind_note : {X : Type 0} {f : Made A → Run A X} (x : Draft) (c : Carried A) → ((e : Made A) → e.number < event_limit → Counts (f e)) → Counts (note x c >>= f)
  unfolding note noting with_event next_event made ◌>>=◌ go_on
  bind_note {f = f} x c h = room c (noting x c) f (λ s lt. (h (made (next_event x c s) s) lt).within _) (λ b s lt. (h (made (next_event x c s) s) lt).blind b _)

  plain_room : (c : Carried A) (m : Run A (Made A)) → Counts m → Counts (room_for c m)
  unfolding room_for
  plain_room c m h = record {
    within = λ s. limited (nat_lt (length s.noted) event_limit) EventLimit _ s tt (λ e. limited (nat_le (s.uses + length c.uses) use_limit) UseLimit m s tt (λ e. h.within s));
    blind = λ b s. limited_blind (nat_lt (length s.noted) event_limit) EventLimit _ b s (limited_blind (nat_le (s.uses + length c.uses) use_limit) UseLimit m b s (h.blind b s));
  }

  pub counts_note : (x : Draft) (c : Carried A) → Counts (note x c)
  unfolding note noting with_event next_event made
  counts_note x c = plain_room c (noting x c) (record { within = λ s. account_same _ _ _; blind = λ b s. refl })

  pub counts_note_write : (x : Draft) (c : Carried A) → Counts (note_write x c)
  unfolding note_write writing with_event with_stored next_event made
  counts_note_write x c = plain_room c (writing x c) (record { within = λ s. account_same _ _ _; blind = λ b s. refl })

  pub counts_note_new : (p : Program) (x : Draft) (c : Carried A) → Counts (note_new p x c)
  unfolding note_new creating with_event with_created next_event made
  counts_note_new p x c = plain_room c (creating p x c) (record { within = λ s. account_same _ _ _; blind = λ b s. refl })

  -- ---- what is done with an outcome, and counts nothing

  again_within : {X : Type 0} (entries : List (Active A)) (f : ℕ → Covered) (n : ℕ) (o : Outcome A X) → Within f n o → Within f n (active_again entries o)
  unfolding active_again
  again_within entries f n (Done x s) h = h
  again_within entries f n (Left why s) h = h
  again_within entries f n (Stopped why s) h = h

  again_blind : {X : Type 0} (entries : List (Active A)) (b : ℕ → Covered) (o : Outcome A X) → active_again entries (over_all b o) ≡ over_all b (active_again entries o)
  unfolding active_again
  again_blind entries b (Done x s) = refl
  again_blind entries b (Left why s) = refl
  again_blind entries b (Stopped why s) = refl

  pub counts_scoped : {X : Type 0} {m : Run A X} → Counts m → Counts (scoped m)
  unfolding scoped
  counts_scoped {m = m} h = record {
    within = λ s. again_within s.active s.coverage s.left (m s) (h.within s);
    blind = λ b s. ap (active_again s.active) (h.blind b s) ∙ again_blind s.active b (m s);
  }

  reaches_within : {X : Type 0} (fr : Option ℕ) (j : ℕ) (f : ℕ → Covered) (n : ℕ) (o : Outcome A X) → Within f n o → Within f n (end_reaches fr j o)
  unfolding end_reaches without
  reaches_within fr j f n (Done x s) h = h
  reaches_within fr j f n (Left why s) h = h
  reaches_within fr j f n (Stopped why s) h = h

  reaches_blind : {X : Type 0} (fr : Option ℕ) (j : ℕ) (b : ℕ → Covered) (o : Outcome A X) → end_reaches fr j (over_all b o) ≡ over_all b (end_reaches fr j o)
  unfolding end_reaches without
  reaches_blind fr j b (Done x s) = refl
  reaches_blind fr j b (Left why s) = refl
  reaches_blind fr j b (Stopped why s) = refl

  frame_within : {X : Type 0} (fr : Option ℕ) (f : ℕ → Covered) (n : ℕ) (o : Outcome A X) → Within f n o → Within f n (frame_again fr o)
  unfolding frame_again
  frame_within fr f n (Done x s) h = h
  frame_within fr f n (Left why s) h = h
  frame_within fr f n (Stopped why s) h = h

  frame_blind : {X : Type 0} (fr : Option ℕ) (b : ℕ → Covered) (o : Outcome A X) → frame_again fr (over_all b o) ≡ over_all b (frame_again fr o)
  unfolding frame_again
  frame_blind fr b (Done x s) = refl
  frame_blind fr b (Left why s) = refl
  frame_blind fr b (Stopped why s) = refl

  pub counts_in_frame : {X : Type 0} {m : Run A X} (n : ℕ) → Counts m → Counts (in_frame n m)
  unfolding in_frame
  counts_in_frame {m = m} n h = record {
    within = λ s. frame_within s.frame s.coverage s.left (m (record s { frame = Some n })) (h.within (record s { frame = Some n }));
    blind = λ b s. ap (frame_again s.frame) (h.blind b (record s { frame = Some n })) ∙ frame_blind s.frame b (m (record s { frame = Some n }));
  }

  go_in_within : (reach : Reach) (f : ℕ → Covered) (n : ℕ) (o : Outcome A (Made A)) → Within f n o → Within f n (go_in reach o)
  unfolding go_in entered with_active
  go_in_within reach f n (Done x s) h = h
  go_in_within reach f n (Left why s) h = h
  go_in_within reach f n (Stopped why s) h = h

  go_in_blind : (reach : Reach) (b : ℕ → Covered) (o : Outcome A (Made A)) → go_in reach (over_all b o) ≡ over_all b (go_in reach o)
  unfolding go_in entered with_active
  go_in_blind reach b (Done x s) = refl
  go_in_blind reach b (Left why s) = refl
  go_in_blind reach b (Stopped why s) = refl

  pub counts_activating : {m : Run A (Made A)} (reach : Reach) → Counts m → Counts (activating reach m)
  unfolding activating
  counts_activating {m = m} reach h = record {
    within = λ s. go_in_within reach s.coverage s.left (m s) (h.within s);
    blind = λ b s. ap (go_in reach) (h.blind b s) ∙ go_in_blind reach b (m s);
  }

  -- ---- a statement, from its begin to its end

  arrival : (n moment : ℕ) (why : Reason A) (f : ℕ → Covered) (k : ℕ) (s : State A) → IsRecorded why → Account event_limit (cover_with n (begun moment) f) k s.coverage s.left → (b : Bool) → Within f (suc k) (choose b (end_normally n) (be_left n why) s)
  unfolding choose end_normally be_left covering left_by ended
  arrival n moment why f k s told h true = closed _ n moment ended f s.coverage k s.left (between_ended _ moment) (λ c. refl) h
  arrival n moment why f k s told h false = (closed _ n moment (left_by (event_of why)) f s.coverage k s.left (λ x y. between_left _ moment (event_of why) x y (event_below why told)) (λ c. refl) h, told)

  cover_within : (n moment : ℕ) (f : ℕ → Covered) (k : ℕ) (o : Outcome A Unit) → Within (cover_with n (begun moment) f) k o → Within f (suc k) (cover_end n o)
  unfolding cover_end end_normally covering left_by ended
  cover_within n moment f k (Done x s) h = closed _ n moment ended f s.coverage k s.left (between_ended _ moment) (λ c. refl) h
  cover_within n moment f k (Left why s) h = arrival n moment why f k s h.1 h.0 (arrives n why)
  cover_within n moment f k (Stopped why s) h = (closed _ n moment (left_by (stop_cause why)) f s.coverage k s.left (λ x y. between_left _ moment (stop_cause why) x y (cause_below why h.1)) (λ c. refl) h.0, h.1)

  -- what changes a cover does the same on top of what was counted before
  upon : (n : ℕ) (F : Covered → Covered) (b f : ℕ → Covered) → ((x c : Covered) → F (added x c) ≡ added x (F c)) → cover_with n F (λ j. added (b j) (f j)) ≡ (λ j. added (b j) (cover_with n F f j))
  unfolding cover_with
  upon n F b f h = fun_ext (λ j. each j (nat_eq j n))
    where
      each : (j : ℕ) (z : Bool) → (if z then F (added (b j) (f j)) else added (b j) (f j)) ≡ added (b j) (if z then F (f j) else f j)
      each j true = h (b j) (f j)
      each j false = refl

  begun_upon : (moment : ℕ) (x c : Covered) → begun moment (added x c) ≡ added x (begun moment c)
  unfolding begun
  begun_upon moment x c =
      let one : suc (c.begins + x.begins) ≡ suc c.begins + x.begins = omega arith in
      ap₂ (λ k o. record { begins = k; ends = c.ends + x.ends; first = o; cause = c.cause }) one (earlier_begun x.first c.first moment)

  ended_upon : (x c : Covered) → ended (added x c) ≡ added x (ended c)
  unfolding ended
  ended_upon x c =
      let one : suc (c.ends + x.ends) ≡ suc c.ends + x.ends = omega arith in
      ap (λ k. record { begins = c.begins + x.begins; ends = k; first = earlier x.first c.first; cause = c.cause }) one

  left_upon : (e : ℕ) (x c : Covered) → left_by e (added x c) ≡ added x (left_by e c)
  unfolding left_by
  left_upon e x c = refl

  pub covering_over : (n : ℕ) (F : Covered → Covered) (b : ℕ → Covered) (s : State A) → ((x c : Covered) → F (added x c) ≡ added x (F c)) → covering n F (over b s) ≡ over b (covering n F s)
  unfolding covering
  covering_over n F b s h = ap (λ g. record s { coverage = g }) (upon n F b s.coverage h)

  arrival_blind : (n : ℕ) (why : Reason A) (b : ℕ → Covered) (s : State A) (z : Bool) → choose z (end_normally n) (be_left n why) (over b s) ≡ over_all b (choose z (end_normally n) (be_left n why) s)
  unfolding choose end_normally be_left
  arrival_blind n why b s true = ap (λ t. Done tt t) (covering_over n ended b s ended_upon)
  arrival_blind n why b s false = ap (λ t. Left why t) (covering_over n (left_by (event_of why)) b s (left_upon (event_of why)))

  cover_blind : (n : ℕ) (b : ℕ → Covered) (o : Outcome A Unit) → cover_end n (over_all b o) ≡ over_all b (cover_end n o)
  unfolding cover_end end_normally
  cover_blind n b (Done x s) = ap (λ t. Done tt t) (covering_over n ended b s ended_upon)
  cover_blind n b (Left why s) = arrival_blind n why b s (arrives n why)
  cover_blind n b (Stopped why s) = ap (λ t. Stopped why t) (covering_over n (left_by (stop_cause why)) b s (left_upon (stop_cause why)))

  covered_blind : {m : Run A Unit} (n : ℕ) (b : ℕ → Covered) (s : State A) → Counts m → covered n m (over b s) ≡ over_all b (covered n m s)
  unfolding covered
  covered_blind {m = m} n b s h =
      ap (λ t. cover_end n (m t)) (covering_over n (begun (length s.noted)) b s (begun_upon (length s.noted)))
      ∙ ap (cover_end n) (h.blind b (covering n (begun (length s.noted)) s))
      ∙ cover_blind n b (m (covering n (begun (length s.noted)) s))

  started : {m : Run A Unit} (n k : ℕ) (s : State A) → Counts m → k ≡ s.left → Within s.coverage s.left (go_on (pay k s) (λ u. reaching n (covered n m)))
  unfolding pay go_on reaching covered covering
  started {m = m} n zero s h e = (account_same _ _ _, tt)
  started {m = m} n (suc k) s h e =
      subst (λ l. Within s.coverage l (end_reaches s.frame n (cover_end n (m (record s { left = k; coverage = cover_with n (begun (length s.noted)) s.coverage }))))) e
      (reaches_within s.frame n s.coverage (suc k) _ (cover_within n (length s.noted) s.coverage k _ (h.within (record s { left = k; coverage = cover_with n (begun (length s.noted)) s.coverage }))))

  reaching_blind : {m : Run A Unit} (n : ℕ) (b : ℕ → Covered) (s : State A) → Counts m → reaching n (covered n m) (over b s) ≡ over_all b (reaching n (covered n m) s)
  unfolding reaching
  reaching_blind {m = m} n b s h = ap (end_reaches s.frame n) (covered_blind n b s h) ∙ reaches_blind s.frame n b (covered n m s)

  pub counts_statement : {m : Run A Unit} (n : ℕ) → Counts m → Counts (statement n m)
  unfolding statement tick ◌>>◌ ◌>>=◌
  counts_statement {m = m} n h = record {
    within = λ s. started n s.left s h refl;
    blind = λ b s. ap (λ o. go_on o (λ u. reaching n (covered n m))) (pay_blind b s.left s) ∙ go_on_blind b (pay s.left s) (λ u. reaching n (covered n m)) (λ u t. reaching_blind n b t h);
  }
