-- What a law says of each step, as rules that a goal determines.
use Rattle.std.proofs.Common.{◌≡◌, ℕ, Bool, true, false, List, Option}
use Rattle.wy_event.specs.declared.record.Slot.{Slot}
use Rattle.wy_event.specs.declared.record.Slot.TheVariants as slot
use Rattle.wy_event.specs.Record.{Recorded}
use Rattle.wy_steps.specs.Sets.{Sets}
use Rattle.wy_steps.specs.State.{Carried, Reach, Stop, InitFailed, Reason, Run, ◌>>=◌, ◌>>◌, return, leave, stop, catching, choose}
use Rattle.wy_steps.specs.Steps.{Made, Draft, tick, frame, event_at, is_begun, read, declare, note, note_write, activating, scoped, reaching, in_frame, take_elements, take_units, room_for_output, write_out, next_byte, covered}
use Rattle.wy_meaning.specs.Statement.{while_form, do_form}
use Rattle.law_induction.specs.Law.{Moments, Fact, nothing, both, Entails, FrameKind, Region, In, Ends, IsControl, IsPlain, IsNoted, IsWrite, Recording, Law}

pub newest : {T : Moments} (P Q : Fact T) → Entails (both P Q) Q
unfolding both
newest P Q = record { by = λ n h. h.1 }

pub before : {T : Moments} (P Q : Fact T) {S : Fact T} → Entails P S → Entails (both P Q) S
unfolding both
before P Q e = record { by = λ n h. e.by n h.0 }

pub trivially : {T : Moments} {P : Fact T} → Entails P nothing
trivially = record { by = λ n h. tt }

pub same : {T : Moments} {P : Fact T} → Entails P P
same = record { by = λ n h. h }

pub chain : {T : Moments} {P Q S : Fact T} → Entails P Q → Entails Q S → Entails P S
chain d e = record { by = λ n h. e.by n (d.by n h) }

pub together : {T : Moments} {P Q S : Fact T} → Entails P Q → Entails P S → Entails P (both Q S)
unfolding both
together d e = record { by = λ n h. (d.by n h, e.by n h) }

module _ (A : Sets) (L : Law A) where
  abbrev pub Known : Type 1
  Known = Fact L.moments

  pub record Keeps (r : Region) {X : Type 0} (P : Fact L.moments) (m : Run A X) (Q : X → Fact L.moments) : Type 0 where
    pub by : L.keeps r P m Q

  -- ---- putting together

  pub keeps_bind : {r : Region} {X Y : Type 0} {P : Known} {Q : X → Known} {S : Y → Known} {m : Run A X} {f : X → Run A Y} → Keeps r P m Q → ((x : X) → Keeps r (both P (Q x)) (f x) S) → Keeps r P (m >>= f) S
  keeps_bind {r = r} {P = P} {Q = Q} {S = S} {m = m} {f = f} k l = record { by = L.binds r P m Q f S k.by (λ x. (l x).by) }

  pub weaker : {r : Region} {X : Type 0} {P P' : Known} {Q : X → Known} {m : Run A X} → Keeps r P m Q → Entails P' P → Keeps r P' m Q
  weaker {r = r} {P = P} {P' = P'} {Q = Q} {m = m} k e = record { by = L.weakens r P P' m Q k.by e }

  pub gives_less : {r : Region} {X : Type 0} {P : Known} {Q S : X → Known} {m : Run A X} → Keeps r P m Q → ((x : X) → Entails (both P (Q x)) (S x)) → Keeps r P m S
  gives_less {r = r} {P = P} {Q = Q} {S = S} {m = m} k e = record { by = L.gives_less r P m Q S k.by e }

  pub forgets : {r : Region} {P : Known} {Q : Unit → Known} {m : Run A Unit} → Keeps r P m Q → Keeps r P m (λ t. nothing)
  forgets k = gives_less k (λ t. trivially)

  pub keeps_return : {r : Region} {X : Type 0} {P : Known} {Q : X → Known} (x : X) → Entails P (Q x) → Keeps r P (return x) Q
  keeps_return {r = r} {P = P} {Q = Q} x e = record { by = L.returns r P x Q e }

  pub keeps_leave : {r : Region} {X : Type 0} {P : Known} {Q : X → Known} (why : Reason A) → Entails P (L.reason r why) → Keeps r P (leave why) Q
  keeps_leave {r = r} {P = P} {Q = Q} why e = record { by = L.leaves r P why Q e }

  pub keeps_stop : {r : Region} {X : Type 0} {P : Known} {Q : X → Known} (why : Stop) → IsPlain why → Keeps r P (stop why) Q
  keeps_stop {r = r} {P = P} {Q = Q} why h = record { by = L.stops r P why Q h }

  pub keeps_failed : {r : Region} {X : Type 0} {P : Known} {Q : X → Known} (e : ℕ) → Entails P (L.threw e) → Keeps r P (stop (InitFailed e)) Q
  keeps_failed {r = r} {P = P} {Q = Q} e h = record { by = L.fails r P e Q h }

  pub keeps_catching : {r : Region} {X : Type 0} {P : Known} {Q : X → Known} {m : Run A X} {f : Reason A → Run A X} → Keeps r P m Q → ((why : Reason A) → Keeps r (both P (L.reason r why)) (f why) Q) → Keeps r P (catching m f) Q
  keeps_catching {r = r} {P = P} {Q = Q} {m = m} {f = f} k l = record { by = L.catches r P m f Q k.by (λ why. (l why).by) }

  -- at the end of a body
  pub keeps_last : {i : FrameKind} {X : Type 0} {P : Known} {Q : X → Known} {m : Run A X} {f : Reason A → Run A X} → Keeps (In i) P m Q → ((why : Reason A) → Keeps (Ends i) (both P (L.reason (In i) why)) (f why) Q) → Keeps (Ends i) P (catching m f) Q
  keeps_last {i = i} {P = P} {Q = Q} {m = m} {f = f} k l = record { by = L.catches_last i P m f Q k.by (λ why. (l why).by) }

  pub keeps_either : {r : Region} {X : Type 0} {P : Known} {Q : X → Known} {m k : Run A X} (c : Bool) → (c ≡ true → Keeps r P m Q) → (c ≡ false → Keeps r P k Q) → Keeps r P (choose c m k) Q
  keeps_either {r = r} {P = P} {Q = Q} {m = m} {k = k} c h l = record { by = L.chooses r P c m k Q (λ e. (h e).by) (λ e. (l e).by) }

  pub keeps_choose : {r : Region} {X : Type 0} {P : Known} {Q : X → Known} {m k : Run A X} (c : Bool) → Keeps r P m Q → Keeps r P k Q → Keeps r P (choose c m k) Q
  keeps_choose c h l = keeps_either c (λ e. h) (λ e. l)

  pub keeps_whiles : {r : Region} {P : Known} (test : Run A Bool) (m : Run A Unit) → ((P : Known) → Keeps r P test (λ b. nothing)) → ((P : Known) → Keeps r P m (λ t. nothing)) → Keeps r P (while_form test m) (λ t. nothing)
  keeps_whiles {r = r} {P = P} test m ht hm = record { by = L.whiles r P test m (λ R. (ht R).by) (λ R. (hm R).by) }

  pub keeps_dos : {r : Region} {P : Known} (test : Run A Bool) (m : Run A Unit) → ((P : Known) → Keeps r P test (λ b. nothing)) → ((P : Known) → Keeps r P m (λ t. nothing)) → Keeps r P (do_form m test) (λ t. nothing)
  keeps_dos {r = r} {P = P} test m ht hm = record { by = L.dos r P test m (λ R. (ht R).by) (λ R. (hm R).by) }

  -- one after the other, where nothing is known of what the first gives
  pub after : {r : Region} {Y : Type 0} {P : Known} {S : Y → Known} {m : Run A Unit} {f : Run A Y} → Keeps r P m (λ t. nothing) → Keeps r P f S → Keeps r P (m >> f) S
  unfolding ◌>>◌
  after k l = keeps_bind k (λ t. weaker l (before _ _ same))

  pub next : {r : Region} {X Y : Type 0} {P : Known} {S : Y → Known} {m : Run A X} {f : X → Run A Y} → Keeps r P m (λ x. nothing) → ((x : X) → Keeps r P (f x) S) → Keeps r P (m >>= f) S
  next k l = keeps_bind k (λ x. weaker (l x) (before _ _ same))

  -- ---- steps

  pub keeps_tick : {r : Region} {P : Known} → Keeps r P tick (λ t. nothing)
  keeps_tick {r = r} {P = P} = record { by = L.ticks r P }

  pub keeps_frame : {i : FrameKind} {P : Known} → Keeps (In i) P frame (L.current i)
  keeps_frame {i = i} {P = P} = record { by = L.frames i P }

  pub keeps_event_at : {r : Region} {P : Known} (n : ℕ) (Q : Option Recorded → Known) → ((o : Option Recorded) (m : L.moments.moment) → P.holds m → L.sees n o m → (Q o).holds m) → Keeps r P (event_at n) Q
  keeps_event_at {r = r} {P = P} n Q h = record { by = L.looks r P n Q h }

  pub keeps_is_begun : {r : Region} {P : Known} (c : ℕ) → Keeps r P (is_begun c) (L.told c)
  keeps_is_begun {r = r} {P = P} c = record { by = L.asks r P c }

  pub keeps_take_elements : {r : Region} {P : Known} (n : ℕ) → Keeps r P (take_elements n) (λ t. nothing)
  keeps_take_elements {r = r} {P = P} n = record { by = L.takes_elements r P n }

  pub keeps_take_units : {r : Region} {P : Known} (n : ℕ) → Keeps r P (take_units n) (λ t. nothing)
  keeps_take_units {r = r} {P = P} n = record { by = L.takes_units r P n }

  pub keeps_next_byte : {r : Region} {P : Known} → Keeps r P next_byte (λ b. nothing)
  keeps_next_byte {r = r} {P = P} = record { by = L.takes_byte r P }

  pub keeps_read : {r : Region} {P : Known} (x : Slot) → Entails P (L.place x) → Keeps r P (read x) (L.read_from x)
  keeps_read {r = r} {P = P} x e = record { by = L.reads r P x e }

  pub keeps_declare : {r : Region} {P : Known} (f k : ℕ) → Entails P (L.place (slot.Local f k)) → Keeps r P (declare (slot.Local f k)) (λ t. nothing)
  keeps_declare {r = r} {P = P} f k e = record { by = L.declares r P f k e }

  pub keeps_scoped : {r : Region} {X : Type 0} {P : Known} {Q : X → Known} {m : Run A X} → Keeps r P m Q → Keeps r P (scoped m) Q
  keeps_scoped {r = r} {P = P} {Q = Q} {m = m} k = record { by = L.scopes r P m Q k.by }

  pub keeps_reaching : {r : Region} {X : Type 0} {P : Known} {Q : X → Known} {m : Run A X} (n : ℕ) → Keeps r P m Q → Keeps r P (reaching n m) Q
  keeps_reaching {r = r} {P = P} {Q = Q} {m = m} n k = record { by = L.reaches r P n m Q k.by }

  pub keeps_in_frame : {r : Region} {i : FrameKind} {X : Type 0} {P : Known} {Q : X → Known} {m : Run A X} (n : ℕ) → Entails P (L.body i n) → Keeps (Ends i) P m Q → Keeps r P (in_frame n m) Q
  keeps_in_frame {r = r} {i = i} {P = P} {Q = Q} {m = m} n e k = record { by = L.runs_in r P i n m Q e k.by }

  pub keeps_covered : {r : Region} {P : Known} {m : Run A Unit} (n : ℕ) → Keeps r P m (λ t. nothing) → Keeps r P (covered n m) (λ t. nothing)
  keeps_covered {r = r} {P = P} {m = m} n k = record { by = L.covers r P n m k.by }

  -- ---- events

  pub keeps_recorded : {r : Region} {P : Known} (d : Draft) (c : Carried A) (m : Run A (Made A)) → Recording L.program d c m → Entails P (L.value d.value) → Entails P (L.fit c) → Keeps r P m (L.made d)
  keeps_recorded {r = r} {P = P} d c m g v e = record { by = L.records r P d c m g v e }

  pub keeps_entered : {r : Region} {P : Known} (reach : Reach) (d : Draft) (c : Carried A) (m : Run A (Made A)) → Recording L.program d c m → IsControl d.kind → Entails P (L.value d.value) → Entails P (L.fit c) → Keeps r P (activating reach m) (L.made d)
  keeps_entered {r = r} {P = P} reach d c m g t v e = record { by = L.enters r P reach d c m g t v e }

  pub keeps_written : {r : Region} {P : Known} (d : Draft) (c : Carried A) → IsWrite d c → Entails P (L.place d.slot) → Entails P (L.stores d.slot d.value) → Entails P (L.value d.value) → Entails P (L.fit c) → Keeps r P (note_write d c) (L.made d)
  keeps_written {r = r} {P = P} d c g x y v e = record { by = L.writes r P d c g x y v e }

  pub keeps_entered_writing : {r : Region} {P : Known} (reach : Reach) (d : Draft) (c : Carried A) → IsWrite d c → IsControl d.kind → Entails P (L.place d.slot) → Entails P (L.stores d.slot d.value) → Entails P (L.value d.value) → Entails P (L.fit c) → Keeps r P (activating reach (note_write d c)) (L.made d)
  keeps_entered_writing {r = r} {P = P} reach d c g t x y v e = record { by = L.enters_writing r P reach d c g t x y v e }

  pub keeps_printed : {r : Region} {P : Known} (d : Draft) (c : Carried A) (bytes : List ℕ) → IsNoted d c → Entails P (L.value d.value) → Entails P (L.fit c) → Keeps r P (room_for_output bytes >> (note d c >>= (λ e. write_out bytes))) (λ t. nothing)
  keeps_printed {r = r} {P = P} d c bytes g v e = record { by = L.prints r P d c bytes g v e }
