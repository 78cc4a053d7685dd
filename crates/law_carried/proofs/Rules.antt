-- What each step of a run keeps, given the records of the whole run.
use Rattle.std.proofs.Common.{◌≡◌, ℕ, zero, suc, Bool, true, false, ◌≤◌, List, [], ◌∷◌, length, Option, Some, refl, sym, ap, ◌∙◌, subst, le_refl, le_trans, arith}
use Rattle.std.specs.Prelude.{None as Absent}
use Rattle.std.specs.Prelude.{if◌then◌else◌, nat_le, nat_lt}
use Rattle.wy_kernel.specs.declared.types.Ty.{Ty}
use Rattle.wy_kernel.specs.Program.{Program}
use Rattle.wy_value.specs.declared.value.Value.{Value}
use Rattle.wy_event.specs.declared.record.Slot.{Slot}
use Rattle.wy_event.specs.declared.record.Use.TheVariants.{Value as ValueOf}
use Rattle.wy_event.specs.Numbers.{Numbers, union_of}
use Rattle.wy_event.specs.Record.{Recorded, same_slot}
use Rattle.wy_event.specs.Sources.{Owners, last_write, use_sources, source_events, closure, data_closure}
use Rattle.wy_steps.specs.Sets.{numbers}
use Rattle.wy_steps.specs.State.{Carried, Held, Reach, Covered, State, Stop, Reason, Jumped, Returned, Threw, Outcome, Done, Left, Stopped, Run, go_on, ◌>>=◌, ◌>>◌, return, leave, stop, go_on_left, catching, choose}
use Rattle.wy_kernel.specs.Limits.{event_limit, use_limit, element_limit, unit_limit, output_limit}
use Rattle.wy_steps.specs.Steps.{constant, with_value, joined, joined_all, Made, value_of, chosen, pay, tick, steps_left, frame, event_at, is_begun, read, declare, no_value, Draft, next_event, made, with_event, room_for, noting, note, with_stored, writing, note_write, owner_in, with_created, creating, note_new, with_active, entered, go_in, activating, active_again, scoped, without, end_reaches, reaching, frame_again, in_frame, with_elements, take_elements, with_units, take_units, room_for_output, write_out, take_byte, next_byte, covering, begun, ended, left_by, stop_cause, event_of, arrives, end_normally, be_left, cover_end, covered}
use Rattle.wy_meaning.specs.Run.{end}
use Rattle.wy_meaning.specs.Place.{Spot}
use Rattle.law_carried.specs.Agreement.{AreFirst, SlotAgrees, Absorbs, Agrees}
use Rattle.law_carried.proofs.Sets.{union_of-append, union_of_one}
use Rattle.law_carried.proofs.Closures.{used_events, ArePast_up, ArePast-append, used_events-append, place_events, value_events, choice_data, choice_all}
use Rattle.law_carried.proofs.Fits.{Fits, MadeFits, held_data, held_all, no_value_fits, EntriesAgree_up, active_outlasting, made_fits, newest_absorbs, IsQuiet, inv_noted, IsWriting, inv_written, IsCreating, inv_created}

-- what is known once there are n events, and from then on
pub record Fact : Type 1 where
  pub holds : ℕ → Type 0
  pub up : (m n : ℕ) → m ≤ n → holds m → holds n

abbrev pub nothing : Fact
nothing = record { holds = λ n. Unit {0}; up = λ m n le h. tt }

unfoldable pub both : Fact → Fact → Fact
both P Q = record { holds = λ n. P.holds n × Q.holds n; up = λ m n le h. (P.up m n le h.0, Q.up m n le h.1) }

-- the second follows from the first
pub record Entails (P Q : Fact) : Type 0 where
  pub by : (n : ℕ) → P.holds n → Q.holds n

pub newest : (P Q : Fact) → Entails (both P Q) Q
unfolding both
newest P Q = record { by = λ n h. h.1 }

pub before : (P Q : Fact) {S : Fact} → Entails P S → Entails (both P Q) S
unfolding both
before P Q e = record { by = λ n h. e.by n h.0 }

pub trivially : {P : Fact} → Entails P nothing
trivially = record { by = λ n h. tt }

pub same : {P : Fact} → Entails P P
same = record { by = λ n h. h }

pub chain : {P Q S : Fact} → Entails P Q → Entails Q S → Entails P S
chain d e = record { by = λ n h. e.by n (d.by n h) }

module _ (owner : Owners) (records : List Recorded) where
  abbrev pub fits : Carried numbers → Fact
  fits v = record { holds = λ n. Fits owner records v n; up = λ m n le h. record { sets = h.sets; past = ArePast_up owner records m n v.uses le h.past } }

  pub MadeFits_up : (e : Made numbers) (m n : ℕ) → m ≤ n → MadeFits owner records e m → MadeFits owner records e n
  MadeFits_up e m n le h = record { before = le_trans h.before le; by_data = h.by_data; by_all = h.by_all }

  unfoldable pub made_fit : Made numbers → Fact
  made_fit e = record { holds = λ n. MadeFits owner records e n; up = MadeFits_up e }

  -- what is known where a run is left early
  unfoldable pub reason_fits : Reason numbers → Fact
  reason_fits (Jumped target e) = nothing
  reason_fits (Returned e v) = fits v
  reason_fits (Threw e v) = fits v

  -- what is known of what was given back
  abbrev pub Given : {X : Type 0} → (X → Fact) → Outcome numbers X → Type 0
  Given Q (Done x s) = (Q x).holds (length s.noted)
  Given Q (Left why s) = (reason_fits why).holds (length s.noted)
  Given Q (Stopped why s) = Unit {0}

  -- an outcome that a run may come to from a state in which something is known
  pub record Kept {X : Type 0} (known : Type 0) (Q : X → Fact) (s : State numbers) (o : Outcome numbers X) : Type 0 where
    pub front : AreFirst records (end o).noted → AreFirst records s.noted
    pub longer : length s.noted ≤ length (end o).noted
    pub inv : AreFirst records (end o).noted → Agrees owner records s → known → Agrees owner records (end o)
    pub returned : AreFirst records (end o).noted → Agrees owner records s → known → Given Q o

  pub record Keeps {X : Type 0} (P : Fact) (m : Run numbers X) (Q : X → Fact) : Type 0 where
    pub by : (s : State numbers) → Kept (P.holds (length s.noted)) Q s (m s)

  -- ---- putting together

  go_on_kept : {X Y : Type 0} (P : Fact) (Q : X → Fact) (S : Y → Fact) (s : State numbers) (o : Outcome numbers X) (f : X → Run numbers Y) → Kept (P.holds (length s.noted)) Q s o → ((x : X) → Keeps (both P (Q x)) (f x) S) → Kept (P.holds (length s.noted)) S s (go_on o f)
  unfolding go_on both end
  go_on_kept P Q S s (Done x s1) f k l =
      let next = (l x).by s1 in
      record {
        front = λ h. k.front (next.front h);
        longer = le_trans k.longer next.longer;
        inv = λ h i p. next.inv h (k.inv (next.front h) i p) (P.up _ _ k.longer p, k.returned (next.front h) i p);
        returned = λ h i p. next.returned h (k.inv (next.front h) i p) (P.up _ _ k.longer p, k.returned (next.front h) i p);
      }
  go_on_kept P Q S s (Left why s1) f k l = record { front = k.front; longer = k.longer; inv = k.inv; returned = k.returned }
  go_on_kept P Q S s (Stopped why s1) f k l = record { front = k.front; longer = k.longer; inv = k.inv; returned = λ h i p. tt }

  pub keeps_bind : {X Y : Type 0} {P : Fact} {Q : X → Fact} {S : Y → Fact} {m : Run numbers X} {f : X → Run numbers Y} → Keeps P m Q → ((x : X) → Keeps (both P (Q x)) (f x) S) → Keeps P (m >>= f) S
  unfolding ◌>>=◌
  keeps_bind {P = P} {Q = Q} {S = S} {m = m} {f = f} k l = record { by = λ s. go_on_kept P Q S s (m s) f (k.by s) l }

  pub weaker : {X : Type 0} {P P' : Fact} {Q : X → Fact} {m : Run numbers X} → Keeps P m Q → Entails P' P → Keeps P' m Q
  weaker k e = record { by = λ s. let h = k.by s in record { front = h.front; longer = h.longer; inv = λ f i p. h.inv f i (e.by _ p); returned = λ f i p. h.returned f i (e.by _ p) } }

  pub keeps_return : {X : Type 0} {P : Fact} {Q : X → Fact} (x : X) → Entails P (Q x) → Keeps P (return x) Q
  unfolding return end
  keeps_return x e = record { by = λ s. record { front = λ h. h; longer = le_refl _; inv = λ h i p. i; returned = λ h i p. e.by _ p } }

  pub keeps_leave : {X : Type 0} {P : Fact} {Q : X → Fact} (why : Reason numbers) → Entails P (reason_fits why) → Keeps P (leave why) Q
  unfolding leave end
  keeps_leave why e = record { by = λ s. record { front = λ h. h; longer = le_refl _; inv = λ h i p. i; returned = λ h i p. e.by _ p } }

  pub keeps_stop : {X : Type 0} {P : Fact} {Q : X → Fact} (why : Stop) → Keeps P (stop why) Q
  unfolding stop end
  keeps_stop why = record { by = λ s. record { front = λ h. h; longer = le_refl _; inv = λ h i p. i; returned = λ h i p. tt } }

  left_kept : {X : Type 0} (P : Fact) (Q : X → Fact) (s : State numbers) (o : Outcome numbers X) (f : Reason numbers → Run numbers X) → Kept (P.holds (length s.noted)) Q s o → ((why : Reason numbers) → Keeps (both P (reason_fits why)) (f why) Q) → Kept (P.holds (length s.noted)) Q s (go_on_left o f)
  unfolding go_on_left both end
  left_kept P Q s (Done x s1) f k l = k
  left_kept P Q s (Left why s1) f k l =
      let next = (l why).by s1 in
      record {
        front = λ h. k.front (next.front h);
        longer = le_trans k.longer next.longer;
        inv = λ h i p. next.inv h (k.inv (next.front h) i p) (P.up _ _ k.longer p, k.returned (next.front h) i p);
        returned = λ h i p. next.returned h (k.inv (next.front h) i p) (P.up _ _ k.longer p, k.returned (next.front h) i p);
      }
  left_kept P Q s (Stopped why s1) f k l = k

  pub keeps_catching : {X : Type 0} {P : Fact} {Q : X → Fact} {m : Run numbers X} {f : Reason numbers → Run numbers X} → Keeps P m Q → ((why : Reason numbers) → Keeps (both P (reason_fits why)) (f why) Q) → Keeps P (catching m f) Q
  unfolding catching
  keeps_catching {P = P} {Q = Q} {m = m} {f = f} k l = record { by = λ s. left_kept P Q s (m s) f (k.by s) l }

  pub keeps_choose : {X : Type 0} {P : Fact} {Q : X → Fact} {m k : Run numbers X} (b : Bool) → Keeps P m Q → Keeps P k Q → Keeps P (choose b m k) Q
  unfolding choose
  keeps_choose true hm hk = hm
  keeps_choose false hm hk = hk

  chosen_kept : {X : Type 0} (known : Type 0) (Q : X → Fact) (s : State numbers) (m k : Run numbers X) (b : Bool) → Kept known Q s (m s) → Kept known Q s (k s) → Kept known Q s (choose b m k s)
  unfolding choose
  chosen_kept known Q s m k true hm hk = hm
  chosen_kept known Q s m k false hm hk = hk

  -- ---- bind by what is given

  pub after : {Y : Type 0} {P : Fact} {S : Y → Fact} {m : Run numbers Unit} {f : Run numbers Y} → Keeps P m (λ t. nothing) → Keeps P f S → Keeps P (m >> f) S
  unfolding ◌>>◌
  after k l = keeps_bind k (λ t. weaker l (before _ _ same))

  pub then_unit : {Y : Type 0} {P : Fact} {S : Y → Fact} {m : Run numbers Unit} {f : Unit → Run numbers Y} → Keeps P m (λ t. nothing) → ((t : Unit) → Keeps P (f t) S) → Keeps P (m >>= f) S
  then_unit k l = keeps_bind k (λ t. weaker (l t) (before _ _ same))

  pub with_number : {Y : Type 0} {P : Fact} {S : Y → Fact} {m : Run numbers ℕ} {f : ℕ → Run numbers Y} → Keeps P m (λ n. nothing) → ((n : ℕ) → Keeps P (f n) S) → Keeps P (m >>= f) S
  with_number k l = keeps_bind k (λ n. weaker (l n) (before _ _ same))

  pub with_option : {Y : Type 0} {P : Fact} {S : Y → Fact} {m : Run numbers (Option ℕ)} {f : Option ℕ → Run numbers Y} → Keeps P m (λ n. nothing) → ((n : Option ℕ) → Keeps P (f n) S) → Keeps P (m >>= f) S
  with_option k l = keeps_bind k (λ n. weaker (l n) (before _ _ same))

  pub with_record : {Y : Type 0} {P : Fact} {S : Y → Fact} {m : Run numbers (Option Recorded)} {f : Option Recorded → Run numbers Y} → Keeps P m (λ n. nothing) → ((n : Option Recorded) → Keeps P (f n) S) → Keeps P (m >>= f) S
  with_record k l = keeps_bind k (λ n. weaker (l n) (before _ _ same))

  pub with_flag : {Y : Type 0} {P : Fact} {S : Y → Fact} {m : Run numbers Bool} {f : Bool → Run numbers Y} → Keeps P m (λ n. nothing) → ((b : Bool) → Keeps P (f b) S) → Keeps P (m >>= f) S
  with_flag k l = keeps_bind k (λ n. weaker (l n) (before _ _ same))

  pub with_type : {Y : Type 0} {P : Fact} {S : Y → Fact} {m : Run numbers Ty} {f : Ty → Run numbers Y} → Keeps P m (λ n. nothing) → ((ty : Ty) → Keeps P (f ty) S) → Keeps P (m >>= f) S
  with_type k l = keeps_bind k (λ n. weaker (l n) (before _ _ same))

  pub with_codes : {Y : Type 0} {P : Fact} {S : Y → Fact} {m : Run numbers (List ℕ)} {f : List ℕ → Run numbers Y} → Keeps P m (λ n. nothing) → ((us : List ℕ) → Keeps P (f us) S) → Keeps P (m >>= f) S
  with_codes k l = keeps_bind k (λ n. weaker (l n) (before _ _ same))

  pub with_carried : {Y : Type 0} {P : Fact} {S : Y → Fact} {m : Run numbers (Carried numbers)} {f : Carried numbers → Run numbers Y} → Keeps P m fits → ((v : Carried numbers) → Keeps (both P (fits v)) (f v) S) → Keeps P (m >>= f) S
  with_carried k l = keeps_bind k l

  pub with_made : {Y : Type 0} {P : Fact} {S : Y → Fact} {m : Run numbers (Made numbers)} {f : Made numbers → Run numbers Y} → Keeps P m made_fit → ((e : Made numbers) → Keeps (both P (made_fit e)) (f e) S) → Keeps P (m >>= f) S
  with_made k l = keeps_bind k l

  abbrev pub spot_fits : Spot numbers → Fact
  spot_fits spot = fits spot.parts

  pub with_spot : {Y : Type 0} {P : Fact} {S : Y → Fact} {m : Run numbers (Spot numbers)} {f : Spot numbers → Run numbers Y} → Keeps P m spot_fits → ((x : Spot numbers) → Keeps (both P (fits x.parts)) (f x) S) → Keeps P (m >>= f) S
  with_spot k l = keeps_bind k l

  -- each value of a list fits
  abbrev pub AllFit : List (Carried numbers) → ℕ → Type 0
  AllFit [] n = Unit {0}
  AllFit (v ∷ vs) n = Fits owner records v n × AllFit vs n

  pub AllFit_up : (vs : List (Carried numbers)) (m n : ℕ) → m ≤ n → AllFit vs m → AllFit vs n
  AllFit_up [] m n le h = tt
  AllFit_up (v ∷ vs) m n le h = ((fits v).up m n le h.0, AllFit_up vs m n le h.1)

  unfoldable pub all_fit : List (Carried numbers) → Fact
  all_fit vs = record { holds = AllFit vs; up = AllFit_up vs }

  pub with_all : {Y : Type 0} {P : Fact} {S : Y → Fact} {m : Run numbers (List (Carried numbers))} {f : List (Carried numbers) → Run numbers Y} → Keeps P m all_fit → ((vs : List (Carried numbers)) → Keeps (both P (all_fit vs)) (f vs) S) → Keeps P (m >>= f) S
  with_all k l = keeps_bind k l

  unfoldable pub option_fits : Option (Carried numbers) → Fact
  option_fits Absent = nothing
  option_fits (Some v) = fits v

  pub absent_fits : {P : Fact} → Entails P (option_fits Absent)
  unfolding option_fits
  absent_fits = trivially

  pub some_fits : {P : Fact} (v : Carried numbers) → Entails P (fits v) → Entails P (option_fits (Some v))
  unfolding option_fits
  some_fits v e = e

  pub no_values_fit : {P : Fact} → Entails P (all_fit [])
  unfolding all_fit
  no_values_fit = record { by = λ n h. tt }

  pub more_fit : {P : Fact} (v : Carried numbers) (vs : List (Carried numbers)) → Entails P (fits v) → Entails P (all_fit vs) → Entails P (all_fit (v ∷ vs))
  unfolding all_fit
  more_fit v vs e es = record { by = λ n h. (e.by n h, es.by n h) }

  pub first_fits : {P : Fact} (v : Carried numbers) (vs : List (Carried numbers)) → Entails P (all_fit (v ∷ vs)) → Entails P (fits v)
  unfolding all_fit
  first_fits v vs e = record { by = λ n h. (e.by n h).0 }

  pub rest_fit : {P : Fact} (v : Carried numbers) (vs : List (Carried numbers)) → Entails P (all_fit (v ∷ vs)) → Entails P (all_fit vs)
  unfolding all_fit
  rest_fit v vs e = record { by = λ n h. (e.by n h).1 }

  pub jumped_fits : {P : Fact} (target e : ℕ) → Entails P (reason_fits (Jumped target e))
  unfolding reason_fits
  jumped_fits target e = trivially

  pub returned_fits : {P : Fact} (e : ℕ) (v : Carried numbers) → Entails P (fits v) → Entails P (reason_fits (Returned e v))
  unfolding reason_fits
  returned_fits e v h = h

  pub threw_fits : {P : Fact} (e : ℕ) (v : Carried numbers) → Entails P (fits v) → Entails P (reason_fits (Threw e v))
  unfolding reason_fits
  threw_fits e v h = h

  pub of_returned : {P : Fact} (e : ℕ) (v : Carried numbers) → Entails P (reason_fits (Returned e v)) → Entails P (fits v)
  unfolding reason_fits
  of_returned e v h = h

  pub of_threw : {P : Fact} (e : ℕ) (v : Carried numbers) → Entails P (reason_fits (Threw e v)) → Entails P (fits v)
  unfolding reason_fits
  of_threw e v h = h

  -- ---- carried values

  no_events : (all : Bool) → used_events owner all records [] ≡ []
  unfolding use_sources source_events
  no_events all = refl

  pub constant_fits : {P : Fact} (v : Value) → Entails P (fits (constant v))
  unfolding constant union_of
  constant_fits v = record { by = λ m h. record { sets = (ap (union_of (data_closure owner records)) (sym (no_events false)), ap (union_of (closure owner records)) (sym (no_events true))); past = tt } }

  pub with_value_fits : {P : Fact} (v : Value) (c : Carried numbers) → Entails P (fits c) → Entails P (fits (with_value v c))
  unfolding with_value
  with_value_fits v c e = record { by = λ m h. let f = e.by m h in record { sets = f.sets; past = f.past } }

  pub joined_fits : {P : Fact} (v : Value) (a b : Carried numbers) → Entails P (fits a) → Entails P (fits b) → Entails P (fits (joined v a b))
  unfolding joined
  joined_fits v a b ea eb =
      record {
        by = λ m h. let fa = ea.by m h in let fb = eb.by m h in record {
          sets = (
            rw (fa.sets.0, fb.sets.0, used_events-append owner records false a.uses b.uses, union_of-append),
            rw (fa.sets.1, fb.sets.1, used_events-append owner records true a.uses b.uses, union_of-append),
          );
          past = ArePast-append owner records m a.uses b.uses fa.past fb.past;
        };
      }

  pub joined_all_fit : {P : Fact} (vs : List (Carried numbers)) → Entails P (all_fit vs) → Entails P (fits (joined_all vs))
  unfolding joined_all
  joined_all_fit [] e = constant_fits _
  joined_all_fit (v ∷ vs) e = joined_fits _ v (joined_all vs) (first_fits v vs e) (joined_all_fit vs (rest_fit v vs e))

  one_event : (all : Bool) (f : ℕ → Numbers) (n : ℕ) → union_of f (used_events owner all records (ValueOf n ∷ [])) ≡ f n
  one_event all f n = ap (union_of f) (value_events owner records all n [] ∙ ap (λ l. n ∷ l) (no_events all)) ∙ union_of_one f n

  pub value_of_fits : {P : Fact} (e : Made numbers) (v : Value) → Entails P (made_fit e) → Entails P (fits (value_of e v))
  unfolding value_of made_fit
  value_of_fits e v h = record { by = λ m k. let f = h.by m k in record { sets = (f.by_data ∙ sym (one_event false (data_closure owner records) e.number), f.by_all ∙ sym (one_event true (closure owner records) e.number)); past = (f.before, tt) } }

  pub chosen_fits : {P : Fact} (e : Made numbers) (c : Carried numbers) → Entails P (made_fit e) → Entails P (fits c) → Entails P (fits (chosen e c))
  unfolding chosen made_fit union_of
  chosen_fits e c he hc = record {
    by = λ m k. let f = he.by m k in let g = hc.by m k in record {
      sets = (
        g.sets.0 ∙ ap (union_of (data_closure owner records)) (sym (choice_data owner records e.number c.uses)),
        rw (f.by_all, g.sets.1, choice_all owner records e.number c.uses) refl,
      );
      past = (f.before, g.past);
    };
  }

  -- ---- steps that leave store, records and entries

  pay_kept : (known : Type 0) (n : ℕ) (s : State numbers) → Kept known (λ t. nothing) s (pay n s)
  unfolding pay end
  pay_kept known zero s = record { front = λ h. h; longer = le_refl _; inv = λ h i p. i; returned = λ h i p. tt }
  pay_kept known (suc n) s = record { front = λ h. h; longer = le_refl _; inv = λ h i p. record { store = i.store; noted = i.noted; active = i.active }; returned = λ h i p. tt }

  pub keeps_tick : {P : Fact} → Keeps P tick (λ t. nothing)
  unfolding tick
  keeps_tick {P = P} = record { by = λ s. pay_kept (P.holds (length s.noted)) s.left s }

  pub keeps_steps_left : {P : Fact} → Keeps P steps_left (λ n. nothing)
  unfolding steps_left end
  keeps_steps_left = record { by = λ s. record { front = λ h. h; longer = le_refl _; inv = λ h i p. i; returned = λ h i p. tt } }

  pub keeps_frame : {P : Fact} → Keeps P frame (λ n. nothing)
  unfolding frame end
  keeps_frame = record { by = λ s. record { front = λ h. h; longer = le_refl _; inv = λ h i p. i; returned = λ h i p. tt } }

  pub keeps_event_at : {P : Fact} (n : ℕ) → Keeps P (event_at n) (λ e. nothing)
  unfolding event_at end
  keeps_event_at n = record { by = λ s. record { front = λ h. h; longer = le_refl _; inv = λ h i p. i; returned = λ h i p. tt } }

  pub keeps_is_begun : {P : Fact} (c : ℕ) → Keeps P (is_begun c) (λ b. nothing)
  unfolding is_begun end
  keeps_is_begun c = record { by = λ s. record { front = λ h. h; longer = le_refl _; inv = λ h i p. i; returned = λ h i p. tt } }

  pub keeps_take_elements : {P : Fact} (n : ℕ) → Keeps P (take_elements n) (λ t. nothing)
  unfolding take_elements with_elements stop end
  keeps_take_elements {P = P} n = record {
    by = λ s. chosen_kept (P.holds (length s.noted)) (λ t. nothing) s _ _ (nat_le _ element_limit)
        (record { front = λ h. h; longer = le_refl _; inv = λ h i p. record { store = i.store; noted = i.noted; active = i.active }; returned = λ h i p. tt })
        (record { front = λ h. h; longer = le_refl _; inv = λ h i p. i; returned = λ h i p. tt });
  }

  pub keeps_take_units : {P : Fact} (n : ℕ) → Keeps P (take_units n) (λ t. nothing)
  unfolding take_units with_units stop end
  keeps_take_units {P = P} n = record {
    by = λ s. chosen_kept (P.holds (length s.noted)) (λ t. nothing) s _ _ (nat_le _ unit_limit)
        (record { front = λ h. h; longer = le_refl _; inv = λ h i p. record { store = i.store; noted = i.noted; active = i.active }; returned = λ h i p. tt })
        (record { front = λ h. h; longer = le_refl _; inv = λ h i p. i; returned = λ h i p. tt });
  }

  pub keeps_room_for_output : {P : Fact} (bytes : List ℕ) → Keeps P (room_for_output bytes) (λ t. nothing)
  unfolding room_for_output return stop end
  keeps_room_for_output {P = P} bytes = record {
    by = λ s. chosen_kept (P.holds (length s.noted)) (λ t. nothing) s _ _ (nat_le _ output_limit)
        (record { front = λ h. h; longer = le_refl _; inv = λ h i p. i; returned = λ h i p. tt })
        (record { front = λ h. h; longer = le_refl _; inv = λ h i p. i; returned = λ h i p. tt });
  }

  pub keeps_write_out : {P : Fact} (bytes : List ℕ) → Keeps P (write_out bytes) (λ t. nothing)
  unfolding write_out end
  keeps_write_out bytes = record { by = λ s. record { front = λ h. h; longer = le_refl _; inv = λ h i p. record { store = i.store; noted = i.noted; active = i.active }; returned = λ h i p. tt } }

  take_byte_kept : (known : Type 0) (bytes : List ℕ) (s : State numbers) → Kept known (λ b. nothing) s (take_byte bytes s)
  unfolding take_byte end
  take_byte_kept known [] s = record { front = λ h. h; longer = le_refl _; inv = λ h i p. i; returned = λ h i p. tt }
  take_byte_kept known (b ∷ rest) s = record { front = λ h. h; longer = le_refl _; inv = λ h i p. record { store = i.store; noted = i.noted; active = i.active }; returned = λ h i p. tt }

  pub keeps_next_byte : {P : Fact} → Keeps P next_byte (λ b. nothing)
  unfolding next_byte
  keeps_next_byte {P = P} = record { by = λ s. take_byte_kept (P.holds (length s.noted)) s.input s }

  -- ---- slots

  pub keeps_read : {P : Fact} (x : Slot) → Keeps P (read x) fits
  unfolding read end
  keeps_read x = record {
    by = λ s. record {
      front = λ h. h;
      longer = le_refl _;
      inv = λ h i p. i;
      returned = λ h i p. record {
        sets = (
          held_data owner records (s.store x) (last_write owner records x (length s.noted)) (i.store x) ∙ ap (union_of (data_closure owner records)) (sym (place_events owner records false x (length s.noted))),
          held_all owner records (s.store x) (last_write owner records x (length s.noted)) (i.store x) ∙ ap (union_of (closure owner records)) (sym (place_events owner records true x (length s.noted))),
        );
        past = (le_refl _, tt);
      };
    };
  }

  declared_fits : (b : Bool) (o : Option (Held numbers)) (w : Option ℕ) → SlotAgrees owner records o w → SlotAgrees owner records (if b then no_value o else o) w
  declared_fits true o w h = no_value_fits owner records o w h
  declared_fits false o w h = h

  pub keeps_declare : {P : Fact} (x : Slot) → Keeps P (declare x) (λ t. nothing)
  unfolding declare end
  keeps_declare x = record { by = λ s. record { front = λ h. h; longer = le_refl _; inv = λ h i p. record { store = λ y. declared_fits (same_slot y x) (s.store y) (last_write owner records y (length s.noted)) (i.store y); noted = i.noted; active = i.active }; returned = λ h i p. tt } }

  -- ---- events

  room_kept : {X : Type 0} (known : Type 0) (Q : X → Fact) (c : Carried numbers) (m : Run numbers X) (s : State numbers) → Kept known Q s (m s) → Kept known Q s (room_for c m s)
  unfolding room_for stop end
  room_kept known Q c m s k = chosen_kept known Q s _ _ (nat_lt (length s.noted) event_limit)
      (chosen_kept known Q s _ _ (nat_le _ use_limit) k (record { front = λ h. h; longer = le_refl _; inv = λ h i p. i; returned = λ h i p. tt }))
      (record { front = λ h. h; longer = le_refl _; inv = λ h i p. i; returned = λ h i p. tt })

  pub keeps_note : {P : Fact} (d : Draft) (c : Carried numbers) → IsQuiet owner records d.kind → Entails P (fits c) → Keeps P (note d c) made_fit
  unfolding note noting with_event end made_fit
  keeps_note {P = P} d c q e = record {
    by = λ s. room_kept (P.holds (length s.noted)) made_fit c (noting d c) s (record {
      front = λ h. h.1;
      longer = omega arith;
      inv = λ h i p. inv_noted owner records d c s q h.0 i (e.by _ p);
      returned = λ h i p. made_fits owner records d c s h.0 i (e.by _ p);
    });
  }

  pub keeps_note_write : {P : Fact} (d : Draft) (c : Carried numbers) → IsWriting owner records d.kind → Entails P (fits c) → Keeps P (note_write d c) made_fit
  unfolding note_write writing with_event with_stored end made_fit
  keeps_note_write {P = P} d c q e = record {
    by = λ s. room_kept (P.holds (length s.noted)) made_fit c (writing d c) s (record {
      front = λ h. h.1;
      longer = omega arith;
      inv = λ h i p. inv_written owner records d c s q h.0 i (e.by _ p);
      returned = λ h i p. made_fits owner records d c s h.0 i (e.by _ p);
    });
  }

  -- ---- active entries

  -- what a run that records one event leaves: the event, and the entries as they were
  abbrev pub Records : Draft → Carried numbers → State numbers → Outcome numbers (Made numbers) → Type 0
  Records d c s (Done e s1) = (e ≡ made (next_event d c s) s) × (s1.active ≡ s.active)
  Records d c s (Left why s1) = ⊥
  Records d c s (Stopped why s1) = Unit {0}

  chosen_records : (d : Draft) (c : Carried numbers) (s : State numbers) (m k : Run numbers (Made numbers)) (b : Bool) → Records d c s (m s) → Records d c s (k s) → Records d c s (choose b m k s)
  unfolding choose
  chosen_records d c s m k true hm hk = hm
  chosen_records d c s m k false hm hk = hk

  room_records : (d : Draft) (c : Carried numbers) (m : Run numbers (Made numbers)) (s : State numbers) → Records d c s (m s) → Records d c s (room_for c m s)
  unfolding room_for stop
  room_records d c m s k = chosen_records d c s _ _ (nat_lt (length s.noted) event_limit) (chosen_records d c s _ _ (nat_le _ use_limit) k tt) tt

  pub record Noting (d : Draft) (c : Carried numbers) (m : Run numbers (Made numbers)) : Type 0 where
    pub by : (s : State numbers) → Records d c s (m s)

  pub note_records : (d : Draft) (c : Carried numbers) → Noting d c (note d c)
  unfolding note noting with_event
  note_records d c = record { by = λ s. room_records d c (noting d c) s (refl, refl) }

  pub note_write_records : (d : Draft) (c : Carried numbers) → Noting d c (note_write d c)
  unfolding note_write writing with_event with_stored
  note_write_records d c = record { by = λ s. room_records d c (writing d c) s (refl, refl) }

  pub note_new_records : (p : Program) (d : Draft) (c : Carried numbers) → Noting d c (note_new p d c)
  unfolding note_new creating with_event with_created
  note_new_records p d c = record { by = λ s. room_records d c (creating p d c) s (refl, refl) }

  entered_active : (d : Draft) (c : Carried numbers) (s : State numbers) (e : Made numbers) (s1 : State numbers) → e ≡ made (next_event d c s) s → s1.active ≡ s.active → Absorbs e.from_all s1.active
  unfolding made
  entered_active d c s e s1 is unchanged_active =
      subst (λ a. Absorbs e.from_all a) (sym unchanged_active) (subst (λ (f : Made numbers). Absorbs f.from_all s.active) (sym is) (newest_absorbs owner records d c s))

  go_in_kept : (known : Type 0) (reach : Reach) (d : Draft) (c : Carried numbers) (s : State numbers) (o : Outcome numbers (Made numbers)) → Records d c s o → Kept known made_fit s o → Kept known made_fit s (go_in reach o)
  unfolding go_in entered with_active end made_fit
  go_in_kept known reach d c s (Done e s1) r k = record {
    front = k.front;
    longer = k.longer;
    inv = λ h i p. let j = k.inv h i p in let f = k.returned h i p in record { store = j.store; noted = j.noted; active = (f.before, f.by_all, entered_active d c s e s1 r.0 r.1, j.active) };
    returned = k.returned;
  }
  go_in_kept known reach d c s (Left why s1) r k = absurd r
  go_in_kept known reach d c s (Stopped why s1) r k = k

  pub keeps_activating : {P : Fact} (reach : Reach) (d : Draft) (c : Carried numbers) (m : Run numbers (Made numbers)) → Noting d c m → Keeps P m made_fit → Keeps P (activating reach m) made_fit
  unfolding activating
  keeps_activating {P = P} reach d c m n k = record { by = λ s. go_in_kept (P.holds (length s.noted)) reach d c s (m s) (n.by s) (k.by s) }

  pub keeps_activating_note : {P : Fact} (reach : Reach) (d : Draft) (c : Carried numbers) → IsQuiet owner records d.kind → Entails P (fits c) → Keeps P (activating reach (note d c)) made_fit
  keeps_activating_note reach d c q e = keeps_activating reach d c (note d c) (note_records d c) (keeps_note d c q e)

  pub keeps_activating_write : {P : Fact} (reach : Reach) (d : Draft) (c : Carried numbers) → IsWriting owner records d.kind → Entails P (fits c) → Keeps P (activating reach (note_write d c)) made_fit
  keeps_activating_write reach d c q e = keeps_activating reach d c (note_write d c) (note_write_records d c) (keeps_note_write d c q e)

  again_kept : {X : Type 0} (P : Fact) (Q : X → Fact) (s : State numbers) (o : Outcome numbers X) → Kept (P.holds (length s.noted)) Q s o → Kept (P.holds (length s.noted)) Q s (active_again s.active o)
  unfolding active_again end
  again_kept P Q s (Done x s1) k = record { front = k.front; longer = k.longer; inv = λ h i p. let j = k.inv h i p in record { store = j.store; noted = j.noted; active = EntriesAgree_up owner records _ _ s.active k.longer i.active }; returned = k.returned }
  again_kept P Q s (Left why s1) k = record { front = k.front; longer = k.longer; inv = λ h i p. let j = k.inv h i p in record { store = j.store; noted = j.noted; active = EntriesAgree_up owner records _ _ s.active k.longer i.active }; returned = k.returned }
  again_kept P Q s (Stopped why s1) k = record { front = k.front; longer = k.longer; inv = λ h i p. let j = k.inv h i p in record { store = j.store; noted = j.noted; active = EntriesAgree_up owner records _ _ s.active k.longer i.active }; returned = k.returned }

  pub keeps_scoped : {X : Type 0} {P : Fact} {Q : X → Fact} {m : Run numbers X} → Keeps P m Q → Keeps P (scoped m) Q
  unfolding scoped
  keeps_scoped {P = P} {Q = Q} {m = m} k = record { by = λ s. again_kept P Q s (m s) (k.by s) }

  reaches_kept : {X : Type 0} (known : Type 0) (Q : X → Fact) (f : Option ℕ) (n : ℕ) (s : State numbers) (o : Outcome numbers X) → Kept known Q s o → Kept known Q s (end_reaches f n o)
  unfolding end_reaches without end
  reaches_kept known Q f n s (Done x s1) k = record { front = k.front; longer = k.longer; inv = λ h i p. let j = k.inv h i p in record { store = j.store; noted = j.noted; active = active_outlasting owner records f n _ s1.active j.active }; returned = k.returned }
  reaches_kept known Q f n s (Left why s1) k = record { front = k.front; longer = k.longer; inv = λ h i p. let j = k.inv h i p in record { store = j.store; noted = j.noted; active = active_outlasting owner records f n _ s1.active j.active }; returned = k.returned }
  reaches_kept known Q f n s (Stopped why s1) k = record { front = k.front; longer = k.longer; inv = λ h i p. let j = k.inv h i p in record { store = j.store; noted = j.noted; active = active_outlasting owner records f n _ s1.active j.active }; returned = k.returned }

  pub keeps_reaching : {X : Type 0} {P : Fact} {Q : X → Fact} {m : Run numbers X} (n : ℕ) → Keeps P m Q → Keeps P (reaching n m) Q
  unfolding reaching
  keeps_reaching {P = P} {Q = Q} {m = m} n k = record { by = λ s. reaches_kept (P.holds (length s.noted)) Q s.frame n s (m s) (k.by s) }

  -- ---- frames

  inv_frame : (f : Option ℕ) (s : State numbers) → Agrees owner records s → Agrees owner records (record s { frame = f })
  inv_frame f s i = record { store = i.store; noted = i.noted; active = i.active }

  frame_kept : {X : Type 0} (known : Type 0) (Q : X → Fact) (g f : Option ℕ) (s : State numbers) (o : Outcome numbers X) → Kept known Q (record s { frame = g }) o → Kept known Q s (frame_again f o)
  unfolding frame_again end
  frame_kept known Q g f s (Done x s1) k = record { front = k.front; longer = k.longer; inv = λ h i p. inv_frame f s1 (k.inv h (inv_frame g s i) p); returned = λ h i p. k.returned h (inv_frame g s i) p }
  frame_kept known Q g f s (Left why s1) k = record { front = k.front; longer = k.longer; inv = λ h i p. inv_frame f s1 (k.inv h (inv_frame g s i) p); returned = λ h i p. k.returned h (inv_frame g s i) p }
  frame_kept known Q g f s (Stopped why s1) k = record { front = k.front; longer = k.longer; inv = λ h i p. inv_frame f s1 (k.inv h (inv_frame g s i) p); returned = λ h i p. tt }

  pub keeps_in_frame : {X : Type 0} {P : Fact} {Q : X → Fact} {m : Run numbers X} (n : ℕ) → Keeps P m Q → Keeps P (in_frame n m) Q
  unfolding in_frame
  keeps_in_frame {P = P} {Q = Q} {m = m} n k = record { by = λ s. frame_kept (P.holds (length s.noted)) Q (Some n) s.frame s (m (record s { frame = Some n })) (k.by (record s { frame = Some n })) }

  -- ---- coverage

  inv_covering : (n : ℕ) (f : Covered → Covered) (s : State numbers) → Agrees owner records s → Agrees owner records (covering n f s)
  unfolding covering
  inv_covering n f s i = record { store = i.store; noted = i.noted; active = i.active }

  end_normally_kept : (known : Type 0) (n : ℕ) (s s1 : State numbers) (u : Unit {0}) → Kept {X = Unit {0}} known (λ t. nothing) s (Done u s1) → Kept known (λ t. nothing) s (end_normally n s1)
  unfolding end_normally covering end
  end_normally_kept known n s s1 u k = record { front = k.front; longer = k.longer; inv = λ h i p. inv_covering n ended s1 (k.inv h i p); returned = λ h i p. tt }

  be_left_kept : (known : Type 0) (n : ℕ) (s s1 : State numbers) (why : Reason numbers) → Kept {X = Unit {0}} known (λ t. nothing) s (Left why s1) → Kept {X = Unit {0}} known (λ t. nothing) s (be_left n why s1)
  unfolding be_left covering end
  be_left_kept known n s s1 why k = record { front = k.front; longer = k.longer; inv = λ h i p. inv_covering n (left_by (event_of why)) s1 (k.inv h i p); returned = k.returned }

  arrived_kept : (known : Type 0) (n : ℕ) (s s1 : State numbers) (why : Reason numbers) → Kept {X = Unit {0}} known (λ t. nothing) s (Left why s1) → Kept known (λ t. nothing) s (end_normally n s1)
  unfolding end_normally covering end
  arrived_kept known n s s1 why k = record { front = k.front; longer = k.longer; inv = λ h i p. inv_covering n ended s1 (k.inv h i p); returned = λ h i p. tt }

  chosen_at : {X : Type 0} (known : Type 0) (Q : X → Fact) (s s1 : State numbers) (m k : Run numbers X) (b : Bool) → Kept known Q s (m s1) → Kept known Q s (k s1) → Kept known Q s (choose b m k s1)
  unfolding choose
  chosen_at known Q s s1 m k true hm hk = hm
  chosen_at known Q s s1 m k false hm hk = hk

  stopped_kept : (known : Type 0) (n : ℕ) (s s1 : State numbers) (why : Stop) → Kept {X = Unit {0}} known (λ t. nothing) s (Stopped why s1) → Kept {X = Unit {0}} known (λ t. nothing) s (Stopped why (covering n (left_by (stop_cause why)) s1))
  unfolding covering end
  stopped_kept known n s s1 why k = record { front = k.front; longer = k.longer; inv = λ h i p. inv_covering n (left_by (stop_cause why)) s1 (k.inv h i p); returned = λ h i p. tt }

  cover_end_kept : (known : Type 0) (n : ℕ) (s : State numbers) (o : Outcome numbers Unit) → Kept known (λ t. nothing) s o → Kept known (λ t. nothing) s (cover_end n o)
  unfolding cover_end
  cover_end_kept known n s (Done t s1) k = end_normally_kept known n s s1 t k
  cover_end_kept known n s (Left why s1) k = chosen_at known (λ t. nothing) s s1 (end_normally n) (be_left n why) (arrives n why) (arrived_kept known n s s1 why k) (be_left_kept known n s s1 why k)
  cover_end_kept known n s (Stopped why s1) k = stopped_kept known n s s1 why k

  begun_kept : {X : Type 0} (known : Type 0) (Q : X → Fact) (n : ℕ) (f : Covered → Covered) (s : State numbers) (o : Outcome numbers X) → Kept known Q (covering n f s) o → Kept known Q s o
  unfolding covering
  begun_kept known Q n f s o k = record { front = k.front; longer = k.longer; inv = λ h i p. k.inv h (inv_covering n f s i) p; returned = λ h i p. k.returned h (inv_covering n f s i) p }

  pub keeps_covered : {P : Fact} {m : Run numbers Unit} (n : ℕ) → Keeps P m (λ t. nothing) → Keeps P (covered n m) (λ t. nothing)
  unfolding covered covering
  keeps_covered {P = P} {m = m} n k = record { by = λ s. cover_end_kept (P.holds (length s.noted)) n s (m (covering n (begun (length s.noted)) s)) (begun_kept (P.holds (length s.noted)) (λ t. nothing) n (begun (length s.noted)) s (m (covering n (begun (length s.noted)) s)) (k.by (covering n (begun (length s.noted)) s))) }

module _ (p : Program) (records : List Recorded) where
  keeps_creating : {P : Fact} (d : Draft) (c : Carried numbers) → IsCreating (owner_in p) records d.kind → Entails P (fits (owner_in p) records c) → Keeps (owner_in p) records P (note_new p d c) (made_fit (owner_in p) records)
  unfolding note_new creating with_event with_created end made_fit
  keeps_creating {P = P} d c q e = record {
    by = λ s. room_kept (owner_in p) records (P.holds (length s.noted)) (made_fit (owner_in p) records) c (creating p d c) s (record {
      front = λ h. h.1;
      longer = omega arith;
      inv = λ h i k. inv_created p records d c s q h.0 i (e.by _ k);
      returned = λ h i k. made_fits (owner_in p) records d c s h.0 i (e.by _ k);
    });
  }

  pub keeps_note_new : {P : Fact} (q : Program) → q ≡ p → (d : Draft) (c : Carried numbers) → IsCreating (owner_in p) records d.kind → Entails P (fits (owner_in p) records c) → Keeps (owner_in p) records P (note_new q d c) (made_fit (owner_in p) records)
  keeps_note_new {P = P} q is d c k e = subst (λ r. Keeps (owner_in p) records P (note_new r d c) (made_fit (owner_in p) records)) (sym is) (keeps_creating d c k e)

  pub keeps_activating_new : {P : Fact} (q : Program) → q ≡ p → (reach : Reach) (d : Draft) (c : Carried numbers) → IsCreating (owner_in p) records d.kind → Entails P (fits (owner_in p) records c) → Keeps (owner_in p) records P (activating reach (note_new q d c)) (made_fit (owner_in p) records)
  keeps_activating_new q is reach d c k e = keeps_activating (owner_in p) records reach d c (note_new q d c) (note_new_records (owner_in p) records q d c) (keeps_note_new q is d c k e)
