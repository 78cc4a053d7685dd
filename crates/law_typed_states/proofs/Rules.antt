-- What the steps of a run do to typed states, as rules that a goal determines.
use Rattle.std.proofs.Common.{◌≡◌, ℕ, Bool, true, false, List, Option}
use Rattle.std.specs.Prelude.{pos}
use Rattle.wy_kernel.specs.Program.{Program}
use Rattle.wy_value.specs.declared.value.Value.{Value}
use Rattle.wy_value.specs.declared.value.Value.TheVariants as val
use Rattle.wy_event.specs.declared.record.Kind.TheVariants as kind
use Rattle.wy_event.specs.declared.record.Slot.{Slot}
use Rattle.wy_event.specs.declared.record.Slot.TheVariants as slot
use Rattle.wy_event.specs.Record.{Recorded}
use Rattle.wy_steps.specs.Sets.{Sets}
use Rattle.wy_steps.specs.State.{Carried, Noted, Reach, Stop, InitFailed, Reason, Run, ◌>>=◌, ◌>>◌, return, leave, stop, catching, choose}
use Rattle.wy_steps.specs.Steps.{Draft, constant, tick, frame, event_in, event_at, is_begun, read, declare, note, note_write, note_new, activating, scoped, reaching, in_frame, take_elements, take_units, room_for_output, write_out, next_byte, covered}
use Rattle.wy_meaning.specs.World.{plain, about, into}
use Rattle.wy_meaning.specs.Statement.{while_form, do_form}
use Rattle.wy_typing.specs.Programs.{IsProgram}
use Rattle.law_induction.specs.Law.{Fact, nothing, both, Entails, FrameKind, Region, In, Ends, IsPlain, IsNoted, a_print, a_test, a_call, a_set, a_bind, a_catch, an_object, an_array, an_init, noted, created, Law}
use Rattle.law_induction.proofs.Rules as rule
use Rattle.law_induction.proofs.Rules.{Keeps, trivially}
use Rattle.law_induction.proofs.States.{law_of, steps_of}
use Rattle.law_induction.proofs.Loops.{counted}
use Rattle.law_typed_states.specs.Typed.{KeepsLibrary}
use Rattle.law_typed_states.proofs.Moments.{by_events}
use Rattle.law_typed_states.proofs.Law.{law, runs, current, place, event, told, read_from, stores, reason}

-- a program that fits its types, and what the values of its runs carry
pub record Ground : Type 1 where
  pub sets : Sets
  pub program : Program
  pub fits : IsProgram program
  pub library : KeepsLibrary program

module _ (G : Ground) where
  abbrev pub A : Sets
  A = G.sets

  abbrev pub p : Program
  p = G.program

  abbrev pub Known : Type 1
  Known = Fact (by_events A)

  unfoldable pub typed : Law A
  typed = law_of A (law A p G.fits)

  unfoldable pub Kept : Region → {X : Type 0} → Known → Run A X → (X → Known) → Type 0
  unfolding typed law_of counted steps_of law
  Kept r {X} P m Q = Keeps A typed r P m Q

  -- in the region and where P is known, from a typed state the run leads to one, and Q is known of what it gives
  pub record Does (r : Region) {X : Type 0} (P : Known) (m : Run A X) (Q : X → Known) : Type 0 where
    pub by : Kept r P m Q

  -- ---- putting together

  pub bind : {r : Region} {X Y : Type 0} {P : Known} {Q : X → Known} {S : Y → Known} {m : Run A X} {f : X → Run A Y} → Does r P m Q → ((x : X) → Does r (both P (Q x)) (f x) S) → Does r P (m >>= f) S
  unfolding Kept typed law_of counted steps_of law
  bind k l = record { by = rule.keeps_bind A typed k.by (λ x. (l x).by) }

  pub weaker : {r : Region} {X : Type 0} {P P' : Known} {Q : X → Known} {m : Run A X} → Does r P m Q → Entails P' P → Does r P' m Q
  unfolding Kept typed law_of counted steps_of law
  weaker k e = record { by = rule.weaker A typed k.by e }

  pub gives_less : {r : Region} {X : Type 0} {P : Known} {Q S : X → Known} {m : Run A X} → Does r P m Q → ((x : X) → Entails (both P (Q x)) (S x)) → Does r P m S
  unfolding Kept typed law_of counted steps_of law
  gives_less k e = record { by = rule.gives_less A typed k.by e }

  pub forgets : {r : Region} {X : Type 0} {P : Known} {Q : X → Known} {m : Run A X} → Does r P m Q → Does r P m (λ x. nothing)
  forgets k = gives_less k (λ x. trivially)

  pub gives : {r : Region} {X : Type 0} {P : Known} {Q : X → Known} (x : X) → Entails P (Q x) → Does r P (return x) Q
  unfolding Kept typed law_of counted steps_of law
  gives x e = record { by = rule.keeps_return A typed x e }

  pub leaves : {r : Region} {X : Type 0} {P : Known} {Q : X → Known} (why : Reason A) → Entails P (reason A p r why) → Does r P (leave why) Q
  unfolding Kept typed law_of counted steps_of law
  leaves why e = record { by = rule.keeps_leave A typed why e }

  pub stops : {r : Region} {X : Type 0} {P : Known} {Q : X → Known} (why : Stop) → IsPlain why → Does r P (stop why) Q
  unfolding Kept typed law_of counted steps_of law
  stops why h = record { by = rule.keeps_stop A typed why h }

  pub fails_by : {r : Region} {X : Type 0} {P : Known} {Q : X → Known} (e : ℕ) → Does r P (stop (InitFailed e)) Q
  unfolding Kept typed law_of counted steps_of law
  fails_by e = record { by = rule.keeps_failed A typed e trivially }

  pub catches : {r : Region} {X : Type 0} {P : Known} {Q : X → Known} {m : Run A X} {f : Reason A → Run A X} → Does r P m Q → ((why : Reason A) → Does r (both P (reason A p r why)) (f why) Q) → Does r P (catching m f) Q
  unfolding Kept typed law_of counted steps_of law
  catches k l = record { by = rule.keeps_catching A typed k.by (λ why. (l why).by) }

  pub catches_last : {i : FrameKind} {X : Type 0} {P : Known} {Q : X → Known} {m : Run A X} {f : Reason A → Run A X} → Does (In i) P m Q → ((why : Reason A) → Does (Ends i) (both P (reason A p (In i) why)) (f why) Q) → Does (Ends i) P (catching m f) Q
  unfolding Kept typed law_of counted steps_of law
  catches_last k l = record { by = rule.keeps_last A typed k.by (λ why. (l why).by) }

  pub either : {r : Region} {X : Type 0} {P : Known} {Q : X → Known} {m k : Run A X} (c : Bool) → (c ≡ true → Does r P m Q) → (c ≡ false → Does r P k Q) → Does r P (choose c m k) Q
  unfolding Kept typed law_of counted steps_of law
  either c h l = record { by = rule.keeps_either A typed c (λ e. (h e).by) (λ e. (l e).by) }

  pub chooses : {r : Region} {X : Type 0} {P : Known} {Q : X → Known} {m k : Run A X} (c : Bool) → Does r P m Q → Does r P k Q → Does r P (choose c m k) Q
  chooses c h l = either c (λ e. h) (λ e. l)

  pub whiles : {r : Region} {P : Known} (test : Run A Bool) (m : Run A Unit) → ((P : Known) → Does r P test (λ b. nothing)) → ((P : Known) → Does r P m (λ t. nothing)) → Does r P (while_form test m) (λ t. nothing)
  unfolding Kept typed law_of counted steps_of law
  whiles test m ht hm = record { by = rule.keeps_whiles A typed test m (λ R. (ht R).by) (λ R. (hm R).by) }

  pub dos : {r : Region} {P : Known} (test : Run A Bool) (m : Run A Unit) → ((P : Known) → Does r P test (λ b. nothing)) → ((P : Known) → Does r P m (λ t. nothing)) → Does r P (do_form m test) (λ t. nothing)
  unfolding Kept typed law_of counted steps_of law
  dos test m ht hm = record { by = rule.keeps_dos A typed test m (λ R. (ht R).by) (λ R. (hm R).by) }

  -- where nothing is known of what the first gives
  pub next : {r : Region} {X Y : Type 0} {P : Known} {S : Y → Known} {m : Run A X} {f : X → Run A Y} → Does r P m (λ x. nothing) → ((x : X) → Does r P (f x) S) → Does r P (m >>= f) S
  next k l = bind k (λ x. weaker (l x) (rule.before _ _ rule.same))

  pub after : {r : Region} {Y : Type 0} {P : Known} {S : Y → Known} {m : Run A Unit} {f : Run A Y} → Does r P m (λ t. nothing) → Does r P f S → Does r P (m >> f) S
  unfolding ◌>>◌
  after k l = next k (λ t. l)

  -- ---- steps

  pub ticks : {r : Region} {P : Known} → Does r P tick (λ t. nothing)
  unfolding Kept typed law_of counted steps_of law
  ticks = record { by = rule.keeps_tick A typed }

  pub frames : {i : FrameKind} {P : Known} → Does (In i) P frame (current A p i)
  unfolding Kept typed law_of counted steps_of law
  frames = record { by = rule.keeps_frame A typed }

  pub looks : {r : Region} {P : Known} (n : ℕ) (Q : Option Recorded → Known) → ((o : Option Recorded) (m : List (Noted A)) → P.holds m → o ≡ event_in m n → (Q o).holds m) → Does r P (event_at n) Q
  unfolding Kept typed law_of counted steps_of law
  looks n Q h = record { by = rule.keeps_event_at A typed n Q h }

  pub asks : {r : Region} {P : Known} (c : ℕ) → Does r P (is_begun c) (told A p c)
  unfolding Kept typed law_of counted steps_of law
  asks c = record { by = rule.keeps_is_begun A typed c }

  pub takes_elements : {r : Region} {P : Known} (n : ℕ) → Does r P (take_elements n) (λ t. nothing)
  unfolding Kept typed law_of counted steps_of law
  takes_elements n = record { by = rule.keeps_take_elements A typed n }

  pub takes_units : {r : Region} {P : Known} (n : ℕ) → Does r P (take_units n) (λ t. nothing)
  unfolding Kept typed law_of counted steps_of law
  takes_units n = record { by = rule.keeps_take_units A typed n }

  pub takes_byte : {r : Region} {P : Known} → Does r P next_byte (λ b. nothing)
  unfolding Kept typed law_of counted steps_of law
  takes_byte = record { by = rule.keeps_next_byte A typed }

  pub reads : {r : Region} {P : Known} (x : Slot) → Entails P (place A p x) → Does r P (read x) (λ v. read_from A p x v.value)
  unfolding Kept typed law_of counted steps_of law
  reads x e = record { by = rule.keeps_read A typed x e }

  pub declares : {r : Region} {P : Known} (f k : ℕ) → Does r P (declare (slot.Local f k)) (λ t. nothing)
  unfolding Kept typed law_of counted steps_of law place
  declares f k = record { by = rule.keeps_declare A typed f k trivially }

  pub scopes : {r : Region} {X : Type 0} {P : Known} {Q : X → Known} {m : Run A X} → Does r P m Q → Does r P (scoped m) Q
  unfolding Kept typed law_of counted steps_of law
  scopes k = record { by = rule.keeps_scoped A typed k.by }

  pub reaches : {r : Region} {X : Type 0} {P : Known} {Q : X → Known} {m : Run A X} (n : ℕ) → Does r P m Q → Does r P (reaching n m) Q
  unfolding Kept typed law_of counted steps_of law
  reaches n k = record { by = rule.keeps_reaching A typed n k.by }

  pub runs_in : {r : Region} {i : FrameKind} {X : Type 0} {P : Known} {Q : X → Known} {m : Run A X} (n : ℕ) → Entails P (runs A p i n) → Does (Ends i) P m Q → Does r P (in_frame n m) Q
  unfolding Kept typed law_of counted steps_of law
  runs_in n e k = record { by = rule.keeps_in_frame A typed n e k.by }

  pub covers : {r : Region} {P : Known} {m : Run A Unit} (n : ℕ) → Does r P m (λ t. nothing) → Does r P (covered n m) (λ t. nothing)
  unfolding Kept typed law_of counted steps_of law
  covers n k = record { by = rule.keeps_covered A typed n k.by }

  -- ---- events

  pub notes : {r : Region} {P : Known} (d : Draft) (c : Carried A) → IsNoted d c → Does r P (note d c) (event A p d)
  unfolding Kept typed law_of counted steps_of law
  notes d c g = record { by = rule.keeps_recorded A typed d c _ (noted d c g) trivially trivially }

  pub notes_test : {r : Region} {P : Known} (reach : Reach) (site n : ℕ) (c : Carried A) → Does r P (activating reach (note (plain kind.Test site (val.Arm n)) c)) (λ e. nothing)
  unfolding Kept typed law_of counted steps_of law plain
  notes_test reach site n c = gives_less (record { by = rule.keeps_entered A typed reach (plain kind.Test site (val.Arm n)) c _ (noted _ c (a_test site n c)) tt trivially trivially }) (λ e. trivially)

  pub notes_call : {r : Region} {P : Known} (reach : Reach) (site m : ℕ) (c : Carried A) → Does r P (activating reach (note (about kind.Call site m val.None) c)) (event A p (about kind.Call site m val.None))
  unfolding Kept typed law_of counted steps_of law about
  notes_call reach site m c = record { by = rule.keeps_entered A typed reach (about kind.Call site m val.None) c _ (noted _ c (a_call site m c)) tt trivially trivially }

  pub notes_object : {r : Region} {P : Known} (site code : ℕ) (c : Carried A) → Does r P (note_new p (about kind.New site code val.None) c) (event A p (about kind.New site code val.None))
  unfolding Kept typed law_of counted steps_of law about
  notes_object site code c = record { by = rule.keeps_recorded A typed (about kind.New site code val.None) c _ (created _ c (an_object site code c)) trivially trivially }

  pub notes_array : {r : Region} {P : Known} (site code n : ℕ) (c : Carried A) → Does r P (note_new p (about kind.New site code (val.Int (pos n))) c) (event A p (about kind.New site code (val.Int (pos n))))
  unfolding Kept typed law_of counted steps_of law about
  notes_array site code n c = record { by = rule.keeps_recorded A typed (about kind.New site code (val.Int (pos n))) c _ (created _ c (an_array site code n c)) trivially trivially }

  pub notes_init : {r : Region} {P : Known} (reach : Reach) (site c : ℕ) → Does r P (activating reach (note_new p (about kind.Init site c val.None) (constant val.None))) (event A p (about kind.Init site c val.None))
  unfolding Kept typed law_of counted steps_of law about
  notes_init reach site c = record { by = rule.keeps_entered A typed reach (about kind.Init site c val.None) (constant val.None) _ (created _ _ (an_init site c)) tt trivially trivially }

  -- a value that fits what it is stored in, whether it may be read or not
  pub sets_slot : {r : Region} {P : Known} (site : ℕ) (x : Slot) (v : Value) (c : Carried A) → Entails P (place A p x) → Entails P (stores A p x v) → Does r P (note_write (into kind.Set site x v) c) (λ e. nothing)
  unfolding Kept typed law_of counted steps_of law into
  sets_slot site x v c e f = gives_less (record { by = rule.keeps_written A typed (into kind.Set site x v) c (a_set site x v c) e f trivially trivially }) (λ e. trivially)

  pub binds_local : {r : Region} {P : Known} (site f k : ℕ) (v : Value) (c : Carried A) → Entails P (stores A p (slot.Local f k) v) → Does r P (note_write (into kind.Bind site (slot.Local f k) v) c) (λ e. nothing)
  unfolding Kept typed law_of counted steps_of law into place
  binds_local site f k v c e = gives_less (record { by = rule.keeps_written A typed (into kind.Bind site (slot.Local f k) v) c (a_bind site f k v c) trivially e trivially trivially }) (λ e. trivially)

  pub catches_local : {r : Region} {P : Known} (reach : Reach) (site f k : ℕ) (v : Value) (c : Carried A) → Entails P (stores A p (slot.Local f k) v) → Does r P (activating reach (note_write (into kind.Catch site (slot.Local f k) v) c)) (λ e. nothing)
  unfolding Kept typed law_of counted steps_of law into place
  catches_local reach site f k v c e = gives_less (record { by = rule.keeps_entered_writing A typed reach (into kind.Catch site (slot.Local f k) v) c (a_catch site f k v c) tt trivially e trivially trivially }) (λ e. trivially)

  pub prints : {r : Region} {P : Known} (site : ℕ) (v : Value) (c : Carried A) (bytes : List ℕ) → Does r P (room_for_output bytes >> (note (plain kind.Print site v) c >>= (λ e. write_out bytes))) (λ t. nothing)
  unfolding Kept typed law_of counted steps_of law plain
  prints site v c bytes = record { by = rule.keeps_printed A typed (plain kind.Print site v) c bytes (a_print site v c) trivially trivially }
