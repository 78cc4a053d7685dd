-- What a property of runs has to satisfy, so that every expression, statement, call and run keeps it.
use Rattle.std.specs.Prelude.{◌≡◌, ℕ, pos, Bool, true, false, List, Option}
use Rattle.wy_kernel.specs.Program.{Program}
use Rattle.wy_value.specs.declared.value.Value.{Value}
use Rattle.wy_value.specs.declared.value.Value.TheVariants as val
use Rattle.wy_event.specs.declared.record.Kind.{Kind}
use Rattle.wy_event.specs.declared.record.Kind.TheVariants as kind
use Rattle.wy_event.specs.declared.record.Slot.{Slot}
use Rattle.wy_event.specs.declared.record.Slot.TheVariants as slot_at
use Rattle.wy_event.specs.Record.{Recorded}
use Rattle.wy_steps.specs.Sets.{Sets}
use Rattle.wy_steps.specs.State.{Carried, Reach, Stop, InitFailed, Reason, Run, ◌>>=◌, ◌>>◌, return, leave, stop, catching, choose}
use Rattle.wy_steps.specs.Steps.{Made, Draft, constant, tick, frame, event_at, is_begun, read, declare, note, note_write, note_new, activating, scoped, reaching, in_frame, take_elements, take_units, room_for_output, write_out, next_byte, covered}
use Rattle.wy_meaning.specs.World.{plain, about, into, spelling}
use Rattle.wy_meaning.specs.Statement.{while_form, do_form}

-- ---- facts

-- the moments of a run at which something can be known, and when one is later
pub record Moments : Type 1 where
  pub moment : Type 0
  pub later : moment → moment → Type 0

-- what is known at a moment, and from then on
pub record Fact (T : Moments) : Type 1 where
  pub holds : T.moment → Type 0
  pub up : (m n : T.moment) → T.later m n → holds m → holds n

abbrev pub nothing : {T : Moments} → Fact T
nothing = record { holds = λ n. Unit {0}; up = λ m n le h. tt }

unfoldable pub both : {T : Moments} → Fact T → Fact T → Fact T
both P Q = record { holds = λ n. P.holds n × Q.holds n; up = λ m n le h. (P.up m n le h.0, Q.up m n le h.1) }

-- the second follows from the first
pub record Entails {T : Moments} (P Q : Fact T) : Type 0 where
  pub by : (n : T.moment) → P.holds n → Q.holds n

-- ---- where a part of a run stands

-- the body that runs: of a method or of a class's initializers
pub data FrameKind : Type 0 where
  OfCall : (method : ℕ) → FrameKind
  OfInit : (class : ℕ) → FrameKind

pub data Region : Type 0 where
  Outside : Region
  In : FrameKind → Region
  -- in a body, where what is left is handled for good
  Ends : FrameKind → Region

-- ---- what is recorded

abbrev pub IsInt : Value → Type 0
IsInt (val.Int z) = Unit {0}
IsInt _ = ⊥

abbrev pub IsPlain : Stop → Type 0
IsPlain (InitFailed last) = ⊥
IsPlain _ = Unit {0}

-- an event that decides that others happen
abbrev pub IsControl : Kind → Type 0
IsControl kind.Init = Unit {0}
IsControl kind.Call = Unit {0}
IsControl kind.Test = Unit {0}
IsControl kind.Catch = Unit {0}
IsControl _ = ⊥

-- the drafts of events that the forms record, with their operands
pub data IsNoted {A : Sets} : Draft → Carried A → Type 0 where
  a_throw : (site : ℕ) (v : Value) (c : Carried A) → IsNoted (plain kind.Throw site v) c
  a_print : (site : ℕ) (v : Value) (c : Carried A) → IsNoted (plain kind.Print site v) c
  a_return : (site : ℕ) (v : Value) (c : Carried A) → IsNoted (plain kind.Return site v) c
  a_test : (site n : ℕ) (c : Carried A) → IsNoted (plain kind.Test site (val.Arm n)) c
  a_read : (site : ℕ) (v : Value) → IsInt v → IsNoted (plain kind.Read site v) (constant val.None)
  a_jump : (site : ℕ) → IsNoted (plain kind.Jump site val.None) (constant val.None)
  a_text : (site : ℕ) (units : List ℕ) (c : Carried A) → IsNoted (spelling site units) c
  a_call : (site method : ℕ) (c : Carried A) → IsNoted (about kind.Call site method val.None) c

pub data IsWrite {A : Sets} : Draft → Carried A → Type 0 where
  a_set : (site : ℕ) (x : Slot) (v : Value) (c : Carried A) → IsWrite (into kind.Set site x v) c
  a_bind : (site f i : ℕ) (v : Value) (c : Carried A) → IsWrite (into kind.Bind site (slot_at.Local f i) v) c
  a_catch : (site f i : ℕ) (v : Value) (c : Carried A) → IsWrite (into kind.Catch site (slot_at.Local f i) v) c

pub data IsCreated {A : Sets} : Draft → Carried A → Type 0 where
  an_object : (site code : ℕ) (c : Carried A) → IsCreated (about kind.New site code val.None) c
  an_array : (site code n : ℕ) (c : Carried A) → IsCreated (about kind.New site code (val.Int (pos n))) c
  an_init : (site class : ℕ) → IsCreated (about kind.Init site class val.None) (constant val.None)

-- the run records such an event, and writes no slot that stands in its draft
pub data Recording {A : Sets} (p : Program) : Draft → Carried A → Run A (Made A) → Type 0 where
  noted : (d : Draft) (c : Carried A) → IsNoted d c → Recording p d c (note d c)
  created : (d : Draft) (c : Carried A) → IsCreated d c → Recording p d c (note_new p d c)

-- ---- the law of a property

-- what is known of values, slots, events and reasons, as far as the steps of a run need it
pub record Facts (A : Sets) : Type 1 where
  pub program : Program
  pub moments : Moments
  -- a carried value; a plain value; a place; an event by its draft; the number of the running body, and what `frame` gives in it
  pub fit : Carried A → Fact moments
  pub value : Value → Fact moments
  pub place : Slot → Fact moments
  pub made : Draft → Made A → Fact moments
  pub body : FrameKind → ℕ → Fact moments
  pub current : FrameKind → Option ℕ → Fact moments
  -- the answer whether the initialization of a class has begun
  pub told : ℕ → Bool → Fact moments
  pub read_from : Slot → Carried A → Fact moments
  -- the value may be stored in the slot
  pub stores : Slot → Value → Fact moments
  -- the event of that number, at the very moment when it is looked up
  pub sees : ℕ → Option Recorded → moments.moment → Type 0
  -- why a part of a run is left, and the Throw of a failed initialization
  pub reason : Region → Reason A → Fact moments
  pub threw : ℕ → Fact moments
  -- what leaves the end of a body leaves each part of a run that the body stands in
  pub out : (r : Region) (i : FrameKind) (why : Reason A) (n : moments.moment) → (reason (Ends i) why).holds n → (reason r why).holds n

-- keeps r P m Q: where P is known the run m, in the region r, keeps the property, and Q is known of what it gives
pub record StepLaw (A : Sets) : Type 1 where
  pub facts : Facts A
  pub open facts use *
  pub keeps : Region → {X : Type 0} → Fact moments → Run A X → (X → Fact moments) → Type 0
  -- how parts are put together
  pub weakens : (r : Region) {X : Type 0} (P P' : Fact moments) (m : Run A X) (Q : X → Fact moments) → keeps r P m Q → Entails P' P → keeps r P' m Q
  pub gives_less : (r : Region) {X : Type 0} (P : Fact moments) (m : Run A X) (Q S : X → Fact moments) → keeps r P m Q → ((x : X) → Entails (both P (Q x)) (S x)) → keeps r P m S
  pub binds : (r : Region) {X Y : Type 0} (P : Fact moments) (m : Run A X) (Q : X → Fact moments) (f : X → Run A Y) (S : Y → Fact moments) → keeps r P m Q → ((x : X) → keeps r (both P (Q x)) (f x) S) → keeps r P (m >>= f) S
  pub returns : (r : Region) {X : Type 0} (P : Fact moments) (x : X) (Q : X → Fact moments) → Entails P (Q x) → keeps r P (return x) Q
  pub leaves : (r : Region) {X : Type 0} (P : Fact moments) (why : Reason A) (Q : X → Fact moments) → Entails P (reason r why) → keeps r P (leave why) Q
  pub stops : (r : Region) {X : Type 0} (P : Fact moments) (why : Stop) (Q : X → Fact moments) → IsPlain why → keeps r P (stop why) Q
  pub fails : (r : Region) {X : Type 0} (P : Fact moments) (e : ℕ) (Q : X → Fact moments) → Entails P (threw e) → keeps r P (stop (InitFailed e)) Q
  pub catches : (r : Region) {X : Type 0} (P : Fact moments) (m : Run A X) (f : Reason A → Run A X) (Q : X → Fact moments) → keeps r P m Q → ((why : Reason A) → keeps r (both P (reason r why)) (f why) Q) → keeps r P (catching m f) Q
  pub catches_last : (i : FrameKind) {X : Type 0} (P : Fact moments) (m : Run A X) (f : Reason A → Run A X) (Q : X → Fact moments) → keeps (In i) P m Q → ((why : Reason A) → keeps (Ends i) (both P (reason (In i) why)) (f why) Q) → keeps (Ends i) P (catching m f) Q
  pub chooses : (r : Region) {X : Type 0} (P : Fact moments) (b : Bool) (m k : Run A X) (Q : X → Fact moments) → (b ≡ true → keeps r P m Q) → (b ≡ false → keeps r P k Q) → keeps r P (choose b m k) Q
  -- steps
  pub ticks : (r : Region) (P : Fact moments) → keeps r P tick (λ t. nothing)
  pub frames : (i : FrameKind) (P : Fact moments) → keeps (In i) P frame (current i)
  pub looks : (r : Region) (P : Fact moments) (n : ℕ) (Q : Option Recorded → Fact moments) → ((o : Option Recorded) (m : moments.moment) → P.holds m → sees n o m → (Q o).holds m) → keeps r P (event_at n) Q
  pub asks : (r : Region) (P : Fact moments) (c : ℕ) → keeps r P (is_begun c) (told c)
  pub takes_elements : (r : Region) (P : Fact moments) (n : ℕ) → keeps r P (take_elements n) (λ t. nothing)
  pub takes_units : (r : Region) (P : Fact moments) (n : ℕ) → keeps r P (take_units n) (λ t. nothing)
  pub takes_byte : (r : Region) (P : Fact moments) → keeps r P next_byte (λ o. nothing)
  pub reads : (r : Region) (P : Fact moments) (x : Slot) → Entails P (place x) → keeps r P (read x) (read_from x)
  pub declares : (r : Region) (P : Fact moments) (f k : ℕ) → Entails P (place (slot_at.Local f k)) → keeps r P (declare (slot_at.Local f k)) (λ t. nothing)
  pub records : (r : Region) (P : Fact moments) (d : Draft) (c : Carried A) (m : Run A (Made A)) → Recording program d c m → Entails P (value d.value) → Entails P (fit c) → keeps r P m (made d)
  pub enters : (r : Region) (P : Fact moments) (reach : Reach) (d : Draft) (c : Carried A) (m : Run A (Made A)) → Recording program d c m → IsControl d.kind → Entails P (value d.value) → Entails P (fit c) → keeps r P (activating reach m) (made d)
  pub writes : (r : Region) (P : Fact moments) (d : Draft) (c : Carried A) → IsWrite d c → Entails P (place d.slot) → Entails P (stores d.slot d.value) → Entails P (value d.value) → Entails P (fit c) → keeps r P (note_write d c) (made d)
  pub enters_writing : (r : Region) (P : Fact moments) (reach : Reach) (d : Draft) (c : Carried A) → IsWrite d c → IsControl d.kind → Entails P (place d.slot) → Entails P (stores d.slot d.value) → Entails P (value d.value) → Entails P (fit c) → keeps r P (activating reach (note_write d c)) (made d)
  pub prints : (r : Region) (P : Fact moments) (d : Draft) (c : Carried A) (bytes : List ℕ) → IsNoted d c → Entails P (value d.value) → Entails P (fit c) → keeps r P (room_for_output bytes >> (note d c >>= (λ e. write_out bytes))) (λ t. nothing)
  pub scopes : (r : Region) {X : Type 0} (P : Fact moments) (m : Run A X) (Q : X → Fact moments) → keeps r P m Q → keeps r P (scoped m) Q
  pub reaches : (r : Region) {X : Type 0} (P : Fact moments) (n : ℕ) (m : Run A X) (Q : X → Fact moments) → keeps r P m Q → keeps r P (reaching n m) Q
  pub runs_in : (r : Region) {X : Type 0} (P : Fact moments) (i : FrameKind) (n : ℕ) (m : Run A X) (Q : X → Fact moments) → Entails P (body i n) → keeps (Ends i) P m Q → keeps r P (in_frame n m) Q
  pub covers : (r : Region) (P : Fact moments) (n : ℕ) (m : Run A Unit) → keeps r P m (λ t. nothing) → keeps r P (covered n m) (λ t. nothing)

-- with the loops, whose turns are bounded by the steps that are left
pub record Law (A : Sets) : Type 1 where
  pub steps : StepLaw A
  pub open steps use *
  pub whiles : (r : Region) (P : Fact moments) (test : Run A Bool) (m : Run A Unit) → ((P : Fact moments) → keeps r P test (λ b. nothing)) → ((P : Fact moments) → keeps r P m (λ t. nothing)) → keeps r P (while_form test m) (λ t. nothing)
  pub dos : (r : Region) (P : Fact moments) (test : Run A Bool) (m : Run A Unit) → ((P : Fact moments) → keeps r P test (λ b. nothing)) → ((P : Fact moments) → keeps r P m (λ t. nothing)) → keeps r P (do_form m test) (λ t. nothing)
