-- Records: what agrees still agrees with one event more.
use Rattle.std.proofs.Common.{◌≡◌, ◌≢◌, ◌≤◌, ◌<◌, ◌∙◌, ℕ, suc, ◌+◌, List, [], ◌∷◌, ◌++◌, length, map, reverse, Bool, true, false, Option, Some, Err, refl, sym, ap, subst, arith, add-one, append_assoc, inl, inr}
use Rattle.std.specs.Prelude.{nat_lt, nat_le, if◌then◌else◌}
use Rattle.std.proofs.lemmas.Bool.Decides.{eqb_tells}
use Rattle.std.proofs.lemmas.Bool.{le-leb, lt-leb}
use mathlib.Core.List.{reverse-cons, map-append}
use Rattle.wy_kernel.specs.Program.{Program}
use Rattle.wy_value.specs.declared.value.Value.{Value}
use Rattle.wy_event.specs.declared.record.Kind.{Kind}
use Rattle.wy_event.specs.declared.record.Kind.TheVariants as kinds
use Rattle.wy_state.specs.declared.parts.Halt.{Halt}
use Rattle.wy_state.specs.declared.parts.Halt.TheVariants.{Left, Stopped, Memory}
use Rattle.wy_state.specs.declared.parts.Limit.TheVariants as limit
use Rattle.wy_event.specs.declared.record.Use.{Use}
use Rattle.wy_steps.specs.Sets.{nothing}
use Rattle.wy_steps.specs.State.{Carried, Noted, State, Store, Run, EventLimit, UseLimit, OutputLimit, choose, go_on, ◌>>=◌, ◌>>◌, return, stop}
use Rattle.wy_kernel.specs.Limits.{event_limit, use_limit, output_limit}
use Rattle.wy_steps.specs.Steps.{Draft, Made, event_in, has_init, is_init_of, made, held_by, next_event, note, note_write, noting, room_for, room_for_output, with_event, write_out, writing}
use Rattle.wy_meaning.specs.World.{plain}
use Rattle.wy_meaning.specs.Text.{print}
use Rattle.wy_state.specs.Steps.{put}
use Rattle.wy_state.proofs.Agreement.{with_output}
use Rattle.wy_state.proofs.Onward.{answers_after, answers_then, onward_bind, onward_then}
use Rattle.wy_heap.specs.declared.heap.Heap.{Heap}
use Rattle.wy_heap.specs.Heap.{plan, is_made}
use Rattle.wy_heap.specs.Plan.{plan_of}
use Rattle.wy_state.specs.Agrees.{Shape, Agrees, AreFrom, StepGives, Onward, HasLocals, HasFreshLocals, HasSlots, HasFreshStatics, HasCodes, HasSizes, HasTexts, IsUnmade, Refusing, event_of, itself, throw_at, with_record}
use Rattle.wy_state.specs.declared.parts.Draft.{Draft as Drafted}
use Rattle.wy_state.specs.Seen.{draft_of, given, made_of}

-- ---- an event by its number

module _ (e : Noted nothing) (noted : List (Noted nothing)) where
  pub newest_event : event_in (e ∷ noted) (length noted) ≡ Some e.event
  unfolding event_in
  newest_event = elim (eqb_tells (length noted) (length noted)) as (λ _. event_in (e ∷ noted) (length noted) ≡ Some e.event) [
    | inl same ↦ rw same.0 refl
    | inr other ↦ absurd (other.1 refl)
  ]

  pub older_event : (n : ℕ) → n ≢ length noted → event_in (e ∷ noted) n ≡ event_in noted n
  unfolding event_in
  older_event n differs = elim (eqb_tells n (length noted)) as (λ _. event_in (e ∷ noted) n ≡ event_in noted n) [
    | inl same ↦ absurd (differs same.1)
    | inr other ↦ rw other.0 refl
  ]

  pub no_init : (c : ℕ) → is_init_of c e.event.kind e.event.entity ≡ false → has_init c (e ∷ noted) ≡ has_init c noted
  unfolding has_init
  no_init c is = rw is refl

module _ (p : Program) (m : Shape) (s : State nothing) (a : Agrees p m s) (d : Draft) (c : Carried nothing) where
  next_is : (next_event d c s).event ≡ event_of d c.uses m
  unfolding next_event
  next_is = rw (a.frame, a.active) refl

  kept_more : AreFrom m.keeps (map (λ e. e.event) (reverse (next_event d c s ∷ s.noted))) (m.kept ++ event_of d c.uses m ∷ [])
  kept_more = (
    a.kept.0,
    a.kept.1,
    ap (map (λ e. e.event)) (reverse-cons (next_event d c s) s.noted) ∙
        map-append (λ e. e.event) (reverse s.noted) (next_event d c s ∷ []) ∙
        ap (λ x. map (λ e. e.event) (reverse s.noted) ++ x ∷ []) next_is ∙
        ap (λ xs. xs ++ event_of d c.uses m ∷ []) a.kept.2 ∙
        append_assoc a.kept.0 m.kept (event_of d c.uses m ∷ []),
  )

  -- with another heap and another store, of which all that a state needs is known
  pub one_more : (h : Heap) (store : Store nothing) → HasLocals store m.calls.frames → HasFreshLocals store m.entered → plan h ≡ plan_of p → HasSlots store h → HasFreshStatics p store h →
      ((n : ℕ) → m.events + 1 ≤ n → IsUnmade h store n) → HasCodes (next_event d c s ∷ s.noted) h → HasSizes (next_event d c s ∷ s.noted) h → HasTexts (next_event d c s ∷ s.noted) h →
      ((k : ℕ) → has_init k (next_event d c s ∷ s.noted) ≡ is_made h k) →
      Agrees p (record (with_record d c.uses m) { heap = h }) (record (with_event (next_event d c s) s) { store = store })
  unfolding with_event next_event
  one_more h store locals fresh planned slots statics unmade codes sizes texts begun = record {
    events = rw add-one (ap (λ k. suc k) a.events);
    kept = kept_more;
    uses = ap (λ k. k + length c.uses) a.uses;
    left = a.left;
    elements = a.elements;
    units = a.units;
    output = a.output;
    input = a.input;
    active = a.active;
    frame = a.frame;
    covers = a.covers;
    throws = rw a.events (ap (λ ts. throw_at m.events d.kind d.site d.value ts) a.throws);
    fall = a.fall;
    locals = locals;
    fresh_locals = fresh;
    same_plan = planned;
    slots = slots;
    fresh_statics = statics;
    unmade = unmade;
    codes = codes;
    sizes = sizes;
    texts = texts;
    begun = begun;
  }

  -- a number that the heap knows is one of an older event
  known_before : (n : ℕ) → (m.events ≤ n → ⊥) → n ≢ length s.noted
  known_before n le is = le (omega (arith, is, a.events))

  pub codes_stay : HasCodes (next_event d c s ∷ s.noted) m.heap
  codes_stay n k is = rw (older_event (next_event d c s) s.noted n (known_before n (λ le. let none = (a.unmade n le).no_code in cc))) (a.codes n k is)

  pub sizes_stay : HasSizes (next_event d c s ∷ s.noted) m.heap
  sizes_stay n k is = rw (older_event (next_event d c s) s.noted n (known_before n (λ le. let none = (a.unmade n le).no_size in cc))) (a.sizes n k is)

  pub texts_stay : HasTexts (next_event d c s ∷ s.noted) m.heap
  texts_stay n us is = rw (older_event (next_event d c s) s.noted n (known_before n (λ le. let none = (a.unmade n le).no_text in cc))) (a.texts n us is)

  -- an event that makes nothing
  pub plain_more : ((k : ℕ) → is_init_of k d.kind d.entity ≡ false) → Agrees p (with_record d c.uses m) (with_event (next_event d c s) s)
  unfolding next_event with_event
  plain_more plain = one_more m.heap s.store a.locals a.fresh_locals a.same_plan a.slots a.fresh_statics (λ n le. a.unmade n (omega (arith, le))) codes_stay sizes_stay texts_stay
      (λ k. no_init (next_event d c s) s.noted k (plain k) ∙ a.begun k)

-- ---- where there is room, and where there is none

module _ (p : Program) (m : Shape) (d : Draft) (v : Value) (us : List Use) where
  module _ (s : State nothing) (a : Agrees p m s) where
    pub in_room : {X : Type 0} (f : Run nothing X) → m.events < event_limit → m.uses + length us ≤ use_limit → room_for (given v us) f s ≡ f s
    unfolding room_for choose
    in_room f few fits =
        let below : nat_lt (length s.noted) event_limit ≡ true = rw a.events (le-leb (suc m.events) event_limit (omega (arith, few))) in
        let room : nat_le (s.uses + length us) use_limit ≡ true = rw a.uses (le-leb (m.uses + length us) use_limit fits) in
        rw (below, room) refl

    pub past_events : {X : Type 0} (f : Run nothing X) → event_limit ≤ m.events → room_for (given v us) f s ≡ stop EventLimit s
    unfolding room_for choose
    past_events f full =
        let above : nat_lt (length s.noted) event_limit ≡ false = rw a.events (lt-leb (suc m.events) event_limit (omega (arith, full))) in
        rw above refl

    pub past_uses : {X : Type 0} (f : Run nothing X) → m.events < event_limit → use_limit < m.uses + length us → room_for (given v us) f s ≡ stop UseLimit s
    unfolding room_for choose
    past_uses f few full =
        let below : nat_lt (length s.noted) event_limit ≡ true = rw a.events (le-leb (suc m.events) event_limit (omega (arith, few))) in
        let above : nat_le (s.uses + length us) use_limit ≡ false = rw a.uses (lt-leb (m.uses + length us) use_limit full) in
        rw (below, above) refl

  pub noted_goes : (n : Shape) → n ≡ with_record d us m → ((k : ℕ) → is_init_of k d.kind d.entity ≡ false) → m.events < event_limit → m.uses + length us ≤ use_limit → Onward p m (note d (given v us)) n (return (made_of m.events))
  unfolding note noting return made
  noted_goes n is plain few fits = rw is (record {
    from = λ s a. record {
      state = with_event (next_event d (given v us) s) s;
      agrees = plain_more p m s a d (given v us) plain;
      is = rw (in_room s a (noting d (given v us)) few fits, ← a.events) refl;
    };
    same = refl;
  })

  pub full_goes : {X : Type 0} (f : Run nothing X) (n : Shape) → n ≡ m → event_limit ≤ m.events → Onward p m (room_for (given v us) f) n (stop EventLimit)
  unfolding stop
  full_goes f n is full = rw is (record { from = λ s a. record { state = s; agrees = a; is = sym (past_events s a f full) }; same = refl })

  pub full_of_uses_goes : {X : Type 0} (f : Run nothing X) (n : Shape) → n ≡ m → m.events < event_limit → use_limit < m.uses + length us → Onward p m (room_for (given v us) f) n (stop UseLimit)
  unfolding stop
  full_of_uses_goes f n is few full = rw is (record { from = λ s a. record { state = s; agrees = a; is = sym (past_uses s a f few full) }; same = refl })

  -- what was refused, whatever the room was for
  pub refused : {X Z : Type 0} (f : Run nothing Z) (view : X → Z) (n : Shape) (e : Halt) → Refusing us e m n → StepGives p view (Err e) m (room_for (given v us) f) n
  refused f view n (Stopped limit.Events) h = full_goes f n h.1 h.0
  refused f view n (Stopped limit.Uses) h = full_of_uses_goes f n h.2 h.0 h.1
  refused f view n (Stopped limit.Steps) h = absurd h
  refused f view n (Stopped limit.Elements) h = absurd h
  refused f view n (Stopped limit.Units) h = absurd h
  refused f view n (Stopped limit.Output) h = absurd h
  refused f view n (Stopped limit.Depth) h = absurd h
  refused f view n (Stopped limit.Unassigned) h = absurd h
  refused f view n (Stopped limit.FellOff) h = absurd h
  refused f view n (Stopped (limit.InitFailed last)) h = absurd h
  refused f view n (Left why) h = absurd h
  refused f view n Memory h = tt

  pub note_refused : {X : Type 0} (view : X → Made nothing) (n : Shape) (e : Halt) → Refusing us e m n → StepGives p view (Err e) m (note d (given v us)) n
  unfolding note
  note_refused view n e h = refused (noting d (given v us)) view n e h

-- a kind that is none of an initialization
pub makes_no_class : (kind : Kind) (entity : Option ℕ) → (kind ≡ kinds.Init → ⊥) → (k : ℕ) → is_init_of k kind entity ≡ false
unfolding is_init_of
makes_no_class kinds.Init entity is k = absurd (is refl)
makes_no_class kinds.New entity is k = refl
makes_no_class kinds.Call entity is k = refl
makes_no_class kinds.Bind entity is k = refl
makes_no_class kinds.Set entity is k = refl
makes_no_class kinds.Test entity is k = refl
makes_no_class kinds.Text entity is k = refl
makes_no_class kinds.Read entity is k = refl
makes_no_class kinds.Print entity is k = refl
makes_no_class kinds.Return entity is k = refl
makes_no_class kinds.Jump entity is k = refl
makes_no_class kinds.Throw entity is k = refl
makes_no_class kinds.Catch entity is k = refl

-- records without units
module _ (p : Program) (m n : Shape) (d : Drafted) (us : List Use) where
  pub plain_refused : {X : Type 0} (view : X → Made nothing) (e : Halt) → Refusing us e m n → StepGives p view (Err e) m (note (draft_of d []) (given d.value us)) n
  plain_refused view e h = note_refused p m (draft_of d []) d.value us view n e h

  pub plain_goes : (units : List ℕ) (empty : units ≡ []) (k : ℕ) → (k ≡ m.events) × (m.events < event_limit) × (m.uses + length us ≤ use_limit) × (n ≡ with_record (draft_of d units) us m) → (d.kind ≡ kinds.Init → ⊥) → Onward p m (note (draft_of d []) (given d.value us)) n (return (made_of k))
  plain_goes units empty k h is =
      let same : n ≡ with_record (draft_of d []) us m = subst (λ xs. n ≡ with_record (draft_of d xs) us m) empty h.3 in
      subst (λ j. Onward p m (note (draft_of d []) (given d.value us)) n (return (made_of j))) (sym h.0) (noted_goes p m (draft_of d []) d.value us n same (makes_no_class d.kind _ is) h.1 h.2)

-- a write is recorded, and then its slot holds the value
pub note_write_is : (d : Draft) (c : Carried nothing) (s : State nothing) → note_write d c s ≡ (note d c >>= (λ e. put d.slot d.value >>= (λ _. return e))) s
unfolding note note_write room_for writing noting held_by next_event ◌>>=◌ go_on return stop choose
note_write_is d c s = cases (nat_lt (length s.noted) event_limit) (nat_le (s.uses + length c.uses) use_limit)
  where
    cases : (few fits : Bool) → choose few (choose fits (writing d c) (stop UseLimit)) (stop EventLimit) s ≡ go_on (choose few (choose fits (noting d c) (stop UseLimit)) (stop EventLimit) s) (λ e. put d.slot d.value >>= (λ _. return e))
    cases true true = refl
    cases true false = refl
    cases false fits = refl

-- ---- prints

module _ (p : Program) (m : Shape) (site : ℕ) (bytes : List ℕ) (v : Value) (us : List Use) where
  room : (s : State nothing) → Agrees p m s → length m.output + length bytes ≤ output_limit → print site bytes (given v us) s ≡ (note (plain kinds.Print site v) (given v us) >>= (λ e. write_out bytes)) s
  unfolding print room_for_output ◌>>=◌ ◌>>◌ go_on choose return
  room s a fits =
      let has : nat_le (length s.output + length bytes) output_limit ≡ true = rw a.output (le-leb (length m.output + length bytes) output_limit fits) in
      rw has refl

  pub print_starts : length m.output + length bytes ≤ output_limit → Onward p m (print site bytes (given v us)) m (note (plain kinds.Print site v) (given v us) >>= (λ e. write_out bytes))
  print_starts fits = record { from = λ s a. record { state = s; agrees = a; is = sym (room s a fits) }; same = refl }

  pub no_output_left : output_limit < length m.output + length bytes → Onward p m (print site bytes (given v us)) m (stop OutputLimit)
  unfolding print room_for_output ◌>>=◌ ◌>>◌ go_on choose stop
  no_output_left full = record {
    from = λ s a.
        let above : nat_le (length s.output + length bytes) output_limit ≡ false = rw a.output (lt-leb (length m.output + length bytes) output_limit full) in
        record { state = s; agrees = a; is = rw above refl };
    same = refl;
  }

pub written_out : (p : Program) (m : Shape) (bytes out : List ℕ) → out ≡ m.output ++ bytes → Onward p m (write_out bytes) (record m { output = out }) (return (itself tt))
unfolding write_out return
written_out p m bytes out is = record { from = λ s a. record { state = record s { output = s.output ++ bytes }; agrees = with_output p m s out (s.output ++ bytes) (ap (λ xs. xs ++ bytes) a.output ∙ sym is) a; is = refl }; same = refl }

-- a print by its record
module _ (p : Program) (m : Shape) (site : ℕ) (bytes : List ℕ) (v : Value) (us : List Use) (fits : length m.output + length bytes ≤ output_limit) (d : Draft) (drafted : d ≡ plain kinds.Print site v) (w : Value) (same : w ≡ v) (n : Shape) where
  starts : Onward p m (print site bytes (given v us)) m (note d (given w us) >>= (λ e. write_out bytes))
  starts = rw (drafted, same) (print_starts p m site bytes v us fits)

  pub print_halts : (e : Halt) → StepGives p made_of (Err e) m (note d (given w us)) n → StepGives p (itself {X = Unit {0}}) (Err e) m (print site bytes (given v us)) n
  print_halts e h = answers_then (itself {X = Unit {0}}) p e m m n _ _ starts (answers_after p m n (note d (given w us)) made_of (itself {X = Unit {0}}) (λ e. write_out bytes) _ e (λ s. refl) h)

  pub print_goes : (k : ℕ) → Onward p m (note d (given w us)) n (return (made_of k)) → (out : List ℕ) → out ≡ n.output ++ bytes → Onward p m (print site bytes (given v us)) (record n { output = out }) (return (itself tt))
  unfolding ◌>>=◌ go_on return
  print_goes k noted out is = onward_then starts (onward_then (onward_bind (λ e. write_out bytes) noted) (written_out p n bytes out is))
