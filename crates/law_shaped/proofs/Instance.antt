-- The law of runs whose records are shaped: what has to be shown of each change of a state.
use Rattle.std.proofs.Common.{◌≡◌, ◌<◌, ◌≤◌, ℕ, suc, Bool, true, false, List, length, Option, Some, sym, subst, refl, le_refl, le_trans, inr, arith}
use Rattle.std.specs.Prelude.{slice_get, if◌then◌else◌, None as Absent}
use Rattle.wy_kernel.specs.Program.{Program}
use Rattle.wy_value.specs.declared.value.Value.{Value}
use Rattle.wy_value.specs.declared.value.Value.TheVariants as val
use Rattle.wy_event.specs.declared.record.Kind.{Kind}
use Rattle.wy_event.specs.declared.record.Kind.TheVariants as kind
use Rattle.wy_event.specs.declared.record.Slot.{Slot}
use Rattle.wy_event.specs.declared.record.Slot.TheVariants as slot
use Rattle.wy_event.specs.Record.{Recorded, same_slot}
use Rattle.wy_steps.specs.Sets.{Sets}
use Rattle.wy_steps.specs.State.{Carried, Held, State, Stop, InitFailed, Reason, Jumped, Returned, Threw, Outcome, Done, Left, Stopped}
use Rattle.wy_kernel.specs.Limits.{depth_limit}
use Rattle.wy_steps.specs.Steps.{Made, Draft, constant, with_value, joined, value_of, chosen, code_of, next_event, made, with_event, held_by, with_stored, with_created, with_active, without, covering, begun, ended, left_by, event_of, stop_cause, no_value}
use Rattle.wy_meaning.specs.World.{plain, about, into, spelling}
use Rattle.wy_meaning.specs.Run.{world, main_run, end}
use Rattle.law_induction.specs.Law.{Moments, nothing, both, Region, Outside, In, Ends, IsPlain, IsNoted, a_throw, a_print, a_return, a_test, a_read, a_jump, a_text, a_call, IsWrite, a_set, a_bind, a_catch, IsCreated, an_object, an_array, an_init}
use Rattle.law_induction.specs.Law as laws
use Rattle.law_induction.specs.Uniform.{IsNoReference, Uniform}
use Rattle.law_induction.specs.Uniform as uniform
use Rattle.law_induction.specs.Law.{Fact as Known}
use Rattle.law_induction.specs.States.{Room, StateLaw}
use Rattle.law_induction.proofs.States.{law_of, steps_of}
use Rattle.law_induction.proofs.Loops.{counted}
use Rattle.law_induction.proofs.Theorem.{runs_keep}
use Rattle.law_induction.proofs.States.{Given as StateGiven}
use Rattle.law_shaped.specs.Shaped.{IsControl, IsValued, IsFrame, IsNew, IsText, IsTest, IsThrow, IsLeaving, Below, ValueFits, SlotFits, IsPlace, ValueOf}
use Rattle.law_shaped.proofs.Fits.{Below_up, ValueFits_up, SlotFits_up, UsesFit_up, UsesFit-append, Balanced, balanced_same, balanced_trans, balanced_closed, balanced_left, cover_begun, cover_ended, cover_left, IsFront, Fits, held_value, no_value_fits, HeldFits, ActiveFit_up, active_outlasting, InFrame, InFrame_up, Inv, DraftShaped, event_shaped, inv_noted, inv_stored, inv_created, inv_covering, StopFits, stop_cause_fits, throw_leaves}

-- the induction's words for kinds of events and values
control : (k : Kind) → laws.IsControl k → IsControl k
control kind.Init h = tt
control kind.Call h = tt
control kind.Test h = tt
control kind.Catch h = tt
control _ h = absurd h

valued : (k : Kind) → uniform.IsValued k → IsValued k
valued kind.New h = tt
valued kind.Set h = tt
valued kind.Test h = tt
valued kind.Text h = tt
valued kind.Read h = tt
valued kind.Return h = tt
valued kind.Throw h = tt
valued _ h = absurd h

-- in a body
abbrev pub framed : Region → Bool
framed Outside = false
framed (In i) = true
framed (Ends i) = true

-- what is known once there are n events, and from then on
abbrev pub counted_moments : Moments
counted_moments = record { moment = ℕ; later = λ m n. m ≤ n }

abbrev pub Fact : Type 1
Fact = Known counted_moments

module _ (A : Sets) (records : List Recorded) where
  abbrev pub fits : Carried A → Fact
  fits v = record { holds = λ n. Fits A records v n; up = λ m n le h. record { value = ValueFits_up records m n v.value le h.value; uses = UsesFit_up records m n v.uses le h.uses } }

  -- a number is that of an event of such a kind
  abbrev pub at : (Kind → Type 0) → ℕ → Fact
  at K k = record { holds = λ n. Below records K n k; up = λ m n le h. Below_up records K m n k le h }

  -- a place that may be read and written
  abbrev place_fact : Slot → Fact
  place_fact x = record { holds = λ n. IsPlace x × SlotFits records n x; up = λ m n le h. (h.0, SlotFits_up records m n x le h.1) }

  -- an event that was recorded, of a kind
  pub record MadeFits (k : Kind) (e : Made A) (n : ℕ) : Type 0 where
    pub before : e.number < n
    pub event : Recorded
    pub there : slice_get records e.number ≡ Some event
    pub kind : event.kind ≡ k

  pub MadeFits_up : (k : Kind) (e : Made A) (m n : ℕ) → m ≤ n → MadeFits k e m → MadeFits k e n
  MadeFits_up k e m n le h = record { before = le_trans h.before le; event = h.event; there = h.there; kind = h.kind }

  pub made_at : (K : Kind → Type 0) (k : Kind) (e : Made A) → K k → (n : ℕ) → MadeFits k e n → Below records K n e.number
  made_at K k e h n f = record { before = f.before; event = f.event; there = f.there; kind = subst K (sym f.kind) h }

  no_reference : (n : ℕ) (v : Value) → IsNoReference v → ValueFits records n v
  no_reference n (val.Object k) h = absurd h
  no_reference n (val.Text k) h = absurd h
  no_reference n _ h = tt

  pub plain_value : (v : Value) → IsNoReference v → (n : ℕ) → ValueFits records n v
  plain_value v h n = no_reference n v h

  pub object_value : (e : Made A) (n : ℕ) → MadeFits kind.New e n → ValueFits records n (val.Object e.number)
  object_value e n f = record { before = f.before; event = f.event; there = f.there; kind = subst IsNew (sym f.kind) tt }

  pub text_value : (e : Made A) (n : ℕ) → MadeFits kind.Text e n → ValueFits records n (val.Text e.number)
  text_value e n f = record { before = f.before; event = f.event; there = f.there; kind = subst IsText (sym f.kind) tt }

  pub framed_below : (n : ℕ) (o : Option ℕ) → InFrame A records true n o → Below records IsFrame n (code_of o)
  unfolding code_of
  framed_below n Absent h = absurd h
  framed_below n (Some f) h = h

  -- ---- carried values

  pub constant_fits : (v : Value) (n : ℕ) → ValueFits records n v → Fits A records (constant v) n
  unfolding constant
  constant_fits v n h = record { value = h; uses = tt }

  pub with_value_fits : (v : Value) (c : Carried A) (n : ℕ) → ValueFits records n v → Fits A records c n → Fits A records (with_value v c) n
  unfolding with_value
  with_value_fits v c n h f = record { value = h; uses = f.uses }

  pub joined_fits : (v : Value) (x y : Carried A) (n : ℕ) → ValueFits records n v → Fits A records x n → Fits A records y n → Fits A records (joined v x y) n
  unfolding joined
  joined_fits v x y n h f g = record { value = h; uses = UsesFit-append records n x.uses y.uses f.uses g.uses }

  pub value_of_fits : (k : Kind) (e : Made A) (v : Value) → uniform.IsValued k → (n : ℕ) → MadeFits k e n → ValueFits records n v → Fits A records (value_of e v) n
  unfolding value_of
  value_of_fits k e v t n g f = record { value = f; uses = (record { before = g.before; event = g.event; there = g.there; kind = subst IsValued (sym g.kind) (valued k t) }, tt) }

  pub chosen_fits : (e : Made A) (c : Carried A) (n : ℕ) → MadeFits kind.Test e n → Fits A records c n → Fits A records (chosen e c) n
  unfolding chosen
  chosen_fits e c n g f = record { value = f.value; uses = (record { before = g.before; event = g.event; there = g.there; kind = subst IsTest (sym g.kind) tt }, f.uses) }

  noted_shaped : (d : Draft) (c : Carried A) → IsNoted d c → DraftShaped A records d c.uses
  unfolding plain about spelling constant
  noted_shaped d c (a_throw site v b) = record { entity = tt; slot = tt; value = tt; units = tt; uses = tt }
  noted_shaped d c (a_print site v b) = record { entity = tt; slot = tt; value = tt; units = tt; uses = tt }
  noted_shaped d c (a_return site v b) = record { entity = tt; slot = tt; value = tt; units = tt; uses = tt }
  noted_shaped d c (a_test site v b) = record { entity = tt; slot = tt; value = tt; units = tt; uses = tt }
  noted_shaped d c (a_read site v h) = record { entity = tt; slot = tt; value = int site v h; units = tt; uses = tt }
    where
      int : (site : ℕ) (v : Value) → laws.IsInt v → ValueOf kind.Read v
      int site (val.Int z) h = tt
      int site _ h = absurd h
  noted_shaped d c (a_jump site) = record { entity = tt; slot = tt; value = tt; units = tt; uses = tt }
  noted_shaped d c (a_text site units b) = record { entity = tt; slot = tt; value = tt; units = tt; uses = tt }
  noted_shaped d c (a_call site m b) = record { entity = tt; slot = tt; value = tt; units = tt; uses = tt }

  created_shaped : (d : Draft) (c : Carried A) → IsCreated d c → DraftShaped A records d c.uses
  unfolding about constant
  created_shaped d c (an_object site code b) = record { entity = tt; slot = tt; value = tt; units = tt; uses = tt }
  created_shaped d c (an_array site code n b) = record { entity = tt; slot = tt; value = tt; units = tt; uses = tt }
  created_shaped d c (an_init site class) = record { entity = tt; slot = tt; value = tt; units = tt; uses = tt }

  written_shaped : (d : Draft) (c : Carried A) → IsWrite d c → IsPlace d.slot → DraftShaped A records d c.uses
  unfolding into
  written_shaped d c (a_set site x v b) h = record { entity = tt; slot = h; value = tt; units = tt; uses = tt }
  written_shaped d c (a_bind site f i v b) h = record { entity = tt; slot = tt; value = tt; units = tt; uses = tt }
  written_shaped d c (a_catch site f i v b) h = record { entity = tt; slot = tt; value = tt; units = tt; uses = tt }

  noted_nowhere : (d : Draft) (c : Carried A) → IsNoted d c → (n : ℕ) → SlotFits records n d.slot
  unfolding plain about spelling
  noted_nowhere d c (a_throw site v b) n = tt
  noted_nowhere d c (a_print site v b) n = tt
  noted_nowhere d c (a_return site v b) n = tt
  noted_nowhere d c (a_test site v b) n = tt
  noted_nowhere d c (a_read site v h) n = tt
  noted_nowhere d c (a_jump site) n = tt
  noted_nowhere d c (a_text site units b) n = tt
  noted_nowhere d c (a_call site m b) n = tt

  created_nowhere : (d : Draft) (c : Carried A) → IsCreated d c → (n : ℕ) → SlotFits records n d.slot
  unfolding about
  created_nowhere d c (an_object site code b) n = tt
  created_nowhere d c (an_array site code k b) n = tt
  created_nowhere d c (an_init site class) n = tt

  recorded : (b : Bool) (d : Draft) (c : Carried A) (s : State A) → DraftShaped A records d c.uses → SlotFits records (length s.noted) d.slot → Room c s → Inv A records b s → ValueFits records (length s.noted) d.value → Fits A records c (length s.noted) → Inv A records b (with_event (next_event d c s) s)
  recorded b d c s g x room i v e = inv_noted A records b d c s (event_shaped A records b d c s g x v e i) room.events room.uses i

  stopped_plainly : (why : Stop) → IsPlain why → (n : ℕ) → StopFits A records n why
  stopped_plainly (InitFailed e) h n = absurd h
  stopped_plainly _ h n = tt

  stopped_later : (why : Stop) (m n : ℕ) → m ≤ n → StopFits A records m why → StopFits A records n why
  stopped_later (InitFailed e) m n le h = Below_up records IsThrow m n e le h
  stopped_later _ m n le h = tt

  -- what left a part of a run is a Jump, a Return or a Throw, and its value fits
  abbrev pub reason_fits : Reason A → Fact
  reason_fits (Jumped target e) = at IsLeaving e
  reason_fits (Returned e v) = both (at IsLeaving e) (fits v)
  reason_fits (Threw e v) = both (at IsThrow e) (fits v)

  reason_leaves : (n : ℕ) (why : Reason A) → (reason_fits why).holds n → Below records IsLeaving n (event_of why)
  unfolding both event_of
  reason_leaves n (Jumped target e) h = h
  reason_leaves n (Returned e v) h = h.0
  reason_leaves n (Threw e v) h = record { before = h.0.before; event = h.0.event; there = h.0.there; kind = throw_leaves A records h.0.event.kind h.0.kind }

  declared_fits : (c : Bool) (n : ℕ) (o : Option (Held A)) → HeldFits A records n o → HeldFits A records n (if c then no_value o else o)
  declared_fits true n o h = no_value_fits A records n o
  declared_fits false n o h = h

  pub law : Program → StateLaw A
  unfolding with_event next_event made with_stored held_by with_created with_active without covering
  law p = record {
    facts = record {
      program = p;
      moments = counted_moments;
      fit = fits;
      value = λ v. record { holds = λ n. ValueFits records n v; up = λ m n le h. ValueFits_up records m n v le h };
      place = place_fact;
      made = λ d e. record { holds = λ n. MadeFits d.kind e n; up = MadeFits_up d.kind e };
      body = λ i. at IsFrame;
      current = λ i f. record { holds = λ n. InFrame A records true n f; up = λ m n le h. InFrame_up A records true m n f le h };
      told = λ c b. nothing;
      read_from = λ x. fits;
      stores = λ x v. nothing;
      sees = λ k o n. Unit {0};
      reason = λ r. reason_fits;
      threw = at IsThrow;
      out = λ r i why n h. h;
    };
    now = λ s. length s.noted;
    goes = λ s t. (IsFront A records t.noted → IsFront A records s.noted) × length s.noted ≤ length t.noted × Balanced s.coverage t.coverage;
    goes_nowhere = λ s. (λ h. h, le_refl _, balanced_same _);
    goes_on = λ s t u g h. (λ f. g.0 (h.0 f), le_trans g.1 h.1, balanced_trans _ _ _ g.2 h.2);
    goes_later = λ s t g. g.1;
    part = λ s. IsFront A records s.noted;
    part_before = λ s t g f. g.0 f;
    inv = λ r s. Inv A records (framed r) s;
    inv_body = λ i s. (λ h. h, λ h. h);
    stopped = λ why n. StopFits A records n why;
    stopped_plainly = stopped_plainly;
    stopped_later = stopped_later;
    stopped_failed = λ e n h. h;
    event_seen = λ r s n i. tt;
    begun_told = λ r s c i. tt;
    frame_known = λ i s j. j.framed;
    slot_known = λ r s x i h. record { value = held_value A records (length s.noted) (s.store x) (i.store x); uses = ((h.1, le_refl _), tt) };
    goes_quietly = λ s a b c i. (λ h. h, le_refl _, balanced_same _);
    inv_quietly = λ r s a b c l i. record { store = i.store; noted = i.noted; active = i.active; framed = i.framed; coverage = i.coverage; count = i.count; used = i.used; room = i.room; written = i.written };
    goes_declared = λ s f k. (λ h. h, le_refl _, balanced_same _);
    inv_declared = λ r s f k i h. record { store = λ y. declared_fits (same_slot y (slot.Local f k)) (length s.noted) (s.store y) (i.store y); noted = i.noted; active = i.active; framed = i.framed; coverage = i.coverage; count = i.count; used = i.used; room = i.room; written = i.written };
    goes_recorded = λ s d c. (λ h. h.1, omega arith, balanced_same _);
    inv_recorded = λ r s d c g room h i v e. recorded (framed r) d c s (noted_shaped d c g) (noted_nowhere d c g _) room i v e;
    made_recorded = λ s d c h e. record { before = omega arith; event = _; there = h.0; kind = refl };
    goes_stored = λ t x h. (λ f. f, le_refl _, balanced_same _);
    inv_stored = λ r s d c g room h i x y v e. inv_stored A records (framed r) d.slot (held_by d.value (next_event d c s)) (with_event (next_event d c s) s) (ValueFits_up records (length s.noted) (suc (length s.noted)) d.value (omega arith) v) (recorded (framed r) d c s (written_shaped d c g x.0) x.1 room i v e);
    goes_created = λ s d c. (λ f. f, le_refl _, balanced_same _);
    inv_created = λ r s d c g room h i v e. inv_created A records (framed r) p (length s.noted) (next_event d c s) (with_event (next_event d c s) s) (recorded (framed r) d c s (created_shaped d c g) (created_nowhere d c g _) room i v e);
    goes_printed = λ t bytes. (λ f. f, le_refl _, balanced_same _);
    inv_printed = λ r t bytes h j. record { store = j.store; noted = j.noted; active = j.active; framed = j.framed; coverage = j.coverage; count = j.count; used = j.used; room = j.room; written = h };
    goes_active = λ t entries. (λ f. f, le_refl _, balanced_same _);
    inv_entered = λ r reach s t d c k a b i j g. record { store = j.store; noted = j.noted; active = (record { before = g.before; event = g.event; there = g.there; kind = subst IsControl (sym g.kind) (control d.kind k) }, j.active); framed = j.framed; coverage = j.coverage; count = j.count; used = j.used; room = j.room; written = j.written };
    inv_again = λ r s t g i j. record { store = j.store; noted = j.noted; active = ActiveFit_up A records _ _ s.active g.1 i.active; framed = j.framed; coverage = j.coverage; count = j.count; used = j.used; room = j.room; written = j.written };
    inv_without = λ r f n t j. record { store = j.store; noted = j.noted; active = active_outlasting A records f n _ t.active j.active; framed = j.framed; coverage = j.coverage; count = j.count; used = j.used; room = j.room; written = j.written };
    goes_framed = λ t f. (λ h. h, le_refl _, balanced_same _);
    inv_within = λ r i n s j h. record { store = j.store; noted = j.noted; active = j.active; framed = h; coverage = j.coverage; count = j.count; used = j.used; room = j.room; written = j.written };
    inv_outside = λ r i n s t g j k. record { store = k.store; noted = k.noted; active = k.active; framed = InFrame_up A records (framed r) (length s.noted) (length t.noted) s.frame g.1 j.framed; coverage = k.coverage; count = k.count; used = k.used; room = k.room; written = k.written };
    goes_ended = λ s t k g. (g.0, g.1, balanced_closed k (length s.noted) s.coverage t.coverage g.2);
    goes_left = λ s t k e g. (g.0, g.1, balanced_left k (length s.noted) e s.coverage t.coverage g.2);
    inv_begun = λ r s k i. inv_covering A records (framed r) k (begun (length s.noted)) s (λ c. cover_begun records _ c) i;
    inv_ended = λ r t k j. inv_covering A records (framed r) k ended t (λ c. cover_ended records _ c) j;
    inv_left = λ r t k why h j. inv_covering A records (framed r) k (left_by (event_of why)) t (λ c. cover_left records _ _ c (inr (inr (reason_leaves _ why h)))) j;
    inv_stopped = λ r t k why h j. inv_covering A records (framed r) k (left_by (stop_cause why)) t (λ c. cover_left records _ _ c (stop_cause_fits A records _ why h)) j;
    now_covered = λ t k f. le_refl _;
    part_covered = λ t k f h. h;
  }

  unfoldable whole : Program → Uniform A
  unfolding law law_of counted steps_of both
  whole p = record {
    law = law_of A (law p);
    made_as = λ k e. record { holds = λ n. MadeFits k e n; up = MadeFits_up k e };
    object = at IsNew;
    left = at IsLeaving;
    jump_reason = λ r target e n h. h;
    return_reason = λ r e v n h k. (h, k);
    throw_reason = λ r e v n h k. (h, k);
    of_jump = λ r target e n h. h;
    of_return = λ r e v n h. h;
    of_throw = λ r e v n h. h;
    storable = λ x v n h k. tt;
    plain_value = plain_value;
    carried_value = λ c n h. h.value;
    object_value = object_value;
    text_value = text_value;
    object_at = λ k n h. h;
    constant_fits = constant_fits;
    with_value_fits = with_value_fits;
    joined_fits = joined_fits;
    value_of_fits = value_of_fits;
    chosen_fits = chosen_fits;
    read_fits = λ x v n h. h;
    made_is = λ d e n h. h;
    throw_made = λ e. made_at IsThrow kind.Throw e tt;
    jump_made = λ e. made_at IsLeaving kind.Jump e tt;
    return_made = λ e. made_at IsLeaving kind.Return e tt;
    call_made = λ m e. made_at IsFrame kind.Call e tt;
    init_made = λ c e. made_at IsFrame kind.Init e tt;
    static_place = λ f n. (tt, tt);
    local_place = λ i f k n h. (tt, h);
    current_place = λ i o k n h. (tt, framed_below n o h);
    field_place = λ o f n h. (tt, h);
    element_place = λ a k n h. (tt, h);
  }

  -- what is known of what was given back
  abbrev pub Given : Outcome A (Carried A) → Type 0
  Given (Done x s) = (fits x).holds (length s.noted)
  Given (Left why s) = (reason_fits why).holds (length s.noted)
  Given (Stopped why s) = StopFits A records (length s.noted) why

  unfoldable GivenByLaw : Program → Outcome A (Carried A) → Type 0
  unfolding law
  GivenByLaw p o = StateGiven A (law p) Outside fits o

  given : (p : Program) (o : Outcome A (Carried A)) → GivenByLaw p o → Given o
  unfolding law GivenByLaw
  given p (Done x s) h = h
  given p (Left why s) h = h
  given p (Stopped why s) h = h

  -- from a state that fits, with the records of which its end has the first
  pub run_shaped : (p : Program) (s : State A) → IsFront A records (end (main_run (world p depth_limit) s)).noted → Inv A records false s → Inv A records false (end (main_run (world p depth_limit) s)) × Given (main_run (world p depth_limit) s)
  unfolding law law_of counted steps_of whole GivenByLaw
  run_shaped p s front i = let h = ((runs_keep A (whole p) nothing).by s).kept front i tt in (h.0, given p _ h.1)

  pub run_balanced : (p : Program) (s : State A) → Balanced s.coverage (end (main_run (world p depth_limit) s)).coverage
  unfolding law law_of counted steps_of whole
  run_balanced p s = ((runs_keep A (whole p) nothing).by s).goes.2
