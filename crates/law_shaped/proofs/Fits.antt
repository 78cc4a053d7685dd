-- What holds of the state of a run, given the records of the whole run.
use Rattle.std.proofs.Common.{ap, ◌+◌, nat_eq, ◌≡◌, ℕ, zero, suc, Bool, true, false, ◌≤◌, List, [], ◌∷◌, ◌++◌, length, Option, Some, inl, inr, refl, le_refl, le_trans, arith}
use Rattle.std.specs.Prelude.{None as Absent}
use Rattle.std.specs.Prelude.{slice_get, if◌then◌else◌}
use Rattle.wy_kernel.specs.declared.operator.Primitive.{Primitive}
use Rattle.wy_kernel.specs.declared.operator.Primitive.TheVariants as prim
use Rattle.wy_kernel.specs.declared.types.Base.TheVariants.{Primitive as Basic, Class as Named}
use Rattle.wy_kernel.specs.declared.types.Ty.{Ty}
use Rattle.wy_kernel.specs.declared.types.Ty.TheVariants.{Void, Null as OfNull, Of}
use Rattle.wy_kernel.specs.Program.{Program, field, element_type, type_of_code}
use Rattle.wy_value.specs.declared.value.Value.{Value}
use Rattle.wy_value.specs.declared.value.Value.TheVariants as val
use Rattle.wy_event.specs.declared.record.Kind.{Kind}
use Rattle.wy_event.specs.declared.record.Kind.TheVariants as kind
use Rattle.wy_event.specs.declared.record.Slot.{Slot}
use Rattle.wy_event.specs.declared.record.Slot.TheVariants as slot
use Rattle.wy_event.specs.declared.record.Use.{Use}
use Rattle.wy_event.specs.declared.record.Use.TheVariants as use_of
use Rattle.wy_event.specs.Record.{Recorded, same_slot}
use Rattle.wy_event.specs.Sources.{creates}
use Rattle.wy_steps.specs.Sets.{Sets}
use Rattle.wy_steps.specs.State.{Carried, Held, Store, Noted, Active, Covered, State, Stop, InitFailed}
use Rattle.wy_kernel.specs.Limits.{output_limit, event_limit, use_limit}
use Rattle.wy_steps.specs.Steps.{Draft, parent, next_event, with_event, held_by, slot_with, with_stored, default_primitive, default_value, default_in, owner_in, if_empty, with_created, code_of, no_value, held_of, outlasting, ends_with, never_left, first_moment, begun, ended, left_by, covering, cover_with, stop_cause}
use Rattle.law_shaped.specs.Shaped.{IsFrame, IsControl, IsValued, IsLeaving, IsNew, IsText, IsTest, IsThrow, Below, OptionBelow, ValueFits, SlotFits, UseFits, UsesFit, EntityOf, SlotOf, ValueOf, UnitsOf, UsesOf, Shaped, FirstFits, CauseFits, CoverFits}

-- from the one to the other no statement ended more often than it began
pub record Balanced (c d : ℕ → Covered) : Type 0 where
  pub at : (k : ℕ) → (d k).ends + (c k).begins ≤ (d k).begins + (c k).ends

pub balanced_same : (c : ℕ → Covered) → Balanced c c
balanced_same c = record { at = λ k. omega arith }

pub balanced_trans : (c d e : ℕ → Covered) → Balanced c d → Balanced d e → Balanced c e
balanced_trans c d e h g = record { at = λ k. let x = h.at k in let y = g.at k in omega (arith, x, y) }

-- a statement that began and then ended
pub balanced_closed : (n m : ℕ) (c d : ℕ → Covered) → Balanced (cover_with n (begun m) c) d → Balanced c (cover_with n ended d)
unfolding cover_with begun ended
balanced_closed n m c d h = record { at = λ k. go k (nat_eq k n) (h.at k) }
  where
    go : (k : ℕ) (x : Bool) → (d k).ends + (if x then begun m (c k) else c k).begins ≤ (d k).begins + (if x then begun m (c k) else c k).ends → (if x then ended (d k) else d k).ends + (c k).begins ≤ (if x then ended (d k) else d k).begins + (c k).ends
    go k true g = omega (arith, g)
    go k false g = g

-- a statement that began and was left
pub balanced_left : (n m e : ℕ) (c d : ℕ → Covered) → Balanced (cover_with n (begun m) c) d → Balanced c (cover_with n (left_by e) d)
unfolding cover_with begun left_by
balanced_left n m e c d h = record { at = λ k. go k (nat_eq k n) (h.at k) }
  where
    go : (k : ℕ) (x : Bool) → (d k).ends + (if x then begun m (c k) else c k).begins ≤ (d k).begins + (if x then begun m (c k) else c k).ends → (if x then left_by e (d k) else d k).ends + (c k).begins ≤ (if x then left_by e (d k) else d k).begins + (c k).ends
    go k true g = omega (arith, g)
    go k false g = g

module _ (records : List Recorded) where
  pub Below_up : (K : Kind → Type 0) (m n k : ℕ) → m ≤ n → Below records K m k → Below records K n k
  Below_up K m n k le h = record { before = le_trans h.before le; event = h.event; there = h.there; kind = h.kind }

  pub OptionBelow_up : (K : Kind → Type 0) (m n : ℕ) (o : Option ℕ) → m ≤ n → OptionBelow records K m o → OptionBelow records K n o
  OptionBelow_up K m n Absent le h = tt
  OptionBelow_up K m n (Some k) le h = Below_up K m n k le h

  pub ValueFits_up : (m n : ℕ) (v : Value) → m ≤ n → ValueFits records m v → ValueFits records n v
  ValueFits_up m n (val.Object k) le h = Below_up IsNew m n k le h
  ValueFits_up m n (val.Text k) le h = Below_up IsText m n k le h
  ValueFits_up m n _ le h = tt

  pub SlotFits_up : (m n : ℕ) (x : Slot) → m ≤ n → SlotFits records m x → SlotFits records n x
  SlotFits_up m n (slot.Local f i) le h = Below_up IsFrame m n f le h
  SlotFits_up m n (slot.Field o f) le h = Below_up IsNew m n o le h
  SlotFits_up m n (slot.Elem a i) le h = Below_up IsNew m n a le h
  SlotFits_up m n _ le h = tt

  UseFits_up : (m n : ℕ) (u : Use) → m ≤ n → UseFits records m u → UseFits records n u
  UseFits_up m n (use_of.Place x moment) le h = (SlotFits_up m n x le h.0, le_trans h.1 le)
  UseFits_up m n (use_of.Value k) le h = Below_up IsValued m n k le h
  UseFits_up m n (use_of.Choice k) le h = Below_up IsTest m n k le h

  pub UsesFit_up : (m n : ℕ) (us : List Use) → m ≤ n → UsesFit records m us → UsesFit records n us
  UsesFit_up m n [] le h = tt
  UsesFit_up m n (u ∷ us) le h = (UseFits_up m n u le h.0, UsesFit_up m n us le h.1)

  pub UsesFit-append : (n : ℕ) (us ws : List Use) → UsesFit records n us → UsesFit records n ws → UsesFit records n (us ++ ws)
  UsesFit-append n [] ws h k = k
  UsesFit-append n (u ∷ us) ws h k = (h.0, UsesFit-append n us ws h.1 k)

  FirstFits_up : (m n : ℕ) (begins : ℕ) (o : Option ℕ) → m ≤ n → FirstFits m begins o → FirstFits n begins o
  FirstFits_up m n zero Absent le h = tt
  FirstFits_up m n zero (Some k) le h = absurd h
  FirstFits_up m n (suc b) Absent le h = absurd h
  FirstFits_up m n (suc b) (Some k) le h = le_trans h le

  CauseFits_up : (m n cause : ℕ) → m ≤ n → CauseFits records m cause → CauseFits records n cause
  CauseFits_up m n cause le (inl h) = inl h
  CauseFits_up m n cause le (inr (inl h)) = inr (inl h)
  CauseFits_up m n cause le (inr (inr h)) = inr (inr (Below_up IsLeaving m n cause le h))

  pub CoverFits_up : (m n : ℕ) (c : Covered) → m ≤ n → CoverFits records m c → CoverFits records n c
  CoverFits_up m n c le h = record { first = FirstFits_up m n c.begins c.first le h.first; cause = CauseFits_up m n c.cause le h.cause }

  -- ---- coverage

  pub cover_start : (n : ℕ) → CoverFits records n (record { begins = 0; ends = 0; first = Absent; cause = never_left })
  cover_start n = record { first = tt; cause = inl refl }

  first_begun : (n begins : ℕ) (o : Option ℕ) → FirstFits n begins o → FirstFits n (suc begins) (first_moment o n)
  unfolding first_moment
  first_begun n b Absent h = le_refl n
  first_begun n zero (Some k) h = absurd h
  first_begun n (suc b) (Some k) h = h

  pub cover_begun : (n : ℕ) (c : Covered) → CoverFits records n c → CoverFits records n (begun n c)
  unfolding begun
  cover_begun n c h = record { first = first_begun n c.begins c.first h.first; cause = h.cause }

  pub cover_ended : (n : ℕ) (c : Covered) → CoverFits records n c → CoverFits records n (ended c)
  unfolding ended
  cover_ended n c h = record { first = h.first; cause = h.cause }

  pub cover_left : (n e : ℕ) (c : Covered) → CauseFits records n e → CoverFits records n c → CoverFits records n (left_by e c)
  unfolding left_by
  cover_left n e c k h = record { first = h.first; cause = k }

  pub AllCovered : ℕ → (ℕ → Covered) → Type 0
  AllCovered n f = (k : ℕ) → CoverFits records n (f k)

module _ (A : Sets) (records : List Recorded) where
  -- the events so far, the newest first, are the first of the records
  abbrev pub IsFront : List (Noted A) → Type 0
  IsFront [] = Unit {0}
  IsFront (e ∷ rest) = (slice_get records (length rest) ≡ Some e.event) × IsFront rest

  -- a carried value, once there are n events
  pub record Fits (v : Carried A) (n : ℕ) : Type 0 where
    pub value : ValueFits records n v.value
    pub uses : UsesFit records n v.uses

  abbrev pub HeldFits : ℕ → Option (Held A) → Type 0
  HeldFits n Absent = Unit {0}
  HeldFits n (Some h) = ValueFits records n h.value

  pub HeldFits_up : (m n : ℕ) (o : Option (Held A)) → m ≤ n → HeldFits m o → HeldFits n o
  HeldFits_up m n Absent le h = tt
  HeldFits_up m n (Some x) le h = ValueFits_up records m n x.value le h

  pub held_value : (n : ℕ) (o : Option (Held A)) → HeldFits n o → ValueFits records n (held_of o).value
  unfolding held_of
  held_value n Absent h = tt
  held_value n (Some x) h = h

  pub no_value_fits : (n : ℕ) (o : Option (Held A)) → HeldFits n (no_value o)
  unfolding no_value
  no_value_fits n Absent = tt
  no_value_fits n (Some x) = tt

  abbrev pub StoreFits : ℕ → Store A → Type 0
  StoreFits n store = (x : Slot) → HeldFits n (store x)

  abbrev pub NotedFit : List (Noted A) → Type 0
  NotedFit [] = Unit {0}
  NotedFit (e ∷ rest) = Shaped records (length rest) e.event × NotedFit rest

  abbrev pub ActiveFit : ℕ → List (Active A) → Type 0
  ActiveFit n [] = Unit {0}
  ActiveFit n (a ∷ rest) = Below records IsControl n a.number × ActiveFit n rest

  pub ActiveFit_up : (m n : ℕ) (entries : List (Active A)) → m ≤ n → ActiveFit m entries → ActiveFit n entries
  ActiveFit_up m n [] le h = tt
  ActiveFit_up m n (a ∷ rest) le h = (Below_up records IsControl m n a.number le h.0, ActiveFit_up m n rest le h.1)

  pub parent_fits : (n : ℕ) (entries : List (Active A)) → ActiveFit n entries → OptionBelow records IsControl n (parent entries)
  unfolding parent
  parent_fits n [] h = tt
  parent_fits n (a ∷ rest) h = h.0

  pub active_outlasting : (f : Option ℕ) (k n : ℕ) (entries : List (Active A)) → ActiveFit n entries → ActiveFit n (outlasting f k entries)
  unfolding outlasting
  active_outlasting f k n [] h = tt
  active_outlasting f k n (a ∷ rest) h = go (ends_with f k a.reach) (active_outlasting f k n rest h.1)
    where
      go : (c : Bool) → ActiveFit n (outlasting f k rest) → ActiveFit n (if c then outlasting f k rest else a ∷ outlasting f k rest)
      go true r = r
      go false r = (h.0, r)

  -- the running body; there is one, where that is said
  abbrev pub InFrame : Bool → ℕ → Option ℕ → Type 0
  InFrame true n Absent = ⊥
  InFrame false n Absent = Unit {0}
  InFrame b n (Some f) = Below records IsFrame n f

  pub InFrame_up : (b : Bool) (m n : ℕ) (o : Option ℕ) → m ≤ n → InFrame b m o → InFrame b n o
  InFrame_up true m n Absent le h = absurd h
  InFrame_up false m n Absent le h = tt
  InFrame_up true m n (Some f) le h = Below_up records IsFrame m n f le h
  InFrame_up false m n (Some f) le h = Below_up records IsFrame m n f le h

  frame_fits : (b : Bool) (n : ℕ) (o : Option ℕ) → InFrame b n o → OptionBelow records IsFrame n o
  frame_fits true n Absent h = absurd h
  frame_fits false n Absent h = tt
  frame_fits true n (Some f) h = h
  frame_fits false n (Some f) h = h

  -- the uses of all events so far
  abbrev pub used_by : List (Noted A) → ℕ
  used_by [] = 0
  used_by (e ∷ rest) = used_by rest + length e.event.uses

  pub record Inv (b : Bool) (s : State A) : Type 0 where
    pub store : StoreFits (length s.noted) s.store
    pub noted : NotedFit s.noted
    pub active : ActiveFit (length s.noted) s.active
    pub framed : InFrame b (length s.noted) s.frame
    pub coverage : (k : ℕ) → CoverFits records (length s.noted) (s.coverage k)
    pub count : length s.noted ≤ event_limit
    pub used : s.uses ≡ used_by s.noted
    pub room : s.uses ≤ use_limit
    pub written : length s.output ≤ output_limit

  -- ---- the next event

  -- what a draft has for its kind
  pub record DraftShaped (d : Draft) (us : List Use) : Type 0 where
    pub entity : EntityOf d.kind d.entity
    pub slot : SlotOf d.kind d.slot
    pub value : ValueOf d.kind d.value
    pub units : UnitsOf d.kind d.units
    pub uses : UsesOf d.kind us

  pub event_shaped : (b : Bool) (d : Draft) (c : Carried A) (s : State A) → DraftShaped d c.uses → SlotFits records (length s.noted) d.slot → ValueFits records (length s.noted) d.value → Fits c (length s.noted) → Inv b s → Shaped records (length s.noted) (next_event d c s).event
  unfolding next_event
  event_shaped b d c s shaped slot_fits value_fits fits inv = record {
    frame = frame_fits b (length s.noted) s.frame inv.framed;
    control = parent_fits (length s.noted) s.active inv.active;
    slot = slot_fits;
    value = value_fits;
    uses = fits.uses;
    entity_of_kind = shaped.entity;
    slot_of_kind = shaped.slot;
    value_of_kind = shaped.value;
    units_of_kind = shaped.units;
    uses_of_kind = shaped.uses;
  }

  pub inv_noted : (b : Bool) (d : Draft) (c : Carried A) (s : State A) → Shaped records (length s.noted) (next_event d c s).event → suc (length s.noted) ≤ event_limit → s.uses + length c.uses ≤ use_limit → Inv b s → Inv b (with_event (next_event d c s) s)
  unfolding with_event next_event
  inv_noted b d c s shaped count room inv =
      let le : length s.noted ≤ suc (length s.noted) = omega arith in
      record {
        store = λ x. HeldFits_up (length s.noted) (suc (length s.noted)) (s.store x) le (inv.store x);
        noted = (shaped, inv.noted);
        active = ActiveFit_up (length s.noted) (suc (length s.noted)) s.active le inv.active;
        framed = InFrame_up b (length s.noted) (suc (length s.noted)) s.frame le inv.framed;
        coverage = λ k. CoverFits_up records (length s.noted) (suc (length s.noted)) (s.coverage k) le (inv.coverage k);
        count = count;
        used = ap (λ n. n + length c.uses) inv.used;
        room = room;
        written = inv.written;
      }

  either_fits : (c : Bool) (n : ℕ) (x y : Option (Held A)) → HeldFits n x → HeldFits n y → HeldFits n (if c then x else y)
  either_fits true n x y hx hy = hx
  either_fits false n x y hx hy = hy

  pub inv_stored : (b : Bool) (x : Slot) (h : Held A) (s : State A) → ValueFits records (length s.noted) h.value → Inv b s → Inv b (with_stored x h s)
  unfolding with_stored slot_with
  inv_stored b x h s fits inv = record {
    store = λ y. either_fits (same_slot y x) (length s.noted) (Some h) (s.store y) fits (inv.store y);
    noted = inv.noted;
    active = inv.active;
    framed = inv.framed;
    coverage = inv.coverage;
    count = inv.count;
    used = inv.used;
    room = inv.room;
    written = inv.written;
  }

  default_primitive_fits : (n : ℕ) (q : Primitive) → ValueFits records n (default_primitive q)
  unfolding default_primitive
  default_primitive_fits n prim.Bool = tt
  default_primitive_fits n prim.Byte = tt
  default_primitive_fits n prim.Short = tt
  default_primitive_fits n prim.Char = tt
  default_primitive_fits n prim.Int = tt
  default_primitive_fits n prim.Long = tt

  default_fits : (n : ℕ) (ty : Ty) → ValueFits records n (default_value ty)
  unfolding default_value
  default_fits n Void = tt
  default_fits n OfNull = tt
  default_fits n (Of (Basic q) zero) = default_primitive_fits n q
  default_fits n (Of (Basic q) (suc k)) = tt
  default_fits n (Of (Named c) k) = tt

  default_in_fits : (p : Program) (n : ℕ) (e : Recorded) (x : Slot) → ValueFits records n (default_in p e x)
  unfolding default_in
  default_in_fits p n e (slot.Static f) = default_fits n (field p f).ty
  default_in_fits p n e (slot.Field object f) = default_fits n (field p f).ty
  default_in_fits p n e (slot.Elem array i) = default_fits n (element_type (type_of_code (code_of e.entity)))
  default_in_fits p n e slot.None = tt
  default_in_fits p n e (slot.Local f i) = tt

  created_fits : (n : ℕ) (old new : Option (Held A)) → HeldFits n old → HeldFits n new → HeldFits n (if_empty old new)
  unfolding if_empty
  created_fits n Absent new ho hn = hn
  created_fits n (Some h) new ho hn = ho

  pub inv_created : (b : Bool) (p : Program) (n : ℕ) (e : Noted A) (s : State A) → Inv b s → Inv b (with_created p n e s)
  unfolding with_created held_by
  inv_created b p n e s inv = record {
    store = λ y. created_fits (length s.noted) (s.store y) _ (inv.store y) (either_fits (creates (owner_in p) n y e.event) (length s.noted) (Some (record { value = default_in p e.event y; from_data = e.from_data; from_all = e.from_all })) Absent (default_in_fits p (length s.noted) e.event y) tt);
    noted = inv.noted;
    active = inv.active;
    framed = inv.framed;
    coverage = inv.coverage;
    count = inv.count;
    used = inv.used;
    room = inv.room;
    written = inv.written;
  }

  either_covered : (c : Bool) (n : ℕ) (x y : Covered) → CoverFits records n x → CoverFits records n y → CoverFits records n (if c then x else y)
  either_covered true n x y hx hy = hx
  either_covered false n x y hx hy = hy

  pub inv_covering : (b : Bool) (k : ℕ) (f : Covered → Covered) (s : State A) → ((c : Covered) → CoverFits records (length s.noted) c → CoverFits records (length s.noted) (f c)) → Inv b s → Inv b (covering k f s)
  unfolding covering cover_with
  inv_covering b k f s h inv = record {
    store = inv.store;
    noted = inv.noted;
    active = inv.active;
    framed = inv.framed;
    coverage = λ m. either_covered _ (length s.noted) (f (s.coverage m)) (s.coverage m) (h _ (inv.coverage m)) (inv.coverage m);
    count = inv.count;
    used = inv.used;
    room = inv.room;
    written = inv.written;
  }

  -- ---- ends

  abbrev pub StopFits : ℕ → Stop → Type 0
  StopFits n (InitFailed last) = Below records IsThrow n last
  StopFits n _ = Unit {0}

  pub throw_leaves : (k : Kind) → IsThrow k → IsLeaving k
  throw_leaves kind.Throw h = tt
  throw_leaves _ h = absurd h

  pub stop_cause_fits : (n : ℕ) (why : Stop) → StopFits n why → CauseFits records n (stop_cause why)
  unfolding stop_cause
  stop_cause_fits n (InitFailed last) h = inr (inr (record { before = h.before; event = h.event; there = h.there; kind = throw_leaves h.event.kind h.kind }))
  stop_cause_fits n _ h = inr (inl refl)
