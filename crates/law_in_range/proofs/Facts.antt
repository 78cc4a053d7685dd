-- What is known of the ranges of values, slots and uses, at each moment of a run from then on.
use Rattle.std.proofs.Common.{◌≡◌, ◌+◌, ◌≤◌, ◌⊎◌, inl, inr, ℕ, List, [], ◌∷◌, ◌++◌, length, Option, Some, refl, subst}
use Rattle.std.specs.List.{AllByRecursion}
use Rattle.wy_kernel.specs.Program.{Program}
use Rattle.wy_value.specs.declared.value.Value.{Value}
use Rattle.wy_value.specs.declared.value.Value.TheVariants as val
use Rattle.wy_event.specs.declared.record.Kind.{Kind}
use Rattle.wy_event.specs.declared.record.Kind.TheVariants as kind
use Rattle.wy_event.specs.declared.record.Slot.{Slot}
use Rattle.wy_event.specs.declared.record.Slot.TheVariants as slot
use Rattle.wy_event.specs.declared.record.Use.{Use}
use Rattle.wy_event.specs.declared.record.Use.TheVariants as use_of
use Rattle.wy_event.specs.Record.{Recorded}
use Rattle.wy_kernel.specs.Limits.{unit_limit}
use Rattle.wy_steps.specs.State.{Carried, Held, Store, Noted, State, Reason, Jumped, Returned, Threw}
use Rattle.wy_steps.specs.Steps.{Draft, event_in, constant, with_value, joined, value_of, chosen, Made}
use Rattle.law_induction.specs.Law.{both, Entails}
use Rattle.law_typed_states.proofs.Moments.{Later, later_one, one_of_longer}
use Rattle.law_typed_states.proofs.Rules.{Ground, A, p, Known}
use Rattle.law_in_range.specs.InRange.{Text, Events, IsObject, IsArray, SlotInRange, IsThrown, ValueInRange, FixedInRange, IsPlace, UseInRange, UsesInRange, IsSite, EntityInRange, InRange, IsByteOf, IsQuiet, written_by, made_by}

-- ---- with more events

module _ (p : Program) (at bt : Events) (le : (k : ℕ) (e : Recorded) → at k ≡ Some e → bt k ≡ Some e) where
  pub object_up : (n : ℕ) → IsObject at n → IsObject bt n
  object_up n h = record { event = h.event; there = le n h.event h.there; is_new = h.is_new; no_array = h.no_array }

  pub array_up : (n : ℕ) → IsArray at n → IsArray bt n
  array_up n h = record { event = h.event; there = le n h.event h.there; is_new = h.is_new; array = h.array }

  pub slot_up : (x : Slot) → SlotInRange p at x → SlotInRange p bt x
  slot_up slot.None h = tt
  slot_up (slot.Local f k) h = record { event = h.event; there = le f h.event h.there; body = h.body; runs = h.runs; within = h.within }
  slot_up (slot.Static k) h = h
  slot_up (slot.Field o k) h = (object_up o h.0, h.1)
  slot_up (slot.Elem a j) h = (array_up a h.0, h.1)

  use_up : (u : Use) → UseInRange p at u → UseInRange p bt u
  use_up (use_of.Place x moment) h = (h.0, slot_up x h.1)
  use_up (use_of.Value k) h = tt
  use_up (use_of.Choice k) h = tt

  pub uses_up : (us : List Use) → UsesInRange p at us → UsesInRange p bt us
  uses_up [] h = tt
  uses_up (u ∷ us) h = (use_up u h.0, uses_up us h.1)

  pub thrown_up : (v : Value) → IsThrown at v → IsThrown bt v
  thrown_up (val.Object n) h = object_up n h
  thrown_up _ h = absurd h

  pub value_up : (k : Kind) (entity : Option ℕ) (v : Value) → ValueInRange at k entity v → ValueInRange bt k entity v
  value_up kind.Throw entity v h = thrown_up v h
  value_up kind.Catch entity v h = thrown_up v h
  value_up kind.Init entity v h = h
  value_up kind.New entity v h = h
  value_up kind.Call entity v h = h
  value_up kind.Bind entity v h = h
  value_up kind.Set entity v h = h
  value_up kind.Test entity v h = h
  value_up kind.Text entity v h = h
  value_up kind.Read entity v h = h
  value_up kind.Print entity v h = h
  value_up kind.Return entity v h = h
  value_up kind.Jump entity v h = h

  pub in_range_up : (tokens : ℕ) (e : Recorded) → InRange tokens p at e → InRange tokens p bt e
  in_range_up tokens e h = record { site = h.site; entity = h.entity; slot = slot_up e.slot h.slot; value = value_up e.kind e.entity e.value h.value; fixed = h.fixed; uses = uses_up e.uses h.uses }

pub uses_append : (p : Program) (at : Events) (us ws : List Use) → UsesInRange p at us → UsesInRange p at ws → UsesInRange p at (us ++ ws)
uses_append p at [] ws h k = k
uses_append p at (u ∷ us) ws h k = (h.0, uses_append p at us ws h.1 k)

module _ (G : Ground) (W : Text) where
  abbrev pub S : Type 0
  S = State (A G)

  abbrev pub C : Type 0
  C = Carried (A G)

  abbrev pub Moment : Type 0
  Moment = List (Noted (A G))

  -- ---- facts

  -- what holds whatever there is
  abbrev pub always : Type 0 → Known G
  always B = record { holds = λ n. B; up = λ m n le h. h }

  abbrev pub Fine : Moment → C → Type 0
  Fine n c = FixedInRange (p G) c.value × UsesInRange (p G) (event_in n) c.uses

  pub fine_up : (m n : Moment) (c : C) → Later m n → Fine m c → Fine n c
  fine_up m n c le h = (h.0, uses_up (p G) (event_in m) (event_in n) le c.uses h.1)

  -- a carried value: its uses, and a text of the program
  unfoldable pub fine : C → Known G
  unfolding fine_up
  fine c = record { holds = λ n. Fine n c; up = λ m n. fine_up m n c }

  pub all_fine_up : (m n : Moment) (cs : List C) → Later m n → AllByRecursion (Fine m) cs → AllByRecursion (Fine n) cs
  all_fine_up m n [] le h = tt
  all_fine_up m n (c ∷ cs) le h = (fine_up m n c le h.0, all_fine_up m n cs le h.1)

  unfoldable pub all_fine : List C → Known G
  unfolding all_fine_up
  all_fine cs = record { holds = λ n. AllByRecursion (Fine n) cs; up = λ m n. all_fine_up m n cs }

  -- a place in range
  abbrev pub Spotted : Moment → Slot → Type 0
  Spotted n x = IsPlace x × SlotInRange (p G) (event_in n) x

  pub spotted_up : (m n : Moment) (x : Slot) → Later m n → Spotted m x → Spotted n x
  spotted_up m n x le h = (h.0, slot_up (p G) (event_in m) (event_in n) le x h.1)

  unfoldable pub spotted : Slot → Known G
  unfolding spotted_up
  spotted x = record { holds = λ n. Spotted n x; up = λ m n. spotted_up m n x }

  pub thrown_known_up : (m n : Moment) (v : Value) → Later m n → IsThrown (event_in m) v → IsThrown (event_in n) v
  thrown_known_up m n v le h = thrown_up (p G) (event_in m) (event_in n) le v h

  -- an object of a class
  unfoldable pub thrown : Value → Known G
  unfolding thrown_known_up
  thrown v = record { holds = λ n. IsThrown (event_in n) v; up = λ m n. thrown_known_up m n v }

  -- why a part of a run is left, where a jump may go to these statements
  unfoldable pub fair : (ℕ → Type 0) → Reason (A G) → Known G
  fair J (Jumped target e) = always (J target)
  fair J (Returned e v) = fine v
  fair J (Threw e v) = both (fine v) (thrown v.value)

  -- ---- drafts

  -- an event of the draft is in range, but for its uses
  pub record Drafted (n : Moment) (d : Draft) : Type 0 where
    pub site : IsSite W.tokens d.site
    pub entity : EntityInRange (p G) d.kind d.entity
    pub slot : SlotInRange (p G) (event_in n) d.slot
    pub value : ValueInRange (event_in n) d.kind d.entity d.value
    pub fixed : FixedInRange (p G) d.value
    pub quiet : IsQuiet d.kind

  pub drafted_up : (m n : Moment) (d : Draft) → Later m n → Drafted m d → Drafted n d
  drafted_up m n d le h = record {
    site = h.site;
    entity = h.entity;
    slot = slot_up (p G) (event_in m) (event_in n) le d.slot h.slot;
    value = value_up (p G) (event_in m) (event_in n) le d.kind d.entity d.value h.value;
    fixed = h.fixed;
    quiet = h.quiet;
  }

  unfoldable pub drafted : Draft → Known G
  unfolding drafted_up
  drafted d = record { holds = λ n. Drafted n d; up = λ m n. drafted_up m n d }

  -- ---- states

  -- each record is in range by those before it
  abbrev pub AllInRange : Moment → Type 0
  AllInRange [] = Unit {0}
  AllInRange (x ∷ rest) = InRange W.tokens (p G) (event_in rest) x.event × AllInRange rest

  abbrev pub StoreInRange : Store (A G) → Type 0
  StoreInRange store = (x : Slot) (h : Held (A G)) → store x ≡ Some h → FixedInRange (p G) h.value

  -- the bytes that the events wrote, of which the newest is first
  pub written_before : Moment → List ℕ
  written_before [] = []
  written_before (x ∷ rest) = written_before rest ++ written_by (p G) W.ends_line (event_in rest) x.event

  pub written_one : (x : Noted (A G)) (rest : Moment) → written_before (x ∷ rest) ≡ written_before rest ++ written_by (p G) W.ends_line (event_in rest) x.event
  unfolding written_before
  written_one x rest = refl

  pub nothing_before_is : written_before [] ≡ []
  unfolding written_before
  nothing_before_is = refl

  -- how many units the texts have that the events made
  abbrev pub made_before : Moment → ℕ
  made_before [] = 0
  made_before (x ∷ rest) = made_by x.event + made_before rest

  -- the events, and the units that the run has taken, make texts of so many units at most, and the next one of so many more
  pub record Taken (more : ℕ) (n : Moment) (units : ℕ) : Type 0 where
    pub made : made_before n + more ≤ units
    pub few : units ≤ unit_limit

  pub record Inv (s : S) : Type 0 where
    pub noted : AllInRange s.noted
    pub store : StoreInRange s.store
    pub input : AllByRecursion IsByteOf s.input
    pub output : s.output ≡ written_before s.noted
    pub texts : Taken 0 s.noted s.units

  pub found_in_range : (n : Moment) → AllInRange n → (k : ℕ) (e : Recorded) → event_in n k ≡ Some e → InRange W.tokens (p G) (event_in n) e
  unfolding event_in
  found_in_range [] h k e there = absurd (cc there)
  found_in_range (x ∷ rest) h k e there = go (found_in_range rest h.1 k e) (one_of_longer x rest k e there)
    where
      go : (event_in rest k ≡ Some e → InRange W.tokens (p G) (event_in rest) e) → ((k ≡ length rest) × (x.event ≡ e)) ⊎ (event_in rest k ≡ Some e) → InRange W.tokens (p G) (event_in (x ∷ rest)) e
      go f (inl q) = subst (λ r. InRange W.tokens (p G) (event_in (x ∷ rest)) r) q.1 (in_range_up (p G) (event_in rest) (event_in (x ∷ rest)) (later_one x rest) W.tokens x.event h.0)
      go f (inr q) = in_range_up (p G) (event_in rest) (event_in (x ∷ rest)) (later_one x rest) W.tokens e (f q)

  -- ---- carried values

  pub constant_fine : {P : Known G} (v : Value) → FixedInRange (p G) v → Entails P (fine (constant v))
  unfolding fine constant
  constant_fine v h = record { by = λ n q. (h, tt) }

  pub with_value_fine : {P : Known G} (v : Value) (c : C) → FixedInRange (p G) v → Entails P (fine c) → Entails P (fine (with_value v c))
  unfolding fine with_value
  with_value_fine v c h e = record { by = λ n q. (h, (e.by n q).1) }

  pub joined_fine : {P : Known G} (v : Value) (a b : C) → FixedInRange (p G) v → Entails P (fine a) → Entails P (fine b) → Entails P (fine (joined v a b))
  unfolding fine joined
  joined_fine v a b h d e = record { by = λ n q. (h, uses_append (p G) (event_in n) a.uses b.uses (d.by n q).1 (e.by n q).1) }

  pub value_of_fine : {P : Known G} (e : Made (A G)) (v : Value) → FixedInRange (p G) v → Entails P (fine (value_of e v))
  unfolding fine value_of
  value_of_fine e v h = record { by = λ n q. (h, (tt, tt)) }

  pub chosen_fine : {P : Known G} (e : Made (A G)) (c : C) → Entails P (fine c) → Entails P (fine (chosen e c))
  unfolding fine chosen
  chosen_fine e c h = record { by = λ n q. ((h.by n q).0, (tt, (h.by n q).1)) }
