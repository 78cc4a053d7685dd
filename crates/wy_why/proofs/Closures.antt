-- The closure of an event, as one event after another of which it is made.
use Rattle.std.proofs.Common.{◌≡◌, ◌⊎◌, inl, inr, ◌<◌, ◌≤◌, ℕ, zero, suc, Bool, true, false, ◌||◌, List, [], ◌∷◌, ◌++◌, Option, Some, refl, sym, ap, ◌∙◌, subst, ⊎_elim, nat_lt, eq-eqb, eqb-true, ltb-true, lt-ltb, arith}
use Rattle.std.specs.Prelude.{None as Absent}
use Rattle.std.specs.Prelude.{if◌then◌else◌, nat_eq, filter, slice_get}
use Rattle.std.proofs.lemmas.Bool.{false≢true}
use Rattle.wy_value.specs.declared.value.Value as whole_value
use Rattle.wy_value.specs.declared.value.Value.TheVariants as value
use Rattle.wy_event.specs.declared.record.Slot.{Slot}
use Rattle.wy_event.specs.declared.record.Slot.TheVariants as slot
use Rattle.wy_event.specs.declared.record.Use.{Use}
use Rattle.wy_event.specs.declared.record.Use.TheVariants.{Place, Value, Choice}
use Rattle.wy_event.specs.Numbers.{Numbers, none, only, union, union_of}
use Rattle.wy_event.specs.Record.{Recorded}
use Rattle.wy_event.specs.Sources.{Owners, Role, Data, Choosing, Control, Source, is_so, writes, creates, or_else, written, creation, last_write, with_role, use_source, use_sources, event_sources, sources, is_data, source_events, closure_within}
use Rattle.wy_view.specs.References.{OptionBelow, ValueBelow, SlotBelow, UseBelow, UsesBelow, RefersBelow}
use Rattle.wy_why.specs.Walk.{closure_of}

-- w is one of the numbers
abbrev pub Among : ℕ → List ℕ → Type 0
Among w [] = ⊥
Among w (v ∷ vs) = (w ≡ v) ⊎ Among w vs

pub or_cases : (a b : Bool) → (a || b) ≡ true → (a ≡ true) ⊎ (b ≡ true)
or_cases true b is = inl refl
or_cases false b is = inr is

pub or_right : (a b : Bool) → b ≡ true → (a || b) ≡ true
or_right true b is = refl
or_right false b is = is

pub or_left : (a b : Bool) → a ≡ true → (a || b) ≡ true
or_left true b is = refl
or_left false b is = absurd (false≢true is)

module _ (f : ℕ → Numbers) (j : ℕ) where
  pub one_of : (ws : List ℕ) → union_of f ws j ≡ true → (w : ℕ) × Among w ws × (f w j ≡ true)
  unfolding union_of union none
  one_of [] is = absurd (false≢true is)
  one_of (w ∷ ws) is = ⊎_elim
      (λ (here : f w j ≡ true). (w, inl refl, here))
      (λ (later : union_of f ws j ≡ true). let found = one_of ws later in (found.0, inr found.1, found.2))
      (or_cases (f w j) (union_of f ws j) is)

  pub in_union : (ws : List ℕ) (w : ℕ) → Among w ws → f w j ≡ true → union_of f ws j ≡ true
  unfolding union_of union none
  in_union [] w at is = absurd at
  in_union (v ∷ vs) w (inl e) is = or_left (f v j) (union_of f vs j) (ap (λ x. f x j) (sym e) ∙ is)
  in_union (v ∷ vs) w (inr at) is = or_right (f v j) (union_of f vs j) (in_union vs w at is)

pub only_itself : (ws : List ℕ) (j : ℕ) → union_of only ws j ≡ true → Among j ws
unfolding only
only_itself ws j is = let found = one_of only j ws is in subst (λ w. Among w ws) (sym (eqb-true j found.0 found.2)) found.1

pub itself_only : (ws : List ℕ) (j : ℕ) → Among j ws → union_of only ws j ≡ true
unfolding only
itself_only ws j at = in_union only j ws j at (eq-eqb j j refl)

in_filter : (n : ℕ) (ws : List ℕ) (w : ℕ) → Among w ws → w < n → Among w (filter (λ v. nat_lt v n) ws)
in_filter n [] w at lt = absurd at
in_filter n (v ∷ vs) w at lt = go (nat_lt v n) refl at (λ later. in_filter n vs w later lt)
  where
    go : (b : Bool) → nat_lt v n ≡ b → (w ≡ v) ⊎ Among w vs → (Among w vs → Among w (filter (λ u. nat_lt u n) vs)) → Among w (if b then v ∷ filter (λ u. nat_lt u n) vs else filter (λ u. nat_lt u n) vs)
    go true is (inl here) rest = inl here
    go true is (inr later) rest = inr (rest later)
    go false is (inl here) rest = absurd (false≢true (sym is ∙ lt-ltb v n (omega (arith, here, lt))))
    go false is (inr later) rest = rest later

of_filter : (n : ℕ) (ws : List ℕ) (w : ℕ) → Among w (filter (λ v. nat_lt v n) ws) → Among w ws × (w < n)
of_filter n [] w at = absurd at
of_filter n (v ∷ vs) w at = go (nat_lt v n) refl (of_filter n vs w) at
  where
    go : (b : Bool) → nat_lt v n ≡ b → (Among w (filter (λ u. nat_lt u n) vs) → Among w vs × (w < n)) → Among w (if b then v ∷ filter (λ u. nat_lt u n) vs else filter (λ u. nat_lt u n) vs) → ((w ≡ v) ⊎ Among w vs) × (w < n)
    go true is rest (inl here) = (inl here, omega (arith, here, ltb-true v n is))
    go true is rest (inr later) = let both = rest later in (inr both.0, both.1)
    go false is rest later = let both = rest later in (inr both.0, both.1)

-- ---- the closure

module _ (owner : Owners) (all : Bool) (rs : List Recorded) where
  abbrev pub from : ℕ → List ℕ
  from n = source_events all (sources owner rs n)

  within_cases : (d n j : ℕ) → closure_within owner all rs (suc d) n j ≡ true → (j ≡ n) ⊎ ((w : ℕ) × Among w (from n) × (w < n) × (closure_within owner all rs d w j ≡ true))
  unfolding closure_within union only
  within_cases d n j is = ⊎_elim
      (λ (here : nat_eq j n ≡ true). inl (eqb-true j n here))
      (λ (later : union_of (closure_within owner all rs d) (filter (λ w. nat_lt w n) (from n)) j ≡ true).
      let found = one_of (closure_within owner all rs d) j (filter (λ w. nat_lt w n) (from n)) later in
      let both = of_filter n (from n) found.0 found.1 in
      inr (found.0, both.0, both.1, found.2))
      (or_cases (nat_eq j n) (union_of (closure_within owner all rs d) (filter (λ w. nat_lt w n) (from n)) j) is)

  within_itself : (d n : ℕ) → closure_within owner all rs (suc d) n n ≡ true
  unfolding closure_within union only
  within_itself d n = or_left (nat_eq n n) (union_of (closure_within owner all rs d) (filter (λ w. nat_lt w n) (from n)) n) (eq-eqb n n refl)

  within_source : (d n w j : ℕ) → Among w (from n) → w < n → closure_within owner all rs d w j ≡ true → closure_within owner all rs (suc d) n j ≡ true
  unfolding closure_within union only
  within_source d n w j at lt is = or_right (nat_eq j n) (union_of (closure_within owner all rs d) (filter (λ v. nat_lt v n) (from n)) j) (in_union (closure_within owner all rs d) j (filter (λ v. nat_lt v n) (from n)) w (in_filter n (from n) w at lt) is)

  -- every depth that is enough gives the same
  deep_enough : (d e n j : ℕ) → n < e → closure_within owner all rs d n j ≡ true → closure_within owner all rs e n j ≡ true
  unfolding closure_within none
  deep_enough zero e n j lt is = absurd (false≢true is)
  deep_enough (suc d) zero n j lt is = absurd (omega (arith, lt))
  deep_enough (suc d) (suc e) n j lt is = ⊎_elim
      (λ (here : j ≡ n). subst (λ k. closure_within owner all rs (suc e) n k ≡ true) (sym here) (within_itself e n))
      (λ (found : (w : ℕ) × Among w (from n) × (w < n) × (closure_within owner all rs d w j ≡ true)). within_source e n found.0 j found.1 found.2 (deep_enough d e found.0 j (omega (arith, found.2, lt)) found.3))
      (within_cases d n j is)

  pub closure_cases : (n j : ℕ) → closure_of owner all rs n j ≡ true → (j ≡ n) ⊎ ((w : ℕ) × Among w (from n) × (w < n) × (closure_of owner all rs w j ≡ true))
  closure_cases n j is = ⊎_elim
      (λ (here : j ≡ n). inl here)
      (λ (found : (w : ℕ) × Among w (from n) × (w < n) × (closure_within owner all rs n w j ≡ true)). inr (found.0, found.1, found.2, deep_enough n (suc found.0) found.0 j (omega arith) found.3))
      (within_cases n n j is)

  pub closure_itself : (n : ℕ) → closure_of owner all rs n n ≡ true
  closure_itself n = within_itself n n

  pub closure_source : (n w j : ℕ) → Among w (from n) → w < n → closure_of owner all rs w j ≡ true → closure_of owner all rs n j ≡ true
  closure_source n w j at lt is = within_source n n w j at lt (deep_enough (suc w) n w j lt is)

-- ---- sources are below

abbrev pub EventsBelow : ℕ → List Source → Type 0
EventsBelow n [] = Unit {0}
EventsBelow n (s ∷ rest) = (s.event < n) × EventsBelow n rest

below_append : (n : ℕ) (a b : List Source) → EventsBelow n a → EventsBelow n b → EventsBelow n (a ++ b)
below_append n [] b first second = second
below_append n (s ∷ a) b first second = (first.0, below_append n a b first.1 second)

below_role : (n : ℕ) (role : Role) (o : Option ℕ) → OptionBelow n o → EventsBelow n (with_role role o)
unfolding with_role
below_role n role Absent below = tt
below_role n role (Some k) below = (below, tt)

option_up : (m n : ℕ) (o : Option ℕ) → m ≤ n → OptionBelow m o → OptionBelow n o
option_up m n Absent le h = tt
option_up m n (Some k) le h = omega (arith, le, h)

or_else_below : (n : ℕ) (a b : Option ℕ) → OptionBelow n a → OptionBelow n b → OptionBelow n (or_else a b)
unfolding or_else
or_else_below n (Some k) b first second = first
or_else_below n Absent b first second = second

if_below : (b : Bool) (m : ℕ) (o : Option ℕ) → OptionBelow (suc m) o → OptionBelow (suc m) (if b then Some m else o)
if_below true m o h = omega arith
if_below false m o h = h

module _ (owner : Owners) (rs : List Recorded) where
  written_below : (x : Slot) (m : ℕ) → OptionBelow m (written rs x m)
  unfolding written
  written_below x zero = tt
  written_below x (suc m) = if_below (is_so (writes x) (slice_get rs m)) m (written rs x m) (option_up m (suc m) (written rs x m) (omega arith) (written_below x m))

  creation_below : (x : Slot) (m : ℕ) → OptionBelow m (creation owner rs x m)
  unfolding creation
  creation_below x zero = tt
  creation_below x (suc m) = or_else_below (suc m) (creation owner rs x m) _ (option_up m (suc m) (creation owner rs x m) (omega arith) (creation_below x m)) (if_below (is_so (creates owner m x) (slice_get rs m)) m Absent tt)

  last_write_below : (x : Slot) (m : ℕ) → OptionBelow m (last_write owner rs x m)
  unfolding last_write
  last_write_below x m = or_else_below m (written rs x m) (creation owner rs x m) (written_below x m) (creation_below x m)

  use_source_below : (n : ℕ) (u : Use) → UseBelow n u → EventsBelow n (use_source owner rs u)
  unfolding use_source
  use_source_below n (Place x m) below = below_role n Data (last_write owner rs x m) (option_up m n (last_write owner rs x m) below.1 (last_write_below x m))
  use_source_below n (Value k) below = below_role n Data (Some k) below
  use_source_below n (Choice k) below = below_role n Choosing (Some k) below

  use_sources_below : (n : ℕ) (us : List Use) → UsesBelow n us → EventsBelow n (use_sources owner rs us)
  unfolding use_sources
  use_sources_below n [] below = tt
  use_sources_below n (u ∷ us) below = below_append n (use_source owner rs u) (use_sources owner rs us) (use_source_below n u below.0) (use_sources_below n us below.1)

  pub sources_below : (n : ℕ) (e : Recorded) → RefersBelow n e → EventsBelow n (event_sources owner rs e)
  unfolding event_sources
  sources_below n e below = below_append n (use_sources owner rs e.uses) (with_role Control e.control) (use_sources_below n e.uses below.uses) (below_role n Control e.control below.control)

pub among_below : (all : Bool) (n : ℕ) (ss : List Source) (w : ℕ) → EventsBelow n ss → Among w (source_events all ss) → w < n
unfolding source_events
among_below all n [] w below at = absurd at
among_below all n (s ∷ ss) w below at = go (all || is_data s.role) (among_below all n ss w below.1) at
  where
    go : (b : Bool) → (Among w (source_events all ss) → w < n) → Among w (if b then s.event ∷ source_events all ss else source_events all ss) → w < n
    go true rest (inl here) = omega (arith, here, below.0)
    go true rest (inr later) = rest later
    go false rest later = rest later

-- ---- what refers below one number refers below a greater one

value_up : (m n : ℕ) (v : whole_value.Value) → m ≤ n → ValueBelow m v → ValueBelow n v
value_up m n (value.Object k) le h = omega (arith, le, h)
value_up m n (value.Text k) le h = omega (arith, le, h)
value_up m n _ le h = tt

slot_up : (m n : ℕ) (x : Slot) → m ≤ n → SlotBelow m x → SlotBelow n x
slot_up m n (slot.Local f i) le h = omega (arith, le, h)
slot_up m n (slot.Field o f) le h = omega (arith, le, h)
slot_up m n (slot.Elem a i) le h = omega (arith, le, h)
slot_up m n _ le h = tt

use_up : (m n : ℕ) (u : Use) → m ≤ n → UseBelow m u → UseBelow n u
use_up m n (Place x k) le h = (slot_up m n x le h.0, omega (arith, le, h.1))
use_up m n (Value k) le h = omega (arith, le, h)
use_up m n (Choice k) le h = omega (arith, le, h)

uses_up : (m n : ℕ) (us : List Use) → m ≤ n → UsesBelow m us → UsesBelow n us
uses_up m n [] le h = tt
uses_up m n (u ∷ us) le h = (use_up m n u le h.0, uses_up m n us le h.1)

pub refers_up : (m n : ℕ) (e : Recorded) → m ≤ n → RefersBelow m e → RefersBelow n e
refers_up m n e le h = record {
  frame = option_up m n e.frame le h.frame;
  control = option_up m n e.control le h.control;
  slot = slot_up m n e.slot le h.slot;
  value = value_up m n e.value le h.value;
  uses = uses_up m n e.uses le h.uses;
}
