-- The closure of an event by its sources, and the last write of a slot by the newest event.
use Rattle.std.proofs.Common.{◌≡◌, ℕ, zero, suc, Bool, true, false, ◌<◌, ◌≤◌, List, [], ◌∷◌, ◌++◌, Option, Some, refl, sym, ap, ◌∙◌, append_assoc, append-nil, nat_lt, arith}
use Rattle.std.specs.Prelude.{None as Absent}
use Rattle.std.specs.Prelude.{filter, option_to_list, slice_get, if◌then◌else◌}
use Rattle.wy_event.specs.declared.record.Slot.{Slot}
use Rattle.wy_event.specs.declared.record.Use.{Use}
use Rattle.wy_event.specs.declared.record.Use.TheVariants.{Place, Value, Choice}
use Rattle.wy_event.specs.Numbers.{only, union, union_of}
use Rattle.wy_event.specs.Record.{Recorded}
use Rattle.wy_event.specs.Sources.{Owners, Data, Control, Source, writes, creates, is_so, or_else, written, creation, last_write, with_role, use_source, use_sources, event_sources, sources_of, sources, is_data, source_events, closure_within, closure, data_closure}
use Rattle.law_carried.proofs.Sets.{union_of-append, union_of_below, filter_all_below, AllBelow-append, AllBelow_up}
use Rattle.law_carried.specs.Agreement.{IsPast, ArePast, AllBelow}

-- the events that an event's uses come from
abbrev pub used_events : Owners → Bool → List Recorded → List Use → List ℕ
used_events owner all records us = source_events all (use_sources owner records us)

abbrev pub closure_of : Owners → Bool → List Recorded → ℕ → ℕ → Bool
closure_of owner all records n = closure_within owner all records (suc n) n

module _ (owner : Owners) (records : List Recorded) where
  -- any two depths that are enough give the same
  pub within_same : (all : Bool) (d e n : ℕ) → n < d → n < e → closure_within owner all records d n ≡ closure_within owner all records e n
  unfolding closure_within
  within_same all zero e n hd he = absurd (omega arith)
  within_same all (suc d) zero n hd he = absurd (omega arith)
  within_same all (suc d) (suc e) n hd he =
      ap (union (only n)) (union_of_below n _ _ (source_events all (sources owner records n)) (λ w h. within_same all d e w (omega arith) (omega arith)))

  -- an event with its sources' closures
  pub closure_unfolds : (all : Bool) (n : ℕ) → closure_of owner all records n ≡ union (only n) (union_of (closure_of owner all records) (filter (λ w. nat_lt w n) (source_events all (sources owner records n))))
  unfolding closure_within
  closure_unfolds all n =
      ap (union (only n)) (union_of_below n _ _ (source_events all (sources owner records n)) (λ w h. within_same all n (suc w) w h (omega arith)))

  written_below : (x : Slot) (m : ℕ) → AllBelow m (option_to_list (written records x m))
  unfolding written
  written_below x zero = tt
  written_below x (suc m) = go (AllBelow_up m (suc m) _ (omega arith) (written_below x m)) (is_so (writes x) (slice_get records m))
    where
      go : AllBelow (suc m) (option_to_list (written records x m)) → (b : Bool) → AllBelow (suc m) (option_to_list (if b then Some m else written records x m))
      go rest true = (omega arith, tt)
      go rest false = rest

  or_else_below : (n : ℕ) (a b : Option ℕ) → AllBelow n (option_to_list a) → AllBelow n (option_to_list b) → AllBelow n (option_to_list (or_else a b))
  unfolding or_else
  or_else_below n (Some k) b ha hb = ha
  or_else_below n Absent b ha hb = hb

  creation_below : (x : Slot) (m : ℕ) → AllBelow m (option_to_list (creation owner records x m))
  unfolding creation
  creation_below x zero = tt
  creation_below x (suc m) = or_else_below (suc m) _ _ (AllBelow_up m (suc m) _ (omega arith) (creation_below x m)) (go (is_so (creates owner m x) (slice_get records m)))
    where
      go : (b : Bool) → AllBelow (suc m) (option_to_list (if b then Some m else Absent))
      go true = (omega arith, tt)
      go false = tt

  pub last_write_below : (x : Slot) (m : ℕ) → AllBelow m (option_to_list (last_write owner records x m))
  unfolding last_write
  last_write_below x m = or_else_below m _ _ (written_below x m) (creation_below x m)

  pub IsPast_up : (m n : ℕ) (u : Use) → m ≤ n → IsPast m u → IsPast n u
  IsPast_up m n (Place x k) le h = omega (arith, h)
  IsPast_up m n (Value e) le h = omega (arith, h)
  IsPast_up m n (Choice e) le h = omega (arith, h)

  pub ArePast_up : (m n : ℕ) (us : List Use) → m ≤ n → ArePast m us → ArePast n us
  ArePast_up m n [] le h = tt
  ArePast_up m n (u ∷ us) le h = (IsPast_up m n u le h.0, ArePast_up m n us le h.1)

  pub ArePast-append : (n : ℕ) (a b : List Use) → ArePast n a → ArePast n b → ArePast n (a ++ b)
  ArePast-append n [] b ha hb = hb
  ArePast-append n (u ∷ a) b ha hb = (ha.0, ArePast-append n a b ha.1 hb)

  pub source_events-append : (all : Bool) (a b : List Source) → source_events all (a ++ b) ≡ source_events all a ++ source_events all b
  unfolding source_events
  source_events-append all [] b = refl
  source_events-append true (s ∷ a) b = ap (λ l. s.event ∷ l) (source_events-append true a b)
  source_events-append false (s ∷ a) b = go (is_data s.role) (source_events-append false a b)
    where
      go : (d : Bool) → source_events false (a ++ b) ≡ source_events false a ++ source_events false b → (if d then s.event ∷ source_events false (a ++ b) else source_events false (a ++ b)) ≡ (if d then s.event ∷ source_events false a else source_events false a) ++ source_events false b
      go true e = ap (λ l. s.event ∷ l) e
      go false e = e

  pub use_sources-append : (a b : List Use) → use_sources owner records (a ++ b) ≡ use_sources owner records a ++ use_sources owner records b
  unfolding use_sources
  use_sources-append [] b = refl
  use_sources-append (u ∷ a) b =
      ap (λ l. use_source owner records u ++ l) (use_sources-append a b) ∙ sym (append_assoc (use_source owner records u) (use_sources owner records a) (use_sources owner records b))

  pub used_events-append : (all : Bool) (a b : List Use) → used_events owner all records (a ++ b) ≡ used_events owner all records a ++ used_events owner all records b
  used_events-append all a b = ap (source_events all) (use_sources-append a b) ∙ source_events-append all (use_sources owner records a) (use_sources owner records b)

  data_events : (all : Bool) (w : Option ℕ) → source_events all (with_role Data w) ≡ option_to_list w
  unfolding source_events with_role is_data
  data_events true Absent = refl
  data_events true (Some n) = refl
  data_events false Absent = refl
  data_events false (Some n) = refl

  -- the last write of a place that is used
  pub place_events : (all : Bool) (x : Slot) (m : ℕ) → used_events owner all records (Place x m ∷ []) ≡ option_to_list (last_write owner records x m)
  unfolding use_sources use_source
  place_events all x m = ap (source_events all) (append-nil _) ∙ data_events all (last_write owner records x m)

  pub value_events : (all : Bool) (n : ℕ) (us : List Use) → used_events owner all records (Value n ∷ us) ≡ n ∷ used_events owner all records us
  unfolding use_sources use_source with_role source_events is_data
  value_events true n us = refl
  value_events false n us = refl

  pub choice_data : (n : ℕ) (us : List Use) → used_events owner false records (Choice n ∷ us) ≡ used_events owner false records us
  unfolding use_sources use_source with_role source_events is_data
  choice_data n us = refl

  pub choice_all : (n : ℕ) (us : List Use) → used_events owner true records (Choice n ∷ us) ≡ n ∷ used_events owner true records us
  unfolding use_sources use_source with_role source_events is_data
  choice_all n us = refl

  no_uses_below : (all : Bool) (n : ℕ) → AllBelow n (used_events owner all records [])
  unfolding use_sources source_events
  no_uses_below all n = tt

  use_below : (all : Bool) (n : ℕ) (u : Use) → IsPast n u → AllBelow n (used_events owner all records (u ∷ []))
  use_below all n (Place x m) h = rw (place_events all x m) (AllBelow_up m n _ h (last_write_below x m))
  use_below all n (Value e) h = rw (value_events all e []) (h, no_uses_below all n)
  use_below true n (Choice e) h = rw (choice_all e []) (h, no_uses_below true n)
  use_below false n (Choice e) h = rw (choice_data e []) (no_uses_below false n)

  pub used_below : (all : Bool) (n : ℕ) (us : List Use) → ArePast n us → AllBelow n (used_events owner all records us)
  used_below all n [] h = no_uses_below all n
  used_below all n (u ∷ us) h = rw (used_events-append all (u ∷ []) us) (AllBelow-append n _ _ (use_below all n u h.0) (used_below all n us h.1))

  control_data : (c : Option ℕ) → source_events false (with_role Control c) ≡ []
  unfolding source_events with_role is_data
  control_data Absent = refl
  control_data (Some n) = refl

  control_all : (c : Option ℕ) → source_events true (with_role Control c) ≡ option_to_list c
  unfolding source_events with_role
  control_all Absent = refl
  control_all (Some n) = refl

  at_event : (all : Bool) (n : ℕ) (e : Recorded) → slice_get records n ≡ Some e → AllBelow n (source_events all (event_sources owner records e)) → closure_of owner all records n ≡ union (only n) (union_of (closure_of owner all records) (source_events all (event_sources owner records e)))
  unfolding sources sources_of
  at_event all n e is below =
      closure_unfolds all n ∙ ap (λ ws. union (only n) (union_of (closure_of owner all records) ws)) (ap (λ o. filter (λ w. nat_lt w n) (source_events all (sources_of owner records o))) is ∙ filter_all_below n _ below)

  data_events_are : (e : Recorded) → source_events false (event_sources owner records e) ≡ used_events owner false records e.uses
  unfolding event_sources
  data_events_are e = source_events-append false (use_sources owner records e.uses) (with_role Control e.control) ∙ ap (λ l. used_events owner false records e.uses ++ l) (control_data e.control) ∙ append-nil _

  all_events_are : (e : Recorded) → source_events true (event_sources owner records e) ≡ used_events owner true records e.uses ++ option_to_list e.control
  unfolding event_sources
  all_events_are e = source_events-append true (use_sources owner records e.uses) (with_role Control e.control) ∙ ap (λ l. used_events owner true records e.uses ++ l) (control_all e.control)

  -- the closure by data of an event whose uses are past
  pub data_closure_at : (n : ℕ) (e : Recorded) → slice_get records n ≡ Some e → ArePast n e.uses → data_closure owner records n ≡ union (only n) (union_of (data_closure owner records) (used_events owner false records e.uses))
  unfolding data_closure
  data_closure_at n e is past =
      at_event false n e is (rw (data_events_are e) (used_below false n e.uses past)) ∙ ap (λ ws. union (only n) (union_of (closure_of owner false records) ws)) (data_events_are e)

  -- the closure of an event whose uses and control parent are past
  pub full_closure_at : (n : ℕ) (e : Recorded) → slice_get records n ≡ Some e → ArePast n e.uses → AllBelow n (option_to_list e.control) → closure owner records n ≡ union (only n) (union (union_of (closure owner records) (used_events owner true records e.uses)) (union_of (closure owner records) (option_to_list e.control)))
  unfolding closure
  full_closure_at n e is past under =
      at_event true n e is (rw (all_events_are e) (AllBelow-append n _ _ (used_below true n e.uses past) under))
      ∙ ap (λ ws. union (only n) (union_of (closure_of owner true records) ws)) (all_events_are e)
      ∙ ap (union (only n)) (union_of-append (closure_of owner true records) (used_events owner true records e.uses) (option_to_list e.control))

  -- the same by the sources of the event
  pub closure_by_sources : (n : ℕ) (e : Recorded) → slice_get records n ≡ Some e → ArePast n e.uses → AllBelow n (option_to_list e.control) → closure owner records n ≡ union (only n) (union_of (closure owner records) (source_events true (event_sources owner records e)))
  unfolding closure
  closure_by_sources n e is past under = at_event true n e is (rw (all_events_are e) (AllBelow-append n _ _ (used_below true n e.uses past) under))

  pub data_closure_by_sources : (n : ℕ) (e : Recorded) → slice_get records n ≡ Some e → ArePast n e.uses → data_closure owner records n ≡ union (only n) (union_of (data_closure owner records) (source_events false (event_sources owner records e)))
  unfolding data_closure
  data_closure_by_sources n e is past = at_event false n e is (rw (data_events_are e) (used_below false n e.uses past))

  -- ---- the last write by the newest event

  or_else_assoc : (a b c : Option ℕ) → or_else a (or_else b c) ≡ or_else (or_else a b) c
  unfolding or_else
  or_else_assoc (Some n) b c = refl
  or_else_assoc Absent b c = refl

  pub or_else_absent : (a : Option ℕ) → or_else a Absent ≡ a
  unfolding or_else
  or_else_absent (Some n) = refl
  or_else_absent Absent = refl

  pub last_write_written : (x : Slot) (n : ℕ) (e : Recorded) → slice_get records n ≡ Some e → writes x e ≡ true → last_write owner records x (suc n) ≡ Some n
  unfolding last_write written is_so or_else
  last_write_written x n e is w = ap (λ o. or_else (if is_so (writes x) o then Some n else written records x n) (creation owner records x (suc n))) is ∙ ap (λ b. or_else (if b then Some n else written records x n) (creation owner records x (suc n))) w

  pub last_write_kept : (x : Slot) (n : ℕ) (e : Recorded) → slice_get records n ≡ Some e → writes x e ≡ false → last_write owner records x (suc n) ≡ or_else (last_write owner records x n) (if creates owner n x e then Some n else Absent)
  unfolding last_write written creation is_so
  last_write_kept x n e is w =
      ap (λ o. or_else (if is_so (writes x) o then Some n else written records x n) (or_else (creation owner records x n) (if is_so (creates owner n x) o then Some n else Absent))) is
      ∙ ap (λ b. or_else (if b then Some n else written records x n) (or_else (creation owner records x n) (if creates owner n x e then Some n else Absent))) w
      ∙ or_else_assoc (written records x n) (creation owner records x n) (if creates owner n x e then Some n else Absent)
