-- What one of the sources of an event gives it.
use Rattle.std.proofs.Common.{◌≡◌, ◌⊎◌, inl, inr, ◌+◌, ◌<◌, ◌≤◌, ℕ, zero, suc, Bool, true, false, ◌||◌, ◌&&◌, List, [], ◌∷◌, ◌++◌, length, take, get_or, Option, Some, refl, sym, ap, ap₂, ◌∙◌, subst, ⊎_elim, append-nil, eq-eqb, eqb-true, arith}
use Rattle.std.specs.Prelude.{None as Absent}
use Rattle.std.specs.Prelude.{nat_eq, slice_get}
use Rattle.std.specs.List.{list_any}
use Rattle.std.proofs.lemmas.Bool.{false≢true}
use Rattle.std.proofs.lemmas.List.Folds.{list_any-append}
use Rattle.wy_event.specs.declared.record.Slot.{Slot}
use Rattle.wy_event.specs.declared.record.Use.{Use}
use Rattle.wy_event.specs.declared.record.Use.TheVariants.{Place, Value, Choice}
use Rattle.wy_event.specs.Record.{Recorded}
use Rattle.wy_event.specs.Sources.{Owners, Data, Choosing, Control, Source, event_sources, is_data, last_write, source_events, sources, sources_of, use_source, use_sources, with_role}
use Rattle.wy_view.specs.References.{RefersBelow}
use Rattle.wy_why.specs.declared.mark.Mark.{Mark}
use Rattle.wy_why.specs.declared.mark.Mark.TheVariants.{Out}
use Rattle.wy_why.specs.Marks.{marked}
use Rattle.wy_why.specs.Walk.{closure_of}
use Rattle.wy_why.proofs.Closures.{Among, among_below, closure_cases, closure_itself, closure_source, or_cases, or_left, or_right, sources_below}
use Rattle.wy_why.proofs.Marking.{one_more_use, or_no, source_events-append}
use Rattle.wy_why.proofs.Walking.{sources_at}
use Rattle.wy_affects.specs.Given.{is_given}

-- ---- tests

two_tests : (a b : Bool) → (a ≡ true → b ≡ true) → (b ≡ true → a ≡ true) → a ≡ b
two_tests true b onward back = sym (onward refl)
two_tests false true onward back = back refl
two_tests false false onward back = refl

no_truth : (b : Bool) → (b ≡ true → ⊥) → b ≡ false
no_truth true none = absurd (none refl)
no_truth false none = refl

module _ (p : ℕ → Bool) where
  one_passes : (ws : List ℕ) → list_any p ws ≡ true → (w : ℕ) × Among w ws × (p w ≡ true)
  one_passes [] is = absurd (false≢true is)
  one_passes (w ∷ ws) is = ⊎_elim
      (λ (here : p w ≡ true). (w, inl refl, here))
      (λ (later : list_any p ws ≡ true). let found = one_passes ws later in (found.0, inr found.1, found.2))
      (or_cases (p w) (list_any p ws) is)

  passes_one : (ws : List ℕ) (w : ℕ) → Among w ws → p w ≡ true → list_any p ws ≡ true
  passes_one [] w at is = absurd at
  passes_one (v ∷ ws) w (inl e) is = or_left (p v) (list_any p ws) (ap p (sym e) ∙ is)
  passes_one (v ∷ ws) w (inr at) is = or_right (p v) (list_any p ws) (passes_one ws w at is)

-- ---- sources

module _ (marks : List Mark) where
  pub nothing_given : (all : Bool) → is_given all marks [] ≡ false
  unfolding source_events
  nothing_given all = refl

  -- a source by data
  pub data_given : (all : Bool) (e : ℕ) → is_given all marks (with_role Data (Some e)) ≡ marked all marks e
  unfolding with_role source_events is_data
  data_given true e = or_no (marked true marks e)
  data_given false e = or_no (marked false marks e)

  -- a choice or the control parent
  pub choice_given : (all : Bool) (e : ℕ) → is_given all marks (with_role Choosing (Some e)) ≡ (all && marked all marks e)
  unfolding with_role source_events is_data
  choice_given true e = or_no (marked true marks e)
  choice_given false e = refl

  pub control_given : (all : Bool) (e : ℕ) → is_given all marks (with_role Control (Some e)) ≡ (all && marked all marks e)
  unfolding with_role source_events is_data
  control_given true e = or_no (marked true marks e)
  control_given false e = refl

  -- one after another
  pub more_given : (all : Bool) (a b : List Source) → is_given all marks (a ++ b) ≡ (is_given all marks a || is_given all marks b)
  more_given all a b = ap (list_any (marked all marks)) (source_events-append all a b) ∙ list_any-append (marked all marks) (source_events all a) (source_events all b)

-- what a use gives, by what it is
module _ (owner : Owners) (rs : List Recorded) (marks : List Mark) (all : Bool) where
  pub by_place : (u : Use) (x : Slot) (m : ℕ) (o : Option ℕ) → u ≡ Place x m → o ≡ last_write owner rs x m → is_given all marks (use_source owner rs u) ≡ is_given all marks (with_role Data o)
  unfolding use_source
  by_place u x m o is wrote = ap (λ v. is_given all marks (use_source owner rs v)) is ∙ ap (λ p. is_given all marks (with_role Data p)) (sym wrote)

  pub by_nothing : (u : Use) (x : Slot) (m : ℕ) → u ≡ Place x m → Absent ≡ last_write owner rs x m → is_given all marks (use_source owner rs u) ≡ false
  unfolding with_role
  by_nothing u x m is wrote = by_place u x m Absent is wrote ∙ nothing_given marks all

  pub by_value : (u : Use) (e : ℕ) → u ≡ Value e → is_given all marks (use_source owner rs u) ≡ marked all marks e
  unfolding use_source
  by_value u e is = ap (λ v. is_given all marks (use_source owner rs v)) is ∙ data_given marks all e

  pub by_choice : (u : Use) (e : ℕ) → u ≡ Choice e → is_given all marks (use_source owner rs u) ≡ (all && marked all marks e)
  unfolding use_source
  by_choice u e is = ap (λ v. is_given all marks (use_source owner rs v)) is ∙ choice_given marks all e

  pub one_use_more : (us : List Use) (i : ℕ) (d : Use) → i < length us
      → is_given all marks (use_sources owner rs (take (i + 1) us)) ≡ (is_given all marks (use_sources owner rs (take i us)) || is_given all marks (use_source owner rs (get_or us i d)))
  one_use_more us i d lt = ap (is_given all marks) (one_more_use owner rs us i d lt) ∙ more_given marks all (use_sources owner rs (take i us)) (use_source owner rs (get_or us i d))

  -- the uses of an event, and then its control parent
  module _ (e : Recorded) (us : List Use) (is : us ≡ e.uses) where
    pub with_parent : (p : ℕ) → e.control ≡ Some p → (is_given all marks (use_sources owner rs us) || (all && marked all marks p)) ≡ is_given all marks (event_sources owner rs e)
    unfolding event_sources
    with_parent p parent =
        ap₂ (λ a b. a || b) (ap (λ l. is_given all marks (use_sources owner rs l)) is) (sym (ap (λ o. is_given all marks (with_role Control o)) parent ∙ control_given marks all p))
        ∙ sym (more_given marks all (use_sources owner rs e.uses) (with_role Control e.control))

    pub without_parent : e.control ≡ Absent → is_given all marks (use_sources owner rs us) ≡ is_given all marks (event_sources owner rs e)
    unfolding event_sources with_role
    without_parent none =
        ap (λ l. is_given all marks (use_sources owner rs l)) is
        ∙ ap (is_given all marks) (sym (append-nil (use_sources owner rs e.uses)) ∙ ap (λ o. use_sources owner rs e.uses ++ with_role Control o) (sym none))

-- ---- what comes from an event

module _ (owner : Owners) (all : Bool) (rs : List Recorded) where
  below : (most n j : ℕ) → n < most → closure_of owner all rs n j ≡ true → j ≤ n
  below zero n j lt is = absurd (omega (arith, lt))
  below (suc most) n j lt is = ⊎_elim
      (λ (here : j ≡ n). omega (arith, here))
      (λ (found : (w : ℕ) × Among w (source_events all (sources owner rs n)) × (w < n) × (closure_of owner all rs w j ≡ true)).
      let less = below most found.0 j (omega (arith, lt, found.2)) found.3 in omega (arith, less, found.2))
      (closure_cases owner all rs n j is)

  -- up to an event, that alone comes from it
  pub itself_alone : (e j : ℕ) → j ≤ e → nat_eq j e ≡ closure_of owner all rs j e
  itself_alone e j le = two_tests (nat_eq j e) (closure_of owner all rs j e)
      (λ is. subst (λ k. closure_of owner all rs k e ≡ true) (sym (eqb-true j e is)) (closure_itself owner all rs e))
      (λ is. eq-eqb j e (omega (arith, le, below (suc j) j e (omega arith) is)))

  -- nothing else comes to an event that is not there
  pub no_record : (n j : ℕ) → slice_get rs n ≡ Absent → (j ≡ n → ⊥) → closure_of owner all rs n j ≡ false
  unfolding sources sources_of source_events
  no_record n j none apart = no_truth (closure_of owner all rs n j) (λ is. ⊎_elim apart
      (λ (found : (w : ℕ) × Among w (source_events all (sources owner rs n)) × (w < n) × (closure_of owner all rs w j ≡ true)).
      let nowhere : Among found.0 (source_events all (sources_of owner rs Absent)) = subst (λ o. Among found.0 (source_events all (sources_of owner rs o))) none found.1 in absurd nowhere)
      (closure_cases owner all rs n j is))

  -- an event above it comes from it where one of its sources does
  pub given_is : (e k : ℕ) (marks : List Mark) (r : Recorded) → slice_get rs k ≡ Some r → RefersBelow k r → e < k
      → ((j : ℕ) → j < k → marked all marks j ≡ closure_of owner all rs j e)
      → is_given all marks (event_sources owner rs r) ≡ closure_of owner all rs k e
  given_is e k marks r at refers above known = two_tests (is_given all marks (event_sources owner rs r)) (closure_of owner all rs k e)
      (λ is. let found = one_passes (marked all marks) (source_events all (event_sources owner rs r)) is in
      let less : found.0 < k = among_below all k (event_sources owner rs r) found.0 (sources_below owner rs k r refers) found.1 in
      closure_source owner all rs k found.0 e (subst (λ ss. Among found.0 (source_events all ss)) (sym (sources_at owner rs k r at)) found.1) less (sym (known found.0 less) ∙ found.2))
      (λ is. ⊎_elim
      (λ (here : e ≡ k). absurd (omega (arith, here, above)))
      (λ (found : (w : ℕ) × Among w (source_events all (sources owner rs k)) × (w < k) × (closure_of owner all rs w e ≡ true)).
      passes_one (marked all marks) (source_events all (event_sources owner rs r)) found.0 (subst (λ ss. Among found.0 (source_events all ss)) (sources_at owner rs k r at) found.1) (known found.0 found.2 ∙ found.3))
      (closure_cases owner all rs k e is))
