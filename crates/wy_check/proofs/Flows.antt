-- What an event comes from by data, found from the last line to the first.
use Rattle.std.proofs.Common.{◌≡◌, ◌⊎◌, inl, inr, ◌+◌, ◌^◌, ◌<◌, ◌≤◌, ℕ, zero, suc, Bool, true, false, ◌&&◌, ◌||◌, cond, List, [], ◌∷◌, ◌++◌, length, map, Option, Some, None, refl, sym, ap, ap₂, ◌∙◌, subst, ⊎_elim, eq-eqb, eqb-true, ne_eqb, arith}
use Rattle.std.specs.Prelude.{Contains, Err, IfOk, Ok, Result, filter, nat_eq, slice_get, if◌then◌else◌}
use Rattle.std.specs.List.{list_any, range_with_len}
use Rattle.std.proofs.lemmas.Bool.{and_from, and_parts, cases_lt, cases_eq, false≢true, or_cases, or_left, or_right}
use Rattle.std.proofs.lemmas.List.{get_or_past}
use Rattle.std.proofs.lemmas.List.Elements.{filter_agree}
use Rattle.std.proofs.lemmas.Option.{none-some, same_Some, slice_get_within}
use Rattle.wy_event.specs.Record.{Recorded}
use Rattle.wy_event.specs.Sources as records
use Rattle.wy_event.specs.Sources.{Owners, closure, data_closure, is_data, source_events, sources}
use Rattle.wy_why.specs.declared.source.Role.{Role}
use Rattle.wy_why.specs.declared.source.Role.TheVariants as role
use Rattle.wy_why.specs.declared.source.Source as said
use Rattle.wy_why.specs.Answer.{Rises, up_to}
use Rattle.wy_why.specs.Sources.{role_of, source_of}
use Rattle.wy_why.specs.Walk.{closure_of}
use Rattle.wy_why.proofs.Closures.{Among, closure_cases, closure_itself, closure_source}
use Rattle.wy_why.proofs.Listing.{member_listed}
use Rattle.wy_cert.specs.declared.certificate.Certificate.{Certificate}
use Rattle.wy_cert.specs.declared.certificate.Listed.{Listed}
use Rattle.wy_cert.specs.Spelling.{events}
use Rattle.wy_cert.specs.Goodness.{IsListed}
use Rattle.wy_cert.proofs.Chains.{closure_through, not_above, without_role}
use Rattle.wy_cert.proofs.Goodness.{line_of, lists_closure}
use Rattle.wy_cert.proofs.Members.{among_of, from_map, risen}
use Rattle.wy_check.specs.Data.{has_data, is_by_data}
use Rattle.wy_check.specs.Faults.{IsWhole}
use Rattle.wy_check.specs.Marks.{mark_of}
use Rattle.wy_check.proofs.Weights.{any_from, any_some, at_least, later_above, listed_at, place_of}

-- ---- sources by data

data_among : (ss : List records.Source) (w : ℕ) → Among w (source_events false ss) → Contains ss (record { role = records.Data; event = w })
unfolding source_events is_data
data_among [] w at = absurd at
data_among (s ∷ ss) w at = go s.role refl at (data_among ss w)
  where
    later : Contains ss (record { role = records.Data; event = w }) → Contains (s ∷ ss) (record { role = records.Data; event = w })
    later has = (suc has.0, omega (arith, has.1), has.2)

    go : (r : records.Role) → s.role ≡ r → Among w (if is_data r then s.event ∷ source_events false ss else source_events false ss) → (Among w (source_events false ss) → Contains ss (record { role = records.Data; event = w })) → Contains (s ∷ ss) (record { role = records.Data; event = w })
    go records.Data is (inl e) rest = (0, omega arith, ap₂ (λ r n. record { role = r; event = n }) is (sym e))
    go records.Data is (inr there) rest = later (rest there)
    go records.Choosing is there rest = later (rest there)
    go records.Control is there rest = later (rest there)

among_data : (ss : List records.Source) (w : ℕ) → Contains ss (record { role = records.Data; event = w }) → Among w (source_events false ss)
unfolding source_events is_data
among_data [] w has = absurd (omega (arith, has.1))
among_data (s ∷ ss) w (zero, lt, is) = subst (λ (t : records.Source). Among w (if is_data t.role then t.event ∷ source_events false ss else source_events false ss)) (sym is) (inl refl)
among_data (s ∷ ss) w (suc k, lt, is) = go (is_data s.role) (among_data ss w (k, omega (arith, lt), is))
  where
    go : (b : Bool) → Among w (source_events false ss) → Among w (if b then s.event ∷ source_events false ss else source_events false ss)
    go true there = inr there
    go false there = there

role_data : (r : Role) → role_of r ≡ records.Data → is_by_data r ≡ true
role_data role.Data is = refl
role_data role.Choice is = cc
role_data role.Control is = cc

data_role : (r : Role) → is_by_data r ≡ true → role_of r ≡ records.Data
data_role role.Data is = refl
data_role role.Choice is = absurd (false≢true is)
data_role role.Control is = absurd (false≢true is)

module _ (owner : Owners) (rs : List Recorded) (c : Certificate) (whole : IsWhole owner rs c) where
  -- a line says by data what its event comes from by data
  pub data_said : (l : Listed) → Contains c.listed l → (j : ℕ) → has_data l.sources j ≡ true → Among j (source_events false (sources owner rs l.event))
  data_said l has j is =
      let one = any_some (λ (s : said.Source). is_by_data s.role && nat_eq j s.event) l.sources is in
      let both = and_parts (is_by_data one.0.role) (nat_eq j one.0.event) one.2 in
      let there = ((whole.sound l has).sources.exact (source_of one.0)).0 (member_listed source_of l.sources (map source_of l.sources) one.0 refl one.1) in
      among_data (sources owner rs l.event) j (subst (Contains (sources owner rs l.event)) (ap₂ (λ r e. record { role = r; event = e }) (data_role one.0.role both.0) (sym (eqb-true j one.0.event both.1))) there)

  pub said_data : (l : Listed) → Contains c.listed l → (j : ℕ) → Among j (source_events false (sources owner rs l.event)) → has_data l.sources j ≡ true
  said_data l has j at =
      let there = ((whole.sound l has).sources.exact (record { role = records.Data; event = j })).1 (data_among (sources owner rs l.event) j at) in
      let back = from_map source_of l.sources (record { role = records.Data; event = j }) there in
      any_from (λ (s : said.Source). is_by_data s.role && nat_eq j s.event) l.sources back.0 back.1
      (and_from (is_by_data back.0.role) (nat_eq j back.0.event) (role_data back.0.role (ap (λ (u : records.Source). u.role) back.2)) (eq-eqb j back.0.event (sym (ap (λ (u : records.Source). u.event) back.2))))

  -- and each of them is listed
  pub data_listed : (l : Listed) → Contains c.listed l → (j : ℕ) → Among j (source_events false (sources owner rs l.event)) → IsListed c j
  data_listed l has j at =
      let there = ((whole.sound l has).sources.exact (record { role = records.Data; event = j })).1 (data_among (sources owner rs l.event) j at) in
      let back = from_map source_of l.sources (record { role = records.Data; event = j }) there in
      subst (λ (s : records.Source). IsListed c s.event) back.2 ((whole.sound l has).closed back.0 back.1)

  -- ---- from the last line on

  -- the lines from one on were gone through: what is marked comes from the event, and what comes from it is marked
  -- or comes from what is marked and is still to come
  pub record IsGone (next : ℕ) (marks : List Bool) : Type 0 where
    pub room : length marks ≡ suc c.event
    pub back : (j : ℕ) → mark_of marks j ≡ true → closure_of owner false rs c.event j ≡ true
    pub onward : (j : ℕ) → closure_of owner false rs c.event j ≡ true → (mark_of marks j ≡ true)
        ⊎ ((i : ℕ) × (l : Listed) × ((i < next) × (slice_get c.listed i ≡ Some l) × (mark_of marks l.event ≡ true) × (closure_of owner false rs l.event j ≡ true)))

  pub begins_gone : (marks : List Bool) → length marks ≡ suc c.event → ((j : ℕ) → mark_of marks j ≡ nat_eq j c.event) → IsGone (length c.listed) marks
  begins_gone marks room alone =
      let line = line_of c.listed c.event whole.last.listed in
      let place = place_of c.listed line.0 line.1 in
      record {
        room = room;
        back = λ j is. subst (λ k. closure_of owner false rs c.event k ≡ true) (sym (eqb-true j c.event (sym (alone j) ∙ is))) (closure_itself owner false rs c.event);
        onward = λ j is. inr (place.0, line.0, (slice_get_within c.listed place.0 line.0 place.1, place.1, alone line.0.event ∙ eq-eqb line.0.event c.event line.2, subst (λ k. closure_of owner false rs k j ≡ true) (sym line.2) is));
      }

  -- the line before was gone through
  module _ (next : ℕ) (l : Listed) (at : slice_get c.listed next ≡ Some l) (marks : List Bool) (gone : IsGone (suc next) marks) where
    before : (i : ℕ) (k : Listed) → i < suc next → slice_get c.listed i ≡ Some k → (i < next) ⊎ (k ≡ l)
    before i k lt at_k = ⊎_elim (λ (front : i < next). inl front)
        (λ (here : next ≤ i). let same : i ≡ next = omega (arith, lt, here) in inr (same_Some k l (sym at_k ∙ ap (slice_get c.listed) same ∙ at)))
        (cases_lt i next)

    passed_line : mark_of marks l.event ≡ false → IsGone next marks
    passed_line out = record {
      room = gone.room;
      back = gone.back;
      onward = λ j is. ⊎_elim (λ here. inl here)
          (λ (still : (i : ℕ) × (k : Listed) × ((i < suc next) × (slice_get c.listed i ≡ Some k) × (mark_of marks k.event ≡ true) × (closure_of owner false rs k.event j ≡ true))).
          let it = still.2 in
          ⊎_elim (λ (front : still.0 < next). inr (still.0, still.1, (front, it.1, it.2, it.3)))
          (λ (same : still.1 ≡ l). absurd (false≢true (sym out ∙ ap (λ (m : Listed). mark_of marks m.event) (sym same) ∙ it.2)))
          (before still.0 still.1 it.0 it.1))
          (gone.onward j is);
    }

    marked_line : (new : List Bool) → length new ≡ length marks → ((j : ℕ) → j < length marks → mark_of new j ≡ (mark_of marks j || has_data l.sources j)) → ((j : ℕ) → length marks ≤ j → mark_of new j ≡ false) → mark_of marks l.event ≡ true → IsGone next new
    marked_line new room more far here = record {
      room = room ∙ gone.room;
      back = λ j is. ⊎_elim
          (λ (within : j < length marks). ⊎_elim
          (λ (old : mark_of marks j ≡ true). gone.back j old)
          (λ (added : has_data l.sources j ≡ true).
          let among = data_said l has j added in
          closure_through owner false rs c.event l.event j (gone.back l.event here) among (below j among))
          (or_cases (mark_of marks j) (has_data l.sources j) (sym (more j within) ∙ is)))
          (λ (beyond : length marks ≤ j). absurd (false≢true (sym (far j beyond) ∙ is)))
          (cases_lt j (length marks));
      onward = λ j is. ⊎_elim (λ (old : mark_of marks j ≡ true). inl (kept j is old))
          (λ (still : (i : ℕ) × (k : Listed) × ((i < suc next) × (slice_get c.listed i ≡ Some k) × (mark_of marks k.event ≡ true) × (closure_of owner false rs k.event j ≡ true))).
          let it = still.2 in
          ⊎_elim (λ (front : still.0 < next). inr (still.0, still.1, (front, it.1, kept still.1.event (gone.back still.1.event it.2) it.2, it.3)))
          (λ (same : still.1 ≡ l). from_line j is (subst (λ (m : Listed). closure_of owner false rs m.event j ≡ true) same it.3))
          (before still.0 still.1 it.0 it.1))
          (gone.onward j is);
    }
      where
        has : Contains c.listed l
        has = listed_at c.listed next l at

        within_room : (j : ℕ) → closure_of owner false rs c.event j ≡ true → j < length marks
        within_room j is = let le = not_above owner false rs c.event j is in omega (arith, le, gone.room)

        kept : (j : ℕ) → closure_of owner false rs c.event j ≡ true → mark_of marks j ≡ true → mark_of new j ≡ true
        kept j is old = more j (within_room j is) ∙ or_left (mark_of marks j) (has_data l.sources j) old

        below : (j : ℕ) → Among j (source_events false (sources owner rs l.event)) → j < l.event
        below j among = whole.below l has j (records.Data, data_among (sources owner rs l.event) j among)

        earlier : (i : ℕ) (k : Listed) → slice_get c.listed i ≡ Some k → k.event < l.event → i < next
        earlier i k at_k lt = ⊎_elim (λ h. h)
            (λ (behind : next ≤ i). absurd (⊎_elim
            (λ (here : next ≡ i). let same = ap (λ (m : Listed). m.event) (same_Some k l (sym at_k ∙ ap (slice_get c.listed) (sym here) ∙ at)) in omega (arith, same, lt))
            (λ (apart : next ≡ i → ⊥). let up = later_above 0 (2 ^ 32) c.listed next i l k whole.rises (omega (arith, behind, apart)) at at_k in omega (arith, up, lt))
            (cases_eq next i)))
            (cases_lt i next)

        from_line : (j : ℕ) → closure_of owner false rs c.event j ≡ true → closure_of owner false rs l.event j ≡ true → (mark_of new j ≡ true)
            ⊎ ((i : ℕ) × (k : Listed) × ((i < next) × (slice_get c.listed i ≡ Some k) × (mark_of new k.event ≡ true) × (closure_of owner false rs k.event j ≡ true)))
        from_line j is reached = ⊎_elim
            (λ (itself : j ≡ l.event). inl (kept j is (ap (mark_of marks) itself ∙ here)))
            (λ (source : (w : ℕ) × Among w (source_events false (sources owner rs l.event)) × (w < l.event) × (closure_of owner false rs w j ≡ true)).
            let line = line_of c.listed source.0 (data_listed l has source.0 source.1) in
            let place = place_of c.listed line.0 line.1 in
            let in_closure = closure_through owner false rs c.event l.event source.0 (gone.back l.event here) source.1 source.2 in
            let marked : mark_of new source.0 ≡ true = more source.0 (within_room source.0 in_closure) ∙ or_right (mark_of marks source.0) (has_data l.sources source.0) (said_data l has source.0 source.1) in
            inr (place.0, line.0, (earlier place.0 line.0 place.1 (omega (arith, source.2, line.2)), place.1, subst (λ k. mark_of new k ≡ true) (sym line.2) marked, subst (λ k. closure_of owner false rs k j ≡ true) (sym line.2) source.3)))
            (closure_cases owner false rs l.event j reached)

    -- both together
    pub gone_line : (new : List Bool) → length new ≡ length marks → ((j : ℕ) → j < length marks → mark_of new j ≡ (mark_of marks j || (mark_of marks l.event && has_data l.sources j))) → IsGone next new
    gone_line new room more = go (mark_of marks l.event) refl
      where
        far : (j : ℕ) → length marks ≤ j → mark_of new j ≡ false
        far j le = get_or_past new j false (omega (arith, le, room))

        or_none : (b : Bool) → (b || false) ≡ b
        or_none true = refl
        or_none false = refl

        go : (b : Bool) → mark_of marks l.event ≡ b → IsGone next new
        go true here = marked_line new room (λ j lt. more j lt ∙ ap (λ b. mark_of marks j || (b && has_data l.sources j)) here) far here
        go false out =
            let same : (j : ℕ) → mark_of new j ≡ mark_of marks j = λ j. ⊎_elim
            (λ (lt : j < length marks). more j lt ∙ ap (λ b. mark_of marks j || (b && has_data l.sources j)) out ∙ or_none (mark_of marks j))
            (λ (le : length marks ≤ j). far j le ∙ sym (get_or_past marks j false le))
            (cases_lt j (length marks)) in
            let kept = passed_line out in
            record {
              room = room ∙ kept.room;
              back = λ j is. kept.back j (sym (same j) ∙ is);
              onward = λ j is. ⊎_elim (λ (old : mark_of marks j ≡ true). inl (same j ∙ old))
                  (λ (still : (i : ℕ) × (k : Listed) × ((i < next) × (slice_get c.listed i ≡ Some k) × (mark_of marks k.event ≡ true) × (closure_of owner false rs k.event j ≡ true))). inr (still.0, still.1, (still.2.0, still.2.1, same still.1.event ∙ still.2.2, still.2.3)))
                  (kept.onward j is);
            }

  pub ends_gone : (marks : List Bool) → IsGone 0 marks → (j : ℕ) → mark_of marks j ≡ data_closure owner rs c.event j
  unfolding data_closure
  ends_gone marks gone j = two_tests (mark_of marks j) (closure_of owner false rs c.event j) (gone.back j)
      (λ is. ⊎_elim (λ here. here) (λ (still : (i : ℕ) × (l : Listed) × ((i < 0) × (slice_get c.listed i ≡ Some l) × (mark_of marks l.event ≡ true) × (closure_of owner false rs l.event j ≡ true))). absurd (omega (arith, still.2.0))) (gone.onward j is))
    where
      two_tests : (a b : Bool) → (a ≡ true → b ≡ true) → (b ≡ true → a ≡ true) → a ≡ b
      two_tests true b to from = sym (to refl)
      two_tests false true to from = from refl
      two_tests false false to from = refl

  -- ---- the events that are marked

  filtered : (p q : ℕ → Bool) → ((j : ℕ) → p j ≡ true → q j ≡ true) → (ns : List ℕ) → filter p (filter q ns) ≡ filter p ns
  filtered p q sub [] = refl
  filtered p q sub (n ∷ ns) = go (q n) refl (p n) refl (filtered p q sub ns)
    where
      go : (b : Bool) → q n ≡ b → (d : Bool) → p n ≡ d → filter p (filter q ns) ≡ filter p ns → filter p (cond b (n ∷ filter q ns) (filter q ns)) ≡ cond d (n ∷ filter p ns) (filter p ns)
      go true is_q d is_p rest = ap (λ b. cond b (n ∷ filter p (filter q ns)) (filter p (filter q ns))) is_p ∙ ap (λ l. cond d (n ∷ l) l) rest
      go false is_q true is_p rest = absurd (false≢true (sym is_q ∙ sub n is_p))
      go false is_q false is_p rest = rest

  data_within : (d e j : ℕ) → e < d → closure_of owner false rs e j ≡ true → closure_of owner true rs e j ≡ true
  data_within zero e j lt is = absurd (omega (arith, lt))
  data_within (suc d) e j lt is = ⊎_elim
      (λ (here : j ≡ e). subst (λ k. closure_of owner true rs e k ≡ true) (sym here) (closure_itself owner true rs e))
      (λ (found : (w : ℕ) × Among w (source_events false (sources owner rs e)) × (w < e) × (closure_of owner false rs w j ≡ true)).
      closure_source owner true rs e found.0 j (without_role (sources owner rs e) (record { role = records.Data; event = found.0 }) (data_among (sources owner rs e) found.0 found.1)) found.2 (data_within d found.0 j (omega (arith, lt, found.2)) found.3))
      (closure_cases owner false rs e j is)

  pub flow_is : (marks : List Bool) → ((j : ℕ) → mark_of marks j ≡ data_closure owner rs c.event j) → c.event < 2 ^ 32 → filter (mark_of marks) (events c.listed) ≡ up_to c.event (data_closure owner rs c.event)
  unfolding data_closure closure
  flow_is marks same fits =
      ap (filter (mark_of marks)) (lists_closure owner rs c whole.sound whole.last (2 ^ 32) whole.rises fits)
      ∙ filter_agree (mark_of marks) (closure_of owner false rs c.event) same (up_to c.event (closure owner rs c.event))
      ∙ filtered (closure_of owner false rs c.event) (closure_of owner true rs c.event) (λ j is. data_within (suc c.event) c.event j (omega arith) is) (range_with_len 0 (suc c.event))

-- one event is marked among none
pub only_marked : (old new : List Bool) (event e : ℕ) → length old ≡ suc event → length new ≡ length old → e ≡ event → ((j : ℕ) → mark_of old j ≡ false)
    → ((j : ℕ) → j < length old → mark_of new j ≡ (mark_of old j || nat_eq j event)) → (j : ℕ) → mark_of new j ≡ nat_eq j e
only_marked old new event e room long same none marked j = ⊎_elim
    (λ (lt : j < length old). marked j lt ∙ ap (λ b. b || nat_eq j event) (none j) ∙ ap (nat_eq j) (sym same))
    (λ (ge : length old ≤ j). get_or_past new j false (omega (arith, ge, long)) ∙ sym (ne_eqb j e (λ is. omega (arith, is, ge, room, same))))
    (cases_lt j (length old))

pub events_filtered : (p : ℕ → Bool) (ls : List Listed) → events (filter (λ (l : Listed). p l.event) ls) ≡ filter p (events ls)
events_filtered p [] = refl
events_filtered p (l ∷ ls) = go (p l.event) (events_filtered p ls)
  where
    go : (b : Bool) → events (filter (λ (k : Listed). p k.event) ls) ≡ filter p (events ls)
        → events (cond b (l ∷ filter (λ (k : Listed). p k.event) ls) (filter (λ (k : Listed). p k.event) ls)) ≡ cond b (l.event ∷ filter p (events ls)) (filter p (events ls))
    go true rest = ap (λ ns. l.event ∷ ns) rest
    go false rest = rest

-- the event that is asked about has a number
pub asked_fits : (owner : Owners) (rs : List Recorded) (c : Certificate) → IsWhole owner rs c → c.event < 2 ^ 32
asked_fits owner rs c whole = (risen 0 (2 ^ 32) (events c.listed) c.event whole.rises (among_of (events c.listed) c.event whole.last.listed)).1

pub if_ok : {X E : Type 0} {P Q : X → Type 0} (r : Result X E) → ((x : X) → P x → Q x) → IfOk r P → IfOk r Q
if_ok (Ok x) more is = more x is
if_ok (Err e) more is = tt
