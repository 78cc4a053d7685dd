-- What a good certificate lists is all that its event comes from; and the other way round.
use Rattle.std.proofs.Common.{◌≡◌, ◌⊎◌, inl, inr, ◌+◌, ◌-◌, ◌<◌, ◌≤◌, ℕ, zero, suc, Bool, true, List, [], ◌∷◌, length, map, get_or, Option, Some, refl, sym, ap, ◌∙◌, subst, ⊎_elim, arith}
use Rattle.std.specs.Prelude.{Contains}
use Rattle.std.specs.List.{AllByRecursion}
use Rattle.wy_event.specs.Record.{Recorded}
use Rattle.wy_event.specs.Sources as records
use Rattle.wy_event.specs.Sources.{Owners, closure, sources, source_events}
use Rattle.wy_why.specs.declared.source.Source.{Source}
use Rattle.wy_why.specs.Answer.{Rises, up_to}
use Rattle.wy_why.specs.Sources.{source_of}
use Rattle.wy_why.specs.Walk.{closure_of}
use Rattle.wy_why.proofs.Closures.{Among, closure_cases, closure_itself}
use Rattle.wy_why.proofs.Listing.{member_listed}
use Rattle.wy_cert.specs.declared.certificate.Certificate.{Certificate}
use Rattle.wy_cert.specs.declared.certificate.Listed.{Listed}
use Rattle.wy_cert.specs.Spelling.{events}
use Rattle.wy_cert.specs.Goodness.{AllSound, AreSources, ComesFrom, IsLast, IsListed, IsSound}
use Rattle.wy_cert.specs.Made.{AreSaid}
use Rattle.wy_cert.proofs.Members.{among_of, from_map, in_up_to, of_among, of_up_to, risen, rising_same, up_to_rises}
use Rattle.wy_cert.proofs.Chains.{behind, closure_through, comes_among, not_above, with_some_role, without_role}

-- the line of an event that is listed
pub line_of : (ls : List Listed) (n : ℕ) → Contains (events ls) n → (l : Listed) × Contains ls l × (l.event ≡ n)
line_of ls n has = from_map (λ (l : Listed). l.event) ls n has

pub listed_line : (ls : List Listed) (l : Listed) → Contains ls l → Contains (events ls) l.event
listed_line ls l has = member_listed (λ (l : Listed). l.event) ls (events ls) l refl has

module _ (owner : Owners) (rs : List Recorded) (c : Certificate) (sound : AllSound owner rs c) where
  -- a source of a listed event is listed
  closed : (n w : ℕ) → IsListed c n → Among w (source_events true (sources owner rs n)) → IsListed c w
  closed n w has at =
      let line = line_of c.listed n has in
      let l = line.0 in
      let ok = sound l line.1 in
      let some = with_some_role (sources owner rs n) w at in
      let there : Contains (sources owner rs l.event) (record { role = some.0; event = w }) = subst (λ k. Contains (sources owner rs k) (record { role = some.0; event = w })) (sym line.2) some.1 in
      let back = from_map source_of l.sources (record { role = some.0; event = w }) ((ok.sources.exact (record { role = some.0; event = w })).1 there) in
      subst (λ (s : records.Source). IsListed c s.event) back.2 (ok.closed back.0 back.1)

  listed_within : (d n j : ℕ) → n < d → IsListed c n → closure_of owner true rs n j ≡ true → IsListed c j
  listed_within zero n j lt has is = absurd (omega (arith, lt))
  listed_within (suc d) n j lt has is = ⊎_elim
      (λ (here : j ≡ n). subst (IsListed c) (sym here) has)
      (λ (found : (w : ℕ) × Among w (source_events true (sources owner rs n)) × (w < n) × (closure_of owner true rs w j ≡ true)).
      listed_within d found.0 j (omega (arith, lt, found.2)) (closed n found.0 has found.1) found.3)
      (closure_cases owner true rs n j is)

  module _ (last : IsLast c) where
    reached_within : (d j : ℕ) → c.event < j + d → IsListed c j → closure_of owner true rs c.event j ≡ true
    reached_within zero j lt has = absurd (omega (arith, lt, last.greatest j has))
    reached_within (suc d) j lt has =
        let line = line_of c.listed j has in
        let ok = sound line.0 line.1 in
        ⊎_elim
        (λ (asked : line.0.event ≡ c.event). subst (λ k. closure_of owner true rs c.event k ≡ true) (sym asked ∙ line.2) (closure_itself owner true rs c.event))
        (λ (next : (n : ℕ) × IsListed c n × (line.0.event < n) × ComesFrom owner rs n line.0.event).
        let up : j < next.0 = omega (arith, next.2, line.2) in
        closure_through owner true rs c.event next.0 j (reached_within d next.0 (omega (arith, lt, up)) next.1) (subst (λ k. Among k (source_events true (sources owner rs next.0))) line.2 (comes_among owner rs next.0 line.0.event next.3)) up)
        ok.needed

    -- what is listed is what the event comes from
    pub lists : (j : ℕ) → IsListed c j → closure_of owner true rs c.event j ≡ true
    lists j has = reached_within (suc c.event) j (omega arith) has

    pub is_listed : (j : ℕ) → closure_of owner true rs c.event j ≡ true → IsListed c j
    is_listed j is = listed_within (suc c.event) c.event j (omega arith) last.listed is

    pub lists_closure : (high : ℕ) → Rises 0 high (events c.listed) → c.event < high → events c.listed ≡ up_to c.event (closure owner rs c.event)
    unfolding closure
    lists_closure high up fits = rising_same 0 high (events c.listed) (up_to c.event (closure owner rs c.event)) up (up_to_rises (closure owner rs c.event) c.event high fits)
        (λ j at. let has = of_among (events c.listed) j at in in_up_to (closure owner rs c.event) c.event j (last.greatest j has) (lists j has))
        (λ j at. among_of (events c.listed) j (is_listed j (of_up_to (closure owner rs c.event) c.event j at).1))

-- ---- a certificate that lists all that its event comes from

pub said_at : (owner : Owners) (rs : List Recorded) (ls : List Listed) (l : Listed) → AreSaid owner rs ls → Contains ls l → AreSources owner rs l.event l.sources × ((s : Source) → Contains l.sources s → s.event < l.event)
said_at owner rs [] l said has = absurd (omega (arith, has.1))
said_at owner rs (k ∷ ls) l said (zero, lt, is) = subst (λ (l : Listed). AreSources owner rs l.event l.sources × ((s : Source) → Contains l.sources s → s.event < l.event)) is said.0
said_at owner rs (k ∷ ls) l said (suc i, lt, is) = said_at owner rs ls l said.1 (i, omega (arith, lt), is)

module _ (owner : Owners) (rs : List Recorded) (c : Certificate) (there : c.event < length rs)
    (is : events c.listed ≡ up_to c.event (closure owner rs c.event)) (said : AreSaid owner rs c.listed) where
  member : (j : ℕ) → j ≤ c.event → closure_of owner true rs c.event j ≡ true → IsListed c j
  unfolding closure
  member j le reached = of_among (events c.listed) j (subst (Among j) (sym is) (in_up_to (closure owner rs c.event) c.event j le reached))

  of_member : (j : ℕ) → IsListed c j → (j ≤ c.event) × (closure_of owner true rs c.event j ≡ true)
  unfolding closure
  of_member j has = of_up_to (closure owner rs c.event) c.event j (subst (Among j) is (among_of (events c.listed) j has))

  pub is_last : IsLast c
  is_last = record {
    listed = member c.event (omega arith) (closure_itself owner true rs c.event);
    greatest = λ n has. (of_member n has).0;
  }

  pub all_sound : AllSound owner rs c
  all_sound l has =
      let it = of_member l.event (listed_line c.listed l has) in
      let its = said_at owner rs c.listed l said has in
      record {
        there = omega (arith, it.0, there);
        sources = its.0;
        closed = λ s has_s.
            let below = its.1 s has_s in
            let at = without_role (sources owner rs l.event) (source_of s) ((its.0.exact (source_of s)).0 (member_listed source_of l.sources (map source_of l.sources) s refl has_s)) in
            let reached = closure_through owner true rs c.event l.event s.event it.1 at below in
            member s.event (omega (arith, it.0, below)) reached;
        needed = ⊎_elim (λ (asked : l.event ≡ c.event). inl asked)
            (λ (next : (n : ℕ) × (closure_of owner true rs c.event n ≡ true) × (l.event < n) × Among l.event (source_events true (sources owner rs n))).
            let some = with_some_role (sources owner rs next.0) l.event next.3 in
            inr (next.0, member next.0 (not_above owner true rs c.event next.0 next.1) next.1, next.2, (some.0, some.1)))
            (behind owner true rs c.event l.event it.1);
      }
