-- The posting before a place in the order is the last write of its slot.
use Rattle.std.proofs.Common.{◌≡◌, ℕ, zero, suc, ◌+◌, ◌<◌, ◌≤◌, Bool, true, false, ◌&&◌, cond, List, [], ◌∷◌, Option, Some, None, refl, sym, ap, ap₂, ◌∙◌, subst, ⊎_elim, add-zero, zero-add, lt-ltb, arith}
use Rattle.std.specs.Prelude.{slice_get, if◌then◌else◌, IsPermutation, Contains, nat_lt, nat_eq}
use Rattle.std.specs.declared.cmp.Ordering.{Ordering}
use Rattle.std.specs.declared.cmp.Ordering.TheVariants.{Less, Equal, Greater}
use Rattle.std.specs.Ordering.{nat_cmp, is_lt, ordering_then}
use Rattle.std.proofs.lemmas.Bool.{cases_lt, cases_eq, false≢true, and_parts, ltb-true}
use Rattle.std.proofs.lemmas.Cmp.{tied_itself}
use Rattle.std.proofs.lemmas.Option.{slice_get_within, slice_get-get_or, get_or_from_slice_get, none-some, same_Some}
use Rattle.std.proofs.lemmas.List.Elements.{Contains-append_left, Contains-append_right, Contains-append_cases}
use Rattle.std.proofs.lemmas.List.Sorted.{ranks_by, sorted_far, Contains-permutation, IsPermutation-sym}
use Rattle.wy_event.specs.declared.record.Slot.{Slot}
use Rattle.wy_event.specs.Record.{Recorded, same_slot}
use Rattle.wy_event.specs.Sources.{is_write, writes, is_so, written}
use Rattle.wy_index.specs.declared.posting.Posting.{Posting}
use Rattle.wy_index.specs.Order.{slot_cmp, posting_cmp, is_no_slot, IsInOrder}
use Rattle.wy_index.specs.Found.{gathered, one_if, posting_of, postings_in}
use Rattle.wy_index.proofs.Orders.{slots_total, postings_total, one_slot, same_slot_is, same_as_itself}

not_true : (b : Bool) → (b ≡ true → ⊥) → b ≡ false
not_true true h = absurd (h refl)
not_true false h = refl

-- ---- the last write

pub written_none : (rs : List Recorded) (x : Slot) (m : ℕ) → ((k : ℕ) (r : Recorded) → k < m → slice_get rs k ≡ Some r → writes x r ≡ false) → written rs x m ≡ None
unfolding written is_so
written_none rs x zero none = refl
written_none rs x (suc m) none = ap (λ b. if b then Some m else written rs x m) (quiet (slice_get rs m) refl) ∙ written_none rs x m (λ k r lt. none k r (omega (arith, lt)))
  where
    quiet : (o : Option Recorded) → slice_get rs m ≡ o → is_so (writes x) o ≡ false
    quiet None at = refl
    quiet (Some r) at = none m r (omega arith) at

pub written_at : (rs : List Recorded) (x : Slot) (m e : ℕ) (r : Recorded) → e < m → slice_get rs e ≡ Some r → writes x r ≡ true
    → ((k : ℕ) (s : Recorded) → e < k → k < m → slice_get rs k ≡ Some s → writes x s ≡ false) → written rs x m ≡ Some e
unfolding written is_so
written_at rs x zero e r lt at is none = absurd (omega arith)
written_at rs x (suc m) e r lt at is none = ⊎_elim
    (λ (same : e ≡ m). ap (λ o. if is_so (writes x) o then Some m else written rs x m) (ap (slice_get rs) (sym same) ∙ at) ∙ ap (λ b. if b then Some m else written rs x m) is ∙ ap Some (sym same))
    (λ (apart : e ≡ m → ⊥).
    let below : e < m = omega (arith, lt, apart) in
    ap (λ b. if b then Some m else written rs x m) (quiet below (slice_get rs m) refl) ∙ written_at rs x m e r below at is (λ k s more lt'. none k s more (omega (arith, lt'))))
    (cases_eq e m)
  where
    quiet : e < m → (o : Option Recorded) → slice_get rs m ≡ o → is_so (writes x) o ≡ false
    quiet below None here = refl
    quiet below (Some s) here = none m s below (omega arith) here

-- ---- postings and records

module _ {X : Type 0} (f : ℕ → Recorded → List X) where
  in_gathered : (n : ℕ) (rs : List Recorded) (k : ℕ) (r : Recorded) (x : X) → slice_get rs k ≡ Some r → Contains (f (n + k) r) x → Contains (gathered f n rs) x
  in_gathered n [] k r x at has = absurd (none-some r at)
  in_gathered n (s ∷ rs) zero r x at has = Contains-append_left (f n s) (gathered f (suc n) rs) x (subst (λ l. Contains l x) (ap₂ f (add-zero n) (sym (same_Some s r at))) has)
  in_gathered n (s ∷ rs) (suc k) r x at has =
      let place : n + suc k ≡ suc n + k = omega arith in
      Contains-append_right (f n s) (gathered f (suc n) rs) x (in_gathered (suc n) rs k r x at (subst (λ m. Contains (f m r) x) place has))

  from_gathered : (n : ℕ) (rs : List Recorded) (x : X) → Contains (gathered f n rs) x → (k : ℕ) × (r : Recorded) × (slice_get rs k ≡ Some r) × Contains (f (n + k) r) x
  from_gathered n [] x has = absurd (omega (arith, has.1))
  from_gathered n (s ∷ rs) x has = ⊎_elim
      (λ (here : Contains (f n s) x). (0, s, refl, subst (λ m. Contains (f m s) x) (sym (add-zero n)) here))
      (λ (later : Contains (gathered f (suc n) rs) x).
      let found = from_gathered (suc n) rs x later in
      let place : suc n + found.0 ≡ n + suc found.0 = omega arith in
      (suc found.0, found.1, found.2, subst (λ m. Contains (f m found.1) x) place found.3))
      (Contains-append_cases (f n s) (gathered f (suc n) rs) x has)

one_there : {X : Type 0} (b : Bool) (x : X) → b ≡ true → Contains (one_if b x) x
one_there true x is = (0, omega arith, refl)
one_there false x is = absurd (false≢true is)

one_found : {X : Type 0} (b : Bool) (x y : X) → Contains (one_if b x) y → (b ≡ true) × (x ≡ y)
one_found true x y (zero, lt, is) = (refl, is)
one_found true x y (suc k, lt, is) = absurd (omega (arith, lt))
one_found false x y has = absurd (omega (arith, has.1))

-- ---- the order

test_lt : (b c : Bool) → is_lt (cond b Less (cond c Equal Greater)) ≡ b
test_lt true c = refl
test_lt false true = refl
test_lt false false = refl

lt_is : (m n : ℕ) → is_lt (nat_cmp m n) ≡ nat_lt m n
lt_is m n = test_lt (nat_lt m n) (nat_eq m n)

-- two postings of one slot stand by their events
by_events : (x : Slot) (o : Ordering) → ordering_then (slot_cmp x x) o ≡ o
by_events x o = ap (λ s. ordering_then s o) (tied_itself slots_total x)

same_slot_lt : (x : Slot) (m n : ℕ) → is_lt (posting_cmp (record { slot = x; event = m }) (record { slot = x; event = n })) ≡ nat_lt m n
same_slot_lt x m n = ap is_lt (by_events x (nat_cmp m n)) ∙ lt_is m n

-- a posting of the slot that comes before a moment is of an event below it
pub earlier_event : (x : Slot) (before : ℕ) (p : Posting) → is_lt (posting_cmp p (record { slot = x; event = before })) ≡ true → same_slot x p.slot ≡ true → p.event < before
earlier_event x before p less is =
    let slot : x ≡ p.slot = (same_slot_is x p.slot is).0 in
    ltb-true p.event before (sym (ap (λ s. is_lt (ordering_then (slot_cmp s x) (nat_cmp p.event before))) (sym slot) ∙ same_slot_lt x p.event before) ∙ less)

module _ (rs : List Recorded) (postings : List Posting) (same : IsPermutation (postings_in rs) postings) (up : IsInOrder postings) (x : Slot) (before rank : ℕ)
    (front : (i : ℕ) (p : Posting) → i < rank → slice_get postings i ≡ Some p → is_lt (posting_cmp p (record { slot = x; event = before })) ≡ true)
    (back : (i : ℕ) (p : Posting) → rank ≤ i → slice_get postings i ≡ Some p → is_lt (posting_cmp p (record { slot = x; event = before })) ≡ false) where
  -- a write below the moment has its posting in front
  writer_ranks : (k : ℕ) (r : Recorded) → k < before → slice_get rs k ≡ Some r → writes x r ≡ true
      → (i : ℕ) × (i < rank) × (slice_get postings i ≡ Some (record { slot = x; event = k }))
  unfolding writes
  writer_ranks k r lt at is =
      let both = and_parts (is_write r.kind) (same_slot x r.slot) is in
      let slot : x ≡ r.slot = (same_slot_is x r.slot both.1).0 in
      let p : Posting = record { slot = x; event = k } in
      let as_posting : p ≡ record { slot = r.slot; event = 0 + k } = ap₂ (λ s m. record { slot = s; event = m }) slot (sym (zero-add k)) in
      let there : Contains (posting_of (0 + k) r) p = subst (λ q. Contains (posting_of (0 + k) r) q) (sym as_posting) (one_there (is_write r.kind) (record { slot = r.slot; event = 0 + k }) both.0) in
      let has = Contains-permutation (postings_in rs) postings p same (in_gathered posting_of 0 rs k r p at there) in
      let here : slice_get postings has.0 ≡ Some p = slice_get-get_or postings has.0 p has.1 ∙ ap Some has.2 in
      ⊎_elim
      (λ (in_front : has.0 < rank). (has.0, in_front, here))
      (λ (behind : rank ≤ has.0). absurd (false≢true (sym (back has.0 p behind here) ∙ same_slot_lt x k before ∙ lt-ltb k before lt)))
      (cases_lt has.0 rank)

  pub none_in_front : rank ≡ 0 → written rs x before ≡ None
  none_in_front none = written_none rs x before (λ k r lt at. not_true (writes x r) (λ is. let w = writer_ranks k r lt at is in absurd (omega (arith, w.1, none))))

  -- a posting that stands no later than another doesn't come behind it
  not_behind : (i j : ℕ) (p q : Posting) → i ≤ j → slice_get postings i ≡ Some p → slice_get postings j ≡ Some q → is_lt (posting_cmp q p) ≡ false
  not_behind i j p q le at_i at_j =
      let far = sorted_far (λ a b. is_lt (posting_cmp a b)) (ranks_by postings_total (λ (y : Posting). y)) postings up i j p le (slice_get_within postings j q at_j) in
      ap₂ (λ a b. is_lt (posting_cmp a b)) (sym (get_or_from_slice_get postings j q p at_j)) (sym (get_or_from_slice_get postings i p p at_i)) ∙ far

  module _ (j : ℕ) (last : Posting) (is_last : rank ≡ suc j) (here : slice_get postings j ≡ Some last) where
    -- the record that the last one in front is of
    its_record : (r : Recorded) × (slice_get rs last.event ≡ Some r) × (is_write r.kind ≡ true) × (r.slot ≡ last.slot)
    its_record =
        let found = from_gathered posting_of 0 rs last (Contains-permutation postings (postings_in rs) last (IsPermutation-sym (postings_in rs) postings same) (j, slice_get_within postings j last here, get_or_from_slice_get postings j last last here)) in
        let one = one_found (is_write found.1.kind) (record { slot = found.1.slot; event = 0 + found.0 }) last found.3 in
        let number : found.0 ≡ last.event = sym (zero-add found.0) ∙ ap (λ (p : Posting). p.event) one.1 in
        (found.1, ap (slice_get rs) (sym number) ∙ found.2, one.0, ap (λ (p : Posting). p.slot) one.1)

    pub last_in_front : same_slot x last.slot ≡ true → written rs x before ≡ Some last.event
    unfolding writes
    last_in_front is =
        let slot : x ≡ last.slot = (same_slot_is x last.slot is).0 in
        let its = its_record in
        let wrote : writes x its.0 ≡ true = ap₂ (λ a b. a && b) its.2 (ap (same_slot x) its.3 ∙ is) in
        written_at rs x before last.event its.0 (earlier_event x before last (front j last (omega (arith, is_last)) here) is) its.1 wrote (λ k s more lt at. not_true (writes x s) (λ writes_it.
        let w = writer_ranks k s lt at writes_it in
        let p : Posting = record { slot = x; event = k } in
        let not_less = not_behind w.0 j p last (omega (arith, w.1, is_last)) w.2 here in
        absurd (false≢true (sym not_less ∙ ap (λ t. is_lt (ordering_then (slot_cmp t x) (nat_cmp last.event k))) (sym slot) ∙ same_slot_lt x last.event k ∙ lt-ltb last.event k more))))

    -- of another slot that stands no later
    by_cases : (o : Ordering) (first second : Ordering) → slot_cmp last.slot x ≡ o → same_slot x last.slot ≡ false → is_no_slot x ≡ false → is_lt (ordering_then o first) ≡ false → is_lt (ordering_then o second) ≡ true → ⊥
    by_cases Less first second is other some not_less less = false≢true (sym not_less)
    by_cases Equal first second is other some not_less less =
        let slot : last.slot ≡ x = one_slot last.slot x is in
        false≢true (sym other ∙ ap (same_slot x) slot ∙ same_as_itself x some)
    by_cases Greater first second is other some not_less less = false≢true less

    pub other_in_front : same_slot x last.slot ≡ false → written rs x before ≡ None
    unfolding writes
    other_in_front other = written_none rs x before (λ k s lt at. not_true (writes x s) (λ writes_it.
        let both = and_parts (is_write s.kind) (same_slot x s.slot) writes_it in
        let w = writer_ranks k s lt at writes_it in
        let p : Posting = record { slot = x; event = k } in
        let not_less = not_behind w.0 j p last (omega (arith, w.1, is_last)) w.2 here in
        by_cases (slot_cmp last.slot x) (nat_cmp last.event k) (nat_cmp last.event before) refl other (same_slot_is x s.slot both.1).1 not_less (front j last (omega (arith, is_last)) here)))
