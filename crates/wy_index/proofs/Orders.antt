-- The order of postings is total, so a list in order is cut in two by each posting.
use Rattle.std.proofs.Common.{◌≡◌, ℕ, suc, ◌+◌, ◌*◌, ◌-◌, ◌^◌, ◌<◌, ◌≤◌, Bool, true, false, not, ◌&&◌, cond, List, get_or, Some, refl, sym, ap, ap₂, ◌∙◌, subst, ⊎_elim, arith, lt-ltb, le-ltb, eq-eqb, ne_eqb, eqb-true}
use Rattle.std.specs.Prelude.{slice_get, nat_eq}
use Rattle.std.specs.declared.cmp.Ordering.{Ordering}
use Rattle.std.specs.declared.cmp.Ordering.TheVariants.{Less, Equal, Greater}
use Rattle.std.specs.Ordering.{nat_cmp, is_lt, is_eq, ordering_then, ordering_index}
use Rattle.std.specs.Cmp.{IsTotalOrder}
use Rattle.std.proofs.lemmas.Bool.{cases_lt, false≢true, and_parts, not-true}
use Rattle.std.proofs.Math.Pow.{pow_mono}
use Rattle.std.proofs.Math.Nat.{mul-le-mul_left, pow-suc}
use Rattle.std.proofs.lemmas.Cmp.{nat_cmp_total, on_total, then_total, tied_itself}
use Rattle.std.proofs.lemmas.List.Sorted.{searchable_from_sorted}
use Rattle.std.proofs.lemmas.Option.{slice_get_within, get_or_from_slice_get}
use Rattle.wy_event.specs.declared.record.Slot.{Slot}
use Rattle.wy_event.specs.declared.record.Slot.TheVariants as slot
use Rattle.wy_event.specs.Record.{same_slot}
use Rattle.wy_index.specs.declared.posting.Posting.{Posting}
use Rattle.wy_index.specs.Halving.{IsHalvings}
use Rattle.wy_index.specs.Order.{kind_rank, holder_rank, part_rank, slot_cmp, posting_cmp, is_no_slot, IsInOrder}

pub slots_total : IsTotalOrder slot_cmp
slots_total = then_total (then_total (on_total kind_rank nat_cmp_total) (on_total holder_rank nat_cmp_total)) (on_total part_rank nat_cmp_total)

pub postings_total : IsTotalOrder posting_cmp
postings_total = then_total (on_total (λ (p : Posting). p.slot) slots_total) (on_total (λ (p : Posting). p.event) nat_cmp_total)

-- ---- numbers

pub same_numbers : (x y : ℕ) → is_eq (nat_cmp x y) ≡ nat_eq x y
same_numbers x y = ⊎_elim
    (λ (lt : x < y). ap (λ b. is_eq (cond b Less (cond (nat_eq x y) Equal Greater))) (lt-ltb x y lt) ∙ sym (ne_eqb x y (λ e. omega (arith, lt, e))))
    (λ (ge : y ≤ x). ap (λ b. is_eq (cond b Less (cond (nat_eq x y) Equal Greater))) (le-ltb x y ge) ∙ by_test (nat_eq x y))
    (cases_lt x y)
  where
    by_test : (b : Bool) → is_eq (cond b Equal Greater) ≡ b
    by_test true = refl
    by_test false = refl

-- ---- slots

eq_then : (a b : Ordering) → is_eq (ordering_then a b) ≡ (is_eq a && is_eq b)
eq_then Less b = refl
eq_then Equal b = refl
eq_then Greater b = refl

eq_then_three : (a b c : Ordering) → is_eq (ordering_then (ordering_then a b) c) ≡ ((is_eq a && is_eq b) && is_eq c)
eq_then_three a b c = eq_then (ordering_then a b) c ∙ ap (λ t. t && is_eq c) (eq_then a b)

two_numbers : (k a b c d : ℕ) → (nat_eq a c && nat_eq b d) ≡ is_eq (ordering_then (ordering_then (nat_cmp k k) (nat_cmp a c)) (nat_cmp b d))
two_numbers k a b c d =
    ap₂ (λ s t. s && t) (sym (same_numbers a c)) (sym (same_numbers b d))
    ∙ ap (λ t. (t && is_eq (nat_cmp a c)) && is_eq (nat_cmp b d)) (sym (same_numbers k k ∙ eq-eqb k k refl))
    ∙ sym (eq_then_three (nat_cmp k k) (nat_cmp a c) (nat_cmp b d))

pub same_slots : (a b : Slot) → same_slot a b ≡ (not (is_no_slot a) && is_eq (slot_cmp a b))
unfolding same_slot
same_slots (slot.Local f x) (slot.Local g y) = two_numbers 1 f x g y
same_slots (slot.Static f) (slot.Static g) = sym (same_numbers f g)
same_slots (slot.Field o f) (slot.Field q g) = two_numbers 3 o f q g
same_slots (slot.Elem a i) (slot.Elem b j) = two_numbers 4 a i b j
same_slots _ _ = refl

two_parts : (k a b c d : ℕ) → ordering_then (ordering_then (nat_cmp k k) (nat_cmp a c)) (nat_cmp b d) ≡ Equal → (a ≡ c) × (b ≡ d)
two_parts k a b c d is =
    let both = and_parts (nat_eq a c) (nat_eq b d) (two_numbers k a b c d ∙ ap is_eq is) in
    (eqb-true a c both.0, eqb-true b d both.1)

-- slots that stand at one place are one
pub one_slot : (a b : Slot) → slot_cmp a b ≡ Equal → a ≡ b
one_slot slot.None slot.None is = refl
one_slot (slot.Local f x) (slot.Local g y) is = let parts = two_parts 1 f x g y is in ap₂ (λ s t. slot.Local s t) parts.0 parts.1
one_slot (slot.Static f) (slot.Static g) is = ap (λ t. slot.Static t) (eqb-true f g (sym (same_numbers f g) ∙ ap is_eq is))
one_slot (slot.Field o f) (slot.Field q g) is = let parts = two_parts 3 o f q g is in ap₂ (λ s t. slot.Field s t) parts.0 parts.1
one_slot (slot.Elem a i) (slot.Elem b j) is = let parts = two_parts 4 a i b j is in ap₂ (λ s t. slot.Elem s t) parts.0 parts.1
one_slot _ _ is = cc

eq_is : (o : Ordering) → is_eq o ≡ true → o ≡ Equal
eq_is Less e = absurd (false≢true e)
eq_is Equal e = refl
eq_is Greater e = absurd (false≢true e)

pub same_slot_is : (a b : Slot) → same_slot a b ≡ true → (a ≡ b) × (is_no_slot a ≡ false)
same_slot_is a b same =
    let both = and_parts (not (is_no_slot a)) (is_eq (slot_cmp a b)) (sym (same_slots a b) ∙ same) in
    (one_slot a b (eq_is (slot_cmp a b) both.1), not-true (is_no_slot a) both.0)

pub same_as_itself : (a : Slot) → is_no_slot a ≡ false → same_slot a a ≡ true
same_as_itself a some = same_slots a a ∙ ap₂ (λ s t. not s && is_eq t) some (tied_itself slots_total a)

-- ---- a list in order

lt_index : (o : Ordering) → is_lt o ≡ true → ordering_index o ≡ 0
lt_index Less e = refl
lt_index Equal e = absurd (false≢true e)
lt_index Greater e = absurd (false≢true e)

index_lt : (o : Ordering) → ordering_index o ≤ 0 → is_lt o ≡ true
index_lt Less e = refl
index_lt Equal e = absurd (omega arith)
index_lt Greater e = absurd (omega arith)

not_lt : (o : Ordering) → (is_lt o ≡ true → ⊥) → is_lt o ≡ false
not_lt Less h = absurd (h refl)
not_lt Equal h = refl
not_lt Greater h = refl

pub earlier_before : (xs : List Posting) (t p q : Posting) (i j : ℕ) → IsInOrder xs → i ≤ j → slice_get xs i ≡ Some p → slice_get xs j ≡ Some q → is_lt (posting_cmp q t) ≡ true → is_lt (posting_cmp p t) ≡ true
earlier_before xs t p q i j up le at_i at_j before =
    let rises = searchable_from_sorted postings_total (λ (x : Posting). x) xs t up i j p le (slice_get_within xs j q at_j) in
    let first : get_or xs i p ≡ p = get_or_from_slice_get xs i p p at_i in
    let second : get_or xs j p ≡ q = get_or_from_slice_get xs j q p at_j in
    let below : ordering_index (posting_cmp p t) ≤ ordering_index (posting_cmp q t) = subst (λ x. ordering_index (posting_cmp x t) ≤ ordering_index (posting_cmp q t)) first (subst (λ y. ordering_index (posting_cmp (get_or xs i p) t) ≤ ordering_index (posting_cmp y t)) second rises) in
    index_lt (posting_cmp p t) (omega (arith, below, lt_index (posting_cmp q t) before))

pub later_behind : (xs : List Posting) (t p q : Posting) (i j : ℕ) → IsInOrder xs → i ≤ j → slice_get xs i ≡ Some p → slice_get xs j ≡ Some q → is_lt (posting_cmp p t) ≡ false → is_lt (posting_cmp q t) ≡ false
later_behind xs t p q i j up le at_i at_j behind = not_lt (posting_cmp q t) (λ e. false≢true (sym behind ∙ earlier_before xs t p q i j up le at_i at_j e))

-- ---- halving

power_more : (from now : ℕ) → from ≤ now → 2 ^ ((now + 1) - from) ≡ 2 ^ (now - from) * 2
power_more from now le =
    let more : (now + 1) - from ≡ suc (now - from) = omega arith in
    ap (λ n. 2 ^ n) more ∙ pow-suc 2 (now - from)

halved : (power width half size : ℕ) → power * width ≤ size → 2 * half ≤ width → (power * 2) * half ≤ size
halved power width half size le h =
    let scaled = mul-le-mul_left power h in
    omega (arith, le, scaled)

pays : (power width size : ℕ) → power * width ≤ size → 0 < width → power * 2 ≤ 2 * size + 1
pays power width size le h =
    let scaled = mul-le-mul_left power h in
    omega (arith, le, scaled)

-- what one more step pays for, where what is left is halved by it
pub step_pays : (from now low high low' high' size : ℕ) → from ≤ now → low < high → 2 * (high' - low') ≤ high - low → 2 ^ (now - from) * (high - low) ≤ size
    → (2 ^ ((now + 1) - from) * (high' - low') ≤ size) × (2 ^ ((now + 1) - from) ≤ 2 * size + 1)
step_pays from now low high low' high' size forward wide half le =
    let more = power_more from now forward in (
      subst (λ p. p * (high' - low') ≤ size) (sym more) (halved (2 ^ (now - from)) (high - low) (high' - low') size le half),
      subst (λ p. p ≤ 2 * size + 1) (sym more) (pays (2 ^ (now - from)) (high - low) size le (omega arith)),
    )

-- what is halved to nothing takes no more steps than it can be halved
pub few_steps : (from now size l : ℕ) → 2 ^ (now - from) ≤ 2 * size + 1 → IsHalvings size l → now - from ≤ l
few_steps from now size l le is = ⊎_elim
    (λ (lt : l < now - from). absurd (omega (arith, le, is.greatest, pow_mono {i = suc l} {j = now - from} lt)))
    (λ (ge : now - from ≤ l). ge)
    (cases_lt l (now - from))
