-- Where a walk begins, and what it has found at its end.
use Rattle.std.proofs.Common.{◌≡◌, inl, inr, ◌+◌, ◌-◌, ◌<◌, ◌≤◌, ℕ, zero, suc, Bool, true, false, ◌||◌, ◌&&◌, cond, List, [], ◌∷◌, length, refl, sym, ap, ◌∙◌, subst, ⊎_elim, replicate, eq-eqb, eqb-true, add-one, arith}
use Rattle.std.specs.Prelude.{nat_eq, filter, reverse, slice_get}
use Rattle.std.specs.List.{range_with_len}
use Rattle.std.proofs.lemmas.Bool.{cases_lt}
use Rattle.std.proofs.lemmas.List.{get_or-replicate, get_or_past, length-replicate}
use Rattle.std.proofs.lemmas.List.Sorted.{IsPermutation-reverse, sum_by-IsPermutation}
use Rattle.wy_event.specs.Record.{Recorded}
use Rattle.wy_event.specs.Sources.{Owners, closure, data_closure}
use Rattle.wy_view.specs.Counts.{RoseAtMost}
use Rattle.wy_view.specs.View.{Told}
use Rattle.wy_view.proofs.Views.{keeps_itself, no_reads}
use Rattle.wy_index.specs.declared.index.Index.{Index}
use Rattle.wy_index.specs.Index.{owners_of}
use Rattle.wy_why.specs.declared.mark.Mark.{Mark}
use Rattle.wy_why.specs.declared.mark.Mark.TheVariants.{Out}
use Rattle.wy_why.specs.declared.walk.Walk.{Walk}
use Rattle.wy_why.specs.Answer.{up_to, Rises}
use Rattle.wy_why.specs.Marks.{is_marked, marked}
use Rattle.wy_why.specs.Uses.{places_of, places_in}
use Rattle.wy_why.specs.Walk.{closure_of, IsThrough, IsDown, marked_from}
use Rattle.wy_why.proofs.Walking.{same_range}

-- ---- the beginning

pub all_out : (all : Bool) (n j : ℕ) → marked all (replicate n Out) j ≡ false
all_out all n j = ap (is_marked all) (⊎_elim (λ (lt : j < n). get_or-replicate n j Out Out lt) (λ (ge : n ≤ j). get_or_past (replicate n Out) j Out (omega (arith, length-replicate n Out, ge))) (cases_lt j n))

pub as_flow : (all b : Bool) → (false || ((all || true) && b)) ≡ b
as_flow true b = refl
as_flow false b = refl

begins_through : (owner : Owners) (all : Bool) (rs : List Recorded) (n : ℕ) (marks : List Mark) → ((j : ℕ) → marked all marks j ≡ nat_eq j n) → IsThrough owner all rs n (suc n) marks
begins_through owner all rs n marks alone = record {
  onward = λ j is. inr (n, omega arith, alone n ∙ eq-eqb n n refl, is);
  back = λ j reached. ⊎_elim
      (λ (gone : (marked all marks j ≡ true) × (suc n ≤ j)). absurd (omega (arith, gone.1, eqb-true j n (sym (alone j) ∙ gone.0))))
      (λ (still : (w : ℕ) × (w < suc n) × (marked all marks w ≡ true) × (closure_of owner all rs w j ≡ true)). ap (λ w. closure_of owner all rs w j) (sym (eqb-true still.0 n (sym (alone still.0) ∙ still.2))) ∙ still.3)
      reached;
}

none_from : (all : Bool) (marks : List Mark) (n : ℕ) → [] ≡ marked_from all marks (suc n) n
none_from all marks n = let none : 0 ≡ suc n - suc n = omega arith in ap (λ m. filter (marked all marks) (range_with_len (suc n) m)) none

begins_down : (index : Index) (told : Told) (first n : ℕ) (walk : Walk) → length walk.marks.items ≡ suc n → ((all : Bool) (j : ℕ) → marked all walk.marks.items j ≡ nat_eq j n) → walk.all.items ≡ [] → walk.flow.items ≡ []
    → IsDown index told told first first n (suc n) walk
begins_down index told first n walk room alone none_all none_flow = record {
  room = room;
  all = ap reverse none_all ∙ none_from true walk.marks.items n;
  flow = ap reverse none_flow ∙ none_from false walk.marks.items n;
  through = λ rs is all. begins_through (owners_of index) all rs n walk.marks.items (alone all);
  keeps = keeps_itself told;
  faults = refl;
  reads = subst (λ m. RoseAtMost m told.reads told.reads) (sym (ap length none_all)) (no_reads told.reads);
  forward = omega arith;
  steps = λ rs is l halvings. omega arith;
}

pub begins_at : (index : Index) (told : Told) (first n : ℕ) (walk : Walk) → length walk.marks.items ≡ n + 1 → ((all : Bool) (j : ℕ) → marked all walk.marks.items j ≡ nat_eq j n) → walk.all.items ≡ [] → walk.flow.items ≡ []
    → IsDown index told told first first n (n + 1) walk
begins_at index told first n walk room alone none_all none_flow = subst (λ k. IsDown index told told first first n k walk) (sym (add-one n)) (begins_down index told first n walk (room ∙ add-one n) alone none_all none_flow)

-- ---- the end

two_tests : (a b : Bool) → (a ≡ true → b ≡ true) → (b ≡ true → a ≡ true) → a ≡ b
two_tests true b onward back = sym (onward refl)
two_tests false true onward back = back refl
two_tests false false onward back = refl

ends_through : (owner : Owners) (all : Bool) (rs : List Recorded) (n : ℕ) (marks : List Mark) → IsThrough owner all rs n 0 marks → (j : ℕ) → marked all marks j ≡ closure_of owner all rs n j
ends_through owner all rs n marks through j = two_tests (marked all marks j) (closure_of owner all rs n j)
    (λ is. through.back j (inl (is, omega arith)))
    (λ is. ⊎_elim (λ (gone : (marked all marks j ≡ true) × (0 ≤ j)). gone.0)
    (λ (still : (w : ℕ) × (w < 0) × (marked all marks w ≡ true) × (closure_of owner all rs w j ≡ true)). absurd (omega (arith, still.1)))
    (through.onward j is))

whole : (n : ℕ) → suc n - 0 ≡ suc n
whole n = omega arith

pub ends_all : (owner : Owners) (rs : List Recorded) (n : ℕ) (marks : List Mark) → IsThrough owner true rs n 0 marks → marked_from true marks 0 n ≡ up_to n (closure owner rs n)
unfolding closure
ends_all owner rs n marks through = ap (λ m. filter (marked true marks) (range_with_len 0 m)) (whole n) ∙ same_range (marked true marks) (closure_of owner true rs n) 0 (suc n) (λ j le. ends_through owner true rs n marks through j)

pub ends_flow : (owner : Owners) (rs : List Recorded) (n : ℕ) (marks : List Mark) → IsThrough owner false rs n 0 marks → marked_from false marks 0 n ≡ up_to n (data_closure owner rs n)
unfolding data_closure
ends_flow owner rs n marks through = ap (λ m. filter (marked false marks) (range_with_len 0 m)) (whole n) ∙ same_range (marked false marks) (closure_of owner false rs n) 0 (suc n) (λ j le. ends_through owner false rs n marks through j)

lower : (low high : ℕ) (ns : List ℕ) → Rises (suc low) high ns → Rises low high ns
lower low high [] up = tt
lower low high (n ∷ ns) up = (omega (arith, up.0), up.1, up.2)

pub range_rises : (p : ℕ → Bool) (low len high : ℕ) → low + len ≤ high → Rises low high (filter p (range_with_len low len))
range_rises p low zero high le = tt
range_rises p low (suc len) high le = go (p low) (subst (λ a. Rises a high (filter p (range_with_len (low + 1) len))) (add-one low) (range_rises p (low + 1) len high (omega (arith, le))))
  where
    go : (b : Bool) → Rises (suc low) high (filter p (range_with_len (low + 1) len)) → Rises low high (cond b (low ∷ filter p (range_with_len (low + 1) len)) (filter p (range_with_len (low + 1) len)))
    go true rest = (omega arith, omega (arith, le), rest)
    go false rest = lower low high (filter p (range_with_len (low + 1) len)) rest

pub ends_rising : (all : Bool) (marks : List Mark) (n : ℕ) → Rises 0 (n + 1) (marked_from all marks 0 n)
ends_rising all marks n = range_rises (marked all marks) 0 (suc n - 0) (n + 1) (omega arith)

pub same_places : (rs : List Recorded) (events : List ℕ) → places_in rs (reverse events) ≡ places_in rs events
same_places rs events = sum_by-IsPermutation (λ n. places_of (slice_get rs n)) events (reverse events) (IsPermutation-reverse events)
