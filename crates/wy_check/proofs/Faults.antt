-- Which line is at fault, by what was weighed.
use Rattle.std.proofs.Common.{◌≡◌, ◌⊎◌, inl, inr, ◌+◌, ◌<◌, ◌≤◌, ◌^◌, ℕ, zero, suc, Bool, true, false, List, [], ◌∷◌, ◌++◌, ◌-◌, length, map, Option, Some, None, refl, sym, ap, ◌∙◌, subst, ⊎_elim, arith}
use Rattle.std.specs.Prelude.{Contains, slice_get}
use Rattle.std.proofs.lemmas.Bool.{false≢true, cases_lt}
use Rattle.std.proofs.lemmas.List.Elements.{Contains-append_left, Contains-append_cases}
use Rattle.std.proofs.lemmas.Option.{get_or_from_slice_get, none-some, same_Some, slice_get-get_or, slice_get_within}
use Rattle.wy_event.specs.Record.{Recorded}
use Rattle.wy_event.specs.Sources as records
use Rattle.wy_event.specs.Sources.{Owners, Source, sources, sources_of}
use Rattle.wy_why.specs.Sources.{source_of}
use Rattle.wy_why.specs.declared.source.Source as said
use Rattle.wy_why.specs.Answer.{Rises}
use Rattle.wy_why.proofs.Listing.{member_listed}
use Rattle.wy_cert.specs.declared.certificate.Certificate.{Certificate}
use Rattle.wy_cert.specs.declared.certificate.Listed.{Listed}
use Rattle.wy_cert.specs.Spelling.{events}
use Rattle.wy_cert.specs.Goodness.{AllSound, ComesFrom, IsFault, IsGood, IsLast, IsListed, IsSound, least, not_last}
use Rattle.wy_cert.proofs.Goodness.{line_of, listed_line}
use Rattle.wy_check.specs.declared.weighing.Weighing.{Weighing}
use Rattle.wy_check.specs.Faults.{IsFirstFault, IsWeighedWhole, IsWhole, SplitsAt}
use Rattle.wy_check.specs.Weighing.{IsNeeded, IsTold, IsWeighed}
use Rattle.wy_check.specs.Marks.{mark_of}
use Rattle.wy_check.proofs.Weights.{at_least, later_above, listed_at, place_of}

front_at : (xs ys : List Listed) (i : ℕ) (l : Listed) → slice_get (xs ++ ys) i ≡ Some l → (slice_get xs i ≡ Some l) ⊎ Contains ys l
front_at [] ys i l at = inr (listed_at ys i l at)
front_at (k ∷ xs) ys zero l at = inl at
front_at (k ∷ xs) ys (suc i) l at = front_at xs ys i l at

-- only an event that is there has sources
comes_there : (owner : Owners) (rs : List Recorded) (n w : ℕ) → ComesFrom owner rs n w → n < length rs
unfolding sources sources_of
comes_there owner rs n w comes = go (slice_get rs n) refl comes.1
  where
    go : (o : Option Recorded) → slice_get rs n ≡ o → Contains (sources_of owner rs o) (record { role = comes.0; event = w }) → n < length rs
    go None at has = absurd (omega (arith, has.1))
    go (Some r) at has = slice_get_within rs n r at

module _ (owner : Owners) (rs : List Recorded) (c : Certificate) (w : Weighing) (is : IsWeighedWhole owner rs c w) where
  all_weighed : (i : ℕ) (l : Listed) → slice_get is.front i ≡ Some l → i < length w.sound.items
  all_weighed i l at = ⊎_elim (λ lt. lt) (λ (le : length w.sound.items ≤ i). let above = is.weighed.ahead i l at le in let below = (at_least 0 is.end is.front i l is.within at).1 in absurd (omega (arith, above, below))) (cases_lt i (length w.sound.items))

  listed_whole : (n : ℕ) → Contains (events is.front) n → IsListed c n
  listed_whole n has =
      let line = line_of is.front n has in
      subst (IsListed c) line.2 (listed_line c.listed line.0 (subst (λ ls. Contains ls line.0) (sym is.splits.whole) (Contains-append_left is.front is.splits.others line.0 line.1)))

  -- a listed event that is there has its line in front
  listed_front : (n : ℕ) → IsListed c n → n < length rs → Contains (events is.front) n
  listed_front n has lt =
      let line = line_of c.listed n has in
      ⊎_elim
      (λ (front : Contains is.front line.0). subst (Contains (events is.front)) line.2 (listed_line is.front line.0 front))
      (λ (other : Contains is.splits.others line.0). let far = is.splits.above line.0 other in absurd (omega (arith, far, line.2, lt)))
      (Contains-append_cases is.front is.splits.others line.0 (subst (λ ls. Contains ls line.0) is.splits.whole line.1))

  -- what was weighed as it ought to be
  pub weighed_sound : (i : ℕ) (l : Listed) → slice_get c.listed i ≡ Some l → i < length w.sound.items → mark_of w.sound.items i ≡ true
      → ((l.event ≡ c.event) ⊎ (mark_of w.needed.items l.event ≡ true)) → IsSound owner rs c l
  weighed_sound i l at lt told needed = ⊎_elim in_front (λ (other : Contains is.splits.others l). absurd (beyond_front other)) (front_at is.front is.splits.others i l (subst (λ ls. slice_get ls i ≡ Some l) is.splits.whole at))
    where
      -- the places of the front come first
      beyond_front : Contains is.splits.others l → ⊥
      beyond_front other =
          let few = is.weighed.some in
          out is.front is.splits.others i l (subst (λ ls. slice_get ls i ≡ Some l) is.splits.whole at) (omega (arith, few, lt)) (λ (k : Listed) has. is.splits.below k has) (is.splits.above l other)
        where
          out : (xs ys : List Listed) (i : ℕ) (l : Listed) → slice_get (xs ++ ys) i ≡ Some l → i < length xs → ((k : Listed) → Contains xs k → k.event < length rs) → length rs ≤ l.event → ⊥
          out [] ys i l at lt below far = omega (arith, lt)
          out (k ∷ xs) ys zero l at lt below far = let same = ap (λ (m : Listed). m.event) (same_Some k l at) in let near = below k (0, omega arith, refl) in omega (arith, same, near, far)
          out (k ∷ xs) ys (suc i) l at lt below far = out xs ys i l at (omega (arith, lt)) (λ m has. below m (suc has.0, omega (arith, has.1), has.2)) far

      in_front : slice_get is.front i ≡ Some l → IsSound owner rs c l
      in_front at_i =
          let told_l = (is.weighed.told i l at_i lt).0 told in
          record {
            there = is.splits.below l (listed_at is.front i l at_i);
            sources = told_l.sources;
            closed = λ s has. listed_whole s.event (told_l.closed s has);
            needed = ⊎_elim (λ (asked : l.event ≡ c.event). inl asked)
                (λ (marked : mark_of w.needed.items l.event ≡ true).
                let one = (is.weighed.needed l.event (at_least 0 is.end is.front i l is.within at_i).1).0 marked in
                let below = is.weighed.sources one.place one.line one.there one.first l.event one.comes in
                inr (one.line.event, listed_whole one.line.event (listed_line is.front one.line (listed_at is.front one.place one.line one.there)), below, one.comes))
                needed;
          }

  -- what was not weighed is no event
  pub not_weighed : (i : ℕ) (l : Listed) → slice_get c.listed i ≡ Some l → length w.sound.items ≤ i → ¬ IsSound owner rs c l
  not_weighed i l at le sound = ⊎_elim
      (λ (in_front : slice_get is.front i ≡ Some l). let lt = all_weighed i l in_front in omega (arith, lt, le))
      (λ (other : Contains is.splits.others l). let far = is.splits.above l other in let near = sound.there in omega (arith, far, near))
      (front_at is.front is.splits.others i l (subst (λ ls. slice_get ls i ≡ Some l) is.splits.whole at))

  at_front : (i : ℕ) (l : Listed) → slice_get c.listed i ≡ Some l → IsSound owner rs c l → slice_get is.front i ≡ Some l
  at_front i l at sound = ⊎_elim (λ h. h)
      (λ (other : Contains is.splits.others l). let far = is.splits.above l other in let near = sound.there in absurd (omega (arith, far, near)))
      (front_at is.front is.splits.others i l (subst (λ ls. slice_get ls i ≡ Some l) is.splits.whole at))

  -- a line with other sources
  pub not_told : (i : ℕ) (l : Listed) → slice_get c.listed i ≡ Some l → i < length w.sound.items → mark_of w.sound.items i ≡ false → ¬ IsSound owner rs c l
  not_told i l at lt other sound =
      let at_i = at_front i l at sound in
      let told : IsTold owner rs is.front l = record {
        sources = sound.sources;
        closed = λ s has.
            let comes : ComesFrom owner rs l.event s.event = ((source_of s).role, (sound.sources.exact (source_of s)).0 (member_listed source_of l.sources (map source_of l.sources) s refl has)) in
            let below = is.weighed.sources i l at_i lt s.event comes in
            let near = sound.there in
            listed_front s.event (sound.closed s has) (omega (arith, below, near));
      } in
      false≢true (sym other ∙ (is.weighed.told i l at_i lt).1 told)

  -- a line that nothing needs
  pub not_needed : (i : ℕ) (l : Listed) → slice_get c.listed i ≡ Some l → (l.event ≡ c.event → ⊥) → mark_of w.needed.items l.event ≡ false → ¬ IsSound owner rs c l
  not_needed i l at apart unmarked sound =
      let at_i = at_front i l at sound in
      ⊎_elim apart
      (λ (next : (n : ℕ) × IsListed c n × (l.event < n) × ComesFrom owner rs n l.event).
      let front = listed_front next.0 next.1 (comes_there owner rs next.0 l.event next.3) in
      let line = line_of is.front next.0 front in
      let place = place_of is.front line.0 line.1 in
      let one : IsNeeded owner rs is.front (length w.sound.items) l.event = record {
        place = place.0;
        line = line.0;
        first = all_weighed place.0 line.0 place.1;
        there = place.1;
        comes = subst (λ n. ComesFrom owner rs n l.event) (sym line.2) next.3;
      } in
      false≢true (sym unmarked ∙ (is.weighed.needed l.event (at_least 0 is.end is.front i l is.within at_i).1).1 one))
      sound.needed

  -- sources of a line in front are below its event
  pub front_below : (i : ℕ) (l : Listed) → slice_get c.listed i ≡ Some l → IsSound owner rs c l → (j : ℕ) → ComesFrom owner rs l.event j → j < l.event
  front_below i l at sound j comes =
      let at_i = at_front i l at sound in
      is.weighed.sources i l at_i (all_weighed i l at_i) j comes

  pub whole : AllSound owner rs c → IsLast c → IsWhole owner rs c
  whole sound last = record {
    sound = sound;
    last = last;
    rises = is.rises;
    below = λ l has j comes. let place = place_of c.listed l has in front_below place.0 l place.1 (sound l has) j comes;
  }

-- ---- the first line at fault

pub first_is_least : (owner : Owners) (rs : List Recorded) (c : Certificate) (high : ℕ) → Rises 0 high (events c.listed) → (i : ℕ) (l : Listed) → slice_get c.listed i ≡ Some l → ¬ IsSound owner rs c l
    → ((j : ℕ) (k : Listed) → slice_get c.listed j ≡ Some k → j < i → IsSound owner rs c k) → (n : ℕ) → n ≡ l.event → IsFirstFault owner rs c n
first_is_least owner rs c high up i l at unsound before n is = record {
  line = l;
  is = is;
  there = listed_at c.listed i l at;
  unsound = unsound;
  least = λ k has lt.
      let place = place_of c.listed k has in
      ⊎_elim
      (λ (front : place.0 < i). before place.0 k place.1 front)
      (λ (behind : i ≤ place.0). absurd (not_behind place.0 k place.1 lt behind))
      (cases_lt place.0 i);
}
  where
    not_behind : (j : ℕ) (k : Listed) → slice_get c.listed j ≡ Some k → k.event < l.event → i ≤ j → ⊥
    not_behind j k at_j lt le = ⊎_elim
        (λ (here : i < j). let later = later_above 0 high c.listed i j l k up here at at_j in omega (arith, later, lt))
        (λ (there : j ≤ i).
        let place : j ≡ i = omega (arith, there, le) in
        let same = ap (λ (m : Listed). m.event) (same_Some k l (sym at_j ∙ ap (slice_get c.listed) place ∙ at)) in
        omega (arith, same, lt))
        (cases_lt i j)

pub all_are_sound : (owner : Owners) (rs : List Recorded) (c : Certificate) → ((j : ℕ) (k : Listed) → slice_get c.listed j ≡ Some k → IsSound owner rs c k) → AllSound owner rs c
all_are_sound owner rs c each l has = let place = place_of c.listed l has in each place.0 l place.1

pub as_fault : (owner : Owners) (rs : List Recorded) (c : Certificate) (n : ℕ) → IsFirstFault owner rs c n → IsFault owner rs c n
as_fault owner rs c n first = subst (IsFault owner rs c) (sym first.is) (least first.line first.there first.unsound first.least)

-- the event of the last line is the greatest
pub last_greatest : (c : Certificate) (high i : ℕ) (l : Listed) → Rises 0 high (events c.listed) → slice_get c.listed i ≡ Some l → length c.listed ≡ suc i → l.event ≡ c.event → IsLast c
last_greatest c high i l up at last asked = record {
  listed = subst (IsListed c) asked (listed_line c.listed l (listed_at c.listed i l at));
  greatest = λ n has.
      let line = line_of c.listed n has in
      let place = place_of c.listed line.0 line.1 in
      let within = slice_get_within c.listed place.0 line.0 place.1 in
      ⊎_elim
      (λ (front : place.0 < i). let later = later_above 0 high c.listed place.0 i line.0 l up front place.1 at in omega (arith, later, line.2, asked))
      (λ (behind : i ≤ place.0).
      let same_place : place.0 ≡ i = omega (arith, behind, within, last) in
      let same = ap (λ (m : Listed). m.event) (same_Some line.0 l (sym place.1 ∙ ap (slice_get c.listed) same_place ∙ at)) in
      omega (arith, same, line.2, asked))
      (cases_lt place.0 i);
}

pub not_the_last : (c : Certificate) (high i : ℕ) (l : Listed) → Rises 0 high (events c.listed) → slice_get c.listed i ≡ Some l → length c.listed ≡ suc i → (l.event ≡ c.event → ⊥) → ¬ IsLast c
not_the_last c high i l up at last apart is =
    let greatest = is.greatest l.event (listed_line c.listed l (listed_at c.listed i l at)) in
    let line = line_of c.listed c.event is.listed in
    let place = place_of c.listed line.0 line.1 in
    let within = slice_get_within c.listed place.0 line.0 place.1 in
    ⊎_elim
    (λ (front : place.0 < i). let later = later_above 0 high c.listed place.0 i line.0 l up front place.1 at in omega (arith, later, line.2, greatest))
    (λ (behind : i ≤ place.0).
    let same_place : place.0 ≡ i = omega (arith, behind, within, last) in
    let same = ap (λ (m : Listed). m.event) (same_Some line.0 l (sym place.1 ∙ ap (slice_get c.listed) same_place ∙ at)) in
    apart (sym same ∙ line.2))
    (cases_lt place.0 i)

pub none_is_last : (c : Certificate) → c.listed ≡ [] → ¬ IsLast c
none_is_last c none is = let has = subst (λ ls. Contains (events ls) c.event) none is.listed in omega (arith, has.1)

-- what is good has no fault
pub good_no_fault : (owner : Owners) (rs : List Recorded) (seal : List ℕ) (c : Certificate) (n : ℕ) → IsGood owner rs seal c → IsFault owner rs c n → ⊥
good_no_fault owner rs seal c _ good (least l has unsound before) = unsound (good.sound l has)
good_no_fault owner rs seal c _ good (not_last sound not) = not good.last

-- ---- what was found at a place

pub mark_at : (marks ms : List Bool) (i : ℕ) (b d : Bool) → Some b ≡ slice_get ms i → ms ≡ marks → b ≡ d → (i < length marks) × (mark_of marks i ≡ d)
mark_at marks ms i b d at same is =
    let there = subst (λ l. Some b ≡ slice_get l i) same at in
    (slice_get_within marks i b (sym there), get_or_from_slice_get marks i b false (sym there) ∙ is)

pub no_mark : (marks ms : List Bool) (i : ℕ) → None ≡ slice_get ms i → ms ≡ marks → length marks ≤ i
no_mark marks ms i none same = ⊎_elim (λ (lt : i < length marks). absurd (none-some _ (subst (λ l. None ≡ slice_get l i) same none ∙ slice_get-get_or marks i false lt))) (λ le. le) (cases_lt i (length marks))

pub marked_if : (b : Bool) → (b ≡ false → ⊥) → b ≡ true
marked_if true apart = refl
marked_if false apart = absurd (apart refl)

-- the last of some lines
pub last_place : (ls : List Listed) (l : Listed) → slice_get ls (length ls - 1) ≡ Some l → length ls ≡ suc (length ls - 1)
last_place ls l at = let lt = slice_get_within ls (length ls - 1) l at in omega (arith, lt)

pub no_last : (ls : List Listed) → None ≡ slice_get ls (length ls - 1) → ls ≡ []
no_last [] none = refl
no_last (l ∷ ls) none = absurd (none-some _ (none ∙ slice_get-get_or (l ∷ ls) (length (l ∷ ls) - 1) l (omega arith)))
