-- One step down: what is known of the events from k on is known of those from k - 1 on.
use Rattle.std.proofs.Common.{◌≡◌, inl, inr, ◌+◌, ◌-◌, ◌*◌, ◌<◌, ◌≤◌, ℕ, zero, suc, Bool, true, false, ◌||◌, cond, List, [], ◌∷◌, ◌++◌, length, get_or, take, drop, length-append, zero-add, Option, Some, None, Result, Ok, Err, refl, sym, ap, ap₂, ◌∙◌, subst, ⊎_elim, add-one, arith}
use Rattle.std.specs.Prelude.{if◌then◌else◌, filter, reverse, slice_get, IfSome, OnOk}
use Rattle.std.specs.List.{range_with_len}
use Rattle.std.proofs.Math.Seq.{take-append_seam}
use Rattle.std.proofs.lemmas.Bool.{false≢true, cases_eq}
use Rattle.wy_event.specs.Numbers.{none, only, union_of}
use Rattle.wy_event.specs.Record.{Recorded}
use Rattle.wy_event.specs.Sources.{Owners, Source, source_events, sources, sources_of, event_sources}
use Rattle.wy_view.specs.References.{RefersBelow}
use Rattle.wy_view.specs.Counts.{RoseAtMost}
use Rattle.wy_view.specs.View.{Told, Keeps, ReadsOnce, KeepsCounts}
use Rattle.wy_why.specs.declared.mark.Mark.{Mark}
use Rattle.wy_why.specs.declared.mark.Mark.TheVariants.{Out}
use Rattle.wy_why.specs.Marks.{is_marked, marked, taken}
use Rattle.wy_why.specs.Uses.{places_of, places_in}
use Rattle.wy_why.specs.declared.walk.Walk.{Walk}
use Rattle.wy_why.specs.Walk.{closure_of, IsThrough, IsDown, IsVisited, marked_from}
use Rattle.wy_view.specs.declared.view.ViewError.{ViewError}
use Rattle.wy_view.proofs.Views.{keeps_on, more_reads, one_read}
use Rattle.wy_index.specs.declared.index.Index.{Index}
use Rattle.wy_index.specs.Index.{owners_of}
use Rattle.wy_why.proofs.Marking.{or_no}
use Rattle.std.proofs.lemmas.List.Sums.{sum_by-append}
use Rattle.std.proofs.lemmas.List.{reverse-append, get_or_default}
use Rattle.wy_why.proofs.Closures.{Among, or_cases, or_left, or_right, only_itself, itself_only, EventsBelow, among_below, sources_below, closure_cases, closure_itself, closure_source}

not_true : (b : Bool) → (b ≡ true → ⊥) → b ≡ false
not_true true h = absurd (h refl)
not_true false h = refl

-- what a slice was left as is what the list is then
pub written_back : {X : Type 0} (len : ℕ) (new old : List X) → length old ≡ len → length new ≡ length old → take len (new ++ drop (length new) old) ≡ new
written_back len new old is same = ap (λ k. take k (new ++ drop (length new) old)) (sym is ∙ sym same) ∙ take-append_seam new (drop (length new) old)

-- ---- what is told

pub told_one : {X : Type 0} (o : Option X) (x y : X) → o ≡ Some x → IfSome o (λ z. z ≡ y) → x ≡ y
told_one {X} o x y is same = let P : Option X → Type 0 = λ p. IfSome p (λ z. z ≡ y) in subst P is same

pub told_record : (o : Option (List Recorded)) (rs : List Recorded) (k : ℕ) (e : Recorded) → o ≡ Some rs → IfSome o (λ t. slice_get t k ≡ Some e) → slice_get rs k ≡ Some e
told_record o rs k e is at = subst (λ p. IfSome p (λ t. slice_get t k ≡ Some e)) is at

pub sources_at : (owner : Owners) (rs : List Recorded) (k : ℕ) (e : Recorded) → slice_get rs k ≡ Some e → sources owner rs k ≡ event_sources owner rs e
unfolding sources sources_of
sources_at owner rs k e at = ap (sources_of owner rs) at

-- ---- what is not marked anew

among_taken : (all flow : Bool) (n : ℕ) (ss : List Source) (w : ℕ) → EventsBelow n ss → Among w (taken all flow ss) → w < n
among_taken true flow n ss w below at = among_below true n ss w below at
among_taken false true n ss w below at = among_below false n ss w below at
among_taken false false n ss w below at = absurd at

pub not_taken : (all flow : Bool) (k : ℕ) (ss : List Source) (j : ℕ) → EventsBelow k ss → k ≤ j → union_of only (taken all flow ss) j ≡ false
not_taken all flow k ss j below le = not_true (union_of only (taken all flow ss) j) (λ is. omega (arith, le, among_taken all flow k ss j below (only_itself (taken all flow ss) j is)))

-- ---- the closure

module _ (owner : Owners) (all : Bool) (rs : List Recorded) (n k : ℕ) (marks new : List Mark) where
  -- an event that is marked, with all its sources marked
  pub go_on : marked all marks k ≡ true → ((j : ℕ) → marked all new j ≡ (marked all marks j || union_of only (source_events all (sources owner rs k)) j))
      → ((w : ℕ) → Among w (source_events all (sources owner rs k)) → w < k) → IsThrough owner all rs n (suc k) marks → IsThrough owner all rs n k new
  go_on here more below through = record {
    onward = λ j is. ⊎_elim
        (λ (gone : (marked all marks j ≡ true) × (suc k ≤ j)). inl (kept j gone.0, omega (arith, gone.1)))
        (λ (still : (w : ℕ) × (w < suc k) × (marked all marks w ≡ true) × (closure_of owner all rs w j ≡ true)). ⊎_elim
        (λ (e : still.0 ≡ k). ⊎_elim
        (λ (itself : j ≡ k). inl (kept j (ap (marked all marks) itself ∙ here), omega (arith, itself)))
        (λ (source : (w : ℕ) × Among w ws × (w < k) × (closure_of owner all rs w j ≡ true)). inr (source.0, source.2, added source.0 source.1, source.3))
        (closure_cases owner all rs k j (ap (λ m. closure_of owner all rs m j) (sym e) ∙ still.3)))
        (λ (apart : still.0 ≡ k → ⊥). inr (still.0, omega (arith, still.1, apart), kept still.0 still.2, still.3))
        (cases_eq still.0 k))
        (through.onward j is);
    back = λ j reached. ⊎_elim
        (λ (gone : (marked all new j ≡ true) × (k ≤ j)). ⊎_elim
        (λ (old : marked all marks j ≡ true). ⊎_elim
        (λ (e : j ≡ k). from_here j (ap (λ m. closure_of owner all rs k m) e ∙ closure_itself owner all rs k))
        (λ (apart : j ≡ k → ⊥). through.back j (inl (old, omega (arith, gone.1, apart))))
        (cases_eq j k))
        (λ (added_one : union_of only ws j ≡ true). absurd (omega (arith, gone.1, below j (only_itself ws j added_one))))
        (or_cases (marked all marks j) (union_of only ws j) (sym (more j) ∙ gone.0)))
        (λ (still : (w : ℕ) × (w < k) × (marked all new w ≡ true) × (closure_of owner all rs w j ≡ true)). ⊎_elim
        (λ (old : marked all marks still.0 ≡ true). through.back j (inr (still.0, omega (arith, still.1), old, still.3)))
        (λ (added_one : union_of only ws still.0 ≡ true). from_here j (closure_source owner all rs k still.0 j (only_itself ws still.0 added_one) still.1 still.3))
        (or_cases (marked all marks still.0) (union_of only ws still.0) (sym (more still.0) ∙ still.2)))
        reached;
  }
    where
      ws : List ℕ
      ws = source_events all (sources owner rs k)

      kept : (j : ℕ) → marked all marks j ≡ true → marked all new j ≡ true
      kept j is = more j ∙ or_left (marked all marks j) (union_of only ws j) is

      added : (w : ℕ) → Among w ws → marked all new w ≡ true
      added w at = more w ∙ or_right (marked all marks w) (union_of only ws w) (itself_only ws w at)

      from_here : (j : ℕ) → closure_of owner all rs k j ≡ true → closure_of owner all rs n j ≡ true
      from_here j is = through.back j (inr (k, omega arith, here, is))

  -- an event that isn't marked
  pub pass_by : marked all marks k ≡ false → ((j : ℕ) → marked all new j ≡ marked all marks j) → IsThrough owner all rs n (suc k) marks → IsThrough owner all rs n k new
  pass_by not_here same through = record {
    onward = λ j is. ⊎_elim
        (λ (gone : (marked all marks j ≡ true) × (suc k ≤ j)). inl (same j ∙ gone.0, omega (arith, gone.1)))
        (λ (still : (w : ℕ) × (w < suc k) × (marked all marks w ≡ true) × (closure_of owner all rs w j ≡ true)). inr (still.0, omega (arith, still.1, apart still.0 still.2), same still.0 ∙ still.2, still.3))
        (through.onward j is);
    back = λ j reached. ⊎_elim
        (λ (gone : (marked all new j ≡ true) × (k ≤ j)). let old = sym (same j) ∙ gone.0 in through.back j (inl (old, omega (arith, gone.1, apart j old))))
        (λ (still : (w : ℕ) × (w < k) × (marked all new w ≡ true) × (closure_of owner all rs w j ≡ true)). through.back j (inr (still.0, omega (arith, still.1), sym (same still.0) ∙ still.2, still.3)))
        reached;
  }
    where
      apart : (w : ℕ) → marked all marks w ≡ true → w ≡ k → ⊥
      apart w is e = false≢true (sym not_here ∙ ap (marked all marks) (sym e) ∙ is)

-- ---- the lists

pub same_range : (p q : ℕ → Bool) (low len : ℕ) → ((j : ℕ) → low ≤ j → p j ≡ q j) → filter p (range_with_len low len) ≡ filter q (range_with_len low len)
same_range p q low zero same = refl
same_range p q low (suc len) same = ap₂ (λ b l. cond b (low ∷ l) l) (same low (omega arith)) (same_range p q (low + 1) len (λ j le. same j (omega (arith, le))))

from_here : (all : Bool) (marks : List Mark) (k n : ℕ) → k ≤ n → marked_from all marks k n ≡ cond (marked all marks k) (k ∷ marked_from all marks (suc k) n) (marked_from all marks (suc k) n)
from_here all marks k n le =
    let more : suc n - k ≡ suc (suc n - suc k) = omega arith in
    ap (λ m. filter (marked all marks) (range_with_len k m)) more
    ∙ ap (λ a. cond (marked all marks k) (k ∷ filter (marked all marks) (range_with_len a (suc n - suc k))) (filter (marked all marks) (range_with_len a (suc n - suc k)))) (add-one k)

pub lists_on : (all b : Bool) (marks new : List Mark) (k n : ℕ) → k ≤ n → ((j : ℕ) → k ≤ j → marked all new j ≡ marked all marks j) → marked all marks k ≡ b
    → cond b (k ∷ marked_from all marks (suc k) n) (marked_from all marks (suc k) n) ≡ marked_from all new k n
lists_on all b marks new k n le stay is =
    ap₂ (λ c l. cond c (k ∷ l) l) (sym is ∙ sym (stay k (omega arith))) (same_range (marked all marks) (marked all new) (suc k) (suc n - suc k) (λ j more. sym (stay j (omega (arith, more)))))
    ∙ sym (from_here all new k n le)

pub one_kept : (all : List ℕ) (k : ℕ) → reverse (all ++ k ∷ []) ≡ k ∷ reverse all
one_kept all k = reverse-append all (k ∷ [])

-- ---- one step

sources_are_below : (owner : Owners) (rs : List Recorded) (k : ℕ) → ((r : Recorded) → slice_get rs k ≡ Some r → RefersBelow k r) → (all : Bool) (w : ℕ) → Among w (source_events all (sources owner rs k)) → w < k
unfolding sources sources_of source_events
sources_are_below owner rs k below all w at = go (slice_get rs k) refl at
  where
    go : (o : Option Recorded) → slice_get rs k ≡ o → Among w (source_events all (sources_of owner rs o)) → w < k
    go None is one = absurd one
    go (Some r) is one = among_below all k (event_sources owner rs r) w (sources_below owner rs k r (below r is)) one

through_on : (owner : Owners) (rs : List Recorded) (n k : ℕ) (flow : Bool) (marks new : List Mark) → marked true marks k ≡ true → marked false marks k ≡ flow
    → ((all : Bool) (j : ℕ) → marked all new j ≡ (marked all marks j || union_of only (taken all flow (sources owner rs k)) j))
    → ((r : Recorded) → slice_get rs k ≡ Some r → RefersBelow k r) → (all : Bool) → IsThrough owner all rs n (suc k) marks → IsThrough owner all rs n k new
unfolding union_of none
through_on owner rs n k flow marks new here in_flow more below true through = go_on owner true rs n k marks new here (more true) (sources_are_below owner rs k below true) through
through_on owner rs n k true marks new here in_flow more below false through = go_on owner false rs n k marks new in_flow (more false) (sources_are_below owner rs k below false) through
through_on owner rs n k false marks new here in_flow more below false through = pass_by owner false rs n k marks new in_flow (λ j. more false j ∙ or_no (marked false marks j)) through

module _ (index : Index) (start a b : Told) (first s last n k : ℕ) (flow : Bool) (old new : Walk) where
  pub down_visited : IsDown index start a first s n (suc k) old → k ≤ n → IsVisited index a s last k flow old new → Keeps a b → ReadsOnce a b → b.faults ≡ a.faults → s ≤ last
      → marked true old.marks.items k ≡ true → marked false old.marks.items k ≡ flow → IsDown index start b first last n k new
  down_visited down le visited keeps reads faults forward here in_flow = record {
    room = visited.room ∙ down.room;
    all = ap reverse visited.in_all ∙ one_kept old.all.items k ∙ ap (λ l. k ∷ l) down.all ∙ lists_on true true old.marks.items new.marks.items k n le (visited.stay true) here;
    flow = ap reverse visited.in_flow ∙ kept flow ∙ ap (λ l. cond flow (k ∷ l) l) down.flow ∙ lists_on false flow old.marks.items new.marks.items k n le (visited.stay false) in_flow;
    through = λ rs is all.
        let told : a.records ≡ Some rs = down.keeps.records ∙ is in
        through_on (owners_of index) rs n k flow old.marks.items new.marks.items here in_flow (visited.marks rs told) (visited.below rs told) all (down.through rs is all);
    keeps = keeps_on start a b down.keeps keeps;
    faults = faults ∙ down.faults;
    reads = subst (λ m. RoseAtMost m start.reads b.reads) (sym longer) (more_reads (length old.all.items) 1 start.reads a.reads b.reads down.reads (one_read a.reads b.reads reads));
    forward = omega (arith, down.forward, forward);
    steps = λ rs is l halvings.
        let told : a.records ≡ Some rs = down.keeps.records ∙ is in
        let places : places_in rs new.all.items ≡ places_in rs old.all.items + places_of (slice_get rs k) = ap (places_in rs) visited.in_all ∙ sum_by-append (λ m. places_of (slice_get rs m)) old.all.items (k ∷ []) ∙ ap (λ m. places_in rs old.all.items + m) (zero-add (places_of (slice_get rs k))) in
        subst (λ m. last ≤ first + (length new.all.items + m * (l + 1))) (sym places) (omega (arith, longer, down.steps rs is l halvings, visited.steps rs told l halvings));
  }
    where
      longer : length new.all.items ≡ length old.all.items + 1
      longer = ap length visited.in_all ∙ length-append old.all.items (k ∷ [])

      kept : (f : Bool) → reverse (if f then old.flow.items ++ k ∷ [] else old.flow.items) ≡ cond f (k ∷ reverse old.flow.items) (reverse old.flow.items)
      kept true = one_kept old.flow.items k
      kept false = refl

pub down_passed : (index : Index) (start a : Told) (first s n k : ℕ) (walk : Walk) → IsDown index start a first s n (suc k) walk → k ≤ n
    → marked true walk.marks.items k ≡ false → marked false walk.marks.items k ≡ false → IsDown index start a first s n k walk
down_passed index start a first s n k walk down le out not_flow = record {
  room = down.room;
  all = down.all ∙ lists_on true false walk.marks.items walk.marks.items k n le (λ j more. refl) out;
  flow = down.flow ∙ lists_on false false walk.marks.items walk.marks.items k n le (λ j more. refl) not_flow;
  through = λ rs is all. pass_by (owners_of index) all rs n k walk.marks.items walk.marks.items (both all) (λ j. refl) (down.through rs is all);
  keeps = down.keeps;
  faults = down.faults;
  reads = down.reads;
  forward = down.forward;
  steps = down.steps;
}
  where
    both : (all : Bool) → marked all walk.marks.items k ≡ false
    both true = out
    both false = not_flow

-- what follows where all went well
pub then_so : {X : Type 0} (r : Result X ViewError) (A B : Type 0) (a b : Told) → OnOk r A → KeepsCounts r a b → (A → b.faults ≡ a.faults → B) → OnOk r B
then_so (Ok x) A B a b well answers go = go well answers
then_so (Err e) A B a b well answers go = tt

-- what the mark of an event says
pub mark_at : (marks : List Mark) (k : ℕ) (x m : Mark) → k < length marks → x ≡ get_or marks k x → x ≡ m → (all : Bool) → marked all marks k ≡ is_marked all m
mark_at marks k x m lt at is all = ap (is_marked all) (get_or_default marks k Out x lt ∙ sym at ∙ is)
