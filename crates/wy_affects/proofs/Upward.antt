-- One step up: what is known of the events below k is known of those below k + 1.
use Rattle.std.proofs.Common.{◌≡◌, ◌+◌, ◌-◌, ◌<◌, ◌≤◌, ℕ, suc, Bool, true, false, cond, List, [], ◌∷◌, ◌++◌, length, length-append, Some, refl, sym, ap, ap₂, ◌∙◌, subst, ⊎_elim, add-one, arith}
use Rattle.std.specs.List.{range_with_len}
use Rattle.std.specs.Prelude.{filter, nat_eq, slice_get}
use Rattle.std.proofs.lemmas.Bool.{cases_eq}
use Rattle.std.proofs.lemmas.List.{get_or_append_left}
use Rattle.std.proofs.Math.Seq.{get_or-append_seam}
use Rattle.wy_event.specs.Record.{Recorded}
use Rattle.wy_event.specs.Sources.{Owners, closure, data_closure, event_sources}
use Rattle.wy_view.specs.Counts.{RoseAtMost}
use Rattle.wy_view.specs.References.{RefersBelow}
use Rattle.wy_view.specs.View.{Keeps, ReadsOnce, Told}
use Rattle.wy_view.proofs.Views.{keeps_itself, keeps_on, more_reads, no_reads, one_read}
use Rattle.wy_index.specs.declared.index.Index.{Index}
use Rattle.wy_index.specs.Index.{owners_of}
use Rattle.wy_why.specs.declared.mark.Mark.{Mark}
use Rattle.wy_why.specs.declared.mark.Mark.TheVariants.{Out}
use Rattle.wy_why.specs.Answer.{Rises}
use Rattle.wy_why.specs.Marks.{is_marked, marked}
use Rattle.wy_why.specs.Walk.{closure_of}
use Rattle.wy_why.proofs.Ends.{range_rises}
use Rattle.wy_affects.specs.declared.pass.Pass.{Pass}
use Rattle.wy_affects.specs.Affected.{above_with, affected, affected_by_data}
use Rattle.wy_affects.specs.Given.{is_given, listed}
use Rattle.wy_affects.specs.Pass.{IsUp, marked_above}
use Rattle.wy_affects.proofs.Giving.{given_is, itself_alone}
use Rattle.wy_affects.proofs.Ranges.{one_more, same_within}

-- ---- the beginning

none_above : (all : Bool) (marks : List Mark) (e : ℕ) → [] ≡ marked_above all marks e (suc e)
none_above all marks e = let none : 0 ≡ suc e - suc e = omega arith in ap (λ n. filter (marked all marks) (range_with_len (suc e) n)) none

pub begins_up : (index : Index) (told : Told) (e : ℕ) (pass : Pass) → length pass.marks.items ≡ e + 1 → ((all : Bool) (j : ℕ) → marked all pass.marks.items j ≡ nat_eq j e) → pass.all.items ≡ [] → pass.flow.items ≡ []
    → IsUp index told told e (e + 1) pass
begins_up index told e pass room alone none_all none_flow = subst (λ k. IsUp index told told e k pass) (sym (add-one e)) (record {
  room = room ∙ add-one e;
  all = none_all ∙ none_above true pass.marks.items e;
  flow = none_flow ∙ none_above false pass.marks.items e;
  marks = λ rs is all j lt. alone all j ∙ itself_alone (owners_of index) all rs e j (omega (arith, lt));
  keeps = keeps_itself told;
  faults = refl;
  reads = let none : 0 ≡ suc e - suc e = omega arith in subst (λ n. RoseAtMost n told.reads told.reads) none (no_reads told.reads);
})

-- ---- one mark more

module _ (all : Bool) (marks : List Mark) (mark : Mark) where
  kept : (j : ℕ) → j < length marks → marked all (marks ++ mark ∷ []) j ≡ marked all marks j
  kept j lt = ap (is_marked all) (get_or_append_left marks (mark ∷ []) Out j lt)

  added : marked all (marks ++ mark ∷ []) (length marks) ≡ is_marked all mark
  added = ap (is_marked all) (get_or-append_seam marks mark [] Out)

  more_listed : (e k : ℕ) → length marks ≡ k → e < k → marked_above all marks e k ++ listed all mark k ≡ marked_above all (marks ++ mark ∷ []) e (suc k)
  more_listed e k room lt =
      let new = marked all (marks ++ mark ∷ []) in
      let here : is_marked all mark ≡ new k = sym added ∙ ap new room in
      let longer : suc (k - suc e) ≡ suc k - suc e = omega (arith, lt) in
      ap₂ (λ l b. l ++ cond b (k ∷ []) []) (same_within (marked all marks) new (suc e) (k - suc e) k (omega (arith, lt)) (λ j less. sym (kept j (omega (arith, less, room))))) here
      ∙ sym (one_more new (suc e) (k - suc e) k (omega (arith, lt)))
      ∙ ap (λ n. filter new (range_with_len (suc e) n)) longer

-- ---- one step

module _ (index : Index) (start a b : Told) (e k : ℕ) (old new : Pass) (mark : Mark) (r : Recorded) where
  pub up_taken : IsUp index start a e k old → e < k
      → new.all.items ≡ old.all.items ++ listed true mark k → new.flow.items ≡ old.flow.items ++ listed false mark k → new.marks.items ≡ old.marks.items ++ mark ∷ []
      → ((rs : List Recorded) → a.records ≡ Some rs → slice_get rs k ≡ Some r) → RefersBelow k r
      → ((rs : List Recorded) → a.records ≡ Some rs → (all : Bool) → is_marked all mark ≡ is_given all old.marks.items (event_sources (owners_of index) rs r))
      → Keeps a b → ReadsOnce a b → b.faults ≡ a.faults → IsUp index start b e (suc k) new
  up_taken up lt in_all in_flow with_mark at refers given keeps reads faults = record {
    room = let long : length new.marks.items ≡ length old.marks.items + 1 = ap length with_mark ∙ length-append old.marks.items (mark ∷ []) in omega (arith, long, up.room);
    all = in_all ∙ ap (λ l. l ++ listed true mark k) up.all ∙ more_listed true old.marks.items mark e k up.room lt ∙ ap (λ ms. marked_above true ms e (suc k)) (sym with_mark);
    flow = in_flow ∙ ap (λ l. l ++ listed false mark k) up.flow ∙ more_listed false old.marks.items mark e k up.room lt ∙ ap (λ ms. marked_above false ms e (suc k)) (sym with_mark);
    marks = λ rs is all j below. ⊎_elim
        (λ (here : j ≡ k). subst (λ n. marked all new.marks.items n ≡ closure_of (owners_of index) all rs n e) (sym here) (next rs is all))
        (λ (apart : j ≡ k → ⊥). let less : j < k = omega (arith, below, apart) in
        ap (λ ms. marked all ms j) with_mark ∙ kept all old.marks.items mark j (omega (arith, less, up.room)) ∙ up.marks rs is all j less)
        (cases_eq j k);
    keeps = keeps_on start a b up.keeps keeps;
    faults = faults ∙ up.faults;
    reads = let more : (k - suc e) + 1 ≡ suc k - suc e = omega (arith, lt) in subst (λ n. RoseAtMost n start.reads b.reads) more (more_reads (k - suc e) 1 start.reads a.reads b.reads up.reads (one_read a.reads b.reads reads));
  }
    where
      next : (rs : List Recorded) → start.records ≡ Some rs → (all : Bool) → marked all new.marks.items k ≡ closure_of (owners_of index) all rs k e
      next rs is all =
          let told : a.records ≡ Some rs = up.keeps.records ∙ is in
          ap (λ ms. marked all ms k) with_mark ∙ sym (ap (marked all (old.marks.items ++ mark ∷ [])) up.room) ∙ added all old.marks.items mark ∙ given rs told all
          ∙ given_is (owners_of index) all rs e k old.marks.items r (at rs told) refers lt (λ j less. up.marks rs is all j less)

-- ---- the end

module _ (owner : Owners) (rs : List Recorded) (e count : ℕ) (marks : List Mark) (whole : length rs ≡ count) (below : e < count) where
  pub ends_all : ((j : ℕ) → j < count → marked true marks j ≡ closure_of owner true rs j e) → marked_above true marks e count ≡ affected owner rs e
  unfolding closure
  ends_all is = same_within (marked true marks) (λ j. closure_of owner true rs j e) (suc e) (count - suc e) count (omega (arith, below)) is ∙ ap (above_with (closure owner rs) e) (sym whole)

  pub ends_flow : ((j : ℕ) → j < count → marked false marks j ≡ closure_of owner false rs j e) → marked_above false marks e count ≡ affected_by_data owner rs e
  unfolding data_closure
  ends_flow is = same_within (marked false marks) (λ j. closure_of owner false rs j e) (suc e) (count - suc e) count (omega (arith, below)) is ∙ ap (above_with (data_closure owner rs) e) (sym whole)

pub ends_rising : (all : Bool) (marks : List Mark) (e count : ℕ) → e < count → Rises (e + 1) count (marked_above all marks e count)
ends_rising all marks e count lt = subst (λ n. Rises n count (marked_above all marks e count)) (sym (add-one e)) (range_rises (marked all marks) (suc e) (count - suc e) count (omega (arith, lt)))
