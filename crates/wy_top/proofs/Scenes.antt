-- A session over the trace of a name, by what its view tells.
use Rattle.std.proofs.Common.{◌≡◌, ◌≢◌, ◌∙◌, sym, ap, subst, refl, inl, inr, ℕ, ◌<◌, List, map, Option, Some, None, arith}
use Rattle.std.specs.Prelude.{option_map}
use Rattle.wy_kernel.specs.declared.program.Program.{Program}
use Rattle.wy_event.specs.Record.{Recorded, recorded}
use Rattle.wy_event.specs.declared.record.Cover.{Cover}
use Rattle.wy_event.specs.declared.record.Tail.{Tail}
use Rattle.wy_event.specs.declared.record.Trace.{Trace}
use Rattle.wy_outside.specs.Counts.{Rose, last_count}
use Rattle.wy_outside.specs.Shelf.{Files}
use Rattle.wy_view.specs.View.{RefusedFor, Told}
use Rattle.wy_view.specs.declared.view.ViewError.{ViewError}
use Rattle.wy_view.specs.declared.view.ViewError.TheVariants as view
use Rattle.wy_page.specs.declared.pages.Pages.{Pages}
use Rattle.wy_page.specs.Paged.{records_told}
use Rattle.wy_session.specs.Desk.{IsSceneOf, scene_of}
use Rattle.wy_session.specs.Scene.{Scene}
use Rattle.wy_session.specs.Views.{CountsFor}
use Rattle.wy_session.specs.declared.ending.Ending.{Ending}
use Rattle.wy_session.specs.declared.ending.Ending.TheVariants as ending
use Rattle.wy_reply.specs.Tellings.{covers_of}
use Rattle.wy_top.specs.Call.{IsOpened}
use Rattle.wy_top.specs.Openings.{CountsBy, IsTold, RefusesView, scene_told}
use Rattle.wy_top.specs.Paging.{IsPaged}
use Rattle.wy_top.specs.Replies.{ShelfCounts, at_shelf}
use Rattle.wy_top.proofs.Paging.{refused_in}

-- ---- the scene

some_scene : {x y : Scene} → Some x ≡ Some y → x ≡ y
some_scene e = cc

pub scene_is : (p : Program) (covers : List Cover) (told : Told) (records : Option (List Recorded)) → told.records ≡ records → (x : Scene) → scene_told p covers records ≡ Some x → IsSceneOf p covers told x
scene_is p covers told None so x is = absurd cc
scene_is p covers told (Some rs) so x is =
    let same = some_scene is in
    record {
      program = sym (ap (λ (z : Scene). z.program) same);
      lines = sym (ap (λ (z : Scene). z.lines) same);
      records = so ∙ ap (λ (z : Scene). Some z.records) same;
      covers = sym (ap (λ (z : Scene). z.covers) same);
    }

-- that of pages which are kept of the trace of a name
pub paged_scene : (held now : Option Files) (name : List ℕ) (p : Program) (pages : Pages) (tail : Tail) (covers : List Cover) → now ≡ held → covers ≡ tail.coverage.statements → ((files : Files) → held ≡ Some files → IsPaged files name p pages tail)
    → IsTold held name (scene_told p covers (records_told pages now))
paged_scene held now name p pages tail covers same listed paged files told =
    let f = paged files told in
    let records : records_told pages now ≡ Some (map recorded f.trace.events) = ap (records_told pages) (same ∙ told) ∙ f.pages_are.records in
    (p, f.trace, f.opened, ap (λ (r : Option (List Recorded)). scene_told p covers r) records ∙ ap (λ (cs : List Cover). scene_told p cs (Some (map recorded f.trace.events))) (listed ∙ ap (λ (x : Tail). x.coverage.statements) f.pages_are.tail_is))

-- and that of a trace in memory
pub whole_scene : (held : Option Files) (name : List ℕ) (p : Program) (t : Trace) → ((files : Files) → held ≡ Some files → IsOpened files name p t) → IsTold held name (scene_told p (covers_of t) (Some (map recorded t.events)))
whole_scene held name p t opened files told = (p, t, opened files told, refl)

-- ---- counts

-- what a view counts is what its shelf counts
pub counted : (e : Ending) (old new : Told) (after : ShelfCounts) (fulls : ℕ) → after.faults ≡ new.faults → after.misses ≡ new.misses → CountsFor e old new → CountsBy (old.records ≡ None) e (at_shelf old.faults old.misses fulls) after
counted ending.Done old new after fulls faults misses same = faults ∙ same
counted ending.LongLine old new after fulls faults misses same = faults ∙ same
counted ending.LongInput old new after fulls faults misses same = faults ∙ same
counted ending.KeysFailed old new after fulls faults misses same = faults ∙ same
counted ending.OutFailed old new after fulls faults misses same = faults ∙ same
counted ending.NoMemory old new after fulls faults misses same = faults ∙ same
counted (ending.View view.ReadFault) old new after fulls faults misses h = ((λ e. cc), refused_in view.ReadFault old new after fulls faults misses h)
counted (ending.View view.Gone) old new after fulls faults misses h = ((λ e. cc), refused_in view.Gone old new after fulls faults misses h)
counted (ending.View (view.Changed block kept found)) old new after fulls faults misses h = ((λ e. cc), refused_in (view.Changed block kept found) old new after fulls faults misses h)
counted (ending.View view.NoMemory) old new after fulls faults misses h = absurd h

-- where no records are told, no files are
untold_files : (pages : Pages) (held : Option Files) → records_told pages held ≡ None → held ≡ None
untold_files pages None is = refl
untold_files pages (Some files) is = absurd cc

more_untold : (first second : Type 0) (e : ViewError) (before after : ShelfCounts) → (first → second) → RefusesView first e before after → RefusesView second e before after
more_untold first second view.ReadFault before after more h = h
more_untold first second view.Gone before after more (rose, same, is) = (rose, same, more is)
more_untold first second (view.Changed block kept found) before after more (same, is) = (same, more is)
more_untold first second view.NoMemory before after more h = h

counts_more : (first second : Type 0) (e : Ending) (before after : ShelfCounts) → (first → second) → CountsBy first e before after → CountsBy second e before after
counts_more first second ending.Done before after more h = h
counts_more first second ending.LongLine before after more h = h
counts_more first second ending.LongInput before after more h = h
counts_more first second ending.KeysFailed before after more h = h
counts_more first second ending.OutFailed before after more h = h
counts_more first second ending.NoMemory before after more h = h
counts_more first second (ending.View e) before after more h = (h.0, more_untold first second e before after more h.1)

pub counts_of_pages : (pages : Pages) (held now : Option Files) (e : Ending) (before middle after : ShelfCounts) → now ≡ held → middle ≡ before → CountsBy (records_told pages now ≡ None) e middle after → CountsBy (held ≡ None) e before after
counts_of_pages pages held now e before middle after same stayed h =
    subst (λ (b : ShelfCounts). CountsBy (held ≡ None) e b after) stayed (counts_more (records_told pages now ≡ None) (held ≡ None) e middle after (λ none. sym same ∙ untold_files pages now none) h)

-- ---- a view in memory

never_rose : Rose 0 0 → ⊥
never_rose (inl less) = absurd (omega (arith, less))
never_rose (inr last) = absurd (omega (arith, last))

never_refused : (e : ViewError) (old new : Told) (rs : List Recorded) → old.faults ≡ 0 → new.faults ≡ 0 → old.records ≡ Some rs → CountsFor (ending.View e) old new → ⊥
never_refused view.ReadFault old new rs first second told h = never_rose (subst (λ (n : ℕ). Rose n 0) first (subst (Rose old.faults) second h))
never_refused view.Gone old new rs first second told h = let z = sym h.2 ∙ told in cc
never_refused (view.Changed block kept found) old new rs first second told h = let z = sym h.3 ∙ told in cc
never_refused view.NoMemory old new rs first second told h = h

none_refused : (e : ViewError) → CountsBy ⊥ (ending.View e) (at_shelf 0 0 0) (at_shelf 0 0 0) → ⊥
none_refused view.ReadFault h = never_rose h.1
none_refused view.Gone h = h.1.2
none_refused (view.Changed block kept found) h = h.1.1
none_refused view.NoMemory h = h.0 refl

-- it refuses for want of memory alone
pub counted_whole : (e : Ending) (old new : Told) (rs : List Recorded) (untold : Type 0) (before : ShelfCounts) → old.faults ≡ 0 → new.faults ≡ 0 → old.records ≡ Some rs → CountsFor e old new → CountsBy untold e before before
counted_whole ending.Done old new rs untold before first second told h = refl
counted_whole ending.LongLine old new rs untold before first second told h = refl
counted_whole ending.LongInput old new rs untold before first second told h = refl
counted_whole ending.KeysFailed old new rs untold before first second told h = refl
counted_whole ending.OutFailed old new rs untold before first second told h = refl
counted_whole ending.NoMemory old new rs untold before first second told h = refl
counted_whole (ending.View e) old new rs untold before first second told h = absurd (never_refused e old new rs first second told h)

-- a shelf that did not fail before
pub counts_of_memory : (held : Option Files) (before after : ShelfCounts) (e : Ending) → after.faults ≡ before.faults → ((s : ShelfCounts) → CountsBy ⊥ e s s) → CountsBy (held ≡ None) e before after
counts_of_memory held before after ending.Done same h = same
counts_of_memory held before after ending.LongLine same h = same
counts_of_memory held before after ending.LongInput same h = same
counts_of_memory held before after ending.KeysFailed same h = same
counts_of_memory held before after ending.OutFailed same h = same
counts_of_memory held before after ending.NoMemory same h = same
counts_of_memory held before after (ending.View e) same h = absurd (none_refused e (h (at_shelf 0 0 0)))
