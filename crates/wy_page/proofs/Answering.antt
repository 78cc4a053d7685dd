-- What an opening answers is what a reader of all bytes of the file answers.
use Rattle.std.proofs.Common.{◌≡◌, ℕ, List, length, drop, Option, Some, Ok, Err, sym, ap, ◌∙◌, subst}
use Rattle.std.specs.Prelude.{None as Absent}
use Rattle.wy_kernel.specs.declared.program.Program.{Program}
use Rattle.wy_event.specs.declared.record.Version.{Version}
use Rattle.wy_event.specs.declared.record.Head.{Head}
use Rattle.wy_event.specs.declared.record.Tail.{Tail}
use Rattle.wy_spelling.specs.Spelling.{opening}
use Rattle.wy_frames.specs.declared.error.TraceError.{TraceError}
use Rattle.wy_frames.specs.declared.error.TraceError.TheVariants as trace
use Rattle.wy_frames.specs.Progress.{Progress}
use Rattle.law_placing.specs.Ended.{EndStands, ReadEndsStand}
use Rattle.law_reading.specs.Spelled.{AreBytes}
use Rattle.wy_outside.specs.Shelf.{Files}
use Rattle.wy_view.specs.declared.view.ViewError.TheVariants as view
use Rattle.wy_page.specs.declared.error.PageError.{PageError}
use Rattle.wy_page.specs.declared.error.PageError.TheVariants.{View, Trace as Refusal}
use Rattle.wy_page.specs.declared.opening.Reading.{Reading}
use Rattle.wy_page.specs.declared.pages.Pages.{Pages}
use Rattle.wy_page.specs.Opening.{BeginsWith, IsUnread, MayBeOpened, Opens, OpensAs}
use Rattle.wy_page.specs.Reads.{AreOthers, IsWhole, Reads, ReadsAll}
use Rattle.wy_page.proofs.Refusing.{cut_whole, refused_whole}
use Rattle.wy_page.proofs.Whole.{Laws, is_opened, whole_count}

-- all that stand behind the head are those of the file
others_of : (files : Files) (name : List ℕ) (from : ℕ) (fed bytes : List ℕ) → AreOthers (Some files) name from fed → files name ≡ Some bytes → fed ≡ drop from bytes
others_of files name from fed bytes (others, there, is) found = is ∙ ap (drop from) (some_is (sym there ∙ found)) where
  some_is : {x y : List ℕ} → Some x ≡ Some y → x ≡ y
  some_is e = cc

module _ (held : Option Files) (name : List ℕ) (v : Version) (p : Program) (head : Head) (may : MayBeOpened held name v head) where
  pub opened : (laws : Laws) (r : Reading) (fed : List ℕ) (t : Progress) → Reads r v p head fed t → (pages : Pages) (tail : Tail) → IsWhole pages tail v head fed t → AreBytes (opening v head) → AreOthers held name (length (opening v head)) fed → Opens held name p (Ok (pages, tail))
  opened laws r fed t h pages tail w are others = by held may others where
    by : (held : Option Files) → MayBeOpened held name v head → AreOthers held name (length (opening v head)) fed → Opens held name p (Ok (pages, tail))
    by Absent may others = tt
    by (Some files) may others = λ bytes there. is_opened laws r v p head fed t h pages tail w are bytes (may bytes there) (others_of files name (length (opening v head)) fed bytes others there)

  pub unsealed : (r : Reading) (fed : List ℕ) (t : Progress) (e : TraceError) → Reads r v p head fed t → AreOthers held name (length (opening v head)) fed → ReadsAll (Err e) v head fed t → Opens held name p (Err (Refusal e))
  unsealed r fed t e h others reads = by held may others where
    as_read : (e : TraceError) (bytes : List ℕ) → BeginsWith v head bytes → fed ≡ drop (length (opening v head)) bytes → ReadsAll (Err e) v head fed t → OpensAs (Err (Refusal e)) p bytes
    as_read (trace.Cut byte) bytes begin behind (place, open_stage) = cut_whole v p head bytes fed r.scanner.rest.items t byte begin.read behind h.scans.leaves h.scans.waits place open_stage
    as_read trace.NoMemory bytes begin behind reads = tt
    as_read (trace.Damaged byte rule) bytes begin behind reads = absurd reads
    as_read trace.BadSeal bytes begin behind reads = absurd reads

    by : (held : Option Files) → MayBeOpened held name v head → AreOthers held name (length (opening v head)) fed → Opens held name p (Err (Refusal e))
    by Absent may others = tt
    by (Some files) may others = λ bytes there. as_read e bytes (may bytes there) (others_of files name (length (opening v head)) fed bytes others there) reads

  pub unread : (e : PageError) → IsUnread held name v p head e → Opens held name p (Err e)
  unread e refused = by held may e refused where
    never : (files : Files) (bytes : List ℕ) → files name ≡ Absent → files name ≡ Some bytes → ⊥
    never files bytes gone there = let both : Some bytes ≡ Absent = sym there ∙ gone in cc

    by : (held : Option Files) → MayBeOpened held name v head → (e : PageError) → IsUnread held name v p head e → Opens held name p (Err e)
    by Absent may e refused = tt
    by (Some files) may (Refusal trace.NoMemory) refused = λ bytes there. tt
    by (Some files) may (Refusal (trace.Cut byte)) (fed, next, refused) = λ bytes there. refused_whole v p head bytes fed (trace.Cut byte) (may bytes there).read (next bytes there) refused
    by (Some files) may (Refusal (trace.Damaged byte rule)) (fed, next, refused) = λ bytes there. refused_whole v p head bytes fed (trace.Damaged byte rule) (may bytes there).read (next bytes there) refused
    by (Some files) may (Refusal trace.BadSeal) (fed, next, refused) = λ bytes there. refused_whole v p head bytes fed trace.BadSeal (may bytes there).read (next bytes there) refused
    by (Some files) may (View view.ReadFault) refused = λ bytes there. tt
    by (Some files) may (View view.NoMemory) refused = λ bytes there. tt
    by (Some files) may (View view.Gone) refused = λ bytes there. never files bytes refused there
    by (Some files) may (View (view.Changed block kept found)) refused = absurd refused

pub end_stands : (law : ReadEndsStand) (r : Reading) (v : Version) (p : Program) (head : Head) (fed : List ℕ) (t : Progress) → Reads r v p head fed t → (pages : Pages) (tail : Tail) → IsWhole pages tail v head fed t → EndStands p.statements pages.count tail
end_stands law r v p head fed t h pages tail w = subst (λ (n : ℕ). EndStands p.statements n tail) (sym (whole_count v head fed t pages tail w)) (law v p head fed t r.scanner.rest.items tail pages.seal h.scans.leaves w.sealed)
