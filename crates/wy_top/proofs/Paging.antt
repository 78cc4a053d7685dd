-- What is answered from a trace that is looked at where it stays.
use Rattle.std.proofs.Common.{◌≡◌, ◌⊎◌, ◌∙◌, sym, ap, subst, refl, inl, inr, ℕ, ◌+◌, ◌≤◌, ◌<◌, true, false, List, [], ◌++◌, length, map, take, drop, take-append-drop, Option, Some, None, Result, Ok, Err, IfOk, IfSome, Vec, Global, arith}
use Rattle.std.specs.Prelude.{MatchBool, option_map, nat_le, string_bytes}
use Rattle.std.specs.Borrow.{Bor}
use Rattle.std.specs.declared.alloc.AllocError.{AllocError}
use Rattle.std.proofs.lemmas.Bool.{leb-false, leb-true}
use Rattle.std.specs.Option.{unwrap_or}
use Rattle.wy_kernel.specs.Limits.{trace_limit}
use Rattle.wy_kernel.specs.declared.program.Program.{Program}
use Rattle.wy_event.specs.declared.record.Head.{Head}
use Rattle.wy_event.specs.declared.record.Tail.{Tail}
use Rattle.wy_event.specs.declared.record.Version.{Version}
use Rattle.wy_fitting.specs.Fits.{EndFits}
use Rattle.wy_frames.specs.Heads.{head_of}
use Rattle.wy_frames.specs.Traces.{ReadsAs}
use Rattle.wy_program.specs.Programs.{IsProgramOf}
use Rattle.wy_frames.specs.declared.error.TraceError.{TraceError}
use Rattle.wy_frames.specs.declared.error.TraceError.TheVariants as trace
use Rattle.law_reading.specs.Spelled.{HeadsAreShort, TracesAreSpelled}
use Rattle.wy_page.specs.Opening.{IsOpened, OpenCounts, Opens, OpensAs}
use Rattle.wy_page.specs.declared.error.PageError.{PageError}
use Rattle.wy_page.specs.declared.error.PageError.TheVariants as page
use Rattle.wy_reply.specs.ByRun.{TellingsAreByRuns}
use Rattle.wy_reply.proofs.Seals.{sealed_end}
use Rattle.wy_outside.specs.Counts.{Rose}
use Rattle.wy_outside.specs.Shelf.{Files, Reaches, ReadsFile, ReadsPart, LacksWhenAbsent, is_absent as is_missing, is_failed}
use Rattle.wy_outside.specs.declared.shelf.ShelfError.{ShelfError}
use Rattle.wy_outside.specs.declared.shelf.ShelfError.TheVariants as shelf
use Rattle.wy_view.specs.View.{KeepsCounts, RefusedFor, Told}
use Rattle.wy_view.specs.declared.view.ViewError.{ViewError}
use Rattle.wy_view.specs.declared.view.ViewError.TheVariants as view
use Rattle.wy_reply.specs.declared.answer.Answer.{Answer}
use Rattle.wy_reply.specs.declared.status.Status.TheVariants as status
use Rattle.wy_reply.specs.Statuses.{code_of, is_of_files}
use Rattle.wy_event.specs.Record.{Recorded, recorded}
use Rattle.wy_event.specs.declared.record.Trace.{Trace}
use Rattle.wy_index.specs.declared.build.Findings.{Findings}
use Rattle.wy_index.specs.Findings.{IsFoundIn}
use Rattle.wy_page.specs.Noted.{HasNoted}
use Rattle.wy_page.specs.declared.pages.Pages.{Pages}
use Rattle.wy_page.specs.Paged.{records_of, records_told}
use Rattle.wy_reply.specs.Opening.{IsDecoded}
use Rattle.wy_reply.specs.Certificates.{seal_of}
use Rattle.wy_reply.specs.Tellings as tellings
use Rattle.wy_reply.specs.Tellings.{DueUnder, IsTraceLine, RefusesTrace, Wanted}
use Rattle.wy_top.specs.declared.files.FileError.{FileError}
use Rattle.wy_top.specs.declared.files.FileError.TheVariants as error
use Rattle.wy_top.specs.Answers.{Counts, counts}
use Rattle.wy_top.specs.Call.{AnswersRun, AnswersRunOf}
use Rattle.wy_top.specs.Due.{DueForTrace}
use Rattle.wy_top.specs.Due as due
use Rattle.wy_top.specs.Openings.{AnswersAny, RefusesView, TellsRefusal}
use Rattle.wy_top.specs.Held.{Holds, absent, too_long}
use Rattle.wy_top.specs.Paging.{AnswersFrom, ArePagesOf, BeginsFile, DueInPages, GivesFirst, GivesFront, IsPaged, LooksUp, OpensPages}
use Rattle.wy_top.specs.declared.shelved.Shelved.TheVariants.{Refused}
use Rattle.wy_top.specs.Reads.{GivesFile, Tells, is_absent, is_fault, is_too_long, lack}
use Rattle.wy_top.specs.Replies.{AnswersBy, HasCause, ShelfCounts, at_shelf}
use Rattle.wy_top.proofs.AnswerLemmas.{DueBy, no_fault}
use Rattle.wy_top.proofs.OneText.{Known}
use Rattle.wy_top.proofs.Opened.{caused, lacking_file}
use Rattle.wy_top.proofs.RunAnswers.{CutLaws, run_answered}

-- ---- a shelf that gives nothing

abbrev pub LacksAt : Option Files → List ℕ → ShelfError → Type 0
LacksAt held name e = IfSome held (λ files. LacksWhenAbsent files name e)

pub lacking : (held : Option Files) (name : Bor (List ℕ)) (limit : ℕ) (e : ShelfError) → LacksAt held name.now e → GivesFile held name.now limit (Err (lack name e))
lacking None name limit e is = tt
lacking (Some files) name limit shelf.Failed is = tt
lacking (Some files) name limit shelf.Absent is = absent is
lacking (Some files) name limit shelf.NoMemory is = tt

pub read_lacks : (held : Option Files) (name : List ℕ) (max : ℕ) (e : ShelfError) → ReadsFile held name max (Err e) → LacksAt held name e
read_lacks None name max e reads = tt
read_lacks (Some files) name max shelf.Failed reads = tt
read_lacks (Some files) name max shelf.Absent reads = reads
read_lacks (Some files) name max shelf.NoMemory reads = tt

pub part_lacks : (held : Option Files) (name : List ℕ) (from len : ℕ) (e : ShelfError) → ReadsPart held name from len (Err e) → LacksAt held name e
part_lacks None name from len e reads = tt
part_lacks (Some files) name from len e reads = reads

pub reach_lacks : (held : Option Files) (name : List ℕ) (size : ℕ) (e : ShelfError) → Reaches held name size (Err e) → LacksAt held name e
reach_lacks None name size e reads = tt
reach_lacks (Some files) name size e reads = reads

pub lack_fault : (name : Bor (List ℕ)) (e : ShelfError) (old new : ℕ) → MatchBool (is_failed e) (Rose old new) (new ≡ old) → MatchBool (is_fault (lack name e)) (Rose old new) (new ≡ old)
lack_fault name shelf.Failed old new h = h
lack_fault name shelf.Absent old new h = h
lack_fault name shelf.NoMemory old new h = h

pub lack_absent : (name : Bor (List ℕ)) (e : ShelfError) (old new : ℕ) → MatchBool (is_missing e) (Rose old new) (new ≡ old) → MatchBool (is_absent (lack name e)) (Rose old new) (new ≡ old)
lack_absent name shelf.Failed old new h = h
lack_absent name shelf.Absent old new h = h
lack_absent name shelf.NoMemory old new h = h

pub lack_long : (name : Bor (List ℕ)) (e : ShelfError) (old new : ℕ) → new ≡ old → MatchBool (is_too_long (lack name e)) (Rose old new) (new ≡ old)
lack_long name shelf.Failed old new h = h
lack_long name shelf.Absent old new h = h
lack_long name shelf.NoMemory old new h = h

-- ---- the front of a file

some_is : {X : Type 0} {x y : X} → Some x ≡ Some y → x ≡ y
some_is e = cc

pub short_file : (held : Option Files) (name : List ℕ) (limit : ℕ) → Reaches held name (limit + 1) (Ok false) → IfSome held (λ files. (bytes : List ℕ) × Holds files name limit bytes)
short_file None name limit reaches = tt
short_file (Some files) name limit reaches = by (files name) refl reaches where
  by : (o : Option (List ℕ)) → files name ≡ o → option_map (λ all. nat_le (limit + 1) (length all)) o ≡ Some false → (bytes : List ℕ) × Holds files name limit bytes
  by None found is = absurd cc
  by (Some bytes) found is = (bytes, record { found = found; within = omega (arith, leb-false (limit + 1) (length bytes) (some_is is)) })

pub long_one : (held : Option Files) (name : Bor (List ℕ)) (limit : ℕ) → Reaches held name.now (limit + 1) (Ok true) → GivesFile held name.now limit (Err (error.TooLong name))
long_one None name limit reaches = tt
long_one (Some files) name limit reaches = by (files name.now) refl reaches where
  by : (o : Option (List ℕ)) → files name.now ≡ o → option_map (λ all. nat_le (limit + 1) (length all)) o ≡ Some true → GivesFile (Some files) name.now limit (Err (error.TooLong name))
  by None found is = absurd cc
  by (Some bytes) found is = too_long bytes found (omega (arith, leb-true (limit + 1) (length bytes) (some_is is)))

pub front_given : (held : Option Files) (name : List ℕ) (len : ℕ) (front : Vec ℕ Global) → IfSome held (λ files. (bytes : List ℕ) × Holds files name trace_limit bytes) → ReadsPart held name 0 len (Ok front) → BeginsFile held name front.items
front_given None name len front short reads = tt
front_given (Some files) name len front (bytes, holds) reads =
    let read : take len bytes ≡ front.items = some_is (ap (option_map (λ all. take len (drop 0 all))) (sym holds.found) ∙ reads) in
    let parts : bytes ≡ front.items ++ drop len bytes = sym (take-append-drop len bytes) ∙ ap (λ l. l ++ drop len bytes) read in
    (drop len bytes, subst (λ (l : List ℕ). Holds files name trace_limit l) parts holds)

pub front_of : (held : Option Files) (name : List ℕ) (len : ℕ) (r : Result (Vec ℕ Global) FileError) → IfSome held (λ files. (bytes : List ℕ) × Holds files name trace_limit bytes) → GivesFirst held name len r → GivesFront held name r
front_of held name len (Ok front) short reads = front_given held name len front short reads
front_of held name len (Err e) short reads = reads

-- ---- answers

pub settled_from : (due : DueBy) (held : Option Files) (before after : ShelfCounts) (answer : Answer) → is_of_files answer.status ≡ false → after.faults ≡ before.faults → ((files : Files) → held ≡ Some files → due files (code_of answer.status) answer.text.items) → AnswersFrom due held before after answer
settled_from due held before after answer settled same is = record {
  caused = caused before after answer settled;
  is = λ n. inr (ap (λ k. counts k n) same, no_fault answer.status settled, is);
}

-- where a view refused
pub view_from : (due : DueBy) (held : Option Files) (before after : ShelfCounts) (name : List ℕ) (e : ViewError) (answer : Answer) → RefusesView ((files : Files) → held ≡ Some files → (s : ℕ) (x : List ℕ) → due files s x) e before after → TellsRefusal name e answer → AnswersFrom due held before after answer
view_from due held before after name view.ReadFault answer rose (is, line) = record {
  caused = record { absent = λ other. absurd (let x = sym is ∙ other in cc); too_long = λ other. absurd (let x = sym is ∙ other in cc); command = λ other. (let x = sym is ∙ other in cc) };
  is = λ n. inl (is, inl (line, rose));
}
view_from due held before after name view.Gone answer (rose, same, untold) (is, line) = record {
  caused = record { absent = λ other. rose; too_long = λ other. absurd (let x = sym is ∙ other in cc); command = λ other. (let x = sym is ∙ other in cc) };
  is = λ n. inr (ap (λ k. counts k n) same, (λ other. (let x = sym is ∙ other in cc)), λ files told. untold files told (code_of answer.status) answer.text.items);
}
view_from due held before after name (view.Changed block kept found) answer (same, untold) (is, line) = record {
  caused = record { absent = λ other. absurd (let x = sym is ∙ other in cc); too_long = λ other. absurd (let x = sym is ∙ other in cc); command = λ other. (let x = sym is ∙ other in cc) };
  is = λ n. inr (ap (λ k. counts k n) same, (λ other. (let x = sym is ∙ other in cc)), λ files told. untold files told (code_of answer.status) answer.text.items);
}
view_from due held before after name view.NoMemory answer refuses tells = absurd tells

-- ---- what is due is due for more, and counts that stayed

pub mapped_from : (due for : DueBy) (held : Option Files) (before after : ShelfCounts) (r : Result Answer AllocError) → ((files : Files) → held ≡ Some files → (s : ℕ) (x : List ℕ) → due files s x → for files s x) → IfOk r (AnswersFrom due held before after) → IfOk r (AnswersFrom for held before after)
mapped_from due for held before after (Ok answer) more from = record { caused = from.caused; is = λ n. by n (from.is n) } where
  by : (n : ℕ) → AnswersBy due held (counts before.faults n) (counts after.faults n) answer → AnswersBy for held (counts before.faults n) (counts after.faults n) answer
  by n (inl failed) = inl failed
  by n (inr (same, named, is)) = inr (same, named, λ files told. more files told (code_of answer.status) answer.text.items (is files told))
mapped_from due for held before after (Err e) more from = tt

pub moved_from : (due : DueBy) (held now : Option Files) (before middle after : ShelfCounts) (r : Result Answer AllocError) → now ≡ held → middle ≡ before → IfOk r (AnswersFrom due now middle after) → IfOk r (AnswersFrom due held before after)
moved_from due held now before middle after r same counted from = subst (λ (h : Option Files). IfOk r (AnswersFrom due h before after)) same (subst (λ (b : ShelfCounts). IfOk r (AnswersFrom due now b after)) counted from)

pub same_counts : (a b c x y z : ℕ) → a ≡ x → b ≡ y → c ≡ z → at_shelf a b c ≡ at_shelf x y z
same_counts a b c x y z first second third = rw (first, second, third) refl

-- ---- through a view

pub refused_in : (e : ViewError) (old new : Told) (after : ShelfCounts) (fulls : ℕ) → after.faults ≡ new.faults → after.misses ≡ new.misses → RefusedFor e old new → RefusesView (old.records ≡ None) e (at_shelf old.faults old.misses fulls) after
refused_in view.ReadFault old new after fulls faults misses rose = subst (Rose old.faults) (sym faults) rose
refused_in view.Gone old new after fulls faults misses (rose, same, untold) = (subst (Rose old.misses) (sym misses) rose, faults ∙ same, untold)
refused_in (view.Changed block kept found) old new after fulls faults misses (rose, differ, same, untold) = (faults ∙ same, untold)
refused_in view.NoMemory old new after fulls faults misses same = tt

-- what a view counts is what its shelf counts
pub looked_up : {X : Type 0} (r : Result X ViewError) (old new : Told) (after : ShelfCounts) (fulls : ℕ) → after.faults ≡ new.faults → after.misses ≡ new.misses → KeepsCounts r old new → LooksUp (old.records ≡ None) r (at_shelf old.faults old.misses fulls) after
looked_up (Ok x) old new after fulls faults misses same = faults ∙ same
looked_up (Err e) old new after fulls faults misses refused = refused_in e old new after fulls faults misses refused

-- where files are told, so are the records
pub untold_all : (due : DueBy) (pages : Pages) (held : Option Files) → records_told pages held ≡ None → (files : Files) → held ≡ Some files → (s : ℕ) (x : List ℕ) → due files s x
untold_all due pages held untold files told s x = absurd (let x = sym (ap (records_told pages) told) ∙ untold in cc)

pub refusal_from : (due : DueBy) (pages : Pages) (held : Option Files) (e : ViewError) (before after : ShelfCounts) → RefusesView (records_told pages held ≡ None) e before after → RefusesView ((files : Files) → held ≡ Some files → (s : ℕ) (x : List ℕ) → due files s x) e before after
refusal_from due pages held view.ReadFault before after rose = rose
refusal_from due pages held view.Gone before after (rose, same, untold) = (rose, same, untold_all due pages held untold)
refusal_from due pages held (view.Changed block kept found) before after (same, untold) = (same, untold_all due pages held untold)
refusal_from due pages held view.NoMemory before after u = tt

-- an answer that is refused for a view's refusal
pub refused_from : (due : DueBy) (pages : Pages) (held : Option Files) (before after : ShelfCounts) (name : List ℕ) (e : ViewError) (r : Result Answer AllocError) → RefusesView (records_told pages held ≡ None) e before after → IfOk r (TellsRefusal name e) → IfOk r (AnswersFrom due held before after)
refused_from due pages held before after name e (Ok answer) refuses tells = view_from due held before after name e answer (refusal_from due pages held e before after refuses) tells
refused_from due pages held before after name e (Err x) refuses tells = tt

-- the records of pages that a view tells
pub view_of : (t : Trace) (pages : Pages) (tail : Tail) (files : Files) (held : Option Files) (told : Option (List Recorded)) → held ≡ Some files → told ≡ records_told pages held → ArePagesOf t pages tail files → told ≡ Some (map recorded t.events)
view_of t pages tail files held told is shown are = shown ∙ ap (records_told pages) is ∙ are.records

-- what is due where an answer is done
settled_due : (due : DueBy) (held : Option Files) (before after : Counts) (answer : Answer) → answer.status ≡ status.Done → AnswersBy due held before after answer → (files : Files) → held ≡ Some files → due files 0 answer.text.items
settled_due due held before after answer done (inl fault) files told = absurd (let x = sym fault.0 ∙ done in cc)
settled_due due held before after answer done (inr (same, named, is)) files told = subst (λ n. due files n answer.text.items) (ap code_of done) (is files told)

-- ---- a trace that was opened

open_at : (held : Option Files) (name : List ℕ) (p : Program) (r : Result (Pages × Tail) PageError) → Opens held name p r → (files : Files) → held ≡ Some files → (bytes : List ℕ) → files name ≡ Some bytes → OpensAs r p bytes
open_at None name p r opens files told = absurd (cc)
open_at (Some shelf) name p r opens files told = λ bytes found. let same : shelf ≡ files = some_is told in opens bytes (ap (λ (f : Files). f name) same ∙ found)

decoded : (p : Program) (pages : Pages) (tail : Tail) (bytes : List ℕ) (o : IsOpened pages tail p bytes) → length bytes ≤ trace_limit → IsDecoded p bytes o.trace
decoded p pages tail bytes o short = record { are_bytes = o.are_bytes; short = short; reads = o.read }

-- what is kept is of the trace that the bytes of the file are read as
pages_of : TracesAreSpelled → (p : Program) (pages : Pages) (tail : Tail) (files : Files) (name bytes : List ℕ) (o : IsOpened pages tail p bytes) → string_bytes pages.name ≡ name → Holds files name trace_limit bytes → ArePagesOf o.trace pages tail files
pages_of spelled p pages tail files name bytes o named holds =
    let file : files (string_bytes pages.name) ≡ Some bytes = ap files named ∙ holds.found in
    record {
      records = ap (λ f. Some (records_of pages.version pages.starts pages.count (unwrap_or f []))) file ∙ ap Some o.records_are;
      tail_is = o.tail_is;
      seal = sym o.seal_is.1 ∙ (sealed_end spelled p bytes o.trace (decoded p pages tail bytes o holds.within)).1 ∙ ap (λ v. seal_of v o.trace) (sym o.version_is);
    }

-- the bytes of a file, the head that they are read to begin with, and the program of that
pub record IsHeaded (files : Files) (name : List ℕ) (p : Program) : Type 0 where
  pub bytes : List ℕ
  pub holds : Holds files name trace_limit bytes
  pub head : Head
  pub end : ℕ
  pub version : Version
  pub is_head : head_of bytes ≡ Ok (head, end, version)
  pub is_program : IsProgramOf head.source p

pub paged_by : TracesAreSpelled → (held : Option Files) (name : List ℕ) (p : Program) (pages : Pages) (tail : Tail) → Opens held name p (Ok (pages, tail)) → string_bytes pages.name ≡ name → EndFits tail
    → ((files : Files) → held ≡ Some files → IsHeaded files name p) → (files : Files) → held ≡ Some files → IsPaged files name p pages tail
paged_by spelled held name p pages tail opens named fits headed files told =
    let h = headed files told in
    let o : IsOpened pages tail p h.bytes = open_at held name p (Ok (pages, tail)) opens files told h.bytes h.holds.found in
    record {
      trace = o.trace;
      opened = record { bytes = h.bytes; holds = h.holds; head = h.head; end = h.end; version = h.version; is_head = h.is_head; is_program = h.is_program; is_read = o.read };
      are_bytes = o.are_bytes;
      version_is = o.version_is;
      pages_are = pages_of spelled p pages tail files name h.bytes o named h.holds;
      end_fits = subst EndFits o.tail_is fits;
    }

-- what is due of the pages is due of the file
pub paged_due : (held : Option Files) (name : List ℕ) (p : Program) (w : Wanted) (pages : Pages) (tail : Tail) → ((files : Files) → held ≡ Some files → IsPaged files name p pages tail)
    → (files : Files) → held ≡ Some files → (s : ℕ) (x : List ℕ) → DueInPages p pages tail w files s x → DueForTrace files name w s x
paged_due held name p w pages tail paged files told s x is =
    let f = paged files told in
    let o = f.opened in
    due.read o.bytes s x o.holds (due.program o.head o.end o.version p s x o.is_head o.is_program
    (tellings.told f.trace s x o.is_read (subst (λ (l : List ℕ). tellings.Tells p l f.trace w s x) (f.pages_are.seal ∙ ap (λ v. seal_of v f.trace) f.version_is) (is f.trace f.pages_are))))

-- what is told is by each run whose trace it is
pub paged_answered : Known → CutLaws → HeadsAreShort → TellingsAreByRuns → (held : Option Files) (name : List ℕ) (p : Program) (w : Wanted) (pages : Pages) (tail : Tail) (before after : ShelfCounts) (r : Result Answer AllocError)
    → ((files : Files) → held ≡ Some files → IsPaged files name p pages tail) → IfOk r (AnswersFrom (DueInPages p pages tail w) held before after)
    → IfOk r (λ answer. answer.status ≡ status.Done → AnswersRunOf held name w answer.text.items)
paged_answered known laws short by_runs held name p w pages tail before after (Err e) paged from = tt
paged_answered known laws short by_runs held name p w pages tail before after (Ok answer) paged from = λ done files bytes told found.
    let f = paged files told in
    let o = f.opened in
    let read : IsDecoded p o.bytes f.trace = record { are_bytes = f.are_bytes; short = o.holds.within; reads = o.is_read } in
    let by_run = by_runs p o.bytes f.trace read f.end_fits in
    let tells = settled_due (DueInPages p pages tail w) held _ _ answer done (from.is 0) files told f.trace f.pages_are in
    let same : o.bytes ≡ bytes = some_is (sym o.holds.found ∙ found) in
    subst (λ (b : List ℕ). AnswersRun b w answer.text.items) same
    (run_answered known laws o.head.source o.bytes w p answer.text.items o.head o.end o.version (short o.bytes o.head o.end o.version o.is_head) f.are_bytes o.is_program o.is_head refl by_run.0 (by_run.1 pages.seal w answer.text.items tells))

-- ---- what is answered in place of all

-- bytes that are no trace
refused_bytes : (p : Program) (bytes : List ℕ) (w : Wanted) (e : TraceError) (x : List ℕ) → IsTraceLine e x → ReadsAs (Err e) p bytes → DueUnder p bytes w 5 x
refused_bytes p bytes w _ _ (tellings.cut byte) reads = tellings.refused (trace.Cut byte) _ reads (tellings.cut byte)
refused_bytes p bytes w _ _ (tellings.damaged byte rule) reads = tellings.refused (trace.Damaged byte rule) _ reads (tellings.damaged byte rule)
refused_bytes p bytes w _ _ tellings.bad_seal reads = tellings.refused trace.BadSeal _ reads tellings.bad_seal

-- it is answered whatever is wanted, and does not do it
pub record InPlace (held : Option Files) (name : List ℕ) (before after : ShelfCounts) (answer : Answer) : Type 0 where
  pub undone : answer.status ≡ status.Done → ⊥
  pub caused : HasCause before after answer
  pub any : AnswersAny held name before after answer

pub in_place : (held : Option Files) (name : List ℕ) (before after : ShelfCounts) (typed : Answer) → InPlace held name before after typed → OpensPages held name before after (Refused typed)
in_place held name before after answer i = (i.undone, i.caused, i.any)

pub settled_any : (held : Option Files) (name : List ℕ) (before after : ShelfCounts) (answer : Answer) → is_of_files answer.status ≡ false → (answer.status ≡ status.Done → ⊥) → after.faults ≡ before.faults
    → ((w : Wanted) (files : Files) → held ≡ Some files → DueForTrace files name w (code_of answer.status) answer.text.items) → InPlace held name before after answer
settled_any held name before after answer settled undone same is = record { undone = undone; caused = caused before after answer settled; any = inr (same, no_fault answer.status settled, is) }

-- the bytes of the file are no trace
pub untraced_any : (held : Option Files) (name : List ℕ) (p : Program) (e : TraceError) (before after : ShelfCounts) (answer : Answer) → Opens held name p (Err (page.Trace e)) → after.faults ≡ before.faults
    → ((files : Files) → held ≡ Some files → IsHeaded files name p) → RefusesTrace e answer → InPlace held name before after answer
untraced_any held name p e before after answer opens same headed (is, line) =
    settled_any held name before after answer (ap is_of_files is) (λ done. let x = sym is ∙ done in cc) same (λ w files told.
    let h = headed files told in
    let refused = refused_bytes p h.bytes w e answer.text.items line (open_at held name p (Err (page.Trace e)) opens files told h.bytes h.holds.found) in
    rw (is) (due.read h.bytes 5 answer.text.items h.holds (due.program h.head h.end h.version p 5 answer.text.items h.is_head h.is_program refused)))

-- a view that could not be had
unopened : (held : Option Files) (name : List ℕ) (p : Program) (e : ViewError) (before after : ShelfCounts) → Opens held name p (Err (page.View e)) → OpenCounts {X = Pages × Tail} (Err (page.View e)) before.faults after.faults before.misses after.misses
    → ((files : Files) → held ≡ Some files → IsHeaded files name p) → RefusesView ((files : Files) → held ≡ Some files → ⊥) e before after
unopened held name p view.ReadFault before after opens rose headed = rose
unopened held name p view.Gone before after opens (rose, same) headed = (rose, same, λ files told. let h = headed files told in open_at held name p (Err (page.View view.Gone)) opens files told h.bytes h.holds.found)
unopened held name p (view.Changed block kept found) before after opens counts headed = absurd counts
unopened held name p view.NoMemory before after opens counts headed = tt

view_any : (held : Option Files) (name : List ℕ) (before after : ShelfCounts) (e : ViewError) (answer : Answer) → RefusesView ((files : Files) → held ≡ Some files → ⊥) e before after → TellsRefusal name e answer → InPlace held name before after answer
view_any held name before after view.ReadFault answer rose (is, line) = record {
  undone = λ done. let x = sym is ∙ done in cc;
  caused = record { absent = λ other. absurd (let x = sym is ∙ other in cc); too_long = λ other. absurd (let x = sym is ∙ other in cc); command = λ other. (let x = sym is ∙ other in cc) };
  any = inl (is, line, rose);
}
view_any held name before after view.Gone answer (rose, same, untold) (is, line) = record {
  undone = λ done. let x = sym is ∙ done in cc;
  caused = record { absent = λ other. rose; too_long = λ other. absurd (let x = sym is ∙ other in cc); command = λ other. (let x = sym is ∙ other in cc) };
  any = inr (same, (λ other. let x = sym is ∙ other in cc), λ w files told. absurd (untold files told));
}
view_any held name before after (view.Changed block kept found) answer (same, untold) (is, line) = record {
  undone = λ done. let x = sym is ∙ done in cc;
  caused = record { absent = λ other. absurd (let x = sym is ∙ other in cc); too_long = λ other. absurd (let x = sym is ∙ other in cc); command = λ other. (let x = sym is ∙ other in cc) };
  any = inr (same, (λ other. let x = sym is ∙ other in cc), λ w files told. absurd (untold files told));
}
view_any held name before after view.NoMemory answer refuses tells = absurd tells

pub unviewed_any : (held : Option Files) (name : List ℕ) (p : Program) (e : ViewError) (before after : ShelfCounts) (answer : Answer) → Opens held name p (Err (page.View e)) → OpenCounts {X = Pages × Tail} (Err (page.View e)) before.faults after.faults before.misses after.misses
    → ((files : Files) → held ≡ Some files → IsHeaded files name p) → TellsRefusal name e answer → InPlace held name before after answer
unviewed_any held name p e before after answer opens counts headed tells = view_any held name before after e answer (unopened held name p e before after opens counts headed) tells

-- a file that is lacking
not_done : (e : FileError) (answer : Answer) → Tells e answer → answer.status ≡ status.Done → ⊥
not_done (error.Absent lacking) answer tells done = let x = sym tells.0 ∙ done in cc
not_done (error.TooLong lacking) answer tells done = let x = sym tells.0 ∙ done in cc
not_done error.Fault answer tells done = let x = sym tells.0 ∙ done in cc
not_done error.NoMemory answer tells done = tells

pub lacking_any : (held : Option Files) (name : List ℕ) (e : FileError) (before after : ShelfCounts) (answer : Answer) → GivesFile held name trace_limit (Err e)
    → MatchBool (is_fault e) (Rose before.faults after.faults) (after.faults ≡ before.faults) → MatchBool (is_absent e) (Rose before.misses after.misses) (after.misses ≡ before.misses)
    → MatchBool (is_too_long e) (Rose before.fulls after.fulls) (after.fulls ≡ before.fulls) → Tells e answer → InPlace held name before after answer
lacking_any held name e before after answer gives failed missed full tells =
    let o = lacking_file held name e before after answer gives failed missed full tells in
    record { undone = not_done e answer tells; caused = o.0; any = o.1 }

-- one of them answers what is wanted
pub any_answered : (held : Option Files) (name : List ℕ) (w : Wanted) (before after : ShelfCounts) (answer : Answer) → HasCause before after answer → AnswersAny held name before after answer → AnswersFrom (λ files. DueForTrace files name w) held before after answer
any_answered held name w before after answer cause (inl (is, line, rose)) = record { caused = cause; is = λ n. inl (is, inl (line, rose)) }
any_answered held name w before after answer cause (inr (same, unfaulted, dues)) = record { caused = cause; is = λ n. inr (ap (λ k. counts k n) same, unfaulted, λ files told. dues w files told) }

-- ---- an answer by its clauses

pub from_clauses : (due : DueBy) (held : Option Files) (before after : ShelfCounts) (r : Result Answer AllocError) → ((n : ℕ) → IfOk r (AnswersBy due held (counts before.faults n) (counts after.faults n))) → IfOk r (HasCause before after) → IfOk r (AnswersFrom due held before after)
from_clauses due held before after (Ok answer) is caused = record { caused = caused; is = is }
from_clauses due held before after (Err x) is caused = tt

pub clause_due : (due : DueBy) (held : Option Files) (before after : ShelfCounts) (r : Result Answer AllocError) → IfOk r (AnswersFrom due held before after) → (n : ℕ) → IfOk r (AnswersBy due held (counts before.faults n) (counts after.faults n))
clause_due due held before after (Ok answer) from n = from.is n
clause_due due held before after (Err x) from n = tt

pub clause_causes : (due : DueBy) (held : Option Files) (before after : ShelfCounts) (r : Result Answer AllocError) → IfOk r (AnswersFrom due held before after) → IfOk r (HasCause before after)
clause_causes due held before after (Ok answer) from = from.caused
clause_causes due held before after (Err x) from = tt

-- an answer by the runs of files that stayed
pub moved_run : (held now : Option Files) (name : List ℕ) (w : Wanted) (r : Result Answer AllocError) → now ≡ held → IfOk r (λ answer. answer.status ≡ status.Done → AnswersRunOf now name w answer.text.items)
    → IfOk r (λ answer. answer.status ≡ status.Done → AnswersRunOf held name w answer.text.items)
moved_run held now name w r same is = subst (λ (h : Option Files). IfOk r (λ answer. answer.status ≡ status.Done → AnswersRunOf h name w answer.text.items)) same is

-- ---- what was found while the pages were opened

-- is found in what a view of them tells
pub found_in_view : (found : Option Findings) (pages : Pages) (held : Option Files) (told : Told) → told.records ≡ records_told pages held → told.count ≡ pages.count → IfSome found (HasNoted pages held) → IfSome found (IsFoundIn told)
found_in_view None pages held told records count noted = tt
found_in_view (Some found) pages held told records count noted = record {
  records = noted.records;
  has_found = noted.has_found;
  all = noted.all ∙ sym count;
  few = noted.few;
  as_told = subst (λ (o : Option (List Recorded)). IfSome o (λ rs. rs ≡ noted.records)) (sym records) noted.as_told;
}
