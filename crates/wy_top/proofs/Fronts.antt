-- What is answered from a trace whose front was read first.
use Rattle.std.proofs.Common.{◌≡◌, ◌∙◌, sym, ap, subst, refl, ℕ, ◌+◌, ◌≤◌, List, [], ◌++◌, length, length-append, Option, Some, None, Ok, arith}
use Rattle.wy_kernel.specs.Limits.{trace_limit}
use Rattle.wy_kernel.specs.declared.program.Program as memory
use Rattle.wy_event.specs.declared.record.Head.{Head}
use Rattle.wy_event.specs.declared.record.Version.{Version}
use Rattle.wy_spelling.specs.Spelling.{opening}
use Rattle.wy_frames.specs.Heads.{head_of}
use Rattle.law_reading.specs.Spelled.{AreBytes}
use Rattle.wy_outside.specs.Shelf.{Files}
use Rattle.wy_page.specs.Opening.{BeginsWith, FrontsBeginTraces, MayBeOpened}
use Rattle.wy_program.specs.Programs.{IsProgramOf}
use Rattle.wy_program.specs.Sources.{IsCauseOf}
use Rattle.wy_program.specs.declared.source.SourceError.{SourceError}
use Rattle.wy_reply.specs.declared.answer.Answer.{Answer}
use Rattle.wy_reply.specs.Lines.{of_trace}
use Rattle.wy_reply.specs.Statuses.{is_of_files}
use Rattle.wy_top.specs.Due.{DueForBytes}
use Rattle.wy_top.specs.Due as due
use Rattle.wy_top.specs.Held.{Holds}
use Rattle.wy_top.specs.Paging.{BeginsFile}
use Rattle.wy_top.specs.Replies.{RefusesTrace, ShelfCounts}
use Rattle.wy_top.proofs.Paging.{InPlace, IsHeaded, settled_any}

-- a front from which a head is read in a version
pub record IsFront (front : List ℕ) (head : Head) (v : Version) : Type 0 where
  pub fronts : FrontsBeginTraces
  pub are : AreBytes front
  pub end : ℕ
  pub read : head_of front ≡ Ok (head, end, v)

begins : (front : List ℕ) (head : Head) (v : Version) (f : IsFront front head v) (others : List ℕ) → length (front ++ others) ≤ trace_limit → BeginsWith v head (front ++ others)
begins front head v f others within = (f.fronts front others head f.end v f.are f.read within).0

-- the head's frame is no longer than the front
pub front_short : (front : List ℕ) (head : Head) (v : Version) → IsFront front head v → length front ≤ trace_limit → length (opening v head) ≤ trace_limit
front_short front head v f within =
    let all : length (front ++ []) ≡ length front + 0 = length-append front [] in
    let b = begins front head v f [] (omega (arith, all, within)) in
    let parts : length (front ++ []) ≡ length (opening v head) + length b.rest = ap length b.spelled ∙ length-append (opening v head) b.rest in
    omega (arith, all, parts, within)

-- the bytes of the file, which begins so
file_at : (held : Option Files) (name front : List ℕ) → BeginsFile held name front → (files : Files) → held ≡ Some files → (others : List ℕ) × Holds files name trace_limit (front ++ others)
file_at None name front begins files told = absurd (cc)
file_at (Some shelf) name front (others, holds) files told = let same : shelf ≡ files = cc in (others, subst (λ (f : Files). Holds f name trace_limit (front ++ others)) same holds)

one_file : (files : Files) (name a b : List ℕ) → files name ≡ Some a → files name ≡ Some b → a ≡ b
one_file files name a b first second = let both : Some a ≡ Some b = sym first ∙ second in cc

pub may_be_opened : (held : Option Files) (name front : List ℕ) (head : Head) (v : Version) → IsFront front head v → BeginsFile held name front → MayBeOpened held name v head
may_be_opened None name front head v f file = tt
may_be_opened (Some files) name front head v f (others, holds) = λ bytes found. subst (BeginsWith v head) (one_file files name (front ++ others) bytes holds.found found) (begins front head v f others holds.within)

-- where the files are told, so is what the file begins with, and the program of that
pub headed : (held : Option Files) (name front : List ℕ) (head : Head) (v : Version) (p : memory.Program) → IsFront front head v → BeginsFile held name front → IsProgramOf head.source p → (files : Files) → held ≡ Some files → IsHeaded files name p
headed held name front head v p f file of files told =
    let there = file_at held name front file files told in
    record { bytes = front ++ there.0; holds = there.1; head = head; end = length (opening v head); version = v; is_head = (begins front head v f there.0 there.1.within).read; is_program = of }

-- the source of the head is no program
pub sourceless_any : (held : Option Files) (name front : List ℕ) (head : Head) (v : Version) (e : SourceError) (before : ShelfCounts) (answer : Answer) → IsFront front head v → BeginsFile held name front → IsCauseOf head.source e
    → RefusesTrace e answer → InPlace held name before before answer
sourceless_any held name front head v e before answer f file cause (is, line) =
    let no = line head.source cause in
    settled_any held name before before answer (ap is_of_files is) (λ done. let x = sym is ∙ done in cc) refl (λ w files told.
    let there = file_at held name front file files told in
    let bytes : List ℕ = front ++ there.0 in
    let read = (begins front head v f there.0 there.1.within).read in
    let said : DueForBytes bytes w 5 (of_trace no.0) = due.no_program head (length (opening v head)) v no.0 read no.1 in
    rw (is, no.2) (due.read bytes 5 (of_trace no.0) there.1 said))
