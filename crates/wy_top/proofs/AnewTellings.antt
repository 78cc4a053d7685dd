-- What the file of a trace tells is told by that of the same trace in version 2.
use Rattle.std.proofs.Common.{◌≡◌, ◌∙◌, sym, ap, subst, refl, ℕ, List, drop, length, map, Result, Ok, Err}
use Rattle.std.specs.Prelude.{MatchResult}
use Rattle.wy_kernel.specs.Program.{Program}
use Rattle.wy_kernel.specs.Parts.{program_of}
use Rattle.wy_kernel.specs.Limits.{trace_limit}
use Rattle.wy_kernel.specs.declared.program.Program as memory
use Rattle.wy_event.specs.Record.{Recorded, recorded}
use Rattle.wy_event.specs.declared.record.Head.{Head}
use Rattle.wy_event.specs.declared.record.Tail.{Tail}
use Rattle.wy_event.specs.declared.record.Trace.{Trace}
use Rattle.wy_event.specs.declared.record.Version.{Version}
use Rattle.wy_event.specs.declared.record.Version.TheVariants as version
use Rattle.wy_outside.specs.Shelf.{Files}
use Rattle.wy_frames.specs.Heads.{ReadHead, head_of, version_of}
use Rattle.wy_frames.specs.Traces.{IsReadAs, IsReadBehind}
use Rattle.wy_frames.specs.declared.error.TraceError.{TraceError}
use Rattle.wy_meaning.specs.Kept.{kept_tail}
use Rattle.wy_machine.specs.Audits.{AuditIs}
use Rattle.law_migrated.specs.Kept.{IsReadSo, MigratedTracesAreRead}
use Rattle.law_reading.specs.OneReading.{ReadsInOneWay}
use Rattle.wy_program.specs.Programs.{IsProgramOf}
use Rattle.wy_session.specs.Scene.{Scene}
use Rattle.wy_session.specs.Talk.{Talks}
use Rattle.wy_telling.specs.Affects.{AffectsIs}
use Rattle.wy_telling.specs.Output.{output_text}
use Rattle.wy_telling.specs.Questions.{questions_text}
use Rattle.wy_telling.specs.Scoped.{ScopeIs}
use Rattle.wy_telling.specs.Why.{WhyIs}
use Rattle.wy_telling.specs.Whynot.{WhynotIs}
use Rattle.wy_reply.specs.Certificates.{seal_of}
use Rattle.wy_reply.specs.Lines.{migrated_line}
use Rattle.wy_reply.specs.Migrations.{bytes_of}
use Rattle.wy_reply.specs.Recordings.{trace_spelling}
use Rattle.wy_reply.specs.Tellings.{DueUnder, Tells, Wanted}
use Rattle.wy_reply.specs.Tellings as wanted
use Rattle.wy_top.specs.Call.{IsOpened}
use Rattle.wy_top.specs.Causes.{IsNoProgram}
use Rattle.wy_top.specs.Due.{DueForBytes, DueForTrace}
use Rattle.wy_top.specs.Due as due
use Rattle.wy_top.specs.Held.{Holds}
use Rattle.wy_top.specs.Rewritten.{AreOneTrace, HasNoSeal, MigratedTracesTellTheSame}
use Rattle.wy_top.proofs.FileReads.{not_lacking, one_file}
use Rattle.wy_top.proofs.OneText.{Known, one_program, program_or_cause}
use Rattle.wy_top.proofs.OneTrace.{failed, no_head_at, one_head, read_alike, same_ranges, says}

-- ---- what is due for the bytes of a trace is told of it

-- a text is told of a trace under a program in memory of the same parts, on the same lines
record Told (p : memory.Program) (bytes : List ℕ) (t : Trace) (w : Wanted) (status : ℕ) (text : List ℕ) : Type 0 where
  under : memory.Program
  parts : program_of p ≡ program_of under
  lines : p.lines.items ≡ under.lines.items
  tells : Tells under (seal_of (version_of bytes) t) t w status text

told_under : ReadsInOneWay → (p q : memory.Program) (bytes : List ℕ) (t : Trace) (w : Wanted) (status : ℕ) (text : List ℕ) → program_of p ≡ program_of q → p.lines.items ≡ q.lines.items → IsReadAs p bytes (Ok t)
    → DueUnder q bytes w status text → Told p bytes t w status text
told_under reading p q bytes t w _ _ parts lines read (wanted.refused e k reads is) =
    absurd (let both : failed e ≡ Ok t = reading q bytes (Err e) (Ok t) (says e k is) tt reads (read_alike p q bytes (Ok t) (same_ranges p q parts lines) read) in cc)
told_under reading p q bytes t w _ _ parts lines read (wanted.told v status text reads tells) =
    let both : Ok t ≡ Ok v = reading q bytes (Ok t) (Ok v) tt tt (read_alike p q bytes (Ok t) (same_ranges p q parts lines) read) reads in
    let same : v ≡ t = cc in
    record { under = q; parts = parts; lines = lines; tells = subst (λ (z : Trace). Tells q (seal_of (version_of bytes) z) z w status text) same tells }

told_of_bytes : Known → ReadsInOneWay → (p : memory.Program) (bytes : List ℕ) (head : Head) (end : ℕ) (v : Version) (t : Trace) (w : Wanted) (status : ℕ) (text : List ℕ) → head_of bytes ≡ Ok (head, end, v) → IsProgramOf head.source p
    → IsReadAs p bytes (Ok t) → DueForBytes bytes w status text → Told p bytes t w status text
told_of_bytes known reading p bytes head end v t w _ _ at of read (due.no_head e k is line_is) = absurd (let x : no_head_at e ≡ Ok (head, end, v) = sym is ∙ at in cc)
told_of_bytes known reading p bytes head end v t w _ _ at of read (due.no_program h m u k is none) =
    absurd (program_or_cause known head.source of.spans _ k of.read of.becomes (subst (λ (z : Head). IsNoProgram z.source k) (one_head bytes head h end m v u at is) none))
told_of_bytes known reading p bytes head end v t w _ _ at of read (due.program h m u q status text is also under) =
    let one = one_program known head.source p q of (subst (λ (z : Head). IsProgramOf z.source q) (one_head bytes head h end m v u at is) also) in
    told_under reading p q bytes t w status text one.0 one.1 read under

told_of : Known → ReadsInOneWay → (files : Files) (name : List ℕ) (p : memory.Program) (t : Trace) (w : Wanted) (status : ℕ) (text : List ℕ) → (o : IsOpened files name p t) → DueForTrace files name w status text → Told p o.bytes t w status text
told_of known reading files name p t w _ _ o (due.no_trace status text lacks) = absurd (not_lacking files name trace_limit o.bytes status text o.holds lacks)
told_of known reading files name p t w _ _ o (due.read b status text holds is) =
    let same : b ≡ o.bytes = one_file files name o.bytes b o.holds.found holds.found in
    told_of_bytes known reading p o.bytes o.head o.end o.version t w status text o.is_head o.is_program o.is_read (subst (λ (z : List ℕ). DueForBytes z w status text) same is)

-- ---- what is told of a trace is due for each file that is read as a trace with its head, its records and its end

record Alike (t u : Trace) : Type 0 where
  head : t.head ≡ u.head
  events : map recorded t.events ≡ map recorded u.events
  tail : t.tail ≡ u.tail

alike : (q r : memory.Program) (seal other : List ℕ) (t u : Trace) (w : Wanted) (status : ℕ) (text : List ℕ) → program_of q ≡ program_of r → q.lines.items ≡ r.lines.items → Alike t u → HasNoSeal w
    → Tells q seal t w status text → Tells r other u w status text
alike q r seal other t u _ _ _ parts lines same plain wanted.output =
    subst (λ (z : List ℕ). Tells r other u wanted.Output 0 z) (λ i. output_text (sym parts i) (sym lines i) (sym same.events i) (sym same.tail i)) wanted.output
alike q r seal other t u _ _ _ parts lines same plain (wanted.why question a is) =
    wanted.why question a (subst (λ (z : List Recorded). WhyIs (program_of r) r.lines.items z question a) same.events (subst (λ (z : List ℕ). WhyIs (program_of r) z (map recorded t.events) question a) lines (subst (λ (z : Program). WhyIs z q.lines.items (map recorded t.events) question a) parts is)))
alike q r seal other t u _ _ _ parts lines same plain (wanted.affects question a is) =
    wanted.affects question a (subst (λ (z : List Recorded). AffectsIs (program_of r) r.lines.items z question a) same.events (subst (λ (z : List ℕ). AffectsIs (program_of r) z (map recorded t.events) question a) lines (subst (λ (z : Program). AffectsIs z q.lines.items (map recorded t.events) question a) parts is)))
alike q r seal other t u _ _ _ parts lines same plain (wanted.certify question a is) = absurd plain
alike q r seal other t u _ _ _ parts lines same plain wanted.questions =
    subst (λ (z : List ℕ). Tells r other u wanted.Questions 0 z) (λ i. questions_text (sym parts i) (sym lines i) (sym same.events i) (sym same.tail i).coverage.statements) wanted.questions
alike q r seal other t u _ _ _ parts lines same plain (wanted.whynot word a is) =
    wanted.whynot word a (subst (λ (z : Tail). WhynotIs (program_of r) r.lines.items (map recorded u.events) z.coverage.statements word a) same.tail (subst (λ (z : List Recorded). WhynotIs (program_of r) r.lines.items z t.tail.coverage.statements word a) same.events
    (subst (λ (z : List ℕ). WhynotIs (program_of r) z (map recorded t.events) t.tail.coverage.statements word a) lines (subst (λ (z : Program). WhynotIs z q.lines.items (map recorded t.events) t.tail.coverage.statements word a) parts is))))
alike q r seal other t u _ _ _ parts lines same plain (wanted.scoped word call a is) =
    wanted.scoped word call a (subst (λ (z : List Recorded). ScopeIs (program_of r) r.lines.items z word call a) same.events (subst (λ (z : List ℕ). ScopeIs (program_of r) z (map recorded t.events) word call a) lines (subst (λ (z : Program). ScopeIs z q.lines.items (map recorded t.events) word call a) parts is)))
alike q r seal other t u _ _ _ parts lines same plain (wanted.explore input status text is) =
    wanted.explore input status text (subst (λ (x : Scene). Talks x input status text) (λ i. record { program = parts i; lines = lines i; records = same.events i; covers = (same.tail i).coverage.statements }) is)
alike q r seal other t u _ _ _ parts lines same plain (wanted.audit v is) =
    wanted.audit v (subst (λ (z : Tail). AuditIs (program_of r) u.head (map recorded u.events) (kept_tail z) v) same.tail (subst (λ (z : List Recorded). AuditIs (program_of r) u.head z (kept_tail t.tail) v) same.events
    (subst (λ (z : Head). AuditIs (program_of r) z (map recorded t.events) (kept_tail t.tail) v) same.head (subst (λ (z : Program). AuditIs z t.head (map recorded t.events) (kept_tail t.tail) v) parts is))))
alike q r seal other t u _ _ _ parts lines same plain (wanted.check bytes a is judged) = absurd plain
alike q r seal other t u _ _ _ parts lines same plain (wanted.lacking status text) = absurd plain
alike q r seal other t u _ _ _ parts lines same plain wanted.migrated = subst (λ (z : List ℕ). Tells r other u wanted.Migrate 0 z) (λ i. migrated_line (length (sym same.events i))) wanted.migrated

due_of : (files : Files) (name : List ℕ) (p : memory.Program) (t u : Trace) (bytes : List ℕ) (w : Wanted) (status : ℕ) (text : List ℕ) → IsOpened files name p t → Alike u t → HasNoSeal w → Told p bytes u w status text
    → DueForTrace files name w status text
due_of files name p t u bytes w status text o same plain told =
    due.read o.bytes status text o.holds (due.program o.head o.end o.version p status text o.is_head o.is_program
    (wanted.told t status text o.is_read (alike told.under p (seal_of (version_of bytes) u) (seal_of (version_of o.bytes) t) u t w status text (sym told.parts) (sym told.lines) same plain told.tells)))

-- ---- the same trace in version 2

-- the file is opened, as a trace of its head and by the program of that
headed : (p : memory.Program) (bytes : List ℕ) (x : Trace) (h : Result ReadHead TraceError) → MatchResult h (λ y. IsReadBehind y.2 p y.0 (drop y.1 bytes) (Ok x)) (λ e. Ok x ≡ Err e) → (y : ReadHead) × (h ≡ Ok y) × (x.head ≡ y.0)
headed p bytes x (Ok y) (t, stand, has) = (y, refl, has.head_is)
headed p bytes x (Err e) is = absurd (cc)

opened_of : (files : Files) (name : List ℕ) (p : memory.Program) (bytes : List ℕ) (t : Trace) → Holds files name trace_limit bytes → IsReadAs p bytes (Ok t) → IsProgramOf t.head.source p → IsOpened files name p t
opened_of files name p bytes t holds read of =
    let h = headed p bytes t (head_of bytes) read in
    record { bytes = bytes; holds = holds; head = h.0.0; end = h.0.1; version = h.0.2; is_head = h.1; is_program = subst (λ (z : Head). IsProgramOf z.source p) h.2 of; is_read = read }

-- the head that an opened trace has
abbrev head_at : ReadHead → Result ReadHead TraceError
head_at x = Ok x

own_head : (p : memory.Program) (bytes : List ℕ) (t : Trace) (head : Head) (end : ℕ) (v : Version) → head_of bytes ≡ Ok (head, end, v) → IsReadAs p bytes (Ok t) → head ≡ t.head
own_head p bytes t head end v at read =
    let h = headed p bytes t (head_of bytes) read in
    let both : head_at (head, end, v) ≡ head_at h.0 = sym at ∙ h.1 in
    let one : (head, end, v) ≡ h.0 = cc in
    ap (λ (z : ReadHead). z.0) one ∙ sym h.2

read_anew : MigratedTracesAreRead → (files : Files) (name : List ℕ) (others : Files) (other : List ℕ) (x : AreOneTrace files name others other) → IsReadSo x.program (bytes_of (trace_spelling version.Two) x.trace) x.trace
read_anew law files name others other x =
    law x.program x.opened.bytes x.trace x.events_fit x.end_fits x.opened.is_read x.are_bytes x.opened.holds.within (bytes_of (trace_spelling version.Two) x.trace) x.anew.within refl

opened_anew : (files : Files) (name : List ℕ) (others : Files) (other : List ℕ) (x : AreOneTrace files name others other) → (so : IsReadSo x.program (bytes_of (trace_spelling version.Two) x.trace) x.trace) → IsOpened others other x.program so.trace
opened_anew files name others other x so =
    let o = x.opened in
    let head : o.head ≡ so.trace.head = own_head x.program o.bytes x.trace o.head o.end o.version o.is_head o.is_read ∙ sym so.head_is in
    opened_of others other x.program (bytes_of (trace_spelling version.Two) x.trace) so.trace x.anew so.read (subst (λ (z : Head). IsProgramOf z.source x.program) head o.is_program)

pub told_alike : Known → ReadsInOneWay → MigratedTracesAreRead → MigratedTracesTellTheSame
told_alike known reading law files others name other w status text x plain =
    let so = read_anew law files name others other x in
    let anew : IsOpened others other x.program so.trace = opened_anew files name others other x so in (
      λ h. due_of others other x.program so.trace x.trace x.opened.bytes w status text anew (record { head = sym so.head_is; events = sym so.events_are; tail = sym so.tail_is }) plain
          (told_of known reading files name x.program x.trace w status text x.opened h),
      λ h. due_of files name x.program x.trace so.trace anew.bytes w status text x.opened (record { head = so.head_is; events = so.events_are; tail = so.tail_is }) plain
          (told_of known reading others other x.program so.trace w status text anew h),
    )
