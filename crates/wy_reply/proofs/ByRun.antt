-- What is told over the bytes of a run's trace is what the run did.
use Rattle.std.proofs.Common.{◌≡◌, ◌∙◌, sym, ap, subst, refl, ℕ, ◌<◌, ◌≤◌, ◌^◌, List, length, map, drop, Result, Ok, Err, IfOk}
use Rattle.std.specs.Prelude.{MatchResult}
use Rattle.std.specs.declared.alloc.AllocError.{AllocError}
use Rattle.wy_kernel.specs.declared.program.Program as memory
use Rattle.wy_kernel.specs.Program.{Program}
use Rattle.wy_kernel.specs.Parts.{program_of}
use Rattle.wy_event.specs.Record.{recorded}
use Rattle.wy_event.specs.declared.record.Head.{Head}
use Rattle.wy_event.specs.declared.record.Trace.{Trace}
use Rattle.wy_event.specs.declared.record.Version.{Version}
use Rattle.wy_fitting.specs.Fits.{EndFits}
use Rattle.wy_kernel.specs.Limits.{trace_limit}
use Rattle.wy_frames.specs.Heads.{ReadHead, head_of}
use Rattle.wy_frames.specs.Traces.{IsReadAs, IsReadBehind}
use Rattle.wy_frames.specs.declared.error.TraceError.{TraceError}
use Rattle.law_reading.specs.Spelled.{AreBytes, RecordedEndsAreReadBack, RecordedHeadsAreReadBack, RecordedTracesAreReadBack}
use Rattle.wy_steps.specs.Sets.{nothing, numbers}
use Rattle.wy_meaning.specs.Run as meaning
use Rattle.wy_meaning.specs.Run.{events}
use Rattle.wy_meaning.specs.Kept.{covered_of}
use Rattle.law_carried.specs.Backward.{BackwardIsForward, StoredIsLastWrite}
use Rattle.law_shaped.specs.Shaped.{RecordsAreShaped}
use Rattle.wy_reply.specs.declared.answer.Answer.{Answer}
use Rattle.wy_reply.specs.declared.status.Status.TheVariants.{Done}
use Rattle.wy_reply.specs.Statuses.{code_of}
use Rattle.wy_reply.specs.Recordings.{IsTraceOf, trace_spelling}
use Rattle.wy_reply.specs.Tellings.{Wanted, Output, Explore, Questions, Why, Affects, Certify, Check, WhyNot, Scope, Audit, Migrate, Tells, covers_of}
use Rattle.wy_reply.specs.ByRun.{AnswersByRun, CanTell, HasSource, TellingsAreByRuns, TellsRun}
use Rattle.wy_reply.proofs.Affecting.{told_affected}
use Rattle.wy_reply.proofs.Carrying.{Runs, told_carried, told_in}
use Rattle.wy_reply.proofs.Blocking.{covers_read, told_blocked}

-- what is known of runs and of what is read of their traces
pub record Laws : Type 0 where
  pub back : RecordedTracesAreReadBack
  pub heads : RecordedHeadsAreReadBack
  pub ends : RecordedEndsAreReadBack
  pub shaped : (p : Program) (input : List ℕ) (steps : ℕ) → RecordsAreShaped nothing p input steps
  pub same : (p : Program) (input : List ℕ) (steps : ℕ) → events numbers p input steps ≡ events nothing p input steps
  pub carried : (p : Program) (input : List ℕ) (steps : ℕ) → BackwardIsForward p input steps
  pub stores : (p : Program) (input : List ℕ) (steps : ℕ) → StoredIsLastWrite p input steps

pub known : RecordedTracesAreReadBack → RecordedHeadsAreReadBack → RecordedEndsAreReadBack → ((p : Program) (input : List ℕ) (steps : ℕ) → RecordsAreShaped nothing p input steps) →
    ((p : Program) (input : List ℕ) (steps : ℕ) → events numbers p input steps ≡ events nothing p input steps) → ((p : Program) (input : List ℕ) (steps : ℕ) → BackwardIsForward p input steps) →
    ((p : Program) (input : List ℕ) (steps : ℕ) → StoredIsLastWrite p input steps) → Laws
known back heads ends shaped same carried stores = record { back = back; heads = heads; ends = ends; shaped = shaped; same = same; carried = carried; stores = stores }

run_of : Laws → (p : Program) (input : List ℕ) (steps : ℕ) → Runs p input steps
run_of laws p input steps = record { same = laws.same p input steps; carried = laws.carried p input steps; stores = laws.stores p input steps }

-- the records that are read are those of the run
read_back : Laws → (v : Version) (p q : memory.Program) (source input : List ℕ) (steps : ℕ) (bytes : List ℕ) (x : Trace) → AreBytes bytes → length bytes ≤ trace_limit → CanTell v (events nothing (program_of q) input steps) →
    IsTraceOf (trace_spelling v) (program_of q) source input steps bytes → IsReadAs p bytes (Ok x) → map recorded x.events ≡ events nothing (program_of q) input steps
read_back laws v p q source input steps bytes x are short can is reads =
    laws.back v p is.head (events nothing (program_of q) input steps) is.end bytes x are short is.events_fit is.spelled reads (told_in v (program_of q) input steps (laws.shaped (program_of q) input steps) can)

-- and its covers
ends_back : Laws → (v : Version) (p q : memory.Program) (source input : List ℕ) (steps : ℕ) (bytes : List ℕ) (x : Trace) → AreBytes bytes → length bytes ≤ trace_limit → EndFits x.tail → IsTraceOf (trace_spelling v) (program_of q) source input steps bytes →
    IsReadAs p bytes (Ok x) → map covered_of (covers_of x) ≡ (meaning.tail nothing (program_of q) input steps).coverage
ends_back laws v p q source input steps bytes x are short fit is reads =
    covers_read (program_of q) input steps x is.end (laws.ends v p is.head (events nothing (program_of q) input steps) is.end bytes x are short is.events_fit is.spelled reads is.end_fits fit) is.end_is

told_by_run : Laws → (p : memory.Program) (seal : List ℕ) (t : Trace) (s : ℕ) (x input : List ℕ) (steps : ℕ) → map recorded t.events ≡ events nothing (program_of p) input steps →
    map covered_of (covers_of t) ≡ (meaning.tail nothing (program_of p) input steps).coverage → (w : Wanted) → Tells p seal t w s x → s ≡ 0 → AnswersByRun (program_of p) p.lines.items input steps w x
told_by_run laws p seal t s x input steps read covers Output tells done = tt
told_by_run laws p seal t s x input steps read covers (Explore keys) tells done = tt
told_by_run laws p seal t s x input steps read covers Questions tells done = tt
told_by_run laws p seal t s x input steps read covers (Why asks) tells done = told_carried p seal t (Why asks) s x input steps (run_of laws (program_of p) input steps) read tells done asks refl
told_by_run laws p seal t s x input steps read covers (Affects asks) tells done = told_affected p seal t (Affects asks) s x input steps (run_of laws (program_of p) input steps) read tells done asks refl
told_by_run laws p seal t s x input steps read covers (WhyNot word) tells done = told_blocked p seal t s x input steps read covers word tells done
told_by_run laws p seal t s x input steps read covers Audit tells done = tt
told_by_run laws p seal t s x input steps read covers (Certify asks) tells done = tt
told_by_run laws p seal t s x input steps read covers (Scope word call) tells done = tt
told_by_run laws p seal t s x input steps read covers (Check given) tells done = tt
told_by_run laws p seal t s x input steps read covers Migrate tells done = tt

tells_run : Laws → (p : memory.Program) (bytes seal : List ℕ) (w : Wanted) (t : Trace) (s : ℕ) (text : List ℕ) → AreBytes bytes → length bytes ≤ trace_limit → EndFits t.tail → IsReadAs p bytes (Ok t) → Tells p seal t w s text → s ≡ 0 → TellsRun p bytes w text
tells_run laws p bytes seal w t s text are short fit reads tells done = λ v source input steps can is.
    told_by_run laws p seal t s text input steps (read_back laws v p p source input steps bytes t are short can is reads) (ends_back laws v p p source input steps bytes t are short fit is reads) w tells done

pub under_run : Laws → (p : memory.Program) (bytes seal : List ℕ) (w : Wanted) (t : Trace) (r : Result Answer AllocError) → AreBytes bytes → length bytes ≤ trace_limit → EndFits t.tail → IsReadAs p bytes (Ok t) →
    IfOk r (λ answer. Tells p seal t w (code_of answer.status) answer.text.items) → IfOk r (λ answer. answer.status ≡ Done → TellsRun p bytes w answer.text.items)
under_run laws p bytes seal w t (Ok answer) are short fit reads tells = λ done. tells_run laws p bytes seal w t (code_of answer.status) answer.text.items are short fit reads tells (ap code_of done)
under_run laws p bytes seal w t (Err e) are short fit reads tells = tt

abbrev headed : ReadHead → Result ReadHead TraceError
headed y = Ok y

one_head : (y z : ReadHead) → headed y ≡ headed z → y ≡ z
one_head y z e = cc

head_in_trace : (p : memory.Program) (bytes : List ℕ) (x : Trace) (h : Result ReadHead TraceError) (head : Head) (end : ℕ) (u : Version) → MatchResult h (λ y. IsReadBehind y.2 p y.0 (drop y.1 bytes) (Ok x)) (λ e. Ok x ≡ Err e) →
    h ≡ Ok (head, end, u) → x.head ≡ head
head_in_trace p bytes x (Ok y) head end u (t, stand, has) is = has.head_is ∙ ap (λ (z : ReadHead). z.0) (one_head y (head, end, u) is)
head_in_trace p bytes x (Err e) head end u reads is = absurd (cc)

has_source : Laws → (p : memory.Program) (bytes : List ℕ) (x : Trace) → AreBytes bytes → length bytes ≤ trace_limit → IsReadAs p bytes (Ok x) → HasSource bytes
has_source laws p bytes x are short reads = λ v q source input steps is head end u at.
    let few : is.head.steps < 2 ^ 32 = subst (λ n. n < 2 ^ 32) (sym is.steps_are) is.steps_fit in
    let read : x.head ≡ is.head = laws.heads v p is.head (events nothing q input steps) is.end bytes x are short is.events_fit is.spelled reads few in
    ap (λ (h : Head). h.source) (sym (head_in_trace p bytes x (head_of bytes) head end u reads at) ∙ read) ∙ is.source_is

pub under_source : Laws → (p : memory.Program) (bytes : List ℕ) (x : Trace) (r : Result Answer AllocError) → AreBytes bytes → length bytes ≤ trace_limit → IsReadAs p bytes (Ok x) →
    IfOk r (λ answer. answer.status ≡ Done → HasSource bytes)
under_source laws p bytes x (Ok answer) are short reads = λ done. has_source laws p bytes x are short reads
under_source laws p bytes x (Err e) are short reads = tt

pub by_runs : Laws → TellingsAreByRuns
by_runs laws p bytes t is fit = (has_source laws p bytes t is.are_bytes is.short is.reads, λ seal w text tells. tells_run laws p bytes seal w t 0 text is.are_bytes is.short fit is.reads tells refl)
