-- What a trace tells is due.
use Rattle.std.proofs.Common.{◌≡◌, sym, subst, ℕ, List, map, Some, Result, Ok, Err, IfOk, Vec, Global}
use Rattle.std.specs.declared.alloc.AllocError.{AllocError}
use Rattle.wy_kernel.specs.declared.program.Program.{Program}
use Rattle.wy_kernel.specs.Parts.{program_of}
use Rattle.wy_event.specs.Record.{recorded}
use Rattle.wy_event.specs.declared.record.Trace.{Trace}
use Rattle.wy_meaning.specs.Kept.{kept_tail}
use Rattle.wy_frames.specs.declared.error.TraceError.{TraceError}
use Rattle.wy_frames.specs.Heads.{version_of}
use Rattle.wy_frames.specs.Traces.{IsReadAs}
use Rattle.wy_machine.specs.Audits.{AuditIs}
use Rattle.wy_machine.specs.declared.auditing.Verdict.{Verdict}
use Rattle.wy_telling.specs.Answers.{AnswerIs, Refused, NotRead, NoSuch, Telling, TellsAnswer}
use Rattle.wy_reply.specs.declared.answer.Answer.{Answer}
use Rattle.wy_reply.specs.declared.status.Status.{Status}
use Rattle.wy_reply.specs.declared.status.Status.TheVariants as status
use Rattle.wy_reply.specs.Statuses.{code_of}
use Rattle.wy_telling.specs.Whynot.{WhynotIs, Denied, TellsWhynot}
use Rattle.wy_telling.specs.Whynot as denied_as
use Rattle.wy_telling.specs.declared.untold.Untold.{Untold}
use Rattle.wy_telling.specs.declared.untold.Untold.TheVariants as untold
use Rattle.wy_telling.specs.declared.whynot.Unanswered.{Unanswered}
use Rattle.wy_telling.specs.declared.whynot.Unanswered.TheVariants as unanswered
use Rattle.wy_telling.specs.declared.scoped.Unscoped.{Unscoped}
use Rattle.wy_telling.specs.declared.scoped.Unscoped.TheVariants as unscoped
use Rattle.wy_telling.specs.Scoped.{TellsScope}
use Rattle.wy_telling.specs.Scoped as scope
use Rattle.wy_view.specs.declared.view.ViewError.{ViewError}
use Rattle.wy_check.specs.Checks.{Judges}
use Rattle.wy_check.specs.declared.error.CertError.{CertError}
use Rattle.wy_check.specs.declared.error.CertError.TheVariants as cert
use Rattle.wy_why.specs.declared.answer.Answer as found
use Rattle.wy_ask.specs.Asked.{owners}
use Rattle.wy_reply.specs.Certificates.{Certified, seal_of}
use Rattle.wy_reply.specs.Tellings.{IsTraceLine, RefusesTrace, SaysAsTold, SaysVerdict, Wanted, Bytes, Certify, Check, certify, check, WhyNot, Scope, SaysScope, scoped, Audit, Tells, DeniesAs, DueUnder, covers_of, answer_status, answer_text, audit_status, audit_line, whynot, audit, told}

-- the status and the text of a refusal, where it was made
abbrev pub Refuses : Status → List ℕ → Result Answer AllocError → Type 0
Refuses s text r = IfOk r (λ answer. (answer.status ≡ s) × (answer.text.items ≡ text))

pub refuses_line : (e d : TraceError) (line : List ℕ) (r : Result Answer AllocError) → e ≡ d → IsTraceLine d line → Refuses status.Trace line r → IfOk r (λ answer. RefusesTrace e answer)
refuses_line e d line (Ok answer) same is h = (h.0, subst (λ (x : TraceError). IsTraceLine x answer.text.items) (sym same) (subst (IsTraceLine d) (sym h.1) is))
refuses_line e d line (Err x) same is h = tt

-- a status and a text that something is told with
abbrev Told : Program → List ℕ → Trace → Wanted → Answer → Type 0
Told p seal t w answer = Tells p seal t w (code_of answer.status) answer.text.items

-- what is told of a question, where each answer to it is a row of what a trace tells
pub told_answer : (telling : Telling) (p : Program) (seal : List ℕ) (t : Trace) (question : List ℕ) (w : Wanted)
    → ((a : Result (List ℕ) Refused) → AnswerIs telling (program_of p) p.lines.items (map recorded t.events) question a → Tells p seal t w (answer_status a) (answer_text a))
    → (outcome : Result (Vec ℕ Global) Untold) (r : Result Answer ViewError) → TellsAnswer telling (program_of p) p.lines.items (map recorded t.events) question outcome
    → IfOk r (SaysAsTold outcome) → IfOk r (Told p seal t w)
told_answer telling p seal t question w row outcome (Err x) is h = tt
told_answer telling p seal t question w row (Ok text) (Ok answer) is h = rw (h.0, h.1) (row (Ok text.items) is)
told_answer telling p seal t question w row (Err untold.BadQuestion) (Ok answer) is h = rw (h.0, h.1) (row (Err NotRead) is)
told_answer telling p seal t question w row (Err (untold.NoSuch n)) (Ok answer) is h = rw (h.0, h.1) (row (Err (NoSuch n)) is)
told_answer telling p seal t question w row (Err (untold.View error)) (Ok answer) is h = absurd h

-- the certificate of the event that a question asks about
pub told_certificate : (p : Program) (seal : List ℕ) (t : Trace) (question : List ℕ) (outcome : Result (Vec ℕ Global) Untold) (r : Result Answer ViewError)
    → Certified (program_of p) p.lines.items (map recorded t.events) seal question outcome → IfOk r (SaysAsTold outcome) → IfOk r (Told p seal t (Certify question))
told_certificate p seal t question outcome (Err x) is h = tt
told_certificate p seal t question (Ok bytes) (Ok answer) is h = rw (h.0, h.1) (certify question (Ok bytes.items) is)
told_certificate p seal t question (Err untold.BadQuestion) (Ok answer) is h = rw (h.0, h.1) (certify question (Err NotRead) is)
told_certificate p seal t question (Err (untold.NoSuch n)) (Ok answer) is h = rw (h.0, h.1) (certify question (Err (NoSuch n)) is)
told_certificate p seal t question (Err (untold.View error)) (Ok answer) is h = absurd h

-- the verdict on a certificate
pub told_verdict : (p : Program) (seal : List ℕ) (t : Trace) (bytes : List ℕ) (v : Result found.Answer CertError) (r : Result Answer AllocError)
    → Judges (owners (program_of p)) (Some (map recorded t.events)) seal bytes v → IfOk r (SaysVerdict v) → IfOk r (Told p seal t (Check (Bytes bytes)))
told_verdict p seal t bytes v (Err x) is h = tt
told_verdict p seal t bytes (Ok verdict) (Ok answer) is h = rw (h.0, h.1) (check bytes (Ok verdict) tt is)
told_verdict p seal t bytes (Err cert.NotRead) (Ok answer) is h = rw (h.0, h.1) (check bytes (Err cert.NotRead) tt is)
told_verdict p seal t bytes (Err cert.OtherTrace) (Ok answer) is h = rw (h.0, h.1) (check bytes (Err cert.OtherTrace) tt is)
told_verdict p seal t bytes (Err (cert.BadEvent n)) (Ok answer) is h = rw (h.0, h.1) (check bytes (Err (cert.BadEvent n)) tt is)
told_verdict p seal t bytes (Err (cert.View e)) (Ok answer) is h = absurd h
told_verdict p seal t bytes (Err cert.NoMemory) (Ok answer) is h = absurd h

-- what is denied of a word is told
pub denied : (p : Program) (seal : List ℕ) (t : Trace) (word : List ℕ) (e : Unanswered) (r : Result Answer AllocError)
    → TellsWhynot (program_of p) p.lines.items (map recorded t.events) (covers_of t) word (Err e)
    → IfOk r (DeniesAs e) → IfOk r (Told p seal t (WhyNot word))
denied p seal t word e (Err x) is h = tt
denied p seal t word unanswered.NotRead (Ok answer) is h = rw (h.0, h.1) (whynot word (Err denied_as.NotRead) is)
denied p seal t word (unanswered.NoSuch line) (Ok answer) is h = rw (h.0, h.1) (whynot word (Err (denied_as.NoSuch line)) is)
denied p seal t word (unanswered.Ran line place count first) (Ok answer) is h =
    rw (h.0, h.1) (whynot word (Err (denied_as.Ran line place count first)) is)
denied p seal t word unanswered.NoMemory (Ok answer) is h = absurd h

pub told_audit : (p : Program) (seal : List ℕ) (t : Trace) (v : Verdict) (s : Status) (r : Result Answer AllocError) → AuditIs (program_of p) t.head (map recorded t.events) (kept_tail t.tail) v →
    code_of s ≡ audit_status v → Refuses s (audit_line v) r → IfOk r (Told p seal t Audit)
told_audit p seal t v s (Ok answer) is same h = rw (h.0, h.1, same) (audit v is)
told_audit p seal t v s (Err x) is same h = tt

-- ---- under a program

pub told_under : (p : Program) (bytes : List ℕ) (w : Wanted) (t : Trace) (r : Result Answer AllocError) → IsReadAs p bytes (Ok t) → IfOk r (Told p (seal_of (version_of bytes) t) t w) →
    IfOk r (λ answer. DueUnder p bytes w (code_of answer.status) answer.text.items)
told_under p bytes w t (Ok answer) reads tells = told t (code_of answer.status) answer.text.items reads tells
told_under p bytes w t (Err x) reads tells = tt

-- what is told of a statement and a call is due
pub told_scope : (p : Program) (seal : List ℕ) (t : Trace) (word : List ℕ) (call : ℕ) (said : Result (Vec ℕ Global) Unscoped) (r : Result Answer ViewError)
    → TellsScope (program_of p) p.lines.items (map recorded t.events) word call said → IfOk r (SaysScope said) → IfOk r (Told p seal t (Scope word call))
told_scope p seal t word call said (Err e) is h = h
told_scope p seal t word call (Ok text) (Ok answer) is h = rw (h.0, h.1) (scoped word call (Ok text.items) is)
told_scope p seal t word call (Err unscoped.NotRead) (Ok answer) is h = rw (h.0, h.1) (scoped word call (Err scope.NotRead) is)
told_scope p seal t word call (Err (unscoped.NoSuch n)) (Ok answer) is h = rw (h.0, h.1) (scoped word call (Err (scope.NoSuch n)) is)
told_scope p seal t word call (Err (unscoped.Passed line place event)) (Ok answer) is h = rw (h.0, h.1) (scoped word call (Err (scope.Passed line place event)) is)
told_scope p seal t word call (Err (unscoped.View e)) (Ok answer) is h = absurd h
