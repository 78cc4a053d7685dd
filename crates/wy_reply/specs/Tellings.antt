-- What is due for the bytes of a trace, under the program of its head.
use Rattle.std.specs.Prelude.{◌≡◌, ℕ, List, length, map, Some, Result, Ok, Err, Vec}
use Rattle.std.specs.declared.alloc.Global.{Global}
use Rattle.wy_kernel.specs.declared.program.Program.{Program}
use Rattle.wy_kernel.specs.Parts.{program_of}
use Rattle.wy_event.specs.Record.{recorded}
use Rattle.wy_event.specs.declared.record.Cover.{Cover}
use Rattle.wy_event.specs.declared.record.Trace.{Trace}
use Rattle.wy_payload.specs.declared.fault.DamageRule.{DamageRule}
use Rattle.wy_frames.specs.declared.error.TraceError.{TraceError}
use Rattle.wy_frames.specs.declared.error.TraceError.TheVariants.{Cut, Damaged, BadSeal}
use Rattle.wy_frames.specs.Heads.{version_of}
use Rattle.wy_frames.specs.Traces.{IsReadAs}
use Rattle.wy_meaning.specs.Kept.{kept_tail}
use Rattle.wy_machine.specs.Audits.{AuditIs}
use Rattle.wy_machine.specs.declared.auditing.Verdict.{Verdict}
use Rattle.wy_machine.specs.declared.auditing.Verdict.TheVariants as verdict
use Rattle.wy_telling.specs.Output.{output_text}
use Rattle.wy_telling.specs.Answers.{Refused, NotRead, NoSuch}
use Rattle.wy_telling.specs.Why.{WhyIs}
use Rattle.wy_telling.specs.Affects.{AffectsIs}
use Rattle.wy_telling.specs.Questions.{questions_text}
use Rattle.wy_telling.specs.Whynot.{WhynotIs, Denied}
use Rattle.wy_telling.specs.Scoped.{ScopeIs}
use Rattle.wy_telling.specs.Scoped as scope
use Rattle.wy_telling.specs.declared.scoped.Unscoped.{Unscoped}
use Rattle.wy_telling.specs.declared.scoped.Unscoped.TheVariants as unscoped
use Rattle.wy_telling.specs.Whynot as denial
use Rattle.wy_telling.specs.declared.untold.Untold.{Untold}
use Rattle.wy_telling.specs.declared.untold.Untold.TheVariants as untold
use Rattle.wy_telling.specs.declared.whynot.Unanswered.{Unanswered}
use Rattle.wy_telling.specs.declared.whynot.Unanswered.TheVariants as unanswered
use Rattle.wy_ask.specs.Asked.{owners}
use Rattle.wy_check.specs.Checks.{Judges}
use Rattle.wy_check.specs.Laws.{IsVerdict}
use Rattle.wy_check.specs.declared.error.CertError.{CertError}
use Rattle.wy_check.specs.declared.error.CertError.TheVariants as cert
use Rattle.wy_why.specs.declared.answer.Answer as found
use Rattle.wy_session.specs.Desk.{scene_of}
use Rattle.wy_session.specs.Talk.{Talks}
use Rattle.wy_reply.specs.Certificates.{CertifyIs, seal_of, verdict_line, verdict_status}
use Rattle.wy_reply.specs.Lines.{cut_line, damaged_line, bad_seal_line, not_read_line, no_such_line, passed_line, ran_line, equal_line, differs_line, tail_differs_line, migrated_line}
use Rattle.wy_reply.specs.declared.answer.Answer.{Answer}
use Rattle.wy_reply.specs.declared.status.Status.TheVariants as status
use Rattle.wy_reply.specs.declared.telling.Inquiry.{Inquiry}
use Rattle.wy_reply.specs.declared.telling.Inquiry.TheVariants as inquiry
use Rattle.wy_reply.specs.declared.telling.Wanted.{Wanted as Asked}
use Rattle.wy_reply.specs.declared.telling.Wanted.TheVariants as asked

-- the line of what is wrong with bytes
pub data IsTraceLine : TraceError → List ℕ → Type 0 where
  cut : (byte : ℕ) → IsTraceLine (Cut byte) (cut_line byte)
  damaged : (byte : ℕ) (rule : DamageRule) → IsTraceLine (Damaged byte rule) (damaged_line byte rule)
  bad_seal : IsTraceLine BadSeal bad_seal_line

-- a refusal with the line of what is wrong
abbrev pub RefusesTrace : TraceError → Answer → Type 0
RefusesTrace error answer = (answer.status ≡ status.Trace) × IsTraceLine error answer.text.items

-- a refusal of a question with this line
abbrev pub Refuses : List ℕ → Answer → Type 0
Refuses line answer = (answer.status ≡ status.Question) × (answer.text.items ≡ line)

-- what is given as a certificate: these bytes, or a file that is lacking, for which this status and this text are due
pub data Given : Type 0 where
  Bytes : List ℕ → Given
  Lacking : (status : ℕ) (text : List ℕ) → Given

-- what a trace is to tell: what its run wrote, what can be asked, what a question's event comes from, the certificate of that, what
-- comes from it, why a statement never began, why the guards around one were not passed in a call, whether it is the trace of that run, whether a certificate is good for it, of how many
-- events it is, where it is written anew, or what a session over it answers
pub data Wanted : Type 0 where
  Output : Wanted
  Explore : (input : List ℕ) → Wanted
  Questions : Wanted
  Why : List ℕ → Wanted
  Affects : List ℕ → Wanted
  Certify : List ℕ → Wanted
  WhyNot : List ℕ → Wanted
  Scope : (word : List ℕ) (call : ℕ) → Wanted
  Audit : Wanted
  Check : Given → Wanted
  Migrate : Wanted

-- the status and the text of the answer to a question
abbrev pub answer_status : Result (List ℕ) Refused → ℕ
answer_status (Ok text) = 0
answer_status (Err e) = 6

abbrev pub answer_text : Result (List ℕ) Refused → List ℕ
answer_text (Ok text) = text
answer_text (Err NotRead) = not_read_line
answer_text (Err (NoSuch number)) = no_such_line number

abbrev pub whynot_status : Result (List ℕ) Denied → ℕ
whynot_status (Ok text) = 0
whynot_status (Err e) = 6

abbrev pub whynot_answer : Result (List ℕ) Denied → List ℕ
whynot_answer (Ok text) = text
whynot_answer (Err denial.NotRead) = not_read_line
whynot_answer (Err (denial.NoSuch line)) = no_such_line line
whynot_answer (Err (denial.Ran line place count first)) = ran_line line place count first

abbrev pub scope_status : Result (List ℕ) scope.Refused → ℕ
scope_status (Ok text) = 0
scope_status (Err e) = 6

abbrev pub scope_answer : Result (List ℕ) scope.Refused → List ℕ
scope_answer (Ok text) = text
scope_answer (Err scope.NotRead) = not_read_line
scope_answer (Err (scope.NoSuch number)) = no_such_line number
scope_answer (Err (scope.Passed line place event)) = passed_line line place event

abbrev pub audit_status : Verdict → ℕ
audit_status verdict.Equal = 0
audit_status (verdict.Event event) = 10
audit_status verdict.Tail = 10

abbrev pub audit_line : Verdict → List ℕ
audit_line verdict.Equal = equal_line
audit_line (verdict.Event event) = differs_line event
audit_line verdict.Tail = tail_differs_line

-- what a trace tells of its statements
abbrev pub covers_of : Trace → List Cover
covers_of t = t.tail.coverage.statements

-- the status and the text of what a trace with this seal tells
pub data Tells (p : Program) (seal : List ℕ) (t : Trace) : Wanted → ℕ → List ℕ → Type 0 where
  output : Tells p seal t Output 0 (output_text (program_of p) p.lines.items (map recorded t.events) t.tail)
  why : (question : List ℕ) (answer : Result (List ℕ) Refused) → WhyIs (program_of p) p.lines.items (map recorded t.events) question answer
      → Tells p seal t (Why question) (answer_status answer) (answer_text answer)
  affects : (question : List ℕ) (answer : Result (List ℕ) Refused) → AffectsIs (program_of p) p.lines.items (map recorded t.events) question answer
      → Tells p seal t (Affects question) (answer_status answer) (answer_text answer)
  certify : (question : List ℕ) (answer : Result (List ℕ) Refused)
      → CertifyIs (program_of p) p.lines.items (map recorded t.events) seal question answer
      → Tells p seal t (Certify question) (answer_status answer) (answer_text answer)
  questions : Tells p seal t Questions 0
      (questions_text (program_of p) p.lines.items (map recorded t.events) (covers_of t))
  whynot : (word : List ℕ) (answer : Result (List ℕ) Denied)
      → WhynotIs (program_of p) p.lines.items (map recorded t.events) (covers_of t) word answer
      → Tells p seal t (WhyNot word) (whynot_status answer) (whynot_answer answer)
  scoped : (word : List ℕ) (call : ℕ) (answer : Result (List ℕ) scope.Refused)
      → ScopeIs (program_of p) p.lines.items (map recorded t.events) word call answer
      → Tells p seal t (Scope word call) (scope_status answer) (scope_answer answer)
  explore : (input : List ℕ) (status : ℕ) (text : List ℕ)
      → Talks (scene_of p t.events (covers_of t)) input status text → Tells p seal t (Explore input) status text
  audit : (v : Verdict) → AuditIs (program_of p) t.head (map recorded t.events) (kept_tail t.tail) v → Tells p seal t Audit (audit_status v) (audit_line v)
  check : (bytes : List ℕ) (r : Result found.Answer CertError) → IsVerdict r
      → Judges (owners (program_of p)) (Some (map recorded t.events)) seal bytes r
      → Tells p seal t (Check (Bytes bytes)) (verdict_status r) (verdict_line r)
  lacking : (status : ℕ) (text : List ℕ) → Tells p seal t (Check (Lacking status text)) status text
  migrated : Tells p seal t Migrate 0 (migrated_line (length (map recorded t.events)))

-- the status and the text that are due for bytes: what is wrong with them first, or what the trace tells that they are read as
pub data DueUnder (p : Program) (bytes : List ℕ) (w : Wanted) : ℕ → List ℕ → Type 0 where
  refused : (e : TraceError) (line : List ℕ) → IsReadAs p bytes (Err e) → IsTraceLine e line → DueUnder p bytes w 5 line
  told : (t : Trace) (status : ℕ) (text : List ℕ) → IsReadAs p bytes (Ok t) → Tells p (seal_of (version_of bytes) t) t w status text → DueUnder p bytes w status text

-- ---- what is wanted, in memory

abbrev pub inquiry_of : Inquiry → Wanted
inquiry_of inquiry.Output = Output
inquiry_of (inquiry.Why question) = Why question.now
inquiry_of (inquiry.Affects question) = Affects question.now
inquiry_of (inquiry.Certify question) = Certify question.now
inquiry_of inquiry.Questions = Questions
inquiry_of (inquiry.WhyNot statement) = WhyNot statement.now
inquiry_of (inquiry.Scope statement call) = Scope statement.now call

abbrev pub wanted_of : Asked → Wanted
wanted_of (asked.Inquiry i) = inquiry_of i
wanted_of asked.Audit = Audit
wanted_of (asked.Check certificate) = Check (Bytes certificate.now)

-- ---- what is told of a question, in memory

-- the text that is told, or a refusal with the line of why there is none
abbrev pub SaysAsTold : Result (Vec ℕ Global) Untold → Answer → Type 0
SaysAsTold (Ok text) answer = (answer.status ≡ status.Done) × (answer.text.items ≡ text.items)
SaysAsTold (Err untold.BadQuestion) answer = Refuses not_read_line answer
SaysAsTold (Err (untold.NoSuch number)) answer = Refuses (no_such_line number) answer
SaysAsTold (Err (untold.View error)) answer = ⊥

-- ---- a word that has no answer, in memory

-- a refusal with the line of why a statement has no answer
abbrev pub DeniesAs : Unanswered → Answer → Type 0
DeniesAs unanswered.NotRead answer = Refuses not_read_line answer
DeniesAs (unanswered.NoSuch line) answer = Refuses (no_such_line line) answer
DeniesAs (unanswered.Ran line place count first) answer =
    Refuses (ran_line line place count first) answer
DeniesAs unanswered.NoMemory answer = ⊥

-- ---- a statement and a call, in memory

-- the text that is told, or a refusal with the line of why there is none
abbrev pub SaysScope : Result (Vec ℕ Global) Unscoped → Answer → Type 0
SaysScope (Ok text) answer = (answer.status ≡ status.Done) × (answer.text.items ≡ text.items)
SaysScope (Err unscoped.NotRead) answer = Refuses not_read_line answer
SaysScope (Err (unscoped.NoSuch number)) answer = Refuses (no_such_line number) answer
SaysScope (Err (unscoped.Passed line place event)) answer =
    Refuses (passed_line line place event) answer
SaysScope (Err (unscoped.View error)) answer = ⊥

-- ---- a verdict on a certificate, in memory

-- what is due for it
abbrev pub SaysVerdict : Result found.Answer CertError → Answer → Type 0
SaysVerdict (Err (cert.View error)) answer = ⊥
SaysVerdict (Err cert.NoMemory) answer = ⊥
SaysVerdict (Ok verdict) answer = (answer.status ≡ status.Done) × (answer.text.items ≡ verdict_line (Ok verdict))
SaysVerdict (Err e) answer = (answer.status ≡ status.Certificate) × (answer.text.items ≡ verdict_line (Err e))
