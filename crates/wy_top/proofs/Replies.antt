-- What is answered for a source and for a trace is due.
use Rattle.std.proofs.Common.{◌≡◌, ◌∙◌, sym, ap, subst, refl, inl, inr, ℕ, List, Result, Ok, Err, IfOk}
use Rattle.std.specs.declared.alloc.AllocError.{AllocError}
use Rattle.wy_kernel.specs.declared.program.Program as memory
use Rattle.wy_kernel.specs.Program.{Program}
use Rattle.wy_kernel.specs.Parts.{program_of}
use Rattle.wy_event.specs.declared.record.Head.{Head}
use Rattle.wy_record.specs.Recorders.{Mirrors}
use Rattle.wy_reply.specs.declared.answer.Answer.{Answer}
use Rattle.wy_reply.specs.declared.status.Status.TheVariants as status
use Rattle.wy_reply.specs.Recordings.{Spelling, RecordsAs}
use Rattle.wy_reply.specs.Report.{recorded_report}
use Rattle.wy_reply.specs.Statuses.{code_of, is_of_files}
use Rattle.wy_program.specs.declared.source.SourceError.{SourceError}
use Rattle.wy_top.specs.Due.{DueFor}
use Rattle.wy_top.specs.Due as due
use Rattle.wy_program.specs.Sources.{IsCauseOf}
use Rattle.wy_program.specs.Programs.{IsProgramOf}
use Rattle.wy_top.specs.Replies.{RecordsSource, RefusesSource}

-- the text of a source's program
program_due : (source : List ℕ) (told : Program → List ℕ → List ℕ) (p : memory.Program) → IsProgramOf source p → DueFor source told 0 (told (program_of p) p.lines.items)
program_due source told p is = subst (λ (lines : List ℕ). DueFor source told 0 (told (program_of p) lines)) (sym is.lines) (due.program is.spans (program_of p) is.read is.becomes)

pub run_due : (source : List ℕ) (told : Program → List ℕ → List ℕ) (p : memory.Program) (r : Result Answer AllocError) → IsProgramOf source p → IfOk r (λ answer. answer.status ≡ status.Done) →
    IfOk r (λ answer. answer.text.items ≡ told (program_of p) p.lines.items) → IfOk r (λ answer. DueFor source told (code_of answer.status) answer.text.items)
run_due source told p (Ok answer) is done text = rw (done, text) (program_due source told p is)
run_due source told p (Err x) is done text = tt

pub error_due : (source : List ℕ) (told : Program → List ℕ → List ℕ) (e : SourceError) (r : Result Answer AllocError) → IsCauseOf source e → IfOk r (λ answer. RefusesSource e answer) →
    IfOk r (λ answer. DueFor source told (code_of answer.status) answer.text.items)
error_due source told e (Ok answer) cause h = rw (h.0) (due.no_program answer.text.items (h.1 source cause))
error_due source told e (Err x) cause h = tt

-- ---- recordings

record_due : (s : Spelling) (source input : List ℕ) (steps : ℕ) (p : memory.Program) (head : Head) (old new : Mirrors) (n m : ℕ) (answer : Answer) → IsProgramOf source p →
    head.source ≡ source → head.input ≡ input → head.steps ≡ steps → RecordsAs s p head old new n m answer → RecordsSource s source input steps old new n m answer
record_due s source input steps p head old new n m answer is _ _ _ (inl fault) = inl fault
record_due s source input steps p head old new n m answer is text given budget (inr (done, said, held, same)) =
    inr (
      same,
      ap is_of_files done,
      rw (done, said, given, budget) (program_due source (λ p lines. recorded_report p lines input steps) p is),
      λ _. (p, is, rw (text, given, budget) at held),
    )

pub recorded_due : (s : Spelling) (source input : List ℕ) (steps : ℕ) (p : memory.Program) (head : Head) (old new : Mirrors) (n m : ℕ) (r : Result Answer AllocError) → IsProgramOf source p →
    head.source ≡ source → head.input ≡ input → head.steps ≡ steps → IfOk r (λ answer. RecordsAs s p head old new n m answer) → IfOk r (λ answer. RecordsSource s source input steps old new n m answer)
recorded_due s source input steps p head old new n m (Ok answer) is text given budget h = record_due s source input steps p head old new n m answer is text given budget h
recorded_due s source input steps p head old new n m (Err x) is text given budget h = tt

unrecorded : (s : Spelling) (source input : List ℕ) (steps : ℕ) (e : SourceError) (old : Mirrors) (n : ℕ) (answer : Answer) → IsCauseOf source e → RefusesSource e answer →
    RecordsSource s source input steps old old n n answer
unrecorded s source input steps e old n answer cause h =
    inr (refl, ap is_of_files h.0, rw (h.0) (due.no_program answer.text.items (h.1 source cause)), λ done. absurd (let x = sym h.0 ∙ done in cc))

pub unrecorded_due : (s : Spelling) (source input : List ℕ) (steps : ℕ) (e : SourceError) (old : Mirrors) (n : ℕ) (r : Result Answer AllocError) → IsCauseOf source e → IfOk r (λ answer. RefusesSource e answer) →
    IfOk r (λ answer. RecordsSource s source input steps old old n n answer)
unrecorded_due s source input steps e old n (Ok answer) cause h = unrecorded s source input steps e old n answer cause h
unrecorded_due s source input steps e old n (Err x) cause h = tt
