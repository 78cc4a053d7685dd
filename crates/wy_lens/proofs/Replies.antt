-- What is told of a trace, by what was found of it.
use Rattle.std.proofs.Common.{◌≡◌, ◌≢◌, ◌∙◌, sym, ap, subst, refl, inl, inr, ℕ, List, [], ◌∷◌, length, map, Option, Some, None, Result, Ok, Err, IfOk}
use Rattle.std.specs.declared.alloc.AllocError.{AllocError}
use Rattle.wy_event.specs.Record.{Recorded, recorded}
use Rattle.wy_kernel.specs.Parts.{program_of}
use Rattle.wy_kernel.specs.declared.program.Program.{Program}
use Rattle.wy_ask.specs.declared.question.AskError.{AskError}
use Rattle.wy_ask.specs.declared.question.AskError.TheVariants.{BadQuestion, NoSuch, NoMemory}
use Rattle.wy_fold.specs.Asked.{FindsAsked}
use Rattle.wy_fold.specs.Stops.{StopsAt}
use Rattle.wy_lens.specs.Answers.{IsBytesAnswer, SpeaksOfNoFile}
use Rattle.wy_lens.specs.Statuses.{code_of}
use Rattle.wy_lens.specs.Replies.{Denies, IsTold, IsUnopenedAs, NamesNoEvent}
use Rattle.wy_lens.specs.Traces.{DueForBytes, IsUnopenedLine, OfQuestion, OfReport, OfStop, OnLine, Says, Tells, Told}
use Rattle.wy_lens.specs.Traces as due
use Rattle.wy_lens.specs.Words.{Telling}
use Rattle.wy_lens.specs.declared.answer.Answer.{Answer}
use Rattle.wy_lens.specs.declared.status.Status.TheVariants.{Done, Question, Trace}
use Rattle.wy_report.specs.Page.{IsReport}
use Rattle.wy_program.specs.Openings.{IsUnopenedFor, Opens}
use Rattle.wy_program.specs.declared.opening.OpenTrace.{OpenTrace}
use Rattle.wy_program.specs.declared.opening.OpeningError.{OpeningError}
use Rattle.wy_lens.proofs.Sources.{done_quiet, quiet}

question_quiet : (answer : Answer) → answer.status ≡ Question → SpeaksOfNoFile answer
question_quiet answer is = quiet answer Question is (λ e. cc) (λ e. cc) (λ e. cc) (λ e. cc)

-- ---- a question

pub of_event : (p : Program) (rs : List Recorded) (question : List ℕ) (tell : ℕ → List ℕ) (event : ℕ) (answer : Answer) → FindsAsked (program_of p) rs question (Ok event) → answer.status ≡ Done
    → answer.text.items ≡ tell event → IsTold (OfQuestion p rs question tell) answer
of_event p rs question tell event answer finds done says = (done_quiet answer done, (Ok event, finds, (ap code_of done, says)))

pub no_event : (p : Program) (rs : List Recorded) (question : List ℕ) (tell : ℕ → List ℕ) (error : AskError) (r : Result Answer AllocError) → FindsAsked (program_of p) rs question (Err error)
    → IfOk r (NamesNoEvent error) → IfOk r (IsTold (OfQuestion p rs question tell))
no_event p rs question tell BadQuestion (Ok a) finds says = (question_quiet a says.0, (Err BadQuestion, finds, (ap code_of says.0, says.1)))
no_event p rs question tell (NoSuch n) (Ok a) finds says = (question_quiet a says.0, (Err (NoSuch n), finds, (ap code_of says.0, says.1)))
no_event p rs question tell NoMemory (Ok a) finds says = absurd says
no_event p rs question tell error (Err e) finds says = tt

-- ---- a stop

pub at_stop : (last count size : ℕ) (tell : ℕ → List ℕ) (event : ℕ) (answer : Answer) → StopsAt last count (Some event) → count ≡ size → answer.status ≡ Done → answer.text.items ≡ tell event
    → IsTold (OfStop last size tell) answer
at_stop last count size tell event answer stops same done says =
    (done_quiet answer done, (Some event, subst (λ n. StopsAt last n (Some event)) same stops, (ap code_of done, says)))

pub no_stop : (last count size : ℕ) (tell : ℕ → List ℕ) (r : Result Answer AllocError) → StopsAt last count None → count ≡ size → IfOk r (NamesNoEvent (NoSuch 0)) → IfOk r (IsTold (OfStop last size tell))
no_stop last count size tell (Ok a) stops same says =
    (question_quiet a says.0, (None, subst (λ n. StopsAt last n None) same stops, (ap code_of says.0, says.1)))
no_stop last count size tell (Err e) stops same says = tt

-- ---- a text, or none

pub told_text : (text : List ℕ) (answer : Answer) → answer.status ≡ Done → answer.text.items ≡ text → IsTold (Says 0 text) answer
told_text text answer done says = (done_quiet answer done, (ap code_of done, says))

pub denied : (line : List ℕ) (r : Result Answer AllocError) → IfOk r (Denies line) → IfOk r (IsTold (Says 6 line))
denied line (Ok a) says = (question_quiet a says.0, (ap code_of says.0, says.1))
denied line (Err e) says = tt

-- what is told by one name is told by another
pub told_so : (x y : Told) (r : Result Answer AllocError) → x ≡ y → IfOk r (IsTold x) → IfOk r (IsTold y)
told_so x y r same is = subst (λ (t : Told). IfOk r (IsTold t)) same is

-- ---- bytes

pub opened_told : (bytes : List ℕ) (telling : Telling) (o : OpenTrace) (r : Result Answer AllocError) → Opens bytes o
    → IfOk r (IsTold (Tells o.typed.program (map recorded o.trace.events) o.trace.tail.last o.trace.head.source telling)) → IfOk r (IsBytesAnswer bytes telling)
opened_told bytes telling o (Ok a) opens is = (is.0, due.opened o (code_of a.status) a.text.items opens is.1)
opened_told bytes telling o (Err e) opens is = tt

pub unopened_told : (bytes : List ℕ) (telling : Telling) (e : OpeningError) (line : List ℕ) (answer : Answer) → IsUnopenedFor bytes e → IsUnopenedLine e line → answer.status ≡ Trace → answer.text.items ≡ line
    → IsBytesAnswer bytes telling answer
unopened_told bytes telling e line answer why is refused says =
    (quiet answer Trace refused (λ x. cc) (λ x. cc) (λ x. cc) (λ x. cc), rw (refused, says) (due.unopened e line why is))

pub unopened_bytes : (bytes : List ℕ) (telling : Telling) (e : OpeningError) (r : Result Answer AllocError) → IsUnopenedFor bytes e → IfOk r (IsUnopenedAs e) → IfOk r (IsBytesAnswer bytes telling)
unopened_bytes bytes telling e (Ok a) why says = unopened_told bytes telling e a.text.items a why says.1 says.0 refl
unopened_bytes bytes telling e (Err x) why says = tt

-- ---- a page

pub reported : (p : Program) (rs : List Recorded) (source question : List ℕ) (event : ℕ) (answer : Answer) → FindsAsked (program_of p) rs question (Ok event) → answer.status ≡ Done
    → IsReport (program_of p) p.lines.items source rs event answer.text.items → IsTold (OfReport p rs source question) answer
reported p rs source question event answer finds done is = (done_quiet answer done, (Ok event, finds, (ap code_of done, is)))

pub no_report : (p : Program) (rs : List Recorded) (source question : List ℕ) (error : AskError) (r : Result Answer AllocError) → FindsAsked (program_of p) rs question (Err error)
    → IfOk r (NamesNoEvent error) → IfOk r (IsTold (OfReport p rs source question))
no_report p rs source question BadQuestion (Ok a) finds says = (question_quiet a says.0, (Err BadQuestion, finds, (ap code_of says.0, says.1)))
no_report p rs source question (NoSuch n) (Ok a) finds says = (question_quiet a says.0, (Err (NoSuch n), finds, (ap code_of says.0, says.1)))
no_report p rs source question NoMemory (Ok a) finds says = absurd says
no_report p rs source question error (Err e) finds says = tt

-- ---- a line

pub line_told : (events : List ℕ) (line : ℕ) (text : List ℕ) (answer : Answer) → events ≢ [] → answer.status ≡ Done → answer.text.items ≡ text → IsTold (OnLine events line text) answer
line_told [] line text answer some done says = absurd (some refl)
line_told (n ∷ events) line text answer some done says = told_text text answer done says
