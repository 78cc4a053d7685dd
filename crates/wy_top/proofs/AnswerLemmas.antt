-- What an answer is, from what the reading of the files gave.
use Rattle.std.proofs.Common.{◌≡◌, ◌∙◌, sym, ap, subst, refl, inl, inr, ℕ, true, false, List, Option, Some, None, Result, Ok, Err, IfOk, Vec, Global}
use Rattle.std.specs.Prelude.{MatchBool}
use Rattle.std.specs.declared.alloc.AllocError.{AllocError}
use Rattle.wy_kernel.specs.Program.{Program}
use Rattle.wy_outside.specs.Counts.{Rose}
use Rattle.wy_outside.specs.Shelf.{Files}
use Rattle.wy_record.specs.Recorders.{Mirrors}
use Rattle.wy_words.specs.Words.{Asked, Asks, Command, Gen, IsNoCommand, AskOneCommand}
use Rattle.wy_reply.specs.declared.answer.Answer.{Answer}
use Rattle.wy_reply.specs.declared.status.Status.{Status}
use Rattle.wy_reply.specs.declared.status.Status.TheVariants.{Usage, Fault, Done}
use Rattle.wy_reply.specs.Lines.{usage_line, absent_line, too_long_line}
use Rattle.wy_reply.specs.Recordings.{Spelling}
use Rattle.wy_gen.specs.Generated.{source}
use Rattle.wy_reply.specs.Generated.{generated_report}
use Rattle.wy_reply.specs.Report.{recorded_report}
use Rattle.wy_reply.specs.Statuses.{code_of, is_of_files}
use Rattle.wy_reply.specs.Tellings.{Wanted}
use Rattle.wy_top.specs.declared.files.Contents.{Contents}
use Rattle.wy_top.specs.declared.files.FileError.{FileError}
use Rattle.wy_top.specs.declared.files.FileError.TheVariants as error
use Rattle.wy_top.specs.Answers.{Counts, counts, IsAnswer, IsFault, Knows}
use Rattle.wy_top.specs.Call.{Traced, TracedBy, Traces}
use Rattle.wy_top.specs.Due.{Due, DueFor, DueForRun, DueForBytes, DueForTrace, DueTo}
use Rattle.wy_top.specs.Due as due
use Rattle.wy_kernel.specs.Limits.{trace_limit}
use Rattle.wy_top.specs.Reads.{GivesBoth, GivesFile, LacksEither, Tells, is_fault}
use Rattle.wy_top.specs.Replies.{AnswersBy, RecordsSource, TracesSource}
use Rattle.wy_top.proofs.ErrorDues.{Refuses}

-- what is due for the files that a shelf tells
abbrev pub DueBy : Type 1
DueBy = Files → ℕ → List ℕ → Type 0

pub no_fault : (s : Status) → is_of_files s ≡ false → s ≡ Fault → ⊥
no_fault s settled is = let x : true ≡ false = sym (ap is_of_files is) ∙ settled in cc

-- ---- files that were read

run_read : (held : Option Files) (a : Asked) (told : List ℕ → Program → List ℕ → List ℕ) (contents : Contents) (status : ℕ) (text : List ℕ) → GivesBoth held a.source a.input (Ok contents) →
    DueFor contents.source.items (told contents.input.items) status text → (files : Files) → held ≡ Some files → DueForRun files a told status text
run_read None a told contents status text gives is files told_so = absurd (cc)
run_read (Some shelf) a told contents status text gives is files told_so =
    let same : shelf ≡ files = cc in
    subst (λ (f : Files). DueForRun f a told status text) same (due.read contents.source.items contents.input.items status text gives.0 gives.1 is)

pub run_answers : (held : Option Files) (a : Asked) (told : List ℕ → Program → List ℕ → List ℕ) (contents : Contents) (source input : List ℕ) (n m k : ℕ) (r : Result Answer AllocError) →
    GivesBoth held a.source a.input (Ok contents) → m ≡ n → source ≡ contents.source.items → input ≡ contents.input.items →
    IfOk r (λ answer. DueFor source (told input) (code_of answer.status) answer.text.items) → IfOk r (λ answer. is_of_files answer.status ≡ false) →
    IfOk r (λ answer. AnswersBy (λ files. DueForRun files a told) held (counts n k) (counts m k) answer)
run_answers held a told contents source input n m k (Err e) gives same first second is settled = tt
run_answers held a told contents source input n m k (Ok answer) gives same first second is settled =
    inr (ap (λ z. counts z k) same, no_fault answer.status settled, run_read held a told contents (code_of answer.status) answer.text.items gives (rw (← first, ← second) is))

-- the text of a recording, by its input
abbrev recording_told : ℕ → List ℕ → Program → List ℕ → List ℕ
recording_told steps input p lines = recorded_report p lines input steps

pub record_answers : (s : Spelling) (held : Option Files) (a : Asked) (contents : Contents) (old new : Mirrors) (n m k l : ℕ) (r : Result Answer AllocError) →
    GivesBoth held a.source a.input (Ok contents) → m ≡ n → IfOk r (λ answer. RecordsSource s contents.source.items contents.input.items a.steps old new k l answer) →
    IfOk r (λ answer. AnswersBy (λ files. DueForRun files a (recording_told a.steps)) held (counts n k) (counts m l) answer)
record_answers s held a contents old new n m k l (Err e) gives same is = tt
record_answers s held a contents old new n m k l (Ok answer) gives same (inl (fault, line, rose)) = inl (fault, inr (line, inl rose))
record_answers s held a contents old new n m k l (Ok answer) gives same (inr (kept, settled, is, traced)) =
    inr (λ i. counts (same i) (kept i), no_fault answer.status settled, run_read held a (recording_told a.steps) contents (code_of answer.status) answer.text.items gives is)

traced_by : (s : Spelling) (held : Option Files) (a : Asked) (contents : Contents) (old new : Mirrors) → GivesBoth held a.source a.input (Ok contents) →
    TracesSource s contents.source.items contents.input.items a.steps old new → (files : Files) → held ≡ Some files → Traced s files a old new
traced_by s None a contents old new gives is files told_so = absurd (cc)
traced_by s (Some shelf) a contents old new gives (p, of, held) files told_so =
    let same : shelf ≡ files = cc in
    subst (λ (f : Files). Traced s f a old new) same (record { source = contents.source.items; holds = gives.0; input = contents.input.items; is_input = gives.1; program = p; is_program = of; held = held })

pub record_traces : (s : Spelling) (held : Option Files) (a : Asked) (contents : Contents) (old new : Mirrors) (k l : ℕ) (r : Result Answer AllocError) →
    GivesBoth held a.source a.input (Ok contents) → IfOk r (λ answer. RecordsSource s contents.source.items contents.input.items a.steps old new k l answer) →
    IfOk r (λ answer. answer.status ≡ Done → (files : Files) → held ≡ Some files → Traced s files a old new)
record_traces s held a contents old new k l (Err e) gives is = tt
record_traces s held a contents old new k l (Ok answer) gives (inl (fault, line, rose)) = λ done. absurd (let x = sym fault ∙ done in cc)
record_traces s held a contents old new k l (Ok answer) gives (inr (kept, settled, is, traced)) = λ done. traced_by s held a contents old new gives (traced done)

trace_read : (held : Option Files) (name : List ℕ) (w : Wanted) (bytes : Vec ℕ Global) (status : ℕ) (text : List ℕ) → GivesFile held name trace_limit (Ok bytes) → DueForBytes bytes.items w status text →
    (files : Files) → held ≡ Some files → DueForTrace files name w status text
trace_read None name w bytes status text gives is files told_so = absurd (cc)
trace_read (Some shelf) name w bytes status text gives is files told_so =
    let same : shelf ≡ files = cc in
    subst (λ (f : Files). DueForTrace f name w status text) same (due.read bytes.items status text gives is)

pub trace_answers : (held : Option Files) (name : List ℕ) (w : Wanted) (bytes : Vec ℕ Global) (given : List ℕ) (n m k : ℕ) (r : Result Answer AllocError) → GivesFile held name trace_limit (Ok bytes) → m ≡ n →
    given ≡ bytes.items → IfOk r (λ answer. DueForBytes given w (code_of answer.status) answer.text.items) → IfOk r (λ answer. is_of_files answer.status ≡ false) →
    IfOk r (λ answer. AnswersBy (λ files. DueForTrace files name w) held (counts n k) (counts m k) answer)
trace_answers held name w bytes given n m k (Err e) gives same first is settled = tt
trace_answers held name w bytes given n m k (Ok answer) gives same first is settled =
    inr (ap (λ z. counts z k) same, no_fault answer.status settled, trace_read held name w bytes (code_of answer.status) answer.text.items gives (rw (← first) is))

-- ---- files that were not

-- a fault's count rose, and at any other refusal it stayed
abbrev pub Faulted : FileError → ℕ → ℕ → Type 0
Faulted e n m = MatchBool (is_fault e) (Rose n m) (m ≡ n)

-- what is due where a file is lacking is due for the command
abbrev pub LackDue : DueBy → Option Files → FileError → Type 0
LackDue by None e = Unit {0}
LackDue by (Some files) (error.Absent name) = (text : List ℕ) → text ≡ absent_line name.now → by files 3 text
LackDue by (Some files) (error.TooLong name) = (text : List ℕ) → text ≡ too_long_line name.now → by files 8 text
LackDue by (Some files) _ = Unit {0}

lack_by : (by : DueBy) (held : Option Files) (e : FileError) (n m k : ℕ) (answer : Answer) → LackDue by held e → Faulted e n m → Tells e answer → AnswersBy by held (counts n k) (counts m k) answer
lack_by by held (error.Absent name) n m k answer lacks same tells = inr (ap (λ z. counts z k) same, (λ is. absurd (let x = sym tells.0 ∙ is in cc)), found held lacks) where
  found : (held : Option Files) → LackDue by held (error.Absent name) → (files : Files) → held ≡ Some files → by files (code_of answer.status) answer.text.items
  found None lacks files told_so = absurd (cc)
  found (Some shelf) lacks files told_so = let e : shelf ≡ files = cc in rw (tells.0) (subst (λ (f : Files). by f 3 answer.text.items) e (lacks answer.text.items tells.1))
lack_by by held (error.TooLong name) n m k answer lacks same tells = inr (ap (λ z. counts z k) same, (λ is. absurd (let x = sym tells.0 ∙ is in cc)), found held lacks) where
  found : (held : Option Files) → LackDue by held (error.TooLong name) → (files : Files) → held ≡ Some files → by files (code_of answer.status) answer.text.items
  found None lacks files told_so = absurd (cc)
  found (Some shelf) lacks files told_so = let e : shelf ≡ files = cc in rw (tells.0) (subst (λ (f : Files). by f 8 answer.text.items) e (lacks answer.text.items tells.1))
lack_by by held error.Fault n m k answer lacks rose tells = inl (tells.0, inl (tells.1, rose))
lack_by by held error.NoMemory n m k answer lacks same tells = absurd tells

pub lack_due : (by : DueBy) (held : Option Files) (e : FileError) (n m k : ℕ) (r : Result Answer AllocError) → LackDue by held e → Faulted e n m → IfOk r (λ answer. Tells e answer) →
    IfOk r (λ answer. AnswersBy by held (counts n k) (counts m k) answer)
lack_due by held e n m k (Ok answer) lacks rose tells = lack_by by held e n m k answer lacks rose tells
lack_due by held e n m k (Err x) lacks rose tells = tt

lacks_run : (files : Files) (a : Asked) (told : List ℕ → Program → List ℕ → List ℕ) (status : ℕ) (text : List ℕ) → LacksEither files a.source a.input status text → DueForRun files a told status text
lacks_run files a told status text (inl lacks) = due.no_source status text lacks
lacks_run files a told status text (inr (source, name, holds, named, lacks)) = due.no_input source name status text holds named lacks

lacks_run_by : (held : Option Files) (a : Asked) (told : List ℕ → Program → List ℕ → List ℕ) (e : FileError) → GivesBoth held a.source a.input (Err e) → LackDue (λ files. DueForRun files a told) held e
lacks_run_by None a told e gives = tt
lacks_run_by (Some files) a told (error.Absent name) gives = λ text is. subst (DueForRun files a told 3) (sym is) (lacks_run files a told 3 (absent_line name.now) gives)
lacks_run_by (Some files) a told (error.TooLong name) gives = λ text is. subst (DueForRun files a told 8) (sym is) (lacks_run files a told 8 (too_long_line name.now) gives)
lacks_run_by (Some files) a told error.Fault gives = tt
lacks_run_by (Some files) a told error.NoMemory gives = tt

pub run_lack : (held : Option Files) (a : Asked) (told : List ℕ → Program → List ℕ → List ℕ) (e : FileError) (n m k : ℕ) (r : Result Answer AllocError) → GivesBoth held a.source a.input (Err e) → Faulted e n m →
    IfOk r (λ answer. Tells e answer) → IfOk r (λ answer. AnswersBy (λ files. DueForRun files a told) held (counts n k) (counts m k) answer)
run_lack held a told e n m k r gives rose tells = lack_due (λ files. DueForRun files a told) held e n m k r (lacks_run_by held a told e gives) rose tells

lacks_trace_by : (held : Option Files) (name : List ℕ) (w : Wanted) (e : FileError) → GivesFile held name trace_limit (Err e) → LackDue (λ files. DueForTrace files name w) held e
lacks_trace_by None name w e gives = tt
lacks_trace_by (Some files) name w (error.Absent lacking) gives = λ text is. subst (DueForTrace files name w 3) (sym is) (due.no_trace 3 (absent_line lacking.now) gives)
lacks_trace_by (Some files) name w (error.TooLong lacking) gives = λ text is. subst (DueForTrace files name w 8) (sym is) (due.no_trace 8 (too_long_line lacking.now) gives)
lacks_trace_by (Some files) name w error.Fault gives = tt
lacks_trace_by (Some files) name w error.NoMemory gives = tt

pub trace_lack : (held : Option Files) (name : List ℕ) (w : Wanted) (e : FileError) (n m k : ℕ) (r : Result Answer AllocError) → GivesFile held name trace_limit (Err e) → Faulted e n m →
    IfOk r (λ answer. Tells e answer) → IfOk r (λ answer. AnswersBy (λ files. DueForTrace files name w) held (counts n k) (counts m k) answer)
trace_lack held name w e n m k r gives rose tells = lack_due (λ files. DueForTrace files name w) held e n m k r (lacks_trace_by held name w e gives) rose tells

-- ---- the words

pub usage_due : (words : List (List ℕ)) (held : Option Files) (keys : Option (List ℕ)) (n : Counts) (r : Result Answer AllocError) → IsNoCommand words → Refuses Usage usage_line r → IfOk r (λ answer. IsAnswer words held keys n n answer)
usage_due words held keys n (Ok answer) unread h = inr (refl, λ _. rw (h.0, h.1) (due.usage unread))
usage_due words held keys n (Err e) unread h = tt

asked_due : AskOneCommand → (words : List (List ℕ)) (held : Option Files) (keys : Option (List ℕ)) (c : Command) (before after : Counts) (answer : Answer) → Asks words c → ((n : ℕ) → c ≡ Gen n → ⊥) →
    AnswersBy (λ files. DueTo files c) held before after answer → IsAnswer words held keys before after answer
asked_due one words held keys c before after answer asks other (inl fault) = inl fault
asked_due one words held keys c before after answer asks other (inr (same, unfaulted, is)) = inr (same, knows) where
  knows : Knows words held keys → Due words held keys (code_of answer.status) answer.text.items
  knows (inl none) = absurd (none c asks)
  knows (inr (inl (n, also))) = absurd (other n (one words c (Gen n) asks also))
  knows (inr (inr (files, told, given))) = due.asked c files (code_of answer.status) answer.text.items asks told (is files told)

pub command_due : AskOneCommand → (words : List (List ℕ)) (held : Option Files) (keys : Option (List ℕ)) (c : Command) (before after : Counts) (r : Result Answer AllocError) → Asks words c → ((n : ℕ) → c ≡ Gen n → ⊥) →
    IfOk r (λ answer. AnswersBy (λ files. DueTo files c) held before after answer) → IfOk r (λ answer. IsAnswer words held keys before after answer)
command_due one words held keys c before after (Ok answer) asks other is = asked_due one words held keys c before after answer asks other is
command_due one words held keys c before after (Err e) asks other is = tt

pub generated_due : (words : List (List ℕ)) (held : Option Files) (keys : Option (List ℕ)) (n : ℕ) (m : Counts) (r : Result Answer AllocError) → Asks words (Gen n) →
    IfOk r (λ answer. DueFor (source n) (λ p lines. generated_report n p) (code_of answer.status) answer.text.items) → IfOk r (λ answer. IsAnswer words held keys m m answer)
generated_due words held keys n m (Ok answer) asks is = inr (refl, λ knows. due.generated n (code_of answer.status) answer.text.items asks is)
generated_due words held keys n m (Err e) asks is = tt

-- a status that speaks of no file
pub generated_settled : (m : Counts) (r : Result Answer AllocError) → IfOk r (λ answer. is_of_files answer.status ≡ false) → IfOk r (λ answer. answer.status ≡ Fault → IsFault m m answer)
generated_settled m (Ok answer) settled = λ is. absurd (no_fault answer.status settled is)
generated_settled m (Err e) settled = tt

faulted : (by : DueBy) (held : Option Files) (before after : Counts) (answer : Answer) → AnswersBy by held before after answer → answer.status ≡ Fault → IsFault before after answer
faulted by held before after answer (inl fault) is = fault
faulted by held before after answer (inr (same, unfaulted, due)) is = absurd (unfaulted is)

pub fault_named : (held : Option Files) (c : Command) (before after : Counts) (r : Result Answer AllocError) → IfOk r (λ answer. AnswersBy (λ files. DueTo files c) held before after answer) →
    IfOk r (λ answer. answer.status ≡ Fault → IsFault before after answer)
fault_named held c before after (Ok answer) is = faulted (λ files. DueTo files c) held before after answer is
fault_named held c before after (Err e) is = tt

traces_of : AskOneCommand → (s : Spelling) (words : List (List ℕ)) (held : Option Files) (c : Command) (old new : Mirrors) → Asks words c →
    ((files : Files) → held ≡ Some files → TracedBy s files c old new) → Traces s words held old new
traces_of one s words held c old new asks traced = λ d files also told. subst (λ (z : Command). TracedBy s files z old new) (one words c d asks also) (traced files told)

pub traces_due : AskOneCommand → (s : Spelling) (words : List (List ℕ)) (held : Option Files) (c : Command) (old new : Mirrors) (r : Result Answer AllocError) → Asks words c →
    IfOk r (λ answer. answer.status ≡ Done → (files : Files) → held ≡ Some files → TracedBy s files c old new) → IfOk r (λ answer. answer.status ≡ Done → Traces s words held old new)
traces_due one s words held c old new (Ok answer) asks traced = λ done. traces_of one s words held c old new asks (traced done)
traces_due one s words held c old new (Err e) asks traced = tt

-- a command that uses no recorder
pub traces_other : AskOneCommand → (s : Spelling) (words : List (List ℕ)) (held : Option Files) (c : Command) (old new : Mirrors) (r : Result Answer AllocError) → Asks words c →
    ((files : Files) → TracedBy s files c old new) → IfOk r (λ answer. answer.status ≡ Done → Traces s words held old new)
traces_other one s words held c old new (Ok answer) asks other = λ done. traces_of one s words held c old new asks (λ files told. other files)
traces_other one s words held c old new (Err e) asks other = tt

pub traces_none : (s : Spelling) (words : List (List ℕ)) (held : Option Files) (old new : Mirrors) (r : Result Answer AllocError) → IsNoCommand words → IfOk r (λ answer. answer.status ≡ Done → Traces s words held old new)
traces_none s words held old new (Ok answer) none = λ done c files also told. absurd (none c also)
traces_none s words held old new (Err e) none = tt
