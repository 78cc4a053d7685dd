-- What is answered to a certificate, by what the reading of its trace and of its file gave.
use Rattle.std.proofs.Common.{◌≡◌, ◌∙◌, sym, ap, subst, refl, inl, inr, ⊎_elim, ◌<◌, ◌≤◌, ℕ, List, length, Option, Some, None, Result, Ok, Err, IfOk, Vec, Global, false}
use Rattle.std.specs.declared.alloc.AllocError.{AllocError}
use Rattle.std.proofs.lemmas.Bool.{cases_lt}
use Rattle.wy_kernel.specs.Limits.{trace_limit}
use Rattle.wy_kernel.specs.declared.program.Program.{Program}
use Rattle.wy_event.specs.declared.record.Trace.{Trace}
use Rattle.wy_frames.specs.Traces.{IsReadAs}
use Rattle.wy_outside.specs.Shelf.{Files}
use Rattle.wy_program.specs.declared.typed.TypedProgram.{TypedProgram}
use Rattle.wy_reply.specs.declared.answer.Answer.{Answer}
use Rattle.wy_reply.specs.Lines.{absent_line, too_long_line}
use Rattle.wy_reply.specs.Statuses.{code_of, is_of_files}
use Rattle.wy_reply.specs.Tellings.{Bytes, DueUnder, Given, Lacking, Wanted}
use Rattle.wy_reply.specs.Tellings as tellings
use Rattle.wy_top.specs.declared.files.FileError.{FileError}
use Rattle.wy_top.specs.declared.files.FileError.TheVariants as error
use Rattle.wy_top.specs.declared.opening.Opening.TheVariants.{Open, Refused}
use Rattle.wy_top.specs.Answers.{Counts, counts}
use Rattle.wy_top.specs.Due.{DueForBytes, DueForTrace, WithCertificate}
use Rattle.wy_top.specs.Due as due
use Rattle.wy_top.specs.Held.{Gives, Holds, absent, certificate_limit, too_long}
use Rattle.wy_top.specs.Held as held_so
use Rattle.wy_top.specs.Openings.{IsSettled, OpensBytes}
use Rattle.wy_top.specs.Reads.{GivesFile, Tells}
use Rattle.wy_top.specs.Replies.{AnswersBy}
use Rattle.wy_top.proofs.AnswerLemmas.{DueBy, Faulted, LackDue, lack_due, no_fault}

-- what is due for each thing that a trace is to tell
abbrev DueOfEach : Type 1
DueOfEach = Wanted → ℕ → List ℕ → Type 0

-- ---- what is given

-- by each name a file is given, or one is lacking
some_given : (files : Files) (name : List ℕ) → (g : Given) × Gives files name g
some_given files name = go (files name) refl
  where
    go : (o : Option (List ℕ)) → files name ≡ o → (g : Given) × Gives files name g
    go None is = (Lacking 3 (absent_line name), held_so.lacking 3 (absent_line name) (absent is))
    go (Some text) is = ⊎_elim
        (λ (more : certificate_limit < length text). (Lacking 8 (too_long_line name), held_so.lacking 8 (too_long_line name) (too_long text is more)))
        (λ (few : length text ≤ certificate_limit). (Bytes text, held_so.bytes text (record { found = is; within = few })))
        (cases_lt certificate_limit (length text))

-- what is due whatever is wanted
whatever : (files : Files) (name : List ℕ) (of : DueOfEach) (s : ℕ) (x : List ℕ) → ((w : Wanted) → of w s x) → WithCertificate files name of s x
whatever files name of s x each = let g = some_given files name in record { given = g.0; gives = g.1; is = each (tellings.Check g.0) }

with_more : (files : Files) (name : List ℕ) (of more : DueOfEach) (s : ℕ) (x : List ℕ) → ((w : Wanted) → of w s x → more w s x) → WithCertificate files name of s x → WithCertificate files name more s x
with_more files name of more s x onward h = record { given = h.given; gives = h.gives; is = onward (tellings.Check h.given) h.is }

-- ---- answers

answer_more : (by more : DueBy) (held : Option Files) (before after : Counts) (answer : Answer) → ((files : Files) → held ≡ Some files → (s : ℕ) (x : List ℕ) → by files s x → more files s x)
    → AnswersBy by held before after answer → AnswersBy more held before after answer
answer_more by more held before after answer onward (inl fault) = inl fault
answer_more by more held before after answer onward (inr (same, unfaulted, is)) = inr (same, unfaulted, λ files told. onward files told (code_of answer.status) answer.text.items (is files told))

answers_more : (by more : DueBy) (held : Option Files) (before after : Counts) (r : Result Answer AllocError) → ((files : Files) → held ≡ Some files → (s : ℕ) (x : List ℕ) → by files s x → more files s x)
    → IfOk r (AnswersBy by held before after) → IfOk r (AnswersBy more held before after)
answers_more by more held before after (Ok answer) onward is = answer_more by more held before after answer onward is
answers_more by more held before after (Err e) onward is = tt

-- ---- over a trace that was decoded

given_at : (held : Option Files) (name : List ℕ) (of : DueOfEach) (bytes : Vec ℕ Global) (s : ℕ) (x : List ℕ) → GivesFile held name certificate_limit (Ok bytes) → of (tellings.Check (Bytes bytes.items)) s x
    → (files : Files) → held ≡ Some files → WithCertificate files name of s x
given_at None name of bytes s x gives is files told = absurd (cc)
given_at (Some shelf) name of bytes s x gives is files told =
    let same : shelf ≡ files = cc in
    subst (λ (f : Files). WithCertificate f name of s x) same (record { given = Bytes bytes.items; gives = held_so.bytes bytes.items gives; is = is })

pub certificate_answers : (held : Option Files) (name : List ℕ) (of : DueOfEach) (bytes : Vec ℕ Global) (given : List ℕ) (n m k : ℕ) (r : Result Answer AllocError) → GivesFile held name certificate_limit (Ok bytes) → m ≡ n
    → given ≡ bytes.items → IfOk r (λ answer. of (tellings.Check (Bytes given)) (code_of answer.status) answer.text.items) → IfOk r (λ answer. is_of_files answer.status ≡ false)
    → IfOk r (λ answer. AnswersBy (λ files. WithCertificate files name of) held (counts n k) (counts m k) answer)
certificate_answers held name of bytes given n m k (Err e) gives same first is settled = tt
certificate_answers held name of bytes given n m k (Ok answer) gives same first is settled =
    inr (ap (λ z. counts z k) same, no_fault answer.status settled, given_at held name of bytes (code_of answer.status) answer.text.items gives (rw (← first) is))

lacks_certificate : (held : Option Files) (name : List ℕ) (p : Program) (bytes : List ℕ) (t : Trace) (e : FileError) → IsReadAs p bytes (Ok t) → GivesFile held name certificate_limit (Err e)
    → LackDue (λ files. WithCertificate files name (DueUnder p bytes)) held e
lacks_certificate None name p bytes t e reads gives = tt
lacks_certificate (Some files) name p bytes t (error.Absent lacking) reads gives = λ text is. subst (WithCertificate files name (DueUnder p bytes) 3) (sym is)
    (record { given = Lacking 3 (absent_line lacking.now); gives = held_so.lacking 3 (absent_line lacking.now) gives; is = tellings.told t 3 (absent_line lacking.now) reads (tellings.lacking 3 (absent_line lacking.now)) })
lacks_certificate (Some files) name p bytes t (error.TooLong lacking) reads gives = λ text is. subst (WithCertificate files name (DueUnder p bytes) 8) (sym is)
    (record { given = Lacking 8 (too_long_line lacking.now); gives = held_so.lacking 8 (too_long_line lacking.now) gives; is = tellings.told t 8 (too_long_line lacking.now) reads (tellings.lacking 8 (too_long_line lacking.now)) })
lacks_certificate (Some files) name p bytes t error.Fault reads gives = tt
lacks_certificate (Some files) name p bytes t error.NoMemory reads gives = tt

pub certificate_lack : (held : Option Files) (name : List ℕ) (p : Program) (bytes : List ℕ) (t : Trace) (e : FileError) (n m k : ℕ) (r : Result Answer AllocError) → IsReadAs p bytes (Ok t) → GivesFile held name certificate_limit (Err e)
    → Faulted e n m → IfOk r (λ answer. Tells e answer) → IfOk r (λ answer. AnswersBy (λ files. WithCertificate files name (DueUnder p bytes)) held (counts n k) (counts m k) answer)
certificate_lack held name p bytes t e n m k r reads gives rose tells = lack_due (λ files. WithCertificate files name (DueUnder p bytes)) held e n m k r (lacks_certificate held name p bytes t e reads gives) rose tells

-- ---- over its bytes

pub opened_answers : (held : Option Files) (name bytes : List ℕ) (typed : TypedProgram) (t : Trace) (before after : Counts) (r : Result Answer AllocError) → OpensBytes bytes (Open typed t)
    → IfOk r (AnswersBy (λ files. WithCertificate files name (DueUnder typed.program bytes)) held before after) → IfOk r (AnswersBy (λ files. WithCertificate files name (DueForBytes bytes)) held before after)
opened_answers held name bytes typed t before after r (head, end, v, at, is, read) h =
    answers_more (λ files. WithCertificate files name (DueUnder typed.program bytes)) (λ files. WithCertificate files name (DueForBytes bytes)) held before after r
    (λ files told s x. with_more files name (DueUnder typed.program bytes) (DueForBytes bytes) s x (λ w d. due.program head end v typed.program s x at is d)) h

pub refused_answers : (held : Option Files) (name bytes : List ℕ) (n : Counts) (answer : Answer) → OpensBytes bytes (Refused answer) → IsSettled (Refused answer)
    → AnswersBy (λ files. WithCertificate files name (DueForBytes bytes)) held n n answer
refused_answers held name bytes n answer opens settled =
    inr (refl, no_fault answer.status settled, λ files told. whatever files name (DueForBytes bytes) (code_of answer.status) answer.text.items (λ w. opens.1 w))

-- ---- in its file

trace_held : (held : Option Files) (name : List ℕ) (bytes : Vec ℕ Global) → GivesFile held name trace_limit (Ok bytes) → (files : Files) → held ≡ Some files → Holds files name trace_limit bytes.items
trace_held None name bytes gives files told = absurd (cc)
trace_held (Some shelf) name bytes gives files told = let same : shelf ≡ files = cc in subst (λ (f : Files). Holds f name trace_limit bytes.items) same gives

pub check_answers : (held : Option Files) (trace name : List ℕ) (bytes : Vec ℕ Global) (given : List ℕ) (before after : Counts) (r : Result Answer AllocError) → GivesFile held trace trace_limit (Ok bytes) → given ≡ bytes.items
    → IfOk r (AnswersBy (λ files. WithCertificate files name (DueForBytes given)) held before after) → IfOk r (AnswersBy (λ files. WithCertificate files name (DueForTrace files trace)) held before after)
check_answers held trace name bytes given before after r gives first h =
    answers_more (λ files. WithCertificate files name (DueForBytes given)) (λ files. WithCertificate files name (DueForTrace files trace)) held before after r
    (λ files told s x. with_more files name (DueForBytes given) (DueForTrace files trace) s x (λ w d. due.read bytes.items s x (trace_held held trace bytes gives files told) (subst (λ b. DueForBytes b w s x) first d))) h

lacks_checked : (held : Option Files) (trace name : List ℕ) (e : FileError) → GivesFile held trace trace_limit (Err e) → LackDue (λ files. WithCertificate files name (DueForTrace files trace)) held e
lacks_checked None trace name e gives = tt
lacks_checked (Some files) trace name (error.Absent lacking) gives = λ text is. subst (WithCertificate files name (DueForTrace files trace) 3) (sym is)
    (whatever files name (DueForTrace files trace) 3 (absent_line lacking.now) (λ w. due.no_trace 3 (absent_line lacking.now) gives))
lacks_checked (Some files) trace name (error.TooLong lacking) gives = λ text is. subst (WithCertificate files name (DueForTrace files trace) 8) (sym is)
    (whatever files name (DueForTrace files trace) 8 (too_long_line lacking.now) (λ w. due.no_trace 8 (too_long_line lacking.now) gives))
lacks_checked (Some files) trace name error.Fault gives = tt
lacks_checked (Some files) trace name error.NoMemory gives = tt

pub check_lack : (held : Option Files) (trace name : List ℕ) (e : FileError) (n m k : ℕ) (r : Result Answer AllocError) → GivesFile held trace trace_limit (Err e) → Faulted e n m
    → IfOk r (λ answer. Tells e answer) → IfOk r (λ answer. AnswersBy (λ files. WithCertificate files name (DueForTrace files trace)) held (counts n k) (counts m k) answer)
check_lack held trace name e n m k r gives rose tells = lack_due (λ files. WithCertificate files name (DueForTrace files trace)) held e n m k r (lacks_checked held trace name e gives) rose tells
