-- What the opening of a trace comes to.
use Rattle.std.proofs.Common.{◌≡◌, ◌⊎◌, ◌∙◌, sym, ap, subst, refl, inl, inr, ℕ, ◌≤◌, true, false, List, [], length, Option, Some, None, Result, Ok, Err, IfOk, Vec, Global}
use Rattle.std.specs.Prelude.{MatchBool}
use Rattle.std.specs.declared.alloc.AllocError.{AllocError}
use Rattle.wy_kernel.specs.declared.program.Program.{Program}
use Rattle.wy_event.specs.declared.record.Trace.{Trace}
use Rattle.wy_frames.specs.Heads.{head_of}
use Rattle.wy_frames.specs.Traces.{IsReadAs}
use Rattle.wy_frames.specs.declared.error.TraceError.{TraceError}
use Rattle.law_reading.specs.Spelled.{AreBytes}
use Rattle.wy_outside.specs.Counts.{Rose}
use Rattle.wy_outside.specs.Shelf.{Files}
use Rattle.wy_reply.specs.declared.answer.Answer.{Answer}
use Rattle.wy_reply.specs.declared.status.Status.{Status}
use Rattle.wy_reply.specs.declared.status.Status.TheVariants.{Absent, Fault, TooLong, Usage}
use Rattle.wy_reply.specs.Lines.{absent_line, too_long_line}
use Rattle.wy_reply.specs.Statuses.{code_of, is_of_files}
use Rattle.wy_reply.specs.Opening.{IsDecoded}
use Rattle.wy_reply.specs.Tellings as tellings
use Rattle.wy_reply.specs.Tellings.{IsTraceLine, Wanted}
use Rattle.wy_top.specs.declared.files.FileError.{FileError}
use Rattle.wy_top.specs.declared.files.FileError.TheVariants as error
use Rattle.wy_top.specs.declared.opening.Opening.{Opening}
use Rattle.wy_top.specs.declared.opening.Opening.TheVariants.{Open, Refused}
use Rattle.wy_top.specs.Call.{IsOpened}
use Rattle.wy_top.specs.Due.{DueForBytes, DueForTrace}
use Rattle.wy_top.specs.Due as due
use Rattle.wy_kernel.specs.Limits.{trace_limit}
use Rattle.wy_top.specs.Openings.{AnswersAny, IsSettled, OpensBytes, OpensFile, OpensSome}
use Rattle.wy_program.specs.Openings.{ByHead, IsNoTrace}
use Rattle.wy_program.specs.Programs.{IsProgramOf}
use Rattle.wy_program.specs.Sources.{IsCauseOf}
use Rattle.wy_program.specs.declared.source.SourceError.{SourceError}
use Rattle.wy_program.specs.declared.typed.TypedProgram.{TypedProgram}
use Rattle.wy_top.specs.Reads.{GivesFile, Tells, is_absent, is_fault, is_too_long}
use Rattle.wy_top.specs.Replies.{HasCause, RefusesTrace, ShelfCounts}

-- ---- bytes that are no trace

refused_head : (bytes : List ℕ) (e : TraceError) (answer : Answer) → head_of bytes ≡ Err e → tellings.RefusesTrace e answer → OpensBytes bytes (Refused answer)
refused_head bytes e answer is h = (λ done. (let x = sym h.0 ∙ done in cc), λ w. rw (h.0) (due.no_head e answer.text.items is h.1))

refused_rest : (bytes : List ℕ) (e : TraceError) (answer : Answer) → ByHead bytes (λ source. (p : Program) × IsProgramOf source p × IsReadAs p bytes (Err e)) → tellings.RefusesTrace e answer → OpensBytes bytes (Refused answer)
refused_rest bytes e answer (head, end, v, at, (p, is, read)) h =
    (λ done. (let x = sym h.0 ∙ done in cc), λ w. rw (h.0) (due.program head end v p 5 answer.text.items at is (tellings.refused e answer.text.items read h.1)))

refused_trace : (bytes : List ℕ) (e : TraceError) (answer : Answer) → (head_of bytes ≡ Err e) ⊎ ByHead bytes (λ source. (p : Program) × IsProgramOf source p × IsReadAs p bytes (Err e)) → tellings.RefusesTrace e answer → OpensBytes bytes (Refused answer)
refused_trace bytes e answer (inl is) h = refused_head bytes e answer is h
refused_trace bytes e answer (inr by) h = refused_rest bytes e answer by h

no_trace : (bytes : List ℕ) (e : TraceError) (answer : Answer) (line : List ℕ) → IsTraceLine e line → IsNoTrace bytes e → tellings.RefusesTrace e answer → OpensBytes bytes (Refused answer)
no_trace bytes e answer _ (tellings.cut byte) none h = refused_trace bytes e answer none h
no_trace bytes e answer _ (tellings.damaged byte rule) none h = refused_trace bytes e answer none h
no_trace bytes e answer _ tellings.bad_seal none h = refused_trace bytes e answer none h

pub no_trace_of : (bytes : List ℕ) (e : TraceError) (answer : Answer) → IsNoTrace bytes e → tellings.RefusesTrace e answer → OpensBytes bytes (Refused answer)
no_trace_of bytes e answer none h = no_trace bytes e answer answer.text.items h.1 none h

pub no_program_of : (bytes : List ℕ) (e : SourceError) (answer : Answer) → ByHead bytes (λ source. IsCauseOf source e) → RefusesTrace e answer → OpensBytes bytes (Refused answer)
no_program_of bytes e answer (head, end, v, at, cause) (refused, says) =
    let (line, none, said) = says head.source cause in
    (λ done. (let x = sym refused ∙ done in cc), λ w. rw (refused, said) (due.no_program head end v line at none))

-- ---- what is told of it

pub is_decoded : (bytes : List ℕ) (typed : TypedProgram) (t : Trace) → AreBytes bytes → length bytes ≤ trace_limit → OpensBytes bytes (Open typed t) → IsDecoded typed.program bytes t
is_decoded bytes typed t are short (head, end, v, at, is, read) = record { are_bytes = are; short = short; reads = read }

pub opened_due : (bytes : List ℕ) (w : Wanted) (typed : TypedProgram) (t : Trace) (r : Result Answer AllocError) → OpensBytes bytes (Open typed t) → IfOk r (λ answer. tellings.DueUnder typed.program bytes w (code_of answer.status) answer.text.items)
    → IfOk r (λ answer. DueForBytes bytes w (code_of answer.status) answer.text.items)
opened_due bytes w typed t (Ok answer) (head, end, v, at, is, read) h = due.program head end v typed.program (code_of answer.status) answer.text.items at is h
opened_due bytes w typed t (Err x) opens h = tt

-- ---- in its file

not_of_files : (s t : Status) → is_of_files s ≡ false → is_of_files t ≡ true → s ≡ t → ⊥
not_of_files s t settled of is = let x : true ≡ false = sym (ap is_of_files is ∙ of) ∙ settled in cc

pub caused : (before after : ShelfCounts) (answer : Answer) → is_of_files answer.status ≡ false → HasCause before after answer
caused before after answer settled = record {
  absent = λ is. absurd (not_of_files answer.status Absent settled refl is);
  too_long = λ is. absurd (not_of_files answer.status TooLong settled refl is);
  command = λ is. not_of_files answer.status Usage settled refl is;
}

opened_at : (held : Option Files) (name : List ℕ) (bytes : Vec ℕ Global) (typed : TypedProgram) (t : Trace) → GivesFile held name trace_limit (Ok bytes) → OpensBytes bytes.items (Open typed t) →
    (files : Files) → held ≡ Some files → IsOpened files name typed.program t
opened_at None name bytes typed t gives o files told = absurd (cc)
opened_at (Some shelf) name bytes typed t gives (head, end, v, at, is, read) files told =
    let same : shelf ≡ files = cc in
    subst (λ (f : Files). IsOpened f name typed.program t) same (record { bytes = bytes.items; holds = gives; head = head; end = end; version = v; is_head = at; is_program = is; is_read = read })

refused_at : (held : Option Files) (name : List ℕ) (bytes : Vec ℕ Global) (answer : Answer) → GivesFile held name trace_limit (Ok bytes) → OpensBytes bytes.items (Refused answer) →
    (w : Wanted) (files : Files) → held ≡ Some files → DueForTrace files name w (code_of answer.status) answer.text.items
refused_at None name bytes answer gives o w files told = absurd (cc)
refused_at (Some shelf) name bytes answer gives o w files told =
    let same : shelf ≡ files = cc in
    subst (λ (f : Files). DueForTrace f name w (code_of answer.status) answer.text.items) same (due.read bytes.items (code_of answer.status) answer.text.items gives (o.1 w))

in_file : (held : Option Files) (name : List ℕ) (bytes : Vec ℕ Global) (before after : ShelfCounts) (o : Opening) → GivesFile held name trace_limit (Ok bytes) → after.faults ≡ before.faults →
    OpensBytes bytes.items o → IsSettled o → OpensFile held name before after o
in_file held name bytes before after (Open typed t) gives same o settled = (settled, same, opened_at held name bytes typed t gives o)
in_file held name bytes before after (Refused answer) gives same o settled =
    (caused before after answer settled, inr (same, not_of_files answer.status Fault settled refl, refused_at held name bytes answer gives o))

pub opened_in_file : (held : Option Files) (name : List ℕ) (bytes : Vec ℕ Global) (given : List ℕ) (before after : ShelfCounts) (r : Result Opening AllocError) → GivesFile held name trace_limit (Ok bytes) → after.faults ≡ before.faults →
    given ≡ bytes.items → IfOk r (OpensBytes given) → IfOk r IsSettled → IfOk r (OpensFile held name before after)
opened_in_file held name bytes given before after (Ok o) gives same first is settled = in_file held name bytes before after o gives same (rw (first) at is) settled
opened_in_file held name bytes given before after (Err e) gives same first is settled = tt

lacks_at : (held : Option Files) (name : List ℕ) (w : Wanted) (e : FileError) (answer : Answer) → GivesFile held name trace_limit (Err e) → Tells e answer → (answer.status ≡ Fault → ⊥) →
    (files : Files) → held ≡ Some files → DueForTrace files name w (code_of answer.status) answer.text.items
lacks_at None name w e answer gives tells some files told = absurd (cc)
lacks_at (Some shelf) name w (error.Absent lacking) answer gives tells some files told =
    let same : shelf ≡ files = cc in
    subst (λ (f : Files). DueForTrace f name w (code_of answer.status) answer.text.items) same (rw (tells.0, tells.1) (due.no_trace 3 (absent_line lacking.now) gives))
lacks_at (Some shelf) name w (error.TooLong lacking) answer gives tells some files told =
    let same : shelf ≡ files = cc in
    subst (λ (f : Files). DueForTrace f name w (code_of answer.status) answer.text.items) same (rw (tells.0, tells.1) (due.no_trace 8 (too_long_line lacking.now) gives))
lacks_at (Some shelf) name w error.Fault answer gives tells some files told = absurd (some tells.0)
lacks_at (Some shelf) name w error.NoMemory answer gives tells some files told = absurd tells

any_lack : (held : Option Files) (name : List ℕ) (e : FileError) (before after : ShelfCounts) (answer : Answer) → GivesFile held name trace_limit (Err e) →
    MatchBool (is_fault e) (Rose before.faults after.faults) (after.faults ≡ before.faults) → Tells e answer → AnswersAny held name before after answer
any_lack held name (error.Absent lacking) before after answer gives same tells =
    let some : answer.status ≡ Fault → ⊥ = λ is. absurd (let x = sym tells.0 ∙ is in cc) in
    inr (same, some, λ w. lacks_at held name w (error.Absent lacking) answer gives tells some)
any_lack held name (error.TooLong lacking) before after answer gives same tells =
    let some : answer.status ≡ Fault → ⊥ = λ is. absurd (let x = sym tells.0 ∙ is in cc) in
    inr (same, some, λ w. lacks_at held name w (error.TooLong lacking) answer gives tells some)
any_lack held name error.Fault before after answer gives rose tells = inl (tells.0, tells.1, rose)
any_lack held name error.NoMemory before after answer gives same tells = absurd tells

pub lack_caused : (e : FileError) (before after : ShelfCounts) (answer : Answer) → MatchBool (is_absent e) (Rose before.misses after.misses) (after.misses ≡ before.misses) →
    MatchBool (is_too_long e) (Rose before.fulls after.fulls) (after.fulls ≡ before.fulls) → Tells e answer → HasCause before after answer
lack_caused (error.Absent lacking) before after answer absent long tells = record { absent = λ is. absent; too_long = λ is. absurd (let x = sym tells.0 ∙ is in cc); command = λ is. (let x = sym tells.0 ∙ is in cc) }
lack_caused (error.TooLong lacking) before after answer absent long tells = record { absent = λ is. absurd (let x = sym tells.0 ∙ is in cc); too_long = λ is. long; command = λ is. (let x = sym tells.0 ∙ is in cc) }
lack_caused error.Fault before after answer absent long tells = record { absent = λ is. absurd (let x = sym tells.0 ∙ is in cc); too_long = λ is. absurd (let x = sym tells.0 ∙ is in cc); command = λ is. (let x = sym tells.0 ∙ is in cc) }
lack_caused error.NoMemory before after answer absent long tells = absurd tells

pub lacking_file : (held : Option Files) (name : List ℕ) (e : FileError) (before after : ShelfCounts) (answer : Answer) → GivesFile held name trace_limit (Err e) →
    MatchBool (is_fault e) (Rose before.faults after.faults) (after.faults ≡ before.faults) → MatchBool (is_absent e) (Rose before.misses after.misses) (after.misses ≡ before.misses) →
    MatchBool (is_too_long e) (Rose before.fulls after.fulls) (after.fulls ≡ before.fulls) → Tells e answer → OpensFile held name before after (Refused answer)
lacking_file held name e before after answer gives fault absent long tells = (lack_caused e before after answer absent long tells, any_lack held name e before after answer gives fault tells)

-- ---- whatever the shelf tells

-- a shelf of one file
abbrev only : List ℕ → Files
only bytes = λ name. Some bytes

some_of : (bytes : List ℕ) (o : Opening) → length bytes ≤ trace_limit → OpensBytes bytes o → OpensSome o
some_of bytes (Open typed t) short (head, end, v, at, is, read) =
    (only bytes, [], record { bytes = bytes; holds = record { found = refl; within = short }; head = head; end = end; version = v; is_head = at; is_program = is; is_read = read })
some_of bytes (Refused answer) short opens = opens.0

pub opened_some : (bytes : Vec ℕ Global) (given : List ℕ) (r : Result Opening AllocError) → length bytes.items ≤ trace_limit → given ≡ bytes.items → IfOk r (OpensBytes given) → IfOk r OpensSome
opened_some bytes given (Ok o) short first is = some_of bytes.items o short (rw (first) at is)
opened_some bytes given (Err e) short first is = tt

pub lacking_some : (e : FileError) (answer : Answer) → Tells e answer → OpensSome (Refused answer)
lacking_some (error.Absent lacking) answer tells done = let x = sym tells.0 ∙ done in cc
lacking_some (error.TooLong lacking) answer tells done = let x = sym tells.0 ∙ done in cc
lacking_some error.Fault answer tells done = let x = sym tells.0 ∙ done in cc
lacking_some error.NoMemory answer tells done = tells
