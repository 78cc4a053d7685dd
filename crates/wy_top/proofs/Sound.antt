-- Where all that a command needs is there, nothing is due but that it did what it says.
use Rattle.std.proofs.Common.{◌≡◌, ◌⊎◌, ◌∙◌, sym, ap, subst, refl, inl, inr, ℕ, true, false, ◌<◌, ◌-◌, List, [], ◌∷◌, ◌++◌, append-nil, length, map, Option, Some, Result, Ok, Err, arith}
use Rattle.std.proofs.lemmas.List.{append_assoc}
use Rattle.std.proofs.lemmas.List.Sorted.{length_permutation}
use Rattle.std.proofs.lemmas.Option.{slice_get_within}
use Rattle.wy_kernel.specs.Program.{Program}
use Rattle.wy_kernel.specs.Parts.{program_of}
use Rattle.wy_kernel.specs.Limits.{input_limit, source_limit, trace_limit}
use Rattle.wy_kernel.specs.Statements.{statements_of}
use Rattle.wy_kernel.specs.declared.program.Program as memory
use Rattle.wy_event.specs.Record.{Recorded, recorded}
use Rattle.wy_event.specs.declared.record.Cover.{Cover}
use Rattle.wy_event.specs.declared.record.Head.{Head}
use Rattle.wy_event.specs.declared.record.Trace.{Trace}
use Rattle.wy_event.specs.declared.record.Version.{Version}
use Rattle.wy_outside.specs.Shelf.{Files}
use Rattle.wy_frames.specs.Heads.{head_of, version_of}
use Rattle.wy_frames.specs.Traces.{IsReadAs}
use Rattle.wy_machine.specs.declared.auditing.Verdict.{Verdict}
use Rattle.wy_machine.specs.declared.auditing.Verdict.TheVariants as verdict
use Rattle.wy_why.specs.declared.answer.Answer.{Answer}
use Rattle.wy_check.specs.declared.error.CertError.{CertError}
use Rattle.wy_ask.specs.Asked.{event_of}
use Rattle.wy_ask.specs.Lines.{numbers_on}
use Rattle.wy_ask.specs.Statements.{IsPlaced}
use Rattle.wy_telling.specs.Affects.{affects_text}
use Rattle.wy_telling.specs.Answers.{AnswerIs, Refused, Telling, answered}
use Rattle.wy_telling.specs.Why.{why_text}
use Rattle.wy_telling.specs.Whynot.{Denied, NamesStatement, WhynotIs}
use Rattle.wy_telling.specs.Scoped.{ScopeIs}
use Rattle.wy_telling.specs.Scoped as scope
use Rattle.wy_scope.specs.Items.{region_of_statement}
use Rattle.wy_scope.specs.Laws.{is_call_at}
use Rattle.wy_scope.specs.Passing.{passed}
use Rattle.wy_scope.proofs.Passes.{first_passed}
use Rattle.wy_telling.specs.Whynot as denial
use Rattle.wy_session.specs.Desk.{scene_of}
use Rattle.wy_session.specs.Scene.{Scene}
use Rattle.wy_session.specs.Talk.{Ends, Reaches, Talks, FirstLine, ended, last, line, long_input, long_line, over, quit, start, talks}
use Rattle.wy_explore.specs.Session.{Session}
use Rattle.wy_words.specs.Words.{Asked, Command, Run, Record, Output, Questions, Why, Affects, Certify, Check, Scope, WhyNot, Audit, Explore, Migrate, Gen, AskOneCommand}
use Rattle.wy_gen.specs.Generated.{source as generated_source}
use Rattle.wy_program.specs.Programs.{IsProgramOf}
use Rattle.wy_reply.specs.Certificates.{CertifyIs, itself, seal_of, verdict_status}
use Rattle.wy_reply.specs.Report.{report, recorded_report}
use Rattle.wy_reply.specs.Generated.{generated_report}
use Rattle.wy_reply.specs.Tellings.{Bytes, DueUnder, Given, Tells, Wanted, answer_status, audit_status, covers_of, scope_status, whynot_status}
use Rattle.wy_reply.specs.Tellings as wanted
use Rattle.wy_top.specs.Causes.{IsNoProgram}
use Rattle.wy_top.specs.Due.{Due, DueFor, DueForBytes, DueForRun, DueForTrace, DueTo, WithCertificate}
use Rattle.wy_top.specs.Due as due
use Rattle.wy_top.specs.Held.{Gives, Holds, IsInput, certificate_limit}
use Rattle.wy_top.specs.Held as file
use Rattle.wy_top.specs.Sound.{EndsWell, IsSound, IsThere, KeepsLimits, NamesEvent, NamesMissed, NamesUnbegun, RunIsThere, SoundCallsSucceed, TraceIsThere}
use Rattle.wy_top.proofs.FileReads.{not_lacking, one_file}
use Rattle.wy_top.proofs.OneText.{Known, one_program, program_or_cause}
use Rattle.wy_top.proofs.OneTrace.{Traces, failed, no_head_at, one_head, read_alike, same_ranges, says}

-- ---- questions

abbrev text_at : List ℕ → Result (List ℕ) Refused
text_at x = Ok x

abbrev refused_at : Refused → Result (List ℕ) Refused
refused_at e = Err e

-- it is asked of the program of the same parts
asked_of : (telling : Telling) (p q : memory.Program) (rs : List Recorded) (text : List ℕ) → program_of p ≡ program_of q → (n : NamesEvent p rs text)
    → AnswerIs telling (program_of q) q.lines.items rs text (Ok (telling (program_of q) q.lines.items rs n.event))
asked_of telling p q rs text parts n = answered n.question n.event n.asks (subst (λ (z : Program). event_of z rs n.question ≡ Some n.event) parts n.there)

question_answered : Traces → (telling : Telling) (p q : memory.Program) (rs : List Recorded) (text : List ℕ) (a : Result (List ℕ) Refused) → program_of p ≡ program_of q → NamesEvent p rs text
    → AnswerIs telling (program_of q) q.lines.items rs text a → answer_status a ≡ 0
question_answered known telling p q rs text (Ok x) parts n is = refl
question_answered known telling p q rs text (Err e) parts n is =
    absurd (let both : refused_at e ≡ text_at (telling (program_of q) q.lines.items rs n.event) = known.answers telling (program_of q) q.lines.items rs text (Err e) _ is (asked_of telling p q rs text parts n) in cc)

certified : Traces → (p q : memory.Program) (rs : List Recorded) (seal text : List ℕ) (a : Result (List ℕ) Refused) → program_of p ≡ program_of q → NamesEvent p rs text
    → CertifyIs (program_of q) q.lines.items rs seal text a → answer_status a ≡ 0
certified known p q rs seal text (Ok x) parts n is = refl
certified known p q rs seal text (Err e) parts n is = question_answered known itself p q rs text (Err e) parts n is

-- ---- statements

placed_within : (numbers : List ℕ) (k n : ℕ) → IsPlaced numbers k n → length numbers < k → ⊥
placed_within numbers k n a short =
    let within : k - 1 < length a.rising = slice_get_within a.rising (k - 1) n a.there in
    omega (arith, within, short, length_permutation numbers a.rising a.rises.same)

unbegun : (p : memory.Program) (rs : List Recorded) (covers : List Cover) (word : List ℕ) (a : Result (List ℕ) Denied) → (u : NamesUnbegun p covers word)
    → WhynotIs (program_of p) p.lines.items rs covers word a → whynot_status a ≡ 0
unbegun p rs covers word _ u (denial.answered m j o items also none are) = refl
unbegun p rs covers word _ u (denial.ran m j o count first also has) = absurd (has.began (u.never m j o also))
unbegun p rs covers word _ u (denial.not_there m j names short) =
    let same = names.only u.line u.place u.names.names.spelled in
    absurd (placed_within (numbers_on p.lines.items m (statements_of (program_of p))) j u.number
    (subst (λ z. IsPlaced (numbers_on p.lines.items m (statements_of (program_of p))) z u.number) same.1
    (subst (λ z. IsPlaced (numbers_on p.lines.items z (statements_of (program_of p))) u.place u.number) same.0 u.names.placed)) short)
unbegun p rs covers word _ u (denial.not_read unread) = absurd (unread u.line u.place u.names.names.spelled)

met_in_call : (p : memory.Program) (rs : List Recorded) (word : List ℕ) (call : ℕ) (a : Result (List ℕ) scope.Refused) → (u : NamesMissed p rs word call)
    → ScopeIs (program_of p) p.lines.items rs word call a → scope_status a ≡ 0
met_in_call p rs word call _ u (scope.answered m j o items also is missed are) = refl
met_in_call p rs word call _ u (scope.passed m j o event also is first) =
    absurd (let at : passed (program_of p) rs call (region_of_statement (program_of p) o) ≡ true = first_passed (program_of p) rs call (region_of_statement (program_of p) o) event first in
    let no : passed (program_of p) rs call (region_of_statement (program_of p) o) ≡ false = u.missed m j o also in cc)
met_in_call p rs word call _ u (scope.no_call m j o also none) = absurd (let yes : is_call_at rs call ≡ true = u.calls in cc)
met_in_call p rs word call _ u (scope.not_there m j names short) =
    let same = names.only u.line u.place u.names.names.spelled in
    absurd (placed_within (numbers_on p.lines.items m (statements_of (program_of p))) j u.number
    (subst (λ z. IsPlaced (numbers_on p.lines.items m (statements_of (program_of p))) z u.number) same.1
    (subst (λ z. IsPlaced (numbers_on p.lines.items z (statements_of (program_of p))) u.place u.number) same.0 u.names.placed)) short)
met_in_call p rs word call _ u (scope.not_read unread) = absurd (unread u.line u.place u.names.names.spelled)

-- ---- sessions

-- what is left of an input ends it
ends_input : (x : Scene) (input rest said : List ℕ) (s : Session) → Reaches x input s rest said → (before : List ℕ) × (input ≡ before ++ rest)
ends_input x input _ _ _ start = ([], refl)
ends_input x input _ _ _ (line s t rest front l behind said reply reaches fits told) =
    let so = ends_input x input rest said s reaches in
    let one = behind_ends rest front l behind fits.first in
    (so.0 ++ one.0, so.1 ∙ ap (λ z. so.0 ++ z) one.1 ∙ sym (append_assoc so.0 one.0 behind))
  where
    behind_ends : (rest front l behind : List ℕ) → FirstLine rest front l behind → (front : List ℕ) × (rest ≡ front ++ behind)
    behind_ends _ _ _ _ (ended b behind none) = (b ++ 10 ∷ [], sym (append_assoc b (10 ∷ []) behind))
    behind_ends _ _ _ _ (last b some none) = (b, sym (append-nil b))

ended_well : (x : Scene) (input : List ℕ) (s : Session) (rest : List ℕ) (status : ℕ) (text : List ℕ) → (before : List ℕ) × (input ≡ before ++ rest) → KeepsLimits input → Ends x input s rest status text → status ≡ 0
ended_well x input s _ _ _ so keeps over = refl
ended_well x input s _ _ _ so keeps (quit t rest front l behind fits told) = refl
ended_well x input s _ _ _ so keeps (long_line rest front l behind first long) = absurd (let short = keeps.lines so.0 rest front l behind so.1 first in omega (arith, long, short))
ended_well x input s _ _ _ so keeps (long_input rest front l behind first short many) = absurd (let all = keeps.all in omega (arith, many, all))

talked : (x : Scene) (input : List ℕ) (status : ℕ) (text : List ℕ) → KeepsLimits input → Talks x input status text → status ≡ 0
talked x input _ _ keeps (talks s rest said end status reaches ends) = ended_well x input s rest status end (ends_input x input rest said s reaches) keeps ends

-- ---- what is told of a trace

-- an audit and a check have a second answer
abbrev TellsWell : Wanted → ℕ → Type 0
TellsWell wanted.Audit status = (status ≡ 0) ⊎ (status ≡ 10)
TellsWell (wanted.Check given) status = (status ≡ 0) ⊎ (status ≡ 11)
TellsWell _ status = status ≡ 0

audited : (v : Verdict) → (audit_status v ≡ 0) ⊎ (audit_status v ≡ 10)
audited verdict.Equal = inl refl
audited (verdict.Event event) = inr refl
audited verdict.Tail = inr refl

checked : (r : Result Answer CertError) → (verdict_status r ≡ 0) ⊎ (verdict_status r ≡ 11)
checked (Ok answer) = inl refl
checked (Err e) = inr refl

told_well : Traces → (p q : memory.Program) (seal : List ℕ) (t : Trace) (w : Wanted) (status : ℕ) (text : List ℕ) → program_of p ≡ program_of q → p.lines.items ≡ q.lines.items → IsThere p t w → Tells q seal t w status text → TellsWell w status
told_well known p q seal t _ _ _ parts lines there wanted.output = refl
told_well known p q seal t _ _ _ parts lines there wanted.questions = refl
told_well known p q seal t _ _ _ parts lines there (wanted.why question a is) = question_answered known why_text p q (map recorded t.events) question a parts there is
told_well known p q seal t _ _ _ parts lines there (wanted.affects question a is) = question_answered known affects_text p q (map recorded t.events) question a parts there is
told_well known p q seal t _ _ _ parts lines there (wanted.certify question a is) = certified known p q (map recorded t.events) _ question a parts there is
told_well known p q seal t _ _ _ parts lines there (wanted.whynot word a is) =
    unbegun p (map recorded t.events) (covers_of t) word a there
    (subst (λ (l : List ℕ). WhynotIs (program_of p) l (map recorded t.events) (covers_of t) word a) (sym lines)
    (subst (λ (z : Program). WhynotIs z q.lines.items (map recorded t.events) (covers_of t) word a) (sym parts) is))
told_well known p q seal t _ _ _ parts lines there (wanted.scoped word call a is) =
    met_in_call p (map recorded t.events) word call a there
    (subst (λ (l : List ℕ). ScopeIs (program_of p) l (map recorded t.events) word call a) (sym lines)
    (subst (λ (z : Program). ScopeIs z q.lines.items (map recorded t.events) word call a) (sym parts) is))
told_well known p q seal t _ _ _ parts lines there (wanted.explore input status text is) = talked (scene_of q t.events (covers_of t)) input status text there is
told_well known p q seal t _ _ _ parts lines there (wanted.audit v is) = audited v
told_well known p q seal t _ _ _ parts lines there (wanted.check given r is judged) = checked r
told_well known p q seal t _ _ _ parts lines there (wanted.lacking status text) = absurd there
told_well known p q seal t _ _ _ parts lines there wanted.migrated = refl

-- ---- its bytes

under_well : Traces → (p q : memory.Program) (bytes : List ℕ) (t : Trace) (w : Wanted) (status : ℕ) (text : List ℕ) → program_of p ≡ program_of q → p.lines.items ≡ q.lines.items → IsReadAs p bytes (Ok t) → IsThere p t w
    → DueUnder q bytes w status text → TellsWell w status
under_well known p q bytes t w _ _ parts lines read there (wanted.refused e k reads is) =
    absurd (let both : failed e ≡ Ok t = known.reading q bytes (Err e) (Ok t) (says e k is) tt reads (read_alike p q bytes (Ok t) (same_ranges p q parts lines) read) in cc)
under_well known p q bytes t w _ _ parts lines read there (wanted.told v status text reads tells) =
    let both : Ok t ≡ Ok v = known.reading q bytes (Ok t) (Ok v) tt tt (read_alike p q bytes (Ok t) (same_ranges p q parts lines) read) reads in
    let same : v ≡ t = cc in
    told_well known p q (seal_of (version_of bytes) t) t w status text parts lines there (subst (λ (z : Trace). Tells q (seal_of (version_of bytes) z) z w status text) same tells)

bytes_well : Known → Traces → (p : memory.Program) (bytes : List ℕ) (head : Head) (end : ℕ) (v : Version) (t : Trace) (w : Wanted) (status : ℕ) (text : List ℕ) → head_of bytes ≡ Ok (head, end, v) → IsProgramOf head.source p
    → IsReadAs p bytes (Ok t) → IsThere p t w → DueForBytes bytes w status text → TellsWell w status
bytes_well known traces p bytes head end v t w _ _ at of read there (due.no_head e k is line_is) = absurd (let x : no_head_at e ≡ Ok (head, end, v) = sym is ∙ at in cc)
bytes_well known traces p bytes head end v t w _ _ at of read there (due.no_program h m u k is none) =
    absurd (program_or_cause known head.source of.spans _ k of.read of.becomes (subst (λ (z : Head). IsNoProgram z.source k) (one_head bytes head h end m v u at is) none))
bytes_well known traces p bytes head end v t w _ _ at of read there (due.program h m u q status text is also under) =
    let one = one_program known head.source p q of (subst (λ (z : Head). IsProgramOf z.source q) (one_head bytes head h end m v u at is) also) in
    under_well traces p q bytes t w status text one.0 one.1 read there under

pub trace_well : Known → Traces → (files : Files) (name : List ℕ) (w : Wanted) (status : ℕ) (text : List ℕ) → TraceIsThere files name w → DueForTrace files name w status text → TellsWell w status
trace_well known traces files name w _ _ x (due.no_trace status text lacks) = absurd (not_lacking files name trace_limit x.opened.bytes status text x.opened.holds lacks)
trace_well known traces files name w _ _ x (due.read b status text holds is) =
    let same : b ≡ x.opened.bytes = one_file files name x.opened.bytes b x.opened.holds.found holds.found in
    bytes_well known traces x.program x.opened.bytes x.opened.head x.opened.end x.opened.version x.trace w status text x.opened.is_head x.opened.is_program x.opened.is_read x.names
    (subst (λ (z : List ℕ). DueForBytes z w status text) same is)

-- ---- a run

source_well : Known → (source : List ℕ) (told : Program → List ℕ → List ℕ) (p : memory.Program) (status : ℕ) (text : List ℕ) → IsProgramOf source p → DueFor source told status text → status ≡ 0
source_well known source told p _ _ of (due.no_program k none) = absurd (program_or_cause known source of.spans _ k of.read of.becomes none)
source_well known source told p _ _ of (due.program spans q tokens becomes) = refl

run_well : Known → (files : Files) (a : Asked) (told : List ℕ → Program → List ℕ → List ℕ) (status : ℕ) (text : List ℕ) → RunIsThere files a → DueForRun files a told status text → status ≡ 0
run_well known files a told _ _ x (due.no_source status text lacks) = absurd (not_lacking files a.source source_limit x.source status text x.holds lacks)
run_well known files a told _ _ x (due.no_input source name status text holds is lacks) =
    absurd (not_lacking files name input_limit x.input status text (subst (λ (z : Option (List ℕ)). IsInput files z x.input) is x.is_input) lacks)
run_well known files a told _ _ x (due.read source input status text holds is d) =
    let same : source ≡ x.source = one_file files a.source x.source source x.holds.found holds.found in
    source_well known x.source (told input) x.program status text x.is_program (subst (λ (z : List ℕ). DueFor z (told input) status text) same d)

-- ---- a command

check_well : Known → Traces → (files : Files) (trace name certificate : List ℕ) (status : ℕ) (text : List ℕ) → Holds files name certificate_limit certificate → TraceIsThere files trace (wanted.Check (Bytes certificate))
    → WithCertificate files name (DueForTrace files trace) status text → (status ≡ 0) ⊎ (status ≡ 11)
check_well known traces files trace name certificate status text holds x d = of d.given d.gives d.is where
  of : (g : Given) → Gives files name g → DueForTrace files trace (wanted.Check g) status text → (status ≡ 0) ⊎ (status ≡ 11)
  of _ (file.bytes given also) is =
      trace_well known traces files trace (wanted.Check (Bytes certificate)) status text x
      (subst (λ (z : List ℕ). DueForTrace files trace (wanted.Check (Bytes z)) status text) (one_file files name certificate given holds.found also.found) is)
  of _ (file.lacking s y lacks) is = absurd (not_lacking files name certificate_limit certificate s y holds lacks)

command_well : Known → Traces → (files : Files) (keys : Option (List ℕ)) (c : Command) (status : ℕ) (text : List ℕ) → IsSound files keys c → DueTo files c status text → EndsWell c status
command_well known traces files keys (Run a) status text x d = run_well known files a (λ input p lines. report p lines input a.steps) status text x d
command_well known traces files keys (Record a trace) status text x d = run_well known files a (λ input p lines. recorded_report p lines input a.steps) status text x d
command_well known traces files keys (Output trace) status text x d = trace_well known traces files trace wanted.Output status text x d
command_well known traces files keys (Questions trace) status text x d = trace_well known traces files trace wanted.Questions status text x d
command_well known traces files keys (Why trace question) status text x d = trace_well known traces files trace (wanted.Why question) status text x d
command_well known traces files keys (Affects trace question) status text x d = trace_well known traces files trace (wanted.Affects question) status text x d
command_well known traces files keys (Certify trace question) status text x d = trace_well known traces files trace (wanted.Certify question) status text x d
command_well known traces files keys (WhyNot trace word) status text x d = trace_well known traces files trace (wanted.WhyNot word) status text x d
command_well known traces files keys (Scope trace word call) status text x d = trace_well known traces files trace (wanted.Scope word call) status text x d
command_well known traces files keys (Audit trace) status text x d = trace_well known traces files trace wanted.Audit status text x d
command_well known traces files keys (Migrate trace name) status text x d = trace_well known traces files trace wanted.Migrate status text x d
command_well known traces files keys (Check trace name) status text x d = check_well known traces files trace name x.0 status text x.1 x.2 d
command_well known traces files keys (Explore trace) status text x d = absurd d
command_well known traces files keys (Gen n) status text x d = absurd d

explored_well : Known → Traces → (files : Files) (keys : Option (List ℕ)) (trace input : List ℕ) (status : ℕ) (text : List ℕ) → keys ≡ Some input → IsSound files keys (Explore trace)
    → DueForTrace files trace (wanted.Explore input) status text → status ≡ 0
explored_well known traces files keys trace input status text given x d =
    let inputs : Some x.0 ≡ Some input = sym x.1 ∙ given in
    let same : input ≡ x.0 = cc in
    trace_well known traces files trace (wanted.Explore x.0) status text x.2 (subst (λ (z : List ℕ). DueForTrace files trace (wanted.Explore z) status text) same d)

pub sound_well : Known → Traces → AskOneCommand → SoundCallsSucceed
sound_well known traces commands words files keys c _ _ asks x (due.usage none) = absurd (none c asks)
sound_well known traces commands words files keys c _ _ asks x (due.asked d held status text also told is) =
    let same : d ≡ c = commands words d c also asks in
    let shelf : held ≡ files = cc in
    command_well known traces files keys c status text x (subst (λ (z : Command). DueTo files z status text) same (subst (λ (z : Files). DueTo z d status text) shelf is))
sound_well known traces commands words files keys c _ _ asks x (due.explored trace held input status text also told given is) =
    let same : Explore trace ≡ c = commands words (Explore trace) c also asks in
    let shelf : held ≡ files = cc in
    subst (λ (z : Command). IsSound files keys z → EndsWell z status) same
    (λ y. explored_well known traces files keys trace input status text given y (subst (λ (z : Files). DueForTrace z trace (wanted.Explore input) status text) shelf is)) x
sound_well known traces commands words files keys c _ _ asks x (due.generated n status text also is) =
    let same : Gen n ≡ c = commands words (Gen n) c also asks in
    subst (λ (z : Command). IsSound files keys z → EndsWell z status) same
    (λ y. source_well known (generated_source n) (λ p lines. generated_report n p) y.0 status text y.1 is) x
