-- A why over the trace of a run is answered by what the run carried, an affects by to what it carried the event, and a whynot by a
-- least cut of what it reached and did not cross.
use Rattle.std.proofs.Common.{◌≡◌, ◌∙◌, sym, ap, subst, refl, inl, inr, ℕ, List, length, ◌≤◌, arith, Option, Some, None, Result, Ok, Err, IfOk, Vec, Global}
use Rattle.std.specs.declared.alloc.AllocError.{AllocError}
use Rattle.wy_kernel.specs.declared.program.Program as memory
use Rattle.wy_kernel.specs.Program.{Program}
use Rattle.wy_kernel.specs.Parts.{program_of}
use Rattle.wy_event.specs.declared.record.Head.{Head}
use Rattle.wy_event.specs.declared.record.Version.{Version}
use Rattle.wy_event.specs.declared.record.Version.TheVariants as version
use Rattle.wy_event.specs.Record.{Recorded}
use Rattle.wy_event.specs.declared.record.Trace.{Trace}
use Rattle.law_reading.specs.Spelled.{AreBytes, HeadsAreShort}
use Rattle.wy_fitting.specs.Fits.{AllTold}
use Rattle.wy_tree.specs.TokenLaws.{TokensInOrder}
use Rattle.wy_steps.specs.Sets.{nothing}
use Rattle.wy_meaning.specs.Run.{events}
use Rattle.wy_whynot.specs.Laws.{ItemsAreACut}
use Rattle.law_reached.specs.Laws.{CallsStandOnLinks, EachItemIsNeeded}
use Rattle.wy_frames.specs.Heads.{head_of}
use Rattle.wy_outside.specs.Shelf.{Files}
use Rattle.wy_words.specs.Words.{Asks, Command, Why, Affects, WhyNot, IsNoCommand, AskOneCommand}
use Rattle.wy_reply.specs.declared.answer.Answer.{Answer}
use Rattle.wy_reply.specs.declared.status.Status.{Status}
use Rattle.wy_reply.specs.declared.status.Status.TheVariants.{Done}
use Rattle.wy_reply.specs.Carried.{AffectedAnswer, CarriedAnswer}
use Rattle.wy_reply.specs.Blocked.{BlockedAnswer}
use Rattle.wy_reply.specs.ByRun.{AnswersByRun, CanTell, HasSource, TellsRun}
use Rattle.wy_reply.specs.Recordings.{IsTraceOf, trace_spelling}
use Rattle.wy_reply.specs.Tellings.{Wanted}
use Rattle.wy_reply.specs.Tellings as wanted
use Rattle.wy_top.specs.declared.opening.Opening.TheVariants.{Open}
use Rattle.wy_top.specs.declared.files.FileError.{FileError}
use Rattle.wy_top.specs.declared.files.FileError.TheVariants as error
use Rattle.wy_top.specs.Call.{AnswersEach, AnswersRun, AnswersRunOf, Carries, IsRunAnswer, WritesAll}
use Rattle.wy_top.specs.Cuts.{CutAnswer}
use Rattle.wy_top.specs.Deliveries.{Delivers}
use Rattle.wy_top.specs.OwnTraces.{RecordedTracesTellEvents}
use Rattle.wy_kernel.specs.Limits.{source_limit, trace_limit}
use Rattle.wy_program.specs.Programs.{IsProgramOf}
use Rattle.wy_program.specs.declared.typed.TypedProgram.{TypedProgram}
use Rattle.wy_top.specs.Texts.{OfTexts}
use Rattle.wy_top.specs.Reads.{GivesFile, Tells}
use Rattle.wy_top.specs.Openings.{OpensBytes}
use Rattle.wy_top.proofs.OneText.{Known, one_program}
use Rattle.wy_program.proofs.Sources.{few_tokens}

-- ---- a least cut

-- what is known of texts, of the links of their programs, and of the traces of these
pub record CutLaws : Type 0 where
  pub ordered : TokensInOrder
  pub cut : ItemsAreACut
  pub needed : OfTexts (EachItemIsNeeded nothing)
  pub calls : OfTexts (CallsStandOnLinks nothing)
  pub told : RecordedTracesTellEvents

least : CutLaws → (source : List ℕ) (p : memory.Program) (lines input : List ℕ) (steps : ℕ) (word text : List ℕ) → length source ≤ source_limit → IsProgramOf source p →
    BlockedAnswer (program_of p) lines input steps word text → CutAnswer (program_of p) lines input steps word text
least laws source p lines input steps word text short of b =
    let few : length of.spans ≤ 1048576 = let i = few_tokens laws.ordered source of.spans of.read in omega (arith, i, short) in
    record {
      blocked = b;
      least = record {
        cut = laws.cut (program_of p) (events nothing (program_of p) input steps) b.covers b.number b.items b.never b.items_are;
        needed = laws.needed source of.spans of.becomes.tree of.read of.becomes.reads few (length of.spans) (program_of p) of.becomes.elaborated input steps b.covers b.number b.items b.covers_are b.never b.items_are;
      };
      calls = laws.calls source of.spans of.becomes.tree of.read of.becomes.reads few (length of.spans) (program_of p) of.becomes.elaborated input steps b.covers b.covers_are;
    }

by_run : CutLaws → (source : List ℕ) (p : memory.Program) (input : List ℕ) (steps : ℕ) (w : Wanted) (text : List ℕ) → length source ≤ source_limit → IsProgramOf source p →
    AnswersByRun (program_of p) p.lines.items input steps w text → IsRunAnswer p input steps w text
by_run laws source p input steps wanted.Output text short of h = tt
by_run laws source p input steps (wanted.Explore keys) text short of h = tt
by_run laws source p input steps wanted.Questions text short of h = tt
by_run laws source p input steps (wanted.Why question) text short of h = h
by_run laws source p input steps (wanted.Affects question) text short of h = h
by_run laws source p input steps (wanted.WhyNot word) text short of h = least laws source p p.lines.items input steps word text short of h
by_run laws source p input steps wanted.Audit text short of h = tt
by_run laws source p input steps (wanted.Certify question) text short of h = tt
by_run laws source p input steps (wanted.Scope word call) text short of h = tt
by_run laws source p input steps (wanted.Check given) text short of h = tt
by_run laws source p input steps wanted.Migrate text short of h = tt

-- the answer says the same of two programs in memory that are one program
same_why : (p q : memory.Program) (input : List ℕ) (steps : ℕ) (question text : List ℕ) → program_of p ≡ program_of q → p.lines.items ≡ q.lines.items →
    CarriedAnswer (program_of p) p.lines.items input steps question text → CarriedAnswer (program_of q) q.lines.items input steps question text
same_why p q input steps question text same lines h =
    subst (λ (z : Program). CarriedAnswer z q.lines.items input steps question text) same (subst (λ (l : List ℕ). CarriedAnswer (program_of p) l input steps question text) lines h)

same_affects : (p q : memory.Program) (input : List ℕ) (steps : ℕ) (question text : List ℕ) → program_of p ≡ program_of q → p.lines.items ≡ q.lines.items →
    AffectedAnswer (program_of p) p.lines.items input steps question text → AffectedAnswer (program_of q) q.lines.items input steps question text
same_affects p q input steps question text same lines h =
    subst (λ (z : Program). AffectedAnswer z q.lines.items input steps question text) same (subst (λ (l : List ℕ). AffectedAnswer (program_of p) l input steps question text) lines h)

same_whynot : (p q : memory.Program) (input : List ℕ) (steps : ℕ) (word text : List ℕ) → program_of p ≡ program_of q → p.lines.items ≡ q.lines.items →
    CutAnswer (program_of p) p.lines.items input steps word text → CutAnswer (program_of q) q.lines.items input steps word text
same_whynot p q input steps word text same lines h =
    subst (λ (z : Program). CutAnswer z q.lines.items input steps word text) same (subst (λ (l : List ℕ). CutAnswer (program_of p) l input steps word text) lines h)

same_answer : (p q : memory.Program) (input : List ℕ) (steps : ℕ) (w : Wanted) (text : List ℕ) → program_of p ≡ program_of q → p.lines.items ≡ q.lines.items → IsRunAnswer p input steps w text → IsRunAnswer q input steps w text
same_answer p q input steps wanted.Output text same lines h = tt
same_answer p q input steps (wanted.Explore keys) text same lines h = tt
same_answer p q input steps wanted.Questions text same lines h = tt
same_answer p q input steps (wanted.Why question) text same lines h = same_why p q input steps question text same lines h
same_answer p q input steps (wanted.Affects question) text same lines h = same_affects p q input steps question text same lines h
same_answer p q input steps (wanted.WhyNot word) text same lines h = same_whynot p q input steps word text same lines h
same_answer p q input steps wanted.Audit text same lines h = tt
same_answer p q input steps (wanted.Certify question) text same lines h = tt
same_answer p q input steps (wanted.Scope word call) text same lines h = tt
same_answer p q input steps (wanted.Check given) text same lines h = tt
same_answer p q input steps wanted.Migrate text same lines h = tt

-- ---- bytes

-- a version that tells all of these events can tell them
can_tell : (v : Version) (rs : List Recorded) → AllTold v rs → CanTell v rs
can_tell version.One rs h = h
can_tell version.Two rs h = tt

pub run_answered : Known → CutLaws → (source bytes : List ℕ) (w : Wanted) (p : memory.Program) (text : List ℕ) (head : Head) (end : ℕ) (u : Version) → length source ≤ source_limit → AreBytes bytes → IsProgramOf source p → head_of bytes ≡ Ok (head, end, u) → head.source ≡ source →
    HasSource bytes → TellsRun p bytes w text → AnswersRun bytes w text
run_answered known laws source bytes w p text head end u short are of at here has tells = λ v text_of input steps q also is.
    let there : text_of ≡ source = sym (has v (program_of q) text_of input steps is head end u at) ∙ here in
    let one = one_program known source p q of (subst (λ (s : List ℕ). IsProgramOf s q) there also) in
    let trace : IsTraceOf (trace_spelling v) (program_of p) source input steps bytes =
    subst (λ (z : Program). IsTraceOf (trace_spelling v) z source input steps bytes) (sym one.0) (subst (λ (s : List ℕ). IsTraceOf (trace_spelling v) (program_of q) s input steps bytes) there is) in
    let told : CanTell v (events nothing (program_of p) input steps) = can_tell v (events nothing (program_of p) input steps) (laws.told v source input steps p bytes short of are trace) in
    same_answer p q input steps w text one.0 one.1 (by_run laws source p input steps w text short of (tells v source input steps told trace))

pub opened_answered : Known → CutLaws → HeadsAreShort → (bytes : List ℕ) (w : Wanted) (typed : TypedProgram) (t : Trace) (r : Result Answer AllocError) → AreBytes bytes → OpensBytes bytes (Open typed t) →
    IfOk r (λ answer. answer.status ≡ Done → TellsRun typed.program bytes w answer.text.items) → IfOk r (λ answer. answer.status ≡ Done → HasSource bytes) → IfOk r (λ answer. answer.status ≡ Done → AnswersRun bytes w answer.text.items)
opened_answered known laws short bytes w typed t (Ok answer) are (head, end, u, at, is, read) tells has =
    λ done. run_answered known laws head.source bytes w typed.program answer.text.items head end u (short bytes head end u at) are is at refl (has done) (tells done)
opened_answered known laws short bytes w typed t (Err x) are opens tells has = tt

-- ---- files

file_answered_at : (held : Option Files) (name : List ℕ) (w : Wanted) (bytes : Vec ℕ Global) (text : List ℕ) → GivesFile held name trace_limit (Ok bytes) → AnswersRun bytes.items w text → AnswersRunOf held name w text
file_answered_at None name w bytes text gives is = λ files found told at. absurd (cc)
file_answered_at (Some shelf) name w bytes text gives is = λ files found told at.
    let same : shelf ≡ files = cc in
    let both : Some found ≡ Some bytes.items = sym at ∙ sym (ap (λ (f : Files). f name) same) ∙ gives.found in
    let one : bytes.items ≡ found = cc in
    subst (λ (b : List ℕ). AnswersRun b w text) one is

pub file_answered : (held : Option Files) (name : List ℕ) (w : Wanted) (bytes : Vec ℕ Global) (given : List ℕ) (r : Result Answer AllocError) → GivesFile held name trace_limit (Ok bytes) → given ≡ bytes.items →
    IfOk r (λ answer. answer.status ≡ Done → AnswersRun given w answer.text.items) → IfOk r (λ answer. answer.status ≡ Done → AnswersRunOf held name w answer.text.items)
file_answered held name w bytes given (Ok answer) gives same is = λ done. file_answered_at held name w bytes answer.text.items gives (subst (λ (b : List ℕ). AnswersRun b w answer.text.items) same (is done))
file_answered held name w bytes given (Err x) gives same is = tt

unread : (e : FileError) (answer : Answer) (X : Type 0) → Tells e answer → answer.status ≡ Done → X
unread (error.Absent name) answer X tells done = absurd (let s = sym tells.0 ∙ done in cc)
unread (error.TooLong name) answer X tells done = absurd (let s = sym tells.0 ∙ done in cc)
unread error.Fault answer X tells done = absurd (let s = sym tells.0 ∙ done in cc)
unread error.NoMemory answer X tells done = absurd tells

pub lack_answered : (held : Option Files) (name : List ℕ) (w : Wanted) (e : FileError) (r : Result Answer AllocError) → IfOk r (λ answer. Tells e answer) → IfOk r (λ answer. answer.status ≡ Done → AnswersRunOf held name w answer.text.items)
lack_answered held name w e (Ok answer) tells = λ done. unread e answer _ tells done
lack_answered held name w e (Err x) tells = tt

-- ---- words

-- two commands of one form over the same words ask about one trace with one word
abbrev pub IsOneForm : (List ℕ → List ℕ → Command) → Type 0
IsOneForm command = (t q u p : List ℕ) → command t q ≡ command u p → (t ≡ u) × (q ≡ p)

why_is : IsOneForm Why
why_is t q u p e = (cc, cc)

affects_is : IsOneForm Affects
affects_is t q u p e = (cc, cc)

whynot_is : IsOneForm WhyNot
whynot_is t q u p e = (cc, cc)

abbrev pub EachIsAnswered : (List ℕ → List ℕ → Command) → (List ℕ → Wanted) → List (List ℕ) → Option Files → Result Answer AllocError → Type 0
EachIsAnswered command w words held r = IfOk r (λ answer. answer.status ≡ Done → AnswersEach command w words held answer.text.items)

no_command : (command : List ℕ → List ℕ → Command) (w : List ℕ → Wanted) (words : List (List ℕ)) (held : Option Files) (r : Result Answer AllocError) → IsNoCommand words → EachIsAnswered command w words held r
no_command command w words held (Ok answer) none = λ done trace word asks. absurd (none (command trace word) asks)
no_command command w words held (Err e) none = tt

other_command : (command : List ℕ → List ℕ → Command) (w : List ℕ → Wanted) → AskOneCommand → (words : List (List ℕ)) (held : Option Files) (c : Command) (r : Result Answer AllocError) → Asks words c →
    ((trace word : List ℕ) → c ≡ command trace word → ⊥) → EachIsAnswered command w words held r
other_command command w one words held c (Ok answer) asks other = λ done trace word also. absurd (other trace word (one words c (command trace word) asks also))
other_command command w one words held c (Err e) asks other = tt

this_command : (command : List ℕ → List ℕ → Command) (w : List ℕ → Wanted) → IsOneForm command → AskOneCommand → (words : List (List ℕ)) (held : Option Files) (trace word : List ℕ) (r : Result Answer AllocError) → Asks words (command trace word) →
    IfOk r (λ answer. answer.status ≡ Done → AnswersRunOf held trace (w word) answer.text.items) → EachIsAnswered command w words held r
this_command command w form one words held trace word (Ok answer) asks is = λ done name asked also.
    let same = form trace word name asked (one words (command trace word) (command name asked) asks also) in
    subst (λ (q : List ℕ). AnswersRunOf held name (w q) answer.text.items) same.1 (subst (λ (t : List ℕ). AnswersRunOf held t (w word) answer.text.items) same.0 (is done))
this_command command w form one words held trace word (Err e) asks is = tt

-- what the run carried is answered to each why and to each affects
abbrev pub IsCarried : List (List ℕ) → Option Files → Result Answer AllocError → Type 0
IsCarried words held r = IfOk r (λ answer. answer.status ≡ Done → Carries words held answer.text.items)

both : (words : List (List ℕ)) (held : Option Files) (r : Result Answer AllocError) → EachIsAnswered Why wanted.Why words held r → EachIsAnswered Affects wanted.Affects words held r → IsCarried words held r
both words held (Ok answer) first second = λ done. (first done, second done)
both words held (Err e) first second = tt

pub no_command_carries : (words : List (List ℕ)) (held : Option Files) (r : Result Answer AllocError) → IsNoCommand words → IsCarried words held r
no_command_carries words held r none = both words held r (no_command Why wanted.Why words held r none) (no_command Affects wanted.Affects words held r none)

pub no_command_cuts : (words : List (List ℕ)) (held : Option Files) (r : Result Answer AllocError) → IsNoCommand words → EachIsAnswered WhyNot wanted.WhyNot words held r
no_command_cuts = no_command WhyNot wanted.WhyNot

pub other_command_carries : AskOneCommand → (words : List (List ℕ)) (held : Option Files) (c : Command) (r : Result Answer AllocError) → Asks words c → ((trace word : List ℕ) → c ≡ Why trace word → ⊥) → ((trace word : List ℕ) → c ≡ Affects trace word → ⊥) →
    IsCarried words held r
other_command_carries one words held c r asks no_why no_affects = both words held r (other_command Why wanted.Why one words held c r asks no_why) (other_command Affects wanted.Affects one words held c r asks no_affects)

pub other_command_cuts : AskOneCommand → (words : List (List ℕ)) (held : Option Files) (c : Command) (r : Result Answer AllocError) → Asks words c → ((trace word : List ℕ) → c ≡ WhyNot trace word → ⊥) → EachIsAnswered WhyNot wanted.WhyNot words held r
other_command_cuts = other_command WhyNot wanted.WhyNot

pub why_carries : AskOneCommand → (words : List (List ℕ)) (held : Option Files) (trace question : List ℕ) (r : Result Answer AllocError) → Asks words (Why trace question) →
    IfOk r (λ answer. answer.status ≡ Done → AnswersRunOf held trace (wanted.Why question) answer.text.items) → IsCarried words held r
why_carries one words held trace question r asks is =
    both words held r (this_command Why wanted.Why why_is one words held trace question r asks is) (other_command Affects wanted.Affects one words held (Why trace question) r asks (λ t q e. cc))

pub affects_carries : AskOneCommand → (words : List (List ℕ)) (held : Option Files) (trace question : List ℕ) (r : Result Answer AllocError) → Asks words (Affects trace question) →
    IfOk r (λ answer. answer.status ≡ Done → AnswersRunOf held trace (wanted.Affects question) answer.text.items) → IsCarried words held r
affects_carries one words held trace question r asks is =
    both words held r (other_command Why wanted.Why one words held (Affects trace question) r asks (λ t q e. cc)) (this_command Affects wanted.Affects affects_is one words held trace question r asks is)

pub whynot_cuts : AskOneCommand → (words : List (List ℕ)) (held : Option Files) (trace statement : List ℕ) (r : Result Answer AllocError) → Asks words (WhyNot trace statement) →
    IfOk r (λ answer. answer.status ≡ Done → AnswersRunOf held trace (wanted.WhyNot statement) answer.text.items) → EachIsAnswered WhyNot wanted.WhyNot words held r
whynot_cuts = this_command WhyNot wanted.WhyNot whynot_is

-- ---- what is written

pub written_so : (is_so : List ℕ → Type 0) (n m : ℕ) (before after : Option (List ℕ)) (answer : Answer) (status : Status) → Delivers answer status n m before after → status ≡ Done → is_so answer.text.items → WritesAll is_so before after
written_so is_so n m before after answer status (inl (same, kept, all)) done is = (answer.text.items, all, is)
written_so is_so n m before after answer status (inr (inl (fault, rose, part))) done is = absurd (let x = sym fault ∙ done in cc)
written_so is_so n m before after answer status (inr (inr (memory, kept, part))) done is = absurd (let x = sym memory ∙ done in cc)
