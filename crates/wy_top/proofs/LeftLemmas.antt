-- What is left in the mirrors of a recorder, and when it is started and finished, from the source to the words.
use Rattle.std.proofs.Common.{◌≡◌, ◌∙◌, subst, sym, ap, refl, inl, inr, ℕ, List, [], Option, Some, None, Result, Ok, Err, IfOk, arith}
use Rattle.std.specs.declared.alloc.AllocError.{AllocError}
use Rattle.wy_kernel.specs.declared.program.Program as memory
use Rattle.wy_kernel.specs.Parts.{program_of}
use Rattle.wy_event.specs.declared.record.Head.{Head}
use Rattle.wy_outside.specs.Counts.{Rose}
use Rattle.wy_outside.specs.Shelf.{Files}
use Rattle.wy_record.specs.declared.recorder.Phase.{Phase}
use Rattle.wy_record.specs.declared.recorder.Phase.TheVariants as phase
use Rattle.wy_record.specs.Recorders.{Mirrors}
use Rattle.wy_words.specs.Words.{AskOneCommand, Asked, Asks, Command, Run, Record, Output, Why, WhyNot, Affects, Certify, Check, Scope, Questions, Explore, Audit, Migrate, Gen, IsNoCommand}
use Rattle.wy_reply.specs.declared.answer.Answer.{Answer}
use Rattle.wy_reply.specs.declared.status.Status.TheVariants as status
use Rattle.wy_reply.specs.Lines.{absent_line, too_long_line}
use Rattle.wy_reply.specs.Recordings.{HoldByPhase, RecordsAs, Spelling}
use Rattle.wy_reply.specs.Statuses.{code_of}
use Rattle.wy_kernel.specs.Limits.{input_limit, source_limit}
use Rattle.wy_program.specs.declared.source.SourceError.{SourceError}
use Rattle.wy_program.specs.Sources.{IsCauseOf}
use Rattle.wy_program.specs.Programs.{IsProgramOf}
use Rattle.wy_top.specs.declared.files.Contents.{Contents}
use Rattle.wy_top.specs.declared.files.FileError.{FileError}
use Rattle.wy_top.specs.declared.files.FileError.TheVariants as error
use Rattle.wy_top.specs.Causes.{ProgramsAreNotRefused}
use Rattle.wy_top.specs.Held.{Holds, IsInput}
use Rattle.wy_top.specs.Left.{Finishes, FinishesProgram, FinishesRun, IsSettled, Leaves, LeavesAny, LeavesSome, LeavesSource, LeftAnew, LeftBy, LeftFor, StartsNone}
use Rattle.wy_top.specs.Reads.{GivesBoth, LacksEither, Tells}
use Rattle.wy_top.specs.Replies.{RefusesSource}
use Rattle.wy_top.proofs.AnswerLemmas.{Faulted}
use Rattle.wy_top.proofs.FileReads.{not_lacking}

-- ---- where the recorder was not started

module _ (s : Spelling) (at : Phase) (ms : Mirrors) (ready : at ≡ phase.Ready) where
  pub source_untouched : (source input : List ℕ) (steps : ℕ) → LeavesSource s source input steps at ms ms
  source_untouched source input steps = subst (λ (z : Phase). LeavesSource s source input steps z ms ms) (sym ready) refl

  pub run_untouched : (files : Files) (a : Asked) → LeftFor s files a at ms ms
  run_untouched files a = subst (λ (z : Phase). LeftFor s files a z ms ms) (sym ready) refl

  pub anew_untouched : (files : Files) (name : List ℕ) → LeftAnew s files name at ms ms
  anew_untouched files name = subst (λ (z : Phase). LeftAnew s files name z ms ms) (sym ready) refl

  by_untouched : (files : Files) (c : Command) → LeftBy s files c at ms ms
  by_untouched files (Record a trace) = run_untouched files a
  by_untouched files (Migrate trace name) = anew_untouched files trace
  by_untouched files (Run a) = tt
  by_untouched files (Output trace) = tt
  by_untouched files (Why trace question) = tt
  by_untouched files (WhyNot trace statement) = tt
  by_untouched files (Affects trace question) = tt
  by_untouched files (Certify trace question) = tt
  by_untouched files (Check trace certificate) = tt
  by_untouched files (Scope trace statement call) = tt
  by_untouched files (Questions trace) = tt
  by_untouched files (Explore trace) = tt
  by_untouched files (Audit trace) = tt
  by_untouched files (Gen n) = tt

  pub untouched : (words : List (List ℕ)) (held : Option Files) → Leaves s words held at ms ms
  untouched words held = λ c files asks told. by_untouched files c

  pub some_untouched : LeavesSome s at ms ms
  some_untouched = ([], [], 0, source_untouched [] [] 0)

  pub any_untouched : (words : List (List ℕ)) → LeavesAny s words at ms ms
  any_untouched words = inl some_untouched

pub unstarted_untouched : {X : Type 0} (x : X) (r : Result Answer AllocError) → IfOk r (λ answer. StartsNone (code_of answer.status) → x ≡ x)
unstarted_untouched x (Ok answer) = λ none. refl
unstarted_untouched x (Err e) = tt

pub settled_untouched : (at : Phase) (n : ℕ) (r : Result Answer AllocError) → at ≡ phase.Ready → IfOk r (λ answer. ¬ Rose n n → IsSettled at)
settled_untouched at n (Ok answer) ready = λ none. inl ready
settled_untouched at n (Err e) ready = tt

-- ---- a source

by_phase : (s : Spelling) (source input : List ℕ) (steps : ℕ) (p : memory.Program) (at : Phase) (old new : Mirrors) → IsProgramOf source p → HoldByPhase s (program_of p) source input steps at old new → LeavesSource s source input steps at old new
by_phase s source input steps p phase.Ready old new is holds = holds
by_phase s source input steps p phase.Recording old new is holds = (p, is, holds)
by_phase s source input steps p phase.Done old new is holds = (p, is, holds)
by_phase s source input steps p phase.Failed old new is holds = (p, is, holds)

pub source_left : (s : Spelling) (source input : List ℕ) (steps : ℕ) (p : memory.Program) (head : Head) (at : Phase) (old new : Mirrors) → IsProgramOf source p → head.source ≡ source → head.input ≡ input → head.steps ≡ steps →
    HoldByPhase s (program_of p) head.source head.input head.steps at old new → LeavesSource s source input steps at old new
source_left s source input steps p head at old new is text given budget holds = by_phase s source input steps p at old new is (rw (text, given, budget) at holds)

pub source_settled : (s : Spelling) (p : memory.Program) (head : Head) (at : Phase) (old new : Mirrors) (n m : ℕ) (r : Result Answer AllocError) → IfOk r (λ answer. RecordsAs s p head old new n m answer) →
    IfOk r (λ answer. answer.status ≡ status.Done → at ≡ phase.Done) → IfOk r (λ answer. ¬ Rose n m → IsSettled at)
source_settled s p head at old new n m (Ok answer) (inl (fault, line, rose)) finished = λ none. absurd (none (inl rose))
source_settled s p head at old new n m (Ok answer) (inr (done, text, held, same)) finished = λ none. inr (finished done)
source_settled s p head at old new n m (Err e) is finished = tt

-- no status of a recording that was begun says that it was not
pub not_done : StartsNone 0 → ⊥
not_done none = omega (arith, none)

pub not_fault : StartsNone 7 → ⊥
not_fault none = omega (arith, none)

pub source_started : (X : Type 0) (s : Spelling) (p : memory.Program) (head : Head) (old new : Mirrors) (n m : ℕ) (r : Result Answer AllocError) → IfOk r (λ answer. RecordsAs s p head old new n m answer) →
    IfOk r (λ answer. StartsNone (code_of answer.status) → X)
source_started X s p head old new n m (Ok answer) (inl (fault, line, rose)) = λ none. absurd (not_fault (subst StartsNone (ap code_of fault) none))
source_started X s p head old new n m (Ok answer) (inr (done, text, held, same)) = λ none. absurd (not_done (subst StartsNone (ap code_of done) none))
source_started X s p head old new n m (Err e) is = tt

pub source_finishes : (s : Spelling) (p : memory.Program) (head : Head) (source : List ℕ) (at : Phase) (old new : Mirrors) (n m : ℕ) (r : Result Answer AllocError) → IfOk r (λ answer. RecordsAs s p head old new n m answer) →
    IfOk r (λ answer. answer.status ≡ status.Done → at ≡ phase.Done) → IfOk r (λ answer. ¬ Rose n m → (q : memory.Program) → IsProgramOf source q → at ≡ phase.Done)
source_finishes s p head source at old new n m (Ok answer) (inl (fault, line, rose)) finished = λ none q is. absurd (none (inl rose))
source_finishes s p head source at old new n m (Ok answer) (inr (done, text, held, same)) finished = λ none q is. finished done
source_finishes s p head source at old new n m (Err e) is finished = tt

pub refused_finishes : ProgramsAreNotRefused → (source : List ℕ) (e : SourceError) (at : Phase) (n m : ℕ) (r : Result Answer AllocError) → IsCauseOf source e → IfOk r (λ answer. RefusesSource e answer) →
    IfOk r (λ answer. ¬ Rose n m → (q : memory.Program) → IsProgramOf source q → at ≡ phase.Done)
refused_finishes apart source e at n m (Ok answer) cause refuses = λ none q is. absurd (apart source answer.text.items q is (refuses.1 source cause))
refused_finishes apart source e at n m (Err x) cause refuses = tt

-- ---- the files of a run

same_source : (held : Option Files) (a : Asked) (contents : Contents) (files : Files) (source : List ℕ) → GivesBoth held a.source a.input (Ok contents) → held ≡ Some files → Holds files a.source source_limit source → source ≡ contents.source.items
same_source None a contents files source gives told holds = absurd (cc)
same_source (Some shelf) a contents files source gives told holds =
    let same : shelf ≡ files = cc in
    let there : files a.source ≡ Some contents.source.items = subst (λ (f : Files). f a.source ≡ Some contents.source.items) same gives.0.found in
    let both : Some source ≡ Some contents.source.items = sym holds.found ∙ there in cc

pub run_finishes : (held : Option Files) (a : Asked) (contents : Contents) (at : Phase) (n m k l : ℕ) (r : Result Answer AllocError) → GivesBoth held a.source a.input (Ok contents) →
    IfOk r (λ answer. ¬ Rose k l → (p : memory.Program) → IsProgramOf contents.source.items p → at ≡ phase.Done) → IfOk r (λ answer. ¬ Rose n m → ¬ Rose k l → FinishesRun a held at)
run_finishes held a contents at n m k l (Err e) gives is = tt
run_finishes held a contents at n m k l (Ok answer) gives is = λ shelf recorder files source input p told holds given of.
    is recorder p (subst (λ (t : List ℕ). IsProgramOf t p) (same_source held a contents files source gives told holds) of)

-- files that are there are not lacking
both_there : (files : Files) (a : Asked) (source input : List ℕ) (status : ℕ) (text : List ℕ) → Holds files a.source source_limit source → IsInput files a.input input → LacksEither files a.source a.input status text → ⊥
both_there files a source input status text holds given (inl lacks) = not_lacking files a.source source_limit source status text holds lacks
both_there files a source input status text holds given (inr (held, name, there, named, lacks)) =
    not_lacking files name input_limit input status text (subst (λ (z : Option (List ℕ)). IsInput files z input) named given) lacks

not_read : (files : Files) (a : Asked) (e : FileError) (n m : ℕ) (answer : Answer) (source input : List ℕ) → GivesBoth (Some files) a.source a.input (Err e) → Faulted e n m → Tells e answer → ¬ Rose n m →
    Holds files a.source source_limit source → IsInput files a.input input → ⊥
not_read files a (error.Absent name) n m answer source input gives rose tells shelf holds given = both_there files a source input 3 (absent_line name.now) holds given gives
not_read files a (error.TooLong name) n m answer source input gives rose tells shelf holds given = both_there files a source input 8 (too_long_line name.now) holds given gives
not_read files a error.Fault n m answer source input gives rose tells shelf holds given = shelf rose
not_read files a error.NoMemory n m answer source input gives rose tells shelf holds given = tells

pub lack_finishes : (held : Option Files) (a : Asked) (e : FileError) (at : Phase) (n m k l : ℕ) (r : Result Answer AllocError) → GivesBoth held a.source a.input (Err e) → Faulted e n m → IfOk r (λ answer. Tells e answer) →
    IfOk r (λ answer. ¬ Rose n m → ¬ Rose k l → FinishesRun a held at)
lack_finishes held a e at n m k l (Err x) gives rose tells = tt
lack_finishes held a e at n m k l (Ok answer) gives rose tells = λ shelf recorder files source input p told holds given of.
    absurd (not_read files a e n m answer source input (subst (λ (h : Option Files). GivesBoth h a.source a.input (Err e)) told gives) rose tells shelf holds given)

run_held : (s : Spelling) (files : Files) (a : Asked) (contents : Contents) (at : Phase) (old new : Mirrors) → GivesBoth (Some files) a.source a.input (Ok contents) →
    LeavesSource s contents.source.items contents.input.items a.steps at old new → LeftFor s files a at old new
run_held s files a contents phase.Ready old new gives left = left
run_held s files a contents phase.Recording old new gives (p, is, holds) = record { source = contents.source.items; holds = gives.0; input = contents.input.items; is_input = gives.1; program = p; is_program = is; held = holds }
run_held s files a contents phase.Done old new gives (p, is, holds) = record { source = contents.source.items; holds = gives.0; input = contents.input.items; is_input = gives.1; program = p; is_program = is; held = holds }
run_held s files a contents phase.Failed old new gives (p, is, holds) = record { source = contents.source.items; holds = gives.0; input = contents.input.items; is_input = gives.1; program = p; is_program = is; held = holds }

pub run_left : (s : Spelling) (held : Option Files) (a : Asked) (contents : Contents) (at : Phase) (old new : Mirrors) → GivesBoth held a.source a.input (Ok contents) →
    LeavesSource s contents.source.items contents.input.items a.steps at old new → (files : Files) → held ≡ Some files → LeftFor s files a at old new
run_left s None a contents at old new gives left files told = absurd (cc)
run_left s (Some shelf) a contents at old new gives left files told =
    let same : shelf ≡ files = cc in
    subst (λ (f : Files). LeftFor s f a at old new) same (run_held s shelf a contents at old new gives left)

-- ---- the words

pub leaves : AskOneCommand → (s : Spelling) (words : List (List ℕ)) (held : Option Files) (c : Command) (at : Phase) (old new : Mirrors) → Asks words c →
    ((files : Files) → held ≡ Some files → LeftBy s files c at old new) → Leaves s words held at old new
leaves one s words held c at old new asks left = λ d files also told. subst (λ (z : Command). LeftBy s files z at old new) (one words c d asks also) (left files told)

pub leaves_none : (s : Spelling) (words : List (List ℕ)) (held : Option Files) (at : Phase) (old new : Mirrors) → IsNoCommand words → Leaves s words held at old new
leaves_none s words held at old new none = λ c files also told. absurd (none c also)

finishes_of : AskOneCommand → (words : List (List ℕ)) (held : Option Files) (c : Command) (at : Phase) → Asks words c → Finishes c held at → FinishesProgram words held at
finishes_of one words held c at asks is = λ d also. subst (λ (z : Command). Finishes z held at) (one words c d asks also) is

pub finishes : AskOneCommand → (words : List (List ℕ)) (held : Option Files) (c : Command) (at : Phase) (n m k l : ℕ) (r : Result Answer AllocError) → Asks words c →
    IfOk r (λ answer. ¬ Rose n m → ¬ Rose k l → Finishes c held at) → IfOk r (λ answer. ¬ Rose n m → ¬ Rose k l → FinishesProgram words held at)
finishes one words held c at n m k l (Ok answer) asks is = λ shelf recorder. finishes_of one words held c at asks (is shelf recorder)
finishes one words held c at n m k l (Err e) asks is = tt

-- a command that uses no recorder
pub finishes_other : AskOneCommand → (words : List (List ℕ)) (held : Option Files) (c : Command) (at : Phase) (n m k l : ℕ) (r : Result Answer AllocError) → Asks words c → Finishes c held at →
    IfOk r (λ answer. ¬ Rose n m → ¬ Rose k l → FinishesProgram words held at)
finishes_other one words held c at n m k l (Ok answer) asks other = λ shelf recorder. finishes_of one words held c at asks other
finishes_other one words held c at n m k l (Err e) asks other = tt

pub finishes_none : (words : List (List ℕ)) (held : Option Files) (at : Phase) (n m k l : ℕ) (r : Result Answer AllocError) → IsNoCommand words → IfOk r (λ answer. ¬ Rose n m → ¬ Rose k l → FinishesProgram words held at)
finishes_none words held at n m k l (Ok answer) none = λ shelf recorder c also. absurd (none c also)
finishes_none words held at n m k l (Err e) none = tt
