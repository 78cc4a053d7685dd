-- What a call of the program has to answer: its status and its text, by the words and the files alone.
use Rattle.std.specs.Prelude.{◌≡◌, ℕ, List, map, Option, Some, None, Ok, Err}
use Rattle.wy_kernel.specs.Program.{Program}
use Rattle.wy_kernel.specs.declared.program.Program as memory
use Rattle.wy_event.specs.declared.record.Head.{Head}
use Rattle.wy_event.specs.declared.record.Version.{Version}
use Rattle.wy_outside.specs.Shelf.{Files}
use Rattle.wy_tree.specs.Tokens.{SpannedToken, Tokens}
use Rattle.wy_frames.specs.Heads.{head_of}
use Rattle.wy_frames.specs.declared.error.TraceError.{TraceError}
use Rattle.wy_words.specs.Words.{Asked, Asks, Command, Run, Record, Output, Questions, Why, Affects, Certify, Check, Scope, WhyNot, Audit, Explore, Migrate, Gen, IsNoCommand}
use Rattle.wy_reply.specs.Lines.{usage_line, of_trace}
use Rattle.wy_gen.specs.Generated.{source}
use Rattle.wy_reply.specs.Report.{report, recorded_report}
use Rattle.wy_reply.specs.Generated.{generated_report}
use Rattle.wy_reply.specs.Tellings.{DueUnder, Given, IsTraceLine, Wanted}
use Rattle.wy_reply.specs.Tellings as wanted
use Rattle.wy_top.specs.Causes.{IsNoProgram, IsSyntaxLine}
use Rattle.wy_program.specs.Programs.{Becomes, IsProgramOf}
use Rattle.wy_kernel.specs.Limits.{source_limit, input_limit, trace_limit}
use Rattle.wy_top.specs.Held.{Gives, Holds, Lacks, IsInput}

-- the status and the text that are due for a source: why it is no program, or this text of its program, whose tokens are on these lines
pub data DueFor (source : List ℕ) (told : Program → List ℕ → List ℕ) : ℕ → List ℕ → Type 0 where
  no_program : (line : List ℕ) → IsNoProgram source line → DueFor source told 4 line
  program : (spans : List SpannedToken) (p : Program) → Tokens source spans → Becomes spans (Ok p) → DueFor source told 0 (told p (map (λ t. t.line) spans))

-- the same for a run of the source that a shelf holds
pub data DueForRun (files : Files) (a : Asked) (told : List ℕ → Program → List ℕ → List ℕ) : ℕ → List ℕ → Type 0 where
  no_source : (status : ℕ) (text : List ℕ) → Lacks files a.source source_limit status text → DueForRun files a told status text
  no_input : (source name : List ℕ) (status : ℕ) (text : List ℕ) → Holds files a.source source_limit source → a.input ≡ Some name → Lacks files name input_limit status text → DueForRun files a told status text
  read : (source input : List ℕ) (status : ℕ) (text : List ℕ) → Holds files a.source source_limit source → IsInput files a.input input → DueFor source (told input) status text → DueForRun files a told status text

-- the same for the bytes of a trace: its head, its program and the rest are read in this order
pub data DueForBytes (bytes : List ℕ) (w : Wanted) : ℕ → List ℕ → Type 0 where
  no_head : (e : TraceError) (line : List ℕ) → head_of bytes ≡ Err e → IsTraceLine e line → DueForBytes bytes w 5 line
  no_program : (head : Head) (end : ℕ) (v : Version) (line : List ℕ) → head_of bytes ≡ Ok (head, end, v) → IsNoProgram head.source line → DueForBytes bytes w 5 (of_trace line)
  program : (head : Head) (end : ℕ) (v : Version) (p : memory.Program) (status : ℕ) (text : List ℕ) → head_of bytes ≡ Ok (head, end, v) → IsProgramOf head.source p → DueUnder p bytes w status text → DueForBytes bytes w status text

-- the same for the trace that a shelf holds
pub data DueForTrace (files : Files) (name : List ℕ) (w : Wanted) : ℕ → List ℕ → Type 0 where
  no_trace : (status : ℕ) (text : List ℕ) → Lacks files name trace_limit status text → DueForTrace files name w status text
  read : (bytes : List ℕ) (status : ℕ) (text : List ℕ) → Holds files name trace_limit bytes → DueForBytes bytes w status text → DueForTrace files name w status text

-- what is due for the check of what is given as a certificate
pub record WithCertificate (files : Files) (name : List ℕ) (due : Wanted → ℕ → List ℕ → Type 0)
    (status : ℕ) (text : List ℕ) : Type 0 where
  pub given : Given
  pub gives : Gives files name given
  pub is : due (wanted.Check given) status text

-- what is due for a command over a shelf
abbrev pub DueTo : Files → Command → ℕ → List ℕ → Type 0
DueTo files (Run a) status text = DueForRun files a (λ input p lines. report p lines input a.steps) status text
DueTo files (Record a trace) status text = DueForRun files a (λ input p lines. recorded_report p lines input a.steps) status text
DueTo files (Output trace) status text = DueForTrace files trace wanted.Output status text
DueTo files (Why trace question) status text = DueForTrace files trace (wanted.Why question) status text
DueTo files (Affects trace question) status text = DueForTrace files trace (wanted.Affects question) status text
DueTo files (Certify trace question) status text = DueForTrace files trace (wanted.Certify question) status text
DueTo files (Check trace name) status text = WithCertificate files name (DueForTrace files trace) status text
DueTo files (Questions trace) status text = DueForTrace files trace wanted.Questions status text
DueTo files (WhyNot trace statement) status text =
    DueForTrace files trace (wanted.WhyNot statement) status text
DueTo files (Scope trace statement call) status text =
    DueForTrace files trace (wanted.Scope statement call) status text
DueTo files (Audit trace) status text = DueForTrace files trace wanted.Audit status text
DueTo files (Migrate trace name) status text = DueForTrace files trace wanted.Migrate status text
DueTo files (Explore trace) status text = ⊥
DueTo files (Gen n) status text = ⊥

-- the status and the text that are due, by the files and by what is left of the keys, where they are told
pub data Due (words : List (List ℕ)) (held : Option Files) (keys : Option (List ℕ)) : ℕ → List ℕ → Type 0 where
  usage : IsNoCommand words → Due words held keys 2 usage_line
  asked : (c : Command) (files : Files) (status : ℕ) (text : List ℕ) → Asks words c → held ≡ Some files → DueTo files c status text → Due words held keys status text
  explored : (trace : List ℕ) (files : Files) (input : List ℕ) (status : ℕ) (text : List ℕ) → Asks words (Explore trace) → held ≡ Some files → keys ≡ Some input →
      DueForTrace files trace (wanted.Explore input) status text → Due words held keys status text
  generated : (n status : ℕ) (text : List ℕ) → Asks words (Gen n) → DueFor (source n) (λ p lines. generated_report n p) status text → Due words held keys status text

-- ---- the one freedom

-- the run that a command asks for, and the trace that it reads
abbrev pub run_of : Command → Option Asked
run_of (Run a) = Some a
run_of (Record a trace) = Some a
run_of _ = None

abbrev pub trace_of : Command → Option (List ℕ)
trace_of (Output trace) = Some trace
trace_of (Why trace question) = Some trace
trace_of (Affects trace question) = Some trace
trace_of (Certify trace question) = Some trace
trace_of (Check trace name) = Some trace
trace_of (Questions trace) = Some trace
trace_of (WhyNot trace statement) = Some trace
trace_of (Scope trace statement call) = Some trace
trace_of (Audit trace) = Some trace
trace_of (Migrate trace name) = Some trace
trace_of (Explore trace) = Some trace
trace_of _ = None

-- both texts are lines of Syntax for the tokens of one source: that of the file which a run names, that in the head of the trace which is read, or a generated one
pub data AreSyntaxLines (words : List (List ℕ)) (held : Option Files) : List ℕ → List ℕ → Type 0 where
  of_source : (c : Command) (files : Files) (a : Asked) (source : List ℕ) (spans : List SpannedToken) (x y : List ℕ) → Asks words c → held ≡ Some files → run_of c ≡ Some a → Holds files a.source source_limit source →
      Tokens source spans → IsSyntaxLine spans x → IsSyntaxLine spans y → AreSyntaxLines words held x y
  of_head : (c : Command) (files : Files) (name bytes : List ℕ) (head : Head) (end : ℕ) (v : Version) (spans : List SpannedToken) (x y : List ℕ) → Asks words c → held ≡ Some files → trace_of c ≡ Some name → Holds files name trace_limit bytes →
      head_of bytes ≡ Ok (head, end, v) → Tokens head.source spans → IsSyntaxLine spans x → IsSyntaxLine spans y → AreSyntaxLines words held (of_trace x) (of_trace y)
  of_generated : (n : ℕ) (spans : List SpannedToken) (x y : List ℕ) → Asks words (Gen n) → Tokens (source n) spans → IsSyntaxLine spans x → IsSyntaxLine spans y → AreSyntaxLines words held x y
