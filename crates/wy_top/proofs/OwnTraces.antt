-- The trace of a run of the program of a text is short enough, tells its events, is read, and is not refused; and what is told of it.
use Rattle.std.proofs.Common.{◌≡◌, ◌∙◌, sym, ap, subst, refl, ℕ, ◌≤◌, List, length, map, Result, Ok, Err, arith}
use Rattle.std.specs.List.{AllByRecursion}
use Rattle.std.proofs.lemmas.List.{length-map}
use Rattle.std.proofs.lemmas.List.Folds.{map_fixed}
use Rattle.wy_tree.specs.Ast.{tokens}
use Rattle.wy_tree.specs.Tokens.{SpannedToken, token_limit}
use Rattle.wy_tree.specs.TokenLaws.{TokensInOrder}
use Rattle.wy_syntax.specs.Declarations.{unit as unit_of}
use Rattle.wy_kernel.specs.Program.{Program}
use Rattle.wy_kernel.specs.declared.program.Program as memory
use Rattle.wy_kernel.specs.Parts.{program_of}
use Rattle.wy_kernel.specs.Limits.{trace_limit}
use Rattle.wy_event.specs.Record.{Recorded, recorded}
use Rattle.wy_event.specs.declared.record.Head.{Head}
use Rattle.wy_event.specs.declared.record.Tail.{Tail}
use Rattle.wy_event.specs.declared.record.Trace.{Trace}
use Rattle.wy_event.specs.declared.record.Version.{Version}
use Rattle.wy_fitting.specs.Fits.{AllFit, AllTold, told}
use Rattle.wy_steps.specs.Sets.{nothing}
use Rattle.wy_meaning.specs.Run as meaning
use Rattle.wy_meaning.specs.Run.{events}
use Rattle.wy_meaning.specs.Kept.{kept_tail}
use Rattle.wy_typing.specs.Programs.{IsProgram}
use Rattle.law_typed_states.specs.Typed.{KeepsLibrary}
use Rattle.law_own_traces.specs.KeptLibrary.{ProgramsKeepLibrary}
use Rattle.law_program_parts.specs.TableLaws.{TreesDeclareFew}
use Rattle.wy_program.specs.Laws.{TextsArePrograms}
use Rattle.wy_program.proofs.Programs.{few_parts}
use Rattle.law_in_range.specs.InRange.{FitsText, IsByteOf}
use Rattle.law_own_traces.specs.Laws.{TreesFitTheirTexts}
use Rattle.law_own_traces.specs.Own.{IsOwn, OfFittingPrograms, OwnBytesTellEvents, OwnEventsAreTold, OwnTracesAreNotRefused, OwnTracesAreRead, OwnTracesAreShort, text_of}
use Rattle.law_own_traces.specs.Statements.{statement_limit, TreesHaveFewStatements}
use Rattle.law_output.specs.Written.{TellsRun}
use Rattle.law_reading.specs.OneReading.{ReadsInOneWay}
use Rattle.law_reading.specs.WithinRules.{IsRead}
use Rattle.wy_frames.specs.declared.error.TraceError.{TraceError}
use Rattle.wy_frames.specs.declared.error.TraceError.TheVariants.{NoMemory}
use Rattle.wy_frames.specs.Traces.{IsReadAs, ReadsAs}
use Rattle.wy_spelling.specs.Spelling.{run_bytes}
use Rattle.wy_reply.specs.Recordings.{IsTraceOf, trace_spelling}
use Rattle.wy_reply.specs.Report.{report}
use Rattle.wy_telling.specs.Output.{output_text}
use Rattle.wy_top.specs.OwnTraces.{IsReadAsRun, IsRecorded, RecordedTracesAreNotRefused, RecordedOutputsAreReports, RecordedTracesAreRead, RecordedTracesAreShort, RecordedTracesTellEvents}
use Rattle.wy_program.specs.Programs.{IsProgramOf}
use Rattle.wy_program.proofs.Sources.{few_tokens}

-- what is known of texts and of their programs
pub record Laws : Type 0 where
  pub ordered : TokensInOrder
  pub programs : TextsArePrograms
  pub few : TreesDeclareFew
  pub library : ProgramsKeepLibrary
  pub texts : TreesFitTheirTexts
  pub statements : TreesHaveFewStatements

one_read : (t u : Trace) (r : Result Trace TraceError) → r ≡ Ok t → r ≡ Ok u → t ≡ u
one_read t u r is also = let e = sym is ∙ also in cc

-- ---- the program of a text

record Asked (p : memory.Program) : Type 0 where
  fits : IsProgram (program_of p)
  keeps : KeepsLibrary (program_of p)
  text : FitsText (text_of p) (program_of p)
  tokens : length p.lines.items ≤ token_limit
  statements : p.statements ≤ statement_limit

asked : Laws → (source : List ℕ) (p : memory.Program) → length source ≤ 1048576 → IsProgramOf source p → Asked p
asked laws source p short of =
    let few : length of.spans ≤ 1048576 = let i = few_tokens laws.ordered source of.spans of.read in omega (arith, i, short) in
    let tree = of.becomes.tree in
    let many : length (tokens tree) ≡ length of.spans = ap length of.becomes.reads.1 ∙ length-map of.spans (λ (s : SpannedToken). s.token) in
    let lines : length p.lines.items ≡ length of.spans = ap length of.lines ∙ length-map of.spans (λ (s : SpannedToken). s.line) in
    let parts = few_parts (unit_of 0 tree) (length of.spans) (program_of p) of.becomes.elaborated (laws.few tree of.becomes.reads.0 (omega (arith, few, many))) in
    record {
      fits = laws.programs source of.spans tree of.read of.becomes.reads few (length of.spans) (program_of p) of.becomes.elaborated;
      keeps = laws.library (unit_of 0 tree) (length of.spans) (program_of p) of.becomes.elaborated (omega (arith, parts.classes));
      text = subst (λ n. FitsText (record { tokens = n; ends_line = (text_of p).ends_line }) (program_of p)) (many ∙ sym lines) (laws.texts tree of.becomes.reads.0 (length of.spans) (program_of p) of.becomes.elaborated);
      tokens = omega (arith, few, lines);
      statements = laws.statements tree of.becomes.reads.0 (omega (arith, few, many)) (length of.spans) (program_of p) of.becomes.elaborated;
    }

-- ---- its traces

-- what holds of the input and the steps of a run holds of those of its head
at_head : (A : List ℕ → ℕ → Type 0) (head : Head) (input : List ℕ) (steps : ℕ) → head.input ≡ input → head.steps ≡ steps → A input steps → A head.input head.steps
at_head A head input steps i s a = subst (λ n. A head.input n) (sym s) (subst (λ (l : List ℕ). A l steps) (sym i) a)

back : (A : List ℕ → ℕ → Type 0) (head : Head) (input : List ℕ) (steps : ℕ) → head.input ≡ input → head.steps ≡ steps → A head.input head.steps → A input steps
back A head input steps i s a = subst (λ (l : List ℕ). A l steps) i (subst (λ n. A head.input n) s a)

module _ (v : Version) (source input : List ℕ) (steps : ℕ) (p : memory.Program) (bytes : List ℕ) (r : IsRecorded v source input steps p bytes) where
  abbrev is : IsTraceOf (trace_spelling v) (program_of p) source input steps bytes
  is = r.is_trace

  abbrev runs : List Recorded
  runs = events nothing (program_of p) is.head.input is.head.steps

  own : IsOwn p is.head runs is.end
  own = record {
    head_stands = record {
      some_steps = subst (λ n. 1 ≤ n) (sym is.steps_are) r.some_steps;
      steps = subst (λ n. n ≤ 50000000) (sym is.steps_are) r.steps_within;
      input = subst (λ (l : List ℕ). length l ≤ 16777216) (sym is.input_is) r.input_within;
      source = subst (λ (l : List ℕ). length l ≤ 1048576) (sym is.source_is) r.source_within;
    };
    bytes = subst (λ (l : List ℕ). AllByRecursion IsByteOf l) (sym is.input_is) r.input_bytes;
    events_are = refl;
    end_is = at_head (λ i n. kept_tail is.end ≡ meaning.tail nothing (program_of p) i n) is.head input steps is.input_is is.steps_are is.end_is;
    fit = at_head (λ i n. AllFit (events nothing (program_of p) i n)) is.head input steps is.input_is is.steps_are is.events_fit;
    end_fits = is.end_fits;
  }

  spelled : bytes ≡ run_bytes v is.head runs is.end
  spelled = at_head (λ i n. bytes ≡ run_bytes v is.head (events nothing (program_of p) i n) is.end) is.head input steps is.input_is is.steps_are is.spelled

  pub within : Laws → OfFittingPrograms OwnTracesAreShort → length bytes ≤ trace_limit
  within laws short =
      let a = asked laws source p r.source_within r.is_program in
      subst (λ (l : List ℕ). length l ≤ trace_limit) (sym spelled) (short p a.fits a.keeps a.text a.statements v is.head runs is.end own)

  read_back : Laws → OfFittingPrograms OwnTracesAreShort → OfFittingPrograms OwnTracesAreRead → IsRead v p is.head runs is.end bytes
  read_back laws short reads =
      let a = asked laws source p r.source_within r.is_program in
      reads p a.fits a.keeps a.text v is.head runs is.end bytes own (within laws short) spelled

  all_told : Laws → OfFittingPrograms OwnEventsAreTold → map (told v) runs ≡ runs
  all_told laws tells =
      let a = asked laws source p r.source_within r.is_program in
      map_fixed (told v) runs (tells p a.fits a.keeps a.text v is.head.input is.head.steps own.bytes)

  pub read_as_run : Laws → OfFittingPrograms OwnTracesAreShort → OfFittingPrograms OwnEventsAreTold → OfFittingPrograms OwnTracesAreRead → IsReadAsRun source input steps p bytes
  read_as_run laws short tells reads =
      let x = read_back laws short reads in
      record {
        trace = x.trace;
        read = x.read;
        steps_are = ap (λ (h : Head). h.steps) x.head_is ∙ is.steps_are;
        input_is = ap (λ (h : Head). h.input) x.head_is ∙ is.input_is;
        source_is = ap (λ (h : Head). h.source) x.head_is ∙ is.source_is;
        events_are = back (λ i n. map recorded x.trace.events ≡ events nothing (program_of p) i n) is.head input steps is.input_is is.steps_are (x.events_are ∙ all_told laws tells);
        end_is = ap kept_tail x.tail_is ∙ is.end_is;
      }

  -- what is told of the trace as which the bytes are read
  pub output_told : Laws → OfFittingPrograms OwnTracesAreShort → OfFittingPrograms OwnEventsAreTold → OfFittingPrograms OwnTracesAreRead → ReadsInOneWay → OfFittingPrograms TellsRun → (t : Trace) → IsReadAs p bytes (Ok t)
      → output_text (program_of p) p.lines.items (map recorded t.events) t.tail ≡ report (program_of p) p.lines.items input steps
  output_told laws short tells reads once outputs t is_read =
      let a = asked laws source p r.source_within r.is_program in
      let x = read_back laws short reads in
      let same : t ≡ x.trace = one_read t x.trace (Ok t) refl (once p bytes (Ok t) (Ok x.trace) tt tt is_read x.read) in
      let records : map recorded t.events ≡ runs = ap (λ (y : Trace). map recorded y.events) same ∙ x.events_are ∙ all_told laws tells in
      let ends : t.tail ≡ is.end = ap (λ (y : Trace). y.tail) same ∙ x.tail_is in
      ap (λ (l : List Recorded). output_text (program_of p) p.lines.items l t.tail) records
      ∙ ap (λ (y : Tail). output_text (program_of p) p.lines.items runs y) ends
      ∙ back (λ i n. output_text (program_of p) p.lines.items runs is.end ≡ report (program_of p) p.lines.items i n) is.head input steps is.input_is is.steps_are (outputs p a.fits a.keeps a.text a.tokens is.head runs is.end own)

  pub not_refused : Laws → OfFittingPrograms OwnTracesAreShort → OfFittingPrograms OwnTracesAreNotRefused → (e : TraceError) → ReadsAs (Err e) p bytes → e ≡ NoMemory
  not_refused laws short reads e refused =
      let a = asked laws source p r.source_within r.is_program in
      reads p a.fits a.keeps a.text v is.head runs is.end bytes own (within laws short) spelled e refused

pub traces_short : Laws → OfFittingPrograms OwnTracesAreShort → RecordedTracesAreShort
traces_short laws short v source input steps p bytes r = within v source input steps p bytes r laws short

pub traces_read : Laws → OfFittingPrograms OwnTracesAreShort → OfFittingPrograms OwnEventsAreTold → OfFittingPrograms OwnTracesAreRead → RecordedTracesAreRead
traces_read laws short tells reads v source input steps p bytes r = read_as_run v source input steps p bytes r laws short tells reads

pub traces_not_refused : Laws → OfFittingPrograms OwnTracesAreShort → OfFittingPrograms OwnTracesAreNotRefused → RecordedTracesAreNotRefused
traces_not_refused laws short reads v source input steps p bytes r = not_refused v source input steps p bytes r laws short reads

pub outputs_told : Laws → OfFittingPrograms OwnTracesAreShort → OfFittingPrograms OwnEventsAreTold → OfFittingPrograms OwnTracesAreRead → ReadsInOneWay → OfFittingPrograms TellsRun → RecordedOutputsAreReports
outputs_told laws short tells reads once outputs v source input steps p bytes r = output_told v source input steps p bytes r laws short tells reads once outputs

-- what its bytes tell
pub traces_tell : Laws → OfFittingPrograms OwnBytesTellEvents → RecordedTracesTellEvents
traces_tell laws tells v source input steps p bytes short of are is =
    let a = asked laws source p short of in
    let spelled : bytes ≡ run_bytes v is.head (events nothing (program_of p) is.head.input is.head.steps) is.end =
    at_head (λ i n. bytes ≡ run_bytes v is.head (events nothing (program_of p) i n) is.end) is.head input steps is.input_is is.steps_are is.spelled in
    back (λ i n. AllTold v (events nothing (program_of p) i n)) is.head input steps is.input_is is.steps_are (tells p a.fits a.keeps a.text v is.head is.end bytes are spelled)
