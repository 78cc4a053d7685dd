-- What each command of an explorer does and answers.
use Rattle.std.proofs.Common.{◌≡◌, ◌∙◌, ℕ, ◌<◌, ◌≤◌, true, false, List, length, refl, sym, ap, subst, arith}
use Rattle.std.proofs.Math.Path.{fun_ext}
use Rattle.std.specs.Prelude.{IfOk, Option, Some, Result, Ok, Err, Vec, map, ◌↔◌}
use Rattle.std.specs.Prelude.{None as Absent}
use Rattle.std.specs.List.{Contains}
use Rattle.std.specs.declared.alloc.Global.{Global}
use Rattle.std.specs.List.Sorted.{IsStrictlySortedBy}
use Rattle.std.proofs.lemmas.Option.{none-some, same_Some}
use Rattle.wy_kernel.specs.declared.program.Program as memory
use Rattle.wy_kernel.specs.Parts.{program_of}
use Rattle.wy_kernel.specs.Program.{Program}
use Rattle.wy_kernel.specs.Statements.{statements_of}
use Rattle.wy_event.specs.declared.record.Cover.{Cover}
use Rattle.wy_event.specs.Record.{Recorded}
use Rattle.wy_event.specs.Sources as records
use Rattle.wy_view.specs.View.{Told}
use Rattle.wy_view.specs.declared.view.ViewError.{ViewError}
use Rattle.wy_index.specs.Index.{owners_of}
use Rattle.wy_ask.specs.declared.opened.Opened.{Opened}
use Rattle.wy_ask.specs.Asked.{owners}
use Rattle.wy_ask.specs.Opened.{IsOpenedOf}
use Rattle.wy_ask.specs.Words.{number_of}
use Rattle.wy_ask.specs.Statements.{Finds}
use Rattle.wy_ask.specs.declared.naming.NamedStatement.{NamedStatement}
use Rattle.wy_ask.specs.declared.question.AskError.{AskError}
use Rattle.wy_ask.specs.declared.question.AskError.TheVariants as errors
use Rattle.wy_value.specs.declared.value.Value.{Value}
use Rattle.wy_travel.specs.declared.frames.State.{State}
use Rattle.wy_travel.specs.Backtrace.{StackFrame, backtrace, stack_frame}
use Rattle.wy_watch.specs.declared.error.WatchError.{WatchError}
use Rattle.wy_watch.specs.declared.error.WatchError.TheVariants as refusal
use Rattle.wy_watch.specs.Watch.{HasNoValue, IfNoValue, IsValueOf}
use Rattle.wy_watch.specs.Watched.{watch_limit}
use Rattle.wy_why.specs.declared.answer.Answer.{Answer}
use Rattle.wy_why.specs.declared.source.Source.{Source}
use Rattle.wy_why.specs.Answer.{up_to}
use Rattle.wy_why.specs.Sources.{source_cmp, source_of}
use Rattle.wy_whynot.specs.declared.item.Item.{Item}
use Rattle.wy_whynot.specs.declared.item.WhynotError.{WhynotError}
use Rattle.wy_whynot.specs.declared.item.WhynotError.TheVariants as error
use Rattle.wy_whynot.specs.Evidence.{evidence_in}
use Rattle.wy_whynot.specs.Items.{HasRun, WhynotIs}
use Rattle.wy_explore.specs.declared.command.Command as read
use Rattle.wy_explore.specs.declared.explorer.Answered.{Answered}
use Rattle.wy_explore.specs.declared.explorer.Explorer.{Explorer}
use Rattle.wy_explore.specs.declared.reply.Reply as answer
use Rattle.wy_explore.specs.declared.reply.Reply.TheVariants as reply
use Rattle.wy_explore.specs.Commands.{Ask, AsksAbout, Down, Frames, Go, IsMeant, Listing, Quit, Reads, Show, Sources, Undo, Up, WhyNot, Worded, worded}
use Rattle.wy_explore.specs.Explorer.{AllAnswered, Fulfils, HoldsOf, IsAnswered, Leads, Moves, Undoes, event_asked, reply_of, session_of}
use Rattle.wy_explore.specs.Session.{AreSources, IsGreatestBelow, IsLeastAbove, Replies, RepliesTo, Reply, Session, answer_to, looking_at}
use Rattle.wy_explore.specs.Session as session
use Rattle.wy_explore.proofs.Doing.{Steps}
use Rattle.wy_explore.proofs.Replying.{asked, denied, found, framed, listed, no_number, not_asked, not_down, not_found, not_framed, not_listed, not_looked, not_named, not_there, not_up, nothing, over, ran, reply_to_line, reply_to_none, shown, too_far, too_long, went, went_back, went_down, went_up, worthless}

-- ---- an answer by the index

own : {V : Type 0} (o : Opened V) (told : Told) → IsOpenedOf told o → owners_of o.index ≡ owners (program_of o.program.now)
own o told opened = fun_ext opened.owners

-- is that of the program
pub answered_by : {V : Type 0} (o : Opened V) (told : Told) (rs : List Recorded) (event : ℕ) (answer : Answer) → IsOpenedOf told o
    → answer.all.items ≡ up_to event (records.closure (owners_of o.index) rs event)
    → answer.flow.items ≡ up_to event (records.data_closure (owners_of o.index) rs event)
    → IsAnswered (program_of o.program.now) rs (record { event = event; answer = answer })
answered_by o told rs event answer opened all flow = record {
  all = all ∙ ap (λ owner. up_to event (records.closure owner rs event)) (own o told opened);
  flow = flow ∙ ap (λ owner. up_to event (records.data_closure owner rs event)) (own o told opened);
}

pub sources_of : {V : Type 0} (o : Opened V) (told : Told) (rs : List Recorded) (event : ℕ) (sources : Vec Source Global) → IsOpenedOf told o
    → ((s : records.Source) → Contains (map source_of sources.items) s ↔ Contains (records.sources (owners_of o.index) rs event) s)
    → IsStrictlySortedBy source_cmp sources.items → AreSources (program_of o.program.now) rs event sources.items
sources_of o told rs event sources opened exact rises = record {
  exact = λ s. subst (λ owner. Contains (map source_of sources.items) s ↔ Contains (records.sources owner rs event) s) (own o told opened) (exact s);
  in_order = rises;
}

-- ---- the commands

module _ (m : memory.Program) (covers : List Cover) (rs : List Recorded) (x : Explorer) where
  abbrev p : Program
  p = program_of m

  abbrev s : Session
  s = session_of x

  pub ask_told : (word : List ℕ) (event : ℕ) (y : Explorer) → AsksAbout p rs word (Some event) → session_of y ≡ session.asking s event
      → Fulfils m covers rs (Ask word) x y (reply.At (Some event))
  ask_told word event y about at = asked p m.lines.items rs covers s word event (session_of y) about at

  pub ask_missed : (word : List ℕ) → AsksAbout p rs word Absent → Fulfils m covers rs (Ask word) x x reply.NoSuch
  ask_missed word none = not_asked p m.lines.items rs covers s word none

  pub list_told : (a : Answered) → x.question ≡ Some a → Fulfils m covers rs Listing x x (reply.Answer a.event)
  list_told a is = listed p m.lines.items rs covers s a.event (ap event_asked is)

  pub list_missed : x.question ≡ Absent → Fulfils m covers rs Listing x x reply.NoSuch
  list_missed is = not_listed p m.lines.items rs covers s (ap event_asked is)

  -- the question that was asked, with its answer
  answered_question : (q : Option Answered) (event : ℕ) → event_asked q ≡ Some event → (a : Answered) × (q ≡ Some a) × (a.event ≡ event)
  answered_question Absent event is = absurd (none-some event is)
  answered_question (Some a) event is = (a, refl, same_Some a.event event is)

  step_leads : (to : List ℕ → ℕ → ℕ → Type 0) (t : Session) (r : Reply) → AllAnswered p rs x → (steps : Steps p m.lines.items rs covers s to t r) → Leads to x steps.target
  step_leads to t r all steps =
      let (a, is, at) = answered_question x.question steps.event steps.asked in
      let held : IsAnswered p rs a = subst (HoldsOf (IsAnswered p rs)) is all.now in
      record {
        asked = a;
        asked_is = is;
        cursor = steps.from;
        cursor_is = steps.cursor;
        leads = subst (λ xs. to xs steps.from steps.target) (ap (answer_to p rs) (sym at) ∙ sym held.all) steps.leads;
      }

  -- what an answer leads to, in the records
  leads_on : (to : List ℕ → ℕ → ℕ → Type 0) (event : ℕ) → AllAnswered p rs x → (leads : Leads to x event) → to (answer_to p rs leads.asked.event) leads.cursor event
  leads_on to event all leads =
      let held : IsAnswered p rs leads.asked = subst (HoldsOf (IsAnswered p rs)) leads.asked_is all.now in
      subst (λ xs. to xs leads.cursor event) held.all leads.leads

  pub up_told : (y : Explorer) → AllAnswered p rs x → Moves IsGreatestBelow true x y → Fulfils m covers rs Up x y (reply.At y.cursor)
  up_told y all (event, leads, is) =
      went_up p m.lines.items rs covers s leads.asked.event leads.cursor event (session_of y) (ap event_asked leads.asked_is) leads.cursor_is (leads_on IsGreatestBelow event all leads) is

  pub up_missed : (y : Explorer) → AllAnswered p rs x → Moves IsGreatestBelow false x y → Fulfils m covers rs Up x y reply.NoSuch
  up_missed y all (none, same) = subst (λ z. Fulfils m covers rs Up x z reply.NoSuch) (sym same)
      (not_up p m.lines.items rs covers s (λ t r steps. none steps.target (step_leads IsGreatestBelow t r all steps)))

  pub down_told : (y : Explorer) → AllAnswered p rs x → Moves IsLeastAbove true x y → Fulfils m covers rs Down x y (reply.At y.cursor)
  down_told y all (event, leads, is) =
      went_down p m.lines.items rs covers s leads.asked.event leads.cursor event (session_of y) (ap event_asked leads.asked_is) leads.cursor_is (leads_on IsLeastAbove event all leads) is

  pub down_missed : (y : Explorer) → AllAnswered p rs x → Moves IsLeastAbove false x y → Fulfils m covers rs Down x y reply.NoSuch
  down_missed y all (none, same) = subst (λ z. Fulfils m covers rs Down x z reply.NoSuch) (sym same)
      (not_down p m.lines.items rs covers s (λ t r steps. none steps.target (step_leads IsLeastAbove t r all steps)))

  pub go_told : (word : List ℕ) (n count : ℕ) (y : Explorer) → number_of word ≡ Some n → length rs ≡ count → n < count → session_of y ≡ looking_at s n → Fulfils m covers rs (Go word) x y (reply.At (Some n))
  go_told word n count y is all lt at = went p m.lines.items rs covers s word n (session_of y) is (omega (arith, lt, all)) at

  pub go_missed : (word : List ℕ) (n count : ℕ) (y : Explorer) → number_of word ≡ Some n → length rs ≡ count → count ≤ n → y ≡ x → Fulfils m covers rs (Go word) x y reply.NoSuch
  go_missed word n count y is all le same = subst (λ z. Fulfils m covers rs (Go word) x z reply.NoSuch) (sym same)
      (too_far p m.lines.items rs covers s word n is (omega (arith, le, all)))

  pub undo_told : (y : Explorer) → Undoes true x y → Fulfils m covers rs Undo x y (reply.At y.cursor)
  undo_told y (position, past, is, at) = went_back p m.lines.items rs covers s position past (session_of y) is at

  pub undo_missed : (y : Explorer) → Undoes false x y → Fulfils m covers rs Undo x y reply.NothingToUndo
  undo_missed y (none, same) = subst (λ z. Fulfils m covers rs Undo x z reply.NothingToUndo) (sym same) (nothing p m.lines.items rs covers s none)

  pub sources_told : (event : ℕ) (sources : Vec Source Global) → x.cursor ≡ Some event → AreSources p rs event sources.items
      → Fulfils m covers rs Sources x x (reply.From sources)
  sources_told event sources cursor are = found p m.lines.items rs covers s event sources.items cursor are

  pub sources_missed : x.cursor ≡ Absent → Fulfils m covers rs Sources x x reply.NoSuch
  sources_missed none = not_found p m.lines.items rs covers s none

  -- what a state in memory says of its frames
  abbrev frames_in : State → List StackFrame
  frames_in state = map stack_frame state.frames.items

  pub frames_told : (event : ℕ) (state : State) → x.cursor ≡ Some event → frames_in state ≡ backtrace p rs event → Fulfils m covers rs Frames x x (reply.Frames state)
  frames_told event state cursor is = subst (λ frames. RepliesTo p m.lines.items rs covers s (IsMeant Frames) s (session.Backtrace frames)) (sym is) (framed p m.lines.items rs covers s event cursor)

  pub frames_missed : x.cursor ≡ Absent → Fulfils m covers rs Frames x x reply.NoSuch
  frames_missed none = not_framed p m.lines.items rs covers s none

  pub show_told : (text : List ℕ) (event : ℕ) (v : Value) → length text ≤ watch_limit → x.cursor ≡ Some event → IsValueOf p rs event text v → Fulfils m covers rs (Show text) x x (reply.Shown v)
  show_told text event v short cursor worth = shown p m.lines.items rs covers s text event v short cursor worth

  pub show_missed : (text : List ℕ) → x.cursor ≡ Absent → Fulfils m covers rs (Show text) x x reply.NoSuch
  show_missed text none = not_looked p m.lines.items rs covers s text none

  pub show_too_long : (text : List ℕ) → watch_limit < length text → Fulfils m covers rs (Show text) x x reply.NoSuch
  show_too_long text long = too_long p m.lines.items rs covers s text long

  pub show_worthless : (text : List ℕ) (event : ℕ) (e : WatchError) → e ≡ refusal.NoValue → x.cursor ≡ Some event → IfNoValue (HasNoValue p rs event text) e → Fulfils m covers rs (Show text) x x reply.NoSuch
  show_worthless text event e is cursor none = worthless p m.lines.items rs covers s text event cursor (subst (IfNoValue (HasNoValue p rs event text)) is none)

  pub go_unread : (word : List ℕ) → number_of word ≡ Absent → Fulfils m covers rs (Go word) x x reply.NoSuch
  go_unread word none = no_number p m.lines.items rs covers s word none

  abbrev Found : List ℕ → Result NamedStatement AskError → Type 0
  Found word r = Finds m.lines.items (statements_of p) word r

  pub whynot_told : (word : List ℕ) (named : NamedStatement) (items : Vec Item Global) → Found word (Ok named) → WhynotIs p rs covers named.number (Ok items)
      → Fulfils m covers rs (WhyNot word) x x (reply.Items items)
  whynot_told word named items is (never, are) =
      denied p m.lines.items rs covers s word named.line named.place named.number (map evidence_in items.items) is never are

  pub whynot_ran : (word : List ℕ) (named : NamedStatement) (e : WhynotError) (count first : ℕ) → e ≡ error.Ran count first → Found word (Ok named)
      → WhynotIs p rs covers named.number (Err e) → Fulfils m covers rs (WhyNot word) x x reply.NoSuch
  whynot_ran word named e count first at is not =
      let has : HasRun covers named.number count first = subst (λ z. WhynotIs p rs covers named.number (Err z)) at not in
      ran p m.lines.items rs covers s word named.line named.place named.number is has.began

  pub whynot_unread : (word : List ℕ) (e : AskError) → e ≡ errors.BadQuestion → Found word (Err e) → Fulfils m covers rs (WhyNot word) x x reply.NoSuch
  whynot_unread word e at not = not_named p m.lines.items rs covers s word (subst (λ z. Found word (Err z)) at not)

  pub whynot_absent : (word : List ℕ) (e : AskError) (line : ℕ) → e ≡ errors.NoSuch line → Found word (Err e) → Fulfils m covers rs (WhyNot word) x x reply.NoSuch
  whynot_absent word e line at not =
      let (place, names, short) = subst (λ z. Found word (Err z)) at not in
      not_there p m.lines.items rs covers s word line place names short

  -- ---- the line

  abbrev Outcome : List ℕ → Explorer → answer.Reply → Type 0
  Outcome line y r = Replies p m.lines.items rs covers s line (session_of y) (reply_of r)

  pub line_told : (line : List ℕ) (command : read.Command) (c : Worded) (y : Explorer) (r : answer.Reply) → worded command ≡ c → Reads line (Some command) → Fulfils m covers rs c x y r → Outcome line y r
  line_told line command c y r is reads fulfils =
      reply_to_line p m.lines.items rs covers s line command (session_of y) (reply_of r) reads (subst (λ v. Fulfils m covers rs v x y r) (sym is) fulfils)

  pub line_told_or_not : (line : List ℕ) (command : read.Command) (c : Worded) (y : Explorer) (r : Result answer.Reply ViewError) → worded command ≡ c → Reads line (Some command)
      → IfOk r (Fulfils m covers rs c x y) → IfOk r (Outcome line y)
  line_told_or_not line command c y (Ok r) is reads fulfils = line_told line command c y r is reads fulfils
  line_told_or_not line command c y (Err e) is reads fulfils = fulfils

  pub line_over : (line : List ℕ) (command : read.Command) → worded command ≡ Quit → Reads line (Some command) → Outcome line x reply.End
  line_over line command is reads = line_told line command Quit x reply.End is reads (over p m.lines.items rs covers s)

  pub line_missed : (line : List ℕ) → Reads line Absent → Outcome line x reply.NoSuch
  line_missed line none = reply_to_none p m.lines.items rs covers s line none
