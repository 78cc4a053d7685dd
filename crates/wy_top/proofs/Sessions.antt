-- What a call promises of a session.
use Rattle.std.proofs.Common.{◌≡◌, ◌≢◌, ◌∙◌, sym, ap, refl, subst, inl, inr, ℕ, ◌<◌, ◌⊎◌, List, [], ◌++◌, append-nil, append_assoc, take, drop, take-append-drop, Option, Some, None, IfSome, arith}
use Rattle.std.specs.Borrow.{Bor}
use Rattle.wy_kernel.specs.declared.program.Program.{Program}
use Rattle.wy_event.specs.declared.record.Trace.{Trace}
use Rattle.wy_outside.specs.Counts.{Rose}
use Rattle.wy_outside.specs.Shelf.{Files}
use Rattle.wy_outside.specs.Sink.{appended}
use Rattle.wy_words.specs.Views.{command_of}
use Rattle.wy_words.specs.declared.commands.Command.{Command}
use Rattle.wy_words.specs.declared.commands.Command.TheVariants as asking
use Rattle.wy_words.specs.Words.{Asks, AskOneCommand, Command as Request, Explore, Gen, IsNoCommand, Record, Why, Affects, WhyNot}
use Rattle.wy_session.specs.Desk.{scene_of}
use Rattle.wy_session.specs.Scene.{Scene}
use Rattle.wy_session.specs.Situation.{Scenes}
use Rattle.wy_session.specs.Talk.{AnswersFirst, BeginsTalk, IsPrefixOf, IsReadOut, Talks, answered}
use Rattle.wy_session.specs.Closings.{BreaksOff, keys_fault_line}
use Rattle.wy_session.specs.Closings as session
use Rattle.wy_session.specs.declared.ending.Ending.{Ending}
use Rattle.wy_session.specs.declared.ending.Ending.TheVariants as ending
use Rattle.wy_reply.specs.declared.answer.Answer.{Answer}
use Rattle.wy_reply.specs.declared.status.Status.{Status}
use Rattle.wy_reply.specs.declared.status.Status.TheVariants.{Done, Fault, NoMemory, TooLong}
use Rattle.wy_reply.specs.Lines.{absent_line, changed_line, shelf_fault_line}
use Rattle.wy_view.specs.declared.view.ViewError.{ViewError}
use Rattle.wy_view.specs.declared.view.ViewError.TheVariants as view
use Rattle.wy_reply.specs.Statuses.{code_of}
use Rattle.wy_reply.specs.Tellings.{Wanted, covers_of}
use Rattle.wy_reply.specs.Tellings as wanted
use Rattle.wy_record.specs.Recorders.{Mirrors}
use Rattle.wy_record.specs.declared.recorder.Phase.{Phase}
use Rattle.wy_reply.specs.Recordings.{Spelling}
use Rattle.wy_top.specs.Answers.{AsksToExplore, IsAnswer, Knows, counts}
use Rattle.wy_top.specs.Left.{FinishesProgram, Leaves}
use Rattle.wy_top.specs.Call.{BeginsDue, AnswersEach, Carries, Cuts, Failures, IsFaultBehind, IsOpened, ReadsKeysOut, Traces, WritesAll, WritesCarried, WritesCut, WritesDue, WasRefused, WritesFaultLine, WritesPrefix, WritesRefusal, failures, of_keys, of_shelf}
use Rattle.wy_top.specs.Call as call
use Rattle.wy_top.specs.Deliveries.{Delivers, WritesPart}
use Rattle.wy_top.specs.Due.{Due, DueForTrace}
use Rattle.wy_top.specs.Due as due
use Rattle.wy_top.specs.Openings.{AnswersAny, ClosedOver, CountsBy, EndsBy, Explores, IsTold, Keys, Output, ReadsOver, TellsRefusal, refused, memory}
use Rattle.wy_top.specs.Openings as opening
use Rattle.wy_top.specs.Replies.{ShelfCounts}
use Rattle.wy_top.proofs.Delivered.{delivered_fault, prefix_of, part_of, written_alone}

-- ---- what is known

pub record Session (words : List (List ℕ)) (name : List ℕ) : Type 0 where
  pub one : AskOneCommand
  pub asks : Asks words (Explore name)

pub session_of : AskOneCommand → (words : List (List ℕ)) (request : Option Command) (trace : Bor (List ℕ)) → IfSome request (λ c. Asks words (command_of c)) → request ≡ Some (asking.Explore trace) → Session words trace.now
session_of one words request trace asks is = record { one = one; asks = rw (is) at asks }

-- the files and the input of a session
pub record Given (held : Option Files) (keys : Option (List ℕ)) : Type 0 where
  pub files : Files
  pub told : held ≡ Some files
  pub input : List ℕ
  pub given : keys ≡ Some input

given_by : (words : List (List ℕ)) (name : List ℕ) (held : Option Files) (keys : Option (List ℕ)) → Session words name → Knows words held keys → Given held keys
given_by words name held keys x (inl none) = absurd (none (Explore name) x.asks)
given_by words name held keys x (inr (inl (n, also))) = absurd (let e = x.one words (Explore name) (Gen n) x.asks also in cc)
given_by words name held keys x (inr (inr (files, told, keyed))) = of (keyed (name, x.asks)) where
  of : (input : List ℕ) × (keys ≡ Some input) → Given held keys
  of (input, given) = record { files = files; told = told; input = input; given = given }

-- all that is due for a session over a trace that is open
due_of : (words : List (List ℕ)) (name : List ℕ) (held : Option Files) (keys : Option (List ℕ)) (p : Program) (t : Trace) (status : ℕ) (text : List ℕ) → Session words name → (g : Given held keys) → IsOpened g.files name p t →
    Talks (scene_of p t.events (covers_of t)) g.input status text → Due words held keys status text
due_of words name held keys p t status text x g o talk =
    due.explored name g.files g.input status text x.asks g.told g.given
    (due.read o.bytes status text o.holds (due.program o.head o.end o.version p status text o.is_head o.is_program (wanted.told t status text o.is_read (wanted.explore g.input status text talk))))

-- ---- an answer in place of a session

-- it is an answer to the words, over any recorder
answer_of : (words : List (List ℕ)) (name : List ℕ) (held : Option Files) (keys : Option (List ℕ)) (before after : ShelfCounts) (answer : Answer) (n : ℕ) → Session words name → AnswersAny held name before after answer →
    IsAnswer words held keys (counts before.faults n) (counts after.faults n) answer
answer_of words name held keys before after answer n x (inl (fault, line, rose)) = inl (fault, inl (line, rose))
answer_of words name held keys before after answer n x (inr (same, unfaulted, is)) = inr (ap (λ k. counts k n) same, λ knows. of (given_by words name held keys x knows)) where
  of : Given held keys → Due words held keys (code_of answer.status) answer.text.items
  of g = due.explored name g.files g.input (code_of answer.status) answer.text.items x.asks g.told g.given (is (wanted.Explore g.input) g.files g.told)

-- ---- what was written at the end

pub nothing_more : (before after : Option (List ℕ)) (said line : List ℕ) → line ≡ [] → after ≡ appended before (said ++ line) → after ≡ appended before said
nothing_more before after said line none written = written ∙ ap (λ (l : List ℕ). appended before (said ++ l)) none ∙ ap (appended before) (append-nil said)

-- the trace of a session whose scene is told
record Told (held : Option Files) (name : List ℕ) (scene : Option Scene) (files : Files) : Type 0 where
  pub program : Program
  pub trace : Trace
  pub opened : IsOpened files name program trace
  pub is : scene ≡ Some (scene_of program trace.events (covers_of trace))

told_at : (held : Option Files) (name : List ℕ) (scene : Option Scene) (files : Files) → held ≡ Some files → IsTold held name scene → Told held name scene files
told_at held name scene files known told = of (told files known) where
  of : (p : Program) × (t : Trace) × IsOpened files name p t × (scene ≡ Some (scene_of p t.events (covers_of t))) → Told held name scene files
  of (p, t, opened, is) = record { program = p; trace = t; opened = opened; is = is }

-- the scenes of a session
abbrev pub Over : Option Scene → Scenes
Over scene x = scene ≡ Some x

all_due : (words : List (List ℕ)) (name : List ℕ) (held : Option Files) (keys : Option (List ℕ)) (scene : Option Scene) (status : ℕ) (said line : List ℕ) (before after : Option (List ℕ)) → Session words name →
    IsTold held name scene → session.WritesAll (Over scene) keys status said → line ≡ [] → after ≡ appended before (said ++ line) →
    Knows words held keys → WritesDue words held keys status before after
all_due words name held keys scene status said line before after x told all none written knows = of (given_by words name held keys x knows) where
  of : Given held keys → WritesDue words held keys status before after
  of g =
      let t = told_at held name scene g.files g.told told in
      (said, due_of words name held keys t.program t.trace status said x g t.opened (all (scene_of t.program t.trace.events (covers_of t.trace)) g.input t.is g.given), nothing_more before after said line none written)

-- a session over the trace of a name that ended with all said has read its keys out
pub keys_read_out : (words : List (List ℕ)) (name : List ℕ) (held : Option Files) (keys left : Option (List ℕ)) (scene : Option Scene) → Session words name → IsTold held name scene → ReadsOver scene keys left ending.Done → ReadsKeysOut words held keys left
keys_read_out words name held keys left scene x told reads trace files input asks known given =
    let t = told_at held name scene files known told in
    let same : name ≡ trace = (let e = x.one words (Explore name) (Explore trace) x.asks asks in cc) in
    of t.program t.trace (subst (λ (n : List ℕ). IsOpened files n t.program t.trace) same t.opened) (reads (scene_of t.program t.trace.events (covers_of t.trace)) input t.is given) where
      of : (p : Program) (t : Trace) → IsOpened files trace p t → (rest : List ℕ) × (left ≡ Some rest) × IsReadOut (scene_of p t.events (covers_of t)) input rest
          → (p : Program) × (t : Trace) × (rest : List ℕ) × IsOpened files trace p t × (left ≡ Some rest) × IsReadOut (scene_of p t.events (covers_of t)) input rest
      of p t opened (rest, is, out) = (p, t, rest, opened, is, out)

-- nothing is told of the files, so what is due isn't known
untold : (words : List (List ℕ)) (name : List ℕ) (held : Option Files) (keys : Option (List ℕ)) → Session words name → held ≡ None → Knows words held keys → ⊥
untold words name held keys x none knows = let g = given_by words name held keys x knows in let e = sym none ∙ g.told in cc

-- what comes of the end of a session where no view refused
module _ (Q : Status → Output → Type 0) where
  at_end : (s wanted : Status) (said after : Output) → (s ≡ wanted) × (after ≡ said) → Q wanted said → Q s after
  at_end s wanted said after (is, same) q = subst (λ (z : Status). Q z after) (sym is) (subst (Q wanted) (sym same) q)

session_due : (words : List (List ℕ)) (name : List ℕ) (held : Option Files) (sb sa : ShelfCounts) (kb ka : Keys) (b said a : Output) (scene : Option Scene) (e : Ending) (s : Status) → Session words name → IsTold held name scene →
    ClosedOver scene kb ka b said e → CountsBy (held ≡ None) e sb sa → EndsBy name e s said a →
    ¬ Rose sb.faults sa.faults → ¬ Rose kb.faults ka.faults → ¬ Rose b.faults a.faults → Knows words held kb.left → code_of s ≢ 9 → WritesDue words held kb.left (code_of s) b.written a.written
session_due words name held sb sa kb ka b said a scene ending.Done s x told c counts ends shelf keys out knows some =
    at_end (λ z o. WritesDue words held kb.left (code_of z) b.written o.written) s Done said a ends (all_due words name held kb.left scene 0 c.said c.line b.written said.written x told c.closes.3 c.closes.0 c.written knows)
session_due words name held sb sa kb ka b said a scene ending.LongLine s x told c counts ends shelf keys out knows some =
    at_end (λ z o. WritesDue words held kb.left (code_of z) b.written o.written) s TooLong said a ends (all_due words name held kb.left scene 8 c.said c.line b.written said.written x told c.closes.3 c.closes.0 c.written knows)
session_due words name held sb sa kb ka b said a scene ending.LongInput s x told c counts ends shelf keys out knows some =
    at_end (λ z o. WritesDue words held kb.left (code_of z) b.written o.written) s TooLong said a ends (all_due words name held kb.left scene 8 c.said c.line b.written said.written x told c.closes.3 c.closes.0 c.written knows)
session_due words name held sb sa kb ka b said a scene ending.KeysFailed s x told c counts ends shelf keys out knows some = absurd (keys c.closes.1)
session_due words name held sb sa kb ka b said a scene ending.OutFailed s x told c counts ends shelf keys out knows some = absurd (out (subst (λ (o : Output). Rose b.faults o.faults) (sym ends.1) c.closes.1))
session_due words name held sb sa kb ka b said a scene (ending.View view.ReadFault) s x told c counts ends shelf keys out knows some = absurd (shelf counts.1)
session_due words name held sb sa kb ka b said a scene (ending.View view.Gone) s x told c counts ends shelf keys out knows some = absurd (untold words name held kb.left x counts.1.2 knows)
session_due words name held sb sa kb ka b said a scene (ending.View (view.Changed block kept found)) s x told c counts ends shelf keys out knows some = absurd (untold words name held kb.left x counts.1.1 knows)
session_due words name held sb sa kb ka b said a scene (ending.View view.NoMemory) s x told c counts ends shelf keys out knows some = absurd (counts.0 refl)
session_due words name held sb sa kb ka b said a scene ending.NoMemory s x told c counts ends shelf keys out knows some = absurd (some (ap code_of ends.0))

pub explored_due : (words : List (List ℕ)) (name : List ℕ) (held : Option Files) (sb sa : ShelfCounts) (kb ka : Keys) (b a : Output) (s : Status) (code : ℕ) → Session words name → Explores held name sb sa kb ka b a s → code ≡ code_of s →
    ¬ Rose sb.faults sa.faults → ¬ Rose kb.faults ka.faults → ¬ Rose b.faults a.faults → Knows words held kb.left → code ≢ 9 → WritesDue words held kb.left code b.written a.written
explored_due words name held sb sa kb ka b a _ code x (refused answer s not_done cause (inl (fault, line, rose)) stayed delivers) is shelf keys out knows some = absurd (shelf rose)
explored_due words name held sb sa kb ka b a _ code x (refused answer s not_done cause (inr (same, un, dues)) stayed (inl (as_answered, kept, all))) is shelf keys out knows some = of (given_by words name held kb.left x knows) where
  of : Given held kb.left → WritesDue words held kb.left code b.written a.written
  of g = (
    answer.text.items,
    due.explored name g.files g.input code answer.text.items x.asks g.told g.given
        (subst (λ (k : ℕ). DueForTrace g.files name (wanted.Explore g.input) k answer.text.items) (sym (is ∙ ap code_of as_answered)) (dues (wanted.Explore g.input) g.files g.told)),
    all,
  )
explored_due words name held sb sa kb ka b a _ code x (refused answer s not_done cause (inr (same, un, dues)) stayed (inr (inl (fault, rose, part)))) is shelf keys out knows some = absurd (out rose)
explored_due words name held sb sa kb ka b a _ code x (refused answer s not_done cause (inr (same, un, dues)) stayed (inr (inr (lack, kept, part)))) is shelf keys out knows some = absurd (some (is ∙ ap code_of lack))
explored_due words name held sb sa kb ka b a _ code x (opening.session scene e said s told closed reads takes counts ends) is shelf keys out knows some =
    subst (λ (k : ℕ). WritesDue words held kb.left k b.written a.written) (sym is)
    (session_due words name held sb sa kb ka b said a scene e s x told closed counts ends shelf keys out knows (λ nine. some (is ∙ nine)))
explored_due words name held sb sa kb ka b a _ code x (memory stayed kept) is shelf keys out knows some = absurd (some is)

-- ---- a prefix

pub begins_session : (words : List (List ℕ)) (name : List ℕ) (held : Option Files) (keys : Option (List ℕ)) (scene : Option Scene) (part : List ℕ) → Session words name → IsTold held name scene →
    session.WritesPart (Over scene) keys part → Knows words held keys → BeginsDue words held keys part
begins_session words name held keys scene part x told begins knows = of (given_by words name held keys x knows) where
  of : Given held keys → BeginsDue words held keys part
  of g =
      let t = told_at held name scene g.files g.told told in
      call.session name g.files g.input t.program t.trace x.asks g.told g.given t.opened (begins (scene_of t.program t.trace.events (covers_of t.trace)) g.input t.is g.given)

-- what some first lines are answered begins what is due
pub part_of_first : (scene : Option Scene) (keys : Option (List ℕ)) (said : List ℕ) → session.WritesFirst (Over scene) keys said → session.WritesPart (Over scene) keys said
part_of_first scene keys said first x input over given = of (first x input over given) where
  of : AnswersFirst x input said → BeginsTalk x input said
  of (s, rest, reaches) = answered s rest said reaches ([], sym (append-nil said))

abbrev pub Faults : ShelfCounts → ℕ → Keys → Failures
Faults s n k = failures s.faults n k.faults

no_faults : (sb sa : ShelfCounts) (n : ℕ) (kb ka : Keys) → sa.faults ≡ sb.faults → ka.faults ≡ kb.faults → Faults sa n ka ≡ Faults sb n kb
no_faults sb sa n kb ka shelf keys = λ i. failures (shelf i) n (keys i)

all_prefix : (words : List (List ℕ)) (name : List ℕ) (held : Option Files) (sb sa : ShelfCounts) (n : ℕ) (kb ka : Keys) (b a : Output) (scene : Option Scene) (status : ℕ) (said line : List ℕ) → Session words name → sa.faults ≡ sb.faults → ka.faults ≡ kb.faults →
    IsTold held name scene → session.WritesAll (Over scene) kb.left status said → line ≡ [] → a.written ≡ appended b.written (said ++ line) →
    WritesPrefix words held kb.left (Faults sb n kb) (Faults sa n ka) b.written a.written
all_prefix words name held sb sa n kb ka b a scene status said line x shelf keys told all none written =
    (said, nothing_more b.written a.written said line none written, inr (inr (no_faults sb sa n kb ka shelf keys, λ knows. of (given_by words name held kb.left x knows)))) where
      of : Given held kb.left → BeginsDue words held kb.left said
      of g =
          let t = told_at held name scene g.files g.told told in
          call.whole status said (due_of words name held kb.left t.program t.trace status said x g t.opened (all (scene_of t.program t.trace.events (covers_of t.trace)) g.input t.is g.given)) ([], sym (append-nil said))

part_prefix : (words : List (List ℕ)) (name : List ℕ) (held : Option Files) (sb sa : ShelfCounts) (n : ℕ) (kb ka : Keys) (b a : Output) (out_before out_after : ℕ) (scene : Option Scene) (said line : List ℕ) → Session words name → sa.faults ≡ sb.faults →
    IsTold held name scene → session.WritesPart (Over scene) kb.left said → BreaksOff (session.failures kb.faults ka.faults out_before out_after) line → a.written ≡ appended b.written (said ++ line) →
    WritesPrefix words held kb.left (Faults sb n kb) (Faults sa n ka) b.written a.written
part_prefix words name held sb sa n kb ka b a ob oa scene said line x shelf told begins (inl (none, keys)) written =
    (said, nothing_more b.written a.written said line none written, inr (inr (no_faults sb sa n kb ka shelf keys, begins_session words name held kb.left scene said x told begins)))
part_prefix words name held sb sa n kb ka b a ob oa scene said line x shelf told begins (inr (rose, prefix)) written =
    (said ++ line, written, inr (inl (said, keys_fault_line, line, of_keys said (name, x.asks) rose (begins_session words name held kb.left scene said x told begins), prefix, refl)))

-- what was written of the line of a refusal, behind what the session said
record Behind (said : List ℕ) (line : List ℕ) (before after : Option (List ℕ)) : Type 0 where
  pub part : List ℕ
  pub prefix : IsPrefixOf part line
  pub written : after ≡ appended before (said ++ part)

pub twice : (old mid new : Option (List ℕ)) (said more : List ℕ) → mid ≡ appended old said → new ≡ appended mid more → new ≡ appended old (said ++ more)
twice None mid new said more first second = second ∙ ap (λ (o : Option (List ℕ)). appended o more) first
twice (Some text) mid new said more first second = second ∙ ap (λ (o : Option (List ℕ)). appended o more) first ∙ ap Some (append_assoc text said more)

behind : (name : List ℕ) (e : ViewError) (s : Status) (said after : Output) (part line : List ℕ) (before : Option (List ℕ)) → said.written ≡ appended before part → ((answer : Answer) → TellsRefusal name e answer → answer.text.items ≡ line) →
    EndsBy name (ending.View e) s said after → Behind part line before after.written
behind name e s said after part line before so is (inl (answer, tells, delivers)) = of (part_of answer s said.faults after.faults said.written after.written delivers) where
  of : WritesPart answer.text.items said.written after.written → Behind part line before after.written
  of (k, within, more) = record {
    part = take k answer.text.items;
    prefix = (drop k answer.text.items, sym (is answer tells) ∙ sym (take-append-drop k answer.text.items));
    written = twice before said.written after.written part (take k answer.text.items) so more;
  }
behind name e s said after part line before so is (inr (lack, same)) = record {
  part = [];
  prefix = (line, refl);
  written = ap (λ (o : Output). o.written) same ∙ so ∙ ap (appended before) (sym (append-nil part));
}

refused_prefix : (words : List (List ℕ)) (name : List ℕ) (held : Option Files) (sb sa : ShelfCounts) (n : ℕ) (kb ka : Keys) (b said a : Output) (scene : Option Scene) (e : ViewError) (s : Status) → Session words name → IsTold held name scene →
    ClosedOver scene kb ka b said (ending.View e) → CountsBy (held ≡ None) (ending.View e) sb sa → EndsBy name (ending.View e) s said a →
    WritesPrefix words held kb.left (Faults sb n kb) (Faults sa n ka) b.written a.written
refused_prefix words name held sb sa n kb ka b said a scene view.ReadFault s x told c counts ends =
    let p = behind name view.ReadFault s said a c.said shelf_fault_line b.written (nothing_more b.written said.written c.said c.line c.closes.0 c.written) (λ answer tells. tells.1) ends in
    (c.said ++ p.part, p.written, inr (inl (c.said, shelf_fault_line, p.part, of_shelf c.said (name, x.asks) counts.1 (begins_session words name held kb.left scene c.said x told (part_of_first scene kb.left c.said c.closes.3)), p.prefix, refl)))
refused_prefix words name held sb sa n kb ka b said a scene view.Gone s x told c counts ends =
    let p = behind name view.Gone s said a c.said (absent_line name) b.written (nothing_more b.written said.written c.said c.line c.closes.0 c.written) (λ answer tells. tells.1) ends in
    (c.said ++ p.part, p.written, inr (inr (no_faults sb sa n kb ka counts.1.1 c.closes.1, λ knows. absurd (untold words name held kb.left x counts.1.2 knows))))
refused_prefix words name held sb sa n kb ka b said a scene (view.Changed block kept found) s x told c counts ends =
    let p = behind name (view.Changed block kept found) s said a c.said (changed_line block) b.written (nothing_more b.written said.written c.said c.line c.closes.0 c.written) (λ answer tells. tells.1) ends in
    (c.said ++ p.part, p.written, inr (inr (no_faults sb sa n kb ka counts.1.0 c.closes.1, λ knows. absurd (untold words name held kb.left x counts.1.1 knows))))
refused_prefix words name held sb sa n kb ka b said a scene view.NoMemory s x told c counts ends = absurd (counts.0 refl)

session_prefix : (words : List (List ℕ)) (name : List ℕ) (held : Option Files) (sb sa : ShelfCounts) (n : ℕ) (kb ka : Keys) (b said a : Output) (scene : Option Scene) (e : Ending) (s : Status) → Session words name → IsTold held name scene →
    ClosedOver scene kb ka b said e → CountsBy (held ≡ None) e sb sa → EndsBy name e s said a →
    WritesPrefix words held kb.left (Faults sb n kb) (Faults sa n ka) b.written a.written
session_prefix words name held sb sa n kb ka b said a scene ending.Done s x told c counts ends =
    at_end (λ z o. WritesPrefix words held kb.left (Faults sb n kb) (Faults sa n ka) b.written o.written) s Done said a ends (all_prefix words name held sb sa n kb ka b said scene 0 c.said c.line x counts c.closes.1 told c.closes.3 c.closes.0 c.written)
session_prefix words name held sb sa n kb ka b said a scene ending.LongLine s x told c counts ends =
    at_end (λ z o. WritesPrefix words held kb.left (Faults sb n kb) (Faults sa n ka) b.written o.written) s TooLong said a ends (all_prefix words name held sb sa n kb ka b said scene 8 c.said c.line x counts c.closes.1 told c.closes.3 c.closes.0 c.written)
session_prefix words name held sb sa n kb ka b said a scene ending.LongInput s x told c counts ends =
    at_end (λ z o. WritesPrefix words held kb.left (Faults sb n kb) (Faults sa n ka) b.written o.written) s TooLong said a ends (all_prefix words name held sb sa n kb ka b said scene 8 c.said c.line x counts c.closes.1 told c.closes.3 c.closes.0 c.written)
session_prefix words name held sb sa n kb ka b said a scene ending.KeysFailed s x told c counts ends =
    at_end (λ z o. WritesPrefix words held kb.left (Faults sb n kb) (Faults sa n ka) b.written o.written) s Fault said a ends
    (part_prefix words name held sb sa n kb ka b said b.faults said.faults scene c.said c.line x counts told c.closes.3 (inr (c.closes.1, ([], sym c.closes.0 ∙ sym (append-nil c.line)))) c.written)
session_prefix words name held sb sa n kb ka b said a scene ending.OutFailed s x told c counts ends =
    at_end (λ z o. WritesPrefix words held kb.left (Faults sb n kb) (Faults sa n ka) b.written o.written) s Fault said a ends (part_prefix words name held sb sa n kb ka b said b.faults said.faults scene c.said c.line x counts told c.closes.2 c.closes.0 c.written)
session_prefix words name held sb sa n kb ka b said a scene (ending.View e) s x told c counts ends = refused_prefix words name held sb sa n kb ka b said a scene e s x told c counts ends
session_prefix words name held sb sa n kb ka b said a scene ending.NoMemory s x told c counts ends =
    at_end (λ z o. WritesPrefix words held kb.left (Faults sb n kb) (Faults sa n ka) b.written o.written) s NoMemory said a ends (part_prefix words name held sb sa n kb ka b said b.faults said.faults scene c.said c.line x counts told c.closes.2 c.closes.0 c.written)

appended_none : (o : Option (List ℕ)) → o ≡ appended o []
appended_none None = refl
appended_none (Some text) = ap Some (sym (append-nil text))

pub nothing_prefix : (words : List (List ℕ)) (held : Option Files) (keys : Option (List ℕ)) (old new : Failures) (o : Option (List ℕ)) → WritesPrefix words held keys old new o o
nothing_prefix words held keys old new o = ([], appended_none o, inl refl)

pub explored_prefix : (words : List (List ℕ)) (name : List ℕ) (held : Option Files) (sb sa : ShelfCounts) (n : ℕ) (kb ka : Keys) (b a : Output) (s : Status) → Session words name → Explores held name sb sa kb ka b a s →
    WritesPrefix words held kb.left (Faults sb n kb) (Faults sa n ka) b.written a.written
explored_prefix words name held sb sa n kb ka b a _ x (refused answer s not_done cause any stayed delivers) =
    prefix_of words held kb.left (Faults sb n kb) (Faults sa n ka) b.written a.written answer (ap (λ (k : Keys). k.faults) stayed) (answer_of words name held kb.left sb sa answer n x any) (part_of answer s b.faults a.faults b.written a.written delivers)
explored_prefix words name held sb sa n kb ka b a _ x (opening.session scene e said s told closed reads takes counts ends) = session_prefix words name held sb sa n kb ka b said a scene e s x told closed counts ends
explored_prefix words name held sb sa n kb ka b a _ x (memory stayed kept) = ([], ap (λ (o : Output). o.written) kept ∙ appended_none b.written, inl refl)
