-- What comes of a session, by its status.
use Rattle.std.proofs.Common.{◌≡◌, ◌≢◌, ◌∙◌, sym, ap, refl, subst, inl, inr, ℕ, ◌<◌, ◌⊎◌, List, [], ◌++◌, Option, Some, None, arith}
use Rattle.std.proofs.Math.Logic.{∥∥₁_map}
use Rattle.wy_outside.specs.Counts.{Rose}
use Rattle.wy_outside.specs.Shelf.{Files}
use Rattle.wy_outside.specs.Sink.{appended}
use Rattle.wy_view.specs.declared.view.ViewError.{ViewError}
use Rattle.wy_view.specs.declared.view.ViewError.TheVariants as view
use Rattle.wy_words.specs.Words.{Command as Request, Explore, IsNoCommand, Why, Affects, WhyNot}
use Rattle.wy_session.specs.Scene.{Scene}
use Rattle.wy_session.specs.Closings.{TakesManyFor, TookMany, keys_fault_line}
use Rattle.wy_session.specs.declared.ending.Ending.{Ending}
use Rattle.wy_session.specs.declared.ending.Ending.TheVariants as ending
use Rattle.wy_reply.specs.declared.answer.Answer.{Answer}
use Rattle.wy_reply.specs.declared.status.Status.{Status}
use Rattle.wy_reply.specs.declared.status.Status.TheVariants.{Absent, Done, Fault, NoMemory, TooLong, Trace}
use Rattle.wy_reply.specs.Lines.{shelf_fault_line}
use Rattle.wy_reply.specs.Statuses.{code_of}
use Rattle.wy_reply.specs.Tellings.{Wanted}
use Rattle.wy_reply.specs.Tellings as wanted
use Rattle.wy_record.specs.Recorders.{Mirrors}
use Rattle.wy_record.specs.declared.recorder.Phase.{Phase}
use Rattle.wy_reply.specs.Recordings.{Spelling}
use Rattle.wy_top.specs.Answers.{AsksToExplore}
use Rattle.wy_top.specs.Left.{Finishes, FinishesProgram, Leaves, LeftBy}
use Rattle.wy_top.specs.Call.{AnswersEach, Carries, Cuts, IsOfTrace, ReadsKeysOut, TracedBy, Traces, WritesAll, WritesCarried, WritesCut, WasRefused, WritesFaultLine, WritesLast, WritesRefusal, of_keys, of_shelf}
use Rattle.wy_top.specs.Call as call
use Rattle.wy_top.specs.Deliveries.{Delivers}
use Rattle.wy_top.specs.Openings.{ClosedOver, CountsBy, EndsBy, Explores, Keys, Output, ReadsOver, TellsRefusal, memory, refused}
use Rattle.wy_top.specs.Openings as opening
use Rattle.wy_top.specs.Replies.{ShelfCounts}
use Rattle.wy_top.proofs.Delivered.{delivered_fault, last_line, none_of_0, none_of_7, none_of_8, none_of_9, written_alone, written_last}
use Rattle.wy_top.proofs.Sessions.{Faults, Session, begins_session, keys_read_out, nothing_more, part_of_first, twice}

-- ---- the line of a refusal of a view

-- the status that is due where a view refused; want of memory has none
abbrev refusal_status : ViewError → Status
refusal_status view.ReadFault = Fault
refusal_status view.Gone = Absent
refusal_status (view.Changed block kept found) = Trace
refusal_status view.NoMemory = NoMemory

-- the status of what is written where a view refused
refused_status : (name : List ℕ) (e : ViewError) (answer : Answer) → TellsRefusal name e answer → answer.status ≡ refusal_status e
refused_status name view.ReadFault answer tells = tells.0
refused_status name view.Gone answer tells = tells.0
refused_status name (view.Changed block kept found) answer tells = tells.0
refused_status name view.NoMemory answer tells = absurd tells

-- all of the line is written, or the output failed or memory ran out
data Ended (name : List ℕ) (e : ViewError) (s : Status) (said after : Output) : Type 0 where
  written : (answer : Answer) → TellsRefusal name e answer → s ≡ answer.status → s ≡ refusal_status e → after.faults ≡ said.faults → after.written ≡ appended said.written answer.text.items → Ended name e s said after
  failed : s ≡ Fault → Rose said.faults after.faults → Ended name e s said after
  lacking : s ≡ NoMemory → after.faults ≡ said.faults → Ended name e s said after

ended : (name : List ℕ) (e : ViewError) (s : Status) (said after : Output) → EndsBy name (ending.View e) s said after → Ended name e s said after
ended name e s said after (inl (answer, tells, inl (same, kept, all))) = written answer tells same (same ∙ refused_status name e answer tells) kept all
ended name e s said after (inl (answer, tells, inr (inl (fault, rose, part)))) = failed fault rose
ended name e s said after (inl (answer, tells, inr (inr (lack, kept, part)))) = lacking lack kept
ended name e s said after (inr (lack, same)) = lacking lack (ap (λ (o : Output). o.faults) same)

undone : (name : List ℕ) (e : ViewError) (s : Status) (said after : Output) → Ended name e s said after → s ≡ Done → ⊥
undone name view.ReadFault s said after (written answer tells same is kept all) done = let z = sym is ∙ done in cc
undone name view.Gone s said after (written answer tells same is kept all) done = let z = sym is ∙ done in cc
undone name (view.Changed block first second) s said after (written answer tells same is kept all) done = let z = sym is ∙ done in cc
undone name view.NoMemory s said after (written answer tells same is kept all) done = let z = sym is ∙ done in cc
undone name e s said after (failed fault rose) done = let z = sym fault ∙ done in cc
undone name e s said after (lacking lack kept) done = let z = sym lack ∙ done in cc

not_long : (name : List ℕ) (e : ViewError) (s : Status) (said after : Output) → Ended name e s said after → s ≡ TooLong → ⊥
not_long name view.ReadFault s said after (written answer tells same is kept all) long = let z = sym is ∙ long in cc
not_long name view.Gone s said after (written answer tells same is kept all) long = let z = sym is ∙ long in cc
not_long name (view.Changed block first second) s said after (written answer tells same is kept all) long = let z = sym is ∙ long in cc
not_long name view.NoMemory s said after (written answer tells same is kept all) long = let z = sym is ∙ long in cc
not_long name e s said after (failed fault rose) long = let z = sym fault ∙ long in cc
not_long name e s said after (lacking lack kept) long = let z = sym lack ∙ long in cc

-- ---- what a fault comes to

pub explored_shelf_fault : (held : Option Files) (name : List ℕ) (sb sa : ShelfCounts) (kb ka : Keys) (b a : Output) (s : Status) → Explores held name sb sa kb ka b a s → sb.faults < sa.faults → (code_of s ≡ 7) ⊎ (code_of s ≡ 9)
explored_shelf_fault held name sb sa kb ka b a _ (refused answer s not_done cause (inl (fault, line, rose)) stayed delivers) less = delivered_fault answer s b.faults a.faults b.written a.written delivers fault
explored_shelf_fault held name sb sa kb ka b a _ (refused answer s not_done cause (inr (same, un, dues)) stayed delivers) less = absurd (omega (arith, less, same))
explored_shelf_fault held name sb sa kb ka b a _ (opening.session scene e said s told closed reads takes counts ends) less = of e counts ends where
  of : (e : Ending) → CountsBy (held ≡ None) e sb sa → EndsBy name e s said a → (code_of s ≡ 7) ⊎ (code_of s ≡ 9)
  of ending.Done counts ends = absurd (omega (arith, less, counts))
  of ending.LongLine counts ends = absurd (omega (arith, less, counts))
  of ending.LongInput counts ends = absurd (omega (arith, less, counts))
  of ending.KeysFailed counts ends = absurd (omega (arith, less, counts))
  of ending.OutFailed counts ends = absurd (omega (arith, less, counts))
  of ending.NoMemory counts ends = absurd (omega (arith, less, counts))
  of (ending.View view.ReadFault) counts ends = fault_code (ended name view.ReadFault s said a ends) where
    fault_code : Ended name view.ReadFault s said a → (code_of s ≡ 7) ⊎ (code_of s ≡ 9)
    fault_code (written answer tells same is kept all) = inl (ap code_of is)
    fault_code (failed fault rose) = inl (ap code_of fault)
    fault_code (lacking lack kept) = inr (ap code_of lack)
  of (ending.View view.Gone) counts ends = absurd (omega (arith, less, counts.1.1))
  of (ending.View (view.Changed block kept found)) counts ends = absurd (omega (arith, less, counts.1.0))
  of (ending.View view.NoMemory) counts ends = absurd (counts.0 refl)
explored_shelf_fault held name sb sa kb ka b a _ (memory stayed kept) less = inr refl

-- where the output failed behind what was said, it failed in all
out_rose : (scene : Option Scene) (kb ka : Keys) (b said a : Output) (e : ViewError) → ClosedOver scene kb ka b said (ending.View e) → Rose said.faults a.faults → Rose b.faults a.faults
out_rose scene kb ka b said a e c rose = subst (λ (n : ℕ). Rose n a.faults) c.closes.2 rose

pub explored_out_fault : (held : Option Files) (name : List ℕ) (sb sa : ShelfCounts) (kb ka : Keys) (b a : Output) (s : Status) → Explores held name sb sa kb ka b a s → b.faults < a.faults → (code_of s ≡ 7) ⊎ (code_of s ≡ 9)
explored_out_fault held name sb sa kb ka b a _ (refused answer s not_done cause any stayed (inl (as_answered, kept, all))) less = absurd (omega (arith, less, kept))
explored_out_fault held name sb sa kb ka b a _ (refused answer s not_done cause any stayed (inr (inl (fault, rose, part)))) less = inl (ap code_of fault)
explored_out_fault held name sb sa kb ka b a _ (refused answer s not_done cause any stayed (inr (inr (lack, kept, part)))) less = inr (ap code_of lack)
explored_out_fault held name sb sa kb ka b a _ (opening.session scene e said s told closed reads takes counts ends) less = of e closed ends where
  stayed : (a ≡ said) → said.faults ≡ b.faults → ⊥
  stayed same kept = absurd (omega (arith, less, ap (λ (o : Output). o.faults) same, kept))

  of : (e : Ending) → ClosedOver scene kb ka b said e → EndsBy name e s said a → (code_of s ≡ 7) ⊎ (code_of s ≡ 9)
  of ending.Done c ends = absurd (stayed ends.1 c.closes.2)
  of ending.LongLine c ends = absurd (stayed ends.1 c.closes.2)
  of ending.LongInput c ends = absurd (stayed ends.1 c.closes.2)
  of ending.KeysFailed c ends = inl (ap code_of ends.0)
  of ending.OutFailed c ends = inl (ap code_of ends.0)
  of ending.NoMemory c ends = inr (ap code_of ends.0)
  of (ending.View e) c ends = by (ended name e s said a ends) where
    by : Ended name e s said a → (code_of s ≡ 7) ⊎ (code_of s ≡ 9)
    by (written answer tells same is kept all) = absurd (omega (arith, less, kept, c.closes.2))
    by (failed fault rose) = inl (ap code_of fault)
    by (lacking lack kept) = inr (ap code_of lack)
explored_out_fault held name sb sa kb ka b a _ (memory stayed kept) less = inr refl

pub explored_keys_fault : (held : Option Files) (name : List ℕ) (sb sa : ShelfCounts) (kb ka : Keys) (b a : Output) (s : Status) → Explores held name sb sa kb ka b a s → kb.faults < ka.faults → (code_of s ≡ 7) ⊎ (code_of s ≡ 9)
explored_keys_fault held name sb sa kb ka b a _ (refused answer s not_done cause any stayed delivers) less = absurd (omega (arith, less, ap (λ (k : Keys). k.faults) stayed))
explored_keys_fault held name sb sa kb ka b a _ (opening.session scene e said s told closed reads takes counts ends) less = of e closed ends where
  of : (e : Ending) → ClosedOver scene kb ka b said e → EndsBy name e s said a → (code_of s ≡ 7) ⊎ (code_of s ≡ 9)
  of ending.Done c ends = absurd (omega (arith, less, c.closes.1))
  of ending.LongLine c ends = absurd (omega (arith, less, c.closes.1))
  of ending.LongInput c ends = absurd (omega (arith, less, c.closes.1))
  of ending.KeysFailed c ends = inl (ap code_of ends.0)
  of ending.OutFailed c ends = inl (ap code_of ends.0)
  of ending.NoMemory c ends = inr (ap code_of ends.0)
  of (ending.View e) c ends = absurd (omega (arith, less, c.closes.1))
explored_keys_fault held name sb sa kb ka b a _ (memory stayed kept) less = inr refl

-- ---- the line of a fault

pub explored_fault_line : (words : List (List ℕ)) (name : List ℕ) (held : Option Files) (sb sa : ShelfCounts) (n : ℕ) (kb ka : Keys) (b a : Output) (s : Status) → Session words name → Explores held name sb sa kb ka b a s → s ≡ Fault → ¬ Rose b.faults a.faults →
    WritesFaultLine words held kb.left (Faults sb n kb) (Faults sa n ka) b.written a.written
explored_fault_line words name held sb sa n kb ka b a _ x (refused answer s not_done cause (inl (fault, line, rose)) stayed (inl (as_answered, kept, all))) is out = ([], answer.text.items, call.alone answer.text.items (inl (line, rose)), all)
explored_fault_line words name held sb sa n kb ka b a _ x (refused answer s not_done cause (inr (same, un, dues)) stayed (inl (as_answered, kept, all))) is out = absurd (un (sym as_answered ∙ is))
explored_fault_line words name held sb sa n kb ka b a _ x (refused answer s not_done cause any stayed (inr (inl (fault, rose, part)))) is out = absurd (out rose)
explored_fault_line words name held sb sa n kb ka b a _ x (refused answer s not_done cause any stayed (inr (inr (lack, kept, part)))) is out = absurd (let e = sym lack ∙ is in cc)
explored_fault_line words name held sb sa n kb ka b a _ x (opening.session scene e said s told closed reads takes counts ends) is out = of e closed counts ends where
  of : (e : Ending) → ClosedOver scene kb ka b said e → CountsBy (held ≡ None) e sb sa → EndsBy name e s said a → WritesFaultLine words held kb.left (Faults sb n kb) (Faults sa n ka) b.written a.written
  of ending.Done c counts ends = absurd (let z = sym ends.0 ∙ is in cc)
  of ending.LongLine c counts ends = absurd (let z = sym ends.0 ∙ is in cc)
  of ending.LongInput c counts ends = absurd (let z = sym ends.0 ∙ is in cc)
  of ending.KeysFailed c counts ends = (
    c.said,
    keys_fault_line,
    of_keys c.said (name, x.asks) c.closes.1 (begins_session words name held kb.left scene c.said x told c.closes.3),
    ap (λ (o : Output). o.written) ends.1 ∙ c.written ∙ ap (λ (l : List ℕ). appended b.written (c.said ++ l)) c.closes.0,
  )
  of ending.OutFailed c counts ends = absurd (out (subst (λ (o : Output). Rose b.faults o.faults) (sym ends.1) c.closes.1))
  of ending.NoMemory c counts ends = absurd (let z = sym ends.0 ∙ is in cc)
  of (ending.View e) c counts ends = by e c counts (ended name e s said a ends) where
    by : (e : ViewError) → ClosedOver scene kb ka b said (ending.View e) → CountsBy (held ≡ None) (ending.View e) sb sa → Ended name e s said a → WritesFaultLine words held kb.left (Faults sb n kb) (Faults sa n ka) b.written a.written
    by view.ReadFault c counts (written answer tells same shown kept all) = (
      c.said,
      shelf_fault_line,
      of_shelf c.said (name, x.asks) counts.1 (begins_session words name held kb.left scene c.said x told (part_of_first scene kb.left c.said c.closes.3)),
      twice b.written said.written a.written c.said shelf_fault_line (nothing_more b.written said.written c.said c.line c.closes.0 c.written) (all ∙ ap (appended said.written) tells.1),
    )
    by view.Gone c counts (written answer tells same shown kept all) = absurd (let z = sym shown ∙ is in cc)
    by (view.Changed block first second) c counts (written answer tells same shown kept all) = absurd (let z = sym shown ∙ is in cc)
    by view.NoMemory c counts (written answer tells same shown kept all) = absurd (counts.0 refl)
    by e c counts (failed fault rose) = absurd (out (out_rose scene kb ka b said a e c rose))
    by e c counts (lacking lack kept) = absurd (let z = sym lack ∙ is in cc)
explored_fault_line words name held sb sa n kb ka b a _ x (memory stayed kept) is out = absurd cc

-- ---- other commands

delivered_all : (answer : Answer) (s : Status) (n m : ℕ) (before after : Option (List ℕ)) → Delivers answer s n m before after → s ≡ Done → after ≡ appended before answer.text.items
delivered_all answer s n m before after (inl (as_answered, kept, all)) is = all
delivered_all answer s n m before after (inr (inl (fault, rose, part))) is = absurd (let e = sym fault ∙ is in cc)
delivered_all answer s n m before after (inr (inr (lack, kept, part))) is = absurd (let e = sym lack ∙ is in cc)

each_none : (command : List ℕ → List ℕ → Request) (w : List ℕ → Wanted) → ((name trace word : List ℕ) → Explore name ≡ command trace word → ⊥) → (words : List (List ℕ)) (name : List ℕ) (held : Option Files) (text : List ℕ) → Session words name →
    AnswersEach command w words held text
each_none command w other words name held text x = λ trace word asks. absurd (other name trace word (x.one words (Explore name) (command trace word) x.asks asks))

session_so : (is_so : List ℕ → Type 0) → ((text : List ℕ) → is_so text) → (name : List ℕ) (kb ka : Keys) (b said a : Output) (scene : Option Scene) (e : Ending) (s : Status) → ClosedOver scene kb ka b said e → EndsBy name e s said a → s ≡ Done → WritesAll is_so b.written a.written
session_so is_so any name kb ka b said a scene ending.Done s c ends is = (c.said ++ c.line, ap (λ (o : Output). o.written) ends.1 ∙ c.written, any (c.said ++ c.line))
session_so is_so any name kb ka b said a scene ending.LongLine s c ends is = absurd (let e = sym ends.0 ∙ is in cc)
session_so is_so any name kb ka b said a scene ending.LongInput s c ends is = absurd (let e = sym ends.0 ∙ is in cc)
session_so is_so any name kb ka b said a scene ending.KeysFailed s c ends is = absurd (let e = sym ends.0 ∙ is in cc)
session_so is_so any name kb ka b said a scene ending.OutFailed s c ends is = absurd (let e = sym ends.0 ∙ is in cc)
session_so is_so any name kb ka b said a scene ending.NoMemory s c ends is = absurd (let e = sym ends.0 ∙ is in cc)
session_so is_so any name kb ka b said a scene (ending.View e) s c ends is = absurd (undone name e s said a (ended name e s said a ends) is)

-- what a session wrote answers no why, no affects and no whynot of the words
explored_so : (is_so : List ℕ → Type 0) → ((text : List ℕ) → is_so text) → (words : List (List ℕ)) (name : List ℕ) (held : Option Files) (sb sa : ShelfCounts) (kb ka : Keys) (b a : Output) (s : Status) → Explores held name sb sa kb ka b a s → s ≡ Done →
    WritesAll is_so b.written a.written
explored_so is_so any words name held sb sa kb ka b a _ (refused answer s not_done cause other stayed delivers) is = (answer.text.items, delivered_all answer s b.faults a.faults b.written a.written delivers is, any answer.text.items)
explored_so is_so any words name held sb sa kb ka b a _ (opening.session scene e said s told closed reads takes counts ends) is = session_so is_so any name kb ka b said a scene e s closed ends is
explored_so is_so any words name held sb sa kb ka b a _ (memory stayed kept) is = absurd cc

pub explored_carried : (words : List (List ℕ)) (name : List ℕ) (held : Option Files) (sb sa : ShelfCounts) (kb ka : Keys) (b a : Output) (s : Status) → Session words name → Explores held name sb sa kb ka b a s → s ≡ Done → WritesCarried words held b.written a.written
explored_carried words name held sb sa kb ka b a s x explores is = explored_so (Carries words held) (λ text. (each_none Why wanted.Why (λ n t q e. cc) words name held text x, each_none Affects wanted.Affects (λ n t q e. cc) words name held text x)) words name held sb sa kb ka b a s explores is

pub explored_cut : (words : List (List ℕ)) (name : List ℕ) (held : Option Files) (sb sa : ShelfCounts) (kb ka : Keys) (b a : Output) (s : Status) → Session words name → Explores held name sb sa kb ka b a s → s ≡ Done → WritesCut words held b.written a.written
explored_cut words name held sb sa kb ka b a s x explores is = explored_so (Cuts words held) (λ text. each_none WhyNot wanted.WhyNot (λ n t q e. cc) words name held text x) words name held sb sa kb ka b a s explores is

-- ---- what was read of the keys

pub explored_reads_out : (words : List (List ℕ)) (name : List ℕ) (held : Option Files) (sb sa : ShelfCounts) (kb ka : Keys) (b a : Output) (s : Status) → Session words name → Explores held name sb sa kb ka b a s → s ≡ Done → ReadsKeysOut words held kb.left ka.left
explored_reads_out words name held sb sa kb ka b a _ x (refused answer s not_done cause any stayed (inl (as_answered, kept, all))) is = absurd (not_done (sym as_answered ∙ is))
explored_reads_out words name held sb sa kb ka b a _ x (refused answer s not_done cause any stayed (inr (inl (fault, rose, part)))) is = absurd (let e = sym fault ∙ is in cc)
explored_reads_out words name held sb sa kb ka b a _ x (refused answer s not_done cause any stayed (inr (inr (lack, kept, part)))) is = absurd (let e = sym lack ∙ is in cc)
explored_reads_out words name held sb sa kb ka b a _ x (opening.session scene e said s told closed reads takes counts ends) is = of e reads ends where
  of : (e : Ending) → ReadsOver scene kb.left ka.left e → EndsBy name e s said a → ReadsKeysOut words held kb.left ka.left
  of ending.Done reads ends = keys_read_out words name held kb.left ka.left scene x told reads
  of ending.LongLine reads ends = absurd (let z = sym ends.0 ∙ is in cc)
  of ending.LongInput reads ends = absurd (let z = sym ends.0 ∙ is in cc)
  of ending.KeysFailed reads ends = absurd (let z = sym ends.0 ∙ is in cc)
  of ending.OutFailed reads ends = absurd (let z = sym ends.0 ∙ is in cc)
  of ending.NoMemory reads ends = absurd (let z = sym ends.0 ∙ is in cc)
  of (ending.View e) reads ends = absurd (undone name e s said a (ended name e s said a ends) is)
explored_reads_out words name held sb sa kb ka b a _ x (memory stayed kept) is = absurd cc

-- ---- statuses and their causes

pub explored_too_long : (words : List (List ℕ)) (name : List ℕ) (held : Option Files) (sb sa : ShelfCounts) (kb ka : Keys) (b a : Output) (s : Status) → Session words name → Explores held name sb sa kb ka b a s → s ≡ TooLong →
    Rose sb.fulls sa.fulls ⊎ (AsksToExplore words × TookMany kb.taken ka.taken)
explored_too_long words name held sb sa kb ka b a _ x (refused answer s not_done cause any stayed (inl (same, kept, all))) is = inl (cause.too_long (sym same ∙ is))
explored_too_long words name held sb sa kb ka b a _ x (refused answer s not_done cause any stayed (inr (inl (fault, rose, part)))) is = absurd (let e = sym fault ∙ is in cc)
explored_too_long words name held sb sa kb ka b a _ x (refused answer s not_done cause any stayed (inr (inr (lack, kept, part)))) is = absurd (let e = sym lack ∙ is in cc)
explored_too_long words name held sb sa kb ka b a _ x (opening.session scene e said s told closed reads takes counts ends) is = of e takes ends where
  of : (e : Ending) → TakesManyFor e kb.taken ka.taken → EndsBy name e s said a → Rose sb.fulls sa.fulls ⊎ (AsksToExplore words × TookMany kb.taken ka.taken)
  of ending.Done takes ends = absurd (let z = sym ends.0 ∙ is in cc)
  of ending.LongLine takes ends = inr ((name, x.asks), takes)
  of ending.LongInput takes ends = inr ((name, x.asks), takes)
  of ending.KeysFailed takes ends = absurd (let z = sym ends.0 ∙ is in cc)
  of ending.OutFailed takes ends = absurd (let z = sym ends.0 ∙ is in cc)
  of ending.NoMemory takes ends = absurd (let z = sym ends.0 ∙ is in cc)
  of (ending.View e) takes ends = absurd (not_long name e s said a (ended name e s said a ends) is)
explored_too_long words name held sb sa kb ka b a _ x (memory stayed kept) is = absurd cc

pub explored_alone : (words : List (List ℕ)) (name : List ℕ) (held : Option Files) (sb sa : ShelfCounts) (kb ka : Keys) (b a : Output) (s : Status) (code : ℕ) → Session words name → Explores held name sb sa kb ka b a s →
    code ≡ code_of s → WasRefused words held code → ¬ Rose b.faults a.faults → ∥ WritesRefusal code b.written a.written ∥₁
explored_alone words name held sb sa kb ka b a _ code x (refused answer s not_done cause any stayed delivers) is was out = written_alone b.faults a.faults b.written a.written answer s code delivers is was.0 was.1 out
explored_alone words name held sb sa kb ka b a _ code x (opening.session scene e said s told closed reads takes counts ends) is was out = absurd (of e closed counts ends) where
  session_ends : code ≢ 7
  session_ends = (was.2 (name, x.asks)).0

  of : (e : Ending) → ClosedOver scene kb ka b said e → CountsBy (held ≡ None) e sb sa → EndsBy name e s said a → ⊥
  of ending.Done c counts ends = was.0 (is ∙ ap code_of ends.0)
  of ending.LongLine c counts ends = (was.2 (name, x.asks)).1 (is ∙ ap code_of ends.0)
  of ending.LongInput c counts ends = (was.2 (name, x.asks)).1 (is ∙ ap code_of ends.0)
  of ending.KeysFailed c counts ends = session_ends (is ∙ ap code_of ends.0)
  of ending.OutFailed c counts ends = session_ends (is ∙ ap code_of ends.0)
  of ending.NoMemory c counts ends = was.1 (is ∙ ap code_of ends.0)
  of (ending.View e) c counts ends = by (ended name e s said a ends) where
    at : (e : ViewError) → CountsBy (held ≡ None) (ending.View e) sb sa → s ≡ refusal_status e → ⊥
    at view.ReadFault counts same = session_ends (is ∙ ap code_of same)
    at view.Gone counts same = ((was.2 (name, x.asks)).2 counts.1.2).0 (is ∙ ap code_of same)
    at (view.Changed block kept found) counts same = ((was.2 (name, x.asks)).2 counts.1.1).1 (is ∙ ap code_of same)
    at view.NoMemory counts same = counts.0 refl

    by : Ended name e s said a → ⊥
    by (written answer tells same shown kept all) = at e counts shown
    by (failed fault rose) = out (out_rose scene kb ka b said a e c rose)
    by (lacking lack kept) = was.1 (is ∙ ap code_of lack)
explored_alone words name held sb sa kb ka b a _ code x (memory stayed kept) is was out = absurd (was.1 is)

pub explored_last : (name : List ℕ) (held : Option Files) (sb sa : ShelfCounts) (kb ka : Keys) (b a : Output) (s : Status) (code : ℕ) → Explores held name sb sa kb ka b a s →
    code ≡ code_of s → IsOfTrace code → ¬ Rose b.faults a.faults → ∥ WritesLast code b.written a.written ∥₁
explored_last name held sb sa kb ka b a _ code (refused answer s not_done cause any stayed delivers) is of_trace out = written_last b.faults a.faults b.written a.written answer s code delivers is of_trace out
explored_last name held sb sa kb ka b a _ code (opening.session scene e said s told closed reads takes counts ends) is of_trace out = of e closed ends where
  other : (z : Status) → (IsOfTrace (code_of z) → ⊥) → s ≡ z → ⊥
  other z not same = not (subst IsOfTrace (is ∙ ap code_of same) of_trace)

  of : (e : Ending) → ClosedOver scene kb ka b said e → EndsBy name e s said a → ∥ WritesLast code b.written a.written ∥₁
  of ending.Done c ends = absurd (other Done none_of_0 ends.0)
  of ending.LongLine c ends = absurd (other TooLong none_of_8 ends.0)
  of ending.LongInput c ends = absurd (other TooLong none_of_8 ends.0)
  of ending.KeysFailed c ends = absurd (other Fault none_of_7 ends.0)
  of ending.OutFailed c ends = absurd (other Fault none_of_7 ends.0)
  of ending.NoMemory c ends = absurd (other NoMemory none_of_9 ends.0)
  of (ending.View e) c ends = by (ended name e s said a ends) where
    by : Ended name e s said a → ∥ WritesLast code b.written a.written ∥₁
    by (written answer tells same shown kept all) =
        ∥∥₁_map answer.line (last_line b.written a.written answer code c.said (is ∙ ap code_of same) of_trace
        (twice b.written said.written a.written c.said answer.text.items (nothing_more b.written said.written c.said c.line c.closes.0 c.written) all))
    by (failed fault rose) = absurd (out (out_rose scene kb ka b said a e c rose))
    by (lacking lack kept) = absurd (other NoMemory none_of_9 lack)
explored_last name held sb sa kb ka b a _ code (memory stayed kept) is of_trace out = absurd (none_of_9 (subst IsOfTrace is of_trace))

pub explored_fault : (X : Type 0) (words : List (List ℕ)) (name : List ℕ) (held : Option Files) (sb sa : ShelfCounts) (kb ka : Keys) (b a : Output) (s : Status) → Session words name → Explores held name sb sa kb ka b a s → s ≡ Fault →
    Rose sb.faults sa.faults ⊎ X ⊎ Rose b.faults a.faults ⊎ (AsksToExplore words × Rose kb.faults ka.faults)
explored_fault X words name held sb sa kb ka b a _ x (refused answer s not_done cause (inl (fault, line, rose)) stayed (inl (same, kept, all))) is = inl rose
explored_fault X words name held sb sa kb ka b a _ x (refused answer s not_done cause (inr (counts, un, dues)) stayed (inl (same, kept, all))) is = absurd (un (sym same ∙ is))
explored_fault X words name held sb sa kb ka b a _ x (refused answer s not_done cause any stayed (inr (inl (fault, rose, part)))) is = inr (inr (inl rose))
explored_fault X words name held sb sa kb ka b a _ x (refused answer s not_done cause any stayed (inr (inr (lack, kept, part)))) is = absurd (let e = sym lack ∙ is in cc)
explored_fault X words name held sb sa kb ka b a _ x (opening.session scene e said s told closed reads takes counts ends) is = of e closed counts ends where
  of : (e : Ending) → ClosedOver scene kb ka b said e → CountsBy (held ≡ None) e sb sa → EndsBy name e s said a → Rose sb.faults sa.faults ⊎ X ⊎ Rose b.faults a.faults ⊎ (AsksToExplore words × Rose kb.faults ka.faults)
  of ending.Done c counts ends = absurd (let z = sym ends.0 ∙ is in cc)
  of ending.LongLine c counts ends = absurd (let z = sym ends.0 ∙ is in cc)
  of ending.LongInput c counts ends = absurd (let z = sym ends.0 ∙ is in cc)
  of ending.KeysFailed c counts ends = inr (inr (inr ((name, x.asks), c.closes.1)))
  of ending.OutFailed c counts ends = inr (inr (inl (subst (λ (o : Output). Rose b.faults o.faults) (sym ends.1) c.closes.1)))
  of ending.NoMemory c counts ends = absurd (let z = sym ends.0 ∙ is in cc)
  of (ending.View e) c counts ends = by (ended name e s said a ends) where
    at : (e : ViewError) → CountsBy (held ≡ None) (ending.View e) sb sa → s ≡ refusal_status e → Rose sb.faults sa.faults ⊎ X ⊎ Rose b.faults a.faults ⊎ (AsksToExplore words × Rose kb.faults ka.faults)
    at view.ReadFault counts same = inl counts.1
    at view.Gone counts same = absurd (let z = sym same ∙ is in cc)
    at (view.Changed block kept found) counts same = absurd (let z = sym same ∙ is in cc)
    at view.NoMemory counts same = absurd (counts.0 refl)

    by : Ended name e s said a → Rose sb.faults sa.faults ⊎ X ⊎ Rose b.faults a.faults ⊎ (AsksToExplore words × Rose kb.faults ka.faults)
    by (written answer tells same shown kept all) = at e counts shown
    by (failed fault rose) = inr (inr (inl (out_rose scene kb ka b said a e c rose)))
    by (lacking lack kept) = absurd (let z = sym lack ∙ is in cc)
explored_fault X words name held sb sa kb ka b a _ x (memory stayed kept) is = absurd cc

pub explored_absent : (name : List ℕ) (held : Option Files) (sb sa : ShelfCounts) (kb ka : Keys) (b a : Output) (s : Status) → Explores held name sb sa kb ka b a s → s ≡ Absent → Rose sb.misses sa.misses
explored_absent name held sb sa kb ka b a _ (refused answer s not_done cause any stayed (inl (same, kept, all))) is = cause.absent (sym same ∙ is)
explored_absent name held sb sa kb ka b a _ (refused answer s not_done cause any stayed (inr (inl (fault, rose, part)))) is = absurd (let e = sym fault ∙ is in cc)
explored_absent name held sb sa kb ka b a _ (refused answer s not_done cause any stayed (inr (inr (lack, kept, part)))) is = absurd (let e = sym lack ∙ is in cc)
explored_absent name held sb sa kb ka b a _ (opening.session scene e said s told closed reads takes counts ends) is = of e counts ends where
  of : (e : Ending) → CountsBy (held ≡ None) e sb sa → EndsBy name e s said a → Rose sb.misses sa.misses
  of ending.Done counts ends = absurd (let z = sym ends.0 ∙ is in cc)
  of ending.LongLine counts ends = absurd (let z = sym ends.0 ∙ is in cc)
  of ending.LongInput counts ends = absurd (let z = sym ends.0 ∙ is in cc)
  of ending.KeysFailed counts ends = absurd (let z = sym ends.0 ∙ is in cc)
  of ending.OutFailed counts ends = absurd (let z = sym ends.0 ∙ is in cc)
  of ending.NoMemory counts ends = absurd (let z = sym ends.0 ∙ is in cc)
  of (ending.View e) counts ends = by (ended name e s said a ends) where
    at : (e : ViewError) → CountsBy (held ≡ None) (ending.View e) sb sa → s ≡ refusal_status e → Rose sb.misses sa.misses
    at view.ReadFault counts same = absurd (let z = sym same ∙ is in cc)
    at view.Gone counts same = counts.1.0
    at (view.Changed block kept found) counts same = absurd (let z = sym same ∙ is in cc)
    at view.NoMemory counts same = absurd (counts.0 refl)

    by : Ended name e s said a → Rose sb.misses sa.misses
    by (written answer tells same shown kept all) = at e counts shown
    by (failed fault rose) = absurd (let z = sym fault ∙ is in cc)
    by (lacking lack kept) = absurd (let z = sym lack ∙ is in cc)
explored_absent name held sb sa kb ka b a _ (memory stayed kept) is = absurd cc

-- ---- what words that ask for a session don't ask

pub explored_traces : (s : Spelling) (words : List (List ℕ)) (name : List ℕ) (held : Option Files) (old new : Mirrors) → Session words name → Traces s words held old new
explored_traces s words name held old new x = λ c files also told. subst (λ (z : Request). TracedBy s files z old new) (x.one words (Explore name) c x.asks also) tt

pub explored_leaves : (s : Spelling) (words : List (List ℕ)) (name : List ℕ) (held : Option Files) (at : Phase) (old new : Mirrors) → Session words name → Leaves s words held at old new
explored_leaves s words name held at old new x = λ c files also told. subst (λ (z : Request). LeftBy s files z at old new) (x.one words (Explore name) c x.asks also) tt

pub is_command : (words : List (List ℕ)) (name : List ℕ) → Session words name → ¬ IsNoCommand words
is_command words name x none = none (Explore name) x.asks

pub is_session : (words : List (List ℕ)) (name : List ℕ) → Session words name → AsksToExplore words
is_session words name x = (name, x.asks)

pub explored_finishes : (words : List (List ℕ)) (name : List ℕ) (held : Option Files) (at : Phase) → Session words name → FinishesProgram words held at
explored_finishes words name held at x = λ c also. subst (λ (z : Request). Finishes z held at) (x.one words (Explore name) c x.asks also) tt
