-- What is answered to a migration, and what it leaves in the mirrors of its recorder, from what the opening of its trace gave.
use Rattle.std.proofs.Common.{◌≡◌, ◌∙◌, sym, ap, subst, refl, inl, inr, ℕ, List, [], length, map, Option, Some, None, Result, Ok, Err, IfOk}
use Rattle.std.specs.declared.alloc.AllocError.{AllocError}
use Rattle.wy_kernel.specs.declared.program.Program as memory
use Rattle.wy_event.specs.Record.{recorded}
use Rattle.wy_event.specs.declared.record.Trace.{Trace}
use Rattle.wy_outside.specs.Counts.{Rose}
use Rattle.wy_outside.specs.Shelf.{Files}
use Rattle.wy_record.specs.declared.recorder.Phase.{Phase}
use Rattle.wy_record.specs.declared.recorder.Phase.TheVariants as phase
use Rattle.wy_record.specs.Recorders.{Mirrors}
use Rattle.wy_reply.specs.declared.answer.Answer.{Answer}
use Rattle.wy_reply.specs.declared.status.Status.TheVariants as status
use Rattle.wy_reply.specs.Lines.{migrated_line}
use Rattle.wy_reply.specs.Migrations.{HoldAnewByPhase, MigratesAs}
use Rattle.wy_reply.specs.Recordings.{Spelling}
use Rattle.wy_reply.specs.Statuses.{code_of}
use Rattle.wy_reply.specs.Tellings as wanted
use Rattle.wy_top.specs.Answers.{counts}
use Rattle.wy_top.specs.Call.{IsOpened, Rewritten}
use Rattle.wy_top.specs.Due.{DueForTrace}
use Rattle.wy_top.specs.Due as due
use Rattle.wy_top.specs.Left.{FinishesTrace, IsSettled, LeavesAnew, LeftAnew, StartsNone}
use Rattle.wy_top.specs.Openings.{AnswersAny}
use Rattle.wy_top.specs.Replies.{AnswersBy, at_shelf}
use Rattle.wy_top.specs.Rewritten.{SealedTracesAreMigrated}
use Rattle.wy_top.proofs.Delivered.{done_at}
use Rattle.wy_top.proofs.LeftLemmas.{anew_untouched, not_done, not_fault}

migrated_due : (files : Files) (name : List ℕ) (p : memory.Program) (t : Trace) → IsOpened files name p t → DueForTrace files name wanted.Migrate 0 (migrated_line (length (map recorded t.events)))
migrated_due files name p t o =
    let line = migrated_line (length (map recorded t.events)) in
    due.read o.bytes 0 line o.holds (due.program o.head o.end o.version p 0 line o.is_head o.is_program (wanted.told t 0 line o.is_read wanted.migrated))

anew_left : (s : Spelling) (files : Files) (name : List ℕ) (p : memory.Program) (t : Trace) (at : Phase) (old new : Mirrors) → IsOpened files name p t → HoldAnewByPhase s t at old new → LeftAnew s files name at old new
anew_left s files name p t phase.Ready old new o holds = holds
anew_left s files name p t phase.Recording old new o holds = record { program = p; trace = t; opened = o; held = holds }
anew_left s files name p t phase.Done old new o holds = record { program = p; trace = t; opened = o; held = holds }
anew_left s files name p t phase.Failed old new o holds = record { program = p; trace = t; opened = o; held = holds }

-- ---- a trace that was opened

module _ (s : Spelling) (held : Option Files) (name : List ℕ) (p : memory.Program) (t : Trace) (opened : (files : Files) → held ≡ Some files → IsOpened files name p t) (old new : Mirrors) where
  pub migration_due : (n m k l : ℕ) (r : Result Answer AllocError) → m ≡ n → IfOk r (λ answer. MigratesAs s t old new k l answer)
      → IfOk r (λ answer. AnswersBy (λ files. DueForTrace files name wanted.Migrate) held (counts n k) (counts m l) answer)
  migration_due n m k l (Err e) same is = tt
  migration_due n m k l (Ok answer) same (inl (fault, line, rose)) = inl (fault, inr (line, inl rose))
  migration_due n m k l (Ok answer) same (inr (done, text, holds, kept)) =
      inr (λ i. counts (same i) (kept i), (λ is. absurd (let x = sym done ∙ is in cc)), λ files told. rw (done, text) (migrated_due files name p t (opened files told)))

  pub migration_traced : (k l : ℕ) (r : Result Answer AllocError) → IfOk r (λ answer. MigratesAs s t old new k l answer)
      → IfOk r (λ answer. answer.status ≡ status.Done → (files : Files) → held ≡ Some files → Rewritten s files name old new)
  migration_traced k l (Err e) is = tt
  migration_traced k l (Ok answer) (inl (fault, line, rose)) = λ done. absurd (let x = sym fault ∙ done in cc)
  migration_traced k l (Ok answer) (inr (done, text, holds, kept)) = λ _ files told. record { program = p; trace = t; opened = opened files told; held = holds }

  pub migration_left : (at : Phase) → HoldAnewByPhase s t at old new → (files : Files) → held ≡ Some files → LeftAnew s files name at old new
  migration_left at holds files told = anew_left s files name p t at old new (opened files told) holds

pub migration_some : (s : Spelling) (p : memory.Program) (t : Trace) (at : Phase) (old new : Mirrors) → (files : Files) × (name : List ℕ) × IsOpened files name p t → HoldAnewByPhase s t at old new → LeavesAnew s at old new
migration_some s p t at old new (files, name, o) holds = (files, name, anew_left s files name p t at old new o holds)

-- ---- when the recorder is done

pub migration_settled : (s : Spelling) (t : Trace) (at : Phase) (old new : Mirrors) (k l : ℕ) (r : Result Answer AllocError) → IfOk r (λ answer. MigratesAs s t old new k l answer)
    → IfOk r (λ answer. answer.status ≡ status.Done → at ≡ phase.Done) → IfOk r (λ answer. ¬ Rose k l → IsSettled at)
migration_settled s t at old new k l (Ok answer) (inl (fault, line, rose)) finished = λ none. absurd (none (inl rose))
migration_settled s t at old new k l (Ok answer) (inr (done, text, holds, kept)) finished = λ none. inr (finished done)
migration_settled s t at old new k l (Err e) is finished = tt

pub migration_finishes : (s : Spelling) (held : Option Files) (name : List ℕ) (t : Trace) (at : Phase) (old new : Mirrors) (n m k l : ℕ) (r : Result Answer AllocError) → IfOk r (λ answer. MigratesAs s t old new k l answer)
    → IfOk r (λ answer. answer.status ≡ status.Done → at ≡ phase.Done) → IfOk r (λ answer. ¬ Rose n m → ¬ Rose k l → FinishesTrace name held at)
migration_finishes s held name t at old new n m k l (Ok answer) (inl (fault, line, rose)) finished = λ shelf recorder. absurd (recorder (inl rose))
migration_finishes s held name t at old new n m k l (Ok answer) (inr (done, text, holds, kept)) finished = λ shelf recorder files p u told o. finished done
migration_finishes s held name t at old new n m k l (Err e) is finished = tt

pub migration_started : (X : Type 0) (s : Spelling) (t : Trace) (old new : Mirrors) (k l : ℕ) (r : Result Answer AllocError) → IfOk r (λ answer. MigratesAs s t old new k l answer) → IfOk r (λ answer. StartsNone (code_of answer.status) → X)
migration_started X s t old new k l (Ok answer) (inl (fault, line, rose)) = λ none. absurd (not_fault (subst StartsNone (ap code_of fault) none))
migration_started X s t old new k l (Ok answer) (inr (done, text, holds, kept)) = λ none. absurd (not_done (subst StartsNone (ap code_of done) none))
migration_started X s t old new k l (Err e) is = tt

-- ---- a trace that was refused

pub none_anew : (s : Spelling) (at : Phase) (ms : Mirrors) → at ≡ phase.Ready → LeavesAnew s at ms ms
none_anew s at ms ready = ((λ name. None), [], anew_untouched s at ms ready (λ name. None) [])

pub refused_migration : SealedTracesAreMigrated → (held : Option Files) (name : List ℕ) (at : Phase) (n m : ℕ) (answer : Answer) → (answer.status ≡ status.Done → ⊥)
    → AnswersAny held name (at_shelf n 0 0) (at_shelf m 0 0) answer → ¬ Rose n m → FinishesTrace name held at
refused_migration law held name at n m answer undone (inl (fault, line, rose)) shelf files p t told o = absurd (shelf rose)
refused_migration law held name at n m answer undone (inr (kept, unfaulted, dues)) shelf files p t told o =
    absurd (undone (done_at answer.status (law files name p t (code_of answer.status) answer.text.items o (dues wanted.Migrate files told))))
