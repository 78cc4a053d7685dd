-- What a call promises, from its answer and what came of writing it.
use Rattle.std.proofs.Common.{◌≡◌, ◌≢◌, ◌∙◌, sym, ap, refl, inl, inr, ℕ, ◌<◌, ◌⊎◌, List, [], ◌++◌, length, take, drop, Option, arith, subst}
use Rattle.std.proofs.Math.Logic.{∥∥₁_map}
use Rattle.std.proofs.Math.Seq.{take-length}
use Rattle.std.proofs.lemmas.List.{take-append-drop}
use Rattle.wy_outside.specs.Counts.{Rose}
use Rattle.wy_outside.specs.Shelf.{Files}
use Rattle.wy_outside.specs.Sink.{appended}
use Rattle.wy_reply.specs.declared.answer.Answer.{Answer}
use Rattle.wy_reply.specs.declared.status.Status.{Status}
use Rattle.wy_reply.specs.declared.status.Status.TheVariants.{Done, Usage, Absent, Program, Trace, Question, Fault, TooLong, NoMemory, Audit, Certificate}
use Rattle.wy_reply.specs.Statuses.{code_of}
use Rattle.wy_session.specs.Talk.{IsPrefixOf}
use Rattle.wy_top.specs.Answers.{Counts, IsAnswer, IsFault, Knows}
use Rattle.wy_top.specs.Deliveries.{Delivers, WritesPart}
use Rattle.wy_top.specs.Left.{StartsNone}
use Rattle.wy_reply.specs.Refused.{IsDoneOrRefused}
use Rattle.wy_top.specs.Call.{BeginsDue, Failures, IsFaultBehind, IsOfTrace, WritesDue, WritesFaultLine, WritesLast, WritesPrefix, WritesRefusal, alone, whole}

-- ---- statuses by their numbers

pub done_at : (s : Status) → code_of s ≡ 0 → s ≡ Done
done_at Done e = refl
done_at Usage e = absurd cc
done_at Absent e = absurd cc
done_at Program e = absurd cc
done_at Trace e = absurd cc
done_at Question e = absurd cc
done_at Fault e = absurd cc
done_at TooLong e = absurd cc
done_at NoMemory e = absurd cc
done_at Audit e = absurd cc
done_at Certificate e = absurd cc

pub fault_at : (s : Status) → code_of s ≡ 7 → s ≡ Fault
fault_at Done e = absurd cc
fault_at Usage e = absurd cc
fault_at Absent e = absurd cc
fault_at Program e = absurd cc
fault_at Trace e = absurd cc
fault_at Question e = absurd cc
fault_at Fault e = refl
fault_at TooLong e = absurd cc
fault_at NoMemory e = absurd cc
fault_at Audit e = absurd cc
fault_at Certificate e = absurd cc

pub too_long_at : (s : Status) → code_of s ≡ 8 → s ≡ TooLong
too_long_at Done e = absurd cc
too_long_at Usage e = absurd cc
too_long_at Absent e = absurd cc
too_long_at Program e = absurd cc
too_long_at Trace e = absurd cc
too_long_at Question e = absurd cc
too_long_at Fault e = absurd cc
too_long_at TooLong e = refl
too_long_at NoMemory e = absurd cc
too_long_at Audit e = absurd cc
too_long_at Certificate e = absurd cc

usage_at : (s : Status) → code_of s ≡ 2 → s ≡ Usage
usage_at Done e = absurd cc
usage_at Usage e = refl
usage_at Absent e = absurd cc
usage_at Program e = absurd cc
usage_at Trace e = absurd cc
usage_at Question e = absurd cc
usage_at Fault e = absurd cc
usage_at TooLong e = absurd cc
usage_at NoMemory e = absurd cc
usage_at Audit e = absurd cc
usage_at Certificate e = absurd cc

pub absent_at : (s : Status) → code_of s ≡ 3 → s ≡ Absent
absent_at Done e = absurd cc
absent_at Usage e = absurd cc
absent_at Absent e = refl
absent_at Program e = absurd cc
absent_at Trace e = absurd cc
absent_at Question e = absurd cc
absent_at Fault e = absurd cc
absent_at TooLong e = absurd cc
absent_at NoMemory e = absurd cc
absent_at Audit e = absurd cc
absent_at Certificate e = absurd cc

-- ---- what is written

pub written_due : (words : List (List ℕ)) (held : Option Files) (keys : Option (List ℕ)) (old new : Counts) (n m : ℕ) (before after : Option (List ℕ)) (answer : Answer) (status : Status) (code : ℕ) → IsAnswer words held keys old new answer →
    Delivers answer status n m before after → code ≡ code_of status → ¬ Rose old.shelf new.shelf → ¬ Rose old.recorder new.recorder → ¬ Rose n m → Knows words held keys → code ≢ 9 → WritesDue words held keys code before after
written_due words held keys old new n m before after answer status code (inl (fault, inl (line, rose))) delivers is shelf recorder out knows some = absurd (shelf rose)
written_due words held keys old new n m before after answer status code (inl (fault, inr (line, rose))) delivers is shelf recorder out knows some = absurd (recorder rose)
written_due words held keys old new n m before after answer status code (inr (same, due)) (inl (as_answered, kept, all)) is shelf recorder out knows some =
    (answer.text.items, rw (is, as_answered) (due knows), all)
written_due words held keys old new n m before after answer status code (inr (same, due)) (inr (inl (fault, rose, part))) is shelf recorder out knows some = absurd (out rose)
written_due words held keys old new n m before after answer status code (inr (same, due)) (inr (inr (memory, kept, part))) is shelf recorder out knows some = absurd (some (is ∙ ap code_of memory))

-- some first part of the text was written
pub part_of : (answer : Answer) (status : Status) (n m : ℕ) (before after : Option (List ℕ)) → Delivers answer status n m before after → WritesPart answer.text.items before after
part_of answer status n m before after (inl (same, kept, all)) = (length answer.text.items, omega arith, rw (take-length answer.text.items) all)
part_of answer status n m before after (inr (inl (fault, rose, part))) = part
part_of answer status n m before after (inr (inr (memory, kept, part))) = part

pub prefix_of : (words : List (List ℕ)) (held : Option Files) (keys : Option (List ℕ)) (old new : Failures) (before after : Option (List ℕ)) (answer : Answer) → new.keys ≡ old.keys → IsAnswer words held keys old.outside new.outside answer → WritesPart answer.text.items before after →
    WritesPrefix words held keys old new before after
prefix_of words held keys old new before after answer stayed is (k, within, written) = (take k answer.text.items, written, inr (of is)) where
  begins : IsPrefixOf (take k answer.text.items) answer.text.items
  begins = (drop k answer.text.items, sym (take-append-drop k answer.text.items))

  of : IsAnswer words held keys old.outside new.outside answer →
      ((said : List ℕ) × (line : List ℕ) × (prefix : List ℕ) × IsFaultBehind words held keys old new said line × IsPrefixOf prefix line × (take k answer.text.items ≡ said ++ prefix))
      ⊎ ((new ≡ old) × (Knows words held keys → BeginsDue words held keys (take k answer.text.items)))
  of (inl (fault, line)) = inl ([], answer.text.items, take k answer.text.items, alone answer.text.items line, begins, refl)
  of (inr (same, due)) = inr ((λ i. record { outside = same i; keys = stayed i }), λ knows. whole (code_of answer.status) answer.text.items (due knows) begins)

pub prefix : (words : List (List ℕ)) (held : Option Files) (keys : Option (List ℕ)) (old new : Failures) (n m : ℕ) (before after : Option (List ℕ)) (answer : Answer) (status : Status) → new.keys ≡ old.keys → IsAnswer words held keys old.outside new.outside answer →
    Delivers answer status n m before after → WritesPrefix words held keys old new before after
prefix words held keys old new n m before after answer status stayed is delivers = prefix_of words held keys old new before after answer stayed is (part_of answer status n m before after delivers)

-- ---- statuses

pub answered_done : (n m : ℕ) (before after : Option (List ℕ)) (answer : Answer) (status : Status) (code : ℕ) → Delivers answer status n m before after → code ≡ code_of status → code ≡ 0 → answer.status ≡ Done
answered_done n m before after answer status code (inl (same, kept, all)) is zero = sym same ∙ done_at status (sym is ∙ zero)
answered_done n m before after answer status code (inr (inl (fault, rose, part))) is zero = absurd (let x = sym (done_at status (sym is ∙ zero)) ∙ fault in cc)
answered_done n m before after answer status code (inr (inr (memory, kept, part))) is zero = absurd (let x = sym (done_at status (sym is ∙ zero)) ∙ memory in cc)

pub answered_usage : (n m : ℕ) (before after : Option (List ℕ)) (answer : Answer) (status : Status) (code : ℕ) → Delivers answer status n m before after → code ≡ code_of status → code ≡ 2 → answer.status ≡ Usage
answered_usage n m before after answer status code (inl (same, kept, all)) is two = sym same ∙ usage_at status (sym is ∙ two)
answered_usage n m before after answer status code (inr (inl (fault, rose, part))) is two = absurd (let x = sym (usage_at status (sym is ∙ two)) ∙ fault in cc)
answered_usage n m before after answer status code (inr (inr (memory, kept, part))) is two = absurd (let x = sym (usage_at status (sym is ∙ two)) ∙ memory in cc)

fault_starts : StartsNone 7 → ⊥
fault_starts none = omega (arith, none)

memory_starts : StartsNone 9 → ⊥
memory_starts none = omega (arith, none)

pub answered_starts_none : (n m : ℕ) (before after : Option (List ℕ)) (answer : Answer) (status : Status) (code : ℕ) → Delivers answer status n m before after → code ≡ code_of status → StartsNone code → StartsNone (code_of answer.status)
answered_starts_none n m before after answer status code (inl (same, kept, all)) is none = subst StartsNone (is ∙ ap code_of same) none
answered_starts_none n m before after answer status code (inr (inl (fault, rose, part))) is none = absurd (fault_starts (subst StartsNone (is ∙ ap code_of fault) none))
answered_starts_none n m before after answer status code (inr (inr (memory, kept, part))) is none = absurd (memory_starts (subst StartsNone (is ∙ ap code_of memory) none))

pub fault_cause : (X : Type 0) (old new : Counts) (n m : ℕ) (before after : Option (List ℕ)) (answer : Answer) (status : Status) (code : ℕ) → (answer.status ≡ Fault → IsFault old new answer) → Delivers answer status n m before after →
    code ≡ code_of status → code ≡ 7 → Rose old.shelf new.shelf ⊎ Rose old.recorder new.recorder ⊎ Rose n m ⊎ X
fault_cause X old new n m before after answer status code faults (inl (same, kept, all)) is seven = of (faults (sym same ∙ fault_at status (sym is ∙ seven))) where
  of : IsFault old new answer → Rose old.shelf new.shelf ⊎ Rose old.recorder new.recorder ⊎ Rose n m ⊎ X
  of (fault, inl (line, rose)) = inl rose
  of (fault, inr (line, rose)) = inr (inl rose)
fault_cause X old new n m before after answer status code faults (inr (inl (fault, rose, part))) is seven = inr (inr (inl rose))
fault_cause X old new n m before after answer status code faults (inr (inr (memory, kept, part))) is seven = absurd (let x = sym (fault_at status (sym is ∙ seven)) ∙ memory in cc)

pub fault_line : (words : List (List ℕ)) (held : Option Files) (keys : Option (List ℕ)) (old new : Failures) (n m : ℕ) (before after : Option (List ℕ)) (answer : Answer) (status : Status) (code : ℕ) → (answer.status ≡ Fault → IsFault old.outside new.outside answer) → Delivers answer status n m before after →
    code ≡ code_of status → code ≡ 7 → ¬ Rose n m → WritesFaultLine words held keys old new before after
fault_line words held keys old new n m before after answer status code faults (inl (same, kept, all)) is seven out = ([], answer.text.items, alone answer.text.items (faults (sym same ∙ fault_at status (sym is ∙ seven))).1, all)
fault_line words held keys old new n m before after answer status code faults (inr (inl (fault, rose, part))) is seven out = absurd (out rose)
fault_line words held keys old new n m before after answer status code faults (inr (inr (memory, kept, part))) is seven out = absurd (let x = sym (fault_at status (sym is ∙ seven)) ∙ memory in cc)

-- ---- what a fault comes to

pub delivered_fault : (answer : Answer) (s : Status) (n m : ℕ) (before after : Option (List ℕ)) → Delivers answer s n m before after → answer.status ≡ Fault → (code_of s ≡ 7) ⊎ (code_of s ≡ 9)
delivered_fault answer s n m before after (inl (as_answered, kept, all)) is = inl (ap code_of (as_answered ∙ is))
delivered_fault answer s n m before after (inr (inl (fault, rose, part))) is = inl (ap code_of fault)
delivered_fault answer s n m before after (inr (inr (lack, kept, part))) is = inr (ap code_of lack)

pub shelf_fault : (words : List (List ℕ)) (held : Option Files) (keys : Option (List ℕ)) (old new : Counts) (n m : ℕ) (before after : Option (List ℕ)) (answer : Answer) (status : Status) (code : ℕ) → IsAnswer words held keys old new answer →
    Delivers answer status n m before after → code ≡ code_of status → old.shelf < new.shelf → (code ≡ 7) ⊎ (code ≡ 9)
shelf_fault words held keys old new n m before after answer status code (inl (fault, line)) delivers is less = rw (is) (delivered_fault answer status n m before after delivers fault)
shelf_fault words held keys old new n m before after answer status code (inr (same, due)) delivers is less = absurd (omega (arith, less, ap (λ (c : Counts). c.shelf) same))

pub recorder_fault : (words : List (List ℕ)) (held : Option Files) (keys : Option (List ℕ)) (old new : Counts) (n m : ℕ) (before after : Option (List ℕ)) (answer : Answer) (status : Status) (code : ℕ) → IsAnswer words held keys old new answer →
    Delivers answer status n m before after → code ≡ code_of status → old.recorder < new.recorder → (code ≡ 7) ⊎ (code ≡ 9)
recorder_fault words held keys old new n m before after answer status code (inl (fault, line)) delivers is less = rw (is) (delivered_fault answer status n m before after delivers fault)
recorder_fault words held keys old new n m before after answer status code (inr (same, due)) delivers is less = absurd (omega (arith, less, ap (λ (c : Counts). c.recorder) same))

-- ---- one line alone

refused_line : (before after : Option (List ℕ)) (answer : Answer) (code : ℕ) → code ≡ code_of answer.status → after ≡ appended before answer.text.items → code ≢ 0
    → IsDoneOrRefused answer.status answer.text.items → WritesRefusal code before after
refused_line before after answer code is all some (inl done) = absurd (some (is ∙ ap code_of done))
refused_line before after answer code is all some (inr refused) = (answer.status, answer.text.items, is, refused, all)

pub written_alone : (n m : ℕ) (before after : Option (List ℕ)) (answer : Answer) (status : Status) (code : ℕ) → Delivers answer status n m before after → code ≡ code_of status → code ≢ 0 → code ≢ 9 → ¬ Rose n m
    → ∥ WritesRefusal code before after ∥₁
written_alone n m before after answer status code (inl (same, kept, all)) is some enough out =
    ∥∥₁_map answer.line (refused_line before after answer code (is ∙ ap code_of same) all some)
written_alone n m before after answer status code (inr (inl (fault, rose, part))) is some enough out = absurd (out rose)
written_alone n m before after answer status code (inr (inr (memory, kept, part))) is some enough out = absurd (enough (is ∙ ap code_of memory))

-- ---- one line at the end

pub none_of_0 : IsOfTrace 0 → ⊥
none_of_0 (inl e) = absurd cc
none_of_0 (inr e) = absurd cc

pub none_of_7 : IsOfTrace 7 → ⊥
none_of_7 (inl e) = absurd cc
none_of_7 (inr e) = absurd cc

pub none_of_8 : IsOfTrace 8 → ⊥
none_of_8 (inl e) = absurd cc
none_of_8 (inr e) = absurd cc

pub none_of_9 : IsOfTrace 9 → ⊥
none_of_9 (inl e) = absurd cc
none_of_9 (inr e) = absurd cc

-- behind what was said
pub last_line : (before after : Option (List ℕ)) (answer : Answer) (code : ℕ) (said : List ℕ) → code ≡ code_of answer.status → IsOfTrace code → after ≡ appended before (said ++ answer.text.items)
    → IsDoneOrRefused answer.status answer.text.items → WritesLast code before after
last_line before after answer code said is of_trace all (inl done) = absurd (none_of_0 (subst IsOfTrace (is ∙ ap code_of done) of_trace))
last_line before after answer code said is of_trace all (inr refused) = (said, answer.status, answer.text.items, is, refused, all)

pub written_last : (n m : ℕ) (before after : Option (List ℕ)) (answer : Answer) (status : Status) (code : ℕ) → Delivers answer status n m before after → code ≡ code_of status → IsOfTrace code → ¬ Rose n m
    → ∥ WritesLast code before after ∥₁
written_last n m before after answer status code (inl (same, kept, all)) is of_trace out = ∥∥₁_map answer.line (last_line before after answer code [] (is ∙ ap code_of same) of_trace all)
written_last n m before after answer status code (inr (inl (fault, rose, part))) is of_trace out = absurd (out rose)
written_last n m before after answer status code (inr (inr (memory, kept, part))) is of_trace out = absurd (none_of_9 (subst IsOfTrace (is ∙ ap code_of memory) of_trace))
