-- What a call promises, from its answer and what came of writing it.
use Rattle.std.proofs.Common.{◌≡◌, ◌≢◌, ◌∙◌, sym, ap, refl, inl, inr, ℕ, ◌<◌, ◌⊎◌, List, length, take, Option, Some, None, arith}
use Rattle.std.proofs.Math.Seq.{take-length}
use Rattle.std.proofs.lemmas.List.{append-nil}
use Rattle.wy_lens.specs.Answers.{HasCause, IsAnswer, Knows, WritesDue, WritesPart}
use Rattle.wy_lens.specs.Due.{Due}
use Rattle.wy_lens.specs.Deliveries.{Delivers, WritesFirst}
use Rattle.wy_lens.specs.Statuses.{code_of}
use Rattle.wy_lens.specs.Texts.{fault_line}
use Rattle.wy_lens.specs.Words.{AskNothing}
use Rattle.wy_lens.specs.declared.answer.Answer.{Answer}
use Rattle.wy_lens.specs.declared.status.Status.{Status}
use Rattle.wy_lens.specs.declared.status.Status.TheVariants.{Done, Usage, Absent, Refused, Trace, Question, Fault, TooLong, NoMemory}
use Rattle.wy_outside.specs.Counts.{Rose}
use Rattle.wy_outside.specs.Shelf.{Files}
use Rattle.wy_outside.specs.Sink.{appended}

-- ---- statuses by their numbers

absent_at : (s : Status) → code_of s ≡ 3 → s ≡ Absent
absent_at Done e = absurd cc
absent_at Usage e = absurd cc
absent_at Absent e = refl
absent_at Refused e = absurd cc
absent_at Trace e = absurd cc
absent_at Question e = absurd cc
absent_at Fault e = absurd cc
absent_at TooLong e = absurd cc
absent_at NoMemory e = absurd cc

fault_at : (s : Status) → code_of s ≡ 7 → s ≡ Fault
fault_at Done e = absurd cc
fault_at Usage e = absurd cc
fault_at Absent e = absurd cc
fault_at Refused e = absurd cc
fault_at Trace e = absurd cc
fault_at Question e = absurd cc
fault_at Fault e = refl
fault_at TooLong e = absurd cc
fault_at NoMemory e = absurd cc

too_long_at : (s : Status) → code_of s ≡ 8 → s ≡ TooLong
too_long_at Done e = absurd cc
too_long_at Usage e = absurd cc
too_long_at Absent e = absurd cc
too_long_at Refused e = absurd cc
too_long_at Trace e = absurd cc
too_long_at Question e = absurd cc
too_long_at Fault e = absurd cc
too_long_at TooLong e = refl
too_long_at NoMemory e = absurd cc

usage_at : (s : Status) → code_of s ≡ 2 → s ≡ Usage
usage_at Done e = absurd cc
usage_at Usage e = refl
usage_at Absent e = absurd cc
usage_at Refused e = absurd cc
usage_at Trace e = absurd cc
usage_at Question e = absurd cc
usage_at Fault e = absurd cc
usage_at TooLong e = absurd cc
usage_at NoMemory e = absurd cc

-- ---- what is written

pub written_due : (words : List (List ℕ)) (held : Option Files) (k l n m : ℕ) (before after : Option (List ℕ)) (answer : Answer) (status : Status) (code : ℕ) → IsAnswer words held k l answer
    → Delivers answer status n m before after → code ≡ code_of status → ¬ Rose k l → ¬ Rose n m → Knows words held → code ≢ 9 → WritesDue words held code before after
written_due words held k l n m before after answer status code (inl (fault, line, rose)) delivers is shelf out knows some = absurd (shelf rose)
written_due words held k l n m before after answer status code (inr (same, other, due)) (inl (as_answered, kept, all)) is shelf out knows some =
    (answer.text.items, rw (is, as_answered) (due knows), all)
written_due words held k l n m before after answer status code (inr (same, other, due)) (inr (inl (fault, rose, part))) is shelf out knows some = absurd (out rose)
written_due words held k l n m before after answer status code (inr (same, other, due)) (inr (inr (memory, kept, part))) is shelf out knows some = absurd (some (is ∙ ap code_of memory))

first_of : (answer : Answer) (status : Status) (n m : ℕ) (before after : Option (List ℕ)) → Delivers answer status n m before after → WritesFirst answer.text.items before after
first_of answer status n m before after (inl (same, kept, all)) = (length answer.text.items, omega arith, rw (take-length answer.text.items) all)
first_of answer status n m before after (inr (inl (fault, rose, part))) = part
first_of answer status n m before after (inr (inr (memory, kept, part))) = part

said_of : (words : List (List ℕ)) (held : Option Files) (k l : ℕ) (answer : Answer) → IsAnswer words held k l answer
    → (answer.text.items ≡ fault_line) ⊎ (Knows words held → (status : ℕ) × Due words held status answer.text.items)
said_of words held k l answer (inl (fault, line, rose)) = inl line
said_of words held k l answer (inr (same, other, due)) = inr (λ knows. (code_of answer.status, due knows))

pub written_part : (words : List (List ℕ)) (held : Option Files) (k l n m : ℕ) (before after : Option (List ℕ)) (answer : Answer) (status : Status) → IsAnswer words held k l answer
    → Delivers answer status n m before after → WritesPart words held before after
written_part words held k l n m before after answer status is delivers =
    let part = first_of answer status n m before after delivers in
    (answer.text.items, part.0, part.2, said_of words held k l answer is)

unwritten : (before : Option (List ℕ)) → before ≡ appended before (take 0 fault_line)
unwritten None = refl
unwritten (Some text) = ap Some (sym (append-nil text))

pub nothing_written : (words : List (List ℕ)) (held : Option Files) (before : Option (List ℕ)) → WritesPart words held before before
nothing_written words held before = (fault_line, 0, unwritten before, inl refl)

-- ---- causes

pub usage_cause : (words : List (List ℕ)) (n m : ℕ) (before after : Option (List ℕ)) (answer : Answer) (status : Status) (code : ℕ) → (answer.status ≡ Usage → AskNothing words) → Delivers answer status n m before after
    → code ≡ code_of status → code ≡ 2 → AskNothing words
usage_cause words n m before after answer status code asks (inl (same, kept, all)) is two = asks (sym same ∙ usage_at status (sym is ∙ two))
usage_cause words n m before after answer status code asks (inr (inl (fault, rose, part))) is two = absurd (let x = sym (usage_at status (sym is ∙ two)) ∙ fault in cc)
usage_cause words n m before after answer status code asks (inr (inr (memory, kept, part))) is two = absurd (let x = sym (usage_at status (sym is ∙ two)) ∙ memory in cc)

pub absent_cause : (a b c d n m : ℕ) (before after : Option (List ℕ)) (answer : Answer) (status : Status) (code : ℕ) → HasCause a b c d answer → Delivers answer status n m before after
    → code ≡ code_of status → code ≡ 3 → Rose a b
absent_cause a b c d n m before after answer status code causes (inl (same, kept, all)) is three = causes.0 (sym same ∙ absent_at status (sym is ∙ three))
absent_cause a b c d n m before after answer status code causes (inr (inl (fault, rose, part))) is three = absurd (let x = sym (absent_at status (sym is ∙ three)) ∙ fault in cc)
absent_cause a b c d n m before after answer status code causes (inr (inr (memory, kept, part))) is three = absurd (let x = sym (absent_at status (sym is ∙ three)) ∙ memory in cc)

pub too_long_cause : (a b c d n m : ℕ) (before after : Option (List ℕ)) (answer : Answer) (status : Status) (code : ℕ) → HasCause a b c d answer → Delivers answer status n m before after
    → code ≡ code_of status → code ≡ 8 → Rose c d
too_long_cause a b c d n m before after answer status code causes (inl (same, kept, all)) is eight = causes.1 (sym same ∙ too_long_at status (sym is ∙ eight))
too_long_cause a b c d n m before after answer status code causes (inr (inl (fault, rose, part))) is eight = absurd (let x = sym (too_long_at status (sym is ∙ eight)) ∙ fault in cc)
too_long_cause a b c d n m before after answer status code causes (inr (inr (memory, kept, part))) is eight = absurd (let x = sym (too_long_at status (sym is ∙ eight)) ∙ memory in cc)

pub fault_cause : (words : List (List ℕ)) (held : Option Files) (k l n m : ℕ) (before after : Option (List ℕ)) (answer : Answer) (status : Status) (code : ℕ) → IsAnswer words held k l answer
    → Delivers answer status n m before after → code ≡ code_of status → code ≡ 7 → Rose k l ⊎ Rose n m
fault_cause words held k l n m before after answer status code (inl (fault, line, rose)) delivers is seven = inl rose
fault_cause words held k l n m before after answer status code (inr (unfailed, other, due)) (inl (same, kept, all)) is seven = absurd (other (sym same ∙ fault_at status (sym is ∙ seven)))
fault_cause words held k l n m before after answer status code (inr (unfailed, other, due)) (inr (inl (fault, rose, part))) is seven = inr rose
fault_cause words held k l n m before after answer status code (inr (unfailed, other, due)) (inr (inr (memory, kept, part))) is seven = absurd (let x = sym (fault_at status (sym is ∙ seven)) ∙ memory in cc)

pub out_fault : (n m : ℕ) (before after : Option (List ℕ)) (answer : Answer) (status : Status) (code : ℕ) → Delivers answer status n m before after
    → code ≡ code_of status → n < m → (code ≡ 7) ⊎ (code ≡ 9)
out_fault n m before after answer status code (inl (same, kept, all)) is less = absurd (omega (arith, kept, less))
out_fault n m before after answer status code (inr (inl (fault, rose, part))) is less = inl (is ∙ ap code_of fault)
out_fault n m before after answer status code (inr (inr (memory, kept, part))) is less = absurd (omega (arith, kept, less))
