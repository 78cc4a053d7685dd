-- What the words are read as is what they ask.
use Rattle.std.proofs.Common.{◌≡◌, ◌∙◌, ℕ, ◌≤◌, length, Bool, true, false, List, [], ◌∷◌, Option, Some, None, refl, sym, ap, subst, arith}
use Rattle.std.specs.Prelude.{if◌then◌else◌, codes, bytes_eq, option_and_then, IfSome, option_map}
use Rattle.std.proofs.lemmas.Option.{none-some, same_Some, option_and_then_some}
use Rattle.std.proofs.lemmas.Slice.Eq.{bytes_eq-Decides}
use Rattle.wy_words.specs.Awaited.{Awaited}
use Rattle.wy_words.specs.Awaited as awaited
use Rattle.wy_words.specs.declared.commands.Command as memory
use Rattle.wy_words.specs.Views.{command_of}
use Rattle.wy_words.specs.Words.{Part, Spells, Holds, Command, Run, Record, Output, Why, WhyNot, Affects, Certify, Check, Scope, Questions, Explore, Audit, Migrate, Gen, event_number, number_up_to, asked, Asks, IsNoCommand, AskOneCommand}
use Rattle.wy_words.specs.Words as words
use Rattle.wy_words.specs.Reading.{Asking, nothing, named, named_in, ended, command_named, over_trace, run, run_of, recording, migrating, is_bare, only_operand, two_operands, three_operands, scope, scope_of, output, why, whynot, affects, certify, check, questions, explore, audit, generated}
use Rattle.wy_words.proofs.Spelled.{spelled, named_spelled}
use Rattle.wy_words.proofs.Held.{naming, held, holds}

-- what the words are read as
abbrev pub read_as : List (List ℕ) → Option Command
read_as [] = None
read_as (name ∷ behind) = option_and_then (command_named name) (named_in behind)

-- ---- what is asked is read

named_there : (behind : List (List ℕ)) (parts : List Part) (operands : List (List ℕ)) (input trace : Option (List ℕ)) (steps : Option ℕ) → length operands ≤ 3
    → Spells behind parts → Holds parts operands input trace steps → named_in behind ≡ Some (naming operands input trace steps)
unfolding named_in ended
named_there behind parts operands input trace steps few s h =
    ap (option_and_then (λ a. ended a.awaited a)) (spelled behind parts s nothing ∙ held parts operands input trace steps few h)

run_named : (source : List ℕ) (input : Option (List ℕ)) (steps : Option ℕ) → command_named (codes "run") (naming (source ∷ []) input None steps) ≡ Some (Run (asked source input steps))
unfolding command_named run run_of
run_named source input steps = refl

recording_named : (source trace : List ℕ) (input : Option (List ℕ)) (steps : Option ℕ)
    → command_named (codes "record") (naming (source ∷ []) input (Some trace) steps) ≡ Some (Record (asked source input steps) trace)
unfolding command_named recording run_of
recording_named source trace input steps = refl

output_named : (trace : List ℕ) → command_named (codes "output") (naming (trace ∷ []) None None None) ≡ Some (Output trace)
unfolding command_named over_trace output only_operand is_bare
output_named trace = refl

why_named : (trace question : List ℕ) → command_named (codes "why") (naming (trace ∷ (question ∷ [])) None None None) ≡ Some (Why trace question)
unfolding command_named over_trace why two_operands is_bare
why_named trace question = refl

whynot_named : (trace statement : List ℕ) → command_named (codes "whynot") (naming (trace ∷ (statement ∷ [])) None None None) ≡ Some (WhyNot trace statement)
unfolding command_named over_trace whynot two_operands is_bare
whynot_named trace statement = refl

affects_named : (trace question : List ℕ) → command_named (codes "affects") (naming (trace ∷ (question ∷ [])) None None None) ≡ Some (Affects trace question)
unfolding command_named over_trace affects two_operands is_bare
affects_named trace question = refl

certify_named : (trace question : List ℕ) → command_named (codes "certify") (naming (trace ∷ (question ∷ [])) None None None) ≡ Some (Certify trace question)
unfolding command_named over_trace certify two_operands is_bare
certify_named trace question = refl

check_named : (trace certificate : List ℕ) → command_named (codes "check") (naming (trace ∷ (certificate ∷ [])) None None None) ≡ Some (Check trace certificate)
unfolding command_named over_trace check two_operands is_bare
check_named trace certificate = refl

scope_named : (trace statement word : List ℕ) (call : ℕ) → event_number word ≡ Some call → command_named (codes "scope") (naming (trace ∷ (statement ∷ (word ∷ []))) None None None) ≡ Some (Scope trace statement call)
unfolding command_named over_trace scope scope_of three_operands is_bare
scope_named trace statement word call number = ap (option_map (Scope trace statement)) number

questions_named : (trace : List ℕ) → command_named (codes "questions") (naming (trace ∷ []) None None None) ≡ Some (Questions trace)
unfolding command_named over_trace questions only_operand is_bare
questions_named trace = refl

explore_named : (trace : List ℕ) → command_named (codes "explore") (naming (trace ∷ []) None None None) ≡ Some (Explore trace)
unfolding command_named over_trace explore only_operand is_bare
explore_named trace = refl

audit_named : (trace : List ℕ) → command_named (codes "audit") (naming (trace ∷ []) None None None) ≡ Some (Audit trace)
unfolding command_named over_trace audit only_operand is_bare
audit_named trace = refl

migrating_named : (trace name : List ℕ) → command_named (codes "migrate") (naming (trace ∷ []) None (Some name) None) ≡ Some (Migrate trace name)
unfolding command_named migrating only_operand is_bare
migrating_named trace name = refl

gen_named : (word : List ℕ) (n : ℕ) → number_up_to 2000 word ≡ Some n → command_named (codes "gen") (naming (word ∷ []) None None None) ≡ Some (Gen n)
unfolding command_named generated only_operand is_bare
gen_named word n number = ap (option_map Gen) number

pub asked_read : (words : List (List ℕ)) (c : Command) → Asks words c → read_as words ≡ Some c
asked_read _ _ (words.run {words = ws} {parts = ps} {source = source} {input = i} {steps = n} s h) =
    ap (option_and_then (command_named (codes "run"))) (named_there ws ps (source ∷ []) i None n (omega arith) s h) ∙ run_named source i n
asked_read _ _ (words.recording {words = ws} {parts = ps} {source = source} {trace = t} {input = i} {steps = n} s h) =
    ap (option_and_then (command_named (codes "record"))) (named_there ws ps (source ∷ []) i (Some t) n (omega arith) s h) ∙ recording_named source t i n
asked_read _ _ (words.output {words = ws} {parts = ps} {trace = t} s h) =
    ap (option_and_then (command_named (codes "output"))) (named_there ws ps (t ∷ []) None None None (omega arith) s h) ∙ output_named t
asked_read _ _ (words.why {words = ws} {parts = ps} {trace = t} {question = q} s h) =
    ap (option_and_then (command_named (codes "why"))) (named_there ws ps (t ∷ (q ∷ [])) None None None (omega arith) s h) ∙ why_named t q
asked_read _ _ (words.whynot {words = ws} {parts = ps} {trace = t} {statement = k} s h) =
    ap (option_and_then (command_named (codes "whynot"))) (named_there ws ps (t ∷ (k ∷ [])) None None None (omega arith) s h) ∙ whynot_named t k
asked_read _ _ (words.affects {words = ws} {parts = ps} {trace = t} {question = k} s h) =
    ap (option_and_then (command_named (codes "affects"))) (named_there ws ps (t ∷ (k ∷ [])) None None None (omega arith) s h) ∙ affects_named t k
asked_read _ _ (words.certify {words = ws} {parts = ps} {trace = t} {question = k} s h) =
    ap (option_and_then (command_named (codes "certify"))) (named_there ws ps (t ∷ (k ∷ [])) None None None (omega arith) s h) ∙ certify_named t k
asked_read _ _ (words.check {words = ws} {parts = ps} {trace = t} {certificate = k} s h) =
    ap (option_and_then (command_named (codes "check"))) (named_there ws ps (t ∷ (k ∷ [])) None None None (omega arith) s h) ∙ check_named t k
asked_read _ _ (words.scope {words = ws} {parts = ps} {trace = t} {statement = k} {word = w} {call = n} s h number) =
    ap (option_and_then (command_named (codes "scope"))) (named_there ws ps (t ∷ (k ∷ (w ∷ []))) None None None (omega arith) s h) ∙ scope_named t k w n number
asked_read _ _ (words.questions {words = ws} {parts = ps} {trace = t} s h) =
    ap (option_and_then (command_named (codes "questions"))) (named_there ws ps (t ∷ []) None None None (omega arith) s h) ∙ questions_named t
asked_read _ _ (words.explore {words = ws} {parts = ps} {trace = t} s h) =
    ap (option_and_then (command_named (codes "explore"))) (named_there ws ps (t ∷ []) None None None (omega arith) s h) ∙ explore_named t
asked_read _ _ (words.audit {words = ws} {parts = ps} {trace = t} s h) =
    ap (option_and_then (command_named (codes "audit"))) (named_there ws ps (t ∷ []) None None None (omega arith) s h) ∙ audit_named t
asked_read _ _ (words.migrating {words = ws} {parts = ps} {trace = t} {name = k} s h) =
    ap (option_and_then (command_named (codes "migrate"))) (named_there ws ps (t ∷ []) None (Some k) None (omega arith) s h) ∙ migrating_named t k
asked_read _ _ (words.generated {words = ws} {parts = ps} {word = w} {n = n} s h number) =
    ap (option_and_then (command_named (codes "gen"))) (named_there ws ps (w ∷ []) None None None (omega arith) s h) ∙ gen_named w n number

pub one_command : AskOneCommand
one_command words c d x y = same_Some c d (sym (asked_read words c x) ∙ asked_read words d y)

-- ---- what is read is asked

-- the words spell parts that hold what is named
record Stands (behind : List (List ℕ)) (operands : List (List ℕ)) (input trace : Option (List ℕ)) (steps : Option ℕ) : Type 0 where
  parts : List Part
  spells : Spells behind parts
  hold : Holds parts operands input trace steps

whole_only : (w : Awaited) (a b : Asking) → a.awaited ≡ w → ended w a ≡ Some b → (a ≡ b) × (b.awaited ≡ awaited.Word)
unfolding ended
whole_only awaited.Word a b is e = let same : a ≡ b = same_Some a b e in (same, sym (ap (λ c. c.awaited) same) ∙ is)
whole_only awaited.Input a b is e = absurd (none-some b e)
whole_only awaited.Trace a b is e = absurd (none-some b e)
whole_only awaited.Steps a b is e = absurd (none-some b e)

named_stands : (behind : List (List ℕ)) (b : Asking) → named_in behind ≡ Some b → Stands behind b.operands b.input b.trace b.steps
unfolding named_in
named_stands behind b is =
    option_and_then_some (λ a. ended a.awaited a) (named nothing behind) b is (λ a there e.
    let whole = whole_only a.awaited a b refl e in
    let named_so : named nothing behind ≡ Some b = there ∙ ap Some whole.0 in
    let s = named_spelled b whole.1 behind nothing named_so in
    record { parts = s.0; spells = s.1; hold = holds s.0 b (sym (spelled behind s.0 s.1 nothing) ∙ named_so) })

run_meant : (behind xs : List (List ℕ)) (w : Awaited) (i t : Option (List ℕ)) (n : Option ℕ) (c : Command) → Stands behind xs i t n
    → run (record { awaited = w; operands = xs; input = i; trace = t; steps = n }) ≡ Some c → Asks (codes "run" ∷ behind) c
unfolding run run_of
run_meant behind [] w i None n c s is = absurd (none-some c is)
run_meant behind (source ∷ []) w i None n c s is = subst (Asks (codes "run" ∷ behind)) (same_Some _ c is) (words.run s.spells s.hold)
run_meant behind (source ∷ (second ∷ more)) w i None n c s is = absurd (none-some c is)
run_meant behind xs w i (Some t) n c s is = absurd (none-some c is)

recording_meant : (behind xs : List (List ℕ)) (w : Awaited) (i t : Option (List ℕ)) (n : Option ℕ) (c : Command) → Stands behind xs i t n
    → recording t (record { awaited = w; operands = xs; input = i; trace = t; steps = n }) ≡ Some c → Asks (codes "record" ∷ behind) c
unfolding recording run_of
recording_meant behind xs w i None n c s is = absurd (none-some c is)
recording_meant behind [] w i (Some t) n c s is = absurd (none-some c is)
recording_meant behind (source ∷ []) w i (Some t) n c s is = subst (Asks (codes "record" ∷ behind)) (same_Some _ c is) (words.recording s.spells s.hold)
recording_meant behind (source ∷ (second ∷ more)) w i (Some t) n c s is = absurd (none-some c is)

migrating_meant : (behind xs : List (List ℕ)) (w : Awaited) (i t : Option (List ℕ)) (n : Option ℕ) (c : Command) → Stands behind xs i t n
    → migrating t (record { awaited = w; operands = xs; input = i; trace = t; steps = n }) ≡ Some c → Asks (codes "migrate" ∷ behind) c
unfolding migrating only_operand is_bare
migrating_meant behind xs w i None n c s is = absurd (none-some c is)
migrating_meant behind [] w i (Some t) n c s is = absurd (none-some c is)
migrating_meant behind (trace ∷ []) w None (Some t) None c s is = subst (Asks (codes "migrate" ∷ behind)) (same_Some _ c is) (words.migrating s.spells s.hold)
migrating_meant behind (trace ∷ []) w (Some i) (Some t) n c s is = absurd (none-some c is)
migrating_meant behind (trace ∷ []) w None (Some t) (Some n) c s is = absurd (none-some c is)
migrating_meant behind (trace ∷ (second ∷ more)) w i (Some t) n c s is = absurd (none-some c is)

-- the one operand, and the two, stand without options
alone : (behind xs : List (List ℕ)) (w : Awaited) (i t : Option (List ℕ)) (n : Option ℕ) (word : List ℕ) → Stands behind xs i t n
    → only_operand xs (record { awaited = w; operands = xs; input = i; trace = t; steps = n }) ≡ Some word → Stands behind (word ∷ []) None None None
unfolding only_operand is_bare
alone behind [] w i t n word s is = absurd (none-some word is)
alone behind (first ∷ []) w None None None word s is = subst (λ v. Stands behind (v ∷ []) None None None) (same_Some first word is) s
alone behind (first ∷ []) w (Some i) t n word s is = absurd (none-some word is)
alone behind (first ∷ []) w None (Some t) n word s is = absurd (none-some word is)
alone behind (first ∷ []) w None None (Some n) word s is = absurd (none-some word is)
alone behind (first ∷ (second ∷ more)) w i t n word s is = absurd (none-some word is)

both : (behind xs : List (List ℕ)) (w : Awaited) (i t : Option (List ℕ)) (n : Option ℕ) (x : List ℕ × List ℕ) → Stands behind xs i t n
    → two_operands xs (record { awaited = w; operands = xs; input = i; trace = t; steps = n }) ≡ Some x → Stands behind (x.0 ∷ (x.1 ∷ [])) None None None
unfolding two_operands is_bare
both behind [] w i t n x s is = absurd (none-some x is)
both behind (first ∷ []) w i t n x s is = absurd (none-some x is)
both behind (first ∷ (second ∷ [])) w None None None x s is = subst (λ v. Stands behind (v.0 ∷ (v.1 ∷ [])) None None None) (same_Some (first, second) x is) s
both behind (first ∷ (second ∷ [])) w (Some i) t n x s is = absurd (none-some x is)
both behind (first ∷ (second ∷ [])) w None (Some t) n x s is = absurd (none-some x is)
both behind (first ∷ (second ∷ [])) w None None (Some n) x s is = absurd (none-some x is)
both behind (first ∷ (second ∷ (third ∷ more))) w i t n x s is = absurd (none-some x is)

all_three : (behind xs : List (List ℕ)) (w : Awaited) (i t : Option (List ℕ)) (n : Option ℕ) (x : List ℕ × List ℕ × List ℕ) → Stands behind xs i t n
    → three_operands xs (record { awaited = w; operands = xs; input = i; trace = t; steps = n }) ≡ Some x → Stands behind (x.0 ∷ (x.1 ∷ (x.2 ∷ []))) None None None
unfolding three_operands is_bare
all_three behind [] w i t n x s is = absurd (none-some x is)
all_three behind (first ∷ []) w i t n x s is = absurd (none-some x is)
all_three behind (first ∷ (second ∷ [])) w i t n x s is = absurd (none-some x is)
all_three behind (first ∷ (second ∷ (third ∷ []))) w None None None x s is = subst (λ v. Stands behind (v.0 ∷ (v.1 ∷ (v.2 ∷ []))) None None None) (same_Some (first, second, third) x is) s
all_three behind (first ∷ (second ∷ (third ∷ []))) w (Some i) t n x s is = absurd (none-some x is)
all_three behind (first ∷ (second ∷ (third ∷ []))) w None (Some t) n x s is = absurd (none-some x is)
all_three behind (first ∷ (second ∷ (third ∷ []))) w None None (Some n) x s is = absurd (none-some x is)
all_three behind (first ∷ (second ∷ (third ∷ (fourth ∷ more)))) w i t n x s is = absurd (none-some x is)

-- what something is made into is made of it
record Mapped {X Y : Type 0} (f : X → Y) (o : Option X) (y : Y) : Type 0 where
  from : X
  there : o ≡ Some from
  made : f from ≡ y

mapped : {X Y : Type 0} (f : X → Y) (o : Option X) (y : Y) → option_map f o ≡ Some y → Mapped f o y
mapped f None y is = absurd (none-some y is)
mapped f (Some x) y is = record { from = x; there = refl; made = same_Some (f x) y is }

-- a command of one operand, or of two
of_one : (front : List ℕ) (behind : List (List ℕ)) (a : Asking) (kind : List ℕ → Command) (c : Command)
    → ((word : List ℕ) → Stands behind (word ∷ []) None None None → Asks (front ∷ behind) (kind word))
    → Stands behind a.operands a.input a.trace a.steps
    → option_map kind (only_operand a.operands a) ≡ Some c → Asks (front ∷ behind) c
of_one front behind a kind c asks s is =
    let m = mapped kind (only_operand a.operands a) c is in
    subst (Asks (front ∷ behind)) m.made (asks m.from (alone behind a.operands a.awaited a.input a.trace a.steps m.from s m.there))

of_two : (front : List ℕ) (behind : List (List ℕ)) (a : Asking) (kind : List ℕ → List ℕ → Command) (c : Command)
    → ((first second : List ℕ) → Stands behind (first ∷ (second ∷ [])) None None None → Asks (front ∷ behind) (kind first second))
    → Stands behind a.operands a.input a.trace a.steps
    → option_map (λ x. kind x.0 x.1) (two_operands a.operands a) ≡ Some c → Asks (front ∷ behind) c
of_two front behind a kind c asks s is =
    let m = mapped (λ x. kind x.0 x.1) (two_operands a.operands a) c is in
    subst (Asks (front ∷ behind)) m.made (asks m.from.0 m.from.1 (both behind a.operands a.awaited a.input a.trace a.steps m.from s m.there))

output_meant : (behind : List (List ℕ)) (a : Asking) (c : Command) → Stands behind a.operands a.input a.trace a.steps
    → output a ≡ Some c → Asks (codes "output" ∷ behind) c
unfolding output
output_meant behind a c s is = of_one (codes "output") behind a Output c (λ word t. words.output t.spells t.hold) s is

questions_meant : (behind : List (List ℕ)) (a : Asking) (c : Command) → Stands behind a.operands a.input a.trace a.steps
    → questions a ≡ Some c → Asks (codes "questions" ∷ behind) c
unfolding questions
questions_meant behind a c s is = of_one (codes "questions") behind a Questions c (λ word t. words.questions t.spells t.hold) s is

explore_meant : (behind : List (List ℕ)) (a : Asking) (c : Command) → Stands behind a.operands a.input a.trace a.steps
    → explore a ≡ Some c → Asks (codes "explore" ∷ behind) c
unfolding explore
explore_meant behind a c s is = of_one (codes "explore") behind a Explore c (λ word t. words.explore t.spells t.hold) s is

audit_meant : (behind : List (List ℕ)) (a : Asking) (c : Command) → Stands behind a.operands a.input a.trace a.steps
    → audit a ≡ Some c → Asks (codes "audit" ∷ behind) c
unfolding audit
audit_meant behind a c s is = of_one (codes "audit") behind a Audit c (λ word t. words.audit t.spells t.hold) s is

gen_meant : (behind : List (List ℕ)) (a : Asking) (c : Command) → Stands behind a.operands a.input a.trace a.steps
    → generated a ≡ Some c → Asks (codes "gen" ∷ behind) c
unfolding generated
gen_meant behind a c s is =
    let m = mapped Gen (option_and_then (number_up_to 2000) (only_operand a.operands a)) c is in
    option_and_then_some (number_up_to 2000) (only_operand a.operands a) m.from m.there (λ word there number.
    let t = alone behind a.operands a.awaited a.input a.trace a.steps word s there in
    subst (Asks (codes "gen" ∷ behind)) m.made (words.generated t.spells t.hold number))

why_meant : (behind : List (List ℕ)) (a : Asking) (c : Command) → Stands behind a.operands a.input a.trace a.steps
    → why a ≡ Some c → Asks (codes "why" ∷ behind) c
unfolding why
why_meant behind a c s is = of_two (codes "why") behind a Why c (λ first second t. words.why t.spells t.hold) s is

whynot_meant : (behind : List (List ℕ)) (a : Asking) (c : Command) → Stands behind a.operands a.input a.trace a.steps
    → whynot a ≡ Some c → Asks (codes "whynot" ∷ behind) c
unfolding whynot
whynot_meant behind a c s is = of_two (codes "whynot") behind a WhyNot c (λ first second t. words.whynot t.spells t.hold) s is

affects_meant : (behind : List (List ℕ)) (a : Asking) (c : Command) → Stands behind a.operands a.input a.trace a.steps
    → affects a ≡ Some c → Asks (codes "affects" ∷ behind) c
unfolding affects
affects_meant behind a c s is = of_two (codes "affects") behind a Affects c (λ first second t. words.affects t.spells t.hold) s is

certify_meant : (behind : List (List ℕ)) (a : Asking) (c : Command) → Stands behind a.operands a.input a.trace a.steps
    → certify a ≡ Some c → Asks (codes "certify" ∷ behind) c
unfolding certify
certify_meant behind a c s is = of_two (codes "certify") behind a Certify c (λ first second t. words.certify t.spells t.hold) s is

check_meant : (behind : List (List ℕ)) (a : Asking) (c : Command) → Stands behind a.operands a.input a.trace a.steps
    → check a ≡ Some c → Asks (codes "check" ∷ behind) c
unfolding check
check_meant behind a c s is = of_two (codes "check") behind a Check c (λ first second t. words.check t.spells t.hold) s is

scope_meant : (behind : List (List ℕ)) (a : Asking) (c : Command) → Stands behind a.operands a.input a.trace a.steps
    → scope a ≡ Some c → Asks (codes "scope" ∷ behind) c
unfolding scope scope_of
scope_meant behind a c s is =
    option_and_then_some scope_of (three_operands a.operands a) c is (λ x there numbered.
    let m = mapped (Scope x.0 x.1) (event_number x.2) c numbered in
    let t = all_three behind a.operands a.awaited a.input a.trace a.steps x s there in
    subst (Asks (codes "scope" ∷ behind)) m.made (words.scope t.spells t.hold m.there))

-- a command by its name
by_name : (name front : List ℕ) (behind : List (List ℕ)) (c : Command) → bytes_eq name front ≡ true → Asks (front ∷ behind) c → Asks (name ∷ behind) c
by_name name front behind c same h = subst (λ n. Asks (n ∷ behind) c) (sym ((bytes_eq-Decides name front).0 same)) h

command_meant : (name : List ℕ) (behind : List (List ℕ)) (a : Asking) (c : Command) → Stands behind a.operands a.input a.trace a.steps
    → command_named name a ≡ Some c → Asks (name ∷ behind) c
unfolding command_named over_trace
command_meant name behind a c s is =
    go (bytes_eq name (codes "run")) (bytes_eq name (codes "record")) (bytes_eq name (codes "migrate")) (bytes_eq name (codes "gen")) (bytes_eq name (codes "output")) (bytes_eq name (codes "why")) (bytes_eq name (codes "whynot")) (bytes_eq name (codes "affects")) (bytes_eq name (codes "certify")) (bytes_eq name (codes "check")) (bytes_eq name (codes "scope")) (bytes_eq name (codes "questions")) (bytes_eq name (codes "explore")) (bytes_eq name (codes "audit"))
    refl refl refl refl refl refl refl refl refl refl refl refl refl refl is
  where
    go : (b0 b1 b2 b3 b4 b5 b6 b7 b8 b9 b10 b11 b12 b13 : Bool) → bytes_eq name (codes "run") ≡ b0 → bytes_eq name (codes "record") ≡ b1 → bytes_eq name (codes "migrate") ≡ b2 → bytes_eq name (codes "gen") ≡ b3 → bytes_eq name (codes "output") ≡ b4 → bytes_eq name (codes "why") ≡ b5 → bytes_eq name (codes "whynot") ≡ b6 → bytes_eq name (codes "affects") ≡ b7 → bytes_eq name (codes "certify") ≡ b8 → bytes_eq name (codes "check") ≡ b9 → bytes_eq name (codes "scope") ≡ b10 → bytes_eq name (codes "questions") ≡ b11 → bytes_eq name (codes "explore") ≡ b12 → bytes_eq name (codes "audit") ≡ b13
        → (if b0 then run a else (if b1 then recording a.trace a else (if b2 then migrating a.trace a else (if b3 then generated a else (if b4 then output a else (if b5 then why a else (if b6 then whynot a else (if b7 then affects a else (if b8 then certify a else (if b9 then check a else (if b10 then scope a else (if b11 then questions a else (if b12 then explore a else (if b13 then audit a else None)))))))))))))) ≡ Some c
        → Asks (name ∷ behind) c
    go true b1 b2 b3 b4 b5 b6 b7 b8 b9 b10 b11 b12 b13 e0 e1 e2 e3 e4 e5 e6 e7 e8 e9 e10 e11 e12 e13 e = by_name name (codes "run") behind c e0 (run_meant behind a.operands a.awaited a.input a.trace a.steps c s e)
    go false true b2 b3 b4 b5 b6 b7 b8 b9 b10 b11 b12 b13 e0 e1 e2 e3 e4 e5 e6 e7 e8 e9 e10 e11 e12 e13 e = by_name name (codes "record") behind c e1 (recording_meant behind a.operands a.awaited a.input a.trace a.steps c s e)
    go false false true b3 b4 b5 b6 b7 b8 b9 b10 b11 b12 b13 e0 e1 e2 e3 e4 e5 e6 e7 e8 e9 e10 e11 e12 e13 e = by_name name (codes "migrate") behind c e2 (migrating_meant behind a.operands a.awaited a.input a.trace a.steps c s e)
    go false false false true b4 b5 b6 b7 b8 b9 b10 b11 b12 b13 e0 e1 e2 e3 e4 e5 e6 e7 e8 e9 e10 e11 e12 e13 e = by_name name (codes "gen") behind c e3 (gen_meant behind a c s e)
    go false false false false true b5 b6 b7 b8 b9 b10 b11 b12 b13 e0 e1 e2 e3 e4 e5 e6 e7 e8 e9 e10 e11 e12 e13 e = by_name name (codes "output") behind c e4 (output_meant behind a c s e)
    go false false false false false true b6 b7 b8 b9 b10 b11 b12 b13 e0 e1 e2 e3 e4 e5 e6 e7 e8 e9 e10 e11 e12 e13 e = by_name name (codes "why") behind c e5 (why_meant behind a c s e)
    go false false false false false false true b7 b8 b9 b10 b11 b12 b13 e0 e1 e2 e3 e4 e5 e6 e7 e8 e9 e10 e11 e12 e13 e = by_name name (codes "whynot") behind c e6 (whynot_meant behind a c s e)
    go false false false false false false false true b8 b9 b10 b11 b12 b13 e0 e1 e2 e3 e4 e5 e6 e7 e8 e9 e10 e11 e12 e13 e = by_name name (codes "affects") behind c e7 (affects_meant behind a c s e)
    go false false false false false false false false true b9 b10 b11 b12 b13 e0 e1 e2 e3 e4 e5 e6 e7 e8 e9 e10 e11 e12 e13 e = by_name name (codes "certify") behind c e8 (certify_meant behind a c s e)
    go false false false false false false false false false true b10 b11 b12 b13 e0 e1 e2 e3 e4 e5 e6 e7 e8 e9 e10 e11 e12 e13 e = by_name name (codes "check") behind c e9 (check_meant behind a c s e)
    go false false false false false false false false false false true b11 b12 b13 e0 e1 e2 e3 e4 e5 e6 e7 e8 e9 e10 e11 e12 e13 e = by_name name (codes "scope") behind c e10 (scope_meant behind a c s e)
    go false false false false false false false false false false false true b12 b13 e0 e1 e2 e3 e4 e5 e6 e7 e8 e9 e10 e11 e12 e13 e = by_name name (codes "questions") behind c e11 (questions_meant behind a c s e)
    go false false false false false false false false false false false false true b13 e0 e1 e2 e3 e4 e5 e6 e7 e8 e9 e10 e11 e12 e13 e = by_name name (codes "explore") behind c e12 (explore_meant behind a c s e)
    go false false false false false false false false false false false false false true e0 e1 e2 e3 e4 e5 e6 e7 e8 e9 e10 e11 e12 e13 e = by_name name (codes "audit") behind c e13 (audit_meant behind a c s e)
    go false false false false false false false false false false false false false false e0 e1 e2 e3 e4 e5 e6 e7 e8 e9 e10 e11 e12 e13 e = absurd (none-some c e)

pub read_asked : (words : List (List ℕ)) (c : Command) → read_as words ≡ Some c → Asks words c
read_asked [] c is = absurd (none-some c is)
read_asked (name ∷ behind) c is =
    option_and_then_some (command_named name) (named_in behind) c is (λ a there e. command_meant name behind a c (named_stands behind a there) e)

-- ---- an answer that is exact

pub some_asked : (words : List (List ℕ)) (r : Option memory.Command) → option_map command_of r ≡ read_as words → IfSome r (λ c. Asks words (command_of c))
some_asked words None exact = tt
some_asked words (Some c) exact = read_asked words (command_of c) (sym exact)

pub none_asked : (words : List (List ℕ)) → read_as words ≡ None → IsNoCommand words
none_asked words none c h = none-some c (sym none ∙ asked_read words c h)
