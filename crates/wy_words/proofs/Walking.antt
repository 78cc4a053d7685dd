-- The walk over the words behind a command's name goes as they are read.
use Rattle.std.proofs.Common.{◌≡◌, ◌∙◌, ℕ, Bool, true, false, not, ◌&&◌, ◌||◌, List, [], ◌∷◌, ◌++◌, nat_eq, Option, Some, None, is_some, refl, sym, ap, subst, codes}
use Rattle.std.specs.Prelude.{if◌then◌else◌, bytes_eq, option_and_then, ⊤}
use Rattle.std.proofs.lemmas.Bool.{both_ways, false≢true}
use Rattle.std.specs.Char.{encode_utf8}
use Rattle.std.specs.Str.{chars}
use Rattle.clap.specs.Kinds.{Kinds, or_else}
use Rattle.clap.specs.Faults.{flags_fault, settle_fault, turn_fault}
use Rattle.clap.specs.Values.{reading_of}
use Rattle.clap.specs.Walk.{Row, Text, Walk, bundle_met, has_row, idle, option, settled_rows, walked, with_values, without}
use Rattle.clap.specs.declared.builder.value_parser.ValueParser.TheVariants as vp
use Rattle.clap.specs.declared.error.kind.ErrorKind.{ErrorKind}
use Rattle.clap.specs.declared.error.kind.ErrorKind.TheVariants as kind
use Rattle.clap.specs.declared.parser.matches.ValueSource.TheVariants.{CommandLine}
use Rattle.wy_words.specs.Awaited.{Awaited}
use Rattle.wy_words.specs.Awaited as awaited
use Rattle.wy_words.specs.Words.{is_plain, number_up_to, Part, Input, Operand, Trace, Steps}
use Rattle.wy_words.specs.Reading.{Asking, with_next, with_part, with_plain, with_steps, with_word}
use Rattle.wy_words.proofs.Spelled.{plain_next}
use Rattle.wy_words.proofs.Built.{reader, rules}
use Rattle.wy_words.proofs.Rows.{Has, has_added, has_kept, one_more, used_once}
use Rattle.wy_words.proofs.Steps.{at, held, first_fault, first_walked, second_fault, second_walked, third_fault, third_walked, fourth_fault, input_fault, input_walked, trace_fault, trace_walked, steps_fault, steps_walked, joined_fault, joined_walked, option_walked_input, option_walked_trace, option_walked_steps, option_fault_input, option_fault_trace, option_fault_steps}

-- ---- what is named

-- the operands so far
pub data Taken : Type 0 where
  nothing : Taken
  one : (word : Text) → Taken
  two : (word more : Text) → Taken
  three : (word more last : Text) → Taken

abbrev pub operands : Taken → List Text
operands nothing = []
operands (one word) = word ∷ []
operands (two word more) = word ∷ (more ∷ [])
operands (three word more last) = word ∷ (more ∷ (last ∷ []))

abbrev pub first_of_taken : Taken → Option Text
first_of_taken nothing = None
first_of_taken (one word) = Some word
first_of_taken (two word more) = Some word
first_of_taken (three word more last) = Some word

abbrev pub second_of_taken : Taken → Option Text
second_of_taken (two word more) = Some more
second_of_taken (three word more last) = Some more
second_of_taken _ = None

abbrev pub third_of_taken : Taken → Option Text
third_of_taken (three word more last) = Some last
third_of_taken _ = None

-- the place of the next operand
abbrev pub place : Taken → ℕ
place nothing = 1
place (one word) = 2
place (two word more) = 3
place (three word more last) = 4

abbrev pub asking : Awaited → Taken → Option Text → Option Text → Option ℕ → Asking
asking w t i o n = record { awaited = w; operands = operands t; input = i; trace = o; steps = n }

-- the number that a text writes, where there is one
abbrev pub IsNumber : Option Text → Option ℕ → Type 0
IsNumber None None = ⊤
IsNumber (Some word) (Some n) = number_up_to 50000000 word ≡ Some n
IsNumber _ _ = ⊥

-- the rows have what is named
pub record Agrees (rows : List Row) (t : Taken) (i o s : Option Text) : Type 0 where
  pub of_first : Has rows (codes "first") (first_of_taken t)
  pub of_second : Has rows (codes "second") (second_of_taken t)
  pub of_third : Has rows (codes "third") (third_of_taken t)
  pub of_input : Has rows (codes "input") i
  pub of_trace : Has rows (codes "trace") o
  pub of_steps : Has rows (codes "steps") s

first_more : (rows : List Row) (i o s : Option Text) (word : Text) → Agrees rows nothing i o s → Agrees (one_more (codes "first") word rows) (one word) i o s
first_more rows i o s word h = record {
  of_first = has_added (codes "first") word rows refl h.of_first;
  of_second = has_kept (codes "first") (codes "second") word rows None refl h.of_second;
  of_third = has_kept (codes "first") (codes "third") word rows None refl h.of_third;
  of_input = has_kept (codes "first") (codes "input") word rows i refl h.of_input;
  of_trace = has_kept (codes "first") (codes "trace") word rows o refl h.of_trace;
  of_steps = has_kept (codes "first") (codes "steps") word rows s refl h.of_steps;
}

second_more : (rows : List Row) (i o s : Option Text) (first word : Text) → Agrees rows (one first) i o s → Agrees (one_more (codes "second") word rows) (two first word) i o s
second_more rows i o s first word h = record {
  of_first = has_kept (codes "second") (codes "first") word rows (Some first) refl h.of_first;
  of_second = has_added (codes "second") word rows refl h.of_second;
  of_third = has_kept (codes "second") (codes "third") word rows None refl h.of_third;
  of_input = has_kept (codes "second") (codes "input") word rows i refl h.of_input;
  of_trace = has_kept (codes "second") (codes "trace") word rows o refl h.of_trace;
  of_steps = has_kept (codes "second") (codes "steps") word rows s refl h.of_steps;
}

third_more : (rows : List Row) (i o s : Option Text) (first second word : Text) → Agrees rows (two first second) i o s → Agrees (one_more (codes "third") word rows) (three first second word) i o s
third_more rows i o s first second word h = record {
  of_first = has_kept (codes "third") (codes "first") word rows (Some first) refl h.of_first;
  of_second = has_kept (codes "third") (codes "second") word rows (Some second) refl h.of_second;
  of_third = has_added (codes "third") word rows refl h.of_third;
  of_input = has_kept (codes "third") (codes "input") word rows i refl h.of_input;
  of_trace = has_kept (codes "third") (codes "trace") word rows o refl h.of_trace;
  of_steps = has_kept (codes "third") (codes "steps") word rows s refl h.of_steps;
}

input_more : (rows : List Row) (t : Taken) (o s : Option Text) (word : Text) → Agrees rows t None o s → Agrees (one_more (codes "input") word rows) t (Some word) o s
input_more rows t o s word h = record {
  of_first = has_kept (codes "input") (codes "first") word rows (first_of_taken t) refl h.of_first;
  of_second = has_kept (codes "input") (codes "second") word rows (second_of_taken t) refl h.of_second;
  of_third = has_kept (codes "input") (codes "third") word rows (third_of_taken t) refl h.of_third;
  of_input = has_added (codes "input") word rows refl h.of_input;
  of_trace = has_kept (codes "input") (codes "trace") word rows o refl h.of_trace;
  of_steps = has_kept (codes "input") (codes "steps") word rows s refl h.of_steps;
}

trace_more : (rows : List Row) (t : Taken) (i s : Option Text) (word : Text) → Agrees rows t i None s → Agrees (one_more (codes "trace") word rows) t i (Some word) s
trace_more rows t i s word h = record {
  of_first = has_kept (codes "trace") (codes "first") word rows (first_of_taken t) refl h.of_first;
  of_second = has_kept (codes "trace") (codes "second") word rows (second_of_taken t) refl h.of_second;
  of_third = has_kept (codes "trace") (codes "third") word rows (third_of_taken t) refl h.of_third;
  of_input = has_kept (codes "trace") (codes "input") word rows i refl h.of_input;
  of_trace = has_added (codes "trace") word rows refl h.of_trace;
  of_steps = has_kept (codes "trace") (codes "steps") word rows s refl h.of_steps;
}

steps_more : (rows : List Row) (t : Taken) (i o : Option Text) (word : Text) → Agrees rows t i o None → Agrees (one_more (codes "steps") word rows) t i o (Some word)
steps_more rows t i o word h = record {
  of_first = has_kept (codes "steps") (codes "first") word rows (first_of_taken t) refl h.of_first;
  of_second = has_kept (codes "steps") (codes "second") word rows (second_of_taken t) refl h.of_second;
  of_third = has_kept (codes "steps") (codes "third") word rows (third_of_taken t) refl h.of_third;
  of_input = has_kept (codes "steps") (codes "input") word rows i refl h.of_input;
  of_trace = has_kept (codes "steps") (codes "trace") word rows o refl h.of_trace;
  of_steps = has_added (codes "steps") word rows refl h.of_steps;
}

-- ---- an argument is used

pub data Which : Type 0 where
  first : Which
  second : Which
  third : Which
  input : Which
  trace : Which
  steps : Which

abbrev pub id_of : Which → Text
id_of first = codes "first"
id_of second = codes "second"
id_of third = codes "third"
id_of input = codes "input"
id_of trace = codes "trace"
id_of steps = codes "steps"

-- a second use is refused
abbrev conflict : Bool → Kinds
conflict again = or_else (if again && true then kind.ArgumentConflict ∷ [] else []) []

use_settles : (k : Which) (rows : List Row) (word : Text) → settle_fault rules false (held rows (Some (id_of k, word ∷ []))) ≡ conflict (has_row (id_of k) rows)
use_settles first rows word = refl
use_settles second rows word = refl
use_settles third rows word = refl
use_settles input rows word = refl
use_settles trace rows word = refl
use_settles steps rows word = refl

use_rows : (k : Which) (rows : List Row) (word : Text)
    → settled_rows rules (Some (id_of k, word ∷ [])) rows ≡ with_values (id_of k) (reading_of vp.String) CommandLine (word ∷ []) (without (id_of k) rows)
use_rows first rows word = refl
use_rows second rows word = refl
use_rows third rows word = refl
use_rows input rows word = refl
use_rows trace rows word = refl
use_rows steps rows word = refl

quiet : (k : Which) (rows : List Row) (word : Text) → has_row (id_of k) rows ≡ false → settle_fault rules false (held rows (Some (id_of k, word ∷ []))) ≡ []
quiet k rows word none = use_settles k rows word ∙ ap conflict none

abbrev pub is_nil : Kinds → Bool
is_nil [] = true
is_nil (x ∷ xs) = false

pub some_kind : (x : ErrorKind) (xs ks : Kinds) → ks ≡ x ∷ xs → ks ≡ [] → ⊥
some_kind x xs ks is none = both_ways (is_nil ks) (ap is_nil is) (ap is_nil none)

loud : (k : Which) (rows : List Row) (word : Text) → has_row (id_of k) rows ≡ true → settle_fault rules false (held rows (Some (id_of k, word ∷ []))) ≡ [] → ⊥
loud k rows word again = some_kind kind.ArgumentConflict [] _ (use_settles k rows word ∙ ap conflict again)

used_rows : (k : Which) (rows : List Row) (word : Text) → has_row (id_of k) rows ≡ false → settled_rows rules (Some (id_of k, word ∷ [])) rows ≡ one_more (id_of k) word rows
used_rows k rows word none = use_rows k rows word ∙ used_once (id_of k) word rows none

-- ---- one word more

-- a word as the table has it; a joined number is one
pub data Kind : Text → Type 0 where
  plain : {b : ℕ} {rest : Text} → nat_eq b 45 ≡ false → Kind (b ∷ rest)
  input_option : Kind (codes "-i")
  trace_option : Kind (codes "-o")
  steps_option : Kind (codes "--steps")
  joined_steps : {word : Text} {n : ℕ} → number_up_to 50000000 word ≡ Some n → Kind (codes "--steps=" ++ word)

-- the walk stands where the reading stands
pub data Stand : Asking → Walk → Type 0 where
  ready : {t : Taken} {i o s : Option Text} {n : Option ℕ} {rows : List Row} {p : Option (Text × List Text)}
      → settle_fault rules false (held rows p) ≡ [] → Agrees (settled_rows rules p rows) t i o s → IsNumber s n
      → Stand (asking awaited.Word t i o n) (at rows p idle (place t))
  awaits_input : {t : Taken} {i o s : Option Text} {n : Option ℕ} {rows : List Row} → Agrees rows t i o s → IsNumber s n
      → Stand (asking awaited.Input t i o n) (at rows (Some (codes "input", [])) (option (codes "input")) (place t))
  awaits_trace : {t : Taken} {i o s : Option Text} {n : Option ℕ} {rows : List Row} → Agrees rows t i o s → IsNumber s n
      → Stand (asking awaited.Trace t i o n) (at rows (Some (codes "trace", [])) (option (codes "trace")) (place t))
  awaits_steps : {t : Taken} {i o s : Option Text} {n : Option ℕ} {rows : List Row} → Agrees rows t i o s → IsNumber s n
      → Stand (asking awaited.Steps t i o n) (at rows (Some (codes "steps", [])) (option (codes "steps")) (place t))

-- an option was used twice: the walk fails at the next word, or at the end
pub data Doomed : Walk → Type 0 where
  doomed : {rows : List Row} {p : Option (Text × List Text)} (t : Taken) → (settle_fault rules false (held rows p) ≡ [] → ⊥) → Doomed (at rows p idle (place t))

abbrev pub awaits : Awaited → Bool
awaits awaited.Steps = true
awaits _ = false

pub data Moved (name : Text) (a : Asking) (w : Walk) (word : Text) : Type 0 where
  moved : (b : Asking) (x : Walk) → turn_fault (reader name) [] w word ≡ [] → walked rules [] w word ≡ x → with_next a.awaited a word ≡ Some b
      → awaits b.awaited ≡ bytes_eq word (codes "--steps") → Stand b x → Moved name a w word
  fell : (x : Walk) → turn_fault (reader name) [] w word ≡ [] → walked rules [] w word ≡ x → with_next a.awaited a word ≡ None → Doomed x → Moved name a w word
  refused : (turn_fault (reader name) [] w word ≡ [] → ⊥) → with_next a.awaited a word ≡ None → Moved name a w word

no_steps : (b : ℕ) (rest : Text) → nat_eq b 45 ≡ false → false ≡ bytes_eq (b ∷ rest) (codes "--steps")
no_steps b rest far = sym (ap (λ v. v && bytes_eq rest (codes "-steps")) far)

plain_is : (b : ℕ) (rest : Text) → nat_eq b 45 ≡ false → is_plain (b ∷ rest) ≡ true
unfolding is_plain
plain_is b rest far = ap not far

operand_next : (a : Asking) (b : ℕ) (rest : Text) (o : Option Asking) → nat_eq b 45 ≡ false → with_part a (Operand (b ∷ rest)) ≡ o → with_next awaited.Word a (b ∷ rest) ≡ o
operand_next a b rest o far is = plain_next a (b ∷ rest) (plain_is b rest far) ∙ is

value_next : (a : Asking) (kind : Text → Part) (b : ℕ) (rest : Text) (o : Option Asking) → nat_eq b 45 ≡ false → with_part a (kind (b ∷ rest)) ≡ o → with_plain a kind (b ∷ rest) ≡ o
unfolding with_plain
value_next a kind b rest o far is = ap (λ v. if v then with_part a (kind (b ∷ rest)) else None) (plain_is b rest far) ∙ is

dash_next : (a : Asking) (kind : Text → Part) (rest : Text) → with_plain a kind (45 ∷ rest) ≡ None
unfolding with_plain is_plain
dash_next a kind rest = refl

no_digit_next : (a : Asking) (rest : Text) → with_steps a (45 ∷ rest) ≡ None
unfolding with_steps number_up_to
no_digit_next a rest = refl

or_nothing : (ks : Kinds) → ks ≡ [] → or_else ks [] ≡ []
or_nothing ks none = ap (λ x. or_else x []) none

-- an operand more
plain_moved : (name : Text) (t : Taken) (i o s : Option Text) (n : Option ℕ) (rows : List Row) (p : Option (Text × List Text)) (b : ℕ) (rest : Text)
    → nat_eq b 45 ≡ false → settle_fault rules false (held rows p) ≡ [] → Agrees (settled_rows rules p rows) t i o s → IsNumber s n
    → Moved name (asking awaited.Word t i o n) (at rows p idle (place t)) (b ∷ rest)
unfolding with_part
plain_moved name nothing i o s n rows p b rest far still h number =
    let word : Text = b ∷ rest in
    let before : List Row = settled_rows rules p rows in
    moved (asking awaited.Word (one word) i o n) _ (first_fault name rows p b rest far ∙ still) (first_walked rows p b rest far)
    (operand_next _ b rest _ far refl) (no_steps b rest far)
    (ready {t = one word} (quiet first before word h.of_first.there)
    (subst (λ x. Agrees x (one word) i o s) (sym (used_rows first before word h.of_first.there)) (first_more before i o s word h)) number)
plain_moved name (one head) i o s n rows p b rest far still h number =
    let word : Text = b ∷ rest in
    let before : List Row = settled_rows rules p rows in
    moved (asking awaited.Word (two head word) i o n) _ (second_fault name rows p b rest far ∙ still) (second_walked rows p b rest far)
    (operand_next _ b rest _ far refl) (no_steps b rest far)
    (ready {t = two head word} (quiet second before word h.of_second.there)
    (subst (λ x. Agrees x (two head word) i o s) (sym (used_rows second before word h.of_second.there)) (second_more before i o s head word h)) number)
plain_moved name (two head more) i o s n rows p b rest far still h number =
    let word : Text = b ∷ rest in
    let before : List Row = settled_rows rules p rows in
    moved (asking awaited.Word (three head more word) i o n) _ (third_fault name rows p b rest far ∙ still) (third_walked rows p b rest far)
    (operand_next _ b rest _ far refl) (no_steps b rest far)
    (ready {t = three head more word} (quiet third before word h.of_third.there)
    (subst (λ x. Agrees x (three head more word) i o s) (sym (used_rows third before word h.of_third.there)) (third_more before i o s head more word h)) number)
plain_moved name (three head more last) i o s n rows p b rest far still h number =
    refused (some_kind kind.UnknownArgument [] _ (fourth_fault name rows p b rest far)) (operand_next _ b rest _ far refl)

abbrev joined : Text → Text
joined word = codes "--steps=" ++ word

joined_next : (a : Asking) (word : Text) (n : ℕ) (o : Option Asking) → number_up_to 50000000 word ≡ Some n → with_part a (Steps n) ≡ o → with_next awaited.Word a (joined word) ≡ o
unfolding with_next with_word with_steps
joined_next a word n o number is = ap (option_and_then (λ k. with_part a (Steps k))) number ∙ is

joined_moved : (name : Text) (t : Taken) (i o s : Option Text) (m : Option ℕ) (rows : List Row) (p : Option (Text × List Text)) (word : Text) (n : ℕ)
    → number_up_to 50000000 word ≡ Some n → settle_fault rules false (held rows p) ≡ [] → Agrees (settled_rows rules p rows) t i o s → IsNumber s m
    → Moved name (asking awaited.Word t i o m) (at rows p idle (place t)) (joined word)
unfolding with_part
joined_moved name t i o None None rows p word n number still h is =
    let before : List Row = settled_rows rules p rows in
    let none = h.of_steps.there in
    moved (asking awaited.Word t i o (Some n)) _
    (joined_fault name rows p (place t) word ∙ ap (λ x. or_else (or_else x (conflict (has_row (codes "steps") before))) []) still ∙ ap (λ v. or_else (conflict v) []) none)
    (joined_walked rows p (place t) word ∙ ap (λ x. at x None idle (place t)) (used_once (codes "steps") word before none))
    (joined_next _ word n _ number refl) refl
    (ready {t = t} {s = Some word} {n = Some n} refl (steps_more before t i o word h) number)
joined_moved name t i o (Some head) (Some m) rows p word n number still h is =
    let before : List Row = settled_rows rules p rows in
    refused (some_kind kind.ArgumentConflict [] _
    (joined_fault name rows p (place t) word ∙ ap (λ x. or_else (or_else x (conflict (has_row (codes "steps") before))) []) still ∙ ap (λ v. or_else (conflict v) []) h.of_steps.there))
    (joined_next _ word n _ number refl)
joined_moved name t i o None (Some m) rows p word n number still h is = absurd is
joined_moved name t i o (Some head) None rows p word n number still h is = absurd is

ready_moved : (name : Text) (t : Taken) (i o s : Option Text) (n : Option ℕ) (rows : List Row) (p : Option (Text × List Text)) (word : Text) → Kind word
    → settle_fault rules false (held rows p) ≡ [] → Agrees (settled_rows rules p rows) t i o s → IsNumber s n
    → Moved name (asking awaited.Word t i o n) (at rows p idle (place t)) word
unfolding with_next with_word
ready_moved name t i o s n rows p _ (plain {b = b} {rest = rest} far) still h number = plain_moved name t i o s n rows p b rest far still h number
ready_moved name t i o s n rows p _ input_option still h number =
    moved (asking awaited.Input t i o n) _ (input_fault name rows p (place t) ∙ or_nothing _ still) (input_walked rows p (place t)) refl refl (awaits_input h number)
ready_moved name t i o s n rows p _ trace_option still h number =
    moved (asking awaited.Trace t i o n) _ (trace_fault name rows p (place t) ∙ or_nothing _ still) (trace_walked rows p (place t)) refl refl (awaits_trace h number)
ready_moved name t i o s n rows p _ steps_option still h number =
    moved (asking awaited.Steps t i o n) _ (steps_fault name rows p (place t) ∙ or_nothing _ still) (steps_walked rows p (place t)) refl refl (awaits_steps h number)
ready_moved name t i o s n rows p _ (joined_steps {word = word} {n = k} is) still h number = joined_moved name t i o s n rows p word k is still h number

input_moved : (name : Text) (t : Taken) (i o s : Option Text) (n : Option ℕ) (rows : List Row) (word : Text) → Kind word → Agrees rows t i o s → IsNumber s n
    → Moved name (asking awaited.Input t i o n) (at rows (Some (codes "input", [])) (option (codes "input")) (place t)) word
unfolding with_next with_part flags_fault bundle_met chars encode_utf8
input_moved name t None o s n rows _ (plain {b = b} {rest = rest} far) h number =
    let word : Text = b ∷ rest in
    moved (asking awaited.Word t (Some word) o n) _ (option_fault_input name rows (place t) b rest far) (option_walked_input rows (place t) b rest far) (value_next _ Input b rest _ far refl) (no_steps b rest far)
    (ready {t = t} (quiet input rows word h.of_input.there)
    (subst (λ x. Agrees x t (Some word) o s) (sym (used_rows input rows word h.of_input.there)) (input_more rows t o s word h)) number)
input_moved name t (Some head) o s n rows _ (plain {b = b} {rest = rest} far) h number =
    fell _ (option_fault_input name rows (place t) b rest far) (option_walked_input rows (place t) b rest far) (value_next _ Input b rest _ far refl)
    (doomed t (loud input rows (b ∷ rest) h.of_input.there))
input_moved name t i o s n rows _ input_option h number = refused (some_kind kind.InvalidValue [] _ refl) (dash_next _ Input _)
input_moved name t i o s n rows _ trace_option h number = refused (some_kind kind.InvalidValue [] _ refl) (dash_next _ Input _)
input_moved name t i o s n rows _ steps_option h number = refused (some_kind kind.InvalidValue [] _ refl) (dash_next _ Input _)
input_moved name t i o s n rows _ (joined_steps {word = word} is) h number = refused (some_kind kind.InvalidValue [] _ refl) (dash_next _ Input _)

trace_moved : (name : Text) (t : Taken) (i o s : Option Text) (n : Option ℕ) (rows : List Row) (word : Text) → Kind word → Agrees rows t i o s → IsNumber s n
    → Moved name (asking awaited.Trace t i o n) (at rows (Some (codes "trace", [])) (option (codes "trace")) (place t)) word
unfolding with_next with_part flags_fault bundle_met chars encode_utf8
trace_moved name t i None s n rows _ (plain {b = b} {rest = rest} far) h number =
    let word : Text = b ∷ rest in
    moved (asking awaited.Word t i (Some word) n) _ (option_fault_trace name rows (place t) b rest far) (option_walked_trace rows (place t) b rest far) (value_next _ Trace b rest _ far refl) (no_steps b rest far)
    (ready {t = t} (quiet trace rows word h.of_trace.there)
    (subst (λ x. Agrees x t i (Some word) s) (sym (used_rows trace rows word h.of_trace.there)) (trace_more rows t i s word h)) number)
trace_moved name t i (Some head) s n rows _ (plain {b = b} {rest = rest} far) h number =
    fell _ (option_fault_trace name rows (place t) b rest far) (option_walked_trace rows (place t) b rest far) (value_next _ Trace b rest _ far refl)
    (doomed t (loud trace rows (b ∷ rest) h.of_trace.there))
trace_moved name t i o s n rows _ input_option h number = refused (some_kind kind.InvalidValue [] _ refl) (dash_next _ Trace _)
trace_moved name t i o s n rows _ trace_option h number = refused (some_kind kind.InvalidValue [] _ refl) (dash_next _ Trace _)
trace_moved name t i o s n rows _ steps_option h number = refused (some_kind kind.InvalidValue [] _ refl) (dash_next _ Trace _)
trace_moved name t i o s n rows _ (joined_steps {word = word} is) h number = refused (some_kind kind.InvalidValue [] _ refl) (dash_next _ Trace _)

steps_next : (a : Asking) (word : Text) (n : ℕ) (o : Option Asking) → number_up_to 50000000 word ≡ Some n → with_part a (Steps n) ≡ o → with_steps a word ≡ o
unfolding with_steps
steps_next a word n o number is = ap (option_and_then (λ k. with_part a (Steps k))) number ∙ is

-- a word that an option of steps awaits is their number
steps_moved : (name : Text) (t : Taken) (i o s : Option Text) (n : Option ℕ) (rows : List Row) (word : Text) (k : ℕ) → Kind word → number_up_to 50000000 word ≡ Some k
    → Agrees rows t i o s → IsNumber s n
    → Moved name (asking awaited.Steps t i o n) (at rows (Some (codes "steps", [])) (option (codes "steps")) (place t)) word
unfolding with_next with_part flags_fault bundle_met chars encode_utf8
steps_moved name t i o None None rows _ k (plain {b = b} {rest = rest} far) is h number =
    let word : Text = b ∷ rest in
    moved (asking awaited.Word t i o (Some k)) _ (option_fault_steps name rows (place t) b rest far) (option_walked_steps rows (place t) b rest far) (steps_next _ word k _ is refl) (no_steps b rest far)
    (ready {t = t} {s = Some word} {n = Some k} (quiet steps rows word h.of_steps.there)
    (subst (λ x. Agrees x t i o (Some word)) (sym (used_rows steps rows word h.of_steps.there)) (steps_more rows t i o word h)) is)
steps_moved name t i o (Some head) (Some m) rows _ k (plain {b = b} {rest = rest} far) is h number =
    fell _ (option_fault_steps name rows (place t) b rest far) (option_walked_steps rows (place t) b rest far) (steps_next _ (b ∷ rest) k _ is refl)
    (doomed t (loud steps rows (b ∷ rest) h.of_steps.there))
steps_moved name t i o None (Some m) rows _ k (plain far) is h number = absurd number
steps_moved name t i o (Some head) None rows _ k (plain far) is h number = absurd number
steps_moved name t i o s n rows _ k input_option is h number = refused (some_kind kind.InvalidValue [] _ refl) (no_digit_next _ _)
steps_moved name t i o s n rows _ k trace_option is h number = refused (some_kind kind.InvalidValue [] _ refl) (no_digit_next _ _)
steps_moved name t i o s n rows _ k steps_option is h number = refused (some_kind kind.InvalidValue [] _ refl) (no_digit_next _ _)
steps_moved name t i o s n rows _ k (joined_steps {word = word} joined) is h number = refused (some_kind kind.InvalidValue [] _ refl) (no_digit_next _ _)

pub number_there : (o : Option ℕ) → is_some o ≡ true → (n : ℕ) × (o ≡ Some n)
number_there (Some n) is = (n, refl)
number_there None is = absurd (false≢true is)

pub one_step : (name : Text) (a : Asking) (w : Walk) (word : Text) → Stand a w → Kind word → (not (awaits a.awaited) || is_some (number_up_to 50000000 word)) ≡ true → Moved name a w word
one_step name _ _ word (ready {t = t} {i = i} {o = o} {s = s} {n = n} {rows = rows} {p = p} still h number) kind fits = ready_moved name t i o s n rows p word kind still h number
one_step name _ _ word (awaits_input {t = t} {i = i} {o = o} {s = s} {n = n} {rows = rows} h number) kind fits = input_moved name t i o s n rows word kind h number
one_step name _ _ word (awaits_trace {t = t} {i = i} {o = o} {s = s} {n = n} {rows = rows} h number) kind fits = trace_moved name t i o s n rows word kind h number
one_step name _ _ word (awaits_steps {t = t} {i = i} {o = o} {s = s} {n = n} {rows = rows} h number) kind fits =
    let k = number_there (number_up_to 50000000 word) fits in
    steps_moved name t i o s n rows word k.0 kind k.1 h number

pub left_of : (x y : Kinds) → or_else x y ≡ [] → x ≡ []
left_of [] y is = refl
left_of (k ∷ ks) y is = absurd (some_kind k ks (k ∷ ks) refl is)

place_fault : (name : Text) (t : Taken) (rows : List Row) (p : Option (Text × List Text)) (b : ℕ) (rest : Text) → nat_eq b 45 ≡ false
    → turn_fault (reader name) [] (at rows p idle (place t)) (b ∷ rest) ≡ [] → settle_fault rules false (held rows p) ≡ []
place_fault name nothing rows p b rest far is = sym (first_fault name rows p b rest far) ∙ is
place_fault name (one word) rows p b rest far is = sym (second_fault name rows p b rest far) ∙ is
place_fault name (two word more) rows p b rest far is = sym (third_fault name rows p b rest far) ∙ is
place_fault name (three word more last) rows p b rest far is = absurd (some_kind kind.UnknownArgument [] _ (fourth_fault name rows p b rest far) is)

pub doomed_turn : (name : Text) (w : Walk) (word : Text) → Doomed w → Kind word → turn_fault (reader name) [] w word ≡ [] → ⊥
doomed_turn name _ _ (doomed {rows = rows} {p = p} t bad) (plain {b = b} {rest = rest} far) is = bad (place_fault name t rows p b rest far is)
doomed_turn name _ _ (doomed {rows = rows} {p = p} t bad) input_option is = bad (left_of _ [] (sym (input_fault name rows p (place t)) ∙ is))
doomed_turn name _ _ (doomed {rows = rows} {p = p} t bad) trace_option is = bad (left_of _ [] (sym (trace_fault name rows p (place t)) ∙ is))
doomed_turn name _ _ (doomed {rows = rows} {p = p} t bad) steps_option is = bad (left_of _ [] (sym (steps_fault name rows p (place t)) ∙ is))
doomed_turn name _ _ (doomed {rows = rows} {p = p} t bad) (joined_steps {word = word} number) is =
    bad (left_of _ _ (left_of _ [] (sym (joined_fault name rows p (place t) word) ∙ is)))
