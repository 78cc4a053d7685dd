-- The faults and the matches of the table are those of the words' reading.
use Rattle.std.proofs.Common.{◌≡◌, ◌∙◌, ℕ, Bool, true, false, ◌&&◌, ◌||◌, List, [], ◌∷◌, ◌++◌, nat_eq, map, Option, Some, None, is_some, refl, sym, ap, subst, codes}
use Rattle.std.specs.Prelude.{if◌then◌else◌, bytes_eq, find, fold, option_and_then, option_map}
use Rattle.std.specs.List.{list_any}
use Rattle.std.specs.Option.{option_map_or}
use Rattle.std.specs.Char.{encode_utf8}
use Rattle.std.specs.Str.{chars}
use Rattle.std.proofs.lemmas.Bool.{both_ways, false≢true}
use Rattle.std.proofs.lemmas.List.{append_assoc, append-nil}
use Rattle.std.proofs.lemmas.Slice.Eq.{bytes_eq-Decides}
use Rattle.clap.specs.Kinds.{Kinds, or_else}
use Rattle.clap.specs.Lexer.{long_of_rest, short_of_rest, strip_byte}
use Rattle.clap.specs.Faults.{bundle_fault, check_fault, defaults_fault, entered_fault, fault_of, flag_word_fault, flags_fault, level_fault, other_fault, settle_fault, step_fault, turn_fault, walk_fault}
use Rattle.clap.specs.Walk.{Held, Names, Row, Text, Walk, answers_to, bundle_met, first_of, finished, idle, long_or_other, nothing_held, settled, short_or_plain, subcommand_or_other, trailing, walk_from, walked, after_step}
use Rattle.clap.specs.Simple.{Shape, entered, label_of, subcommand_of}
use Rattle.clap.specs.declared.error.kind.ErrorKind.TheVariants as kind
use Rattle.wy_words.specs.Awaited as awaited
use Rattle.wy_words.specs.Words.{Command, Asks}
use Rattle.wy_words.specs.Words as words
use Rattle.wy_words.specs.Reading.{Asking, are_spelled, command_named, named_in}
use Rattle.wy_words.specs.Found.{asking_in, command_in, operands_in, steps_in}
use Rattle.wy_words.specs.Table.{names, table}
use Rattle.wy_words.proofs.Built.{built_table, reader}
use Rattle.wy_words.proofs.Steps.{and_false}
use Rattle.wy_words.proofs.Walking.{Agrees, IsNumber, Kind, Stand, Taken, asking, first_of_taken, input_option, joined_steps, left_of, nothing, one, operands, plain, ready, second_of_taken, third_of_taken, three, some_kind, steps_option, trace_option, two}
use Rattle.wy_words.proofs.Whole.{Verdict, fault_from, kind_of_word, not_taken, rows_from, spelled_parts, taken, verdict}
use Rattle.wy_words.proofs.Meant.{read_as, read_asked}

-- ---- names

abbrev pub top : Shape
top = built_table.top

abbrev label : Text → Text × List Text
label name = (name, [])

abbrev labels : Names
labels = map label names

abbrev is_known : List Text → Text → Bool
is_known ns word = list_any (λ n. bytes_eq n word) ns

label_found : (ns : List Text) (word : Text) → is_known ns word ≡ true → find (answers_to word) (map label ns) ≡ Some (label word)
label_found [] word is = absurd (false≢true is)
label_found (n ∷ ns) word is = go (bytes_eq n word) refl (label_found ns word) is
  where
    go : (v : Bool) → bytes_eq n word ≡ v → (is_known ns word ≡ true → find (answers_to word) (map label ns) ≡ Some (label word))
        → (v || is_known ns word) ≡ true → (if v || false then Some (label n) else find (answers_to word) (map label ns)) ≡ Some (label word)
    go true same rest e = ap (λ t. Some (label t)) ((bytes_eq-Decides n word).0 same)
    go false other rest e = rest e

reader_found : (ns : List Text) (word : Text) → is_known ns word ≡ true → find (λ s. answers_to word (label_of s)) (map reader ns) ≡ Some (reader word)
reader_found [] word is = absurd (false≢true is)
reader_found (n ∷ ns) word is = go (bytes_eq n word) refl (reader_found ns word) is
  where
    go : (v : Bool) → bytes_eq n word ≡ v → (is_known ns word ≡ true → find (λ s. answers_to word (label_of s)) (map reader ns) ≡ Some (reader word))
        → (v || is_known ns word) ≡ true → (if v || false then Some (reader n) else find (λ s. answers_to word (label_of s)) (map reader ns)) ≡ Some (reader word)
    go true same rest e = ap (λ t. Some (reader t)) ((bytes_eq-Decides n word).0 same)
    go false other rest e = rest e

-- what is asked has a known name
asked_known : (word : Text) (rest : List Text) (c : Command) → Asks (word ∷ rest) c → is_known names word ≡ true
asked_known _ _ _ (words.run s h) = refl
asked_known _ _ _ (words.recording s h) = refl
asked_known _ _ _ (words.output s h) = refl
asked_known _ _ _ (words.why s h) = refl
asked_known _ _ _ (words.whynot s h) = refl
asked_known _ _ _ (words.affects s h) = refl
asked_known _ _ _ (words.certify s h) = refl
asked_known _ _ _ (words.check s h) = refl
asked_known _ _ _ (words.scope s h number) = refl
asked_known _ _ _ (words.questions s h) = refl
asked_known _ _ _ (words.explore s h) = refl
asked_known _ _ _ (words.audit s h) = refl
asked_known _ _ _ (words.migrating s h) = refl
asked_known _ _ _ (words.generated s h n) = refl

-- ---- the walk from the command's name on

abbrev start : Walk
start = walk_from nothing_held

abbrev stopped_at : Text → List Text → Walk
stopped_at word rest = record start { stopped = Some (word, rest) }

named_walked : (word : Text) → is_known names word ≡ true → walked [] labels start word ≡ stopped_at word []
unfolding walked
named_walked word known =
    ap (λ o. let m = subcommand_or_other [] (option_map (λ s. s.0) o) idle 1 word nothing_held in after_step [] word start m.0 m.1) (label_found names word known)

passed : (word : Text) (rest before : List Text) → fold (walked [] labels) (stopped_at word before) rest ≡ stopped_at word (before ++ rest)
unfolding walked
passed word [] before = ap (stopped_at word) (sym (append-nil before))
passed word (next ∷ rest) before = passed word rest (before ++ (next ∷ [])) ∙ ap (stopped_at word) (append_assoc before (next ∷ []) rest)

no_fault_passed : (word : Text) (rest before : List Text) → walk_fault top labels (stopped_at word before) rest ≡ []
unfolding walk_fault walked
no_fault_passed word [] before = refl
no_fault_passed word (next ∷ rest) before = no_fault_passed word rest (before ++ (next ∷ []))

named_fault : (word : Text) → is_known names word ≡ true → turn_fault top labels start word ≡ []
named_fault word known =
    ap (λ o. let m = subcommand_or_other [] (option_map (λ s. s.0) o) idle 1 word nothing_held in
    or_else (other_fault top (option_map (λ s. s.0) o) word nothing_held) (step_fault top 1 m.0 m.1)) (label_found names word known)
    ∙ ap (λ v. or_else (if v then kind.DisplayHelp ∷ kind.InvalidSubcommand ∷ [] else []) []) (and_false (bytes_eq word (codes "help")))

named_walk : (word : Text) (rest : List Text) → is_known names word ≡ true → fold (walked [] labels) start (word ∷ rest) ≡ stopped_at word rest
named_walk word rest known = ap (λ w. fold (walked [] labels) w rest) (named_walked word known) ∙ passed word rest []

abbrev rest_fault : Walk → Kinds
rest_fault w = or_else (entered_fault built_table w.stopped) (or_else (settle_fault [] false w.held)
    (or_else (defaults_fault (settled [] w.held).rows []) (check_fault top (finished [] w.held) (is_some (entered built_table w.stopped)))))

no_more : (ks : Kinds) → or_else ks [] ≡ ks
no_more [] = refl
no_more (k ∷ ks) = refl

abbrev rows_in : List Text → Shape → Text × List Row
rows_in rest s = (s.name, finished s.rules (fold (walked s.rules []) start rest).held)

faults_known : (word : Text) (rest : List Text) → is_known names word ≡ true → fault_of table (word ∷ rest) ≡ fault_from word start rest
unfolding walk_fault defaults_fault
faults_known word rest known =
    ap (λ ks. or_else (or_else ks (walk_fault top labels (walked [] labels start word) rest)) (rest_fault (fold (walked [] labels) start (word ∷ rest)))) (named_fault word known)
    ∙ ap (λ w. or_else (walk_fault top labels w rest) (rest_fault (fold (walked [] labels) start (word ∷ rest)))) (named_walked word known)
    ∙ ap (λ ks. or_else ks (rest_fault (fold (walked [] labels) start (word ∷ rest)))) (no_fault_passed word rest [])
    ∙ ap rest_fault (named_walk word rest known)
    ∙ ap (λ o. or_else (option_map_or (λ s. level_fault s [] nothing_held rest false []) o []) (check_fault top [] (is_some (option_map (rows_in rest) o)))) (reader_found names word known)
    ∙ no_more (fault_from word start rest)

rows_known : (word : Text) (rest : List Text) → is_known names word ≡ true → subcommand_of table (word ∷ rest) ≡ Some (word, rows_from start rest)
rows_known word rest known =
    ap (λ w. entered built_table w.stopped) (named_walk word rest known)
    ∙ ap (option_map (rows_in rest)) (reader_found names word known)

-- ---- a word that names no command

abbrev top_met : Option Text → Text → Held → Kinds
top_met name word h = let m = subcommand_or_other [] name idle 1 word h in or_else (other_fault top name word h) (step_fault top 1 m.0 m.1)

unknown_label : (ns : List Text) (word : Text) → is_known ns word ≡ false → find (answers_to word) (map label ns) ≡ None
unknown_label [] word is = refl
unknown_label (n ∷ ns) word is = go (bytes_eq n word) (unknown_label ns word) is
  where
    go : (v : Bool) → (is_known ns word ≡ false → find (answers_to word) (map label ns) ≡ None)
        → (v || is_known ns word) ≡ false → (if v || false then Some (label n) else find (answers_to word) (map label ns)) ≡ None
    go true rest e = absurd (both_ways true e refl)
    go false rest e = rest e

stray : (b : ℕ) (rest : Text) → nat_eq b 45 ≡ false → top_met None (b ∷ rest) nothing_held ≡ kind.UnknownArgument ∷ (kind.InvalidSubcommand ∷ [])
stray b rest far =
    let h : Held = nothing_held in
    let word : Text = b ∷ rest in
    ap (λ v. let m = (if v && bytes_eq rest (45 ∷ []) then (h, trailing 1) else long_or_other [] idle word (option_and_then long_of_rest (option_and_then (strip_byte 45) (if v then Some rest else None))) h) in
    or_else (if v && bytes_eq rest (45 ∷ []) then [] else flag_word_fault [] false (option_and_then long_of_rest (option_and_then (strip_byte 45) (if v then Some rest else None))) word h) (step_fault top 1 m.0 m.1)) far
    ∙ ap (λ v. let m = short_or_plain [] idle word (option_and_then short_of_rest (if v then Some rest else None)) h in
    or_else (option_map_or (λ flags. bundle_fault [] false flags h) (option_and_then short_of_rest (if v then Some rest else None)) []) (step_fault top 1 m.0 m.1)) far

unknown_turn : (word : Text) → Kind word → is_known names word ≡ false → turn_fault top labels start word ≡ [] → ⊥
unfolding flags_fault bundle_met chars encode_utf8
unknown_turn _ (plain {b = b} {rest = rest} far) unknown =
    some_kind kind.UnknownArgument _ _ (ap (λ o. top_met (option_map (λ s. s.0) o) (b ∷ rest) nothing_held) (unknown_label names (b ∷ rest) unknown) ∙ stray b rest far)
unknown_turn _ input_option unknown = some_kind kind.UnknownArgument [] _ refl
unknown_turn _ trace_option unknown = some_kind kind.UnknownArgument [] _ refl
unknown_turn _ steps_option unknown = some_kind kind.UnknownArgument [] _ refl
unknown_turn _ (joined_steps number) unknown = some_kind kind.UnknownArgument [] _ refl

faults_unknown : (word : Text) (rest : List Text) → Kind word → is_known names word ≡ false → fault_of table (word ∷ rest) ≡ [] → ⊥
unfolding walk_fault
faults_unknown word rest kind unknown is = unknown_turn word kind unknown (left_of _ _ (left_of _ _ is))

-- ---- the reading

abbrev now_reading : Option Text → Option Text → Option Text → Option Text → Option Text → Option Text → Option Asking
now_reading f g h i o s = option_map (λ n. record { awaited = awaited.Word; operands = operands_in f g h; input = i; trace = o; steps = n }) (steps_in s)

steps_number : (s : Option Text) (n : Option ℕ) → IsNumber s n → steps_in s ≡ Some n
unfolding steps_in
steps_number None None is = refl
steps_number (Some word) (Some n) is = ap (option_map Some) is
steps_number None (Some n) is = absurd is
steps_number (Some word) None is = absurd is

operands_there : (t : Taken) → operands_in (first_of_taken t) (second_of_taken t) (third_of_taken t) ≡ operands t
unfolding operands_in
operands_there nothing = refl
operands_there (one word) = refl
operands_there (two word more) = refl
operands_there (three word more last) = refl

found_there : (rows : List Row) (t : Taken) (i o s : Option Text) (n : Option ℕ) → Agrees rows t i o s → IsNumber s n → asking_in rows ≡ Some (asking awaited.Word t i o n)
unfolding asking_in
found_there rows t i o s n h number =
    ap (λ f. now_reading f (first_of (codes "second") rows) (first_of (codes "third") rows) (first_of (codes "input") rows) (first_of (codes "trace") rows) (first_of (codes "steps") rows)) h.of_first.first
    ∙ ap (λ g. now_reading (first_of_taken t) g (first_of (codes "third") rows) (first_of (codes "input") rows) (first_of (codes "trace") rows) (first_of (codes "steps") rows)) h.of_second.first
    ∙ ap (λ g. now_reading (first_of_taken t) (second_of_taken t) g (first_of (codes "input") rows) (first_of (codes "trace") rows) (first_of (codes "steps") rows)) h.of_third.first
    ∙ ap (λ v. now_reading (first_of_taken t) (second_of_taken t) (third_of_taken t) v (first_of (codes "trace") rows) (first_of (codes "steps") rows)) h.of_input.first
    ∙ ap (λ v. now_reading (first_of_taken t) (second_of_taken t) (third_of_taken t) i v (first_of (codes "steps") rows)) h.of_trace.first
    ∙ ap (λ v. now_reading (first_of_taken t) (second_of_taken t) (third_of_taken t) i o v) h.of_steps.first
    ∙ ap (λ v. option_map (λ m. record { awaited = awaited.Word; operands = operands_in (first_of_taken t) (second_of_taken t) (third_of_taken t); input = i; trace = o; steps = m }) v) (steps_number s n number)
    ∙ ap (λ xs. Some (record { awaited = awaited.Word; operands = xs; input = i; trace = o; steps = n })) (operands_there t)

-- what the matches of these faults are, and what is read
abbrev Reads : Option Asking → Kinds → List Row → Type 0
Reads o ks rows = (ks ≡ [] → asking_in rows ≡ o) × ((ks ≡ [] → ⊥) → o ≡ None)

reads_of : (o : Option Asking) (ks : Kinds) (rows : List Row) → Verdict o ks rows → Reads o ks rows
reads_of _ ks rows (taken {t = t} {i = i} {o = o} {s = s} {n = n} quiet h number) = ((λ is. found_there rows t i o s n h number), (λ bad. absurd (bad quiet)))
reads_of _ ks rows (not_taken bad) = ((λ is. absurd (bad is)), (λ more. refl))

abbrev Answers : List Text → Type 0
Answers given = (fault_of table given ≡ [] → command_in (subcommand_of table given) ≡ read_as given) × ((fault_of table given ≡ [] → ⊥) → read_as given ≡ None)

no_row : Agrees [] nothing None None None
no_row = record {
  of_first = record { first = refl; there = refl };
  of_second = record { first = refl; there = refl };
  of_third = record { first = refl; there = refl };
  of_input = record { first = refl; there = refl };
  of_trace = record { first = refl; there = refl };
  of_steps = record { first = refl; there = refl };
}

answers_known : (word : Text) (rest : List Text) → is_known names word ≡ true → are_spelled false rest ≡ true → Answers (word ∷ rest)
unfolding named_in command_in
answers_known word rest known spelled =
    let start_there : Stand (asking awaited.Word nothing None None None) start = ready {t = nothing} {s = None} refl no_row tt in
    let reads = reads_of _ _ _ (verdict word rest (asking awaited.Word nothing None None None) start start_there spelled) in (
      (λ is. ap command_in (rows_known word rest known) ∙ ap (option_and_then (command_named word)) (reads.0 (sym (faults_known word rest known) ∙ is))),
      (λ bad. ap (option_and_then (command_named word)) (reads.1 (λ is. bad (faults_known word rest known ∙ is)))),
    )

none_read : (word : Text) (rest : List Text) → is_known names word ≡ false → (o : Option Command) → read_as (word ∷ rest) ≡ o → o ≡ None
none_read word rest unknown None is = refl
none_read word rest unknown (Some c) is = absurd (both_ways (is_known names word) unknown (asked_known word rest c (read_asked (word ∷ rest) c is)))

first_spelled : (word : Text) (rest : List Text) → are_spelled false (word ∷ rest) ≡ true → Kind word
first_spelled word rest spelled = kind_of_word word (spelled_parts false word rest spelled).0

plain_behind : (word : Text) (rest : List Text) → is_known names word ≡ true → are_spelled false (word ∷ rest) ≡ true → are_spelled false rest ≡ true
plain_behind word rest known spelled =
    subst (λ v. are_spelled v rest ≡ true) (steps_unknown (bytes_eq word (codes "--steps")) refl) (spelled_parts false word rest spelled).2
  where
    steps_unknown : (v : Bool) → bytes_eq word (codes "--steps") ≡ v → v ≡ false
    steps_unknown false is = refl
    steps_unknown true is = absurd (both_ways (is_known names word) (ap (is_known names) ((bytes_eq-Decides word (codes "--steps")).0 is)) known)

pub answers : (given : List Text) → are_spelled false given ≡ true → Answers given
unfolding command_in walk_fault defaults_fault
answers [] spelled = ((λ is. refl), (λ bad. absurd (bad refl)))
answers (word ∷ rest) spelled = go (is_known names word) refl
  where
    go : (v : Bool) → is_known names word ≡ v → Answers (word ∷ rest)
    go true known = answers_known word rest known (plain_behind word rest known spelled)
    go false unknown = ((λ is. absurd (faults_unknown word rest (first_spelled word rest spelled) unknown is)), (λ bad. none_read word rest unknown _ refl))
