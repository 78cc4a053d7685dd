-- What the walk makes of a word, by what stands before it.
use Rattle.std.proofs.Common.{◌≡◌, ◌∙◌, ℕ, Bool, true, false, ◌&&◌, List, [], ◌∷◌, ◌++◌, nat_eq, Option, Some, None, refl, ap, codes}
use Rattle.std.specs.Prelude.{if◌then◌else◌, bytes_eq, option_and_then}
use Rattle.std.specs.Option.{option_map_or}
use Rattle.std.specs.Char.{encode_utf8}
use Rattle.std.specs.Str.{chars}
use Rattle.clap.specs.Lexer.{long_of, long_of_rest, short_of_rest, strip_byte}
use Rattle.clap.specs.Kinds.{Kinds, or_else}
use Rattle.clap.specs.Faults.{flags_fault, flag_word_fault, settle_fault, step_fault, turn_fault, use_fault, bundle_fault}
use Rattle.clap.specs.Walk.{Held, Rule, Row, Step, Text, Waiting, Walk, idle, option, value, trailing, is_pending}
use Rattle.clap.specs.Walk.{after_step, bundle_met, long_or_other, plain_word, pushed, settled, settled_rows, short_or_plain, used, walked, word_met}
use Rattle.clap.specs.Simple.{with_index, filled}
use Rattle.clap.specs.declared.error.kind.ErrorKind.TheVariants as kind
use Rattle.wy_words.specs.Table.{first, second, third, steps}
use Rattle.wy_words.proofs.Built.{rules, reader}

abbrev pub held : List Row → Option (Text × List Text) → Held
held rows p = record { rows = rows; pending = p; skip = 0 }

-- the walk in a command, between two words
abbrev pub at : List Row → Option (Text × List Text) → Waiting → ℕ → Walk
at rows p waiting place = record { held = held rows p; waiting = waiting; position = place; is_trailing = false; stopped = None }

pub and_false : (v : Bool) → (v && false) ≡ false
and_false true = refl
and_false false = refl

-- ---- a word that is no flag

plain_idle : (b : ℕ) (rest : Text) (place : ℕ) (h : Held) → nat_eq b 45 ≡ false → word_met rules [] false idle place (b ∷ rest) h ≡ (h, value)
plain_idle b rest place h far =
    ap (λ v. if v && bytes_eq rest (45 ∷ []) then (h, trailing place) else long_or_other rules idle (b ∷ rest) (option_and_then long_of_rest (option_and_then (strip_byte 45) (if v then Some rest else None))) h) far
    ∙ ap (λ v. short_or_plain rules idle (b ∷ rest) (option_and_then short_of_rest (if v then Some rest else None)) h) far

plain_option : (id : Text) (b : ℕ) (rest : Text) (place : ℕ) (h : Held) → nat_eq b 45 ≡ false
    → word_met rules [] false (option id) place (b ∷ rest) h ≡ plain_word rules (option id) (b ∷ rest) h
plain_option id b rest place h far =
    ap (λ v. if v && bytes_eq rest (45 ∷ []) then (h, trailing place) else long_or_other rules (option id) (b ∷ rest) (option_and_then long_of_rest (option_and_then (strip_byte 45) (if v then Some rest else None))) h) far
    ∙ ap (λ v. short_or_plain rules (option id) (b ∷ rest) (option_and_then short_of_rest (if v then Some rest else None)) h) far

plain_no_fault : (b : ℕ) (rest : Text) (h : Held) → nat_eq b 45 ≡ false
    → (if bytes_eq (b ∷ rest) (45 ∷ 45 ∷ []) then [] else flag_word_fault rules false (long_of (b ∷ rest)) (b ∷ rest) h) ≡ []
plain_no_fault b rest h far =
    ap (λ v. if v && bytes_eq rest (45 ∷ []) then [] else flag_word_fault rules false (option_and_then long_of_rest (option_and_then (strip_byte 45) (if v then Some rest else None))) (b ∷ rest) h) far
    ∙ ap (λ v. option_map_or (λ flags. bundle_fault rules false flags h) (option_and_then short_of_rest (if v then Some rest else None)) []) far

abbrev the_first : Rule
the_first = with_index 1 (filled first)

abbrev the_second : Rule
the_second = with_index 2 (filled second)

abbrev the_third : Rule
the_third = with_index 3 (filled third)

pub first_walked : (rows : List Row) (p : Option (Text × List Text)) (b : ℕ) (rest : Text) → nat_eq b 45 ≡ false
    → walked rules [] (at rows p idle 1) (b ∷ rest) ≡ at (settled_rows rules p rows) (Some (codes "first", (b ∷ rest) ∷ [])) idle 2
unfolding walked
first_walked rows p b rest far =
    ap (λ m. after_step rules (b ∷ rest) (at rows p idle 1) m.0 m.1) (plain_idle b rest 1 (held rows p) far)
    ∙ ap (λ v. record (at rows p idle 2) { held = pushed (codes "first") (b ∷ rest) (if v then held rows p else settled rules (held rows p)) }) (and_false (is_pending the_first p))

pub second_walked : (rows : List Row) (p : Option (Text × List Text)) (b : ℕ) (rest : Text) → nat_eq b 45 ≡ false
    → walked rules [] (at rows p idle 2) (b ∷ rest) ≡ at (settled_rows rules p rows) (Some (codes "second", (b ∷ rest) ∷ [])) idle 3
unfolding walked
second_walked rows p b rest far =
    ap (λ m. after_step rules (b ∷ rest) (at rows p idle 2) m.0 m.1) (plain_idle b rest 2 (held rows p) far)
    ∙ ap (λ v. record (at rows p idle 3) { held = pushed (codes "second") (b ∷ rest) (if v then held rows p else settled rules (held rows p)) }) (and_false (is_pending the_second p))

pub third_walked : (rows : List Row) (p : Option (Text × List Text)) (b : ℕ) (rest : Text) → nat_eq b 45 ≡ false
    → walked rules [] (at rows p idle 3) (b ∷ rest) ≡ at (settled_rows rules p rows) (Some (codes "third", (b ∷ rest) ∷ [])) idle 4
unfolding walked
third_walked rows p b rest far =
    ap (λ m. after_step rules (b ∷ rest) (at rows p idle 3) m.0 m.1) (plain_idle b rest 3 (held rows p) far)
    ∙ ap (λ v. record (at rows p idle 4) { held = pushed (codes "third") (b ∷ rest) (if v then held rows p else settled rules (held rows p)) }) (and_false (is_pending the_third p))

abbrev step_then : Text → ℕ → Kinds → Held × Step → Kinds
step_then name place word_kinds m = or_else word_kinds (step_fault (reader name) place m.0 m.1)

pub first_fault : (name : Text) (rows : List Row) (p : Option (Text × List Text)) (b : ℕ) (rest : Text) → nat_eq b 45 ≡ false
    → turn_fault (reader name) [] (at rows p idle 1) (b ∷ rest) ≡ settle_fault rules false (held rows p)
first_fault name rows p b rest far =
    ap (step_then name 1 _) (plain_idle b rest 1 (held rows p) far)
    ∙ ap (λ x. step_then name 1 x (held rows p, value)) (plain_no_fault b rest (held rows p) far)
    ∙ ap (λ v. if v then [] else settle_fault rules false (held rows p)) (and_false (is_pending the_first p))

pub second_fault : (name : Text) (rows : List Row) (p : Option (Text × List Text)) (b : ℕ) (rest : Text) → nat_eq b 45 ≡ false
    → turn_fault (reader name) [] (at rows p idle 2) (b ∷ rest) ≡ settle_fault rules false (held rows p)
second_fault name rows p b rest far =
    ap (step_then name 2 _) (plain_idle b rest 2 (held rows p) far)
    ∙ ap (λ x. step_then name 2 x (held rows p, value)) (plain_no_fault b rest (held rows p) far)
    ∙ ap (λ v. if v then [] else settle_fault rules false (held rows p)) (and_false (is_pending the_second p))

pub third_fault : (name : Text) (rows : List Row) (p : Option (Text × List Text)) (b : ℕ) (rest : Text) → nat_eq b 45 ≡ false
    → turn_fault (reader name) [] (at rows p idle 3) (b ∷ rest) ≡ settle_fault rules false (held rows p)
third_fault name rows p b rest far =
    ap (step_then name 3 _) (plain_idle b rest 3 (held rows p) far)
    ∙ ap (λ x. step_then name 3 x (held rows p, value)) (plain_no_fault b rest (held rows p) far)
    ∙ ap (λ v. if v then [] else settle_fault rules false (held rows p)) (and_false (is_pending the_third p))

pub fourth_fault : (name : Text) (rows : List Row) (p : Option (Text × List Text)) (b : ℕ) (rest : Text) → nat_eq b 45 ≡ false
    → turn_fault (reader name) [] (at rows p idle 4) (b ∷ rest) ≡ kind.UnknownArgument ∷ []
fourth_fault name rows p b rest far =
    ap (step_then name 4 _) (plain_idle b rest 4 (held rows p) far)
    ∙ ap (λ x. step_then name 4 x (held rows p, value)) (plain_no_fault b rest (held rows p) far)

-- ---- flags

pub input_walked : (rows : List Row) (p : Option (Text × List Text)) (place : ℕ)
    → walked rules [] (at rows p idle place) (codes "-i") ≡ at (settled_rows rules p rows) (Some (codes "input", [])) (option (codes "input")) place
unfolding walked bundle_met chars encode_utf8
input_walked rows p place = refl

pub trace_walked : (rows : List Row) (p : Option (Text × List Text)) (place : ℕ)
    → walked rules [] (at rows p idle place) (codes "-o") ≡ at (settled_rows rules p rows) (Some (codes "trace", [])) (option (codes "trace")) place
unfolding walked bundle_met chars encode_utf8
trace_walked rows p place = refl

pub steps_walked : (rows : List Row) (p : Option (Text × List Text)) (place : ℕ)
    → walked rules [] (at rows p idle place) (codes "--steps") ≡ at (settled_rows rules p rows) (Some (codes "steps", [])) (option (codes "steps")) place
unfolding walked
steps_walked rows p place = refl

pub joined_walked : (rows : List Row) (p : Option (Text × List Text)) (place : ℕ) (number : Text)
    → walked rules [] (at rows p idle place) (codes "--steps=" ++ number) ≡ at (used (filled steps) (number ∷ []) (settled_rows rules p rows)) None idle place
unfolding walked
joined_walked rows p place number = refl

pub input_fault : (name : Text) (rows : List Row) (p : Option (Text × List Text)) (place : ℕ)
    → turn_fault (reader name) [] (at rows p idle place) (codes "-i") ≡ or_else (settle_fault rules false (held rows p)) []
unfolding flags_fault bundle_met chars encode_utf8
input_fault name rows p place = refl

pub trace_fault : (name : Text) (rows : List Row) (p : Option (Text × List Text)) (place : ℕ)
    → turn_fault (reader name) [] (at rows p idle place) (codes "-o") ≡ or_else (settle_fault rules false (held rows p)) []
unfolding flags_fault bundle_met chars encode_utf8
trace_fault name rows p place = refl

pub steps_fault : (name : Text) (rows : List Row) (p : Option (Text × List Text)) (place : ℕ)
    → turn_fault (reader name) [] (at rows p idle place) (codes "--steps") ≡ or_else (settle_fault rules false (held rows p)) []
steps_fault name rows p place = refl

pub joined_fault : (name : Text) (rows : List Row) (p : Option (Text × List Text)) (place : ℕ) (number : Text)
    → turn_fault (reader name) [] (at rows p idle place) (codes "--steps=" ++ number)
    ≡ or_else (or_else (settle_fault rules false (held rows p)) (use_fault false (filled steps) (number ∷ []) (settled_rows rules p rows))) []
joined_fault name rows p place number = refl

pub option_walked_input : (rows : List Row) (place b : ℕ) (rest : Text) → nat_eq b 45 ≡ false
    → walked rules [] (at rows (Some (codes "input", [])) (option (codes "input")) place) (b ∷ rest) ≡ at rows (Some (codes "input", (b ∷ rest) ∷ [])) idle place
unfolding walked
option_walked_input rows place b rest far =
    let w : Walk = at rows (Some (codes "input", [])) (option (codes "input")) place in
    ap (λ m. after_step rules (b ∷ rest) w m.0 m.1) (plain_option (codes "input") b rest place w.held far)

pub option_fault_input : (name : Text) (rows : List Row) (place b : ℕ) (rest : Text) → nat_eq b 45 ≡ false
    → turn_fault (reader name) [] (at rows (Some (codes "input", [])) (option (codes "input")) place) (b ∷ rest) ≡ []
option_fault_input name rows place b rest far =
    let h : Held = held rows (Some (codes "input", [])) in
    ap (step_then name place _) (plain_option (codes "input") b rest place h far)
    ∙ ap (λ x. step_then name place x (plain_word rules (option (codes "input")) (b ∷ rest) h)) (plain_no_fault b rest h far)

pub option_walked_trace : (rows : List Row) (place b : ℕ) (rest : Text) → nat_eq b 45 ≡ false
    → walked rules [] (at rows (Some (codes "trace", [])) (option (codes "trace")) place) (b ∷ rest) ≡ at rows (Some (codes "trace", (b ∷ rest) ∷ [])) idle place
unfolding walked
option_walked_trace rows place b rest far =
    let w : Walk = at rows (Some (codes "trace", [])) (option (codes "trace")) place in
    ap (λ m. after_step rules (b ∷ rest) w m.0 m.1) (plain_option (codes "trace") b rest place w.held far)

pub option_fault_trace : (name : Text) (rows : List Row) (place b : ℕ) (rest : Text) → nat_eq b 45 ≡ false
    → turn_fault (reader name) [] (at rows (Some (codes "trace", [])) (option (codes "trace")) place) (b ∷ rest) ≡ []
option_fault_trace name rows place b rest far =
    let h : Held = held rows (Some (codes "trace", [])) in
    ap (step_then name place _) (plain_option (codes "trace") b rest place h far)
    ∙ ap (λ x. step_then name place x (plain_word rules (option (codes "trace")) (b ∷ rest) h)) (plain_no_fault b rest h far)

pub option_walked_steps : (rows : List Row) (place b : ℕ) (rest : Text) → nat_eq b 45 ≡ false
    → walked rules [] (at rows (Some (codes "steps", [])) (option (codes "steps")) place) (b ∷ rest) ≡ at rows (Some (codes "steps", (b ∷ rest) ∷ [])) idle place
unfolding walked
option_walked_steps rows place b rest far =
    let w : Walk = at rows (Some (codes "steps", [])) (option (codes "steps")) place in
    ap (λ m. after_step rules (b ∷ rest) w m.0 m.1) (plain_option (codes "steps") b rest place w.held far)

pub option_fault_steps : (name : Text) (rows : List Row) (place b : ℕ) (rest : Text) → nat_eq b 45 ≡ false
    → turn_fault (reader name) [] (at rows (Some (codes "steps", [])) (option (codes "steps")) place) (b ∷ rest) ≡ []
option_fault_steps name rows place b rest far =
    let h : Held = held rows (Some (codes "steps", [])) in
    ap (step_then name place _) (plain_option (codes "steps") b rest place h far)
    ∙ ap (λ x. step_then name place x (plain_word rules (option (codes "steps")) (b ∷ rest) h)) (plain_no_fault b rest h far)
