-- The words of a command are those that the table has.
use Rattle.std.proofs.Common.{◌≡◌, ◌∙◌, ℕ, ◌+◌, ◌<◌, ◌≤◌, length, Bool, true, false, not, ◌&&◌, ◌||◌, List, [], ◌∷◌, ◌++◌, nat_eq, map, drop, get_or, string_bytes, String, Global, Some, is_some, refl, sym, ap, subst, codes, T}
use Rattle.std.specs.Prelude.{bytes_eq}
use Rattle.std.proofs.lemmas.Bool.{both_ways, false≢true}
use Rattle.std.proofs.lemmas.List.{at_drop_more, drop_all}
use Rattle.std.proofs.lemmas.Option.{none-some}
use Rattle.std.proofs.Common.{eqb→eq}
use Rattle.wy_words.specs.Words.{Asks, Command, IsNoCommand, Part, Spells, input_part, is_plain, joined_steps_part, no_part, number_up_to, operand_part, steps_part, trace_part}
use Rattle.wy_words.specs.Words as words
use Rattle.wy_words.specs.Reading.{are_spelled, is_joined, may_stand}

-- ---- the scan, word by word

next_word : (given : List (String Global)) (i : ℕ) (item : String Global) (v : Bool) → i < length given → item ≡ get_or given i item
    → are_spelled v (map string_bytes (drop i given)) ≡ are_spelled v (string_bytes item ∷ map string_bytes (drop (i + 1) given))
next_word given i item v less is =
    at_drop_more (λ xs. are_spelled v (map string_bytes xs)) given i item less ∙ ap (λ x. are_spelled v (string_bytes x ∷ map string_bytes (drop (i + 1) given))) (sym is)

pub scan_stops : (given : List (String Global)) (i : ℕ) (item : String Global) (v : Bool) (text : List ℕ) → i < length given → item ≡ get_or given i item → text ≡ string_bytes item
    → may_stand v text ≡ false → are_spelled false (map string_bytes given) ≡ are_spelled v (map string_bytes (drop i given)) → false ≡ are_spelled false (map string_bytes given)
unfolding are_spelled
scan_stops given i item v text less is same fails kept =
    sym (kept ∙ next_word given i item v less is
    ∙ ap (λ t. may_stand v t && are_spelled (bytes_eq (string_bytes item) (codes "--steps")) (map string_bytes (drop (i + 1) given))) (sym same)
    ∙ ap (λ u. u && are_spelled (bytes_eq (string_bytes item) (codes "--steps")) (map string_bytes (drop (i + 1) given))) fails)

pub scan_goes_on : (given : List (String Global)) (i : ℕ) (item : String Global) (v u : Bool) (text : List ℕ) → i < length given → item ≡ get_or given i item → text ≡ string_bytes item
    → may_stand v text ≡ true → u ≡ bytes_eq text (codes "--steps") → are_spelled false (map string_bytes given) ≡ are_spelled v (map string_bytes (drop i given))
    → are_spelled false (map string_bytes given) ≡ are_spelled u (map string_bytes (drop (i + 1) given))
unfolding are_spelled
scan_goes_on given i item v u text less is same stands next kept =
    let rest : List (List ℕ) = map string_bytes (drop (i + 1) given) in
    kept ∙ next_word given i item v less is
    ∙ ap (λ t. may_stand v t && are_spelled (bytes_eq t (codes "--steps")) rest) (sym same)
    ∙ ap (λ b. b && are_spelled (bytes_eq text (codes "--steps")) rest) stands
    ∙ ap (λ b. are_spelled b rest) (sym next)

pub scan_ends : (given : List (String Global)) (i : ℕ) (v : Bool) → length given ≤ i → are_spelled false (map string_bytes given) ≡ are_spelled v (map string_bytes (drop i given))
    → true ≡ are_spelled false (map string_bytes given)
unfolding are_spelled
scan_ends given i v end kept = sym (kept ∙ ap (λ xs. are_spelled v (map string_bytes xs)) (drop_all i given end))

-- ---- what is asked passes

one_passes : (v u : Bool) (word : List ℕ) (rest : List (List ℕ)) → may_stand v word ≡ true → bytes_eq word (codes "--steps") ≡ u → are_spelled u rest ≡ true → are_spelled v (word ∷ rest) ≡ true
unfolding are_spelled
one_passes v u word rest stands next more =
    ap (λ b. b && are_spelled (bytes_eq word (codes "--steps")) rest) stands ∙ ap (λ b. are_spelled b rest) next ∙ more

plain_stands : (word : List ℕ) → is_plain word ≡ true → may_stand false word ≡ true
unfolding may_stand
plain_stands word plain = ap (λ v. (v || (bytes_eq word (codes "-i") || (bytes_eq word (codes "-o") || (bytes_eq word (codes "--steps") || is_joined word)))) && true) plain

first_far : (v : Bool) → not v ≡ true → v ≡ false
first_far false is = refl
first_far true is = absurd (false≢true is)

plain_no_steps : (word : List ℕ) → is_plain word ≡ true → bytes_eq word (codes "--steps") ≡ false
unfolding is_plain
plain_no_steps [] plain = absurd (false≢true plain)
plain_no_steps (b ∷ rest) plain = ap (λ v. v && bytes_eq rest (codes "-steps")) (first_far (nat_eq b 45) plain)

to_T : {v : Bool} → v ≡ true → T v
to_T is = subst T (sym is) tt

no_dash : (b : ℕ) (rest : List ℕ) (n : ℕ) → number_up_to 50000000 (b ∷ rest) ≡ Some n → (v : Bool) → nat_eq b 45 ≡ v → not v ≡ true
unfolding number_up_to
no_dash b rest n number false is = refl
no_dash b rest n number true is = absurd (none-some n (subst (λ x. number_up_to 50000000 (x ∷ rest) ≡ Some n) (eqb→eq b 45 (to_T is)) number))

number_plain : (word : List ℕ) (n : ℕ) → number_up_to 50000000 word ≡ Some n → is_plain word ≡ true
unfolding is_plain number_up_to
number_plain [] n number = absurd (none-some n number)
number_plain (b ∷ rest) n number = no_dash b rest n number (nat_eq b 45) refl

number_stands : (word : List ℕ) (n : ℕ) → number_up_to 50000000 word ≡ Some n → may_stand true word ≡ true
unfolding may_stand
number_stands word n number =
    ap (λ v. (v || (bytes_eq word (codes "-i") || (bytes_eq word (codes "-o") || (bytes_eq word (codes "--steps") || is_joined word)))) && is_some (number_up_to 50000000 word)) (number_plain word n number)
    ∙ ap is_some number

joined_stands : (word : List ℕ) (n : ℕ) → number_up_to 50000000 word ≡ Some n → may_stand false (codes "--steps=" ++ word) ≡ true
unfolding may_stand is_joined is_plain
joined_stands word n number = ap (λ o. is_some o && true) number

parts_pass : (given : List (List ℕ)) (parts : List Part) → Spells given parts → are_spelled false given ≡ true
unfolding are_spelled may_stand is_plain
parts_pass _ _ no_part = refl
parts_pass _ _ (operand_part {word = word} {words = rest} {parts = parts} plain s) = one_passes false false word rest (plain_stands word plain) (plain_no_steps word plain) (parts_pass rest parts s)
parts_pass _ _ (input_part {name = word} {words = rest} {parts = parts} plain s) =
    one_passes false false (codes "-i") (word ∷ rest) refl refl (one_passes false false word rest (plain_stands word plain) (plain_no_steps word plain) (parts_pass rest parts s))
parts_pass _ _ (trace_part {name = word} {words = rest} {parts = parts} plain s) =
    one_passes false false (codes "-o") (word ∷ rest) refl refl (one_passes false false word rest (plain_stands word plain) (plain_no_steps word plain) (parts_pass rest parts s))
parts_pass _ _ (steps_part {word = word} {n = n} {words = rest} {parts = parts} number s) =
    one_passes false true (codes "--steps") (word ∷ rest) refl refl
    (one_passes true false word rest (number_stands word n number) (plain_no_steps word (number_plain word n number)) (parts_pass rest parts s))
parts_pass _ _ (joined_steps_part {word = word} {n = n} {words = rest} {parts = parts} number s) =
    one_passes false false (codes "--steps=" ++ word) rest (joined_stands word n number) refl (parts_pass rest parts s)

asked_passes : (given : List (List ℕ)) (c : Command) → Asks given c → are_spelled false given ≡ true
unfolding may_stand is_plain
asked_passes _ _ (words.run {words = ws} {parts = ps} s h) = one_passes false false (codes "run") ws refl refl (parts_pass ws ps s)
asked_passes _ _ (words.recording {words = ws} {parts = ps} s h) = one_passes false false (codes "record") ws refl refl (parts_pass ws ps s)
asked_passes _ _ (words.output {words = ws} {parts = ps} s h) = one_passes false false (codes "output") ws refl refl (parts_pass ws ps s)
asked_passes _ _ (words.why {words = ws} {parts = ps} s h) = one_passes false false (codes "why") ws refl refl (parts_pass ws ps s)
asked_passes _ _ (words.whynot {words = ws} {parts = ps} s h) = one_passes false false (codes "whynot") ws refl refl (parts_pass ws ps s)
asked_passes _ _ (words.affects {words = ws} {parts = ps} s h) = one_passes false false (codes "affects") ws refl refl (parts_pass ws ps s)
asked_passes _ _ (words.certify {words = ws} {parts = ps} s h) = one_passes false false (codes "certify") ws refl refl (parts_pass ws ps s)
asked_passes _ _ (words.check {words = ws} {parts = ps} s h) = one_passes false false (codes "check") ws refl refl (parts_pass ws ps s)
asked_passes _ _ (words.scope {words = ws} {parts = ps} s h number) = one_passes false false (codes "scope") ws refl refl (parts_pass ws ps s)
asked_passes _ _ (words.questions {words = ws} {parts = ps} s h) = one_passes false false (codes "questions") ws refl refl (parts_pass ws ps s)
asked_passes _ _ (words.explore {words = ws} {parts = ps} s h) = one_passes false false (codes "explore") ws refl refl (parts_pass ws ps s)
asked_passes _ _ (words.audit {words = ws} {parts = ps} s h) = one_passes false false (codes "audit") ws refl refl (parts_pass ws ps s)
asked_passes _ _ (words.migrating {words = ws} {parts = ps} s h) = one_passes false false (codes "migrate") ws refl refl (parts_pass ws ps s)
asked_passes _ _ (words.generated {words = ws} {parts = ps} s h n) = one_passes false false (codes "gen") ws refl refl (parts_pass ws ps s)

pub unspelled_asks_nothing : (given : List (List ℕ)) → are_spelled false given ≡ false → IsNoCommand given
unspelled_asks_nothing given fails c asks = both_ways (are_spelled false given) fails (asked_passes given c asks)
