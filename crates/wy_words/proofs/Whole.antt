-- What the walk over all the words behind a command's name comes to is what they are read as.
use Rattle.std.proofs.Common.{◌≡◌, ◌∙◌, ℕ, Bool, true, false, not, ◌&&◌, ◌||◌, List, [], ◌∷◌, ◌++◌, nat_eq, drop, take, Option, Some, None, is_some, refl, sym, ap, subst, codes}
use Rattle.std.specs.Prelude.{if◌then◌else◌, bytes_eq, option_and_then, fold, ⊤}
use Rattle.std.specs.List.{starts_with}
use Rattle.std.proofs.lemmas.Bool.{false≢true}
use Rattle.std.proofs.lemmas.List.{take-append-drop}
use Rattle.std.proofs.lemmas.Slice.Eq.{bytes_eq-Decides}
use Rattle.clap.specs.Kinds.{Kinds, or_else}
use Rattle.clap.specs.Faults.{check_fault, defaults_fault, given_default_fault, settle_fault, turn_fault, walk_fault}
use Rattle.clap.specs.Walk.{Held, Row, Rule, Text, Walk, default_rows, finished, has_row, is_empty, reading_by, settled, settled_rows, walked, with_default}
use Rattle.clap.specs.declared.error.kind.ErrorKind.TheVariants as kind
use Rattle.wy_words.specs.Awaited as awaited
use Rattle.wy_words.specs.Words.{is_plain, number_up_to}
use Rattle.wy_words.specs.Reading.{Asking, are_spelled, ended, is_joined, may_stand, named, with_next}
use Rattle.wy_words.proofs.Built.{reader, rules}
use Rattle.wy_words.proofs.Walking.{Agrees, Doomed, IsNumber, Kind, Stand, Taken, asking, awaits, awaits_input, awaits_steps, awaits_trace, doomed, doomed_turn, fell, input_option, joined_steps, left_of, moved, number_there, one_step, plain, ready, refused, some_kind, steps_option, trace_option}

-- ---- words

pub both : (u v : Bool) → (u && v) ≡ true → (u ≡ true) × (v ≡ true)
both true v is = (refl, is)
both false v is = absurd (false≢true is)

joined_word : (word : Text) → starts_with nat_eq word (codes "--steps=") ≡ true → word ≡ codes "--steps=" ++ drop 8 word
joined_word word same =
    sym (take-append-drop 8 word) ∙ ap (λ v. v ++ drop 8 word) (sym ((bytes_eq-Decides (codes "--steps=") (take 8 word)).0 same))

first_far : (v : Bool) → not v ≡ true → v ≡ false
first_far false is = refl
first_far true is = absurd (false≢true is)

plain_kind : (word : Text) → is_plain word ≡ true → Kind word
unfolding is_plain
plain_kind [] is = absurd (false≢true is)
plain_kind (b ∷ rest) is = plain (first_far (nat_eq b 45) is)

literal : (word text : Text) → bytes_eq word text ≡ true → Kind text → Kind word
literal word text same kind = subst Kind (sym ((bytes_eq-Decides word text).0 same)) kind

joined_kind : (word : Text) → is_joined word ≡ true → Kind word
unfolding is_joined
joined_kind word is =
    let h = both (starts_with nat_eq word (codes "--steps=")) (is_some (number_up_to 50000000 (drop 8 word))) is in
    let n = number_there (number_up_to 50000000 (drop 8 word)) h.1 in
    subst Kind (sym (joined_word word h.0)) (joined_steps {word = drop 8 word} {n = n.0} n.1)

abbrev is_spelling : Text → Bool
is_spelling word = is_plain word || (bytes_eq word (codes "-i") || (bytes_eq word (codes "-o") || (bytes_eq word (codes "--steps") || is_joined word)))

pub kind_of_word : (word : Text) → is_spelling word ≡ true → Kind word
kind_of_word word is =
    go (is_plain word) (bytes_eq word (codes "-i")) (bytes_eq word (codes "-o")) (bytes_eq word (codes "--steps")) refl refl refl refl is
  where
    go : (p i o n : Bool) → is_plain word ≡ p → bytes_eq word (codes "-i") ≡ i → bytes_eq word (codes "-o") ≡ o → bytes_eq word (codes "--steps") ≡ n
        → (p || (i || (o || (n || is_joined word)))) ≡ true → Kind word
    go true i o n ep ei eo en e = plain_kind word ep
    go false true o n ep ei eo en e = literal word (codes "-i") ei input_option
    go false false true n ep ei eo en e = literal word (codes "-o") eo trace_option
    go false false false true ep ei eo en e = literal word (codes "--steps") en steps_option
    go false false false false ep ei eo en e = joined_kind word e

-- ---- the end

abbrev tail : Text → Held → Kinds
tail name end = or_else (settle_fault rules false end) (or_else (defaults_fault (settled rules end).rows rules) (check_fault (reader name) (finished rules end) false))

abbrev pub fault_from : Text → Walk → List Text → Kinds
fault_from name w words = or_else (walk_fault (reader name) [] w words) (tail name (fold (walked rules []) w words).held)

abbrev pub rows_from : Walk → List Text → List Row
rows_from w words = finished rules (fold (walked rules []) w words).held

abbrev pub outcome : Asking → List Text → Option Asking
outcome a words = option_and_then (λ b. ended b.awaited b) (named a words)

-- what the words are read as, the faults and the rows
pub data Verdict : Option Asking → Kinds → List Row → Type 0 where
  taken : {t : Taken} {i o s : Option Text} {n : Option ℕ} {ks : Kinds} {rows : List Row} → ks ≡ [] → Agrees rows t i o s → IsNumber s n
      → Verdict (Some (asking awaited.Word t i o n)) ks rows
  not_taken : {ks : Kinds} {rows : List Row} → (ks ≡ [] → ⊥) → Verdict None ks rows

-- no argument has a default
same_either : (v : Bool) (rows : List Row) → (if v then rows else rows) ≡ rows
same_either true rows = refl
same_either false rows = refl

or_true : (v : Bool) → (v || true) ≡ true
or_true true = refl
or_true false = refl

abbrev HaveNoDefaults : List Rule → Type 0
HaveNoDefaults [] = ⊤
HaveNoDefaults (a ∷ rest) = (a.defaults ≡ []) × HaveNoDefaults rest

no_default : (a : Rule) (rows : List Row) → a.defaults ≡ [] → with_default rows a ≡ rows
no_default a rows none = ap (λ ds. if has_row a.id rows then rows else default_rows a.id (reading_by a) ds rows) none ∙ same_either (has_row a.id rows) rows

no_defaults : (rs : List Rule) (rows : List Row) → HaveNoDefaults rs → fold with_default rows rs ≡ rows
no_defaults [] rows none = refl
no_defaults (a ∷ rest) rows none = ap (λ r. fold with_default r rest) (no_default a rows none.0) ∙ no_defaults rest rows none.1

no_default_fault : (rs : List Rule) (rows : List Row) → HaveNoDefaults rs → defaults_fault rows rs ≡ []
unfolding defaults_fault
no_default_fault [] rows none = refl
no_default_fault (a ∷ rest) rows none =
    ap (λ ds. or_else (if has_row a.id rows || is_empty ds then [] else given_default_fault a ds) (defaults_fault (with_default rows a) rest)) none.0
    ∙ ap (λ v. or_else (if v then [] else given_default_fault a []) (defaults_fault (with_default rows a) rest)) (or_true (has_row a.id rows))
    ∙ no_default_fault rest (with_default rows a) none.1

plain_rules : HaveNoDefaults rules
plain_rules = (refl, (refl, (refl, (refl, (refl, (refl, tt))))))

-- what is named at the end
at_end : (name : Text) (a : Asking) (w : Walk) → Stand a w → Verdict (outcome a []) (fault_from name w []) (rows_from w [])
unfolding walk_fault ended
at_end name _ _ (ready {t = t} {i = i} {o = o} {s = s} {n = n} {rows = rows} {p = p} still h number) =
    let before : List Row = settled_rows rules p rows in
    taken (ap (λ x. or_else x (or_else (defaults_fault before rules) (check_fault (reader name) (fold with_default before rules) false))) still
    ∙ ap (λ x. or_else x (check_fault (reader name) (fold with_default before rules) false)) (no_default_fault rules before plain_rules))
    (subst (λ x. Agrees x t i o s) (sym (no_defaults rules before plain_rules)) h) number
at_end name _ _ (awaits_input h number) = not_taken (some_kind kind.InvalidValue [] _ refl)
at_end name _ _ (awaits_trace h number) = not_taken (some_kind kind.InvalidValue [] _ refl)
at_end name _ _ (awaits_steps h number) = not_taken (some_kind kind.InvalidValue [] _ refl)

doomed_end : (name : Text) (w : Walk) → Doomed w → fault_from name w [] ≡ [] → ⊥
unfolding walk_fault
doomed_end name _ (doomed t bad) is = bad (left_of _ _ is)

-- ---- all the words

fell_fault : (name : Text) (w x : Walk) (word : Text) (words : List Text) → turn_fault (reader name) [] w word ≡ [] → walked rules [] w word ≡ x
    → fault_from name w (word ∷ words) ≡ [] → fault_from name x words ≡ []
unfolding walk_fault
fell_fault name w x word words still to is =
    subst (λ y. fault_from name y words ≡ []) to
    (subst (λ ks. or_else (or_else ks (walk_fault (reader name) [] (walked rules [] w word) words)) (tail name (fold (walked rules []) (walked rules [] w word) words).held) ≡ []) still is)

-- a walk that goes on
goes_on : (name : Text) (o : Option Asking) (w x : Walk) (word : Text) (words : List Text) → turn_fault (reader name) [] w word ≡ [] → walked rules [] w word ≡ x
    → Verdict o (fault_from name x words) (rows_from x words) → Verdict o (fault_from name w (word ∷ words)) (rows_from w (word ∷ words))
unfolding walk_fault
goes_on name o w x word words still to v =
    subst (λ ks. Verdict o (or_else (or_else ks (walk_fault (reader name) [] (walked rules [] w word) words)) (tail name (fold (walked rules []) (walked rules [] w word) words).held)) (rows_from (walked rules [] w word) words)) (sym still)
    (subst (λ y. Verdict o (fault_from name y words) (rows_from y words)) (sym to) v)

-- and one that fails
ends_here : (name : Text) (w : Walk) (word : Text) (words : List Text) → (turn_fault (reader name) [] w word ≡ [] → ⊥) → fault_from name w (word ∷ words) ≡ [] → ⊥
unfolding walk_fault
ends_here name w word words bad is = bad (left_of _ _ (left_of _ _ is))

pub spelled_parts : (v : Bool) (word : Text) (words : List Text) → are_spelled v (word ∷ words) ≡ true
    → (is_spelling word ≡ true) × ((not v || is_some (number_up_to 50000000 word)) ≡ true) × (are_spelled (bytes_eq word (codes "--steps")) words ≡ true)
unfolding are_spelled may_stand
spelled_parts v word words is =
    let h = both (may_stand v word) (are_spelled (bytes_eq word (codes "--steps")) words) is in
    let k = both (is_spelling word) (not v || is_some (number_up_to 50000000 word)) h.0 in
    (k.0, k.1, h.1)

doomed_fails : (name : Text) (w : Walk) (v : Bool) (words : List Text) → Doomed w → are_spelled v words ≡ true → fault_from name w words ≡ [] → ⊥
doomed_fails name w v [] d spelled = doomed_end name w d
doomed_fails name w v (word ∷ words) d spelled = ends_here name w word words (doomed_turn name w word d (kind_of_word word (spelled_parts v word words spelled).0))

none_named : (a : Asking) (word : Text) (words : List Text) → with_next a.awaited a word ≡ None → outcome a (word ∷ words) ≡ None
none_named a word words none = ap (λ o. option_and_then (λ b. ended b.awaited b) (option_and_then (λ b. named b words) o)) none

not_named : (name : Text) (a : Asking) (w : Walk) (word : Text) (words : List Text) → with_next a.awaited a word ≡ None
    → (fault_from name w (word ∷ words) ≡ [] → ⊥) → Verdict (outcome a (word ∷ words)) (fault_from name w (word ∷ words)) (rows_from w (word ∷ words))
not_named name a w word words none bad = subst (λ o. Verdict o (fault_from name w (word ∷ words)) (rows_from w (word ∷ words))) (sym (none_named a word words none)) (not_taken bad)

pub verdict : (name : Text) (words : List Text) (a : Asking) (w : Walk) → Stand a w → are_spelled (awaits a.awaited) words ≡ true
    → Verdict (outcome a words) (fault_from name w words) (rows_from w words)
verdict name [] a w stand spelled = at_end name a w stand
verdict name (word ∷ words) a w stand spelled =
    let h = spelled_parts (awaits a.awaited) word words spelled in
    elim (one_step name a w word stand (kind_of_word word h.0) h.1) [
      | moved b x still to next waits more ↦
          subst (λ o. Verdict o (fault_from name w (word ∷ words)) (rows_from w (word ∷ words)))
          (sym (ap (λ o. option_and_then (λ c. ended c.awaited c) (option_and_then (λ c. named c words) o)) next))
          (goes_on name (outcome b words) w x word words still to
          (verdict name words b x more (subst (λ v. are_spelled v words ≡ true) (sym waits) h.2)))
      | fell x still to none bad ↦ not_named name a w word words none
          (λ is. doomed_fails name x _ words bad h.2 (fell_fault name w x word words still to is))
      | refused bad none ↦ not_named name a w word words none (ends_here name w word words bad)
    ]
