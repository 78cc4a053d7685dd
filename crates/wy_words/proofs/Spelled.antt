-- The words that are read are the parts that they spell.
use Rattle.std.proofs.Common.{◌≡◌, ◌∙◌, ℕ, length, Bool, true, false, not, ◌&&◌, nat_eq, nat_lt, List, [], ◌∷◌, ◌++◌, drop, take, Option, Some, None, refl, sym, ap, subst, ne_eqb, eq-eqb}
use Rattle.std.specs.Prelude.{if◌then◌else◌, codes, is_none, bytes_eq, option_and_then}
use Rattle.std.specs.List.{starts_with}
use Rattle.std.proofs.lemmas.Bool.{both_ways, false≢true}
use Rattle.std.proofs.lemmas.List.{take-append-drop}
use Rattle.std.proofs.lemmas.Option.{none-some, same_Some, cond_some, option_and_then_some}
use Rattle.std.proofs.lemmas.Slice.Eq.{bytes_eq-Decides}
use Rattle.wy_words.specs.Awaited.{Awaited}
use Rattle.wy_words.specs.Awaited as awaited
use Rattle.wy_words.specs.Words.{is_plain, number_up_to, Part, Operand, Input, Trace, Steps, Spells, no_part, operand_part, input_part, trace_part, steps_part, joined_steps_part}
use Rattle.wy_words.specs.Reading.{Asking, with_part, with_plain, with_steps, with_word, with_next, named}

-- an asking whose next word is an operand or an option
abbrev pub ready : Asking → Asking
ready a = record a { awaited = awaited.Word }

-- what is named behind a number of parts
abbrev pub with_parts : Asking → List Part → Option Asking
with_parts a [] = Some a
with_parts a (part ∷ parts) = option_and_then (λ b. with_parts b parts) (with_part a part)

-- ---- what is spelled is read

-- behind a part the next word is an operand or an option
goes_on : (f g : Asking → Option Asking) → ((b : Asking) → f (ready b) ≡ g (ready b)) → (v : Bool) (b : Asking)
    → option_and_then f (if v then Some (ready b) else None) ≡ option_and_then g (if v then Some (ready b) else None)
goes_on f g same true b = same b
goes_on f g same false b = refl

behind_part : (f g : Asking → Option Asking) → ((b : Asking) → f (ready b) ≡ g (ready b)) → (a : Asking) (part : Part)
    → option_and_then f (with_part a part) ≡ option_and_then g (with_part a part)
unfolding with_part
behind_part f g same a (Operand word) = goes_on f g same (nat_lt (length a.operands) 3) (record a { operands = a.operands ++ (word ∷ []) })
behind_part f g same a (Input name) = goes_on f g same (is_none a.input) (record a { input = Some name })
behind_part f g same a (Trace name) = goes_on f g same (is_none a.trace) (record a { trace = Some name })
behind_part f g same a (Steps n) = goes_on f g same (is_none a.steps) (record a { steps = Some n })

-- a plain word begins no option
first_differs : (b : ℕ) (word : List ℕ) → is_plain (b ∷ word) ≡ true → b ≡ 45 → ⊥
unfolding is_plain
first_differs b word plain same = both_ways (not (nat_eq b 45)) (ap not (eq-eqb b 45 same)) plain

empty : is_plain [] ≡ true → ⊥
unfolding is_plain
empty is = false≢true is

no_option : (v : Bool) (x y : Option Asking) → v ≡ false → (if v then x else y) ≡ y
no_option v x y is = ap (λ u. if u then x else y) is

pub plain_next : (a : Asking) (word : List ℕ) → is_plain word ≡ true → with_next awaited.Word a word ≡ with_part a (Operand word)
unfolding with_next with_word with_plain
plain_next a [] plain = absurd (empty plain)
plain_next a (b ∷ word) plain =
    let far : nat_eq b 45 ≡ false = ne_eqb b 45 (first_differs b word plain) in
    let near : nat_eq 45 b ≡ false = ne_eqb 45 b (λ e. first_differs b word plain (sym e)) in
    no_option (bytes_eq (b ∷ word) (codes "-i")) _ _ (ap (λ v. v && bytes_eq word (codes "i")) far)
    ∙ no_option (bytes_eq (b ∷ word) (codes "-o")) _ _ (ap (λ v. v && bytes_eq word (codes "o")) far)
    ∙ no_option (bytes_eq (b ∷ word) (codes "--steps")) _ _ (ap (λ v. v && bytes_eq word (codes "-steps")) far)
    ∙ no_option (starts_with nat_eq (b ∷ word) (codes "--steps=")) _ _ (ap (λ v. v && bytes_eq (codes "-steps=") (take 7 word)) near)
    ∙ ap (λ v. if v then with_part a (Operand (b ∷ word)) else None) plain

operand_read : (a : Asking) (word : List ℕ) (words : List (List ℕ)) → is_plain word ≡ true
    → named (ready a) (word ∷ words) ≡ option_and_then (λ b. named b words) (with_part (ready a) (Operand word))
operand_read a word words plain = ap (option_and_then (λ b. named b words)) (plain_next (ready a) word plain)

input_read : (a : Asking) (name : List ℕ) (words : List (List ℕ)) → is_plain name ≡ true
    → named (ready a) (codes "-i" ∷ (name ∷ words)) ≡ option_and_then (λ b. named b words) (with_part (ready a) (Input name))
unfolding with_next with_word with_plain with_part
input_read a name words plain = ap (λ v. option_and_then (λ b. named b words) (if v then with_part (ready a) (Input name) else None)) plain

trace_read : (a : Asking) (name : List ℕ) (words : List (List ℕ)) → is_plain name ≡ true
    → named (ready a) (codes "-o" ∷ (name ∷ words)) ≡ option_and_then (λ b. named b words) (with_part (ready a) (Trace name))
unfolding with_next with_word with_plain with_part
trace_read a name words plain = ap (λ v. option_and_then (λ b. named b words) (if v then with_part (ready a) (Trace name) else None)) plain

steps_read : (a : Asking) (word : List ℕ) (n : ℕ) (words : List (List ℕ)) → number_up_to 50000000 word ≡ Some n
    → named (ready a) (codes "--steps" ∷ (word ∷ words)) ≡ option_and_then (λ b. named b words) (with_part (ready a) (Steps n))
unfolding with_next with_word with_steps with_part
steps_read a word n words is = ap (λ o. option_and_then (λ b. named b words) (option_and_then (λ m. with_part (ready a) (Steps m)) o)) is

joined_steps_read : (a : Asking) (word : List ℕ) (n : ℕ) (words : List (List ℕ)) → number_up_to 50000000 word ≡ Some n
    → named (ready a) ((codes "--steps=" ++ word) ∷ words) ≡ option_and_then (λ b. named b words) (with_part (ready a) (Steps n))
unfolding with_next with_word with_steps with_part
joined_steps_read a word n words is = ap (λ o. option_and_then (λ b. named b words) (option_and_then (λ m. with_part (ready a) (Steps m)) o)) is

pub spelled : (words : List (List ℕ)) (parts : List Part) → Spells words parts → (a : Asking) → named (ready a) words ≡ with_parts (ready a) parts
spelled _ _ no_part a = refl
spelled _ _ (operand_part {word = w} {words = ws} {parts = ps} plain s) a =
    operand_read a w ws plain ∙ behind_part (λ b. named b ws) (λ b. with_parts b ps) (spelled ws ps s) (ready a) (Operand w)
spelled _ _ (input_part {name = w} {words = ws} {parts = ps} plain s) a =
    input_read a w ws plain ∙ behind_part (λ b. named b ws) (λ b. with_parts b ps) (spelled ws ps s) (ready a) (Input w)
spelled _ _ (trace_part {name = w} {words = ws} {parts = ps} plain s) a =
    trace_read a w ws plain ∙ behind_part (λ b. named b ws) (λ b. with_parts b ps) (spelled ws ps s) (ready a) (Trace w)
spelled _ _ (steps_part {word = w} {n = n} {words = ws} {parts = ps} is s) a =
    steps_read a w n ws is ∙ behind_part (λ b. named b ws) (λ b. with_parts b ps) (spelled ws ps s) (ready a) (Steps n)
spelled _ _ (joined_steps_part {word = w} {n = n} {words = ws} {parts = ps} is s) a =
    joined_steps_read a w n ws is ∙ behind_part (λ b. named b ws) (λ b. with_parts b ps) (spelled ws ps s) (ready a) (Steps n)

-- ---- what is read is spelled

-- the words spell parts
abbrev pub Speak : List (List ℕ) → Type 0
Speak words = (parts : List Part) × Spells words parts

-- the words, and in front the option that awaits the first of them
abbrev awaiting : Awaited → List (List ℕ) → List (List ℕ)
awaiting awaited.Word words = words
awaiting awaited.Input words = codes "-i" ∷ words
awaiting awaited.Trace words = codes "-o" ∷ words
awaiting awaited.Steps words = codes "--steps" ∷ words

is_ready : (v : Bool) (a b : Asking) → (if v then Some (ready a) else None) ≡ Some b → b.awaited ≡ awaited.Word
is_ready v a b is = sym (ap (λ c. c.awaited) (cond_some v (ready a) b is).1)

part_ready : (a b : Asking) (part : Part) → with_part a part ≡ Some b → b.awaited ≡ awaited.Word
unfolding with_part
part_ready a b (Operand word) is = is_ready (nat_lt (length a.operands) 3) (record a { operands = a.operands ++ (word ∷ []) }) b is
part_ready a b (Input name) is = is_ready (is_none a.input) (record a { input = Some name }) b is
part_ready a b (Trace name) is = is_ready (is_none a.trace) (record a { trace = Some name }) b is
part_ready a b (Steps n) is = is_ready (is_none a.steps) (record a { steps = Some n }) b is

behind_ready : (b : Asking) (words : List (List ℕ)) → b.awaited ≡ awaited.Word → Speak (awaiting b.awaited words) → Speak words
behind_ready b words is s = subst (λ w. Speak (awaiting w words)) is s

plain_only : (a b : Asking) (kind : List ℕ → Part) (word : List ℕ) → with_plain a kind word ≡ Some b → (is_plain word ≡ true) × (with_part a (kind word) ≡ Some b)
unfolding with_plain
plain_only a b kind word is = go (is_plain word) refl is
  where
    go : (v : Bool) → is_plain word ≡ v → (if v then with_part a (kind word) else None) ≡ Some b → (is_plain word ≡ true) × (with_part a (kind word) ≡ Some b)
    go true plain e = (plain, e)
    go false plain e = absurd (none-some b e)

plain_spelled : (a b : Asking) (kind : List ℕ → Part) (word : List ℕ) (words front : List (List ℕ))
    → ((parts : List Part) → is_plain word ≡ true → Spells words parts → Spells front (kind word ∷ parts))
    → with_plain a kind word ≡ Some b → Speak (awaiting b.awaited words) → Speak front
plain_spelled a b kind word words front spell is s =
    let p = plain_only a b kind word is in
    let more = behind_ready b words (part_ready a b (kind word) p.1) s in
    (kind word ∷ more.0, spell more.0 p.0 more.1)

steps_spelled : (a b : Asking) (word : List ℕ) (words front : List (List ℕ))
    → ((n : ℕ) (parts : List Part) → number_up_to 50000000 word ≡ Some n → Spells words parts → Spells front (Steps n ∷ parts))
    → with_steps a word ≡ Some b → Speak (awaiting b.awaited words) → Speak front
unfolding with_steps
steps_spelled a b word words front spell is s =
    option_and_then_some (λ n. with_part a (Steps n)) (number_up_to 50000000 word) b is (λ n number e.
    let more = behind_ready b words (part_ready a b (Steps n) e) s in
    (Steps n ∷ more.0, spell n more.0 number more.1))

option_spelled : (a b : Asking) (w : Awaited) (option word : List ℕ) (words : List (List ℕ))
    → awaiting w words ≡ option ∷ words → bytes_eq word option ≡ true
    → Some (record a { awaited = w }) ≡ Some b → Speak (awaiting b.awaited words) → Speak (word ∷ words)
option_spelled a b w option word words front same is s =
    let next : w ≡ b.awaited = ap (λ c. c.awaited) (same_Some (record a { awaited = w }) b is) in
    let all : Speak (option ∷ words) = subst Speak front (subst (λ v. Speak (awaiting v words)) (sym next) s) in
    subst (λ v. Speak (v ∷ words)) (sym ((bytes_eq-Decides word option).0 same)) all

joined_word : (word : List ℕ) → starts_with nat_eq word (codes "--steps=") ≡ true → word ≡ codes "--steps=" ++ drop 8 word
joined_word word same =
    sym (take-append-drop 8 word) ∙ ap (λ v. v ++ drop 8 word) (sym ((bytes_eq-Decides (codes "--steps=") (take 8 word)).0 same))

joined_spelled : (a b : Asking) (word : List ℕ) (words : List (List ℕ)) → starts_with nat_eq word (codes "--steps=") ≡ true
    → with_steps a (drop 8 word) ≡ Some b → Speak (awaiting b.awaited words) → Speak (word ∷ words)
joined_spelled a b word words joined is s =
    subst (λ v. Speak (v ∷ words)) (sym (joined_word word joined))
    (steps_spelled a b (drop 8 word) words _ (λ n parts number more. joined_steps_part number more) is s)

word_spelled : (a b : Asking) (word : List ℕ) (words : List (List ℕ)) → with_word a word ≡ Some b → Speak (awaiting b.awaited words) → Speak (word ∷ words)
unfolding with_word
word_spelled a b word words is s =
    go (bytes_eq word (codes "-i")) (bytes_eq word (codes "-o")) (bytes_eq word (codes "--steps")) (starts_with nat_eq word (codes "--steps=")) refl refl refl refl is
  where
    go : (i o n j : Bool) → bytes_eq word (codes "-i") ≡ i → bytes_eq word (codes "-o") ≡ o → bytes_eq word (codes "--steps") ≡ n → starts_with nat_eq word (codes "--steps=") ≡ j
        → (if i then Some (record a { awaited = awaited.Input })
        else (if o then Some (record a { awaited = awaited.Trace })
        else (if n then Some (record a { awaited = awaited.Steps })
        else (if j then with_steps a (drop 8 word)
        else with_plain a Operand word)))) ≡ Some b → Speak (word ∷ words)
    go true o n j ei eo en ej e = option_spelled a b awaited.Input (codes "-i") word words refl ei e s
    go false true n j ei eo en ej e = option_spelled a b awaited.Trace (codes "-o") word words refl eo e s
    go false false true j ei eo en ej e = option_spelled a b awaited.Steps (codes "--steps") word words refl en e s
    go false false false true ei eo en ej e = joined_spelled a b word words ej e s
    go false false false false ei eo en ej e =
        plain_spelled a b Operand word words (word ∷ words) (λ parts plain more. operand_part plain more) e s

next_spelled : (w : Awaited) (a b : Asking) (word : List ℕ) (words : List (List ℕ)) → with_next w a word ≡ Some b
    → Speak (awaiting b.awaited words) → Speak (awaiting w (word ∷ words))
unfolding with_next
next_spelled awaited.Word a b word words is s = word_spelled a b word words is s
next_spelled awaited.Input a b word words is s = plain_spelled a b Input word words _ (λ parts plain more. input_part plain more) is s
next_spelled awaited.Trace a b word words is s = plain_spelled a b Trace word words _ (λ parts plain more. trace_part plain more) is s
next_spelled awaited.Steps a b word words is s = steps_spelled a b word words _ (λ n parts number more. steps_part number more) is s

pub named_spelled : (b : Asking) → b.awaited ≡ awaited.Word → (words : List (List ℕ)) (a : Asking) → named a words ≡ Some b → Speak (awaiting a.awaited words)
named_spelled b whole [] a is = subst (λ w. Speak (awaiting w [])) (sym (ap (λ c. c.awaited) (same_Some a b is) ∙ whole)) ([], no_part)
named_spelled b whole (word ∷ words) a is =
    option_and_then_some (λ c. named c words) (with_next a.awaited a word) b is
    (λ c next rest. next_spelled a.awaited a c word words next (named_spelled b whole words c rest))
