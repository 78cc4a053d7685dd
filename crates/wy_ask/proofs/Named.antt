-- A word is read as the line and the place that it spells.
use Rattle.std.proofs.Common.{◌≡◌, ◌∙◌, ℕ, ◌-◌, ◌<◌, ◌≤◌, ◌&&◌, nat_lt, List, ◌∷◌, ◌++◌, length, Some, None, Ok, Err, refl, sym, ap, subst, arith, get_or, ⊎_elim}
use Rattle.std.specs.Prelude.{Option, if◌then◌else◌, slice_get}
use Rattle.std.proofs.lemmas.Bool.{and_parts, and_from, lt-ltb, ltb-true}
use Rattle.std.proofs.lemmas.Option.{none-some, some_pair_parts, cond_some, slice_get_cases}
use Rattle.std.proofs.lemmas.List.Sorted.{length_permutation}
use Rattle.wy_kernel.specs.Form.{Statement}
use Rattle.wy_ask.specs.declared.question.AskError.TheVariants as errors
use Rattle.wy_ask.specs.Words.{number_of}
use Rattle.wy_ask.specs.Reading.{and_then, cut}
use Rattle.wy_ask.specs.Lines.{numbers_on}
use Rattle.wy_ask.specs.Statements.{SpellsStatement, placed, alone, Names, Rises, Finds, positive, by_dot, word_in}
use Rattle.wy_ask.proofs.Fronts.{cut_there, cut_none, cut_only}
use Rattle.wy_ask.proofs.Spellings.{number_lacks, then_some}

are_positive : (l k : ℕ) → 0 < l → 0 < k → positive l k ≡ Some (l, k)
are_positive l k some more = ap (λ b. if b then Some (l, k) else None) (and_from (nat_lt 0 l) (nat_lt 0 k) (lt-ltb 0 l some) (lt-ltb 0 k more))

-- a word is read as what it spells
pub read : (l k : ℕ) (text : List ℕ) → SpellsStatement l k text → word_in text ≡ Some (l, k)
read _ _ _ (placed l k v w e f some more) =
    ap (λ o. by_dot o (v ++ (46 ∷ w))) (cut_there 46 v w (number_lacks 46 refl l v e))
    ∙ ap (λ o. and_then o (λ line. and_then (number_of w) (λ place. positive line place))) e
    ∙ ap (λ o. and_then o (λ place. positive l place)) f ∙ are_positive l k some more
read _ _ _ (alone l v e some) =
    ap (λ o. by_dot o v) (cut_none 46 v (number_lacks 46 refl l v e)) ∙ ap (λ o. and_then o (λ line. positive line 1)) e ∙ are_positive l 1 some (omega arith)

parts : (a b l k : ℕ) → positive a b ≡ Some (l, k) → (0 < a) × (0 < b) × (a ≡ l) × (b ≡ k)
parts a b l k e =
    let c = cond_some (nat_lt 0 a && nat_lt 0 b) (a, b) (l, k) e in
    let both = and_parts (nat_lt 0 a) (nat_lt 0 b) c.0 in
    (ltb-true 0 a both.0, ltb-true 0 b both.1, ap (λ x. x.0) c.1, ap (λ x. x.1) c.1)

-- and spells what it is read as
spelled : (text : List ℕ) (l k : ℕ) → word_in text ≡ Some (l, k) → SpellsStatement l k text
spelled text l k e = go (cut 46 text) refl e
  where
    go : (o : Option (List ℕ × List ℕ)) → cut 46 text ≡ o → by_dot o text ≡ Some (l, k) → SpellsStatement l k text
    go None is f =
        then_some (number_of text) (λ line. positive line 1) (l, k) f (λ a ea g.
        let p = parts a 1 l k g in
        subst (λ z. SpellsStatement l z text) p.3 (subst (λ z. SpellsStatement z 1 text) p.2 (alone a text ea p.0)))
    go (Some x) is f =
        then_some (number_of x.0) (λ line. and_then (number_of x.1) (λ place. positive line place)) (l, k) f (λ a ea g.
        then_some (number_of x.1) (λ place. positive a place) (l, k) g (λ b eb h.
        let p = parts a b l k h in
        subst (SpellsStatement l k) (sym (cut_only 46 text x.0 x.1 is))
        (subst (λ z. SpellsStatement l z (x.0 ++ (46 ∷ x.1))) p.3 (subst (λ z. SpellsStatement z b (x.0 ++ (46 ∷ x.1))) p.2 (placed a b x.0 x.1 ea eb p.0 p.1)))))

names : (text : List ℕ) (l k : ℕ) → word_in text ≡ Some (l, k) → Names text l k
names text l k e = record { spelled = spelled text l k e; only = λ a b s. some_pair_parts a l b k (sym (read a b text s) ∙ e) }

pub unread : (text : List ℕ) → word_in text ≡ None → (l k : ℕ) → SpellsStatement l k text → ⊥
unread text e l k s = none-some (l, k) (sym e ∙ read l k text s)

pub found : (lines : List ℕ) (all : List Statement) (text : List ℕ) (l k : ℕ) (rising : List ℕ) (n : ℕ) → word_in text ≡ Some (l, k) → Rises (numbers_on lines l all) rising
    → slice_get rising (k - 1) ≡ Some n → Finds lines all text (Ok (record { number = n; line = l; place = k }))
found lines all text l k rising n e rises there = (names text l k e, record { rising = rising; rises = rises; there = there })

place_is_positive : (l k : ℕ) (text : List ℕ) → SpellsStatement l k text → 0 < k
place_is_positive _ _ _ (placed l k v w e f some more) = more
place_is_positive _ _ _ (alone l v e some) = omega arith

past_end : (xs : List ℕ) (i : ℕ) → slice_get xs i ≡ None → length xs ≤ i
past_end xs i e = ⊎_elim (λ (h : (x : ℕ) × (i < length xs) × (slice_get xs i ≡ Some x) × (get_or xs i x ≡ x)). absurd (none-some h.0 (sym e ∙ h.2))) (λ (h : (length xs ≤ i) × (slice_get xs i ≡ None)). h.0) (slice_get_cases xs i).1

pub none_there : (lines : List ℕ) (all : List Statement) (text : List ℕ) (l k : ℕ) (rising : List ℕ) → word_in text ≡ Some (l, k) → Rises (numbers_on lines l all) rising
    → slice_get rising (k - 1) ≡ None → Finds lines all text (Err (errors.NoSuch l))
none_there lines all text l k rising e rises none =
    let many : length rising ≡ length (numbers_on lines l all) = length_permutation (numbers_on lines l all) rising rises.same in
    let past : length rising ≤ k - 1 = past_end rising (k - 1) none in
    let some : 0 < k = place_is_positive l k text (spelled text l k e) in
    (k, names text l k e, omega arith)
