-- The places of statements, one more at a time, and prints with their numbers.
use Rattle.std.proofs.Common.{◌≡◌, ◌∙◌, ℕ, suc, ◌+◌, ◌<◌, ◌==◌, cond, List, [], ◌∷◌, ◌++◌, length, map, take, get_or, sym, ap, ap₂, append_assoc, append-nil, add-zero, zero-add, arith}
use Rattle.std.specs.Prelude.{count_by, if◌then◌else◌}
use Rattle.std.specs.BTreeMap.{BTreeMap}
use Rattle.std.specs.List.{enumerate_from}
use Rattle.std.proofs.lemmas.List.{map-append, take_more, length-take-le}
use Rattle.std.proofs.lemmas.List.Sums.{sum_by-append}
use Rattle.wy_ask.specs.declared.askable.Askable.{Askable}
use Rattle.wy_ask.specs.declared.never.PlacedStatement.{PlacedStatement}
use Rattle.wy_ask.specs.declared.asking.Listed.{Listed}
use Rattle.wy_ask.specs.declared.asking.Listed.TheVariants.{Printed}
use Rattle.wy_ask.specs.Counted.{count_at}
use Rattle.wy_ask.specs.Listing.{placed, printed}

-- ---- places

abbrev pub lines_of : List Askable → List ℕ
lines_of all = map (λ s. s.line) all

abbrev pub place_behind : List ℕ → Askable → PlacedStatement
place_behind before s = record { statement = s; place = 1 + count_by (λ line. line == s.line) before }

placed_more : (before : List ℕ) (xs : List Askable) (s : Askable) → placed before (xs ++ s ∷ []) ≡ placed before xs ++ place_behind (before ++ lines_of xs) s ∷ []
placed_more before [] s = ap (λ l. place_behind l s ∷ []) (sym (append-nil before))
placed_more before (x ∷ xs) s =
    ap (λ l. place_behind before x ∷ l) (placed_more (before ++ x.line ∷ []) xs s ∙ ap (λ l. placed (before ++ x.line ∷ []) xs ++ place_behind l s ∷ []) (append_assoc before (x.line ∷ []) (lines_of xs)))

lines_more : (xs : List Askable) (i : ℕ) (d : Askable) → i < length xs → lines_of (take (i + 1) xs) ≡ lines_of (take i xs) ++ (get_or xs i d).line ∷ []
lines_more xs i d lt = ap lines_of (take_more xs i d lt) ∙ map-append (λ s. s.line) (take i xs) (get_or xs i d ∷ [])

count_more : (q line : ℕ) (lines : List ℕ) → count_by (λ l. l == q) (lines ++ line ∷ []) ≡ count_by (λ l. l == q) lines + (if line == q then 1 else 0)
count_more q line lines = sum_by-append (λ l. cond (l == q) 1 0) lines (line ∷ []) ∙ ap (λ n. count_by (λ l. l == q) lines + n) (zero-add (if line == q then 1 else 0))

-- the counts are those of the statements so far
abbrev pub AreCounts : BTreeMap ℕ ℕ → List Askable → Type 0
AreCounts counts done = (q : ℕ) → count_at counts q ≡ count_by (λ l. l == q) (lines_of done)

pub counted : (old new : BTreeMap ℕ ℕ) (xs : List Askable) (i : ℕ) (d : Askable) → i < length xs → AreCounts old (take i xs)
    → ((q : ℕ) → count_at new q ≡ count_at old q + (if (get_or xs i d).line == q then 1 else 0)) → AreCounts new (take (i + 1) xs)
counted old new xs i d lt so_far more = λ q.
    more q ∙ ap (λ n. n + (if (get_or xs i d).line == q then 1 else 0)) (so_far q)
    ∙ sym (ap (count_by (λ l. l == q)) (lines_more xs i d lt) ∙ count_more q (get_or xs i d).line (lines_of (take i xs)))

pub next_placed : (counts : BTreeMap ℕ ℕ) (xs : List Askable) (i : ℕ) (d : Askable) (all : List PlacedStatement) (place : ℕ) → i < length xs → AreCounts counts (take i xs) → place ≡ 1 + count_at counts (get_or xs i d).line
    → all ≡ placed [] (take i xs) → all ++ record { statement = get_or xs i d; place = place } ∷ [] ≡ placed [] (take (i + 1) xs)
next_placed counts xs i d all place lt so_far is front =
    let s = get_or xs i d in
    let at : place ≡ 1 + count_by (λ l. l == s.line) (lines_of (take i xs)) = is ∙ ap (λ n. 1 + n) (so_far s.line) in
    ap₂ (λ (l : List PlacedStatement) (n : ℕ). l ++ record { statement = s; place = n } ∷ []) front at
    ∙ sym (ap (placed []) (take_more xs i d lt) ∙ placed_more [] (take i xs) s)

-- ---- prints

enumerated : (n : ℕ) (xs : List ℕ) (x : ℕ) → enumerate_from n (xs ++ x ∷ []) ≡ enumerate_from n xs ++ (n + length xs, x) ∷ []
enumerated n [] x = ap (λ m. (m, x) ∷ []) (sym (add-zero n))
enumerated n (y ∷ ys) x =
    let place : (n + 1) + length ys ≡ n + suc (length ys) = omega arith in
    ap (λ l. (n, y) ∷ l) (enumerated (n + 1) ys x ∙ ap (λ m. enumerate_from (n + 1) ys ++ (m, x) ∷ []) place)

next_printed : (xs : List ℕ) (i : ℕ) (d : ℕ) → i < length xs → printed (take (i + 1) xs) ≡ printed (take i xs) ++ Printed i (get_or xs i d) ∷ []
next_printed xs i d lt =
    let few : length (take i xs) ≡ i = length-take-le i xs (omega arith) in
    ap printed (take_more xs i d lt) ∙ ap (map (λ x. Printed x.0 x.1)) (enumerated 0 (take i xs) (get_or xs i d))
    ∙ map-append (λ x. Printed x.0 x.1) (enumerate_from 0 (take i xs)) ((0 + length (take i xs), get_or xs i d) ∷ [])
    ∙ ap (λ n. printed (take i xs) ++ Printed n (get_or xs i d) ∷ []) (let place : 0 + length (take i xs) ≡ i = omega (arith, few) in place)

pub push_printed : (old listed new : List Listed) (xs : List ℕ) (i piece d : ℕ) → i < length xs → piece ≡ i → listed ≡ old ++ printed (take i xs) → new ≡ listed ++ Printed piece (get_or xs i d) ∷ []
    → new ≡ old ++ printed (take (i + 1) xs)
push_printed old listed new xs i piece d lt same front is =
    is ∙ ap₂ (λ (l : List Listed) (n : ℕ). l ++ Printed n (get_or xs i d) ∷ []) front same ∙ append_assoc old (printed (take i xs)) (Printed i (get_or xs i d) ∷ [])
    ∙ ap (λ l. old ++ l) (sym (next_printed xs i d lt))
