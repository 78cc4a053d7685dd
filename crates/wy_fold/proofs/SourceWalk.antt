-- The lines of a source, byte by byte.
use Rattle.std.proofs.Common.{◌≡◌, ◌∙◌, refl, ℕ, zero, suc, ◌+◌, ◌-◌, ◌<◌, ◌≤◌, Bool, true, false, List, [], ◌∷◌, ◌++◌, length, get_or, take, drop, map, sym, ap, arith, append_assoc}
use Rattle.std.specs.Prelude.{if◌then◌else◌}
use Rattle.std.specs.Borrow.{Bor}
use Rattle.std.proofs.lemmas.List.{drop_all, drop_more, get_or-drop, get_or-map, length-drop, map-append, take_more}
use Rattle.wy_tree.specs.Bytes.{is_line_end}
use Rattle.wy_fold.specs.SourceLines.{goes_with, line_text, lines_on}

-- what is read of a line from its first byte on
abbrev pub part : List ℕ → ℕ → ℕ → List ℕ
part s start i = take (i - start) (drop start s)

nothing_read : (s : List ℕ) (i : ℕ) → part s i i ≡ []
nothing_read s i = let none : i - i ≡ 0 = omega arith in ap (λ n. take n (drop i s)) none

one_more_read : (s : List ℕ) (start i : ℕ) → start ≤ i → i < length s → part s start (i + 1) ≡ part s start i ++ get_or s i 0 ∷ []
one_more_read s start i le lt =
    let more : (i + 1) - start ≡ (i - start) + 1 = omega arith in
    let at : start + (i - start) ≡ i = omega arith in
    ap (λ n. take n (drop start s)) more
    ∙ take_more (drop start s) (i - start) 0 (omega (arith, length-drop start s))
    ∙ ap (λ b. take (i - start) (drop start s) ++ b ∷ []) (get_or-drop start s (i - start) 0 ∙ ap (λ n. get_or s n 0) at)

-- the lines, by what the next byte is
abbrev next : ℕ → List ℕ → ℕ → List ℕ → Bool → Bool → List (List ℕ)
next before line b bytes goes ends = if goes then lines_on b [] bytes else (if ends then line ∷ lines_on b [] bytes else lines_on b (line ++ b ∷ []) bytes)

step : (s : List ℕ) (start i before : ℕ) (goes ends : Bool) → i < length s → goes_with before (get_or s i 0) ≡ goes → is_line_end (get_or s i 0) ≡ ends
    → lines_on before (part s start i) (drop i s) ≡ next before (part s start i) (get_or s i 0) (drop (i + 1) s) goes ends
step s start i before goes ends lt g e =
    let b = get_or s i 0 in
    ap (lines_on before (part s start i)) (drop_more s i 0 lt)
    ∙ ap (λ x. next before (part s start i) b (drop (i + 1) s) x (is_line_end b)) g
    ∙ ap (λ x. next before (part s start i) b (drop (i + 1) s) goes x) e

pub goes_along : (s : List ℕ) (start i before : ℕ) → i < length s → goes_with before (get_or s i 0) ≡ true
    → lines_on before (part s start i) (drop i s) ≡ lines_on (get_or s i 0) (part s (i + 1) (i + 1)) (drop (i + 1) s)
goes_along s start i before lt g =
    step s start i before true (is_line_end (get_or s i 0)) lt g refl
    ∙ ap (λ l. lines_on (get_or s i 0) l (drop (i + 1) s)) (sym (nothing_read s (i + 1)))

pub ends_here : (s : List ℕ) (start i before : ℕ) → i < length s → goes_with before (get_or s i 0) ≡ false → is_line_end (get_or s i 0) ≡ true
    → lines_on before (part s start i) (drop i s) ≡ part s start i ∷ lines_on (get_or s i 0) (part s (i + 1) (i + 1)) (drop (i + 1) s)
ends_here s start i before lt g e =
    step s start i before false true lt g e
    ∙ ap (λ l. part s start i ∷ lines_on (get_or s i 0) l (drop (i + 1) s)) (sym (nothing_read s (i + 1)))

pub goes_on : (s : List ℕ) (start i before : ℕ) → start ≤ i → i < length s → goes_with before (get_or s i 0) ≡ false → is_line_end (get_or s i 0) ≡ false
    → lines_on before (part s start i) (drop i s) ≡ lines_on (get_or s i 0) (part s start (i + 1)) (drop (i + 1) s)
goes_on s start i before le lt g e =
    step s start i before false false lt g e
    ∙ ap (λ l. lines_on (get_or s i 0) l (drop (i + 1) s)) (sym (one_more_read s start i le lt))

-- one more line
pub one_more : (old new : List (Bor (List ℕ))) (x : Bor (List ℕ)) (line : List ℕ) (rest : List (List ℕ)) → new ≡ old ++ x ∷ [] → x.now ≡ line
    → map (λ l. l.now) new ++ rest ≡ map (λ l. l.now) old ++ line ∷ rest
one_more old new x line rest e same =
    let now : Bor (List ℕ) → List ℕ = λ l. l.now in
    ap (λ ls. map now ls ++ rest) e
    ∙ ap (λ ls. ls ++ rest) (map-append now old (x ∷ []))
    ∙ append_assoc (map now old) (x.now ∷ []) rest
    ∙ ap (λ l. map now old ++ l ∷ rest) same

-- at the end what is left is the last line
pub last_line : (s : List ℕ) (start i before : ℕ) → length s ≤ i → i ≤ length s → lines_on before (part s start i) (drop i s) ≡ part s start (length s) ∷ []
last_line s start i before end within =
    let same : i ≡ length s = omega arith in
    ap (lines_on before (part s start i)) (drop_all i s end) ∙ ap (λ n. part s start n ∷ []) same

-- ---- one line by its number

pub line_there : (lines : List (Bor (List ℕ))) (number : ℕ) (x : Bor (List ℕ)) → ¬ (number ≡ 0) → number - 1 < length lines → x ≡ get_or lines (number - 1) x
    → x.now ≡ line_text (map (λ l. l.now) lines) number
line_there lines zero x some inside was = absurd (some refl)
line_there lines (suc k) x some inside was =
    let now : Bor (List ℕ) → List ℕ = λ l. l.now in
    let at : suc k - 1 ≡ k = omega arith in
    ap now (was ∙ ap (λ i. get_or lines i x) at) ∙ sym (get_or-map now lines k x [] (omega (arith, inside, at)))
