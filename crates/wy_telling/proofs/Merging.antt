-- The events of an answer with those of its data, which are some of them, side by side.
use Rattle.std.proofs.Common.{◌≡◌, ◌∙◌, ◌<◌, ◌+◌, ◌++◌, ℕ, zero, suc, Bool, true, false, List, [], ◌∷◌, length, drop, take, get_or, refl, sym, ap, nat_eq, eq-eqb, ne_eqb, arith}
use Rattle.std.specs.List.{flat_map}
use Rattle.std.specs.Prelude.{filter, if◌then◌else◌}
use Rattle.std.proofs.lemmas.List.{append-nil, take_more}
use Rattle.std.proofs.lemmas.List.Concat.{flat_map-append}
use Rattle.wy_kernel.specs.Program.{Program}
use Rattle.wy_event.specs.Numbers.{Numbers}
use Rattle.wy_event.specs.Record.{Recorded}
use Rattle.wy_text.specs.EventLines.{event_line}
use Rattle.wy_telling.specs.Answers.{marked_lines}
use Rattle.wy_why.specs.Answer.{Rises}

-- the first of a list is this number
abbrev pub begins_with : ℕ → List ℕ → Bool
begins_with n [] = false
begins_with n (x ∷ xs) = nat_eq x n

-- what stands behind the first
abbrev pub behind_first : List ℕ → List ℕ
behind_first [] = []
behind_first (x ∷ xs) = xs

-- an event below all others is none of them
not_among : (n low high : ℕ) (xs : List ℕ) (set : Numbers) → n < low → Rises low high xs → begins_with n (filter set xs) ≡ false
not_among n low high [] set lt rises = refl
not_among n low high (x ∷ xs) set lt (le, less, more) = go (set x) (not_among n (suc x) high xs set (omega (arith, lt, le)) more)
  where
    go : (b : Bool) → begins_with n (filter set xs) ≡ false → begins_with n (if b then x ∷ filter set xs else filter set xs) ≡ false
    go true later = ne_eqb x n (λ same. omega (arith, same, lt, le))
    go false later = later

-- an event is of the data exactly where it comes next there
next_is : (set : Numbers) (n low high : ℕ) (xs : List ℕ) → Rises low high (n ∷ xs) → begins_with n (filter set (n ∷ xs)) ≡ set n
next_is set n low high xs (le, less, more) = go (set n)
  where
    go : (b : Bool) → begins_with n (if b then n ∷ filter set xs else filter set xs) ≡ b
    go true = eq-eqb n n refl
    go false = not_among n (suc n) high xs set (omega arith) more

pub comes_next : (set : Numbers) (n high : ℕ) (xs flow rest : List ℕ) (first : ℕ) → Rises 0 high (n ∷ xs) → flow ≡ filter set (n ∷ xs) → flow ≡ first ∷ rest → first ≡ n → (true ≡ set n) × (rest ≡ filter set xs)
comes_next set n high xs flow rest first rises is has same =
    let next : true ≡ set n = sym (eq-eqb first n same) ∙ ap (begins_with n) (sym has ∙ is) ∙ next_is set n 0 high xs rises in
    (next, ap behind_first (sym has ∙ is) ∙ ap (λ b. behind_first (if b then n ∷ filter set xs else filter set xs)) (sym next))

pub comes_later : (set : Numbers) (n high : ℕ) (xs flow : List ℕ) → Rises 0 high (n ∷ xs) → flow ≡ filter set (n ∷ xs) → begins_with n flow ≡ false → (false ≡ set n) × (flow ≡ filter set xs)
comes_later set n high xs flow rises is other =
    let later : false ≡ set n = sym other ∙ ap (begins_with n) is ∙ next_is set n 0 high xs rises in
    (later, is ∙ ap (λ b. if b then n ∷ filter set xs else filter set xs) (sym later))

-- ---- along a list that rises

pub rises_from : (i low high : ℕ) (xs : List ℕ) → Rises low high xs → Rises 0 high (drop i xs)
rises_from zero low high [] rises = tt
rises_from (suc i) low high [] rises = tt
rises_from zero low high (x ∷ xs) (le, less, more) = (omega arith, less, more)
rises_from (suc i) low high (x ∷ xs) (le, less, more) = rises_from i (suc x) high xs more

-- each is below the end
pub below_end : (i low high : ℕ) (xs : List ℕ) (d : ℕ) → Rises low high xs → i < length xs → get_or xs i d < high
below_end i low high [] d rises lt = absurd (omega (arith, lt))
below_end zero low high (x ∷ xs) d (le, less, more) lt = less
below_end (suc i) low high (x ∷ xs) d (le, less, more) lt = below_end i (suc x) high xs d more (omega (arith, lt))

-- the lines of one more
more_lines : (f : ℕ → List ℕ) (xs : List ℕ) (i d : ℕ) → i < length xs → flat_map f (take i xs) ++ f (get_or xs i d) ≡ flat_map f (take (i + 1) xs)
more_lines f xs i d lt = sym (ap (flat_map f) (take_more xs i d lt) ∙ flat_map-append f (take i xs) (get_or xs i d ∷ []) ∙ ap (λ l. flat_map f (take i xs) ++ l) (append-nil (f (get_or xs i d))))

-- the lines of the answer so far, and that of the next event
pub one_more : (p : Program) (lines : List ℕ) (rs : List Recorded) (by_data : Numbers) (all items : List ℕ) (i : ℕ) (marked : Bool) (text more : List ℕ) → items ≡ all → i < length items
    → more ≡ text ++ event_line p lines rs (get_or items i 0) marked → marked ≡ by_data (get_or items i 0) → text ≡ marked_lines p lines rs by_data (take i all)
    → more ≡ marked_lines p lines rs by_data (take (i + 1) all)
one_more p lines rs by_data all items i marked text more same lt is star so_far =
    let line = event_line p lines rs (get_or items i 0) in
    let front = marked_lines p lines rs by_data (take i items) in
    let before : text ≡ front = so_far ∙ ap (λ l. marked_lines p lines rs by_data (take i l)) (sym same) in
    let next : more ≡ front ++ line (by_data (get_or items i 0)) = is ∙ ap (λ t. t ++ line marked) before ∙ ap (λ m. front ++ line m) star in
    next ∙ more_lines (λ k. event_line p lines rs k (by_data k)) items i 0 lt ∙ ap (λ l. marked_lines p lines rs by_data (take (i + 1) l)) same
