-- Numbers that rise, each more than the one before it.
use Rattle.std.proofs.Common.{ℕ, ◌+◌, ◌<◌, ◌≤◌, List, [], ◌∷◌, ◌++◌, length, arith, inl, inr}
use Rattle.law_structure.proofs.Dense.{In}

-- from a number on, and below another
abbrev pub Rising : ℕ → List ℕ → ℕ → Type 0
Rising low [] high = low ≤ high
Rising low (n ∷ rest) high = (low ≤ n) × Rising (n + 1) rest high

pub rises : (low : ℕ) (ns : List ℕ) (high : ℕ) → Rising low ns high → low ≤ high
rises low [] high h = h
rises low (n ∷ rest) high h =
    let here : low ≤ n = h.0 in
    let there : n + 1 ≤ high = rises (n + 1) rest high h.1 in omega arith

pub from_less : (less low : ℕ) (ns : List ℕ) (high : ℕ) → less ≤ low → Rising low ns high → Rising less ns high
from_less less low [] high a h = let there : low ≤ high = h in omega arith
from_less less low (n ∷ rest) high a h = let here : low ≤ n = h.0 in (omega arith, h.1)

pub to_more : (low : ℕ) (ns : List ℕ) (high more : ℕ) → high ≤ more → Rising low ns high → Rising low ns more
to_more low [] high more a h = let there : low ≤ high = h in omega arith
to_more low (n ∷ rest) high more a h = (h.0, to_more (n + 1) rest high more a h.1)

-- one list behind another
pub both : (low : ℕ) (xs : List ℕ) (middle : ℕ) (ys : List ℕ) (high : ℕ) → Rising low xs middle → Rising middle ys high → Rising low (xs ++ ys) high
both low [] middle ys high h i = from_less low middle ys high h i
both low (x ∷ xs) middle ys high h i = (h.0, both (x + 1) xs middle ys high h.1 i)

pub alone : (low n high : ℕ) → low ≤ n → n + 1 ≤ high → Rising low (n ∷ []) high
alone low n high h i = (h, i)

-- there are no more of them than there is room
pub fit : (low : ℕ) (ns : List ℕ) (high : ℕ) → Rising low ns high → low + length ns ≤ high
fit low [] high h = let there : low ≤ high = h in omega arith
fit low (n ∷ rest) high h =
    let here : low ≤ n = h.0 in
    let more : (n + 1) + length rest ≤ high = fit (n + 1) rest high h.1 in omega arith

-- each is within
pub within : (low : ℕ) (ns : List ℕ) (high : ℕ) → Rising low ns high → (n : ℕ) → In n ns → (low ≤ n) × (n < high)
within low [] high h n m = absurd m
within low (x ∷ rest) high h n (inl e) =
    let here : low ≤ x = h.0 in
    let there : x + 1 ≤ high = rises (x + 1) rest high h.1 in (omega (arith, e), omega (arith, e))
within low (x ∷ rest) high h n (inr m) =
    let here : low ≤ x = h.0 in
    let more = within (x + 1) rest high h.1 n m in (omega (arith, more.0), more.1)

-- those behind
pub behind : (low : ℕ) (xs ys : List ℕ) (high : ℕ) → Rising low (xs ++ ys) high → (middle : ℕ) × Rising low xs middle × Rising middle ys high
behind low [] ys high h = (low, omega arith, h)
behind low (x ∷ xs) ys high h = let more = behind (x + 1) xs ys high h.1 in (more.0, (h.0, more.1), more.2)
