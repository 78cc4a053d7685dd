-- Places that are spread over a text are no more than eight a token of it.
use Rattle.std.proofs.Common.{◌≡◌, refl, cond, arith, subst, ℕ, zero, suc, ◌+◌, ◌*◌, ◌≤◌, ◌==◌, List, [], ◌∷◌, length}
use Rattle.std.specs.Prelude.{nat_lt}
use Rattle.std.proofs.lemmas.Bool.Decides.{nat_tests}
use Rattle.wy_kernel.specs.Program.{Program}
use Rattle.wy_syntax.specs.Names.{width}
use Rattle.wy_syntax.specs.Declarations.{unit}
use Rattle.wy_elab_body.specs.declared.place.Place.{Place}
use Rattle.wy_elab_body.specs.Places.{key_of, places_of}
use Rattle.wy_elab_stmt.proofs.OneProgram.{as_wide}
use Rattle.law_structure.proofs.Spread.{times, times_both, Once}
use Rattle.law_structure.proofs.Productions.{unit_full}
use Rattle.law_structure.proofs.ClassTrees.{unit_spread}
use Rattle.law_structure.proofs.Elaborated.{made_from}
use Rattle.law_own_traces.specs.Statements.{statement_limit, TreesHaveFewStatements}

-- how many of the places have a key below the number
below : ℕ → List Place → ℕ
below n [] = 0
below n (q ∷ rest) = cond (nat_lt (key_of q) n) 1 0 + below n rest

more_times : (n : ℕ) (q : Place) (rest : List Place) → times n (q ∷ rest) ≡ cond (key_of q == n) 1 0 + times n rest
more_times n q rest = let e = times_both n (q ∷ []) rest in omega (arith, e)

here_none : (k : ℕ) → cond (nat_lt k 0) 1 0 ≤ 0
here_none k = grind (arith, nat_tests)

none_below : (qs : List Place) → below 0 qs ≡ 0
unfolding below
none_below [] = refl
none_below (q ∷ rest) = omega (arith, here_none (key_of q), none_below rest)

here_below : (k n : ℕ) → cond (nat_lt k (suc n)) 1 0 ≤ cond (nat_lt k n) 1 0 + cond (k == n) 1 0
here_below k n = grind (arith, nat_tests)

one_more : (n : ℕ) (qs : List Place) → below (suc n) qs ≤ below n qs + times n qs
unfolding below
one_more n [] = omega arith
one_more n (q ∷ rest) = omega (arith, here_below (key_of q) n, one_more n rest, more_times n q rest)

few_below : (n : ℕ) (qs : List Place) → ((k : ℕ) → times k qs ≤ 1) → below n qs ≤ n
few_below zero qs most = omega (arith, none_below qs)
few_below (suc n) qs most = omega (arith, one_more n qs, few_below n qs most, most n)

first_less : (k n rest all : ℕ) → all ≡ cond (k == k) 1 0 + rest → (n ≤ k → all ≡ 0) → 1 ≤ cond (nat_lt k n) 1 0
first_less k n rest all e h = grind (arith, nat_tests)

rest_none : (all a b : ℕ) → all ≡ a + b → all ≡ 0 → b ≡ 0
rest_none all a b e z = omega arith

all_below : (n : ℕ) (qs : List Place) → ((k : ℕ) → n ≤ k → times k qs ≡ 0) → length qs ≤ below n qs
unfolding below
all_below n [] h = omega arith
all_below n (q ∷ rest) h =
    let less = first_less (key_of q) n (times (key_of q) rest) (times (key_of q) (q ∷ rest)) (more_times (key_of q) q rest) (h (key_of q)) in
    let more = all_below n rest (λ k le. rest_none (times k (q ∷ rest)) (cond (key_of q == k) 1 0) (times k rest) (more_times k q rest) (h k le)) in omega (arith, less, more)

few_once : (low high : ℕ) (qs : List Place) → Once low high qs → length qs ≤ high
few_once low high qs h = omega (arith, all_below high qs h.above, few_below high qs h.most)

pub few_statements : TreesHaveFewStatements
few_statements tree well few count p h =
    let made = made_from (unit 0 tree) count p h in
    let places = few_once 0 (8 * (0 + width tree)) (places_of made.table (unit 0 tree)) (unit_spread made.table 0 tree (unit_full tree well)) in
    let wide = as_wide tree in
    subst (λ (q : Program). q.statements ≤ statement_limit) made.is (omega (arith, few, places, wide))
