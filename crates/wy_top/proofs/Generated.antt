-- The source of a generated program is short enough to be read.
use Rattle.std.proofs.Common.{◌≡◌, refl, ℕ, suc, zero, ◌+◌, ◌*◌, ◌<◌, ◌≤◌, List, [], ◌∷◌, ◌++◌, length, map, codes, length-append, arith}
use Rattle.std.specs.Prelude.{◌%◌}
use Rattle.std.specs.Fmt.{decimal}
use Rattle.std.specs.List.{range_with_len}
use Rattle.std.proofs.lemmas.Fmt.{length-decimal-le}
use Rattle.wy_gen.specs.Generated.{addend, below, call, closing, divisor, ended, lines, loop_head, method, opening, source}

joined : (a b : List ℕ) (x y : ℕ) → length a ≤ x → length b ≤ y → length (a ++ b) ≤ x + y
joined a b x y p q = omega (arith, length-append a b, p, q)

has : (text : List ℕ) (n : ℕ) → length text ≡ n → length text ≤ n
has text n is = omega (arith, is)

divisor_digit : (n k : ℕ) → length (decimal (divisor n k)) ≤ 1
unfolding divisor
divisor_digit n k = length-decimal-le 1 ((13 * k + n) % 7 + 2) (omega arith) (omega arith) (omega arith)

addend_digits : (n k : ℕ) → length (decimal (addend n k)) ≤ 2
unfolding addend
addend_digits n k = length-decimal-le 2 ((31 * k + 17 * n) % 97 + 1) (omega arith) (omega arith) (omega arith)

number_digits : (k : ℕ) → k < 2000 → length (decimal k) ≤ 4
number_digits k few = length-decimal-le 4 k (omega arith) (omega (arith, few)) (omega (arith, few))

-- each line has at most a hundred bytes
method_short : (n k : ℕ) → k < 2000 → length (method n k) ≤ 100
unfolding method
method_short n k few =
    joined (codes "static int f") _ 12 88 (has (codes "static int f") 12 refl) (joined (decimal k) _ 4 84 (number_digits k few)
    (joined (codes "(int a) { if (a % ") _ 18 66 (has (codes "(int a) { if (a % ") 18 refl) (joined (decimal (divisor n k)) _ 1 65 (divisor_digit n k)
    (joined (codes " == 0) { t = t + ") _ 17 48 (has (codes " == 0) { t = t + ") 17 refl) (joined (decimal (addend n k)) _ 2 46 (addend_digits n k)
    (joined (codes "; } return a + t % ") _ 19 27 (has (codes "; } return a + t % ") 19 refl) (joined (decimal (divisor n k)) (codes "; }") 1 26 (divisor_digit n k) (omega (arith, has (codes "; }") 3 refl)))))))))

call_short : (k : ℕ) → k < 2000 → length (call k) ≤ 100
unfolding call
call_short k few = joined (codes "t = t + f") _ 9 91 (has (codes "t = t + f") 9 refl) (joined (decimal k) (codes "(i);") 4 87 (number_digits k few) (omega (arith, has (codes "(i);") 4 refl)))

-- so have the lines of so many numbers
ended_short : (line : ℕ → List ℕ) (k m : ℕ) → ((j : ℕ) → k ≤ j → j < k + m → length (line j) ≤ 100) → length (ended (map line (range_with_len k m))) ≤ 101 * m
ended_short line k zero short = omega arith
ended_short line k (suc m) short =
    let rest : List ℕ = ended (map line (range_with_len (k + 1) m)) in
    let behind : length rest ≤ 101 * m = ended_short line (k + 1) m (λ j low high. short j (omega (arith, low)) (omega (arith, high))) in
    omega (arith, length-append (line k ++ codes "\n") rest, length-append (line k) (codes "\n"), has (codes "\n") 1 refl, short k (omega arith) (omega arith), behind)

ended_length : (xs ys : List (List ℕ)) → length (ended (xs ++ ys)) ≡ length (ended xs) + length (ended ys)
ended_length [] ys = omega arith
ended_length (x ∷ xs) ys = omega (arith, length-append (x ++ codes "\n") (ended (xs ++ ys)), length-append (x ++ codes "\n") (ended xs), ended_length xs ys)

pub source_short : (n : ℕ) → n ≤ 2000 → length (source n) ≤ 1048576
unfolding lines
source_short n few =
    let methods : List (List ℕ) = map (method n) (below n) in
    let calls : List (List ℕ) = map call (below n) in
    omega (
      arith,
      few,
      ended_length opening (methods ++ (loop_head ++ (calls ++ closing))),
      ended_length methods (loop_head ++ (calls ++ closing)),
      ended_length loop_head (calls ++ closing),
      ended_length calls closing,
      has (ended opening) 28 refl,
      has (ended loop_head) 66 refl,
      has (ended closing) 40 refl,
      ended_short (method n) 0 n (λ j low high. method_short n j (omega (arith, high, few))),
      ended_short call 0 n (λ j low high. call_short j (omega (arith, high, few))),
    )
