-- The value of digits, read from the front.
use Rattle.std.proofs.Common.{ℕ, ◌+◌, ◌*◌, ◌<◌, ◌≤◌, ◌≡◌, nat_le, nat_eq, Bool, true, false, if◌then◌else◌, List, [], ◌∷◌, length, get_or, drop, Some, None, refl, sym, ◌∙◌, ap, add-one, drop-cons, arith}
use Rattle.std.proofs.lemmas.Bool.{le-leb, lt-leb}
use Rattle.std.proofs.lemmas.List.{drop_all}
use Rattle.std.proofs.Math.Nat.{mul-le-mul_right}
use Rattle.std.specs.Char.{digit_value}
use Rattle.wy_tree.specs.Numbers.{value_from}

abbrev pub with_digit : ℕ → ℕ → ℕ → ℕ
with_digit radix n b = if nat_eq b 95 then n else radix * n + digit_value b

multiple : (radix n : ℕ) → 1 ≤ radix → n ≤ radix * n
multiple radix n le = let e : 1 * n ≤ radix * n = mul-le-mul_right {m = 1} {n = radix} n le in omega arith

step_grows : (radix n b : ℕ) → 1 ≤ radix → n ≤ with_digit radix n b
step_grows radix n b le = by (nat_eq b 95)
  where
    by : (v : Bool) → n ≤ (if v then n else radix * n + digit_value b)
    by true = omega arith
    by false = let e = multiple radix n le in omega arith

grows : (radix n : ℕ) (bytes : List ℕ) → 1 ≤ radix → n ≤ value_from radix n bytes
grows radix n [] le = omega arith
grows radix n (b ∷ bytes) le = let e = step_grows radix n b le in let f = grows radix (with_digit radix n b) bytes le in omega arith

here : (radix : ℕ) (bytes : List ℕ) (i n : ℕ) → i < length bytes
    → value_from radix n (drop i bytes) ≡ value_from radix (with_digit radix n (get_or bytes i 0)) (drop (i + 1) bytes)
here radix bytes i n lt =
    ap (value_from radix n) (drop-cons bytes i 0 lt) ∙ ap (λ k. value_from radix (with_digit radix n (get_or bytes i 0)) (drop k bytes)) (sym (add-one i))

pub begun : (radix : ℕ) (bytes : List ℕ) → value_from radix 0 bytes ≡ value_from radix 0 (drop 0 bytes)
begun radix bytes = refl

pub too_large : (radix largest : ℕ) (bytes : List ℕ) (i n : ℕ) → 1 ≤ radix → i < length bytes → largest < with_digit radix n (get_or bytes i 0)
    → value_from radix 0 bytes ≡ value_from radix n (drop i bytes) → None ≡ (if nat_le (value_from radix 0 bytes) largest then Some (value_from radix 0 bytes) else None)
too_large radix largest bytes i n some lt gt e =
    let f = here radix bytes i n lt in
    let g = grows radix (with_digit radix n (get_or bytes i 0)) (drop (i + 1) bytes) some in
    let h : largest < value_from radix 0 bytes = omega (arith, e, f, g, gt) in
    sym (ap (λ z. if z then Some (value_from radix 0 bytes) else None) (lt-leb (value_from radix 0 bytes) largest h))

pub digit_more : (radix : ℕ) (bytes : List ℕ) (i n : ℕ) → i < length bytes → value_from radix 0 bytes ≡ value_from radix n (drop i bytes)
    → value_from radix 0 bytes ≡ value_from radix (with_digit radix n (get_or bytes i 0)) (drop (i + 1) bytes)
digit_more radix bytes i n lt e = e ∙ here radix bytes i n lt

pub all_read : (radix largest : ℕ) (bytes : List ℕ) (i n : ℕ) → n ≤ largest → length bytes ≤ i → value_from radix 0 bytes ≡ value_from radix n (drop i bytes)
    → Some n ≡ (if nat_le (value_from radix 0 bytes) largest then Some (value_from radix 0 bytes) else None)
all_read radix largest bytes i n le end e =
    let f : value_from radix 0 bytes ≡ n = e ∙ ap (value_from radix n) (drop_all i bytes end) in
    let g : value_from radix 0 bytes ≤ largest = omega (arith, f, le) in
    ap Some (sym f) ∙ sym (ap (λ z. if z then Some (value_from radix 0 bytes) else None) (le-leb (value_from radix 0 bytes) largest g))
