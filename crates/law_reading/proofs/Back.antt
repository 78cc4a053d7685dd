-- What stands spelled in front of other bytes is read back, where reading it does not fail.
use Rattle.std.proofs.Common.{◌≡◌, ℕ, ◌<◌, ◌≤◌, ◌^◌, cond, List, [], ◌∷◌, ◌++◌, length, take, drop, Option, Some, Result, Ok, Err, refl, sym, ap, ◌∙◌, subst, append_assoc, arith, length-append}
use Rattle.std.specs.Prelude.{None as Absent}
use Rattle.std.specs.Prelude.{IfOk}
use Rattle.std.specs.List.{AllByRecursion, flat_map}
use Rattle.std.specs.Int.{Width, w8, w16, w32, w64, byte_len, from_be_bytes, to_be_bytes}
use Rattle.std.proofs.lemmas.Bool.{le-ltb}
use Rattle.std.proofs.lemmas.List.{take_at, drop_at}
use Rattle.std.proofs.lemmas.List.Concat.{flat_map-cons}
use Rattle.std.proofs.lemmas.Nat.{from_be_bytes-to_be_bytes_2, from_be_bytes-to_be_bytes_4, from_be_bytes-to_be_bytes_8}
use Rattle.wy_spelling.specs.Spelling.{number}
use Rattle.wy_payload.specs.declared.fault.DamageRule.{DamageRule}
use Rattle.wy_payload.specs.declared.fault.DamageRule.TheVariants as rule
use Rattle.wy_payload.specs.Rules.{Broken}
use Rattle.wy_payload.specs.Reading.{◌>>=◌, Read, passed, known_tag, number_at, rows_from}

-- this value, and these bytes are left
abbrev pub Gives : {A : Type 0} → A → List ℕ → Read A → Type 0
Gives x rest read = IfOk read (λ y. y ≡ (x, rest))

pub then_back : {A B : Type 0} (r : Result A DamageRule) (f : A → Result B DamageRule) (x : A) (Q : B → Type 0) → IfOk r (λ y. y ≡ x) → IfOk (f x) Q → IfOk (r >>= f) Q
then_back (Ok y) f x Q is h = subst (λ z. IfOk (f z) Q) (sym is) h
then_back (Err d) f x Q is h = tt

pub passed_back : {A : Type 0} (broken : Broken) (x : A) → IfOk (passed broken x) (λ y. y ≡ x)
passed_back Absent x = refl
passed_back (Some r) x = tt

pub surely : {A : Type 0} (r : Result A DamageRule) (x : A) → r ≡ Ok x → IfOk r (λ y. y ≡ x)
surely r x e = subst (λ s. IfOk s (λ y. y ≡ x)) (sym e) refl

-- ---- numbers

abbrev IsRoundTrip : Width → ℕ → Type 0
IsRoundTrip w n = from_be_bytes w (to_be_bytes w n) ≡ n

wide_back : (w : Width) (n : ℕ) (rest : List ℕ) → length (to_be_bytes w n) ≡ byte_len w → IsRoundTrip w n → number_at w (to_be_bytes w n ++ rest) ≡ Ok (n, rest)
wide_back w n rest long round =
    let bytes = to_be_bytes w n ++ rest in
    let enough : byte_len w ≤ length bytes = omega (arith, length-append (to_be_bytes w n) rest, long) in
    let read : Read ℕ = Ok (from_be_bytes w (take (byte_len w) bytes), drop (byte_len w) bytes) in
    ap (λ b. cond b (Err rule.Length) read) (le-ltb (length bytes) (byte_len w) enough)
    ∙ ap (λ l. Ok (from_be_bytes w l, drop (byte_len w) bytes)) (take_at (to_be_bytes w n) rest (byte_len w) long)
    ∙ ap (λ l. Ok (from_be_bytes w (to_be_bytes w n), l)) (drop_at (to_be_bytes w n) rest (byte_len w) long)
    ∙ ap (λ m. Ok (m, rest)) round

pub byte_back : (n : ℕ) (rest : List ℕ) → number_at w8 (n ∷ rest) ≡ Ok (n, rest)
byte_back n rest = ap (λ b. cond b (Err rule.Length) (Ok (n, rest))) (le-ltb (length (n ∷ rest)) 1 (omega arith))

pub back_16 : (n : ℕ) (rest : List ℕ) → n < 2 ^ 16 → number_at w16 (to_be_bytes w16 n ++ rest) ≡ Ok (n, rest)
back_16 n rest small = wide_back w16 n rest refl (from_be_bytes-to_be_bytes_2 n small)

pub back_32 : (n : ℕ) (rest : List ℕ) → n < 2 ^ 32 → number_at w32 (number n ++ rest) ≡ Ok (n, rest)
back_32 n rest small = wide_back w32 n rest refl (from_be_bytes-to_be_bytes_4 n small)

pub back_64 : (n : ℕ) (rest : List ℕ) → n < 2 ^ 64 → number_at w64 (to_be_bytes w64 n ++ rest) ≡ Ok (n, rest)
back_64 n rest small = wide_back w64 n rest refl (from_be_bytes-to_be_bytes_8 n small)

pub number_back : (n : ℕ) (rest : List ℕ) → n < 2 ^ 32 → Gives n rest (number_at w32 (number n ++ rest))
number_back n rest small = surely (number_at w32 (number n ++ rest)) (n, rest) (back_32 n rest small)

-- a number that a rule is asked of
pub checked_back : (broken : ℕ → Broken) (n : ℕ) (rest : List ℕ) → n < 2 ^ 32 → Gives n rest (number_at w32 (number n ++ rest) >>= λ m. passed (broken m.0) m)
checked_back broken n rest small = then_back (number_at w32 (number n ++ rest)) (λ m. passed (broken m.0) m) (n, rest) _ (number_back n rest small) (passed_back (broken n) (n, rest))

-- ---- tags

pub tag_back : {T B : Type 0} (tag_of : ℕ → Option T) (tag : T) (b : ℕ) (rest : List ℕ) → tag_of b ≡ Some tag → (f : T × List ℕ → Result B DamageRule) (Q : B → Type 0)
    → IfOk (f (tag, rest)) Q → IfOk (number_at w8 (b ∷ rest) >>= λ c. known_tag (tag_of c.0) c.1 >>= f) Q
tag_back tag_of tag b rest is f Q h =
    then_back (number_at w8 (b ∷ rest)) (λ c. known_tag (tag_of c.0) c.1 >>= f) (b, rest) Q (surely (number_at w8 (b ∷ rest)) (b, rest) (byte_back b rest))
    (subst (λ o. IfOk (known_tag o rest >>= f) Q) (sym is) h)

-- ---- rows

pub rows_back : {X : Type 0} (read : List ℕ → Read X) (spell : X → List ℕ) (Fit : X → Type 0) → ((x : X) (rest : List ℕ) → Fit x → Gives x rest (read (spell x ++ rest)))
    → (xs : List X) (rest : List ℕ) → AllByRecursion Fit xs → Gives xs rest (rows_from read (length xs) (flat_map spell xs ++ rest))
unfolding rows_from
rows_back read spell Fit each [] rest fit = refl
rows_back {X} read spell Fit each (x ∷ xs) rest fit =
    let others = flat_map spell xs ++ rest in
    let parts : flat_map spell (x ∷ xs) ++ rest ≡ spell x ++ others = ap (λ l. l ++ rest) (flat_map-cons spell x xs) ∙ append_assoc (spell x) (flat_map spell xs) rest in
    subst (λ (l : List ℕ). Gives (x ∷ xs) rest (rows_from read (length (x ∷ xs)) l)) (sym parts)
    (then_back (read (spell x ++ others)) (λ first. rows_from read (length xs) first.1 >>= λ more. Ok (first.0 ∷ more.0, more.1)) (x, others) _ (each x others fit.0)
    (then_back (rows_from read (length xs) others) (λ more. Ok (x ∷ more.0, more.1)) (xs, rest) _ (rows_back read spell Fit each xs rest fit.1) refl))
