-- What stands spelled in front of other bytes is read, where no rule is broken.
use Rattle.std.proofs.Common.{◌≡◌, ℕ, ◌<◌, ◌≤◌, ◌^◌, Bool, true, cond, List, [], ◌∷◌, ◌++◌, length, take, drop, Option, Some, Result, Ok, Err, refl, ap, ◌∙◌, append_assoc, arith, length-append}
use Rattle.std.specs.Prelude.{None as Absent}
use Rattle.std.specs.List.{AllByRecursion, flat_map}
use Rattle.std.specs.Int.{Width, w8, w16, w32, w64, byte_len, from_be_bytes, to_be_bytes}
use Rattle.std.proofs.lemmas.Bool.{le-ltb}
use Rattle.std.proofs.lemmas.List.{take_at, drop_at}
use Rattle.std.proofs.lemmas.List.Concat.{flat_map-cons}
use Rattle.std.proofs.lemmas.Nat.{from_be_bytes-to_be_bytes_2, from_be_bytes-to_be_bytes_4, from_be_bytes-to_be_bytes_8}
use Rattle.wy_spelling.specs.Spelling.{number}
use Rattle.wy_payload.specs.declared.fault.DamageRule.{DamageRule}
use Rattle.wy_payload.specs.declared.fault.DamageRule.TheVariants as rule
use Rattle.wy_payload.specs.Rules.{Broken, in_range}
use Rattle.wy_payload.specs.Reading.{◌>>=◌, Read, passed, known_tag, number_at, rows_from}

-- this value, and these bytes are left
abbrev pub Reads : {A : Type 0} → Read A → A → List ℕ → Type 0
Reads read x rest = read ≡ Ok (x, rest)

pub then_is : {A B : Type 0} (r : Result A DamageRule) (f : A → Result B DamageRule) (x : A) (y : B) → r ≡ Ok x → f x ≡ Ok y → (r >>= f) ≡ Ok y
then_is r f x y e h = ap (λ s. s >>= f) e ∙ h

pub passes : {A : Type 0} (broken : Broken) (x : A) → broken ≡ Absent → passed broken x ≡ Ok x
passes broken x e = ap (λ b. passed b x) e

pub ranged : (b : Bool) → b ≡ true → in_range b ≡ Absent
ranged b e = ap in_range e

-- ---- numbers

abbrev IsRoundTrip : Width → ℕ → Type 0
IsRoundTrip w n = from_be_bytes w (to_be_bytes w n) ≡ n

wide_is : (w : Width) (n : ℕ) (rest : List ℕ) → length (to_be_bytes w n) ≡ byte_len w → IsRoundTrip w n → Reads (number_at w (to_be_bytes w n ++ rest)) n rest
wide_is w n rest long round =
    let bytes = to_be_bytes w n ++ rest in
    let enough : byte_len w ≤ length bytes = omega (arith, length-append (to_be_bytes w n) rest, long) in
    let read : Read ℕ = Ok (from_be_bytes w (take (byte_len w) bytes), drop (byte_len w) bytes) in
    ap (λ b. cond b (Err rule.Length) read) (le-ltb (length bytes) (byte_len w) enough)
    ∙ ap (λ l. Ok (from_be_bytes w l, drop (byte_len w) bytes)) (take_at (to_be_bytes w n) rest (byte_len w) long)
    ∙ ap (λ l. Ok (from_be_bytes w (to_be_bytes w n), l)) (drop_at (to_be_bytes w n) rest (byte_len w) long)
    ∙ ap (λ m. Ok (m, rest)) round

pub byte_is : (n : ℕ) (rest : List ℕ) → Reads (number_at w8 (n ∷ rest)) n rest
byte_is n rest = ap (λ b. cond b (Err rule.Length) (Ok (n, rest))) (le-ltb (length (n ∷ rest)) 1 (omega arith))

pub is_16 : (n : ℕ) (rest : List ℕ) → n < 2 ^ 16 → Reads (number_at w16 (to_be_bytes w16 n ++ rest)) n rest
is_16 n rest small = wide_is w16 n rest refl (from_be_bytes-to_be_bytes_2 n small)

pub number_is : (n : ℕ) (rest : List ℕ) → n < 2 ^ 32 → Reads (number_at w32 (number n ++ rest)) n rest
number_is n rest small = wide_is w32 n rest refl (from_be_bytes-to_be_bytes_4 n small)

pub is_64 : (n : ℕ) (rest : List ℕ) → n < 2 ^ 64 → Reads (number_at w64 (to_be_bytes w64 n ++ rest)) n rest
is_64 n rest small = wide_is w64 n rest refl (from_be_bytes-to_be_bytes_8 n small)

-- a number that keeps a rule
pub checked_is : (broken : ℕ → Broken) (n : ℕ) (rest : List ℕ) → n < 2 ^ 32 → broken n ≡ Absent → Reads (number_at w32 (number n ++ rest) >>= λ m. passed (broken m.0) m) n rest
checked_is broken n rest small keeps = then_is (number_at w32 (number n ++ rest)) (λ m. passed (broken m.0) m) (n, rest) (n, rest) (number_is n rest small) (passes (broken n) (n, rest) keeps)

-- ---- tags

pub tag_is : {T B : Type 0} (tag_of : ℕ → Option T) (tag : T) (b : ℕ) (rest : List ℕ) → tag_of b ≡ Some tag → (f : T × List ℕ → Result B DamageRule) (y : B) → f (tag, rest) ≡ Ok y → (number_at w8 (b ∷ rest) >>= λ c. known_tag (tag_of c.0) c.1 >>= f) ≡ Ok y
tag_is tag_of tag b rest is f y h =
    then_is (number_at w8 (b ∷ rest)) (λ c. known_tag (tag_of c.0) c.1 >>= f) (b, rest) y (byte_is b rest)
    (ap (λ o. known_tag o rest >>= f) is ∙ h)

-- ---- rows

pub rows_are : {X : Type 0} (read : List ℕ → Read X) (spell : X → List ℕ) (Fit : X → Type 0) → ((x : X) (rest : List ℕ) → Fit x → Reads (read (spell x ++ rest)) x rest)
    → (xs : List X) (rest : List ℕ) → AllByRecursion Fit xs → Reads (rows_from read (length xs) (flat_map spell xs ++ rest)) xs rest
unfolding rows_from
rows_are read spell Fit each [] rest fit = refl
rows_are {X} read spell Fit each (x ∷ xs) rest fit =
    let others = flat_map spell xs ++ rest in
    let parts : flat_map spell (x ∷ xs) ++ rest ≡ spell x ++ others = ap (λ l. l ++ rest) (flat_map-cons spell x xs) ∙ append_assoc (spell x) (flat_map spell xs) rest in
    ap (λ (l : List ℕ). rows_from read (length (x ∷ xs)) l) parts
    ∙ then_is (read (spell x ++ others)) (λ first. rows_from read (length xs) first.1 >>= λ more. Ok (first.0 ∷ more.0, more.1)) (x, others) (x ∷ xs, rest) (each x others fit.0)
    (then_is (rows_from read (length xs) others) (λ more. Ok (x ∷ more.0, more.1)) (xs, rest) (x ∷ xs, rest) (rows_are read spell Fit each xs rest fit.1) refl)

-- both of two facts
pub both : {X : Type 0} (P Q : X → Type 0) (xs : List X) → AllByRecursion P xs → AllByRecursion Q xs → AllByRecursion (λ x. P x × Q x) xs
both P Q [] p q = tt
both P Q (x ∷ xs) p q = ((p.0, q.0), both P Q xs p.1 q.1)
