-- What steps of reading leave, one behind another.
use Rattle.std.proofs.Common.{◌≡◌, ℕ, zero, suc, ◌+◌, ◌<◌, ◌≤◌, ◌^◌, List, [], ◌∷◌, ◌++◌, map, length, take, drop, ltb, Option, Some, Result, Ok, Err, refl, sym, ap, ◌∙◌, subst, arith, length-take, take-append-drop}
use Rattle.std.specs.Prelude.{None as Absent}
use Rattle.std.specs.Prelude.{IfOk, option_map, slice_get}
use mir.Val.{bits}
use Rattle.std.specs.Int.{Width, w8, w16, w32, w64, byte_len, from_be_bytes, to_be_bytes}
use Rattle.std.proofs.lemmas.Bool.{ltb-false}
use Rattle.std.proofs.lemmas.Nat.{be_bytes_2, be_bytes_4, be_bytes_8}
use Rattle.std.proofs.lemmas.Option.{slice_get-map}
use Rattle.wy_spelling.specs.Spelling.{number}
use Rattle.wy_payload.specs.declared.fault.DamageRule.{DamageRule}
use Rattle.wy_payload.specs.declared.fault.DamageRule.TheVariants as rule
use Rattle.wy_payload.specs.Rules.{Broken}
use Rattle.wy_payload.specs.Reading.{◌>>=◌, Read, passed, known_tag, number_at}
use Rattle.law_reading.specs.Spelled.{AreBytes}
use Rattle.law_reading.proofs.SpelledNumbers.{bytes_behind, bytes_before, guarded, Spelled, number_spelled}
use Rattle.law_reading.proofs.Tails.{byte_spelled}
use Rattle.wy_payload.proofs.Readers.{then_has}

-- what is read, where it is read, is spelled in front of what is left
abbrev pub Spells : {A : Type 0} → List ℕ → (A → List ℕ) → Read A → Type 0
Spells bytes spell read = IfOk read (λ x. Spelled bytes (spell x.0) x.1)

pub if_read : {A : Type 0} (r : Result A DamageRule) (P : A → Type 0) → ((x : A) → r ≡ Ok x → P x) → IfOk r P
if_read (Ok x) P h = h x refl
if_read (Err d) P h = tt

-- a step of which nothing is asked
pub after : {A B : Type 0} (r : Result A DamageRule) (f : A → Result B DamageRule) (Q : B → Type 0) → ((x : A) → IfOk (f x) Q) → IfOk (r >>= f) Q
after (Ok x) f Q k = k x
after (Err d) f Q k = tt

pub passed_has : {A : Type 0} (broken : Broken) (x : A) (P : A → Type 0) → (broken ≡ Absent → P x) → IfOk (passed broken x) P
passed_has Absent x P h = h refl
passed_has (Some r) x P h = tt

-- ---- numbers

pub byte_has : (bytes : List ℕ) → AreBytes bytes → Spells bytes (λ n. n ∷ []) (number_at w8 bytes)
byte_has bytes are = if_read (number_at w8 bytes) (λ x. Spelled bytes (x.0 ∷ []) x.1) (λ x e. byte_spelled bytes x are e)

pub number_has : (bytes : List ℕ) → AreBytes bytes → Spells bytes number (number_at w32 bytes)
number_has bytes are = if_read (number_at w32 bytes) (λ x. Spelled bytes (number x.0) x.1) (λ x e. number_spelled bytes x are e)

-- so many bytes are those of the number that they are read as
abbrev IsRound : Width → Type 0
IsRound w = (bs : List ℕ) (n : ℕ) → length bs ≡ byte_len w → AreBytes bs → n ≡ from_be_bytes w bs → (to_be_bytes w n ≡ bs) × (n < 2 ^ bits w)

round_16 : IsRound w16
round_16 bs n long are is = (be_bytes_2 bs n long are is, omega (arith, is, are 0, are 1))

round_32 : IsRound w32
round_32 bs n long are is = (be_bytes_4 bs n long are is, omega (arith, is, are 0, are 1, are 2, are 3))

round_64 : IsRound w64
round_64 bs n long are is = (be_bytes_8 bs n long are is, omega (arith, is, are 0, are 1, are 2, are 3, are 4, are 5, are 6, are 7))

-- a number in so many bytes is spelled so, and fits them
abbrev pub Fits : Width → List ℕ → Type 0
Fits w bytes = IfOk (number_at w bytes) (λ x. Spelled bytes (to_be_bytes w x.0) x.1 × (x.0 < 2 ^ bits w))

wide_spelled : (w : Width) (bytes : List ℕ) (x : ℕ × List ℕ) → IsRound w → AreBytes bytes → number_at w bytes ≡ Ok x → Spelled bytes (to_be_bytes w x.0) x.1 × (x.0 < 2 ^ bits w)
wide_spelled w bytes x round are e =
    let n = byte_len w in
    let g = guarded (ltb (length bytes) n) rule.Length (from_be_bytes w (take n bytes), drop n bytes) x e in
    let long : n ≤ length bytes = ltb-false _ _ g.0 in
    let whole = round (take n bytes) (from_be_bytes w (take n bytes)) (omega (arith, length-take n bytes)) (bytes_before n bytes are) refl in
    let parts : bytes ≡ to_be_bytes w (from_be_bytes w (take n bytes)) ++ drop n bytes = sym (take-append-drop n bytes) ∙ ap (λ l. l ++ drop n bytes) (sym whole.0) in
    subst (λ (y : ℕ × List ℕ). Spelled bytes (to_be_bytes w y.0) y.1 × (y.0 < 2 ^ bits w)) g.1 (record { parts = parts; rest_bytes = bytes_behind n bytes are }, whole.1)

wide_has : (w : Width) (bytes : List ℕ) → IsRound w → AreBytes bytes → Fits w bytes
wide_has w bytes round are = if_read (number_at w bytes) (λ x. Spelled bytes (to_be_bytes w x.0) x.1 × (x.0 < 2 ^ bits w)) (λ x e. wide_spelled w bytes x round are e)

pub fits_16 : (bytes : List ℕ) → AreBytes bytes → Fits w16 bytes
fits_16 bytes are = wide_has w16 bytes round_16 are

pub fits_32 : (bytes : List ℕ) → AreBytes bytes → Fits w32 bytes
fits_32 bytes are = wide_has w32 bytes round_32 are

pub fits_64 : (bytes : List ℕ) → AreBytes bytes → Fits w64 bytes
fits_64 bytes are = wide_has w64 bytes round_64 are

-- ---- tags

-- so many numbers from one on
abbrev pub numbers_from : ℕ → ℕ → List ℕ
numbers_from n zero = []
numbers_from n (suc count) = n ∷ numbers_from (suc n) count

counted : (n count i k : ℕ) → slice_get (numbers_from n count) i ≡ Some k → k ≡ n + i
counted n zero i k is = absurd cc
counted n (suc count) zero k is = let same : n ≡ k = cc in omega (arith, same)
counted n (suc count) (suc i) k is = omega (arith, counted (suc n) count i k is)

-- a tag is its place in the list of all
pub tag_is : {T : Type 0} (number_of : T → ℕ) (tags : List T) (n count : ℕ) → map number_of tags ≡ numbers_from n count → (i : ℕ) (tag : T) → slice_get tags i ≡ Some tag → number_of tag ≡ n + i
tag_is number_of tags n count all i tag is = counted n count i (number_of tag) (ap (λ l. slice_get l i) (sym all) ∙ slice_get-map number_of tags i ∙ ap (option_map number_of) is)

pub then_tag : {T B : Type 0} (tag_of : ℕ → Option T) (number_of : T → ℕ) → ((b : ℕ) (tag : T) → tag_of b ≡ Some tag → number_of tag ≡ b) → (bytes : List ℕ) → AreBytes bytes → (f : T × List ℕ → Result B DamageRule) (Q : B → Type 0)
    → ((x : T × List ℕ) → Spelled bytes (number_of x.0 ∷ []) x.1 → IfOk (f x) Q) → IfOk (number_at w8 bytes >>= λ b. known_tag (tag_of b.0) b.1 >>= f) Q
then_tag {T} tag_of number_of each bytes are f Q k = then_has (number_at w8 bytes) (λ b. known_tag (tag_of b.0) b.1 >>= f) (λ b. Spelled bytes (b.0 ∷ []) b.1) Q (byte_has bytes are) (λ b s. known (tag_of b.0) b (λ tag is. each b.0 tag is) s)
  where
    known : (o : Option T) (b : ℕ × List ℕ) → ((tag : T) → o ≡ Some tag → number_of tag ≡ b.0) → Spelled bytes (b.0 ∷ []) b.1 → IfOk (known_tag o b.1 >>= f) Q
    known Absent b h s = tt
    known (Some tag) b h s = k (tag, b.1) (subst (λ (n : ℕ). Spelled bytes (n ∷ []) b.1) (sym (h tag refl)) s)
