-- Numbers are read as they are spelled.
use Rattle.std.proofs.Common.{◌≡◌, ℕ, ◌<◌, ◌≤◌, ◌^◌, Bool, true, false, cond, ltb, List, [], ◌∷◌, ◌++◌, length, take, drop, Ok, Err, ℤ, FitsSigned, pos, refl, sym, ap, ◌∙◌, subst, arith, inl, inr, length-append}
use Rattle.std.specs.Prelude.{IfOk, ◌==◌, ◌||◌, nat_le, nat_lt}
use mir.Val.{bits}
use mir.ValLaws as laws
use Rattle.std.specs.Int.{Width, w8, w16, w32, w64, byte_len, cast_signed, cast_unsigned, from_be_bytes, to_be_bytes}
use Rattle.std.proofs.lemmas.Bool.{cases_lt, le-ltb, ltb-false}
use Rattle.std.proofs.lemmas.Int.{of_z-to_z, to_z-of_z, SFits-int_wrap}
use Rattle.std.proofs.lemmas.List.{drop_at, get_or-take, get_or_past, length-take, take-append-drop, take_at}
use Rattle.std.proofs.lemmas.Nat.{be_bytes_2, be_bytes_4, be_bytes_8, from_be_bytes-to_be_bytes_2, from_be_bytes-to_be_bytes_4, from_be_bytes-to_be_bytes_8}
use Rattle.wy_kernel.specs.View.{NONE}
use Rattle.wy_value.proofs.Wrapping.{cast_signed_is}
use Rattle.wy_spelling.specs.Spelling.{number}
use Rattle.wy_payload.specs.declared.fault.DamageRule.TheVariants as rule
use Rattle.wy_payload.specs.Reading.{◌>>=◌, Read, number_at, below_at, at_most_at}
use Rattle.wy_frame_reading.specs.Fields.{optional_at}
use Rattle.wy_payload.proofs.Readers.{then_has}
use Rattle.wy_frame_reading.proofs.Readers.{AreBytes, Reads, Spelled, bound, bytes_behind, checked}

-- a number of this width is read from its spelling
abbrev pub ReadsNumber : Width → (ℕ → List ℕ) → Type 0
ReadsNumber w spell = Reads ℕ ℕ (λ m. m < 2 ^ bits w) spell (λ m. m) (number_at w)

pub bytes_before : (n : ℕ) (bytes : List ℕ) → AreBytes bytes → AreBytes (take n bytes)
bytes_before n bytes h i =
    elim (cases_lt i n) [
      | inl lt ↦ rw (get_or-take n bytes i 0 lt) (h i)
      | inr le ↦ rw (get_or_past (take n bytes) i 0 (omega (arith, length-take n bytes))) (omega arith)
    ]

module _ (w : Width) (spell : ℕ → List ℕ) (long : (n : ℕ) → length (spell n) ≡ byte_len w) (there : (n : ℕ) → n < 2 ^ bits w → from_be_bytes w (spell n) ≡ n)
    (round : (bs : List ℕ) → length bs ≡ byte_len w → AreBytes bs → (spell (from_be_bytes w bs) ≡ bs) × (from_be_bytes w bs < 2 ^ bits w)) where
  back : (n : ℕ) (rest : List ℕ) → n < 2 ^ bits w → number_at w (spell n ++ rest) ≡ Ok (n, rest)
  back n rest small =
      let bytes = spell n ++ rest in
      let enough : byte_len w ≤ length bytes = omega (arith, length-append (spell n) rest, long n) in
      let read : Read ℕ = Ok (from_be_bytes w (take (byte_len w) bytes), drop (byte_len w) bytes) in
      ap (λ b. cond b (Err rule.Length) read) (le-ltb (length bytes) (byte_len w) enough)
      ∙ ap (λ l. Ok (from_be_bytes w l, drop (byte_len w) bytes)) (take_at (spell n) rest (byte_len w) (long n))
      ∙ ap (λ l. Ok (from_be_bytes w (spell n), l)) (drop_at (spell n) rest (byte_len w) (long n))
      ∙ ap (λ m. Ok (m, rest)) (there n small)

  abbrev Found : List ℕ → ℕ × List ℕ → Type 0
  Found bytes r = (m : ℕ) × (r.0 ≡ m) × (m < 2 ^ bits w) × Spelled bytes (spell m) r.1

  whole : (bytes : List ℕ) → AreBytes bytes → byte_len w ≤ length bytes → Found bytes (from_be_bytes w (take (byte_len w) bytes), drop (byte_len w) bytes)
  whole bytes are enough =
      let k = byte_len w in
      let front = round (take k bytes) (omega (arith, length-take k bytes)) (bytes_before k bytes are) in
      let parts : bytes ≡ spell (from_be_bytes w (take k bytes)) ++ drop k bytes = sym (take-append-drop k bytes) ∙ ap (λ l. l ++ drop k bytes) (sym front.0) in
      (from_be_bytes w (take k bytes), refl, front.1, record { parts = parts; rest_bytes = bytes_behind (take k bytes) (drop k bytes) (subst AreBytes (sym (take-append-drop k bytes)) are) })

  by_length : (b : Bool) (bytes : List ℕ) → AreBytes bytes → ltb (length bytes) (byte_len w) ≡ b → IfOk (cond b (Err rule.Length) (Ok (from_be_bytes w (take (byte_len w) bytes), drop (byte_len w) bytes))) (Found bytes)
  by_length true bytes are is = tt
  by_length false bytes are is = whole bytes are (ltb-false _ _ is)

  of_width : ReadsNumber w spell
  of_width = record { back = back; front = λ bytes are. by_length (ltb (length bytes) (byte_len w)) bytes are refl }

pub word_16 : ReadsNumber w16 (to_be_bytes w16)
word_16 = of_width w16 (to_be_bytes w16) (λ n. refl) from_be_bytes-to_be_bytes_2 (λ bs long are. (be_bytes_2 bs (from_be_bytes w16 bs) long are refl, omega (arith, are 0, are 1)))

pub word_32 : ReadsNumber w32 number
word_32 = of_width w32 number (λ n. refl) from_be_bytes-to_be_bytes_4 (λ bs long are. (be_bytes_4 bs (from_be_bytes w32 bs) long are refl, omega (arith, are 0, are 1, are 2, are 3)))

pub word_64 : ReadsNumber w64 (to_be_bytes w64)
word_64 = of_width w64 (to_be_bytes w64) (λ n. refl) from_be_bytes-to_be_bytes_8 (λ bs long are. (be_bytes_8 bs (from_be_bytes w64 bs) long are refl, omega (arith, are 0, are 1, are 2, are 3, are 4, are 5, are 6, are 7)))

-- ---- bytes

pub byte_back : (n : ℕ) (rest : List ℕ) → number_at w8 (n ∷ rest) ≡ Ok (n, rest)
byte_back n rest = ap (λ b. cond b (Err rule.Length) (Ok (n, rest))) (le-ltb (length (n ∷ rest)) 1 (omega arith))

byte_front : (bytes : List ℕ) → AreBytes bytes → IfOk (number_at w8 bytes) (λ r. (m : ℕ) × (r.0 ≡ m) × (m < 2 ^ bits w8) × Spelled bytes (m ∷ []) r.1)
byte_front [] are = tt
byte_front (b ∷ rest) are =
    subst (λ (r : Read ℕ). IfOk r (λ r. (m : ℕ) × (r.0 ≡ m) × (m < 2 ^ bits w8) × Spelled (b ∷ rest) (m ∷ []) r.1)) (sym (byte_back b rest))
    (b, refl, are 0, record { parts = refl; rest_bytes = bytes_behind (b ∷ []) rest are })

pub byte : ReadsNumber w8 (λ n. n ∷ [])
byte = record { back = λ n rest small. byte_back n rest; front = byte_front }

-- ---- numbers in their bounds

abbrev pub IsBelow : ℕ → ℕ → Type 0
IsBelow n m = (m < 2 ^ bits w32) × (nat_lt m n ≡ true)

pub below : (n : ℕ) → Reads ℕ ℕ (IsBelow n) number (λ m. m) (below_at n)
unfolding below_at
below n = checked ℕ ℕ (λ m. m < 2 ^ bits w32) number (λ m. m) (number_at w32) (λ m. nat_lt m n) word_32

abbrev pub IsUpTo : ℕ → ℕ → Type 0
IsUpTo n m = (m < 2 ^ bits w32) × (nat_le m n ≡ true)

pub at_most : (n : ℕ) → Reads ℕ ℕ (IsUpTo n) number (λ m. m) (at_most_at n)
unfolding at_most_at
at_most n = checked ℕ ℕ (λ m. m < 2 ^ bits w32) number (λ m. m) (number_at w32) (λ m. nat_le m n) word_32

abbrev pub IsOptional : ℕ → ℕ → Type 0
IsOptional n m = (m < 2 ^ bits w32) × ((m == NONE || nat_lt m n) ≡ true)

pub optional : (n : ℕ) → Reads ℕ ℕ (IsOptional n) number (λ m. m) (optional_at n)
unfolding optional_at
optional n = checked ℕ ℕ (λ m. m < 2 ^ bits w32) number (λ m. m) (number_at w32) (λ m. m == NONE || nat_lt m n) word_32

-- ---- numbers with a sign

signed_fits : (w : Width) (n : ℕ) → n < 2 ^ bits w → FitsSigned w (cast_signed w n)
signed_fits w n small = subst (FitsSigned w) (sym (cast_signed_is w n small)) (SFits-int_wrap w (pos n))

module _ (w : Width) (spell : ℕ → List ℕ) (X : Type 0) (make : ℤ → X) where
  pub signed : ReadsNumber w spell → Reads ℤ X (FitsSigned w) (λ z. spell (cast_unsigned w z)) make (λ bytes. number_at w bytes >>= λ m. Ok (make (cast_signed w m.0), m.1))
  signed first = record {
    back = λ z rest fit. bound (number_at w (spell (cast_unsigned w z) ++ rest)) (λ m. Ok (make (cast_signed w m.0), m.1)) (cast_unsigned w z, rest) (Ok (make z, rest))
        (first.back (cast_unsigned w z) rest (laws.of_z_fits w z fit).fits) (ap (λ k. Ok (make k, rest)) (to_z-of_z w z fit));
    front = λ bytes are. then_has (number_at w bytes) (λ m. Ok (make (cast_signed w m.0), m.1)) (λ r. (m : ℕ) × (r.0 ≡ m) × (m < 2 ^ bits w) × Spelled bytes (spell m) r.1) (λ r. (z : ℤ) × (r.0 ≡ make z) × FitsSigned w z × Spelled bytes (spell (cast_unsigned w z)) r.1) (first.front bytes are)
        (λ (k, rest) (m, is, small, s). (cast_signed w m, ap (λ j. make (cast_signed w j)) is, signed_fits w m small, subst (λ (j : ℕ). Spelled bytes (spell j) rest) (sym (of_z-to_z w m small)) s));
  }
