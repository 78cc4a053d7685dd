-- What std's operations on words leave is the exact whole number brought into range.
use Rattle.std.proofs.Common.{◌≡◌, ℕ, ◌-◌, ◌*◌, ◌/◌, ◌%◌, ◌^◌, ◌<◌, ◌≤◌, zero, suc, sym, ap, ◌∙◌, arith, ℤ, pos, negsuc, ◌*ℤ◌, neg_ℤ, bit_and, lit<}
use Rattle.std.proofs.Math.Nat.{mod-eq_of_lt, div-le_self, mod-lt}
use Rattle.std.proofs.lemmas.Int.{to_z-of_z, int_wrap_fits, to_z_pos, wrapping_mul-bits, int_wrap-mul_right, SFits-int_wrap}
use Rattle.std.specs.Int.{Width, w64, cast_signed, cast_unsigned, int_wrap, int_rem_euclid}
use Rattle.std.proofs.lemmas.Nat.{and_mask}
use Rattle.std.specs.Prelude.{FitsSigned, unsigned_abs, int_div}
use mir.Val.{bits, hbits}
use mir.ValLaws as laws
use lib.Pow.{pow_pos, pow-lt}

-- a number of the unsigned type, read as a signed one
pub cast_signed_is : (w : Width) (n : ℕ) → n < 2 ^ bits w → cast_signed w n ≡ int_wrap w (pos n)
unfolding int_wrap
cast_signed_is w n h = ap (cast_signed w) (sym (mod-eq_of_lt h))

-- `<<`: the factor may be past the signed type's greatest number
pub shl_is : (w : Width) (x : ℤ) (n : ℕ) → FitsSigned w x → n < 2 ^ bits w → cast_signed w (cast_unsigned w x * n % 2 ^ bits w) ≡ int_wrap w (x *ℤ pos n)
shl_is w x n f h =
    wrapping_mul-bits w (cast_unsigned w x) n (laws.of_z_fits w x f).fits h
    ∙ ap (λ z. int_wrap w (z *ℤ cast_signed w n)) (to_z-of_z w x f)
    ∙ ap (λ z. int_wrap w (x *ℤ z)) (cast_signed_is w n h)
    ∙ int_wrap-mul_right w x (pos n)

-- `/`: only MIN / -1 leaves the range
negated : (w : Width) (n : ℕ) → n ≤ 2 ^ hbits w → cast_signed w (cast_unsigned w (neg_ℤ (pos n))) ≡ int_wrap w (neg_ℤ (pos n))
negated w zero h = cast_signed_is w 0 (pow_pos (bits w))
negated w (suc n) h = let f : FitsSigned w (negsuc n) = record { sfits = omega arith } in to_z-of_z w (negsuc n) f ∙ sym (int_wrap_fits w (negsuc n) f)

pub div_is : (w : Width) (x y : ℤ) → FitsSigned w x → cast_signed w (cast_unsigned w (int_div x y)) ≡ int_wrap w (int_div x y)
div_is w (pos a) (pos b) f = cast_signed_is w (a / b) (omega (arith, laws.pow-bits w, div-le_self a b, f.sfits))
div_is w (pos a) (negsuc b) f = negated w (a / suc b) (omega (arith, div-le_self a (suc b), f.sfits))
div_is w (negsuc a) (pos b) f = negated w (suc a / b) (omega (arith, div-le_self (suc a) b, f.sfits))
div_is w (negsuc a) (negsuc b) f = cast_signed_is w (suc a / suc b) (omega (arith, laws.pow-bits w, div-le_self (suc a) (suc b), f.sfits, pow_pos (hbits w)))

-- a shift's distance: the lowest bits, whether the number is read with a sign or without
low_bits : (k m : ℕ) (y : ℤ) → m < 2 ^ 63 → bit_and (cast_unsigned w64 y) m ≡ k → k ≤ m → unsigned_abs (cast_signed w64 (bit_and (cast_unsigned w64 y) m)) ≡ k
low_bits k m y small e below = ap (λ n. unsigned_abs (cast_signed w64 n)) e ∙ ap unsigned_abs (to_z_pos w64 k (omega arith))

pub low_five : (y : ℤ) → FitsSigned w64 y → unsigned_abs (cast_signed w64 (bit_and (cast_unsigned w64 y) 31)) ≡ unsigned_abs (int_rem_euclid y (pos 32))
low_five (pos n) f = low_bits (n % 32) 31 (pos n) (lit< tt) (and_mask n 5) (omega arith)
low_five (negsuc n) f = let small = f.sfits in low_bits (31 - n % 32) 31 (negsuc n) (lit< tt) (and_mask (2 ^ 64 - suc n) 5 ∙ omega arith) (omega arith)

pub low_six : (y : ℤ) → FitsSigned w64 y → unsigned_abs (cast_signed w64 (bit_and (cast_unsigned w64 y) 63)) ≡ unsigned_abs (int_rem_euclid y (pos 64))
low_six (pos n) f = low_bits (n % 64) 63 (pos n) (lit< tt) (and_mask n 6) (omega arith)
low_six (negsuc n) f = let small = f.sfits in low_bits (63 - n % 64) 63 (negsuc n) (lit< tt) (and_mask (2 ^ 64 - suc n) 6 ∙ omega arith) (omega arith)

pub low_eight : (y : ℤ) → FitsSigned w64 y → unsigned_abs (cast_signed w64 (bit_and (cast_unsigned w64 y) 255)) ≡ unsigned_abs (int_rem_euclid y (pos 256))
low_eight (pos n) f = low_bits (n % 256) 255 (pos n) (lit< tt) (and_mask n 8) (omega arith)
low_eight (negsuc n) f = let small = f.sfits in low_bits (255 - n % 256) 255 (negsuc n) (lit< tt) (and_mask (2 ^ 64 - suc n) 8 ∙ omega arith) (omega arith)

pub low_sixteen : (y : ℤ) → FitsSigned w64 y → unsigned_abs (cast_signed w64 (bit_and (cast_unsigned w64 y) 65535)) ≡ unsigned_abs (int_rem_euclid y (pos 65536))
low_sixteen (pos n) f = low_bits (n % 65536) 65535 (pos n) (lit< tt) (and_mask n 16) (omega arith)
low_sixteen (negsuc n) f = let small = f.sfits in low_bits (65535 - n % 65536) 65535 (negsuc n) (lit< tt) (and_mask (2 ^ 64 - suc n) 16 ∙ omega arith) (omega arith)

pub low_thirty_two : (y : ℤ) → FitsSigned w64 y → unsigned_abs (cast_signed w64 (bit_and (cast_unsigned w64 y) 4294967295)) ≡ unsigned_abs (int_rem_euclid y (pos 4294967296))
low_thirty_two (pos n) f = low_bits (n % 4294967296) 4294967295 (pos n) (lit< tt) (and_mask n 32) (omega arith)
low_thirty_two (negsuc n) f = let small = f.sfits in low_bits (4294967295 - n % 4294967296) 4294967295 (negsuc n) (lit< tt) (and_mask (2 ^ 64 - suc n) 32 ∙ omega arith) (omega arith)

pub distance_below : (y : ℤ) (k : ℕ) → unsigned_abs (int_rem_euclid y (pos (suc k))) ≤ k
distance_below (pos n) k = let h = mod-lt n {m = suc k} (omega arith) in omega arith
distance_below (negsuc n) k = omega arith

pub shl_by : (w : Width) (x : ℤ) (d e : ℕ) → FitsSigned w x → d ≡ e → e < bits w → cast_signed w (cast_unsigned w x * 2 ^ d % 2 ^ bits w) ≡ int_wrap w (x *ℤ pos (2 ^ e))
shl_by w x d e f same small = ap (λ k. cast_signed w (cast_unsigned w x * 2 ^ k % 2 ^ bits w)) same ∙ shl_is w x (2 ^ e) f (pow-lt {j = bits w} small)

-- narrowing keeps the lowest bits
pub narrowed : (w : Width) (y r : ℤ) (n : ℕ) → r ≡ cast_signed w n → n ≡ unsigned_abs (int_rem_euclid y (pos (2 ^ bits w))) → cast_signed w (cast_unsigned w r) ≡ int_wrap w y
unfolding int_wrap
narrowed w y r n made low =
    let e : r ≡ int_wrap w y = made ∙ ap (cast_signed w) low in
    ap (λ z. cast_signed w (cast_unsigned w z)) e ∙ to_z-of_z w (int_wrap w y) (SFits-int_wrap w y)
