-- Whole numbers in the range of an integer type (JLS 4.2.1, 4.2.2).
-- Numbers of byte, short, int and long are read as two's complement of 8, 16, 32 and 64 bits, those of char without a sign.
use Rattle.std.specs.Prelude.{ℕ, ℤ, pos, unsigned_abs, ◌^◌}
use Rattle.std.specs.Int.{Width, int_wrap, int_rem_euclid}
use mir.Val.{bits}

-- the number of the signed type of that width which differs from z by a multiple of 2 ^ n, for n bits
abbrev pub wrapped : Width → ℤ → ℤ
wrapped w z = int_wrap w z

-- the number that the lowest 16 bits of z have without a sign
abbrev pub wrapped_char : ℤ → ℕ
wrapped_char z = unsigned_abs (int_rem_euclid z (pos (2 ^ 16)))

-- the lowest 5 bits of z for int, the lowest 6 for long: how far a shift goes (JLS 15.19)
abbrev pub distance : Width → ℤ → ℕ
distance w z = unsigned_abs (int_rem_euclid z (pos (bits w)))
