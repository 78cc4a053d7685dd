-- The numbers of results are in the range of their types.
use Rattle.std.proofs.Common.{◌≡◌, ℕ, zero, suc, ◌/◌, ◌^◌, ◌<◌, Bool, true, false, cond, arith, sym, subst, ℤ, pos, negsuc, FitsSigned, lit<}
use Rattle.std.proofs.Math.Nat.{mod-lt, div-le_self}
use Rattle.std.proofs.lemmas.Int.{ints, SFits-int_wrap}
use Rattle.std.specs.Int.{Width, w8, w16, w32, w64, cast_signed, cast_unsigned, int_div_euclid}
use Rattle.std.specs.Prelude.{IfSome, Some, bit_and, bit_or, bit_xor}
use Rattle.std.specs.Prelude.{None as Nothing}
use Rattle.wy_kernel.specs.declared.operator.UnOp.{UnOp}
use Rattle.wy_kernel.specs.declared.operator.UnOp.TheVariants.{Plus, Minus, Flip, Not}
use Rattle.wy_kernel.specs.declared.operator.BinOp.{BinOp}
use Rattle.wy_kernel.specs.declared.operator.BinOp.TheVariants.{Add, Sub, Mul, Div, Rem, Shl, Shr, Ushr, And, Or, Xor}
use Rattle.wy_kernel.specs.declared.operator.Primitive.{Primitive}
use Rattle.wy_kernel.specs.declared.operator.Primitive.TheVariants.{Bool as ToBool, Byte as ToByte, Short as ToShort, Char as ToChar, Int as ToInt, Long as ToLong}
use Rattle.wy_value.specs.declared.value.Value.{Value}
use Rattle.wy_value.specs.declared.value.Value.TheVariants.{Bool as Boolean, Byte, Short, Char, Int, Long}
use Rattle.wy_value.specs.Number.{wrapped_char, distance}
use Rattle.wy_value.specs.Operator.{arithmetic, signed, is_comparison, unary_of, binary_of}
use Rattle.wy_value.specs.Conversion.{value_in, converted}
use Rattle.wy_value.specs.Value.{IsInRange}
use borrow.Author.Differences.{fits_in, read_fits}
use lib.Pow.{pow_pos}
use lib.Signed.{mag_rem}
use mir.Val.{hbits}

word_fits : (w : Width) (n : ℕ) → FitsSigned w (cast_signed w n)
word_fits w n = omega (arith, fits_in, read_fits w n)

rounded_fits : (w : Width) (x : ℤ) (m : ℕ) → FitsSigned w x → FitsSigned w (int_div_euclid x (pos m))
rounded_fits w (pos a) m f = record { sfits = omega (arith, div-le_self a m, f.sfits) }
rounded_fits w (negsuc a) m f = record { sfits = omega (arith, div-le_self a m, f.sfits) }

zero_fits : (w : Width) → FitsSigned w (pos 0)
zero_fits w = record { sfits = pow_pos (hbits w) }

arithmetic_fits : (w : Width) (op : BinOp) (x y : ℤ) → FitsSigned w x → FitsSigned w (arithmetic w op x y)
arithmetic_fits w Add x y f = SFits-int_wrap w _
arithmetic_fits w Sub x y f = SFits-int_wrap w _
arithmetic_fits w Mul x y f = SFits-int_wrap w _
arithmetic_fits w Div x y f = SFits-int_wrap w _
arithmetic_fits w Rem x y f = record { sfits = omega (arith, mag_rem x y, f.sfits) }
arithmetic_fits w Shl x y f = SFits-int_wrap w _
arithmetic_fits w Shr x y f = rounded_fits w x (2 ^ distance w y) f
arithmetic_fits w Ushr x y f = word_fits w (cast_unsigned w x / 2 ^ distance w y)
arithmetic_fits w And x y f = word_fits w (bit_and (cast_unsigned w x) (cast_unsigned w y))
arithmetic_fits w Or x y f = word_fits w (bit_or (cast_unsigned w x) (cast_unsigned w y))
arithmetic_fits w Xor x y f = word_fits w (bit_xor (cast_unsigned w x) (cast_unsigned w y))
arithmetic_fits w _ x y f = zero_fits w

signed_fits : (w : Width) (op : UnOp) (x : ℤ) → FitsSigned w x → FitsSigned w (signed w op x)
signed_fits w Plus x f = f
signed_fits w Minus x f = SFits-int_wrap w _
signed_fits w Flip (pos zero) f = record { sfits = pow_pos (hbits w) }
signed_fits w Flip (pos (suc n)) f = record { sfits = omega (arith, f.sfits) }
signed_fits w Flip (negsuc n) f =
    let is : signed w Flip (negsuc n) ≡ pos n = omega (arith, ints) in subst (λ z. FitsSigned w z) (sym is) (record { sfits = f.sfits })
signed_fits w Not x f = f

-- of the three ways that an operator on numbers ends
chosen : (t u : Bool) (b : Bool) (v : Value) → IsInRange v → IfSome (cond t (Some (Boolean b)) (cond u Nothing (Some v))) IsInRange
chosen true u b v h = tt
chosen false true b v h = tt
chosen false false b v h = h

pub unary_in_range : (op : UnOp) (v : Value) → IsInRange v → IsInRange (unary_of op v)
unary_in_range op (Int x) h = signed_fits w32 op x h
unary_in_range op (Long x) h = signed_fits w64 op x h
unary_in_range op (Boolean p) h = tt
unary_in_range op v h = h

pub binary_in_range : (op : BinOp) (a b : Value) → IsInRange a → IsInRange b → IfSome (binary_of op a b) IsInRange
binary_in_range op (Int x) (Int y) h k = chosen (is_comparison op) _ _ _ (arithmetic_fits w32 op x y h)
binary_in_range op (Long x) (Long y) h k = chosen (is_comparison op) _ _ _ (arithmetic_fits w64 op x y h)
binary_in_range op (Int x) (Long y) h k = arithmetic_fits w32 op x y h
binary_in_range op (Long x) (Int y) h k = arithmetic_fits w64 op x y h
binary_in_range op (Boolean p) (Boolean q) h k = tt
binary_in_range op a b h k = tt

char_fits : (z : ℤ) → wrapped_char z < 2 ^ 16
char_fits (pos a) = mod-lt a (lit< tt)
char_fits (negsuc a) = omega arith

value_in_range : (to : Primitive) (z : ℤ) → IsInRange (value_in to z)
value_in_range ToByte z = SFits-int_wrap w8 z
value_in_range ToShort z = SFits-int_wrap w16 z
value_in_range ToChar z = char_fits z
value_in_range ToInt z = SFits-int_wrap w32 z
value_in_range ToLong z = SFits-int_wrap w64 z
value_in_range ToBool z = tt

pub converted_in_range : (to : Primitive) (v : Value) → IsInRange v → IsInRange (converted to v)
converted_in_range to (Byte z) h = value_in_range to z
converted_in_range to (Short z) h = value_in_range to z
converted_in_range to (Char n) h = value_in_range to (pos n)
converted_in_range to (Int z) h = value_in_range to z
converted_in_range to (Long z) h = value_in_range to z
converted_in_range to v h = h
