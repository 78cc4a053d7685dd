-- What the operators of Java give (JLS 15.15, 15.17 to 15.22), on operands after promotion (JLS 5.6).
use Rattle.std.specs.Prelude.{◌/◌, ◌^◌, ℤ, pos, ◌+ℤ◌, ◌-ℤ◌, ◌*ℤ◌, neg_ℤ, Bool, true, false, not, ◌&&◌, ◌||◌, ◌==◌, ◌≡◌, if◌then◌else◌, Option, Some, int_div, int_rem, int_lt, int_le}
use Rattle.std.specs.Prelude.{None as Nothing}
use Rattle.std.specs.Ordering.{int_eq}
use Rattle.std.specs.Int.{Width, w32, w64, int_div_euclid, cast_signed, cast_unsigned, int_bit_and, int_bit_or, int_bit_xor}
use Rattle.wy_kernel.specs.declared.operator.UnOp.{UnOp}
use Rattle.wy_kernel.specs.declared.operator.UnOp.TheVariants.{Minus, Flip, Not}
use Rattle.wy_kernel.specs.declared.operator.BinOp.{BinOp}
use Rattle.wy_kernel.specs.declared.operator.BinOp.TheVariants.{Add, Sub, Mul, Div, Rem, Shl, Shr, Ushr, Lt, Gt, Le, Ge, Eq, Ne, And, Or, Xor}
use Rattle.wy_value.specs.declared.value.Value.{Value}
use Rattle.wy_value.specs.declared.value.Value.TheVariants.{Bool as Boolean, Int, Long, Null, Object, Text, Fixed}
use Rattle.wy_value.specs.Number.{wrapped, distance}

-- ---- kinds of operators

-- `/` and `%`
abbrev pub is_division : BinOp → Bool
is_division Div = true
is_division Rem = true
is_division _ = false

-- `<<`, `>>` and `>>>`
abbrev pub is_shift : BinOp → Bool
is_shift Shl = true
is_shift Shr = true
is_shift Ushr = true
is_shift _ = false

-- `==` and `!=`
abbrev pub is_equality : BinOp → Bool
is_equality Eq = true
is_equality Ne = true
is_equality _ = false

-- `<`, `>`, `<=`, `>=`, `==` and `!=`
abbrev pub is_comparison : BinOp → Bool
is_comparison Lt = true
is_comparison Gt = true
is_comparison Le = true
is_comparison Ge = true
is_comparison op = is_equality op

-- `&`, `|`, `^`, `==` and `!=`
abbrev pub is_logical : BinOp → Bool
is_logical And = true
is_logical Or = true
is_logical Xor = true
is_logical op = is_equality op

-- ---- numbers

-- `+ - * / % << >> >>> & | ^` on two numbers of the signed type of that width: the exact whole number, brought into the type's range.
-- Division truncates toward zero, a remainder has the sign of its dividend, `>>` rounds down, and `>>>` divides the number that the bits of x have without a sign.
abbrev pub arithmetic : Width → BinOp → ℤ → ℤ → ℤ
arithmetic w Add x y = wrapped w (x +ℤ y)
arithmetic w Sub x y = wrapped w (x -ℤ y)
arithmetic w Mul x y = wrapped w (x *ℤ y)
arithmetic w Div x y = wrapped w (int_div x y)
arithmetic w Rem x y = int_rem x y
arithmetic w Shl x y = wrapped w (x *ℤ pos (2 ^ distance w y))
arithmetic w Shr x y = int_div_euclid x (pos (2 ^ distance w y))
arithmetic w Ushr x y = cast_signed w (cast_unsigned w x / 2 ^ distance w y)
arithmetic w And x y = int_bit_and w x y
arithmetic w Or x y = int_bit_or w x y
arithmetic w Xor x y = int_bit_xor w x y
arithmetic w _ x y = pos 0

-- `< > <= >= == !=` on two numbers (JLS 15.20.1, 15.21.1)
abbrev pub comparison : BinOp → ℤ → ℤ → Bool
comparison Lt x y = int_lt x y
comparison Gt x y = int_lt y x
comparison Le x y = int_le x y
comparison Ge x y = int_le y x
comparison Eq x y = int_eq x y
comparison Ne x y = not (int_eq x y)
comparison _ x y = false

-- an operator on two numbers of the type whose values are `make z`: none where the divisor of `/` or `%` is zero
abbrev pub on_numbers : Width → (ℤ → Value) → BinOp → ℤ → ℤ → Option Value
on_numbers w make op x y = if is_comparison op then Some (Boolean (comparison op x y))
    else (if is_division op && int_eq y (pos 0) then Nothing else Some (make (arithmetic w op x y)))

-- ---- booleans and references

-- `& | ^ == !=` on two booleans (JLS 15.21.2, 15.22.2)
abbrev pub logic : BinOp → Bool → Bool → Bool
logic And p q = p && q
logic Or p q = p || q
logic Xor p q = if p then not q else q
logic Eq p q = if p then q else not q
logic Ne p q = if p then not q else q
logic _ p q = false

abbrev pub is_reference : Value → Bool
is_reference Null = true
is_reference (Object n) = true
is_reference (Text n) = true
is_reference (Fixed n) = true
is_reference _ = false

-- the two are one reference (JLS 15.21.3): a text that the run made is no constant text, whatever the units of the two
abbrev pub same_reference : Value → Value → Bool
same_reference Null Null = true
same_reference (Object m) (Object n) = m == n
same_reference (Text m) (Text n) = m == n
same_reference (Fixed m) (Fixed n) = m == n
same_reference a b = false

-- ---- the operators

-- the operands fit the operator: two ints or two longs fit each; the operands of a shift are int or long each by itself
abbrev pub fits_binary : BinOp → Value → Value → Bool
fits_binary op (Int x) (Int y) = true
fits_binary op (Long x) (Long y) = true
fits_binary op (Int x) (Long y) = is_shift op
fits_binary op (Long x) (Int y) = is_shift op
fits_binary op (Boolean p) (Boolean q) = is_logical op
fits_binary op a b = is_equality op && is_reference a && is_reference b

-- the value of `a op b`, of references in the last line, and none where the divisor of `/` or `%` is zero
abbrev pub binary_of : BinOp → Value → Value → Option Value
binary_of op (Int x) (Int y) = on_numbers w32 (λ z. Int z) op x y
binary_of op (Long x) (Long y) = on_numbers w64 (λ z. Long z) op x y
binary_of op (Int x) (Long y) = Some (Int (arithmetic w32 op x y))
binary_of op (Long x) (Int y) = Some (Long (arithmetic w64 op x y))
binary_of op (Boolean p) (Boolean q) = Some (Boolean (logic op p q))
binary_of op a b = Some (Boolean (logic op true (same_reference a b)))

-- the operand of `/` or `%` that is the divisor is zero
abbrev pub DividesByZero : BinOp → Value → Type 0
DividesByZero op (Int y) = (is_division op ≡ true) × (y ≡ pos 0)
DividesByZero op (Long y) = (is_division op ≡ true) × (y ≡ pos 0)
DividesByZero op _ = ⊥

-- the operand fits the operator: an int or a long for `+ - ~`, a boolean for `!`
abbrev pub fits_unary : UnOp → Value → Bool
fits_unary Not (Boolean p) = true
fits_unary Not _ = false
fits_unary op (Int x) = true
fits_unary op (Long x) = true
fits_unary op _ = false

-- `+ - ~` on a number of the signed type of that width (JLS 15.15.3 to 15.15.5): `~x` is -x - 1
abbrev pub signed : Width → UnOp → ℤ → ℤ
signed w Minus x = wrapped w (neg_ℤ x)
signed w Flip x = neg_ℤ x -ℤ pos 1
signed w _ x = x

-- the value of `op v`
abbrev pub unary_of : UnOp → Value → Value
unary_of op (Int x) = Int (signed w32 op x)
unary_of op (Long x) = Long (signed w64 op x)
unary_of op (Boolean p) = Boolean (not p)
unary_of op v = v
