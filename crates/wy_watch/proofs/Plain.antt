-- What an operator gives is no reference.
use Rattle.std.proofs.Common.{ℕ, Bool, true, false, Option, Some, None}
use Rattle.std.specs.Prelude.{IfSome, if◌then◌else◌}
use Rattle.std.specs.Int.{w32, w64}
use Rattle.wy_kernel.specs.declared.operator.BinOp.{BinOp}
use Rattle.wy_value.specs.declared.value.Value.{Value}
use Rattle.wy_value.specs.declared.value.Value.TheVariants.{Bool as Boolean, Int, Long}
use Rattle.wy_value.specs.Operator.{arithmetic, binary_of, comparison, is_comparison, is_shift, fits_binary}
use Rattle.wy_view.specs.References.{ValueBelow}
use Rattle.wy_constant.specs.Constant.{beside, binary_value, operated, promoted}

either : (n : ℕ) (b : Bool) (x y : Option Value) → IfSome x (ValueBelow n) → IfSome y (ValueBelow n) → IfSome (if b then x else y) (ValueBelow n)
either n true x y h i = h
either n false x y h i = i

binary_plain : (n : ℕ) (op : BinOp) (a b : Value) → IfSome (binary_of op a b) (ValueBelow n)
binary_plain n op (Int x) (Int y) = either n (is_comparison op) (Some (Boolean (comparison op x y))) _ tt (either n _ None (Some (Int (arithmetic w32 op x y))) tt tt)
binary_plain n op (Long x) (Long y) = either n (is_comparison op) (Some (Boolean (comparison op x y))) _ tt (either n _ None (Some (Long (arithmetic w64 op x y))) tt tt)
binary_plain n op (Int x) (Long y) = tt
binary_plain n op (Long x) (Int y) = tt
binary_plain n op (Boolean p) (Boolean q) = tt
binary_plain n op a b = tt

value_plain : (n : ℕ) (op : BinOp) (a b : Value) → IfSome (binary_value op a b) (ValueBelow n)
value_plain n op a b = either n (fits_binary op a b) (binary_of op a b) None (binary_plain n op a b) tt

pub operated_plain : (n : ℕ) (op : BinOp) (a b : Value) → IfSome (operated op a b) (ValueBelow n)
operated_plain n op a b =
    either n (is_shift op) (binary_value op (promoted a) (promoted b)) (binary_value op (beside b a) (beside a b)) (value_plain n op (promoted a) (promoted b)) (value_plain n op (beside b a) (beside a b))
