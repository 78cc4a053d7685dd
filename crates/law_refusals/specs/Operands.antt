-- Which operands operators take, which casts are allowed, and which values a variable takes (JLS 5.2, 5.5, 15.15 to 15.26).
use Rattle.std.specs.Prelude.{◌≡◌, ℕ, zero, true, Some, slice_get}
use Rattle.wy_kernel.specs.declared.operator.Primitive.{Primitive}
use Rattle.wy_kernel.specs.declared.operator.Primitive.TheVariants as prim
use Rattle.wy_kernel.specs.declared.operator.UnOp.{UnOp}
use Rattle.wy_kernel.specs.declared.operator.UnOp.TheVariants.{Not}
use Rattle.wy_kernel.specs.declared.operator.BinOp.{BinOp}
use Rattle.wy_kernel.specs.declared.operator.BinOp.TheVariants.{Add}
use Rattle.wy_kernel.specs.declared.types.Base.TheVariants.{Primitive as Basic}
use Rattle.wy_kernel.specs.declared.types.Ty.{Ty}
use Rattle.wy_kernel.specs.declared.types.Ty.TheVariants.{Of}
use Rattle.wy_kernel.specs.Form.{Constant}
use Rattle.wy_kernel.specs.Program.{Class}
use Rattle.wy_kernel.specs.Subtyping.{Below, primitive_type, object_type}
use Rattle.wy_kernel.specs.Table.{Table, Simple}
use Rattle.wy_value.specs.Operator.{is_equality, is_logical}
use Rattle.wy_constant.specs.Constant.{value_of, constant_fits}
use Rattle.wy_elab_expr.specs.Meaning.{Meaning, Known, type_of, text_type}
use Rattle.wy_elab_expr.specs.Operators.{boolean_type}
use Rattle.wy_typing.specs.Types.{IsValueType, IsNullable, Joins}
use Rattle.wy_typing.specs.Types as types

-- ---- kinds of types

-- byte, short, char, int or long
abbrev pub IsNumber : Ty → Type 0
IsNumber (Of (Basic p) zero) = types.IsNumber p
IsNumber _ = ⊥

-- an index or a size: byte, short, char or int (JLS 10.4, 15.10.1)
abbrev pub IsIndex : Ty → Type 0
IsIndex ty = IsNumber ty × (ty ≡ primitive_type prim.Long → ⊥)

-- class c is an interface
abbrev pub IsInterface : Table → ℕ → Type 0
IsInterface t c = (k : Class) × (slice_get t.classes c ≡ Some k) × (k.is_interface ≡ true)

-- ---- casts (JLS 5.5)

-- a value of the first type may be cast to the second
pub data CastsTo (t : Table) : Ty → Ty → Type 0 where
  numbers : {a b : Ty} → IsNumber a → IsNumber b → CastsTo t a b
  booleans : CastsTo t boolean_type boolean_type
  references : {a b : Ty} → types.CastsTo t.classes a b → CastsTo t a b

-- ---- assignment (JLS 5.2)

-- a value that is found as m may be assigned to a variable of this type
pub data MayAssign (t : Table) : Ty → Meaning → Type 0 where
  by_type : {to : Ty} {m : Meaning} → Below t.classes (type_of m) to → MayAssign t to m
  -- a constant whose value fits, to byte, short or char
  by_value : {p : Primitive} {c : Constant} {token : ℕ} → constant_fits p (value_of c) ≡ true → MayAssign t (primitive_type p) (Known (Simple c) token)

-- ---- operators

-- `!` takes a boolean, and `+ - ~` a number (JLS 15.15)
pub data TakesOne : UnOp → Ty → Type 0 where
  number : {op : UnOp} {a : Ty} → (op ≡ Not → ⊥) → IsNumber a → TakesOne op a
  boolean : TakesOne Not boolean_type

-- each operator takes two numbers; some take booleans, references or texts too (JLS 15.17 to 15.22)
pub data Takes (t : Table) : BinOp → Ty → Ty → Type 0 where
  numbers : {op : BinOp} {a b : Ty} → IsNumber a → IsNumber b → Takes t op a b
  -- `& | ^ == !=`
  booleans : {op : BinOp} → is_logical op ≡ true → Takes t op boolean_type boolean_type
  -- `== !=`, where a cast between them is allowed
  references : {op : BinOp} {a b : Ty} → is_equality op ≡ true → IsNullable a → IsNullable b → CastsTo t a b → Takes t op a b
  -- `+` beside a text takes whatever has a value
  joined : {a b : Ty} → Joins a b → Takes t Add a b

-- the operator of a compound assignment takes a variable of the first type and a value of the second (JLS 15.26.2)
pub data TakesInto : BinOp → Ty → Ty → Type 0 where
  numbers : {op : BinOp} {a b : Ty} → IsNumber a → IsNumber b → TakesInto op a b
  booleans : {op : BinOp} → is_logical op ≡ true → TakesInto op boolean_type boolean_type
  -- `+=` to a text takes whatever has a value, and to an Object a text
  to_text : {b : Ty} → IsValueType b → TakesInto Add text_type b
  to_object : TakesInto Add object_type text_type

-- `?:` has a type where its last two operands have these (JLS 15.25)
pub data Chooses : Ty → Ty → Type 0 where
  numbers : {a b : Ty} → IsNumber a → IsNumber b → Chooses a b
  booleans : Chooses boolean_type boolean_type
  references : {a b : Ty} → IsNullable a → IsNullable b → Chooses a b
